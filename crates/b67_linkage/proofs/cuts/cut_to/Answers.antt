use Rattle.std.proofs.Common.{◌≡◌, sym, ap, ◌∙◌, ℕ, ◌+◌, ◌≤◌, List, Option, Result, Ok, Err, arith}
use Rattle.b67_word.specs.declared.Place.{Place}
use Rattle.b67_control.specs.declared.Registers.{Registers}
use Rattle.b67_store.specs.Store.{Stacks, Rows, words_of, with_cut, stack_limit}
use Rattle.b67_table.specs.declared.InterruptKind.{InterruptKind}
use Rattle.b67_table.specs.declared.InterruptKind.TheVariants.{BrokenChain}
use Rattle.b67_table.specs.Outcome.{gives}
use Rattle.b67_table.specs.Look.{look_seen}
use Rattle.b67_table.specs.Chains.{place, rebuilt}
use Rattle.b67_table.specs.Private.{display_at, at_or}
use Rattle.b67_display.specs.Found.{chain_shown}
use Rattle.b67_linkage.specs.Held.{held}
use Rattle.b67_linkage.specs.Leaving.{target_cells, target_rows, own_frame, frame_at}
use Rattle.b67_linkage.proofs.Cutting.{no_way, no_shape, is_cut, down_with}
use Rattle.b67_linkage.proofs.cuts.cut_to.Goals as goal

pub returns-in-Err-clause-answer : goal.returns-in-Err-clause-answer
returns-in-Err-clause-answer g c =
    let st = g.C.Core.stacks c.args.core.now in
    let r = c.args.regs.now in
    let way : look_seen st (target_cells (own_frame r) r.cells (at_or (display_at r c.args.level))) ≡ Err BrokenChain =
    ap (λ (a : ℕ). look_seen st (target_cells (place r.stack a) r.cells (at_or (display_at r c.args.level)))) (sym c.frame_of.ensures)
    ∙ ap (λ (t : ℕ). look_seen st (target_cells (place r.stack c.frame_of.result) r.cells t)) (sym c.place_of.ensures)
    ∙ sym c.target_cells.ensures.value ∙ ap chain_shown c.in-Err.is in
    no_way (held st (g.C.Core.rows c.args.core.now) r) c.args.level BrokenChain way

pub returns-in-Err-rebuild-clause-answer : goal.returns-in-Err-rebuild-clause-answer
returns-in-Err-rebuild-clause-answer g c =
    let st = g.C.Core.stacks c.args.core.now in
    let r = c.args.regs.now in
    let way : look_seen st (target_cells (own_frame r) r.cells (at_or (display_at r c.args.level))) ≡ Ok c.in-Ok.cells =
    ap (λ (a : ℕ). look_seen st (target_cells (place r.stack a) r.cells (at_or (display_at r c.args.level)))) (sym c.frame_of.ensures)
    ∙ ap (λ (t : ℕ). look_seen st (target_cells (place r.stack c.frame_of.result) r.cells t)) (sym c.place_of.ensures)
    ∙ sym c.target_cells.ensures.value ∙ ap chain_shown c.in-Ok.is in
    let shape : look_seen st (rebuilt (frame_at r c.args.level) c.args.level) ≡ Err BrokenChain =
    ap (λ (t : ℕ). look_seen st (rebuilt (place r.stack t) c.args.level)) (sym c.place_of.ensures) ∙ sym c.rebuild.ensures ∙ ap chain_shown c.in-Err-rebuild.is in
    no_shape (held st (g.C.Core.rows c.args.core.now) r) c.args.level c.in-Ok.cells BrokenChain way shape

pub returns-clause-answer : goal.returns-clause-answer
returns-clause-answer g c =
    let st = g.C.Core.stacks c.args.core.now in
    let rows = g.C.Core.rows c.args.core.now in
    let r = c.args.regs.now in
    let target = at_or (display_at r c.args.level) in
    let n = c.in-Ok.cells in
    let way : look_seen st (target_cells (own_frame r) r.cells target) ≡ Ok n =
    ap (λ (a : ℕ). look_seen st (target_cells (place r.stack a) r.cells target)) (sym c.frame_of.ensures)
    ∙ ap (λ (t : ℕ). look_seen st (target_cells (place r.stack c.frame_of.result) r.cells t)) (sym c.place_of.ensures)
    ∙ sym c.target_cells.ensures.value ∙ ap chain_shown c.in-Ok.is in
    let shape : look_seen st (rebuilt (frame_at r c.args.level) c.args.level) ≡ Ok c.in-Ok-rebuild.display =
    ap (λ (t : ℕ). look_seen st (rebuilt (place r.stack t) c.args.level)) (sym c.place_of.ensures) ∙ sym c.rebuild.ensures ∙ ap chain_shown c.in-Ok-rebuild.is in
    let left : look_seen st (target_rows (words_of st r.stack) rows (own_frame r) r.cells target) ≡ Ok (g.C.Core.rows c.close_frames.new.core) =
    ap (λ (a : ℕ). look_seen st (target_rows (words_of st r.stack) rows (place r.stack a) r.cells target)) (sym c.frame_of.ensures)
    ∙ ap (λ (t : ℕ). look_seen st (target_rows (words_of st r.stack) rows (place r.stack c.frame_of.result) r.cells t)) (sym c.place_of.ensures)
    ∙ c.close_frames.ensures.rows in
    let s_is : c.from.result + 2 + c.from-2.result ≡ target + 2 + n = omega (arith, c.from.ensures, c.from-2.ensures, c.place_of.ensures) in
    let low : target + 2 + n ≤ stack_limit =
    omega (arith, c.in-Ok.ensures.within, c.place_of.ensures, c.frame_of.ensures, c.requires.linked.above, c.requires.linked.room) in
    let stacks_are : with_cut st r.stack (target + 2 + n) ≡ g.C.Core.stacks c.cut_words.new.core =
    ap (λ (k : ℕ). with_cut st r.stack k) (sym s_is) ∙ ap (λ (z : Stacks). with_cut z r.stack (c.from.result + 2 + c.from-2.result)) (sym c.close_frames.ensures.stacks)
    ∙ sym c.cut_words.ensures.stacks in
    is_cut (held st rows r) c.args.level n c.in-Ok-rebuild.display (g.C.Core.rows c.close_frames.new.core) way shape left low
    ∙ ap (λ (z : Stacks). gives (held z (g.C.Core.rows c.close_frames.new.core) (down_with r c.args.level n c.in-Ok-rebuild.display (target + 2 + n) target))) stacks_are
    ∙ ap (λ (z : Rows). gives (held (g.C.Core.stacks c.cut_words.new.core) z (down_with r c.args.level n c.in-Ok-rebuild.display (target + 2 + n) target)))
    (sym c.cut_words.ensures.rows)
    ∙ ap (λ (k : ℕ). gives (held (g.C.Core.stacks c.cut_words.new.core) (g.C.Core.rows c.cut_words.new.core) (down_with r c.args.level n c.in-Ok-rebuild.display k target)))
    (sym s_is)
    ∙ ap (λ (k : ℕ). gives (held (g.C.Core.stacks c.cut_words.new.core) (g.C.Core.rows c.cut_words.new.core) (down_with r c.args.level n c.in-Ok-rebuild.display (c.from.result + 2 + c.from-2.result) k)))
    (sym c.place_of.ensures)
