use Rattle.std.proofs.Common.{◌≡◌, sym, ap, ◌∙◌, ℕ, ◌+◌, ◌-◌, ◌<◌, Bool, true, false, Result, Ok, Err, is_ok, arith}
use Rattle.b67_store.specs.Store.{Stacks, Rows, words_of}
use Rattle.b67_table.specs.declared.InterruptKind.{InterruptKind}
use Rattle.b67_table.specs.declared.InterruptKind.TheVariants.{BrokenChain}
use Rattle.b67_table.specs.Look.{look_seen, found, ◌>->◌}
use Rattle.b67_table.specs.Chains.{place, left_to}
use Rattle.b67_table.specs.GoingTo.{Passing, passing}
use Rattle.b67_table.specs.GoingTo as going
use Rattle.b67_display.specs.Found.{chain_shown}
use Rattle.b67_linkage.specs.Closing.{without_frames, without_arrays, cells_in_frame}
use Rattle.b67_linkage.specs.Leaving.{target_cells}
use Rattle.b67_linkage.proofs.Passed.{steps_down, stops_there, frame_with}
use Rattle.b67_linkage.proofs.cuts.close_frames.Goals as goal

pub returns-in-Err-clause-rows : goal.returns-in-Err-clause-rows
returns-in-Err-clause-rows g c =
    let st = g.C.Core.stacks c.args.core.now in
    let f = place c.args.from.stack c.down.at in
    let none : look_seen st (left_to f) ≡ Err BrokenChain =
    ap (λ (z : Stacks). look_seen z (left_to f)) (sym c.down.invariant.stacks) ∙ sym c.left_to.ensures.value ∙ ap chain_shown c.in-Err.is in
    let stopped : look_seen st (target_cells c.args.from c.args.cells c.args.target) ≡ Err BrokenChain =
    c.down.invariant.met
    ∙ stops_there st c.args.from.stack c.args.target c.down.at c.down.count (λ (p : Passing). p.cells) c.down.steps BrokenChain c.down-test.true c.if-at-target.false none in
    let no : false ≡ true = sym (ap is_ok stopped) ∙ c.requires.met in
    absurd cc

pub down-preserved : goal.down-preserved
down-preserved g c =
    let st = g.C.Core.stacks c.args.core.now in
    let f = place c.args.from.stack c.down.at in
    let words = words_of st c.args.from.stack in
    let n = c.down.steps - 1 in
    let b = c.in-Ok.below in
    let below : look_seen st (left_to f) ≡ Ok b =
    ap (λ (z : Stacks). look_seen z (left_to f)) (sym c.down.invariant.stacks) ∙ sym c.left_to.ensures.value ∙ ap chain_shown c.in-Ok.is in
    let rows_are : without_arrays (cells_in_frame words c.down.at c.down.count) (g.C.Core.rows c.down.core) ≡ g.C.Core.rows c.close_arrays.new.core =
    ap (λ (z : Stacks). without_arrays (cells_in_frame (words_of z c.args.from.stack) c.down.at c.down.count) (g.C.Core.rows c.down.core)) (sym c.down.invariant.stacks)
    ∙ sym c.close_arrays.ensures.rows in
    record {
      stacks = c.close_arrays.ensures.stacks ∙ c.down.invariant.stacks;
      short = c.close_arrays.ensures.short;
      within = omega (arith, c.in-Ok.ensures.apart, c.down.invariant.within);
      met = c.down.invariant.met
          ∙ steps_down st c.args.from.stack c.args.target c.down.at c.down.count (λ (p : Passing). p.cells) c.down.steps b c.down-test.true c.if-at-target.false below;
      rest = c.down.invariant.rest
          ∙ steps_down st c.args.from.stack c.args.target c.down.at c.down.count (λ (p : Passing). without_frames words p.frames (g.C.Core.rows c.down.core)) c.down.steps b
          c.down-test.true c.if-at-target.false below
          ∙ ap (λ (z : Rows). look_seen st (passing n c.args.from.stack c.args.target (frame_with b.frame b.control.caller_cells) >-> (λ (p : Passing). found (without_frames words p.frames z)))) rows_are;
    }
