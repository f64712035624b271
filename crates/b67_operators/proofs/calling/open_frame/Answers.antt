use Rattle.std.proofs.Common.{◌≡◌, ◌∙◌, sym, ap, subst, ℕ, ◌+◌, ◌-◌, ◌≤◌, Ok, length, arith}
use Rattle.b67_word.specs.Word.{Word}
use Rattle.b67_control.specs.declared.Registers.{Registers}
use Rattle.b67_store.specs.Store.{words_of, with_word}
use Rattle.b67_table.specs.Chains.{place}
use Rattle.b67_table.specs.Linkage.{entered}
use Rattle.b67_table.specs.Program.{answer}
use Rattle.b67_linkage.proofs.Entered.{above_stays}
use Rattle.b67_reach.specs.Images.{own_of_image}
use Rattle.b67_reach.specs.Answers.{ProgramPerforms}
use Rattle.b67_operators.specs.Entries.{entry_opening}
use Rattle.b67_operators.proofs.Changing.{when_ok, there_below, opening_performs}
use Rattle.b67_operators.proofs.calling.open_frame.Goals as goal

pub unwrap-requires : goal.unwrap-requires
unwrap-requires g c =
    c.write.ensures.found
    ∙ there_below (g.C.Core.stacks c.args.core.now) c.args.regs.now.stack c.args.regs.now.f (omega (arith, c.requires.above, c.requires.linked.size))

pub unwrap-requires-2 : goal.unwrap-requires-2
unwrap-requires-2 g c =
    let st = g.C.Core.stacks c.args.core.now in
    let once = g.C.Core.stacks c.write.new.self in
    let r = c.args.regs.now in
    let high : r.f + 2 ≤ length (words_of st r.stack) = omega (arith, c.requires.above, c.requires.linked.size) in
    c.write-2.ensures.found
    ∙ above_stays st once r.stack r.f c.pack.result c.requires.linked.opened high
    (when_ok c.write.result c.unwrap.result once (with_word st (place r.stack r.f) c.pack.result) st c.unwrap.ensures c.write.ensures.stacks)

pub returns : goal.returns
returns g c =
    let st = g.C.Core.stacks c.args.core.now in
    let rows = g.C.Core.rows c.args.core.now in
    let r = c.args.regs.now in
    let next = c.args.next in
    let df = c.args.df in
    let pcw = c.args.pcw.now in
    let e = c.args.entry.now in
    let once = g.C.Core.stacks c.write.new.self in
    let twice = g.C.Core.stacks c.write-2.new.self in
    let more = g.C.Core.rows c.write-2.new.self in
    let mark = place r.stack r.f in
    let above = place r.stack (r.f + 1) in
    let q : entered r r.s r.f pcw e (r.s - (r.f + 2)) ≡ c.go_in.new.regs =
    ap (λ (f : ℕ). entered r r.s r.f pcw e (r.s - (f + 2))) (sym c.from.ensures) ∙ sym c.go_in.ensures in
    subst (λ (z : Registers). ProgramPerforms (answer (entry_opening r next df pcw e)) (own_of_image st rows r) (own_of_image twice more z) (Ok tt)) q
    (opening_performs r next df pcw e st once twice rows more c.requires.linked.room
    (when_ok c.write.result c.unwrap.result once (with_word st mark c.pack.result) st c.unwrap.ensures c.write.ensures.stacks
    ∙ ap (λ (w : Word). with_word st mark w) c.pack.ensures)
    (when_ok c.write-2.result c.unwrap-2.result twice (with_word once above c.control_word-control.result) once c.unwrap-2.ensures c.write-2.ensures.stacks
    ∙ ap (λ (w : Word). with_word once above w) c.control_word-control.ensures)
    (c.write-2.ensures.rows ∙ c.write.ensures.rows))
