use Rattle.std.proofs.Common.{◌≡◌, sym, ap, ◌∙◌, ℕ, ◌+◌, ◌≤◌, length, arith}
use Rattle.b67_store.specs.Store.{words_of}
use Rattle.b67_linkage.specs.Held.{held}
use Rattle.b67_linkage.proofs.Entered.{no_entry, one_entry, above_stays}
use Rattle.b67_linkage.proofs.entries.enter.Goals as goal

pub returns-in-Err-entering-clause-answer : goal.returns-in-Err-entering-clause-answer
returns-in-Err-entering-clause-answer g c =
    no_entry (held (g.C.Core.stacks c.args.core.now) (g.C.Core.rows c.args.core.now) c.args.regs.now) c.args.pcw.now c.args.home c.cells_above-cells.result c.in-Ok.mark
    c.in-Err-entering.fault c.cells_above-cells.ensures c.in-Ok.ensures.value c.in-Err-entering.ensures.value

pub save_word-requires : goal.save_word-requires
save_word-requires g c =
    let high : c.args.regs.now.f + 2 ≤ length (words_of (g.C.Core.stacks c.args.core.now) c.args.regs.now.stack) =
    omega (arith, c.in-Ok.ensures.above, c.requires.linked.size) in
    above_stays (g.C.Core.stacks c.args.core.now) (g.C.Core.stacks c.save_mark.new.core) c.args.regs.now.stack c.args.regs.now.f _ c.requires.linked.opened high
    c.save_mark.ensures.stacks

pub returns-clause-answer : goal.returns-clause-answer
returns-clause-answer g c =
    one_entry (held (g.C.Core.stacks c.args.core.now) (g.C.Core.rows c.args.core.now) c.args.regs.now) c.args.pcw.now c.args.home c.cells_above-cells.result c.in-Ok.mark
    c.in-Ok-entering.entry (g.C.Core.stacks c.save_mark.new.core) (g.C.Core.stacks c.save_word.new.core) (g.C.Core.rows c.save_word.new.core) c.control_word.result
    c.go_in.new.regs c.requires.linked.room c.cells_above-cells.ensures c.in-Ok.ensures.value c.in-Ok-entering.ensures.value c.in-Ok-entering.ensures.home
    c.save_mark.ensures.stacks c.control_word.ensures c.save_word.ensures.stacks (c.save_word.ensures.rows ∙ c.save_mark.ensures.rows) c.go_in.ensures
