use Rattle.std.proofs.Common.{sym, ◌∙◌}
use Rattle.std.proofs.lemmas.Result.{err_from_is_err_and}
use Rattle.b67_asm.specs.Labels.{found_in}
use Rattle.b67_asm.proofs.Levels.{level_at}
use Rattle.b67_asm.proofs.Segments.{along_begins, along_ends, along_more, along_refused, at_end, at_segment}
use Rattle.b67_asm.proofs.segment.take_lines.Goals as goal

pub lines-init : goal.lines-init
lines-init c = along_begins (found_in c.args.labels.now) c.args.lines.now c.args.from c.args.builder.now c.requires.from c.requires.level c.requires.none

pub take_line-requires-clause-level : goal.take_line-requires-clause-level
take_line-requires-clause-level c = c.lines.invariant.known

pub take_line-requires-clause-block : goal.take_line-requires-clause-block
take_line-requires-clause-block c = c.lines.invariant.block

pub take_line-requires-clause-room : goal.take_line-requires-clause-room
take_line-requires-clause-room c = c.lines.invariant.room

pub take_line-requires-clause-inside : goal.take_line-requires-clause-inside
take_line-requires-clause-inside c = sym c.is_segment.ensures ∙ c.if-is_segment.false

pub take_line-requires-clause-known : goal.take_line-requires-clause-known
take_line-requires-clause-known c = level_at c.args.lines.now c.lines.next c.index-lines-next.result c.requires.levels c.lines-test.true c.index-lines-next.is

pub returns-then-is_segment-clause-taken : goal.returns-then-is_segment-clause-taken
returns-then-is_segment-clause-taken c =
    along_ends (found_in c.args.labels.now) c.args.lines.now c.args.from c.lines.level c.lines.builder c.lines.next c.lines.invariant
    (at_segment c.args.lines.now c.lines.next c.index-lines-next.result c.lines-test.true c.index-lines-next.is (sym c.is_segment.ensures ∙ c.if-is_segment.true))

pub returns-in_err-level-clause-refused : goal.returns-in_err-level-clause-refused
returns-in_err-level-clause-refused c =
    let p = err_from_is_err_and c.from_residual.result c.from_residual.ensures.1 in
    rw (p.1, p.2)
    (along_refused (found_in c.args.labels.now) c.args.lines.now c.args.from c.lines.level c.lines.builder c.lines.next c.lines.invariant c.in_err-level.field-0.0
    c.index-lines-next.result c.lines-test.true c.index-lines-next.is c.in_err-level.ensures.refused)

pub lines-preserved : goal.lines-preserved
lines-preserved c =
    along_more (found_in c.args.labels.now) c.args.lines.now c.args.from c.lines.level c.lines.builder c.lines.next c.lines.invariant c.index-lines-next.result c.take_line.new.builder _
    c.lines-test.true c.index-lines-next.is (sym c.is_segment.ensures ∙ c.if-is_segment.false) c.in_ok-level.ensures.taken

pub returns-clause-taken : goal.returns-clause-taken
returns-clause-taken c =
    along_ends (found_in c.args.labels.now) c.args.lines.now c.args.from c.lines.level c.lines.builder c.lines.next c.lines.invariant
    (at_end c.args.lines.now c.lines.next c.lines-test.false)
