use Rattle.std.proofs.Common.{sym, ap, ◌∙◌}
use Rattle.std.proofs.lemmas.Result.{err_from_is_err_and}
use Rattle.std.proofs.lemmas.List.{take_rest}
use Rattle.b67_segment.specs.Building.{Built}
use Rattle.b67_asm.specs.Labels.{found_in}
use Rattle.b67_asm.specs.Rules.{is_empty}
use Rattle.b67_asm.proofs.Segments.{empty_refused, has_read, refused_from}
use Rattle.b67_asm.proofs.segment.read_segment.Goals as goal

pub returns-then-is_empty-clause-refused : goal.returns-then-is_empty-clause-refused
returns-then-is_empty-clause-refused c =
    rw c.refused.ensures (empty_refused c.args.lines.now c.args.from (ap is_empty (sym (take_rest c.args.lines.now c.args.from)) ∙ sym c.is_empty.ensures ∙ c.if-is_empty.true))

pub take_lines-requires-clause-level : goal.take_lines-requires-clause-level
take_lines-requires-clause-level c = ap (λ (b : Built). b.level) c.in_ok-level.ensures.ok

pub take_lines-requires-clause-none : goal.take_lines-requires-clause-none
take_lines-requires-clause-none c = ap (λ (b : Built). b.operators) c.in_ok-level.ensures.ok ∙ ap (λ (b : Built). b.operators) c.new-builder.ensures

pub returns-in_err-next-clause-refused : goal.returns-in_err-next-clause-refused
returns-in_err-next-clause-refused c =
    let p = err_from_is_err_and c.from_residual-in_err-next.result c.from_residual-in_err-next.ensures.1 in
    rw (p.1, p.2)
    (refused_from c.args.lines.now c.args.from (found_in c.in_ok-labels.labels) c.in_err-next.field-0.0 c.in_ok-labels.ensures (ap is_empty (sym (take_rest c.args.lines.now c.args.from)) ∙ sym c.is_empty.ensures ∙ c.if-is_empty.false)
    c.in_err-next.ensures.refused)

pub returns-clause-read : goal.returns-clause-read
returns-clause-read c =
    has_read c.args.lines.now c.args.from (found_in c.in_ok-labels.labels) c.take_lines.new.builder c.in_ok-next.next c.in_ok-segment.segment c.in_ok-labels.ensures
    (ap is_empty (sym (take_rest c.args.lines.now c.args.from)) ∙ sym c.is_empty.ensures ∙ c.if-is_empty.false) c.in_ok-next.ensures.taken c.in_ok-segment.ensures
