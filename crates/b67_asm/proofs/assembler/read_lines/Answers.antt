use Rattle.std.proofs.Common.{sym, ◌+◌, drop, ◌∙◌}
use Rattle.std.proofs.lemmas.Result.{err_from_is_err_and, IfErr-weaker, IfOk-weaker}
use Rattle.std.specs.declared.vec.Vec.{Vec}
use Rattle.std.specs.declared.alloc.Global.{Global}
use Rattle.b67_segment.specs.declared.code.Segment.{Segment as Made}
use Rattle.b67_asm.specs.declared.refusal.NotAssembled.{NotAssembled}
use Rattle.b67_asm.specs.Rules.{first_broken, first_in, nowhere}
use Rattle.b67_asm.specs.Assembling.{IsFirst}
use Rattle.b67_asm.specs.Steps.{HasAll, HasRest}
use Rattle.b67_asm.proofs.Whole.{has_all, head_refused, lacks, rest_refused}
use Rattle.b67_asm.proofs.assembler.read_lines.Goals as goal

pub returns-then-not-has_segment-clause-refused : goal.returns-then-not-has_segment-clause-refused
returns-then-not-has_segment-clause-refused c = rw c.first_line.ensures (lacks c.args.lines.now (sym c.has_segment.ensures ∙ c.if-not-has_segment.true))

pub returns-in_err-from-clause-refused : goal.returns-in_err-from-clause-refused
returns-in_err-from-clause-refused c =
    let p = err_from_is_err_and c.from_residual.result c.from_residual.ensures.1 in
    rw (p.1, p.2) (head_refused c.args.lines.now (sym c.has_segment.ensures ∙ c.if-not-has_segment.false) c.in_err-from.field-0.0 c.in_err-from.ensures.refused)

pub read_segments-requires-clause-from : goal.read_segments-requires-clause-from
read_segments-requires-clause-from c = c.in_ok-from.ensures.passed.within

pub read_segments-requires-clause-begins : goal.read_segments-requires-clause-begins
read_segments-requires-clause-begins c = c.in_ok-from.ensures.passed.stops

pub returns-clause-read : goal.returns-clause-read
returns-clause-read c =
    let lines = c.args.lines.now in
    let at = c.in_ok-from.from in
    IfOk-weaker c.read_segments.result (λ (segments : Vec Made Global). HasRest lines at segments.items) (λ (segments : Vec Made Global). HasAll lines segments.items)
    (λ segments rest. has_all lines (sym c.has_segment.ensures ∙ c.if-not-has_segment.false) at segments.items c.in_ok-from.ensures.passed rest)
    c.read_segments.ensures.read

pub returns-clause-refused : goal.returns-clause-refused
returns-clause-refused c =
    let lines = c.args.lines.now in
    let at = c.in_ok-from.from in
    IfErr-weaker c.read_segments.result (λ (e : NotAssembled). IsFirst e (first_in nowhere (at + 1) (drop at lines))) (λ (e : NotAssembled). IsFirst e (first_broken lines))
    (λ e first. rest_refused lines (sym c.has_segment.ensures ∙ c.if-not-has_segment.false) at e c.in_ok-from.ensures.passed first) c.read_segments.ensures.refused
