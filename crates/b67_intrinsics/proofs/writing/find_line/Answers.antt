use Rattle.std.proofs.Common.{◌≡◌, ◌∙◌, ap, subst, sym, Err, Some}
use Rattle.b67_store.specs.Store.{Stacks}
use Rattle.b67_table.specs.Look.{look_seen}
use Rattle.b67_table.specs.Arguments.{wholes_in}
use Rattle.b67_reach.specs.Answers.{looked}
use Rattle.b67_intrinsics.specs.Called.{arguments, mark_below}
use Rattle.b67_intrinsics.specs.Lines.{LineGiven, line_in, line_tests}
use Rattle.b67_intrinsics.proofs.LineTests.{line_exit, may_exit, line_unchained, line_chained}
use Rattle.b67_intrinsics.proofs.writing.find_line.Goals as goal

pub returns-in_err-line-clause-leads : goal.returns-in_err-line-clause-leads
returns-in_err-line-clause-leads g c = λ img s.
    line_exit img c.args.code.now c.args.regs.now c.args.mark.now (arguments img.stacks c.args.regs.now) c.from_residual.result c.in_err-line.field-0.0
    (subst (λ (st : Stacks). LineGiven c.args.code.now (arguments st c.args.regs.now) (Err c.in_err-line.field-0.0)) (sym s) c.in_err-line.ensures)
    c.from_residual.ensures.1

pub returns-in_err-chained-clause-leads : goal.returns-in_err-chained-clause-leads
returns-in_err-chained-clause-leads g c = λ img s.
    let words = arguments img.stacks c.args.regs.now in
    let given : line_in c.args.code.now (wholes_in words) ≡ Some c.in_ok-line.line =
    ap (λ (st : Stacks). line_in c.args.code.now (wholes_in (arguments st c.args.regs.now))) s ∙ c.in_ok-line.ensures in
    may_exit img (line_tests c.args.code.now c.args.regs.now c.args.mark.now words) c.from_residual-in_err-chained.result c.in_err-chained.field-0.0 c.from_residual-in_err-chained.ensures.1
    (line_unchained img c.args.code.now c.args.regs.now c.args.mark.now words c.in_ok-line.line given c.in_err-chained.field-0.0
    (c.in_err-chained.ensures.value ∙ ap (λ (st : Stacks). looked (look_seen st (mark_below c.args.regs.now c.args.mark.now))) (sym s)))

pub returns-clause-leads : goal.returns-clause-leads
returns-clause-leads g c = λ img s.
    let words = arguments img.stacks c.args.regs.now in
    let given : line_in c.args.code.now (wholes_in words) ≡ Some c.in_ok-line.line =
    ap (λ (st : Stacks). line_in c.args.code.now (wholes_in (arguments st c.args.regs.now))) s ∙ c.in_ok-line.ensures in
    line_chained img c.args.code.now c.args.regs.now c.args.mark.now words c.in_ok-line.line given c.in_ok-chained.field-0
    (c.in_ok-chained.ensures.value ∙ ap (λ (st : Stacks). looked (look_seen st (mark_below c.args.regs.now c.args.mark.now))) (sym s))
