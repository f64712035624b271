use Rattle.std.proofs.Common.{sym, ◌∙◌, ap}
use Rattle.b67_store.specs.Store.{Stacks}
use Rattle.b67_table.specs.Look.{look_seen}
use Rattle.b67_reach.specs.Answers.{looked}
use Rattle.b67_intrinsics.specs.Called.{arguments, only, mark_below}
use Rattle.b67_intrinsics.proofs.Telling.{no_event, no_lower, event_found}
use Rattle.b67_intrinsics.proofs.finding.find_event.Goals as goal

pub returns-in_err-cell-clause-leads : goal.returns-in_err-cell-clause-leads
returns-in_err-cell-clause-leads g c = λ img s e.
    no_event img c.args.regs.now c.args.mark.now c.in_ok-word.word
    (c.in_ok-word.ensures ∙ ap (λ (st : Stacks). only (arguments st c.args.regs.now)) (sym s))
    c.from_residual-in_err-cell.result c.in_err-cell.field-0.0 (c.in_err-cell.ensures.told img s e) c.from_residual-in_err-cell.ensures.1

pub returns-in_err-chained-clause-leads : goal.returns-in_err-chained-clause-leads
returns-in_err-chained-clause-leads g c = λ img s e.
    no_lower img c.args.regs.now c.args.mark.now c.in_ok-word.word
    (c.in_ok-word.ensures ∙ ap (λ (st : Stacks). only (arguments st c.args.regs.now)) (sym s))
    c.in_ok-cell.cell (c.in_ok-cell.ensures.told img s e) c.from_residual-in_err-chained.result c.in_err-chained.field-0.0
    (c.in_err-chained.ensures.value ∙ ap (λ (st : Stacks). looked (look_seen st (mark_below c.args.regs.now c.args.mark.now))) (sym s)) c.from_residual-in_err-chained.ensures.1

pub returns-clause-leads : goal.returns-clause-leads
returns-clause-leads g c = λ img s e next.
    event_found img c.args.regs.now c.args.mark.now c.in_ok-word.word
    (c.in_ok-word.ensures ∙ ap (λ (st : Stacks). only (arguments st c.args.regs.now)) (sym s))
    c.in_ok-cell.cell (c.in_ok-cell.ensures.told img s e) c.in_ok-chained.field-0
    (c.in_ok-chained.ensures.value ∙ ap (λ (st : Stacks). looked (look_seen st (mark_below c.args.regs.now c.args.mark.now))) (sym s)) next
