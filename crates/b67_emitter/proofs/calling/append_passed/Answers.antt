use Rattle.std.proofs.Common.{sym, ◌∙◌}
use Rattle.std.proofs.lemmas.Result.{on_ok_weaker}
use Rattle.b67_emitter.proofs.Calls.{stuffed_array, loaded_array, stuffed_event, loaded_event}
use Rattle.b67_emitter.proofs.calling.append_passed.Goals as goal

pub returns-then-formal-clause-array : goal.returns-then-formal-clause-array
returns-then-formal-clause-array c =
    on_ok_weaker c.append_plain.result
    (λ h sc context shape x n is f agrees. loaded_array c.args.couple c.args.out.now c.append_reference.new.out c.append_plain.new.out
    c.in_ok-append_reference.ensures.level c.in_ok-append_reference.ensures.code sc context n shape x h is (sym c.if-formal.true ∙ f) agrees)
    c.append_plain.ensures.code

pub returns-else-formal-clause-array : goal.returns-else-formal-clause-array
returns-else-formal-clause-array c =
    on_ok_weaker c.append_plain-else-formal.result
    (λ h sc context shape x n is f agrees. stuffed_array c.args.couple c.args.out.now c.append_reference.new.out c.append_plain-else-formal.new.out
    c.in_ok-append_reference.ensures.level c.in_ok-append_reference.ensures.code sc context n shape x h is (sym c.if-formal.false ∙ f) agrees)
    c.append_plain-else-formal.ensures.code

pub returns-then-formal-clause-event : goal.returns-then-formal-clause-event
returns-then-formal-clause-event c =
    on_ok_weaker c.append_plain.result
    (λ h sc context n is f. loaded_event c.args.couple c.args.out.now c.append_reference.new.out c.append_plain.new.out c.in_ok-append_reference.ensures.level
    c.in_ok-append_reference.ensures.code sc context n h is (sym c.if-formal.true ∙ f))
    c.append_plain.ensures.code

pub returns-else-formal-clause-event : goal.returns-else-formal-clause-event
returns-else-formal-clause-event c =
    on_ok_weaker c.append_plain-else-formal.result
    (λ h sc context n is f. stuffed_event c.args.couple c.args.out.now c.append_reference.new.out c.append_plain-else-formal.new.out
    c.in_ok-append_reference.ensures.level c.in_ok-append_reference.ensures.code sc context n h is (sym c.if-formal.false ∙ f))
    c.append_plain-else-formal.ensures.code
