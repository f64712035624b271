use Rattle.b67_words.specs.declared.Words.TheVariants.{Exec}
use Rattle.b67_desk.proofs.Answering.{input_out, too_long_is}
use Rattle.b67_desk.proofs.top.ask_code.Goals as goal

pub returns-in_ok-answer_exec-in-Some : goal.returns-in_ok-answer_exec-in-Some
returns-in_ok-answer_exec-in-Some g c = λ by.
    input_out (Exec c.args.budget) c.form_of.result.most _ _ c.in-Some.bytes.items c.as_slice.result.now c.as_slice.ensures.value c.form_of.ensures.most
    (rw c.in-Some.is at c.in_ok-bytes.ensures) by c.in_ok-answer_exec-in-Some.field-0.text.items c.in_ok-answer_exec-in-Some.field-0.status
    c.in_ok-answer_exec-in-Some.ensures

pub returns-in_ok-refuse_length-in-None : goal.returns-in_ok-refuse_length-in-None
returns-in_ok-refuse_length-in-None g c = λ by.
    too_long_is by (Exec c.args.budget) c.form_of.result.most _ _ c.in_ok-refuse_length-in-None.field-0 c.form_of.ensures.most
    (rw c.in-None.is at c.in_ok-bytes.ensures) c.in_ok-refuse_length-in-None.ensures
