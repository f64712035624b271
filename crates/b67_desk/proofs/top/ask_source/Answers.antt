use Rattle.std.proofs.Common.{ℕ, ◌≤◌, List, length, sym, subst}
use Rattle.b67_words.specs.declared.Words.TheVariants.{OnSource}
use Rattle.b67_desk.specs.Answers.{AnswersInput, AnswersSource, most_bytes}
use Rattle.b67_desk.proofs.Answering.{asks_so, input_out, too_long_is}
use Rattle.b67_desk.proofs.top.ask_source.Goals as goal

pub returns-in_ok-ask_bytes-in-Some : goal.returns-in_ok-ask_bytes-in-Some
returns-in_ok-ask_bytes-in-Some g c =
    asks_so (λ by. AnswersInput by (OnSource c.args.task) c.as_slice.result.now) (λ by. AnswersSource by (OnSource c.args.task) _ _)
    (input_out (OnSource c.args.task) c.form_of.result.most _ _ c.in-Some.bytes.items c.as_slice.result.now c.as_slice.ensures.value c.form_of.ensures.most
    (rw c.in-Some.is at c.in_ok-bytes.ensures)) c.in_ok-ask_bytes-in-Some.field-0 c.in_ok-ask_bytes-in-Some.ensures

pub returns-in_ok-refuse_length-in-None : goal.returns-in_ok-refuse_length-in-None
returns-in_ok-refuse_length-in-None g c = λ by.
    too_long_is by (OnSource c.args.task) c.form_of.result.most _ _ c.in_ok-refuse_length-in-None.field-0 c.form_of.ensures.most
    (rw c.in-None.is at c.in_ok-bytes.ensures) c.in_ok-refuse_length-in-None.ensures

pub ask_bytes-requires-clause-few : goal.ask_bytes-requires-clause-few
ask_bytes-requires-clause-few g c =
    let few = (rw c.in-Some.is at c.in_ok-bytes.ensures).0 in
    subst (λ (bytes : List ℕ). length bytes ≤ most_bytes (OnSource c.args.task)) (sym c.as_slice.ensures.value)
    (subst (λ (n : ℕ). length c.in-Some.bytes.items ≤ n) c.form_of.ensures.most few)
