use Rattle.std.proofs.Common.{None, refl, ◌∙◌}
use Rattle.algol_tree.specs.Image.{program as plain}
use Rattle.b67_words.specs.declared.Words.TheVariants.{Trial}
use Rattle.b67_make.specs.Made.{made}
use Rattle.b67_desk.specs.Answers.{AnswersBytes}
use Rattle.b67_desk.proofs.Answering.{settled_asks, trial_out, none_out}
use Rattle.b67_desk.proofs.top.ask_trial.Goals as goal

pub returns-in-Accepted : goal.returns-in-Accepted
returns-in-Accepted c =
    settled_asks (λ by. AnswersBytes by (Trial c.args.n) (made c.args.n)) c.answer_trial.result c.settled.result c.settled.ensures
    (λ by. trial_out by c.args.n c.as_slice-source.result.now (plain c.in-Accepted.checked.program) c.answer_trial.result
    (c.as_slice-source.ensures.value ∙ c.in_ok-bytes.ensures) (rw c.in-Accepted.is at c.in_ok-checked.ensures)
    c.answer_trial.ensures)

pub returns : goal.returns
returns c = λ by.
    none_out by (Trial c.args.n) (made c.args.n) c.as_slice-source.result.now None (c.as_slice-source.ensures.value ∙ c.in_ok-bytes.ensures, refl) c.in-Refused.answer
    (rw c.in-Refused.is at c.in_ok-checked.ensures)
