use Rattle.std.proofs.Common.{ℕ, Option, List, subst}
use Rattle.std.specs.Prelude.{option_copied, length}
use Rattle.algol_tree.specs.Image.{program as plain}
use Rattle.b67_words.specs.declared.Words.{Words}
use Rattle.b67_words.specs.declared.Words.TheVariants.{OnSource}
use Rattle.b67_desk.specs.Answers.{AnswersBytes, AnswersTree, DividedBy, IsDivided}
use Rattle.b67_desk.proofs.Answering.{asks_out, tree_out, none_out}
use Rattle.b67_desk.proofs.Judged.{short_beside}
use Rattle.b67_desk.proofs.top.ask_bytes.Goals as goal

pub returns-in-Accepted : goal.returns-in-Accepted
returns-in-Accepted c =
    let command : Words = OnSource c.args.task in
    let bytes = c.args.bytes.now in
    let source = c.divide.result.0.now in
    let beside = option_copied c.divide.result.1 in
    let tree = plain c.in-Accepted.checked.program in
    let parts : IsDivided command bytes source beside = subst (λ (m : Option (List ℕ)). DividedBy m bytes source beside) c.form_of.ensures.mark c.divide.ensures in
    asks_out (λ by. AnswersTree by command beside (length bytes) tree) (λ by. AnswersBytes by command bytes)
    (tree_out command bytes source beside tree parts (rw c.in-Accepted.is at c.in_ok-checked.ensures)) c.ask_tree.result c.ask_tree.ensures

pub returns-in-Refused : goal.returns-in-Refused
returns-in-Refused c = λ by.
    let command : Words = OnSource c.args.task in
    let bytes = c.args.bytes.now in
    let source = c.divide.result.0.now in
    let beside = option_copied c.divide.result.1 in
    let parts : IsDivided command bytes source beside = subst (λ (m : Option (List ℕ)). DividedBy m bytes source beside) c.form_of.ensures.mark c.divide.ensures in
    none_out by command bytes source beside parts c.in-Refused.answer (rw c.in-Refused.is at c.in_ok-checked.ensures)

pub ask_tree-requires-clause-short : goal.ask_tree-requires-clause-short
ask_tree-requires-clause-short c =
    let command : Words = OnSource c.args.task in
    let bytes = c.args.bytes.now in
    let source = c.divide.result.0.now in
    let beside = option_copied c.divide.result.1 in
    short_beside command bytes source beside c.requires.few
    (subst (λ (m : Option (List ℕ)). DividedBy m bytes source beside) c.form_of.ensures.mark c.divide.ensures)
