use Rattle.std.proofs.Common.{◌∙◌, ap, ℕ, List, ◌++◌, length, take}
use Rattle.std.specs.Prelude.{codes}
use Rattle.std.specs.List.{flat_map, enumerate_from}
use Rattle.std.specs.Fmt.{decimal}
use Rattle.b67_word.specs.Word.{Word}
use Rattle.b67_report.specs.Texts.{line_text}
use Rattle.b67_stack_text.specs.Lines.{word_text}
use Rattle.b67_stack_text.proofs.Enumerating.{text_more}
use Rattle.b67_stack_text.proofs.lines.push_stack.Goals as goal

pub words-preserved : goal.words-preserved
words-preserved c =
    let d : Word = c.index-words-at.result in
    let head = c.args.text.now.items ++ line_text (codes "STACK " ++ decimal c.args.process ++ codes " " ++ decimal (length c.args.words.now)) in
    c.in_ok-push_word.ensures
    ∙ ap (λ (xs : List ℕ). xs ++ word_text (c.words.at, d)) c.words.invariant
    ∙ ap (λ (w : Word). (head ++ flat_map word_text (enumerate_from 0 (take c.words.at c.args.words.now))) ++ word_text (c.words.at, w)) c.index-words-at.is
    ∙ text_more word_text head c.args.words.now c.words.at d c.words-test.true
