use Rattle.std.proofs.Common.{◌∙◌, subst, sym, ap}
use Rattle.algol_tree.specs.declared.tree.PhraseText.{PhraseText}
use Rattle.b67_segment.specs.declared.code.Phrase.TheVariants as parts
use Rattle.b67_templates.specs.Code.{IsCodePart, text, word, word_part}
use Rattle.b67_emit_stmt.proofs.line.phrase_of.Goals as goal

pub returns-in_ok-from_slice-in-Text : goal.returns-in_ok-from_slice-in-Text
returns-in_ok-from_slice-in-Text c =
    let T : PhraseText → Type 0 = λ t. IsCodePart t (parts.Text c.of.result) in
    subst T (sym c.in-Text.is) (rw (c.of.ensures ∙ c.in_ok-from_slice-in-Text.ensures.items ∙ c.bytes.ensures) (text c.in-Text.line))

pub returns-in-Word : goal.returns-in-Word
returns-in-Word c =
    let T : PhraseText → Type 0 = λ t. IsCodePart t c.word_phrase.result in
    subst T (sym c.in-Word.is) (rw (c.word_phrase.ensures ∙ ap word_part c.bytes-in-Word.ensures) (word c.in-Word.word))
