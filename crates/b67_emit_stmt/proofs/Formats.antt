-- A format of phrases that fit can be listed.
use Rattle.std.proofs.Common.{arith, ◌≡◌, ◌≢◌, ℕ, ◌≤◌, ◌==◌, nat_le, not, Bool, true, false, List, [], ◌∷◌, ◌++◌, sym, ◌∙◌, subst, if◌then◌else◌}
use Rattle.std.proofs.lemmas.Bool.{and_parts, leb-true, not-true, eq-eqb}
use Rattle.std.proofs.lemmas.List.Elements.{All-nil, All-cons, All-push}
use Rattle.std.specs.Prelude.{IsTrue}
use Rattle.std.specs.List.{All}
use Rattle.algol_tree.specs.declared.TheConstants.{MOST_LINE_WIDTH}
use Rattle.algol_tree.specs.declared.tree.PhraseText.{PhraseText}
use Rattle.algol_tree.specs.Lexes.{is_printable, is_quote}
use Rattle.algol_tree.specs.Spelling.{value_of}
use Rattle.b67_listing.specs.Listings.{IsPhrase}
use Rattle.b67_segment.specs.declared.code.Format.{Format}
use Rattle.b67_segment.specs.declared.code.Phrase.{Phrase}
use Rattle.b67_segment.specs.declared.code.Phrase.TheVariants as parts
use Rattle.b67_templates.specs.Code.{AreParts, IsCodePart, text, word, word_part}
use Rattle.b67_templates.specs.Fitting.{IsNarrowWord, PhraseFits, PhrasesFit}
use Rattle.b67_emit_stmt.specs.Drafts.{FormatsCanBeListed}

abbrev CanStand : ℕ → Type 0
CanStand b = (32 ≤ b) × (b ≤ 126) × (b ≢ 34)

can_stand : (b : ℕ) → IsTrue (is_printable b) → IsTrue (not (is_quote b)) → CanStand b
can_stand b printable unquoted =
    let both = and_parts (nat_le 32 b) (nat_le b 126) printable in
    (leb-true 32 b both.0, leb-true b 126 both.1, λ (same : b ≡ 34). let clash : true ≡ false = sym (eq-eqb b 34 same) ∙ not-true (is_quote b) unquoted in cc)

of_letter : (numeral : Bool) (n : ℕ) → n ≤ MOST_LINE_WIDTH → IsPhrase (if numeral then parts.Number n else parts.Blanks n)
of_letter true n narrow = omega (arith, narrow)
of_letter false n narrow = omega (arith, narrow)

word_listed : (letters : List ℕ) → IsNarrowWord letters → IsPhrase (word_part letters)
word_listed [] narrow = omega arith
word_listed (letter ∷ digits) narrow = of_letter (letter == 73) (value_of digits) narrow

phrase_listed : (t : PhraseText) (p : Phrase) → IsCodePart t p → PhraseFits t → IsPhrase p
phrase_listed t p (text bytes) h = λ k d lo. let byte = h k d lo in can_stand _ byte.0 byte.1
phrase_listed t p (word letters) h = word_listed letters h

phrases_listed : (ts : List PhraseText) (ps : List Phrase) → AreParts ts ps → PhrasesFit ts → All IsPhrase ps
phrases_listed [] ps e h = subst (λ (l : List Phrase). All IsPhrase l) (sym e) (All-nil IsPhrase)
phrases_listed (t ∷ ts) ps e h =
    subst (λ (l : List Phrase). All IsPhrase l) (sym e.2) (All-cons IsPhrase e.0 e.1 (phrase_listed t e.0 e.3 h.0) (phrases_listed ts e.1 e.4 h.1))

-- with the format of such phrases
pub format_listed : (xs : List Format) (f : Format) (ts : List PhraseText) → AreParts ts f.phrases → PhrasesFit ts → FormatsCanBeListed xs → FormatsCanBeListed (xs ++ f ∷ [])
format_listed xs f ts e h l = All-push (λ (format : Format). All IsPhrase format.phrases) xs f l (phrases_listed ts f.phrases e h)
