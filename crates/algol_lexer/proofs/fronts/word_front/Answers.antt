use Rattle.std.proofs.Common.{◌≡◌, ℕ, List, take, sym, ◌∙◌, ap, subst}
use Rattle.algol_tree.specs.declared.token.TokenKind.TheVariants as kinds
use Rattle.algol_tree.specs.Spelling.{IsReserved, written}
use Rattle.algol_tree.specs.Lexes.{Program, TokenStands, capitals, token_of}
use Rattle.algol_lexer.proofs.LexStands.{run_at, word_at, name_at, long_name_at}
use Rattle.algol_lexer.proofs.fronts.word_front.Goals as goal

-- a run that is too long
pub returns-then-size-gt-MOST_NAME_BYTES : goal.returns-then-size-gt-MOST_NAME_BYTES
returns-then-size-gt-MOST_NAME_BYTES c =
    let run = run_at c.args.text.now c.letters_and_digits-size.result c.requires.some c.requires.letter c.letters_and_digits-size.ensures.value in
    subst (TokenStands Program c.args.text.now) (sym c.wrong.ensures) (long_name_at c.args.text.now c.letters_and_digits-size.result run c.if-size-gt-MOST_NAME_BYTES.true)

-- a word
pub returns-in-Some : goal.returns-in-Some
returns-in-Some c =
    let run = run_at c.args.text.now c.letters_and_digits-size.result c.requires.some c.requires.letter c.letters_and_digits-size.ensures.value in
    let same : capitals (take c.letters_and_digits-size.result c.args.text.now) ≡ written c.in-Some.word = sym (c.as_slice.ensures.value ∙ c.in_ok-letters.ensures) ∙ c.in-Some.ensures in
    subst (TokenStands Program c.args.text.now) (sym c.word.ensures) (word_at c.args.text.now c.letters_and_digits-size.result c.in-Some.word run same)

-- a name
pub returns-in-None : goal.returns-in-None
returns-in-None c =
    let n : ℕ = c.letters_and_digits-size.result in
    let run = run_at c.args.text.now n c.requires.some c.requires.letter c.letters_and_digits-size.ensures.value in
    let same = c.as_slice.ensures.value ∙ c.in_ok-letters.ensures in
    let name_is = c.of.ensures ∙ c.in_ok-letters.ensures in
    let other : IsReserved (capitals (take n c.args.text.now)) → ⊥ = subst (λ (l : List ℕ). IsReserved l → ⊥) same c.in-None.ensures in
    subst (TokenStands Program c.args.text.now) (sym (c.token.ensures ∙ ap (λ (l : List ℕ). token_of (kinds.Name l) n) name_is)) (name_at c.args.text.now n run other c.if-size-gt-MOST_NAME_BYTES.false)
