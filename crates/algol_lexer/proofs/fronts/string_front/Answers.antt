use Rattle.std.proofs.Common.{List, ℕ, ◌+◌, sym, ◌∙◌, ap, subst}
use Rattle.algol_tree.specs.declared.token.TokenKind.TheVariants as kinds
use Rattle.algol_tree.specs.Lexes.{Program, TokenStands, is_quote, token_of}
use Rattle.std.specs.Prelude.{position}
use Rattle.algol_lexer.proofs.LexStrings.{unclosed_at, bad_at, string_at}
use Rattle.algol_lexer.proofs.fronts.string_front.Goals as goal

-- no quote closes it
pub returns-in_default : goal.returns-in_default
returns-in_default c = subst (TokenStands Program c.args.text.now) (sym c.wrong.ensures) (unclosed_at c.args.text.now c.requires.some c.requires.quote (sym (c.in_default.ensures.value ∙ ap (position is_quote) c.split_at.ensures.back)))

-- a byte of it is not printable
pub returns-in-Some-first_unprintable : goal.returns-in-Some-first_unprintable
returns-in-Some-first_unprintable c = bad_at c.args.text.now c.split_at.result.1.now c.in-Some.length c.in-Some-first_unprintable.place c.requires.some c.requires.quote c.split_at.ensures.back c.in-Some.ensures.value c.in-Some-first_unprintable.ensures.value

-- the string
pub returns-in_ok-from_slice-in-None : goal.returns-in_ok-from_slice-in-None
returns-in_ok-from_slice-in-None c =
    let copied = c.of-string.ensures ∙ c.in_ok-from_slice-in-None.ensures.items in
    subst (TokenStands Program c.args.text.now) (sym (c.token.ensures ∙ ap (λ (l : List ℕ). token_of (kinds.Text l) (c.in-Some.length + 2)) copied)) (string_at c.args.text.now c.split_at.result.1.now c.in-Some.length c.requires.some c.requires.quote c.split_at.ensures.back c.in-Some.ensures.value c.in-None.ensures.value)
