use Rattle.std.proofs.Common.{ℕ, ◌≤◌, take, pos, sym, ◌∙◌, ap, subst, arith}
use Rattle.algol_tree.specs.declared.token.TokenKind.TheVariants as kinds
use Rattle.algol_tree.specs.Spelling.{value_of}
use Rattle.b67_num.specs.Whole.{most}
use Rattle.algol_tree.specs.Lexes.{Program, TokenStands, token_of}
use Rattle.algol_lexer.proofs.LexStands.{digits_at, number_at, wide_at}
use Rattle.algol_lexer.proofs.LexValue.{whole_value}
use Rattle.algol_lexer.proofs.fronts.number_front.Goals as goal

pub value-requires : goal.value-requires
value-requires c = (digits_at c.args.text.now c.digits-size.result c.requires.some c.requires.digit c.digits-size.ensures.value).each

-- a number within the limit
pub returns-in-Some : goal.returns-in-Some
returns-in-Some c =
    let n : ℕ = c.digits-size.result in
    let whole = c.in-Some.ensures.within.0 in
    let within : value_of (take n c.args.text.now) ≤ most = omega (arith, c.in-Some.ensures.within.1, whole) in
    let same = c.fitting.ensures ∙ whole_value c.in-Some.value c.in-Some.ensures.within.1 ∙ ap pos whole in
    subst (TokenStands Program c.args.text.now) (sym (c.token.ensures ∙ ap (λ z. token_of (kinds.Number z) n) same)) (number_at c.args.text.now n (digits_at c.args.text.now n c.requires.some c.requires.digit c.digits-size.ensures.value) within)

-- a number above it
pub returns-in-None : goal.returns-in-None
returns-in-None c =
    let n : ℕ = c.digits-size.result in
    subst (TokenStands Program c.args.text.now) (sym c.wrong.ensures) (wide_at c.args.text.now n (digits_at c.args.text.now n c.requires.some c.requires.digit c.digits-size.ensures.value) c.in-None.ensures.above)
