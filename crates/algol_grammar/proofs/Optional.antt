-- What may be left out, by a test of the next token.
use Rattle.std.proofs.Common.{◌≡◌, ℕ, Bool, true, false, List, [], ◌∷◌, ◌++◌, ap, ◌∙◌}
use Rattle.algol_tree.specs.declared.token.Spot.{Spot}
use Rattle.algol_tree.specs.declared.token.Token.{Token}
use Rattle.algol_tree.specs.declared.token.TokenKind.{TokenKind}
use Rattle.algol_tree.specs.declared.token.TokenKind.TheVariants as kinds
use Rattle.algol_tree.specs.Due.{Value, value_put, Due, Turn, takes, makes, skips, plain, either}
use Rattle.algol_tree.specs.Reading.{reading_turn, nowhere, read}
use Rattle.algol_expr.proofs.Turns.{takes_step, skips_step, skips_end, makes_step, makes_end}

-- the tokens don't go on with one of that test
abbrev pub NotFirst : (TokenKind → Bool) → List Token → Type 0
NotFirst test [] = Unit {0}
NotFirst test (t ∷ ts) = test t.kind ≡ false

module _ (free : ℕ) (s : Due) (test : TokenKind → Bool) (ds : List Due) where
  pub left_out : ((spot : Spot) (k : TokenKind) → reading_turn s spot k ≡ either (test k) (takes plain ds) skips) → test kinds.End ≡ false →
      (rest : List Token) → NotFirst test rest → (due : List Due) (vs : List Value) → read free rest (s ∷ due) vs ≡ read free rest due vs
  left_out is e [] n due vs = skips_end free s due vs (is nowhere kinds.End ∙ ap (λ b. either b (takes plain ds) skips) e)
  left_out is e (t ∷ ts) n due vs = skips_step free t ts s due vs (is t.spot t.kind ∙ ap (λ b. either b (takes plain ds) skips) n)

  pub put_out : (v : Value) → ((spot : Spot) (k : TokenKind) → reading_turn s spot k ≡ either (test k) (takes plain ds) (makes (value_put v))) → test kinds.End ≡ false →
      (rest : List Token) → NotFirst test rest → (due : List Due) (vs : List Value) → read free rest (s ∷ due) vs ≡ read free rest due (v ∷ vs)
  put_out v is e [] n due vs = makes_end free s due vs (value_put v) (is nowhere kinds.End ∙ ap (λ b. either b (takes plain ds) (makes (value_put v))) e)
  put_out v is e (t ∷ ts) n due vs = makes_step free t ts s due vs (value_put v) (is t.spot t.kind ∙ ap (λ b. either b (takes plain ds) (makes (value_put v))) n)

  pub gone_on : (x : Turn) → ((spot : Spot) (k : TokenKind) → reading_turn s spot k ≡ either (test k) (takes plain ds) x) → (t : Token) (ts : List Token) → test t.kind ≡ true →
      (due : List Due) (vs : List Value) → read free (t ∷ ts) (s ∷ due) vs ≡ read free ts (ds ++ due) vs
  gone_on x is t ts e due vs = takes_step free t ts s ds due vs (is t.spot t.kind ∙ ap (λ b. either b (takes plain ds) x) e)
