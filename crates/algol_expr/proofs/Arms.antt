-- A choice after its condition.
use Rattle.std.proofs.Common.{◌≡◌, ℕ, List, [], ◌∷◌, sym, subst, ◌∙◌, refl}
use Rattle.algol_tree.specs.declared.token.Token.{Token}
use Rattle.algol_tree.specs.declared.refusal.Refusal.{Refusal}
use Rattle.algol_tree.specs.Due.{Value, Due}
use Rattle.algol_tree.specs.Found.{IsRest, Lists, Fails}
use Rattle.algol_expr.proofs.Chain.{Reaches}

-- a part after one value
module _ {from : List Due} {us : List Value} {tokens : List Token} {part : List Due} {left : Value} {mid : List Token} where
  pub failing_on : {at_ : ℕ} {e : Refusal} → Reaches from us tokens part (left ∷ []) mid → Fails part (left ∷ []) mid at_ e → Fails from us tokens at_ e
  failing_on r p = record { run = λ spot code q due vs. r.run due vs ∙ p.run spot code q due vs }

  pub through : {v : Value} {rest : List Token} → Reaches from us tokens part (left ∷ []) mid → Lists part mid left v rest → Reaches from us tokens [] (v ∷ []) rest
  through r p = record { run = λ due vs. r.run due vs ∙ p.run due vs }

pub started : (from : List Due) (us : List Value) (tokens : List Token) → Reaches from us tokens from us tokens
started from us tokens = record { run = λ due vs. refl }

pub lists_as : {from : List Due} {left v w : Value} {tokens rest : List Token} → Reaches from (left ∷ []) tokens [] (v ∷ []) rest → w ≡ v → IsRest tokens rest → Lists from tokens left w rest
lists_as {from = from} {left = left} {tokens = tokens} {rest = rest} r is b = subst (λ x. Lists from tokens left x rest) (sym is) (record { run = λ due vs. r.run due vs; behind = b })
