-- Facts that several crates cite.
use Rattle.std.proofs.Common.{List, None, Option, Some, [], ap, refl, rules, set, suc, sym, zero, ℕ, ◌∷◌, ◌≡◌}
use Rattle.b67_store.specs.Store.{at_number}

pub put_there : {X : Type 0} (table : List (Option X)) (n : ℕ) (x : X) → at_number table n ≡ Some x → set table n (Some x) ≡ table
put_there [] n x e = refl
put_there (None ∷ xs) zero x e = absurd (search rules)
put_there (Some y ∷ xs) zero x e = ap (λ o. o ∷ xs) (sym e)
put_there (o ∷ xs) (suc n) x e = ap (λ ys. o ∷ ys) (put_there xs n x e)
