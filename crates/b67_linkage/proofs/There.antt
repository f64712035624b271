-- Words and rows that are there.
use Rattle.std.proofs.Common.{◌≡◌, refl, ap, ◌∙◌, sym, ℕ, zero, suc, ◌+◌, ◌<◌, ◌≤◌, List, [], ◌∷◌, length, set, Option, Some, None, IsSome, is_some, Bool, true, false, arith}
use Rattle.std.specs.Prelude.{slice_set, slice_get}
use Rattle.b67_store.specs.Store.{at_number, closed_at, opened}

-- to close what is not open changes nothing
pub closed_alone : {X : Type 0} (xs : List (Option X)) (n : ℕ) → is_some (at_number xs n) ≡ false → closed_at xs n ≡ xs
closed_alone [] zero e = refl
closed_alone [] (suc n) e = refl
closed_alone (None ∷ xs) zero e = refl
closed_alone (Some x ∷ xs) zero e = let h : true ≡ false = e in absurd cc
closed_alone (x ∷ xs) (suc n) e = ap (λ (z : List (Option _)). x ∷ z) (closed_alone xs n e)

pub ruleset there = closed_alone
