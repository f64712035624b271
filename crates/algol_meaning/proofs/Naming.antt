-- Laws of names.
use Rattle.std.proofs.Common.{◌≡◌, refl, ℕ, List, Bool, true, false, sym}
use Rattle.std.specs.Prelude.{◌↔◌, IsTrue}
use Rattle.algol_tree.specs.Sorts.{same_name}
use Rattle.algol_tree.proofs.Names.{same_name_is, same_name_itself}

pub decides_names : (t : Bool) (a b : List ℕ) → (IsTrue t ↔ (a ≡ b)) → t ≡ same_name a b
decides_names true a b p = rw (← p.0 refl) (sym (same_name_itself a))
decides_names false a b p = different (same_name a b) (λ e. p.1 (same_name_is a b e))
  where
    different : (s : Bool) → (s ≡ true → IsTrue false) → false ≡ s
    different true f = let x : IsTrue false = f refl in cc
    different false f = refl
