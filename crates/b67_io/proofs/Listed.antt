-- A binary search tells whether a number stands in an ascending list.
use Rattle.std.proofs.Common.{◌≡◌, ℕ, ◌<◌, List, length, Result, Ok, Err, Contains, IsTrue, get_or, refl, sym, ◌∙◌, ⊎_elim, arith}
use Rattle.std.specs.Ordering.{nat_cmp}
use Rattle.std.specs.Result.{is_ok}
use Rattle.std.specs.List.Sorted.{IsBinarySearchResult, IsSorted}
use Rattle.std.proofs.lemmas.Bool.{cases_lt}
use Rattle.std.proofs.lemmas.List.{get_or_default}
use Rattle.std.proofs.lemmas.List.Sorted.{IsNonDecreasingBy-from_sort, searched}

pub listed : (xs : List ℕ) (x : ℕ) (r : Result ℕ ℕ) → IsBinarySearchResult (λ y. nat_cmp y x) xs r → IsSorted nat_cmp xs
    → (IsTrue (is_ok r) → Contains xs x) × (Contains xs x → IsTrue (is_ok r))
listed xs x (Ok i) found up =
    let at = searched xs x (Ok i) found (λ a b le lt. IsNonDecreasingBy-from_sort (λ n. n) xs up a b 0 le lt) in
    ((λ _. (i, at.0, get_or_default xs i x 0 at.0 ∙ at.1)), λ _. refl)
listed xs x (Err i) found up =
    let at = searched xs x (Err i) found (λ a b le lt. IsNonDecreasingBy-from_sort (λ n. n) xs up a b 0 le lt) in
    let here : (k : ℕ) → k < length xs → get_or xs k x ≡ x → get_or xs k 0 ≡ x = λ k lt is. sym (get_or_default xs k x 0 lt) ∙ is in
    ((λ h. cc), λ has. absurd (⊎_elim (λ before. omega (arith, here has.0 has.1 has.2, at.1 has.0 before)) (λ after. omega (arith, here has.0 has.1 has.2, at.2 has.0 after has.1)) (cases_lt has.0 i)))
