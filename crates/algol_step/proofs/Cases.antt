-- How many statements a CASE has.
use Rattle.std.proofs.Common.{arith, ◌≡◌, refl, sym, ℕ, zero, suc, ◌+◌, ◌∙◌, ℤ, pos, negsuc, ◌≤ℤ◌, Bool, true, List, [], ◌∷◌, length, nat_lt}
use Rattle.std.specs.Prelude.{◌&&◌, int_le, int_lt, unsigned_abs}
use Rattle.std.proofs.lemmas.Int.{ints}
use Rattle.std.proofs.lemmas.Bool.Decides.{nat_tests}
use Rattle.algol_tree.specs.declared.tree.Stmt.{Stmt}
use Rattle.algol_meaning.specs.Choice.{nth_exists}
use Rattle.algol_meaning.specs.SeenTree.{stmts}

-- a number from 0 on, and below this
abbrev within : ℕ → ℤ → Bool
within count i = int_le (pos 0) i && int_lt i (pos count)

first_of_more : (count : ℕ) → within (count + 1) (pos 0) ≡ true
first_of_more count = grind (arith, ints)

first_of_some : (count : ℕ) → within (suc count) (pos 0) ≡ true
first_of_some count = grind (arith, ints)

one_of_more : (n count : ℕ) → within (count + 1) (pos (suc n)) ≡ within count (pos n)
one_of_more n count = grind (arith, ints)

one_of_some : (n count : ℕ) → within (suc count) (pos (suc n)) ≡ within count (pos n)
one_of_some n count = grind (arith, ints)

counted : (ss : List Stmt) (i : ℤ) → nth_exists i (stmts ss) ≡ within (length ss) i
counted [] i = refl
counted (s ∷ ss) (negsuc n) = refl
counted (s ∷ ss) (pos zero) = first_of_more _ ∙ sym (first_of_some (length ss))
counted (s ∷ ss) (pos (suc n)) = one_of_more n _ ∙ counted ss (pos n) ∙ sym (one_of_some n (length ss))

within_some : (count : ℕ) (i : ℤ) → pos 0 ≤ℤ i → nat_lt (unsigned_abs i) count ≡ within count i
within_some count i p = grind (arith, ints, nat_tests)

pub exists_within : (i : ℤ) (ss : List Stmt) → pos 0 ≤ℤ i → nat_lt (unsigned_abs i) (length ss) ≡ nth_exists i (stmts ss)
exists_within i ss p = within_some (length ss) i p ∙ sym (counted ss i)
