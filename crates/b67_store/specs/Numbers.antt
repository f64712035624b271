-- The numbers of closed rows, as a heap keeps them.
use Rattle.std.specs.Prelude.{ℕ, List, map}
use Rattle.std.specs.declared.cmp.Ordering.{Ordering}
use Rattle.std.specs.declared.cmp.Reverse.{Reverse}
use Rattle.std.specs.Ordering.{nat_cmp}

-- the numbers, in no order, and how many there is room for
pub record Numbers : Type 0 where
  pub numbers : List ℕ
  pub room : ℕ

-- the order of a heap whose top is its least number
abbrev pub least_first : Reverse ℕ → Reverse ℕ → Ordering
least_first x y = nat_cmp y.0 x.0

abbrev pub numbers_of : List (Reverse ℕ) → List ℕ
numbers_of xs = map (λ (x : Reverse ℕ). x.0) xs
