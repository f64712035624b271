-- What is kept beside the rows.
use Rattle.std.specs.Prelude.{◌≡◌, ℕ, suc, ◌+◌, ◌≤◌, List, [], ◌∷◌, length, Option, Some, None}
use Rattle.std.specs.List.{sum_by}
use Rattle.b67_store.specs.Numbers.{Numbers}
use Rattle.b67_store.specs.Store.{Rows, counted_words, count_limit, row_limit}

-- the sum of a weight over the numbers, from k on, where none stands
abbrev pub weight_of_free : {X : Type 0} → (ℕ → ℕ) → ℕ → List (Option X) → ℕ
weight_of_free weight k [] = 0
weight_of_free weight k (None ∷ xs) = weight k + weight_of_free weight (suc k) xs
weight_of_free weight k (Some x ∷ xs) = weight_of_free weight (suc k) xs

-- the numbers at hand are those where none stands, each once: every weight has the same sum over both
pub record IsTable (rows : Rows) (free : Numbers) (counted : ℕ) : Type 0 where
  pub counted_is : counted ≡ counted_words rows
  pub few_words : counted ≤ count_limit
  pub few_rows : length rows ≤ row_limit
  pub room : length rows ≤ free.room
  pub free_numbers : (weight : ℕ → ℕ) → sum_by weight free.numbers ≡ weight_of_free weight 0 rows
