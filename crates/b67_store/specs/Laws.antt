-- What holds of stores whatever the program does with them.
use Rattle.std.specs.Prelude.{◌≡◌, ◌≢◌, ℕ, ◌+◌, ◌<◌, List, Option, Some, None, IsSome, slice_set}
use Rattle.b67_word.specs.Word.{Word}
use Rattle.b67_store.specs.Store.{at_number, opened_at, closed_at, least_free, Row, Rows, row_at, with_row_word, live_words, counted_words}

-- a change at a number leaves all other numbers as they are
pub record IsByNumber (X : Type 0) : Type 0 where
  pub opened : (xs : List (Option X)) (n : ℕ) (x : X) → at_number (opened_at xs n x) n ≡ Some x
  pub opened_others : (xs : List (Option X)) (n k : ℕ) (x : X) → k ≢ n → at_number (opened_at xs n x) k ≡ at_number xs k
  pub changed : (xs : List (Option X)) (n : ℕ) (x : X) → IsSome (at_number xs n) → at_number (slice_set xs n (Some x)) n ≡ Some x
  pub changed_others : (xs : List (Option X)) (n k : ℕ) (y : Option X) → k ≢ n → at_number (slice_set xs n y) k ≡ at_number xs k
  pub closed : (xs : List (Option X)) (n : ℕ) → at_number (closed_at xs n) n ≡ None
  -- the least free number is free, and all below it are open
  pub free : (xs : List (Option X)) → at_number xs (least_free xs) ≡ None
  pub least : (xs : List (Option X)) (k : ℕ) → k < least_free xs → IsSome (at_number xs k)

-- the words of counted rows count while they are open
pub record CountsOpenRows : Type 0 where
  pub opened : (rows : Rows) (n : ℕ) (row : Row) → row_at rows n ≡ None → counted_words (opened_at rows n row) ≡ counted_words rows + live_words (Some row)
  pub closed : (rows : Rows) (n : ℕ) → counted_words (closed_at rows n) + live_words (row_at rows n) ≡ counted_words rows
  pub written : (rows : Rows) (n at : ℕ) (word : Word) → counted_words (with_row_word rows n at word) ≡ counted_words rows
