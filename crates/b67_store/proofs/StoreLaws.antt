-- The laws of stores.
use Rattle.std.proofs.Common.{◌≡◌, ◌≢◌, ℕ, zero, suc, ◌+◌, ◌<◌, List, [], ◌∷◌, set, Option, Some, None, IsSome, refl, ap, ◌∙◌, arith, rules}
use Rattle.std.proofs.lemmas.List.Sums.{sum_by-cons}
use Rattle.b67_word.specs.Word.{Word}
use Rattle.b67_store.specs.Store.{at_number, opened_at, closed_at, least_free, Row, Rows, row_at, row_with, with_row_word, live_words, counted_words}
use Rattle.b67_store.specs.Laws.{IsByNumber, CountsOpenRows}
use Rattle.b67_store.proofs.Tables.{same_live}

pub opened_here : {X : Type 0} (xs : List (Option X)) (n : ℕ) (x : X) → at_number (opened_at xs n x) n ≡ Some x
opened_here [] zero x = refl
opened_here [] (suc n) x = opened_here [] n x
opened_here (y ∷ ys) zero x = refl
opened_here (y ∷ ys) (suc n) x = opened_here ys n x

pub opened_others : {X : Type 0} (xs : List (Option X)) (n k : ℕ) (x : X) → k ≢ n → at_number (opened_at xs n x) k ≡ at_number xs k
opened_others [] zero zero x h = absurd (h refl)
opened_others [] zero (suc k) x h = refl
opened_others [] (suc n) zero x h = refl
opened_others [] (suc n) (suc k) x h = opened_others [] n k x (λ e. h (ap suc e))
opened_others (y ∷ ys) zero zero x h = absurd (h refl)
opened_others (y ∷ ys) zero (suc k) x h = refl
opened_others (y ∷ ys) (suc n) zero x h = refl
opened_others (y ∷ ys) (suc n) (suc k) x h = opened_others ys n k x (λ e. h (ap suc e))

pub changed_here : {X : Type 0} (xs : List (Option X)) (n : ℕ) (x : X) → IsSome (at_number xs n) → at_number (set xs n (Some x)) n ≡ Some x
changed_here [] n x h = absurd (search rules)
changed_here (y ∷ ys) zero x h = refl
changed_here (y ∷ ys) (suc n) x h = changed_here ys n x h

pub changed_others : {X : Type 0} (xs : List (Option X)) (n k : ℕ) (y : Option X) → k ≢ n → at_number (set xs n y) k ≡ at_number xs k
changed_others [] n k y h = refl
changed_others (z ∷ zs) zero zero y h = absurd (h refl)
changed_others (z ∷ zs) zero (suc k) y h = refl
changed_others (z ∷ zs) (suc n) zero y h = refl
changed_others (z ∷ zs) (suc n) (suc k) y h = changed_others zs n k y (λ e. h (ap suc e))

pub closed_here : {X : Type 0} (xs : List (Option X)) (n : ℕ) → at_number (closed_at xs n) n ≡ None
closed_here [] n = refl
closed_here (y ∷ ys) zero = refl
closed_here (y ∷ ys) (suc n) = closed_here ys n

pub free_here : {X : Type 0} (xs : List (Option X)) → at_number xs (least_free xs) ≡ None
free_here [] = refl
free_here (None ∷ xs) = refl
free_here (Some x ∷ xs) = free_here xs

pub open_below : {X : Type 0} (xs : List (Option X)) (k : ℕ) → k < least_free xs → IsSome (at_number xs k)
open_below [] k h = absurd (omega arith)
open_below (None ∷ xs) k h = absurd (omega arith)
open_below (Some x ∷ xs) zero h = search rules
open_below (Some x ∷ xs) (suc k) h = open_below xs k (omega arith)

pub by_number : {X : Type 0} → IsByNumber X
by_number =
    record {
      opened = opened_here;
      opened_others = opened_others;
      changed = changed_here;
      changed_others = changed_others;
      closed = closed_here;
      free = free_here;
      least = open_below;
    }

count_cons : (y : Option Row) (ys : Rows) → counted_words (y ∷ ys) ≡ live_words y + counted_words ys
count_cons y ys = sum_by-cons live_words y ys

count_opened : (rows : Rows) (n : ℕ) (row : Row) → row_at rows n ≡ None → counted_words (opened_at rows n row) ≡ counted_words rows + live_words (Some row)
count_opened [] zero row h = refl
count_opened [] (suc n) row h = count_cons None (opened_at [] n row) ∙ omega (arith, count_opened [] n row h)
count_opened (y ∷ ys) zero row h = omega (arith, count_cons y ys, count_cons (Some row) ys, ap live_words h)
count_opened (y ∷ ys) (suc n) row h = omega (arith, count_cons y ys, count_cons y (opened_at ys n row), count_opened ys n row h)

count_closed : (rows : Rows) (n : ℕ) → counted_words (closed_at rows n) + live_words (row_at rows n) ≡ counted_words rows
count_closed [] n = refl
count_closed (y ∷ ys) zero = omega (arith, count_cons y ys, count_cons None ys)
count_closed (y ∷ ys) (suc n) = omega (arith, count_cons y ys, count_cons y (closed_at ys n), count_closed ys n)

live_written : (row : Option Row) (at : ℕ) (word : Word) → live_words (row_with row at word) ≡ live_words row
live_written None at word = refl
live_written (Some row) at word = same_live row.counted row.words at word

pub count_written : (rows : Rows) (n at : ℕ) (word : Word) → counted_words (with_row_word rows n at word) ≡ counted_words rows
count_written [] n at word = refl
count_written (y ∷ ys) zero at word = omega (arith, count_cons y ys, count_cons (row_with y at word) ys, live_written y at word)
count_written (y ∷ ys) (suc n) at word = omega (arith, count_cons y ys, count_cons y (with_row_word ys n at word), count_written ys n at word)

pub counts : CountsOpenRows
counts = record { opened = count_opened; closed = count_closed; written = count_written }
