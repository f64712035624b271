-- A row that is opened, and a word that is written into a row.
use Rattle.std.proofs.Common.{◌≡◌, ◌≢◌, refl, ℕ, zero, suc, ◌+◌, ◌≤◌, [], ◌∷◌, Some, None, arith}
use Rattle.b67_frames.proofs.Prelude.{counts, least_free, Row, Rows, row_at, live_words, counted_words, open_rows}
use Rattle.b67_store.specs.Store.{opened_at}
use Rattle.b67_store.proofs.StoreLaws.{opened_here, opened_others, free_here}

-- ---- a row is opened

-- the least free number is no higher than there are open rows
pub least_low : (rows : Rows) → least_free rows ≤ open_rows rows
least_low [] = omega arith
least_low (None ∷ rows) = omega arith
least_low (Some row ∷ rows) = omega (arith, least_low rows)

open_more : (rows : Rows) (n : ℕ) (row : Row) → row_at rows n ≡ None → open_rows (opened_at rows n row) ≡ open_rows rows + 1
open_more [] zero row free = refl
open_more [] (suc n) row free = open_more [] n row free
open_more (None ∷ rows) zero row free = omega arith
open_more (Some r ∷ rows) zero row free = absurd (let clash : Some r ≡ None = free in cc)
open_more (None ∷ rows) (suc n) row free = open_more rows n row free
open_more (Some r ∷ rows) (suc n) row free = omega (arith, open_more rows n row free)

-- this row at the least free number
abbrev pub row_opened : Rows → Row → Rows
row_opened rows row = opened_at rows (least_free rows) row

module _ (rows : Rows) (row : Row) where
  pub opened_is : row_at (row_opened rows row) (least_free rows) ≡ Some row
  opened_is = opened_here rows (least_free rows) row

  pub opened_keeps : (n : ℕ) → n ≢ least_free rows → row_at (row_opened rows row) n ≡ row_at rows n
  opened_keeps n other = opened_others rows (least_free rows) n row other

  pub least_is_free : row_at rows (least_free rows) ≡ None
  least_is_free = free_here rows

  pub opened_counts : counted_words (row_opened rows row) ≡ counted_words rows + live_words (Some row)
  opened_counts = counts.opened rows (least_free rows) row (free_here rows)

  pub opened_many : open_rows (row_opened rows row) ≡ open_rows rows + 1
  opened_many = open_more rows (least_free rows) row (free_here rows)

-- ---- a word is written
