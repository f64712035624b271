-- The rows that the table's change leaves.
use Rattle.std.proofs.Common.{◌≡◌, refl, sym, ap, ◌∙◌, ℕ, Bool, true, false, List, [], ◌∷◌, Option, Some, None, cond}
use Rattle.b67_word.specs.Word.{Word}
use Rattle.b67_control.specs.declared.Descriptor.{Descriptor}
use Rattle.b67_control.specs.Control.{as_descriptor}
use Rattle.b67_store.specs.Store.{Row, Rows, closed_at, row_at, row_words, row_words_or}
use Rattle.b67_table.specs.Image.{Image, with_rows}
use Rattle.b67_table.specs.Program.{Change, changed, close_row, row_of}
use Rattle.b67_table.specs.Linkage.{closed_by, rows_closed, array_closed, arrays_closed}
use Rattle.b67_linkage.specs.Closing.{rows_without_word, without_row, without_rows, without_array, without_arrays}
use Rattle.b67_linkage.specs.Laws.{ClosesAsTheTable}

module _ (p : ℕ) where
  one_row : (o : Option Descriptor) (next : Change) (img : Image)
      → changed p (closed_by o (λ d more. close_row d.address more) next) img ≡ changed p next (with_rows img (rows_without_word without_row o img.rows))
  one_row None next img = refl
  one_row (Some d) next img = by_copy d.copy
    where
      by_copy : (b : Bool) → changed p (cond b next (close_row d.address next)) img ≡ changed p next (with_rows img (cond b img.rows (closed_at img.rows d.address)))
      by_copy true = refl
      by_copy false = refl

  some_rows : (words : List Word) (next : Change) (img : Image) → changed p (rows_closed words next) img ≡ changed p next (with_rows img (without_rows words img.rows))
  some_rows [] next img = refl
  some_rows (w ∷ words) next img =
      one_row (as_descriptor w) (rows_closed words next) img ∙ some_rows words next (with_rows img (rows_without_word without_row (as_descriptor w) img.rows))

  one_array : (d : Descriptor) (next : Change) (img : Image) → changed p (array_closed d next) img ≡ changed p next (with_rows img (without_array d img.rows))
  one_array d next img = by_mother d.mother
    where
      by_mother : (b : Bool) → changed p (cond b (row_of d.address (λ (row : Option Row). rows_closed (row_words_or row) (close_row d.address next))) (close_row d.address next)) img
          ≡ changed p next (with_rows img (cond b (closed_at (without_rows (row_words img.rows d.address) img.rows) d.address) (closed_at img.rows d.address)))
      by_mother true = some_rows (row_words img.rows d.address) (close_row d.address next) img
      by_mother false = refl

  cell_array : (o : Option Descriptor) (next : Change) (img : Image)
      → changed p (closed_by o array_closed next) img ≡ changed p next (with_rows img (rows_without_word without_array o img.rows))
  cell_array None next img = refl
  cell_array (Some d) next img = by_copy d.copy
    where
      by_copy : (b : Bool) → changed p (cond b next (array_closed d next)) img ≡ changed p next (with_rows img (cond b img.rows (without_array d img.rows)))
      by_copy true = refl
      by_copy false = one_array d next img

  pub all_arrays : (words : List Word) (next : Change) (img : Image) → changed p (arrays_closed words next) img ≡ changed p next (with_rows img (without_arrays words img.rows))
  all_arrays [] next img = refl
  all_arrays (w ∷ words) next img =
      cell_array (as_descriptor w) (arrays_closed words next) img ∙ all_arrays words next (with_rows img (rows_without_word without_array (as_descriptor w) img.rows))

pub closes_as_the_table : ClosesAsTheTable
closes_as_the_table p cells next img = all_arrays p cells next img
