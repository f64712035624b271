-- The rows that are left where cells are given up: those of descriptors without the copy bit are closed.
use Rattle.std.specs.Prelude.{ℕ, ◌+◌, if◌then◌else◌, List, [], ◌∷◌, take, drop, length, ◌≤◌, Option, Some, None}
use Rattle.b67_word.specs.Word.{Word}
use Rattle.b67_control.specs.declared.Descriptor.{Descriptor}
use Rattle.b67_control.specs.Control.{as_descriptor}
use Rattle.b67_store.specs.Store.{Rows, closed_at, row_words, count_limit}
use Rattle.b67_table.specs.GoingTo.{Passed}

-- the rows after a word that may describe one is given up
abbrev pub rows_without_word : (Descriptor → Rows → Rows) → Option Descriptor → Rows → Rows
rows_without_word closed None rows = rows
rows_without_word closed (Some d) rows = if d.copy then rows else closed d rows

abbrev pub without_row : Descriptor → Rows → Rows
without_row d rows = closed_at rows d.address

abbrev pub without_rows : List Word → Rows → Rows
without_rows [] rows = rows
without_rows (w ∷ words) rows = without_rows words (rows_without_word without_row (as_descriptor w) rows)

-- before a mother's row, those of the descriptors in it
abbrev pub without_array : Descriptor → Rows → Rows
without_array d rows = if d.mother then closed_at (without_rows (row_words rows d.address) rows) d.address else without_row d rows

abbrev pub without_arrays : List Word → Rows → Rows
without_arrays [] rows = rows
without_arrays (w ∷ words) rows = without_arrays words (rows_without_word without_array (as_descriptor w) rows)

-- the cells of a frame of a stack with these words
abbrev pub cells_in_frame : List Word → ℕ → ℕ → List Word
cells_in_frame words frame cells = take cells (drop (frame + 2) words)

-- each frame is left with its cells, the newest first
abbrev pub without_frames : List Word → List Passed → Rows → Rows
without_frames words [] rows = rows
without_frames words (f ∷ fs) rows = without_frames words fs (without_arrays (cells_in_frame words f.frame f.cells) rows)

-- no row has more words than a row can be opened with
abbrev pub AreShort : Rows → Type 0
AreShort rows = (n : ℕ) → length (row_words rows n) ≤ count_limit
