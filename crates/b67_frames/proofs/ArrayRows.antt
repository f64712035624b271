-- What the making of arrays leaves: the rows, which of them belong to each array, and its descriptor.
use Rattle.std.proofs.Common.{◌≡◌, refl, sym, ap, ◌∙◌, ℕ, zero, suc, ◌+◌, List, [], ◌∷◌, ◌++◌, Some, None, true, false, append-nil, append_assoc}
use Rattle.b67_frames.proofs.Prelude.{Word, least_free, Rows, with_row_word, zero_row, Extents, one, two, array_word, arrays_made, Image, with_rows, Change, changed, Allotted}
use Rattle.b67_table.specs.Arrays.{rows_made, array_made}
use Rattle.b67_frames.proofs.OpenRows.{row_opened}

-- ---- the rows of a mother

-- one row more, whose descriptor stands at a place of its mother's row
abbrev pub part_rows : ℕ → ℕ → ℕ → Rows → Rows
part_rows size mother at rows = with_row_word (row_opened rows (zero_row size true)) mother at (array_word false size (least_free rows))

-- so many of them
abbrev pub parts_rows : ℕ → ℕ → ℕ → ℕ → Rows → Rows
parts_rows zero size mother at rows = rows
parts_rows (suc k) size mother at rows = parts_rows k size mother (at + 1) (part_rows size mother at rows)

-- their numbers
abbrev pub parts_of : ℕ → ℕ → ℕ → ℕ → Rows → List ℕ
parts_of zero size mother at rows = []
parts_of (suc k) size mother at rows = least_free rows ∷ parts_of k size mother (at + 1) (part_rows size mother at rows)

-- ---- an array

abbrev pub array_rows : Extents → Rows → Rows
array_rows (one n) rows = row_opened rows (zero_row n true)
array_rows (two m n) rows = parts_rows m n (least_free rows) 0 (row_opened rows (zero_row m false))

abbrev pub array_allotted : Extents → Rows → Allotted
array_allotted (one n) rows = record { mother = None; parts = least_free rows ∷ [] }
array_allotted (two m n) rows = record { mother = Some (least_free rows); parts = parts_of m n (least_free rows) 0 (row_opened rows (zero_row m false)) }

abbrev pub array_descriptor : Extents → Rows → Word
array_descriptor (one n) rows = array_word false n (least_free rows)
array_descriptor (two m n) rows = array_word true m (least_free rows)

-- ---- so many arrays, one after another

abbrev pub arrays_rows : ℕ → Extents → Rows → Rows
arrays_rows zero e rows = rows
arrays_rows (suc k) e rows = arrays_rows k e (array_rows e rows)

abbrev pub arrays_allotted : ℕ → Extents → Rows → List Allotted
arrays_allotted zero e rows = []
arrays_allotted (suc k) e rows = array_allotted e rows ∷ arrays_allotted k e (array_rows e rows)

abbrev pub arrays_descriptors : ℕ → Extents → Rows → List Word
arrays_descriptors zero e rows = []
arrays_descriptors (suc k) e rows = array_descriptor e rows ∷ arrays_descriptors k e (array_rows e rows)

-- ---- what the machine does

module _ (p : ℕ) where
  rows_made_does : (k mother at n : ℕ) (next : Change) (img : Image) → changed p (rows_made k mother at n next) img ≡ changed p next (with_rows img (parts_rows k n mother at img.rows))
  rows_made_does zero mother at n next img = refl
  rows_made_does (suc k) mother at n next img = rows_made_does k mother (at + 1) n next (with_rows img (part_rows n mother at img.rows))

  array_made_does : (e : Extents) (next : Word → Change) (img : Image) → changed p (array_made e next) img ≡ changed p (next (array_descriptor e img.rows)) (with_rows img (array_rows e img.rows))
  array_made_does (one n) next img = refl
  array_made_does (two m n) next img =
      rows_made_does m (least_free img.rows) 0 n (next (array_word true m (least_free img.rows))) (with_rows img (row_opened img.rows (zero_row m false)))

  -- the descriptors come after those that are made already
  pub arrays_made_do : (k : ℕ) (e : Extents) (made : List Word) (next : List Word → Change) (img : Image) →
      changed p (arrays_made k e made next) img ≡ changed p (next (made ++ arrays_descriptors k e img.rows)) (with_rows img (arrays_rows k e img.rows))
  arrays_made_do zero e made next img = ap (λ (ws : List Word). changed p (next ws) img) (sym (append-nil made))
  arrays_made_do (suc k) e made next img =
      array_made_does e (λ (w : Word). arrays_made k e (made ++ w ∷ []) next) img
      ∙ arrays_made_do k e (made ++ array_descriptor e img.rows ∷ []) next (with_rows img (array_rows e img.rows))
      ∙ ap (λ (ws : List Word). changed p (next ws) (with_rows img (arrays_rows k e (array_rows e img.rows))))
      (append_assoc made (array_descriptor e img.rows ∷ []) (arrays_descriptors k e (array_rows e img.rows)))
