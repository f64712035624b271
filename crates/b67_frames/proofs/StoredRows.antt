-- A word is written into a row of an array: the rows hold the array with that element.
use Rattle.std.proofs.Common.{◌≡◌, ◌≢◌, ◌⊎◌, inl, inr, refl, sym, ap, ◌∙◌, ℕ, zero, suc, ◌+◌, ◌*◌, ◌<◌, ◌≤◌, List, [], ◌∷◌, length, Option, Some, None, true, arith}
use Rattle.b67_list.proofs.Lists.{get_set_other, length_set}
use Rattle.b67_list.proofs.Numbers.{more_room, none_some}
use Rattle.b67_frames.proofs.Prelude.{slice_get, slice_set, Scopes, Kind, flat, with_element, Value, ArrayCell, World, Word, changed_others, Row, Rows, row_at, row_limit, row_with, with_row_word, HasKind, ValueIs, some_same, same_or_not, most_or_more, get_set, Allotted, row_numbers_of, Layout, row_length, HoldElements, open_rows, ElementIsIn}
use Rattle.b67_frames.proofs.ClosedRows.{AreApart}
use Rattle.b67_frames.proofs.ElementRows.{flat_is, at_below}

-- ---- numbers of elements

-- elements of other rows have other numbers
pub other_number : (j k index at n : ℕ) → k < n → at < n → j ≢ index → j * n + k ≢ index * n + at
other_number j k index at n low low' other same = by_order (most_or_more j index)
  where
    by_order : (j ≤ index) ⊎ (index < j) → ⊥
    by_order (inl h) =
        let below : j + 1 ≤ index = omega (arith, h, other) in
        let more : (j + 1) * n ≤ index * n = more_room (j + 1) index n below in
        absurd (omega (arith, more, same, low))
    by_order (inr h) =
        let below : index + 1 ≤ j = omega (arith, h) in
        let more : (index + 1) * n ≤ j * n = more_room (index + 1) j n below in
        absurd (omega (arith, more, same, low'))

-- ---- rows

-- as many rows are open
pub written_open : (rows : Rows) (n at : ℕ) (word : Word) → open_rows (with_row_word rows n at word) ≡ open_rows rows
written_open [] n at word = refl
written_open (None ∷ rows) zero at word = refl
written_open (Some row ∷ rows) zero at word = refl
written_open (None ∷ rows) (suc n) at word = omega (arith, written_open rows n at word)
written_open (Some row ∷ rows) (suc n) at word = omega (arith, written_open rows n at word)

set_here : (rows : Rows) (n : ℕ) (row : Row) (x : Option Row) → row_at rows n ≡ Some row → row_at (slice_set rows n x) n ≡ x
set_here [] n row x there = none_some there
set_here (y ∷ rows) zero row x there = refl
set_here (y ∷ rows) (suc n) row x there = set_here rows n row x there

pub written_here : (rows : Rows) (n at : ℕ) (word : Word) (row : Row) → row_at rows n ≡ Some row → row_at (with_row_word rows n at word) n ≡ Some (record row { words = slice_set row.words at word })
written_here rows n at word row there = set_here rows n row (row_with (row_at rows n) at word) there ∙ ap (λ (o : Option Row). row_with o at word) there

pub written_other : (rows : Rows) (n at : ℕ) (word : Word) (m : ℕ) → m ≢ n → row_at (with_row_word rows n at word) m ≡ row_at rows m
written_other rows n at word m other = changed_others rows n m (row_with (row_at rows n) at word) other

-- ---- items of lists

-- ---- an element

-- The element, and the value that is stored into it.
pub record StoresInRow (sc : Scopes) (w : World) (lay : Layout) (kind : Kind) (cell : ArrayCell) (a : Allotted) : Type 0 where
  pub subscripts : List ℕ
  pub index : ℕ
  pub at : ℕ
  pub number : ℕ
  pub within : ElementIsIn sc w lay cell.bounds subscripts index at
  pub part : slice_get a.parts index ≡ Some number
  pub value : Value
  pub word : Word
  pub fits : HasKind kind value
  pub is : ValueIs value word

module _ (sc : Scopes) (w : World) (lay : Layout) (rows : Rows) (kind : Kind) (cell : ArrayCell) (a : Allotted) (holds : HoldElements rows kind cell a) (apart : AreApart (row_numbers_of a))
    (stores : StoresInRow sc w lay kind cell a) where
  open stores use {subscripts as ks, index, at, number, within, part, value as v, word, fits, is}

  abbrev rows' : Rows
  rows' = with_row_word rows number at word

  abbrev long : ℕ
  long = row_length cell.bounds

  -- the parts of an array stand once, and its mother's row is none of them
  parts_apart : (j l n : ℕ) → slice_get a.parts j ≡ Some n → slice_get a.parts l ≡ Some n → j ≡ l
  parts_apart j l n e f = by_mother a.mother a.parts apart e f
    where
      by_mother : (o : Option ℕ) (parts : List ℕ) → AreApart (row_numbers_of (record { mother = o; parts = parts })) → slice_get parts j ≡ Some n → slice_get parts l ≡ Some n → j ≡ l
      by_mother None parts alone e f = alone j l n e f
      by_mother (Some m) parts alone e f = let next : suc j ≡ suc l = alone (suc j) (suc l) n e f in omega (arith, next)

  mother_apart : (m : ℕ) → a.mother ≡ Some m → m ≢ number
  mother_apart m mother same = by_mother a.mother a.parts apart mother part
    where
      by_mother : (o : Option ℕ) (parts : List ℕ) → AreApart (row_numbers_of (record { mother = o; parts = parts })) → o ≡ Some m → slice_get parts index ≡ Some number → ⊥
      by_mother None parts alone e there = none_some e
      by_mother (Some n) parts alone e there =
          let here : n ≡ number = some_same e ∙ same in
          let clash : 0 ≡ suc index = alone 0 (suc index) number (ap (λ (k : ℕ). Some k) here) there in
          absurd (omega (arith, clash))

  low : at < long
  low = at_below sc w lay cell.bounds ks index at within

  place : flat 0 cell.bounds ks ≡ index * long + at
  place = flat_is sc w lay cell.bounds ks index at within

  abbrev old_words : List Word
  old_words = (holds.opened index number part).1.0

  old_row : row_at rows number ≡ Some (record { words = old_words; counted = true })
  old_row = (holds.opened index number part).1.1

  new_row : row_at rows' number ≡ Some (record { words = slice_set old_words at word; counted = true })
  new_row = written_here rows number at word (record { words = old_words; counted = true }) old_row

  -- what holds of an element
  abbrev Element : ArrayCell → ℕ → ℕ → List Word → Type 0
  Element c j k words =
      (u : Value) × (x : Word) × (slice_get c.elements (j * long + k) ≡ Some u) × (slice_get words k ≡ Some x) × HasKind kind u × ValueIs u x

  element_after : (j k n : ℕ) (words : List Word) → slice_get a.parts j ≡ Some n → k < long → row_at rows' n ≡ Some (record { words = words; counted = true }) →
      Element (with_element cell ks v) j k words
  element_after j k n words there short row = by_row (same_or_not n number)
    where
      by_row : (n ≡ number) ⊎ (n ≢ number) → Element (with_element cell ks v) j k words
      by_row (inl same) = by_place (same_or_not k at)
        where
          row_same : j ≡ index
          row_same = parts_apart j index number (there ∙ ap (λ (m : ℕ). Some m) same) part

          words_are : slice_set old_words at word ≡ words
          words_are =
              let rows_same : record { words = slice_set old_words at word; counted = true } ≡ record { words = words; counted = true } =
              some_same (sym new_row ∙ ap (λ (m : ℕ). row_at rows' m) (sym same) ∙ row) in
              ap (λ (r : Row). r.words) rows_same

          old : Element cell j k old_words
          old = holds.elements j k n old_words there short (ap (λ (m : ℕ). row_at rows m) same ∙ old_row)

          by_place : (k ≡ at) ⊎ (k ≢ at) → Element (with_element cell ks v) j k words
          by_place (inl here) =
              let number_is : j * long + k ≡ flat 0 cell.bounds ks =
              ap (λ (m : ℕ). m * long + k) row_same ∙ ap (λ (m : ℕ). index * long + m) here ∙ sym place in (
                v,
                word,
                ap (λ (m : ℕ). slice_get (slice_set cell.elements (flat 0 cell.bounds ks) v) m) number_is
                    ∙ get_set cell.elements (flat 0 cell.bounds ks) old.0 v (ap (λ (m : ℕ). slice_get cell.elements m) (sym number_is) ∙ old.2),
                ap (λ (ws : List Word). slice_get ws k) (sym words_are)
                    ∙ ap (λ (m : ℕ). slice_get (slice_set old_words at word) m) here
                    ∙ get_set old_words at old.1 word (ap (λ (m : ℕ). slice_get old_words m) (sym here) ∙ old.3),
                fits,
                is,
              )
          by_place (inr other) =
              let apart_is : j * long + k ≢ flat 0 cell.bounds ks =
              (λ same_number.
              let both : index * long + k ≡ index * long + at = ap (λ (m : ℕ). m * long + k) (sym row_same) ∙ same_number ∙ place in
              other (omega (arith, both))) in (
                old.0,
                old.1,
                get_set_other cell.elements (flat 0 cell.bounds ks) (j * long + k) v apart_is ∙ old.2,
                ap (λ (ws : List Word). slice_get ws k) (sym words_are) ∙ get_set_other old_words at k word other ∙ old.3,
                old.4,
                old.5,
              )
      by_row (inr other) =
          let old : Element cell j k words = holds.elements j k n words there short (sym (written_other rows number at word n other) ∙ row) in
          let row_other : j ≢ index = (λ same. other (some_same (sym there ∙ ap (λ (m : ℕ). slice_get a.parts m) same ∙ part))) in
          let apart_is : j * long + k ≢ flat 0 cell.bounds ks = (λ same. other_number j k index at long short low row_other (same ∙ place)) in
          (old.0, old.1, get_set_other cell.elements (flat 0 cell.bounds ks) (j * long + k) v apart_is ∙ old.2, old.3, old.4, old.5)

  pub holds_stored : HoldElements (with_row_word rows number at word) kind (with_element cell ks v) a
  holds_stored =
      record {
        opened = λ j n there. row_open j n there (same_or_not n number);
        elements = element_after;
        mother = λ m mother. written_other rows number at word m (mother_apart m mother) ∙ holds.mother m mother;
      }
    where
      row_open : (j n : ℕ) → slice_get a.parts j ≡ Some n → (n ≡ number) ⊎ (n ≢ number) →
          (n < row_limit) × ((words : List Word) × (row_at rows' n ≡ Some (record { words = words; counted = true })) × (length words ≡ long))
      row_open j n there (inl same) =
          let old = holds.opened index number part in (
            (holds.opened j n there).0,
            (slice_set old_words at word, ap (λ (m : ℕ). row_at rows' m) same ∙ new_row, length_set old_words at word ∙ old.1.2),
          )
      row_open j n there (inr other) =
          let old = holds.opened j n there in
          (old.0, (old.1.0, written_other rows number at word n other ∙ old.1.1, old.1.2))
