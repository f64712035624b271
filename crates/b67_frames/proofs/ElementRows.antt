-- The rows of an array: the descriptors in the row of its mother, and the words of its elements.
use Rattle.std.proofs.Common.{◌≡◌, sym, ap, ◌∙◌, subst, ℕ, ◌+◌, ◌*◌, ◌^◌, ◌<◌, ◌≤◌, List, [], ◌∷◌, length, Option, Some, Bool, true, false, arith}
use Rattle.b67_frames.proofs.Prelude.{slice_get, map, Scopes, Kind, size_of, flat, Value, Bounds, ArrayCell, World, Word, as_descriptor, Row, Rows, row_at, row_limit, array_word, HasKind, ValueIs, Allotted, Layout, row_length, HoldElements, ElementIsIn}
use Rattle.algol_meaning.specs.Arrays.{or_number, element_at}
use Rattle.algol_standing.proofs.Pairs.{map_forth}
use Rattle.b67_control.proofs.ControlLaws.{as_descriptor_descriptor_word}
use Rattle.b67_table.specs.Arrays.{word_in_row, indexed_in, as_indexed}
use Rattle.b67_rows.proofs.Numbers.{get_within}
use Rattle.b67_frames.specs.Arrays.{row_copy, element_copy}

-- ---- words

size_fits : (size : ℕ) → size ≤ 1048576 → size < 2 ^ 22
size_fits size few = omega arith

number_fits : (n : ℕ) → n < row_limit → n < 2 ^ 22
number_fits n low = omega arith

-- the descriptor of an array, or of a row of one
pub array_read : (mother : Bool) (size n : ℕ) → size ≤ 1048576 → n < row_limit →
    as_descriptor (array_word mother size n) ≡ Some (record { presence = true; copy = false; indexed = false; mother = mother; length = size; address = n })
array_read mother size n few low =
    as_descriptor_descriptor_word (record { presence = true; copy = false; indexed = false; mother = mother; length = size; address = n })
    (size_fits size few, (number_fits n low, tt))

module _ (sc : Scopes) (w : World) (lay : Layout) where
  pub row_copy_read : (size n : ℕ) → size ≤ 1048576 → n < row_limit →
      as_descriptor (row_copy sc w lay size n) ≡ Some (record { presence = true; copy = true; indexed = false; mother = false; length = size; address = n })
  row_copy_read size n few low =
      as_descriptor_descriptor_word (record { presence = true; copy = true; indexed = false; mother = false; length = size; address = n })
      (size_fits size few, (number_fits n low, tt))

  pub element_copy_read : (at n : ℕ) → at ≤ 1048576 → n < row_limit →
      as_indexed (element_copy sc w lay at n) ≡ Some (record { presence = true; copy = true; indexed = true; mother = false; length = at; address = n })
  element_copy_read at n few low =
      ap indexed_in
      (as_descriptor_descriptor_word (record { presence = true; copy = true; indexed = true; mother = false; length = at; address = n })
      (size_fits at few, (number_fits n low, tt)))

  -- ---- places

  -- the number of an element, row by row
  pub flat_is : (bs : List Bounds) (ks : List ℕ) (index at : ℕ) → ElementIsIn sc w lay bs ks index at → flat 0 bs ks ≡ index * row_length bs + at
  flat_is [] ks index at within = absurd within
  flat_is (b ∷ []) [] index at within = absurd within
  flat_is (b ∷ []) (k ∷ []) index at within =
      let row : index ≡ 0 = within.0 in
      let place : at ≡ k = within.1 in
      ap (λ (n : ℕ). n * size_of b + k) (sym row) ∙ ap (λ (n : ℕ). index * size_of b + n) (sym place)
  flat_is (b ∷ []) (k ∷ l ∷ ks) index at within = absurd within
  flat_is (b ∷ c ∷ []) [] index at within = absurd within
  flat_is (b ∷ c ∷ []) (j ∷ []) index at within = absurd within
  flat_is (b ∷ c ∷ []) (j ∷ k ∷ []) index at within =
      let row : index ≡ j = within.0 in
      let place : at ≡ k = within.1 in
      let one : 0 * size_of b + j ≡ j = omega arith in
      ap (λ (n : ℕ). n * size_of c + k) (one ∙ sym row) ∙ ap (λ (n : ℕ). index * size_of c + n) (sym place)
  flat_is (b ∷ c ∷ []) (j ∷ k ∷ l ∷ ks) index at within = absurd within
  flat_is (b ∷ c ∷ d ∷ bs) ks index at within = absurd within

  pub at_below : (bs : List Bounds) (ks : List ℕ) (index at : ℕ) → ElementIsIn sc w lay bs ks index at → at < row_length bs
  at_below [] ks index at within = absurd within
  at_below (b ∷ []) [] index at within = absurd within
  at_below (b ∷ []) (k ∷ []) index at within = omega (arith, within.1, within.2)
  at_below (b ∷ []) (k ∷ l ∷ ks) index at within = absurd within
  at_below (b ∷ c ∷ []) [] index at within = absurd within
  at_below (b ∷ c ∷ []) (j ∷ []) index at within = absurd within
  at_below (b ∷ c ∷ []) (j ∷ k ∷ []) index at within = omega (arith, within.1, within.3)
  at_below (b ∷ c ∷ []) (j ∷ k ∷ l ∷ ks) index at within = absurd within
  at_below (b ∷ c ∷ d ∷ bs) ks index at within = absurd within

  -- ---- what is found in the rows

  module _ (rows : Rows) (kind : Kind) (cell : ArrayCell) (a : Allotted) (holds : HoldElements rows kind cell a) where
    -- the row of this number has the word of an element there
    pub record ElementFound (ks : List ℕ) (at number : ℕ) : Type 0 where
      pub low : number < row_limit
      pub row : Row
      pub is : row_at rows number ≡ Some row
      pub word : Word
      pub lies : word_in_row (row_at rows number) at ≡ Some word
      pub kind_is : HasKind kind (element_at cell ks)
      pub value_is : ValueIs (element_at cell ks) word

    pub element_found : (ks : List ℕ) (index at number : ℕ) → ElementIsIn sc w lay cell.bounds ks index at → slice_get a.parts index ≡ Some number → ElementFound ks at number
    element_found ks index at number within part =
        let opened = holds.opened index number part in
        let there : row_at rows number ≡ Some (record { words = opened.1.0; counted = true }) = opened.1.1 in
        let found = holds.elements index at number opened.1.0 part (at_below cell.bounds ks index at within) there in
        let value : element_at cell ks ≡ found.0 =
        ap (λ (n : ℕ). or_number (slice_get cell.elements n)) (flat_is cell.bounds ks index at within) ∙ ap or_number found.2 in
        record {
          low = opened.0;
          row = record { words = opened.1.0; counted = true };
          is = there;
          word = found.1;
          lies = ap (λ (o : Option Row). word_in_row o at) there ∙ found.3;
          kind_is = subst (HasKind kind) (sym value) found.4;
          value_is = subst (λ (v : Value). ValueIs v found.1) (sym value) found.5;
        }

    -- the mother's row has the descriptor of a row there
    pub record RowFound (second : Bounds) (m index : ℕ) : Type 0 where
      pub row : Row
      pub is : row_at rows m ≡ Some row
      pub number : ℕ
      pub part : slice_get a.parts index ≡ Some number
      pub low : number < row_limit
      pub lies : word_in_row (row_at rows m) index ≡ Some (array_word false (size_of second) number)

    pub row_found : (b c : Bounds) (m index : ℕ) → cell.bounds ≡ b ∷ c ∷ [] → a.mother ≡ Some m → length a.parts ≡ size_of b → index < size_of b → RowFound c m index
    row_found b c m index is mother many below =
        let found = get_within a.parts index (omega (arith, many, below)) in
        let number : ℕ = found.0 in
        let words : List Word = map (λ (n : ℕ). array_word false (row_length cell.bounds) n) a.parts in
        let there : row_at rows m ≡ Some (record { words = words; counted = false }) = holds.mother m mother in
        record {
          row = record { words = words; counted = false };
          is = there;
          number = number;
          part = found.1;
          low = (holds.opened index number found.1).0;
          lies =
              ap (λ (o : Option Row). word_in_row o index) there
              ∙ map_forth (λ (n : ℕ). array_word false (row_length cell.bounds) n) a.parts index number found.1
              ∙ ap (λ (bs : List Bounds). Some (array_word false (row_length bs) number)) is;
        }
