-- One array is made: its rows, which were free, hold its elements, and its descriptor names them.
use Rattle.std.proofs.Common.{◌≡◌, ◌≢◌, refl, sym, ap, ◌∙◌, ℕ, zero, suc, ◌+◌, ◌*◌, ◌<◌, ◌≤◌, List, [], ◌∷◌, length, Option, Some, None, true, false, arith}
use Rattle.b67_list.proofs.Lists.{get_within}
use Rattle.b67_list.proofs.Numbers.{none_some}
use Rattle.b67_frames.proofs.Prelude.{length-replicate, pos, slice_get, replicate, Kind, size_of, elements_of, Value, initial_value, Bounds, ArrayCell, Word, least_free, Row, Rows, row_at, row_limit, zero_row, counted_words, HasKind, ValueIs, some_same, Allotted, row_numbers_of, DescriptorIs, HoldElements, open_rows, rows_of_bounds}
use Rattle.std.proofs.lemmas.Nat.{mul-add-lt}
use Rattle.b67_word.specs.Word as words
use Rattle.b67_frames.specs.Arrays.{numbers_after}
use Rattle.b67_frames.proofs.ArraySizes.{HasDimensions, extents_of}
use Rattle.b67_frames.proofs.OpenRows.{least_low, row_opened, opened_is, opened_keeps, least_is_free, opened_counts, opened_many}
use Rattle.b67_frames.proofs.ArrayRows.{parts_rows, parts_of, array_rows, array_allotted, array_descriptor}
use Rattle.b67_frames.proofs.MotherRows.{open_apart, zeros_count, ArePartsOf, parts_are, parts_many, mother_filled}
use Rattle.b67_frames.proofs.Zeros.{zero_is}

-- ---- rows that hold elements

-- they do so as long as they stay open
pub hold_still : (rows after : Rows) (kind : Kind) (cell : ArrayCell) (a : Allotted) → ((n : ℕ) (row : Row) → row_at rows n ≡ Some row → row_at after n ≡ Some row) →
    HoldElements rows kind cell a → HoldElements after kind cell a
hold_still rows after kind cell a kept h =
    record {
      opened = λ j n there. let o = h.opened j n there in (o.0, (o.1.0, kept n (record { words = o.1.0; counted = true }) o.1.1, o.1.2));
      elements = λ j k n ws there within row_is.
          let o = h.opened j n there in
          h.elements j k n ws there within (o.1.1 ∙ sym (kept n (record { words = o.1.0; counted = true }) o.1.1) ∙ row_is);
      mother = λ m there. kept m _ (h.mother m there);
    }

-- each of them is open
pub holds_open : (rows : Rows) (kind : Kind) (cell : ArrayCell) (a : Allotted) → HoldElements rows kind cell a → (l n : ℕ) → slice_get (row_numbers_of a) l ≡ Some n → (row : Row) × (row_at rows n ≡ Some row)
holds_open rows kind cell a h l n there = by_mother a.mother refl l there
  where
    part : (j : ℕ) → slice_get a.parts j ≡ Some n → (row : Row) × (row_at rows n ≡ Some row)
    part j e = let o = h.opened j n e in (record { words = o.1.0; counted = true }, o.1.1)

    by_mother : (o : Option ℕ) → a.mother ≡ o → (l : ℕ) → slice_get (numbers_after o a.parts) l ≡ Some n → (row : Row) × (row_at rows n ≡ Some row)
    by_mother None is l e = part l e
    by_mother (Some m) is zero e = (_, h.mother n (is ∙ e))
    by_mother (Some m) is (suc l) e = part l e

-- ---- an array that is made

abbrev pub new_cell : Kind → List Bounds → ArrayCell
new_cell kind bs = record { bounds = bs; elements = replicate (elements_of bs) (initial_value kind) }

-- Between these rows and those an array is made, and rows that were open stay as they are.
pub record IsAdded (kind : Kind) (cell : ArrayCell) (rows after : Rows) (a : Allotted) (word : Word) : Type 0 where
  pub kept : (n : ℕ) (row : Row) → row_at rows n ≡ Some row → row_at after n ≡ Some row
  pub free : (l n : ℕ) → slice_get (row_numbers_of a) l ≡ Some n → row_at rows n ≡ None
  pub apart : (k l n : ℕ) → slice_get (row_numbers_of a) k ≡ Some n → slice_get (row_numbers_of a) l ≡ Some n → k ≡ l
  pub holds : HoldElements after kind cell a
  pub names : DescriptorIs cell.bounds a word
  pub counted : counted_words after ≡ counted_words rows + elements_of cell.bounds
  pub opened : open_rows after ≡ open_rows rows + rows_of_bounds cell.bounds

-- ---- zeros

pub get_replicate : {A : Type 0} (n k : ℕ) (x : A) → k < n → slice_get (replicate n x) k ≡ Some x
get_replicate zero k x h = absurd (omega (arith, h))
get_replicate (suc n) zero x h = refl
get_replicate (suc n) (suc k) x h = get_replicate n k x (omega (arith, h))

abbrev zero_word : Word
zero_word = words.operand (pos 0)

-- an element in a row of zeros
zero_there : (kind : Kind) (many place size k : ℕ) (row : Option Row) (ws : List Word) → place < many → k < size → row ≡ Some (zero_row size true) → row ≡ Some (record { words = ws; counted = true }) →
    (v : Value) × (w : Word) × (slice_get (replicate many (initial_value kind)) place ≡ Some v) × (slice_get ws k ≡ Some w) × HasKind kind v × ValueIs v w
zero_there kind many place size k row ws among within zeros is =
    let same : record { words = ws; counted = true } ≡ zero_row size true = some_same (sym is ∙ zeros) in
    let z = zero_is kind in
    (initial_value kind, zero_word, get_replicate many place (initial_value kind) among, ap (λ (r : Row). slice_get r.words k) same ∙ get_replicate size k zero_word within, z.0, z.1)

-- ---- an array of one dimension

module _ (kind : Kind) (b : Bounds) (rows : Rows) (few : open_rows rows + 1 ≤ row_limit) where
  abbrev row_made : Row
  row_made = zero_row (size_of b) true

  abbrev after_one : Rows
  after_one = row_opened rows row_made

  abbrev only : List ℕ
  only = least_free rows ∷ []

  only_is : (j n : ℕ) → slice_get only j ≡ Some n → (j ≡ 0) × (least_free rows ≡ n)
  only_is zero n e = (refl, some_same e)
  only_is (suc j) n e = none_some e

  one_kept : (n : ℕ) (row : Row) → row_at rows n ≡ Some row → row_at after_one n ≡ Some row
  one_kept n row there = opened_keeps rows row_made n (open_apart rows n (least_free rows) row there (least_is_free rows row_made)) ∙ there

  one_there : (j n : ℕ) → slice_get only j ≡ Some n → row_at after_one n ≡ Some row_made
  one_there j n e = ap (row_at after_one) (sym ((only_is j n e).1)) ∙ opened_is rows row_made

  one_holds : HoldElements after_one kind (new_cell kind (b ∷ [])) (array_allotted (extents_of (b ∷ [])) rows)
  one_holds =
      record {
        opened = λ j n e.
            let here : least_free rows ≡ n = (only_is j n e).1 in
            (omega (arith, here, least_low rows, few), (replicate (size_of b) zero_word, one_there j n e, length-replicate (size_of b) zero_word));
        elements = λ j k n ws e within row_is.
            zero_there kind (elements_of (b ∷ [])) (j * size_of b + k) (size_of b) k (row_at after_one n) ws (first_place j k (only_is j n e).0 within) within (one_there j n e) row_is;
        mother = λ m e. none_some e;
      }
    where
      first_place : (j k : ℕ) → j ≡ 0 → k < size_of b → j * size_of b + k < size_of b * 1
      first_place j k e h = rw e (omega (arith, h))

  pub one_made : IsAdded kind (new_cell kind (b ∷ [])) rows (array_rows (extents_of (b ∷ [])) rows) (array_allotted (extents_of (b ∷ [])) rows) (array_descriptor (extents_of (b ∷ [])) rows)
  one_made =
      record {
        kept = one_kept;
        free = λ l n e. ap (row_at rows) (sym ((only_is l n e).1)) ∙ least_is_free rows row_made;
        apart = λ k l n e f. (only_is k n e).0 ∙ sym ((only_is l n f).0);
        holds = one_holds;
        names = (least_free rows, omega (arith, least_low rows, few), refl, refl);
        counted = opened_counts rows row_made ∙ omega (arith, zeros_count (size_of b));
        opened = opened_many rows row_made;
      }

-- ---- an array of two dimensions

module _ (kind : Kind) (b c : Bounds) (rows : Rows) (few : open_rows rows + (1 + size_of b) ≤ row_limit) where
  abbrev mother : ℕ
  mother = least_free rows

  abbrev mother_row : Row
  mother_row = zero_row (size_of b) false

  abbrev with_mother : Rows
  with_mother = row_opened rows mother_row

  abbrev after_two : Rows
  after_two = parts_rows (size_of b) (size_of c) mother 0 with_mother

  abbrev parts : List ℕ
  parts = parts_of (size_of b) (size_of c) mother 0 with_mother

  are_parts : ArePartsOf (size_of c) mother with_mother after_two parts
  are_parts = parts_are (size_of b) (size_of c) mother 0 with_mother mother_row (opened_is rows mother_row)

  many_parts : length parts ≡ size_of b
  many_parts = parts_many (size_of b) (size_of c) mother 0 with_mother

  -- a part is not the mother
  part_apart : (j n : ℕ) → slice_get parts j ≡ Some n → mother ≢ n
  part_apart j n e = open_apart with_mother mother n mother_row (opened_is rows mother_row) (are_parts.free j n e)

  two_kept : (n : ℕ) (row : Row) → row_at rows n ≡ Some row → row_at after_two n ≡ Some row
  two_kept n row there =
      let other : n ≢ mother = open_apart rows n mother row there (least_is_free rows mother_row) in
      are_parts.kept n row other (opened_keeps rows mother_row n other ∙ there)

  two_free : (l n : ℕ) → slice_get (mother ∷ parts) l ≡ Some n → row_at rows n ≡ None
  two_free zero n e = ap (row_at rows) (sym (some_same e)) ∙ least_is_free rows mother_row
  two_free (suc l) n e = sym (opened_keeps rows mother_row n (λ s. part_apart l n e (sym s))) ∙ are_parts.free l n e

  two_apart : (k l n : ℕ) → slice_get (mother ∷ parts) k ≡ Some n → slice_get (mother ∷ parts) l ≡ Some n → k ≡ l
  two_apart zero zero n e f = refl
  two_apart zero (suc l) n e f = absurd (part_apart l n f (some_same e))
  two_apart (suc k) zero n e f = absurd (part_apart k n e (some_same f))
  two_apart (suc k) (suc l) n e f = ap suc (are_parts.apart k l n e f)

  two_opened : open_rows after_two ≡ open_rows rows + (1 + size_of b)
  two_opened = omega (arith, are_parts.opened, opened_many rows mother_row, many_parts)

  two_counted : counted_words after_two ≡ counted_words rows + size_of b * (size_of c * 1)
  two_counted =
      let none : counted_words with_mother ≡ counted_words rows + 0 = opened_counts rows mother_row in
      are_parts.counted ∙ ap (λ (n : ℕ). counted_words with_mother + n * size_of c) many_parts ∙ omega (arith, none)

  two_holds : HoldElements after_two kind (new_cell kind (b ∷ c ∷ [])) (record { mother = Some mother; parts = parts })
  two_holds =
      record {
        opened = λ j n e.
            (omega (arith, are_parts.low j n e, two_opened, few), (replicate (size_of c) zero_word, are_parts.there j n e, length-replicate (size_of c) zero_word));
        elements = λ j k n ws e within row_is.
            zero_there kind (elements_of (b ∷ c ∷ [])) (j * size_of c + k) (size_of c) k (row_at after_two n) ws (place_below j k (omega (arith, get_within parts j n e, many_parts)) within) within
            (are_parts.there j n e) row_is;
        mother = λ m e.
            ap (row_at after_two) (sym (some_same e))
            ∙ mother_filled (size_of b) (size_of c) mother 0 with_mother [] (replicate (size_of b) zero_word) false refl (length-replicate (size_of b) zero_word) (opened_is rows mother_row);
      }
    where
      place_below : (j k : ℕ) → j < size_of b → k < size_of c → j * size_of c + k < size_of b * (size_of c * 1)
      place_below j k first second = omega (arith, mul-add-lt j (size_of c) k (size_of b) first second)

  pub two_made : IsAdded kind (new_cell kind (b ∷ c ∷ [])) rows (array_rows (extents_of (b ∷ c ∷ [])) rows) (array_allotted (extents_of (b ∷ c ∷ [])) rows) (array_descriptor (extents_of (b ∷ c ∷ [])) rows)
  two_made =
      record {
        kept = two_kept;
        free = two_free;
        apart = two_apart;
        holds = two_holds;
        names = (mother, omega (arith, least_low rows, few), refl, many_parts, refl);
        counted = two_counted;
        opened = two_opened;
      }

-- ---- an array

pub array_added : (kind : Kind) (bs : List Bounds) → HasDimensions bs → (rows : Rows) → open_rows rows + rows_of_bounds bs ≤ row_limit →
    IsAdded kind (new_cell kind bs) rows (array_rows (extents_of bs) rows) (array_allotted (extents_of bs) rows) (array_descriptor (extents_of bs) rows)
array_added kind [] has rows few = absurd has
array_added kind (b ∷ []) has rows few = one_made kind b rows few
array_added kind (b ∷ c ∷ []) has rows few = two_made kind b c rows few
array_added kind (b ∷ c ∷ d ∷ bs) has rows few = absurd has
