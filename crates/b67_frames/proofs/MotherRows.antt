-- The rows of a mother: each is opened at a free number, and the mother's row holds their descriptors.
use Rattle.std.proofs.Common.{◌≡◌, ◌≢◌, refl, sym, ap, ◌∙◌, ℕ, zero, suc, ◌+◌, ◌*◌, ◌<◌, List, [], ◌∷◌, ◌++◌, length, set, Some, None, Bool, true, false, arith, append_assoc, length-append}
use Rattle.b67_list.proofs.Numbers.{none_some}
use Rattle.b67_store.proofs.StoreLaws.{count_written}
use Rattle.b67_frames.proofs.Prelude.{length-replicate, map, pos, slice_get, Word, operand, least_free, Row, Rows, row_at, zero_row, live_words, counted_words, array_word, some_same, open_rows}
use Rattle.std.proofs.lemmas.List.{set_at}
use Rattle.b67_frames.proofs.OpenRows.{least_low, row_opened, opened_is, opened_keeps, least_is_free, opened_counts, opened_many}
use Rattle.b67_frames.proofs.ArrayRows.{part_rows, parts_rows, parts_of}
use Rattle.b67_frames.proofs.StoredRows.{written_here, written_open, written_other}

-- a row that is open is not one that is free
pub open_apart : (rows : Rows) (m n : ℕ) (row : Row) → row_at rows m ≡ Some row → row_at rows n ≡ None → m ≢ n
open_apart rows m n row there free e = none_some (sym free ∙ sym (ap (row_at rows) e) ∙ there)

-- a row of zeros that counts
pub zeros_count : (size : ℕ) → live_words (Some (zero_row size true)) ≡ size
zeros_count size = length-replicate size (operand (pos 0))

-- Between these rows and those the parts of a mother are opened: rows of zeros, which were free and are open. Rows that were open stay as
-- they are, but for that of the mother.
pub record ArePartsOf (size mother : ℕ) (rows after : Rows) (parts : List ℕ) : Type 0 where
  pub kept : (n : ℕ) (row : Row) → n ≢ mother → row_at rows n ≡ Some row → row_at after n ≡ Some row
  pub free : (j n : ℕ) → slice_get parts j ≡ Some n → row_at rows n ≡ None
  pub there : (j n : ℕ) → slice_get parts j ≡ Some n → row_at after n ≡ Some (zero_row size true)
  pub apart : (j k n : ℕ) → slice_get parts j ≡ Some n → slice_get parts k ≡ Some n → j ≡ k
  pub low : (j n : ℕ) → slice_get parts j ≡ Some n → n < open_rows after
  pub counted : counted_words after ≡ counted_words rows + length parts * size
  pub opened : open_rows after ≡ open_rows rows + length parts

-- ---- one part more

module _ (size mother at : ℕ) (rows : Rows) (row : Row) (is : row_at rows mother ≡ Some row) where
  abbrev first : ℕ
  first = least_free rows

  abbrev between : Rows
  between = row_opened rows (zero_row size true)

  abbrev word : Word
  word = array_word false size first

  mother_apart : mother ≢ first
  mother_apart = open_apart rows mother first row is (least_is_free rows (zero_row size true))

  -- the mother's row stays open
  pub mother_written : row_at (part_rows size mother at rows) mother ≡ Some (record row { words = set row.words at word })
  mother_written = written_here between mother at word row (opened_keeps rows (zero_row size true) mother mother_apart ∙ is)

  first_there : row_at (part_rows size mother at rows) first ≡ Some (zero_row size true)
  first_there = written_other between mother at word first (λ e. mother_apart (sym e)) ∙ opened_is rows (zero_row size true)

  others_same : (n : ℕ) → n ≢ mother → n ≢ first → row_at (part_rows size mother at rows) n ≡ row_at rows n
  others_same n apart other = written_other between mother at word n apart ∙ opened_keeps rows (zero_row size true) n other

  one_counted : counted_words (part_rows size mother at rows) ≡ counted_words rows + size
  one_counted =
      count_written between mother at word
      ∙ opened_counts rows (zero_row size true)
      ∙ ap (λ (n : ℕ). counted_words rows + n) (zeros_count size)

  one_opened : open_rows (part_rows size mother at rows) ≡ open_rows rows + 1
  one_opened = written_open between mother at word ∙ opened_many rows (zero_row size true)

  module _ (after : Rows) (parts : List ℕ) (rest : ArePartsOf size mother (part_rows size mother at rows) after parts) where
    kept_all : (n : ℕ) (r : Row) → n ≢ mother → row_at rows n ≡ Some r → row_at after n ≡ Some r
    kept_all n r apart there =
        rest.kept n r apart (others_same n apart (open_apart rows n first r there (least_is_free rows (zero_row size true))) ∙ there)

    free_all : (j n : ℕ) → slice_get (first ∷ parts) j ≡ Some n → row_at rows n ≡ None
    free_all zero n e = ap (row_at rows) (sym (some_same e)) ∙ least_is_free rows (zero_row size true)
    free_all (suc j) n e =
        let closed : row_at (part_rows size mother at rows) n ≡ None = rest.free j n e in
        sym (others_same n
        (λ s. open_apart (part_rows size mother at rows) mother n (record row { words = set row.words at word }) mother_written closed (sym s))
        (λ s. open_apart (part_rows size mother at rows) first n (zero_row size true) first_there closed (sym s)))
        ∙ closed

    there_all : (j n : ℕ) → slice_get (first ∷ parts) j ≡ Some n → row_at after n ≡ Some (zero_row size true)
    there_all zero n e =
        ap (row_at after) (sym (some_same e)) ∙ rest.kept first (zero_row size true) (λ s. mother_apart (sym s)) first_there
    there_all (suc j) n e = rest.there j n e

    apart_all : (j k n : ℕ) → slice_get (first ∷ parts) j ≡ Some n → slice_get (first ∷ parts) k ≡ Some n → j ≡ k
    apart_all zero zero n e f = refl
    apart_all zero (suc k) n e f =
        absurd (open_apart (part_rows size mother at rows) first n (zero_row size true) first_there (rest.free k n f) (some_same e))
    apart_all (suc j) zero n e f =
        absurd (open_apart (part_rows size mother at rows) first n (zero_row size true) first_there (rest.free j n e) (some_same f))
    apart_all (suc j) (suc k) n e f = ap suc (rest.apart j k n e f)

    low_all : (j n : ℕ) → slice_get (first ∷ parts) j ≡ Some n → n < open_rows after
    low_all zero n e =
        let here : least_free rows ≡ n = some_same e in
        omega (arith, here, least_low rows, rest.opened, one_opened)
    low_all (suc j) n e = rest.low j n e

    part_more : ArePartsOf size mother rows after (first ∷ parts)
    part_more =
        record {
          kept = kept_all;
          free = free_all;
          there = there_all;
          apart = apart_all;
          low = low_all;
          counted = omega (arith, rest.counted, one_counted);
          opened = omega (arith, rest.opened, one_opened);
        }

-- ---- all parts

pub parts_are : (k size mother at : ℕ) (rows : Rows) (row : Row) → row_at rows mother ≡ Some row →
    ArePartsOf size mother rows (parts_rows k size mother at rows) (parts_of k size mother at rows)
parts_are zero size mother at rows row is =
    record {
      kept = λ n r apart there. there;
      free = λ j n e. none_some e;
      there = λ j n e. none_some e;
      apart = λ j k n e f. none_some e;
      low = λ j n e. none_some e;
      counted = omega arith;
      opened = omega arith;
    }
parts_are (suc k) size mother at rows row is =
    part_more size mother at rows row is _ _
    (parts_are k size mother (at + 1) (part_rows size mother at rows) _ (mother_written size mother at rows row is))

pub parts_many : (k size mother at : ℕ) (rows : Rows) → length (parts_of k size mother at rows) ≡ k
parts_many zero size mother at rows = refl
parts_many (suc k) size mother at rows = ap suc (parts_many k size mother (at + 1) (part_rows size mother at rows))

-- the mother's row holds their descriptors, each at its place
pub mother_filled : (k size mother at : ℕ) (rows : Rows) (front rest : List Word) (counted : Bool) → length front ≡ at → length rest ≡ k →
    row_at rows mother ≡ Some (record { words = front ++ rest; counted = counted }) →
    row_at (parts_rows k size mother at rows) mother
    ≡ Some (record { words = front ++ map (λ (n : ℕ). array_word false size n) (parts_of k size mother at rows); counted = counted })
mother_filled zero size mother at rows front [] counted place many is = is
mother_filled zero size mother at rows front (w ∷ rest) counted place many is = absurd (omega (arith, many))
mother_filled (suc k) size mother at rows front [] counted place many is = absurd (omega (arith, many))
mother_filled (suc k) size mother at rows front (w ∷ rest) counted place many is =
    mother_filled k size mother (at + 1) (part_rows size mother at rows) (front ++ word ∷ []) rest counted
    (length-append front (word ∷ []) ∙ omega (arith, place)) (omega (arith, many))
    (mother_written size mother at rows (record { words = front ++ w ∷ rest; counted = counted }) is
    ∙ ap (λ (ws : List Word). Some (record { words = ws; counted = counted })) (set_at front w rest word at place ∙ sym (append_assoc front (word ∷ []) rest)))
    ∙ ap (λ (ws : List Word). Some (record { words = ws; counted = counted })) (append_assoc front (word ∷ []) (map (λ (n : ℕ). array_word false size n) (parts_of k size mother (at + 1) (part_rows size mother at rows))))
  where
    word : Word
    word = array_word false size (least_free rows)
