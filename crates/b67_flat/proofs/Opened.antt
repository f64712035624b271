-- What is seen of a memory in which one more row is open, or one less.
use Rattle.std.proofs.Common.{◌≡◌, ◌≢◌, ℕ, ◌+◌, ◌<◌, ◌≤◌, Bool, List, [], ◌++◌, length, set, take, drop, replicate, pos, Option, None, subst, ap, sym, ◌∙◌, arith, length-append}
use Rattle.std.specs.Prelude.{◌&&◌, nat_lt, option_map}
use Rattle.std.proofs.lemmas.List.{map-set, length-replicate, length-take-le, length-drop}
use Rattle.b67_word.specs.Word.{Word, operand}
use Rattle.b67_store.specs.Store.{at_number, opened_at, least_free, Rows, zero_row, exceeds, count_limit}
use Rattle.b67_flat.specs.declared.Span.{Span}
use Rattle.b67_flat.specs.declared.row_table.HeldRow.{HeldRow}
use Rattle.b67_flat.specs.Spans.{Ascend, end_after, place_for, span_for, span_opened, spans_below, closed, IsOneOf}
use Rattle.b67_flat.specs.Flat.{memory_of, IsMemory, words_at, lengthened, zeroed, row_in, rows_in, bare_rows, IsHeld, AreSpans}
use Rattle.b67_flat.proofs.Fits.{ascend_removed, end_removed}
use Rattle.b67_flat.proofs.Areas.{opened_mapped, ends_within}
use Rattle.b67_flat.proofs.Opening.{closed_again}
use Rattle.b67_flat.proofs.Frees.{least_mapped}
use Rattle.b67_store.proofs.StoreLaws.{free_here}
use Rattle.b67_flat.proofs.Keeping.{KeepsSpans, kept_rows, lengthened_keeps, pasted_apart, pasted_inside}
use Rattle.b67_flat.proofs.Holding.{none_some, opened_in, still_in, below_within, row_opened}
use Rattle.b67_flat.proofs.Stores.{row_of, counted_seen}

-- ---- what holds of the memory

pub longer : (words : List Word) (more : ℕ) → length words ≤ length (lengthened words more)
longer words more = omega (arith, length-append words (replicate more (operand (pos 0))))

pub memory_lengthened : (words : List Word) (spans : List Span) (more : ℕ) → IsMemory (memory_of words spans) → IsMemory (memory_of (lengthened words more) spans)
memory_lengthened words spans more m = (m.0, omega (arith, m.1, longer words more), m.2)

pub memory_closed : (words : List Word) (spans : List Span) (place : ℕ) → IsMemory (memory_of words spans) → IsMemory (memory_of words (closed place spans))
memory_closed words spans place m =
    let less = end_removed 0 (spans_below place spans) spans m.0 in
    (ascend_removed 0 (spans_below place spans) spans m.0, omega (arith, less, m.1), omega (arith, less, m.2))

pub zeroed_size : (words : List Word) (place count : ℕ) → place + count ≤ length words → length (zeroed words place count) ≡ length words
zeroed_size words place count p =
    let zeros = replicate count (operand (pos 0)) in
    let size : length (replicate count (operand (pos 0))) ≡ count = length-replicate count (operand (pos 0)) in
    omega (arith, size, p, length-append (take place words) (replicate count (operand (pos 0)) ++ drop (place + length (replicate count (operand (pos 0)))) words), length-append (replicate count (operand (pos 0))) (drop (place + length (replicate count (operand (pos 0)))) words), length-take-le place words (omega (arith, p)), length-drop (place + length (replicate count (operand (pos 0)))) words)

pub memory_zeroed : (words : List Word) (spans : List Span) (place count : ℕ) → place + count ≤ length words → IsMemory (memory_of words spans) → IsMemory (memory_of (zeroed words place count) spans)
memory_zeroed words spans place count p m = (m.0, omega (arith, m.1, zeroed_size words place count p), m.2)

-- ---- one more is open

module _ (words : List Word) (spans : List Span) (rows : List (Option HeldRow)) (m : IsMemory (memory_of words spans)) (are : AreSpans spans rows) where
  -- the words are lengthened
  pub long_rows : (more : ℕ) → rows_in (lengthened words more) rows ≡ rows_in words rows
  long_rows more = kept_rows spans rows words (lengthened words more) are (lengthened_keeps spans words more m.0 m.1)

  -- operands 0 in the span of a row that is to be opened stand in no other span
  zeros_apart : (n count : ℕ) → at_number rows n ≡ None → Ascend 0 (span_opened count n spans) → place_for count spans + count ≤ length words → end_after 0 (span_opened count n spans) ≤ length words → KeepsSpans spans words (zeroed words (place_for count spans) count)
  zeros_apart n count none a p e = λ t size o q.
      pasted_apart words (replicate count (operand (pos 0))) (span_opened count n spans) (span_for count n spans) t size a e (length-replicate count (operand (pos 0))) (opened_in count n spans) (still_in count n spans t o) (other t o) q
    where
      other : (t : Span) → IsOneOf t spans → span_for count n spans ≢ t
      other t o f =
          let held : IsHeld rows n (span_for count n spans) = subst (λ (z : Span). IsHeld rows z.row z) (sym f) (are.no_other t o) in
          none_some held.0 (sym none ∙ held.1)

  pub zero_rows : (n count : ℕ) → at_number rows n ≡ None → Ascend 0 (span_opened count n spans) → place_for count spans + count ≤ length words → end_after 0 (span_opened count n spans) ≤ length words → rows_in (zeroed words (place_for count spans) count) rows ≡ rows_in words rows
  zero_rows n count none a p e = kept_rows spans rows words (zeroed words (place_for count spans) count) are (zeros_apart n count none a p e)

  pub row_in_opened : (n : ℕ) (held : HeldRow) → held.place ≡ place_for held.length spans → at_number rows n ≡ None → Ascend 0 (span_opened held.length n spans) → place_for held.length spans + held.length ≤ length words → end_after 0 (span_opened held.length n spans) ≤ length words → rows_in (zeroed words (place_for held.length spans) held.length) (opened_at rows n held) ≡ opened_at (rows_in words rows) n (zero_row held.length held.counted)
  row_in_opened n held same none a p e =
      let zeros : List Word = replicate held.length (operand (pos 0)) in
      let size : length (replicate held.length (operand (pos 0))) ≡ held.length = length-replicate held.length (operand (pos 0)) in
      opened_mapped (row_in (zeroed words (place_for held.length spans) held.length)) rows n held
      ∙ ap (λ (k : ℕ). opened_at (rows_in (zeroed words (place_for held.length spans) held.length) rows) n (row_of (words_at (zeroed words (place_for held.length spans) held.length) k held.length) held.counted)) same
      ∙ ap (λ (ws : List Word). opened_at (rows_in (zeroed words (place_for held.length spans) held.length) rows) n (row_of ws held.counted)) (ap (λ (k : ℕ). words_at (zeroed words (place_for held.length spans) held.length) (place_for held.length spans) k) (sym size) ∙ pasted_inside words (replicate held.length (operand (pos 0))) (place_for held.length spans) (omega (arith, p)))
      ∙ ap (λ t. opened_at t n (zero_row held.length held.counted)) (zero_rows n held.length none a p e)

  -- a request exceeds what it exceeds by the table
  pub exceeds_seen : (count : ℕ) (counted : Bool) → exceeds (bare_rows rows) count counted ≡ exceeds (rows_in words rows) count counted
  exceeds_seen count counted = ap (λ (k : ℕ). counted && nat_lt count_limit (k + count)) (sym (counted_seen (memory_of words spans) rows m are))

-- ---- one is closed

pub row_in_closed : (words : List Word) (rows : List (Option HeldRow)) (n : ℕ) → rows_in words (set rows n None) ≡ set (rows_in words rows) n None
row_in_closed words rows n = map-set (option_map (row_in words)) rows n None

-- ---- the span that was opened

-- it is found again, and closing it leaves the spans as they were
pub placed_below : (count row : ℕ) (spans new : List Span) (place : ℕ) → new ≡ span_opened count row spans → place ≡ place_for count spans → Ascend 0 new → spans_below place new < length new
placed_below count row spans new place e f a = rw f (below_within new (span_for count row spans) a (rw e (opened_in count row spans)))

pub reclosed : (count row : ℕ) (spans new : List Span) (place : ℕ) → new ≡ span_opened count row spans → place ≡ place_for count spans → Ascend 0 spans → closed place new ≡ spans
reclosed count row spans new place e f a = rw (f, e) (closed_again count row spans a)

-- the words reach as far as it does
pub placed_within : (words : List Word) (count row : ℕ) (spans new : List Span) (place : ℕ) → new ≡ span_opened count row spans → place ≡ place_for count spans → IsMemory (memory_of words new) → place + count ≤ length words
placed_within words count row spans new place e f m =
    let o : IsOneOf (span_for count row spans) new = rw e (opened_in count row spans) in
    omega (arith, f, ends_within 0 o.0 new (span_for count row spans) m.0 o.1, m.1)

abbrev span_at : ℕ → ℕ → ℕ → Span
span_at place count row = record { place = place; length = count; row = row }

-- what a row is that is opened at a place, and what is where it is closed again
pub record RowPlaced (begun words : List Word) (spans new : List Span) (rows : List (Option HeldRow)) (n : ℕ) (held : HeldRow) : Type 0 where
  pub rows_still : rows_in words rows ≡ rows_in begun rows
  pub rows_now : rows_in words (opened_at rows n held) ≡ opened_at (rows_in begun rows) n (zero_row held.length held.counted)
  pub memory_now : IsMemory (memory_of words new)
  pub memory_still : IsMemory (memory_of words spans)
  pub are_now : AreSpans new (opened_at rows n held)

pub row_placed : (begun long words : List Word) (spans new : List Span) (rows : List (Option HeldRow)) (n more : ℕ) (held : HeldRow) → IsMemory (memory_of begun spans) → AreSpans spans rows → at_number rows n ≡ None → long ≡ lengthened begun more → new ≡ span_opened held.length n spans → held.place ≡ place_for held.length spans → words ≡ zeroed long held.place held.length → IsMemory (memory_of long new) → RowPlaced begun words spans new rows n held
row_placed begun long words spans new rows n more held m are none l e f z after =
    let p : held.place + held.length ≤ length long = placed_within long held.length n spans new held.place e f after in
    let q : place_for held.length spans + held.length ≤ length long = omega (arith, p, f) in
    let a : Ascend 0 (span_opened held.length n spans) = rw (← e) after.0 in
    let w : end_after 0 (span_opened held.length n spans) ≤ length long = rw (← e) after.1 in
    let b : IsMemory (memory_of long spans) = rw l (memory_lengthened begun spans more m) in
    let g : words ≡ zeroed long (place_for held.length spans) held.length = z ∙ ap (λ (k : ℕ). zeroed long k held.length) f in
    let rows_long : rows_in long rows ≡ rows_in begun rows = rw l (long_rows begun spans rows m are more) in
    record {
      rows_still = ap (λ (ws : List Word). rows_in ws rows) g ∙ zero_rows long spans rows b are n held.length none a q w ∙ rows_long;
      rows_now = ap (λ (ws : List Word). rows_in ws (opened_at rows n held)) g ∙ row_in_opened long spans rows b are n held f none a q w ∙ ap (λ (t : Rows). opened_at t n (zero_row held.length held.counted)) rows_long;
      memory_now = rw z (memory_zeroed long new held.place held.length p after);
      memory_still = rw z (memory_zeroed long spans held.place held.length p b);
      are_now = rw e (row_opened spans rows are n held none (ap (λ (k : ℕ). span_at k held.length n) f));
    }

-- the least number that is free is so in what is seen
pub least_seen : (words : List Word) (rows : List (Option HeldRow)) (n : ℕ) → n ≡ least_free rows → n ≡ least_free (rows_in words rows)
least_seen words rows n e = e ∙ sym (least_mapped (row_in words) rows)

pub least_unheld : (rows : List (Option HeldRow)) (n : ℕ) → n ≡ least_free rows → at_number rows n ≡ None
least_unheld rows n e = ap (λ (k : ℕ). at_number rows k) e ∙ free_here rows
