-- What the calls of a flat core do to the lists that are seen.
use Rattle.std.proofs.Common.{◌≡◌, ◌≢◌, ℕ, zero, suc, ◌+◌, ◌-◌, ◌<◌, ◌≤◌, Bool, true, false, List, [], ◌∷◌, ◌++◌, length, set, take, drop, replicate, pos, if◌then◌else◌, Option, Some, None, refl, ap, sym, ◌∙◌, arith}
use Rattle.std.specs.Prelude.{slice_get, option_map, is_some}
use Rattle.std.proofs.lemmas.List.{length-replicate, length-set, length-take-le, length-drop}
use Rattle.std.proofs.lemmas.List.Sums.{sum_by-cons}
use Rattle.b67_word.specs.Word.{Word, operand}
use Rattle.b67_store.specs.Store.{at_number, Row, counted_words, live_words, row_words, row_words_or, row_with, with_row_word}
use Rattle.b67_store.proofs.Cited.{put_there}
use Rattle.b67_flat.specs.declared.Span.{Span}
use Rattle.b67_flat.specs.declared.row_table.HeldRow.{HeldRow}
use Rattle.b67_flat.specs.Spans.{Ascend}
use Rattle.b67_flat.specs.Flat.{Memory, IsMemory, words_at, row_in, rows_in, bare, bare_rows, span_of_row, AreSpans}
use Rattle.b67_flat.proofs.Areas.{set_apart, set_inside, at_mapped, mapped_same, mapped_set, ends_within}

got_take : {X : Type 0} (xs : List X) (count i : ℕ) → i < count → slice_get (take count xs) i ≡ slice_get xs i
got_take xs zero i p = absurd (omega arith)
got_take [] (suc count) i p = refl
got_take (x ∷ xs) (suc count) zero p = refl
got_take (x ∷ xs) (suc count) (suc i) p = got_take xs count i (omega (arith, p))

got_drop : {X : Type 0} (xs : List X) (place i k : ℕ) → k ≡ place + i → slice_get (drop place xs) i ≡ slice_get xs k
got_drop xs zero i k e = ap (λ (n : ℕ). slice_get xs n) (omega (arith, e))
got_drop [] (suc place) i k e = refl
got_drop (x ∷ xs) (suc place) i zero e = absurd (omega (arith, e))
got_drop (x ∷ xs) (suc place) i (suc k) e = got_drop xs place i k (omega (arith, e))

got_at : (words : List Word) (place count i : ℕ) → i < count → slice_get (words_at words place count) i ≡ slice_get words (place + i)
got_at words place count i p = got_take (drop place words) count i p ∙ got_drop words place i (place + i) refl

-- ---- the words of a row

-- they lie in the memory
pub row_within : (memory : Memory) (rows : List (Option HeldRow)) (n : ℕ) (held : HeldRow) → IsMemory memory → AreSpans memory.spans rows → at_number rows n ≡ Some held → held.place + held.length ≤ length memory.words
row_within memory rows n held m are h =
    let there = are.of_rows n held h in
    omega (arith, ends_within 0 there.0 memory.spans (span_of_row n held) m.0 there.1, m.1)

-- writing words keeps what holds of the memory
pub memory_written : (memory : Memory) (at : ℕ) (w : Word) → IsMemory memory → IsMemory (record memory { words = set memory.words at w })
memory_written memory at w m = (m.0, omega (arith, m.1, length-set memory.words at w), m.2)

got_some : {X : Type 0} (xs : List X) (i : ℕ) → i < length xs → true ≡ is_some (slice_get xs i)
got_some [] i p = absurd (omega (arith, p))
got_some (x ∷ xs) zero p = refl
got_some (x ∷ xs) (suc i) p = got_some xs i (omega (arith, p))

pub seen_row : (words : List Word) (rows : List (Option HeldRow)) (n : ℕ) (held : HeldRow) → at_number rows n ≡ Some held → at_number (rows_in words rows) n ≡ Some (row_in words held)
seen_row words rows n held h = at_mapped (row_in words) rows n ∙ ap (option_map (row_in words)) h

pub row_words_seen : (words : List Word) (rows : List (Option HeldRow)) (n : ℕ) (held : HeldRow) → at_number rows n ≡ Some held → row_words (rows_in words rows) n ≡ words_at words held.place held.length
row_words_seen words rows n held h = ap row_words_or (seen_row words rows n held h)

pub row_there : (words : List Word) (rows : List (Option HeldRow)) (n i : ℕ) (held : HeldRow) → at_number rows n ≡ Some held → i < held.length → slice_get (row_words (rows_in words rows) n) i ≡ slice_get words (held.place + i)
row_there words rows n i held h p = ap (λ (ws : List Word). slice_get ws i) (row_words_seen words rows n held h) ∙ got_at words held.place held.length i p

pub row_size : (memory : Memory) (rows : List (Option HeldRow)) (n : ℕ) (held : HeldRow) → IsMemory memory → AreSpans memory.spans rows → at_number rows n ≡ Some held → length (words_at memory.words held.place held.length) ≡ held.length
row_size memory rows n held m are h =
    length-take-le held.length (drop held.place memory.words) (omega (arith, length-drop held.place memory.words, row_within memory rows n held m are h))

-- ---- a word in a row

abbrev pub row_of : List Word → Bool → Row
row_of words counted = record { words = words; counted = counted }

-- the other rows have what they had
pub other_rows : (words : List Word) (spans : List Span) (rows : List (Option HeldRow)) (n i : ℕ) (held : HeldRow) (w : Word) → Ascend 0 spans → AreSpans spans rows → at_number rows n ≡ Some held → i < held.length → (k : ℕ) (x : HeldRow) → k ≢ n → at_number rows k ≡ Some x → row_in (set words (held.place + i) w) x ≡ row_in words x
other_rows words spans rows n i held w a are h p k x d e =
    ap (λ (ws : List Word). row_of ws x.counted) (set_apart words spans (span_of_row n held) (span_of_row k x) i x.length w a (are.of_rows n held h) (are.of_rows k x e) (λ z. d (sym (ap (λ (s : Span). s.row) z))) p (omega arith))

-- writing a word of a row
pub row_written : (words : List Word) (spans : List Span) (rows : List (Option HeldRow)) (n i : ℕ) (held : HeldRow) (w : Word) → Ascend 0 spans → AreSpans spans rows → at_number rows n ≡ Some held → i < held.length → rows_in (set words (held.place + i) w) rows ≡ with_row_word (rows_in words rows) n i w
row_written words spans rows n i held w a are h p =
    ap (λ (t : List (Option HeldRow)). rows_in (set words (held.place + i) w) t) (sym (put_there rows n held h))
    ∙ mapped_set (row_in (set words (held.place + i) w)) (row_in words) rows n held (other_rows words spans rows n i held w a are h p)
    ∙ ap (λ (ws : List Word). set (rows_in words rows) n (Some (row_of ws held.counted))) (set_inside words held.place held.length i w p)
    ∙ ap (λ (o : Option Row). set (rows_in words rows) n (row_with o i w)) (sym (seen_row words rows n held h))

-- a word that a row has is found
pub row_found : (memory : Memory) (rows : List (Option HeldRow)) (n i : ℕ) (held : HeldRow) → IsMemory memory → AreSpans memory.spans rows → at_number rows n ≡ Some held → i < held.length → true ≡ is_some (slice_get (row_words (rows_in memory.words rows) n) i)
row_found memory rows n i held m are h p =
    got_some (row_words (rows_in memory.words rows) n) i (omega (arith, p, ap length (row_words_seen memory.words rows n held h), row_size memory rows n held m are h))

-- ---- how many words of rows count

live_case : (words : List Word) (count : ℕ) (b : Bool) → length words ≡ count → (if b then length words else 0) ≡ (if b then length (replicate count (operand (pos 0))) else 0)
live_case words count true e = e ∙ sym (length-replicate count (operand (pos 0)))
live_case words count false e = refl

count_same : (words : List Word) (rows : List (Option HeldRow)) → ((n : ℕ) (x : HeldRow) → at_number rows n ≡ Some x → length (words_at words x.place x.length) ≡ x.length) → counted_words (rows_in words rows) ≡ counted_words (bare_rows rows)
count_same words [] size = refl
count_same words (None ∷ rows) size =
    sum_by-cons live_words None (rows_in words rows) ∙ ap (λ (k : ℕ). 0 + k) (count_same words rows (λ n x e. size (suc n) x e)) ∙ sym (sum_by-cons live_words None (bare_rows rows))
count_same words (Some x ∷ rows) size =
    let l = live_case (words_at words x.place x.length) x.length x.counted (size 0 x refl) in
    sum_by-cons live_words (Some (row_in words x)) (rows_in words rows)
    ∙ ap (λ (k : ℕ). k + counted_words (rows_in words rows)) l
    ∙ ap (λ (k : ℕ). live_words (Some (bare x)) + k) (count_same words rows (λ n y e. size (suc n) y e))
    ∙ sym (sum_by-cons live_words (Some (bare x)) (bare_rows rows))

-- as many words count as the table says
pub counted_seen : (memory : Memory) (rows : List (Option HeldRow)) → IsMemory memory → AreSpans memory.spans rows → counted_words (rows_in memory.words rows) ≡ counted_words (bare_rows rows)
counted_seen memory rows m are = count_same memory.words rows (λ n x e. row_size memory rows n x m are e)
