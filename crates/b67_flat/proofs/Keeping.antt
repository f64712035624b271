-- Which words stay where a memory is lengthened, or words of one span are put in place of others.
use Rattle.std.proofs.Common.{◌≡◌, ◌≢◌, ℕ, zero, suc, ◌+◌, ◌-◌, ◌<◌, ◌≤◌, Bool, List, [], ◌∷◌, ◌++◌, length, take, drop, replicate, pos, ⊎_elim, ap, sym, ◌∙◌, arith, append_assoc, length-append}
use Rattle.std.specs.Prelude.{slice_get, Option, Some}
use Rattle.std.proofs.lemmas.List.{take-append-drop, take-append-le, drop-append-le, drop-drop, length-take-le, length-drop}
use Rattle.std.proofs.lemmas.Bool.{cases_lt}
use Rattle.b67_word.specs.Word.{Word, operand}
use Rattle.b67_store.specs.Store.{Row}
use Rattle.b67_list.proofs.Lists.{whole_list}
use Rattle.b67_flat.specs.declared.Span.{Span}
use Rattle.b67_flat.specs.declared.row_table.HeldRow.{HeldRow}
use Rattle.b67_flat.specs.Spans.{Ascend, end_after, IsOneOf}
use Rattle.b67_flat.specs.Flat.{words_at, lengthened, pasted, row_in, rows_in, span_of_row, AreSpans}
use Rattle.b67_flat.proofs.Areas.{ordered, ends_within, mapped_same, some_same}

-- ---- lists

front_same : {X : Type 0} (xs ys : List X) (p c : ℕ) → p + c ≤ length xs → take c (drop p (xs ++ ys)) ≡ take c (drop p xs)
front_same xs ys p c h = ap (take c) (drop-append-le p xs ys (omega arith)) ∙ take-append-le c (drop p xs) ys (omega (arith, length-drop p xs))

front_of : {X : Type 0} (xs : List X) (place p c : ℕ) → p + c ≤ place → place ≤ length xs → take c (drop p (take place xs)) ≡ take c (drop p xs)
front_of xs place p c h q =
    sym (front_same (take place xs) (drop place xs) p c (omega (arith, length-take-le place xs q))) ∙ ap (λ ys. take c (drop p ys)) (take-append-drop place xs)

past_end : {X : Type 0} (xs ys : List X) (p : ℕ) → length xs ≤ p → drop p (xs ++ ys) ≡ drop (p - length xs) ys
past_end [] ys p h = ap (λ (n : ℕ). drop n ys) (omega arith)
past_end (x ∷ xs) ys zero h = absurd (omega arith)
past_end (x ∷ xs) ys (suc p) h = past_end xs ys p (omega arith) ∙ ap (λ (n : ℕ). drop n ys) (omega arith)

-- below the words that are put
pasted_before : (words others : List Word) (place p c : ℕ) → p + c ≤ place → place ≤ length words → words_at (pasted words place others) p c ≡ words_at words p c
pasted_before words others place p c h q =
    front_same (take place words) (others ++ drop (place + length others) words) p c (omega (arith, length-take-le place words q)) ∙ front_of words place p c h q

-- and above them
pasted_after : (words others : List Word) (place p : ℕ) → place + length others ≤ p → place ≤ length words → drop p (pasted words place others) ≡ drop p words
pasted_after words others place p h q =
    let front : length (take place words ++ others) ≡ place + length others = omega (arith, length-append (take place words) others, length-take-le place words q) in
    ap (λ ws. drop p ws) (sym (append_assoc (take place words) others (drop (place + length others) words)))
    ∙ past_end (take place words ++ others) (drop (place + length others) words) p (omega (arith, front))
    ∙ drop-drop (p - length (take place words ++ others)) (place + length others) words
    ∙ ap (λ (n : ℕ). drop n words) (omega (arith, front))

pub pasted_inside : (words others : List Word) (place : ℕ) → place ≤ length words → words_at (pasted words place others) place (length others) ≡ others
pasted_inside words others place q =
    let none : place - length (take place words) ≡ 0 = omega (arith, length-take-le place words q) in
    ap (take (length others)) (past_end (take place words) (others ++ drop (place + length others) words) place (omega (arith, length-take-le place words q)) ∙ ap (λ (n : ℕ). drop n (others ++ drop (place + length others) words)) none)
    ∙ take-append-le (length others) others (drop (place + length others) words) (omega arith)
    ∙ whole_list others

-- ---- the same words in each span

abbrev pub KeepsSpans : List Span → List Word → List Word → Type 0
KeepsSpans spans old new = (t : Span) (count : ℕ) → IsOneOf t spans → count ≤ t.length → words_at new t.place count ≡ words_at old t.place count

pub kept_rows : (spans : List Span) (rows : List (Option HeldRow)) (old new : List Word) → AreSpans spans rows → KeepsSpans spans old new → rows_in new rows ≡ rows_in old rows
kept_rows spans rows old new are keeps =
    mapped_same (row_in new) (row_in old) rows (λ n x e. ap (λ (ws : List Word). row_of ws x.counted) (keeps (span_of_row n x) x.length (are.of_rows n x e) (omega arith)))
  where
    row_of : List Word → Bool → Row
    row_of ws b = record { words = ws; counted = b }

pub lengthened_keeps : (spans : List Span) (words : List Word) (more : ℕ) → Ascend 0 spans → end_after 0 spans ≤ length words → KeepsSpans spans words (lengthened words more)
lengthened_keeps spans words more a e = λ t count (k, o) p.
    front_same words (replicate more (operand (pos 0))) t.place count (omega (arith, p, e, ends_within 0 k spans t a o))

-- a span, and one of others
apart_case : (words others : List Word) (spans : List Span) (s t : Span) (j k count : ℕ) → j ≢ k → Ascend 0 spans → end_after 0 spans ≤ length words → length others ≡ s.length → slice_get spans j ≡ Some s → slice_get spans k ≡ Some t → count ≤ t.length → words_at (pasted words s.place others) t.place count ≡ words_at words t.place count
apart_case words others spans s t j k count n a e size f g p =
    ⊎_elim
    (λ (q : j < k). ap (take count) (pasted_after words others s.place t.place (omega (arith, size, ordered 0 j k spans s t a q f g)) (omega (arith, e, ends_within 0 j spans s a f))))
    (λ (q : k ≤ j). pasted_before words others s.place t.place count (omega (arith, p, ordered 0 k j spans t s a (omega (arith, q, n)) g f)) (omega (arith, e, ends_within 0 j spans s a f)))
    (cases_lt j k)

-- what is put into one span is not seen in another one
pub pasted_apart : (words others : List Word) (spans : List Span) (s t : Span) (count : ℕ) → Ascend 0 spans → end_after 0 spans ≤ length words → length others ≡ s.length → IsOneOf s spans → IsOneOf t spans → s ≢ t → count ≤ t.length → words_at (pasted words s.place others) t.place count ≡ words_at words t.place count
pasted_apart words others spans s t count a e size (j, f) (k, g) n p =
    apart_case words others spans s t j k count (λ z. n (some_same s s t (sym f ∙ ap (λ m. slice_get spans m) z ∙ g))) a e size f g p
