-- How wide gaps are at most, where spans are put or taken away, and where bounds are raised or made narrower.
use Rattle.std.proofs.Common.{◌≡◌, ◌≢◌, ℕ, zero, suc, ◌+◌, ◌*◌, ◌/◌, ◌%◌, ◌<◌, ◌≤◌, List, [], ◌∷◌, length, get_or, set, ⊎_elim, refl, ap, sym, ◌∙◌, arith}
use Rattle.std.specs.List.{insert, remove}
use Rattle.std.proofs.lemmas.Bool.{cases_lt, cases_eq}
use Rattle.std.proofs.lemmas.List.{get_or-set_same, get_or-set_other}
use Rattle.std.proofs.lemmas.Nat.{div_below, le-div, div-add-mod'}
use Rattle.b67_flat.specs.declared.Span.{Span}
use Rattle.b67_flat.specs.Spans.{end_of_span, Ascend, gap_before, first_fit}
use Rattle.b67_flat.specs.Widest.{AreWidest}
use Rattle.b67_flat.proofs.Fits.{fit_is, gap_inserted, gap_removed, gap_past}

-- ---- numbers

-- the number before one that does not begin a chunk is in the same chunk
chunk_before : (j : ℕ) → suc j % 64 ≢ 0 → j / 64 ≡ suc j / 64
chunk_before j h = ⊎_elim (λ (p : 0 < suc j % 64). omega (arith, p, div-add-mod' j 64, div-add-mod' (suc j) 64)) (λ (q : suc j % 64 ≤ 0). absurd (h (omega (arith, q)))) (cases_lt 0 (suc j % 64))

-- and the one after one that does not end it
chunk_after : (k : ℕ) → k % 64 ≢ 63 → suc k / 64 ≡ k / 64
chunk_after k h = ⊎_elim (λ (p : k % 64 < 63). omega (arith, p, div-add-mod' k 64, div-add-mod' (suc k) 64)) (λ (q : 63 ≤ k % 64). absurd (h (omega (arith, q, div-add-mod' k 64)))) (cases_lt (k % 64) 63)

begins_chunk : (n : ℕ) → (n + 1) * 64 % 64 ≡ 0
begins_chunk n = omega (arith, div-add-mod' ((n + 1) * 64) 64)

ends_chunk : (n : ℕ) → (n * 64 + 63) % 64 ≡ 63
ends_chunk n = omega (arith, div-add-mod' (n * 64 + 63) 64)

-- ---- the gaps after a span that was put or taken away

later_inserted : (from i k : ℕ) (spans : List Span) (new : Span) → Ascend from (insert spans i new) → i ≤ k → i ≤ length spans → gap_before from (insert spans i new) (suc k) ≤ gap_before from spans k
later_inserted from zero k [] new a p q = omega arith
later_inserted from zero zero (s ∷ ss) new a p q = omega (arith, a.0)
later_inserted from zero (suc k) (s ∷ ss) new a p q = omega arith
later_inserted from (suc i) k [] new a p q = absurd (omega arith)
later_inserted from (suc i) zero (s ∷ ss) new a p q = absurd (omega arith)
later_inserted from (suc i) (suc k) (s ∷ ss) new a p q = later_inserted (end_of_span s) i k ss new a.2 (omega arith) (omega arith)

later_removed : (from i k : ℕ) (spans : List Span) → i < k → gap_before from (remove spans i) k ≡ gap_before from spans (suc k)
later_removed from zero k [] p = refl
later_removed from (suc i) k [] p = refl
later_removed from zero zero (s ∷ ss) p = absurd (omega arith)
later_removed from zero (suc k) (s ∷ []) p = refl
later_removed from zero (suc k) (s ∷ (t ∷ ts)) p = refl
later_removed from (suc i) zero (s ∷ ss) p = absurd (omega arith)
later_removed from (suc i) (suc k) (s ∷ ss) p = later_removed (end_of_span s) i k ss (omega arith)

-- what is kept for its chunk bounds every gap but that at the place, and the one that came into each chunk after it
put_later : (spans : List Span) (widest : List ℕ) (at j : ℕ) (new : Span) → AreWidest spans widest → at ≤ length spans → Ascend 0 (insert spans at new) → at ≤ j → ((at / 64 + 1) * 64 ≤ suc j → suc j % 64 ≢ (at / 64 + 1) * 64 % 64) → gap_before 0 (insert spans at new) (suc j) ≤ get_or widest (suc j / 64) 0
put_later spans widest at j new a p asc q h =
    let inner : suc j % 64 ≢ 0 = λ e. h (omega (arith, q, e, div-add-mod' at 64, div-add-mod' (suc j) 64)) (e ∙ sym (begins_chunk (at / 64))) in
    omega (arith, later_inserted 0 at j spans new asc q p, a j, ap (λ (n : ℕ). get_or widest n 0) (chunk_before j inner))

pub kept_put : (spans : List Span) (widest : List ℕ) (at k : ℕ) (new : Span) → AreWidest spans widest → at ≤ length spans → Ascend 0 (insert spans at new) → k ≢ at → ((at / 64 + 1) * 64 ≤ k → k % 64 ≢ (at / 64 + 1) * 64 % 64) → gap_before 0 (insert spans at new) k ≤ get_or widest (k / 64) 0
kept_put spans widest at zero new a p asc e h = ⊎_elim (λ (q : zero < at). omega (arith, gap_inserted 0 at zero spans new q p, a zero)) (λ (q : at ≤ zero). absurd (e (omega (arith, q)))) (cases_lt zero at)
kept_put spans widest at (suc j) new a p asc e h =
    ⊎_elim
    (λ (q : suc j < at). omega (arith, gap_inserted 0 at (suc j) spans new q p, a (suc j)))
    (λ (q : at ≤ suc j). ⊎_elim (λ (r : at < suc j). put_later spans widest at j new a p asc (omega (arith, r)) h) (λ (r : suc j ≤ at). absurd (e (omega (arith, q, r)))) (cases_lt at (suc j)))
    (cases_lt (suc j) at)

taken_later : (spans : List Span) (widest : List ℕ) (at k : ℕ) → AreWidest spans widest → at < k → (at / 64 * 64 + 63 ≤ k → k % 64 ≢ (at / 64 * 64 + 63) % 64) → gap_before 0 (remove spans at) k ≤ get_or widest (k / 64) 0
taken_later spans widest at k a p h =
    let inner : k % 64 ≢ 63 = λ e. h (omega (arith, p, e, div-add-mod' at 64, div-add-mod' k 64)) (e ∙ sym (ends_chunk (at / 64))) in
    omega (arith, later_removed 0 at k spans p, a (suc k), ap (λ (n : ℕ). get_or widest n 0) (chunk_after k inner))

pub kept_taken : (spans : List Span) (widest : List ℕ) (at k : ℕ) → AreWidest spans widest → at ≤ length spans → k ≢ at → (at / 64 * 64 + 63 ≤ k → k % 64 ≢ (at / 64 * 64 + 63) % 64) → gap_before 0 (remove spans at) k ≤ get_or widest (k / 64) 0
kept_taken spans widest at k a p e h =
    ⊎_elim
    (λ (q : k < at). omega (arith, gap_removed 0 at k spans q p, a k))
    (λ (q : at ≤ k). ⊎_elim (λ (r : at < k). taken_later spans widest at k a r h) (λ (r : k ≤ at). absurd (e (omega (arith, q, r)))) (cases_lt at k))
    (cases_lt k at)

-- ---- bounds that are raised

-- by the gap at one place
pub one_raised : (spans : List Span) (old new : List ℕ) (at from k : ℕ) → ((j : ℕ) → j ≢ at → (from ≤ j → j % 64 ≢ from % 64) → gap_before 0 spans j ≤ get_or old (j / 64) 0) → ((j : ℕ) → get_or old j 0 ≤ get_or new j 0) → gap_before 0 spans at ≤ get_or new (at / 64) 0 → (from ≤ k → k % 64 ≢ from % 64) → gap_before 0 spans k ≤ get_or new (k / 64) 0
one_raised spans old new at from k kept more raised h =
    ⊎_elim
    (λ (e : k ≡ at). omega (arith, raised, ap (λ (n : ℕ). gap_before 0 spans n) e, ap (λ (n : ℕ). get_or new (n / 64) 0) e))
    (λ (d : k ≢ at). omega (arith, kept k d h, more (k / 64)))
    (cases_eq k at)

-- and at all
pub all_raised : (spans : List Span) (widest : List ℕ) (next : ℕ) → ((k : ℕ) → (next ≤ k → k % 64 ≢ next % 64) → gap_before 0 spans k ≤ get_or widest (k / 64) 0) → length spans ≤ next → AreWidest spans widest
all_raised spans widest next kept p = λ k.
    ⊎_elim (λ (q : k < next). kept k (λ r e. absurd (omega (arith, q, r)))) (λ (q : next ≤ k). omega (arith, gap_past 0 k spans (omega (arith, p, q)))) (cases_lt k next)

-- ---- a bound that is made narrower: the gaps of its chunk are known

pub narrowed : (spans : List Span) (widest : List ℕ) (chunk width : ℕ) → AreWidest spans widest → chunk < length widest → ((k : ℕ) → chunk * 64 ≤ k → k < chunk * 64 + 64 → gap_before 0 spans k ≤ width) → AreWidest spans (set widest chunk width)
narrowed spans widest chunk width a p known = λ k.
    ⊎_elim
    (λ (e : k / 64 ≡ chunk). omega (arith, known k (omega (arith, e, div-add-mod' k 64)) (omega (arith, e, div-add-mod' k 64)), ap (λ (n : ℕ). get_or (set widest chunk width) n 0) e, get_or-set_same widest chunk width 0 p))
    (λ (d : k / 64 ≢ chunk). omega (arith, a k, get_or-set_other widest chunk (k / 64) width 0 d))
    (cases_eq (k / 64) chunk)

-- ---- where a span fits

-- the chunks that were passed over have no gap that is wide enough
pub chunks_passed : (spans : List Span) (widest : List ℕ) (count from to k : ℕ) → AreWidest spans widest → ((j : ℕ) → from ≤ j → j < to → get_or widest j 0 < count) → ((j : ℕ) → j < from * 64 → gap_before 0 spans j < count) → k < to * 64 → gap_before 0 spans k < count
chunks_passed spans widest count from to k a passed seen p =
    ⊎_elim
    (λ (q : k < from * 64). seen k q)
    (λ (q : from * 64 ≤ k). omega (arith, a k, passed (k / 64) (le-div from k 64 (omega arith) q) (div_below k 64 to (omega arith) p)))
    (cases_lt k (from * 64))

-- one chunk that was walked
pub chunk_walked : (spans : List Span) (count chunk k : ℕ) → ((j : ℕ) → j < chunk * 64 → gap_before 0 spans j < count) → ((j : ℕ) → chunk * 64 ≤ j → j < chunk * 64 + 64 → gap_before 0 spans j < count) → k < (chunk + 1) * 64 → gap_before 0 spans k < count
chunk_walked spans count chunk k seen walked p = ⊎_elim (λ (q : k < chunk * 64). seen k q) (λ (q : chunk * 64 ≤ k). walked k q (omega (arith, p))) (cases_lt k (chunk * 64))

-- a gap that is wide enough, where none before it is
pub fit_here : (spans : List Span) (count chunk at : ℕ) → Ascend 0 spans → ((j : ℕ) → j < chunk * 64 → gap_before 0 spans j < count) → ((j : ℕ) → chunk * 64 ≤ j → j < at → gap_before 0 spans j < count) → at < length spans → count ≤ gap_before 0 spans at → at ≡ first_fit 0 count spans
fit_here spans count chunk at a seen walked p wide =
    sym (fit_is 0 count spans at a (omega (arith, p)) (λ k q. ⊎_elim (λ (r : k < chunk * 64). seen k r) (λ (r : chunk * 64 ≤ k). walked k r q) (cases_lt k (chunk * 64))) (λ q. wide))

-- none
pub fit_none : (spans : List Span) (count chunk n : ℕ) → Ascend 0 spans → ((j : ℕ) → j < chunk * 64 → gap_before 0 spans j < count) → n ≡ length spans → n ≤ chunk * 64 → n ≡ first_fit 0 count spans
fit_none spans count chunk n a seen e p =
    sym (fit_is 0 count spans n a (omega (arith, e)) (λ k q. seen k (omega (arith, q, p))) (λ q. absurd (omega (arith, q, e))))
