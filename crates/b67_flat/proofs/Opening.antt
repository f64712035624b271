-- What opening a span leaves.
use Rattle.std.proofs.Common.{◌≡◌, ℕ, zero, suc, ◌+◌, ◌-◌, ◌<◌, ◌≤◌, Bool, true, false, if◌then◌else◌, List, [], ◌∷◌, ◌++◌, length, get_or, set, take, drop, replicate, refl, ap, sym, ◌∙◌, arith}
use Rattle.std.specs.Prelude.{nat_lt}
use Rattle.std.specs.List.{insert, remove}
use Rattle.std.proofs.lemmas.List.{append_assoc, length-append, length-replicate, length-take-le, drop_more, set_at}
use Rattle.b67_list.proofs.Numbers.{ltb_false, ltb_true}
use Rattle.b67_flat.specs.declared.Span.{Span}
use Rattle.b67_flat.specs.Spans.{end_of_span, Ascend, end_after, gap_before, first_fit, place_for, span_for, span_opened, spans_below, closed}
use Rattle.b67_flat.proofs.Fits.{fit_within, ascend_inserted, end_inserted, end_within}

wide_case : (from count : ℕ) (s : Span) (ss : List Span) (n : ℕ) (b : Bool) → nat_lt s.place (from + count) ≡ b → (n < length ss → count ≤ gap_before (end_of_span s) ss n) → (if b then suc n else 0) < suc (length ss) → count ≤ gap_before from (s ∷ ss) (if b then suc n else 0)
wide_case from count s ss n true e more q = more (omega (arith, q))
wide_case from count s ss n false e more q = omega (arith, ltb_false s.place (from + count) e)

-- the gap at which it fits is wide enough
pub fit_wide : (from count : ℕ) (spans : List Span) → Ascend from spans → first_fit from count spans < length spans → count ≤ gap_before from spans (first_fit from count spans)
fit_wide from count [] a p = absurd (omega arith)
fit_wide from count (s ∷ ss) a p = wide_case from count s ss (first_fit (end_of_span s) count ss) (nat_lt s.place (from + count)) refl (λ q. fit_wide (end_of_span s) count ss a.2 q) p

-- the spans with one more ascend
pub opened_ascend : (count row : ℕ) (spans : List Span) → Ascend 0 spans → 1 ≤ count → Ascend 0 (span_opened count row spans)
opened_ascend count row spans a some = ascend_inserted 0 (first_fit 0 count spans) spans (span_for count row spans) a (fit_within 0 count spans) refl some (fit_wide 0 count spans a)

-- and end within what the words and the new one reach
pub opened_end : (count most row : ℕ) (spans : List Span) → Ascend 0 spans → 1 ≤ count → end_after 0 spans ≤ most → place_for count spans + count ≤ most → end_after 0 (span_opened count row spans) ≤ most
opened_end count most row spans a some p q = end_inserted 0 (first_fit 0 count spans) spans (span_for count row spans) most (opened_ascend count row spans a some) (fit_within 0 count spans) p q

-- the place at which one opens is not beyond the end of all
pub place_within : (count : ℕ) (spans : List Span) → Ascend 0 spans → place_for count spans ≤ end_after 0 spans
place_within count spans a = end_within 0 (first_fit 0 count spans) spans a

self_case : (new : Span) (n : ℕ) (b : Bool) → nat_lt new.place new.place ≡ b → (if b then suc n else 0) ≡ 0
self_case new n true e = absurd (omega (arith, ltb_true new.place new.place e))
self_case new n false e = refl

pub ends_past : (from k : ℕ) (spans : List Span) → Ascend from spans → from ≤ end_after from (take k spans)
ends_past from zero spans a = omega arith
ends_past from (suc k) [] a = omega arith
ends_past from (suc k) (s ∷ ss) a = omega (arith, a.0, ends_past (end_of_span s) k ss a.2)

step_case : (s new : Span) (n i : ℕ) (b : Bool) → nat_lt s.place new.place ≡ b → s.place < new.place → n ≡ i → (if b then suc n else 0) ≡ suc i
step_case s new n i true f q e = ap suc e
step_case s new n i false f q e = absurd (omega (arith, q, ltb_false s.place new.place f))

-- what is closed there again is that one
pub below_opened : (from i : ℕ) (spans : List Span) (new : Span) → Ascend from spans → i ≤ length spans → new.place ≡ end_after from (take i spans) → spans_below new.place (insert spans i new) ≡ i
below_opened from zero spans new a p e = self_case new (spans_below new.place spans) (nat_lt new.place new.place) refl
below_opened from (suc i) [] new a p e = absurd (omega arith)
below_opened from (suc i) (s ∷ ss) new a p e =
    step_case s new (spans_below new.place (insert ss i new)) i (nat_lt s.place new.place) refl (omega (arith, ends_past (end_of_span s) i ss a.2, e, a.1)) (below_opened (end_of_span s) i ss new a.2 (omega (arith, p)) e)

pub removed_again : {X : Type 0} (i : ℕ) (xs : List X) (x : X) → i ≤ length xs → remove (insert xs i x) i ≡ xs
removed_again zero xs x p = refl
removed_again (suc i) [] x p = absurd (omega arith)
removed_again (suc i) (y ∷ ys) x p = ap (λ zs. y ∷ zs) (removed_again i ys x (omega arith))

pub closed_again : (count row : ℕ) (spans : List Span) → Ascend 0 spans → closed (place_for count spans) (span_opened count row spans) ≡ spans
closed_again count row spans a =
    ap (λ k. remove (span_opened count row spans) k) (below_opened 0 (first_fit 0 count spans) spans (span_for count row spans) a (fit_within 0 count spans) refl) ∙ removed_again (first_fit 0 count spans) spans (span_for count row spans) (fit_within 0 count spans)

-- ---- operands 0 in their place

shifted : {X : Type 0} (n : ℕ) (z : X) (xs : List X) → replicate n z ++ z ∷ xs ≡ replicate (suc n) z ++ xs
shifted zero z xs = refl
shifted (suc n) z xs = ap (λ ys. z ∷ ys) (shifted n z xs)

-- one place more
pub zero_more : {X : Type 0} (words : List X) (place i : ℕ) (z : X) → place + i < length words → set (take place words ++ (replicate i z ++ drop (place + i) words)) (place + i) z ≡ take place words ++ (replicate (suc i) z ++ drop (place + i + 1) words)
zero_more {X = X} words place i z p =
    let front = take place words ++ replicate i z in
    let rest = drop (place + i + 1) words in
    let w = get_or words (place + i) z in
    let size : length (take place words ++ replicate i z) ≡ place + i = omega (arith, length-append (take place words) (replicate i z), length-take-le place words (omega arith), length-replicate i z) in
    ap (λ (ws : List X). set (take place words ++ (replicate i z ++ ws)) (place + i) z) (drop_more words (place + i) z p)
    ∙ ap (λ (ws : List X). set ws (place + i) z) (sym (append_assoc (take place words) (replicate i z) (w ∷ rest)))
    ∙ set_at (take place words ++ replicate i z) w rest z (place + i) size
    ∙ append_assoc (take place words) (replicate i z) (z ∷ rest)
    ∙ ap (λ (ws : List X). take place words ++ ws) (shifted i z rest)

-- and where the words are counted from their places
pub zero_step : {X : Type 0} (words begun : List X) (place at : ℕ) (z : X) → place ≤ at → at < length begun → words ≡ take place begun ++ (replicate (at - place) z ++ drop at begun) → set words at z ≡ take place begun ++ (replicate (at + 1 - place) z ++ drop (at + 1) begun)
zero_step {X = X} words begun place at z p q e =
    let k : at ≡ place + (at - place) = omega arith in
    let i : suc (at - place) ≡ at + 1 - place = omega arith in
    let j : place + (at - place) + 1 ≡ at + 1 = omega arith in
    ap (λ (ws : List X). set ws at z) e
    ∙ ap (λ (n : ℕ). set (take place begun ++ (replicate (at - place) z ++ drop n begun)) n z) k
    ∙ zero_more begun place (at - place) z (omega arith)
    ∙ ap (λ (n : ℕ). take place begun ++ (replicate n z ++ drop (place + (at - place) + 1) begun)) i
    ∙ ap (λ (n : ℕ). take place begun ++ (replicate (at + 1 - place) z ++ drop n begun)) j
