-- Where a span fits, and what opening and closing leave.
use Rattle.std.proofs.Common.{◌≡◌, ℕ, zero, suc, ◌+◌, ◌-◌, ◌<◌, ◌≤◌, Bool, true, false, if◌then◌else◌, List, [], ◌∷◌, length, get_or, take, refl, ap, arith, rules}
use Rattle.std.specs.Prelude.{nat_lt}
use Rattle.std.specs.List.{insert, remove}
use Rattle.b67_list.proofs.Numbers.{ltb_less, ltb_not_less}
use Rattle.b67_flat.specs.declared.Span.{Span}
use Rattle.b67_flat.specs.Spans.{end_of_span, Ascend, end_after, gap_before, first_fit, spans_below}

-- ---- where spans end

-- they end no earlier than they begin
pub ends_later : (from : ℕ) (spans : List Span) → Ascend from spans → from ≤ end_after from spans
ends_later from [] a = omega arith
ends_later from (s ∷ ss) a = omega (arith, a.0, ends_later (end_of_span s) ss a.2)

-- from an earlier place on they ascend too
pub from_earlier : (from less : ℕ) (spans : List Span) → less ≤ from → Ascend from spans → Ascend less spans
from_earlier from less [] p a = a
from_earlier from less (s ∷ ss) p a = (omega (arith, a.0), a.1, a.2)

-- where the spans before one end, by that one before it
pub end_next : (from k : ℕ) (spans : List Span) (d : Span) → k < length spans → end_after from (take (suc k) spans) ≡ end_of_span (get_or spans k d)
end_next from k [] d p = absurd (omega arith)
end_next from zero (s ∷ ss) d p = refl
end_next from (suc k) (s ∷ ss) d p = end_next (end_of_span s) k ss d (omega arith)

-- the spans before one end no later than all do
pub end_within : (from k : ℕ) (spans : List Span) → Ascend from spans → end_after from (take k spans) ≤ end_after from spans
end_within from zero spans a = ends_later from spans a
end_within from (suc k) [] a = omega arith
end_within from (suc k) (s ∷ ss) a = end_within (end_of_span s) k ss a.2

-- nor after that one begins
pub begins_after : (from k : ℕ) (spans : List Span) (d : Span) → Ascend from spans → k < length spans → end_after from (take k spans) ≤ (get_or spans k d).place
begins_after from k [] d a p = absurd (omega arith)
begins_after from zero (s ∷ ss) d a p = a.0
begins_after from (suc k) (s ∷ ss) d a p = begins_after (end_of_span s) k ss d a.2 (omega arith)

-- the gap before a span
pub gap_is : (from k : ℕ) (spans : List Span) (d : Span) → k < length spans → gap_before from spans k ≡ (get_or spans k d).place - end_after from (take k spans)
gap_is from k [] d p = absurd (omega arith)
gap_is from zero (s ∷ ss) d p = refl
gap_is from (suc k) (s ∷ ss) d p = gap_is (end_of_span s) k ss d (omega arith)

pub gap_past : (from k : ℕ) (spans : List Span) → length spans ≤ k → gap_before from spans k ≡ 0
gap_past from k [] p = refl
gap_past from zero (s ∷ ss) p = absurd (omega arith)
gap_past from (suc k) (s ∷ ss) p = gap_past (end_of_span s) k ss (omega arith)

-- the gaps before the spans below one stay, whatever comes before it or is taken away
pub gap_inserted : (from i k : ℕ) (spans : List Span) (new : Span) → k < i → i ≤ length spans → gap_before from (insert spans i new) k ≡ gap_before from spans k
gap_inserted from zero k spans new p q = absurd (omega arith)
gap_inserted from (suc i) k [] new p q = absurd (omega arith)
gap_inserted from (suc i) zero (s ∷ ss) new p q = refl
gap_inserted from (suc i) (suc k) (s ∷ ss) new p q = gap_inserted (end_of_span s) i k ss new (omega arith) (omega arith)

pub gap_removed : (from i k : ℕ) (spans : List Span) → k < i → i ≤ length spans → gap_before from (remove spans i) k ≡ gap_before from spans k
gap_removed from zero k spans p q = absurd (omega arith)
gap_removed from (suc i) k [] p q = absurd (omega arith)
gap_removed from (suc i) zero (s ∷ ss) p q = refl
gap_removed from (suc i) (suc k) (s ∷ ss) p q = gap_removed (end_of_span s) i k ss (omega arith) (omega arith)

-- ---- where one fits

-- the first gap that is wide enough is where it fits
pub fit_is : (from count : ℕ) (spans : List Span) (i : ℕ) → Ascend from spans → i ≤ length spans → ((k : ℕ) → k < i → gap_before from spans k < count) → (i < length spans → count ≤ gap_before from spans i) → first_fit from count spans ≡ i
fit_is from count [] zero a p narrow wide = refl
fit_is from count [] (suc i) a p narrow wide = absurd (omega arith)
fit_is from count (s ∷ ss) zero a p narrow wide =
    let w : count ≤ s.place - from = wide (omega arith) in
    rw (ltb_not_less s.place (from + count) (omega (arith, w, a.0))) refl
fit_is from count (s ∷ ss) (suc i) a p narrow wide =
    let n : s.place - from < count = narrow 0 (omega arith) in
    rw (ltb_less s.place (from + count) (omega (arith, n, a.0))) (ap suc (fit_is (end_of_span s) count ss i a.2 (omega arith) (λ k q. narrow (suc k) (omega arith)) (λ q. wide (omega arith))))

pub fit_within : (from count : ℕ) (spans : List Span) → first_fit from count spans ≤ length spans
fit_within from count [] = omega arith
fit_within from count (s ∷ ss) = fit_case (nat_lt s.place (from + count)) (first_fit (end_of_span s) count ss) (length ss) (fit_within (end_of_span s) count ss) where
  fit_case : (b : Bool) (n m : ℕ) → n ≤ m → (if b then suc n else 0) ≤ suc m
  fit_case true n m p = omega arith
  fit_case false n m p = omega arith

-- ---- what is below a place

pub below_is : (place : ℕ) (spans : List Span) (i : ℕ) → i ≤ length spans → ((k : ℕ) (d : Span) → k < i → (get_or spans k d).place < place) → ((d : Span) → i < length spans → place ≤ (get_or spans i d).place) → spans_below place spans ≡ i
below_is place [] zero p low high = refl
below_is place [] (suc i) p low high = absurd (omega arith)
below_is place (s ∷ ss) zero p low high = rw (ltb_not_less s.place place (high s (omega arith))) refl
below_is place (s ∷ ss) (suc i) p low high = rw (ltb_less s.place place (low 0 s (omega arith))) (ap suc (below_is place ss i (omega arith) (λ k d q. low (suc k) d (omega arith)) (λ d q. high d (omega arith))))

-- places ascend
pub places_ascend : (from j k : ℕ) (spans : List Span) (d : Span) → Ascend from spans → j ≤ k → k < length spans → (get_or spans j d).place ≤ (get_or spans k d).place
places_ascend from j k [] d a p q = absurd (omega arith)
places_ascend from zero zero (s ∷ ss) d a p q = omega arith
places_ascend from zero (suc k) (s ∷ ss) d a p q = omega (arith, begins_after (end_of_span s) k ss d a.2 (omega arith), end_later_front (end_of_span s) k ss a.2)
  where
    end_later_front : (from k : ℕ) (spans : List Span) → Ascend from spans → from ≤ end_after from (take k spans)
    end_later_front from zero spans a = omega arith
    end_later_front from (suc k) [] a = omega arith
    end_later_front from (suc k) (s ∷ ss) a = omega (arith, a.0, end_later_front (end_of_span s) k ss a.2)
places_ascend from (suc j) zero (s ∷ ss) d a p q = absurd (omega arith)
places_ascend from (suc j) (suc k) (s ∷ ss) d a p q = places_ascend (end_of_span s) j k ss d a.2 (omega arith) (omega arith)

-- ---- what opening and closing leave

pub ascend_inserted : (from i : ℕ) (spans : List Span) (new : Span) → Ascend from spans → i ≤ length spans → new.place ≡ end_after from (take i spans) → 1 ≤ new.length → (i < length spans → new.length ≤ gap_before from spans i) → Ascend from (insert spans i new)
ascend_inserted from zero [] new a p e some wide = (omega (arith, e), some, search rules)
ascend_inserted from (suc i) [] new a p e some wide = absurd (omega arith)
ascend_inserted from zero (s ∷ ss) new a p e some wide =
    let w : new.length ≤ s.place - from = wide (omega arith) in
    (omega (arith, e), some, (omega (arith, w, e, a.0), a.1, a.2))
ascend_inserted from (suc i) (s ∷ ss) new a p e some wide = (a.0, a.1, ascend_inserted (end_of_span s) i ss new a.2 (omega arith) e some (λ q. wide (omega arith)))

pub ascend_removed : (from i : ℕ) (spans : List Span) → Ascend from spans → Ascend from (remove spans i)
ascend_removed from zero [] a = a
ascend_removed from (suc i) [] a = a
ascend_removed from zero (s ∷ ss) a = from_earlier (end_of_span s) from ss (omega (arith, a.0)) a.2
ascend_removed from (suc i) (s ∷ ss) a = (a.0, a.1, ascend_removed (end_of_span s) i ss a.2)

pub end_removed : (from i : ℕ) (spans : List Span) → Ascend from spans → end_after from (remove spans i) ≤ end_after from spans
end_removed from zero [] a = omega arith
end_removed from (suc i) [] a = omega arith
end_removed from zero (s ∷ ss) a = sooner from (end_of_span s) ss (omega (arith, a.0))
  where
    sooner : (from later : ℕ) (spans : List Span) → from ≤ later → end_after from spans ≤ end_after later spans
    sooner from later [] p = p
    sooner from later (s ∷ ss) p = omega arith
end_removed from (suc i) (s ∷ ss) a = end_removed (end_of_span s) i ss a.2

-- the end of all is that of the one that was put last, or stays
pub end_inserted : (from i : ℕ) (spans : List Span) (new : Span) (most : ℕ) → Ascend from (insert spans i new) → i ≤ length spans → end_after from spans ≤ most → end_of_span new ≤ most → end_after from (insert spans i new) ≤ most
end_inserted from zero [] new most a p q r = r
end_inserted from (suc i) [] new most a p q r = absurd (omega arith)
end_inserted from zero (s ∷ ss) new most a p q r = q
end_inserted from (suc i) (s ∷ ss) new most a p q r = end_inserted (end_of_span s) i ss new most a.2 (omega arith) q r

-- spans have words, so there are no more of them than words
pub count_le_end : (from : ℕ) (spans : List Span) → Ascend from spans → from + length spans ≤ end_after from spans
count_le_end from [] a = omega arith
count_le_end from (s ∷ ss) a = omega (arith, a.0, a.1, count_le_end (end_of_span s) ss a.2)
