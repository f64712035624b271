-- What the walks over the spans find.
use Rattle.std.proofs.Common.{◌≡◌, ◌≢◌, ℕ, zero, suc, ◌+◌, ◌-◌, ◌/◌, ◌<◌, ◌≤◌, Bool, true, false, List, length, get_or, take, refl, ap, sym, ◌∙◌, arith}
use Rattle.std.specs.Prelude.{nat_lt}
use Rattle.std.proofs.lemmas.List.{get_or_default}
use Rattle.std.proofs.lemmas.Nat.{div_below}
use Rattle.b67_list.proofs.Numbers.{ltb_false, ltb_true}
use Rattle.b67_flat.specs.declared.Span.{Span}
use Rattle.b67_flat.specs.Spans.{end_of_span, Ascend, end_after, gap_before}
use Rattle.b67_flat.proofs.Fits.{end_next, gap_is, gap_past, begins_after, places_ascend}

-- where the spans before this one end, by the one before it
pub end_by : (spans : List Span) (at : ℕ) (s : Span) → at ≢ 0 → at ≤ length spans → s ≡ get_or spans (at - 1) s → end_after 0 (take at spans) ≡ s.place + s.length
end_by spans zero s z p e = absurd (z refl)
end_by spans (suc k) s z p e =
    let j : k ≡ suc k - 1 = omega arith in
    end_next 0 k spans s (omega arith) ∙ ap end_of_span (ap (λ (n : ℕ). get_or spans n s) j ∙ sym e)

pub gap_by : (spans : List Span) (at : ℕ) (s : Span) → at < length spans → s ≡ get_or spans at s → gap_before 0 spans at ≡ s.place - end_after 0 (take at spans)
gap_by spans at s p e = gap_is 0 at spans s p ∙ ap (λ (z : Span). z.place - end_after 0 (take at spans)) (sym e)

pub begins_by : (spans : List Span) (at : ℕ) (s : Span) → Ascend 0 spans → at < length spans → s ≡ get_or spans at s → end_after 0 (take at spans) ≤ s.place
begins_by spans at s a p e = omega (arith, begins_after 0 at spans s a p, ap (λ (z : Span). z.place) e)

-- the widest of a chunk, once all its spans were looked at
chunk_case : (spans : List Span) (first at most widest k : ℕ) (b : Bool) → nat_lt k at ≡ b → ((j : ℕ) → first ≤ j → j < at → gap_before 0 spans j ≤ widest) → (at < length spans → first + most ≤ at) → first ≤ k → k < first + most → gap_before 0 spans k ≤ widest
chunk_case spans first at most widest k true e seen all p q = seen k p (ltb_true k at e)
chunk_case spans first at most widest k false e seen all p q = end_case (nat_lt at (length spans)) refl
  where
    end_case : (b : Bool) → nat_lt at (length spans) ≡ b → gap_before 0 spans k ≤ widest
    end_case true f = absurd (omega (arith, all (ltb_true at (length spans) f), ltb_false k at e))
    end_case false f = omega (arith, gap_past 0 k spans (omega (arith, ltb_false at (length spans) f, ltb_false k at e)))

pub chunk_done : (spans : List Span) (first at most widest k : ℕ) → ((j : ℕ) → first ≤ j → j < at → gap_before 0 spans j ≤ widest) → (at < length spans → first + most ≤ at) → first ≤ k → k < first + most → gap_before 0 spans k ≤ widest
chunk_done spans first at most widest k seen all p q = chunk_case spans first at most widest k (nat_lt k at) refl seen all p q

-- halving the spans by one of them
pub lower_half : (spans : List Span) (place middle k : ℕ) (s d : Span) → Ascend 0 spans → middle < length spans → s ≡ get_or spans middle s → s.place < place → k < middle + 1 → (get_or spans k d).place < place
lower_half spans place middle k s d a p e q r =
    omega (arith, places_ascend 0 k middle spans d a (omega (arith, r)) p, ap (λ (z : Span). z.place) (get_or_default spans middle d s p), ap (λ (z : Span). z.place) e, q)

pub upper_half : (spans : List Span) (place middle k : ℕ) (s d : Span) → Ascend 0 spans → middle < length spans → s ≡ get_or spans middle s → place ≤ s.place → middle ≤ k → k < length spans → place ≤ (get_or spans k d).place
upper_half spans place middle k s d a p e q r t =
    omega (arith, places_ascend 0 middle k spans d a r t, ap (λ (z : Span). z.place) (get_or_default spans middle d s p), ap (λ (z : Span). z.place) e, q)

pub half_below : (low high : ℕ) → low < high → low + (high - low) / 2 < high
half_below low high p = omega (arith, div_below (high - low) 2 (high - low) (omega arith) (omega (arith, p)), p)
