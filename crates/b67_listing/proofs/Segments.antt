-- The lines of segments, one more.
use Rattle.std.proofs.Common.{◌≡◌, ℕ, ◌+◌, ◌<◌, List, [], ◌∷◌, ◌++◌, length, get_or, take, sym, ap, subst, arith, ◌∙◌, append_assoc}
use Rattle.std.proofs.lemmas.List.{append-nil, take_more, length-take-le}
use Rattle.b67_segment.specs.declared.code.Segment.{Segment}
use Rattle.b67_listing.specs.Operators.{ListedOperator}
use Rattle.b67_listing.specs.Listings.{IsSegment, SegmentsText, none, more, segment_lines, AddsSegment, AddsSegments}

-- segments and one more after them
pub SegmentsText_push : (number : ℕ) (segments : List Segment) (lines : List (List ℕ)) (last : Segment) (operators : List ListedOperator) → SegmentsText number segments lines → IsSegment last operators →
    SegmentsText number (segments ++ last ∷ []) (lines ++ segment_lines (number + length segments) last operators)
SegmentsText_push number _ _ last operators (none n) is =
    let same : number ≡ number + 0 = omega arith in
    subst (λ ls. SegmentsText number (last ∷ []) ls) (append-nil (segment_lines number last operators) ∙ ap (λ k. segment_lines k last operators) same)
    (more number last operators [] [] is (none (number + 1)))
SegmentsText_push number _ _ last operators (more n segment ops segments lines first rest) is =
    let same : number + 1 + length segments ≡ number + length (segment ∷ segments) = omega arith in
    let later = segment_lines (number + 1 + length segments) last operators in
    subst (λ ls. SegmentsText number (segment ∷ (segments ++ last ∷ [])) ls)
    (sym (append_assoc (segment_lines number segment ops) lines later) ∙ ap (λ k. segment_lines number segment ops ++ lines ++ segment_lines k last operators) same)
    (more number segment ops (segments ++ last ∷ []) (lines ++ later) first (SegmentsText_push (number + 1) segments lines last operators rest is))

pub segments_none : (segments : List Segment) (lines : List (List ℕ)) → AddsSegments 0 (take 0 segments) lines lines
segments_none segments lines = record { lines = []; listed = none 0; added = sym (append-nil lines) }

-- the segments so far, and the next one
pub segments_more : (segments : List Segment) (i : ℕ) (segment : Segment) (old middle new : List (List ℕ)) → i < length segments → segment ≡ get_or segments i segment →
    AddsSegments 0 (take i segments) old middle → AddsSegment i segment middle new → AddsSegments 0 (take (i + 1) segments) old new
segments_more segments i segment old middle new inside is before after =
    let taken : take (i + 1) segments ≡ take i segments ++ segment ∷ [] = take_more segments i segment inside ∙ ap (λ s. take i segments ++ s ∷ []) (sym is) in
    let count : 0 + length (take i segments) ≡ i = omega (arith, length-take-le i segments) in
    let pushed = SegmentsText_push 0 (take i segments) before.lines segment after.operators before.listed after.segment_is in
    record {
      lines = before.lines ++ segment_lines i segment after.operators;
      listed = rw taken (rw count at pushed);
      added = after.added ∙ ap (λ ls. ls ++ segment_lines i segment after.operators) before.added ∙ append_assoc old before.lines (segment_lines i segment after.operators);
    }
