-- The lines of segments.
use Rattle.std.proofs.Common.{◌≡◌, ℕ, ◌+◌, List, [], ◌∷◌, ◌++◌, ap, subst, ◌∙◌}
use Rattle.std.proofs.lemmas.List.{append-nil}
use Rattle.b67_segment.specs.declared.code.Segment.{Segment}
use Rattle.b67_listing.specs.Operators.{ListedOperator}
use Rattle.b67_listing.specs.Listings.{IsSegment, SegmentsText, none, more, segment_lines}

-- the lines of one segment
pub record OneListed (segment : Segment) (lines : List (List ℕ)) : Type 0 where
  pub number : ℕ
  pub operators : List ListedOperator
  pub segment_is : IsSegment segment operators
  pub are : lines ≡ segment_lines number segment operators

one_by : (n number : ℕ) (segment other : Segment) (ops : List ListedOperator) (segments : List Segment) (lines : List (List ℕ)) → SegmentsText n segments lines → segments ≡ [] → segment ≡ other →
    IsSegment segment ops → OneListed other (segment_lines number segment ops ++ lines)
one_by _ number segment other ops _ _ (none n) past same is =
    record { number = number; operators = ops; segment_is = subst (λ s. IsSegment s ops) same is; are = append-nil (segment_lines number segment ops) ∙ ap (λ s. segment_lines number s ops) same }
one_by _ number segment other ops _ _ (more n s os ss ls first rest) past same is = absurd (cc)

pub one_listed : (n : ℕ) (segments : List Segment) (lines : List (List ℕ)) (segment : Segment) → SegmentsText n segments lines → segments ≡ segment ∷ [] → OneListed segment lines
one_listed _ _ _ segment (none n) one = absurd (cc)
one_listed _ _ _ segment (more n s ops ss ls first rest) one =
    let heads : s ≡ segment = cc in
    let tails : ss ≡ [] = cc in
    one_by (n + 1) n s segment ops ss ls rest tails heads first
