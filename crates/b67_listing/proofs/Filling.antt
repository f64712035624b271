-- The operators of a segment, as far as they are listed.
use Rattle.std.proofs.Common.{◌≡◌, ℕ, ◌+◌, ◌<◌, ◌≤◌, Bool, true, false, eqb, List, [], ◌∷◌, ◌++◌, length, drop, map, refl, sym, ap, subst, arith, ◌∙◌, append_assoc}
use Rattle.std.proofs.lemmas.Bool.{eqb-true, eq-eqb, ne_eqb, cond-true, cond-false}
use Rattle.std.proofs.lemmas.List.{append-nil, length-drop, drop-drop, map-append}
use Rattle.b67_ops.specs.declared.TheConstants.{MOST_LEVEL}
use Rattle.b67_ops.specs.declared.Operator.{Operator}
use Rattle.b67_ops.specs.Spelling.{OperatorStands}
use Rattle.b67_ops.proofs.Laws.{Stands_within, Stands_unique}
use Rattle.b67_segment.specs.declared.code.Mark.{Mark}
use Rattle.b67_segment.specs.declared.code.Segment.{Segment}
use Rattle.b67_segment.specs.Syllables.{syllables}
use Rattle.b67_listing.specs.Operators.{ListedOperator, operator_line}
use Rattle.b67_listing.specs.Listings.{StandInOrder, HasOperator, marks_of, IsSegment, HasOperators, passed_mark, AddsOperator, AddsSegment, segment_line}

-- the mark of an operator
abbrev mark_of : ListedOperator → Mark
mark_of p = record { place = p.place; level = p.level }

-- an operator at the level before it has no mark, and another has one
marks_of_same : (before : ℕ) (first : ListedOperator) (more : List ListedOperator) → eqb first.level before ≡ true → marks_of before (first ∷ more) ≡ marks_of first.level more
marks_of_same before first more h = cond-true (eqb first.level before) (marks_of first.level more) (mark_of first ∷ marks_of first.level more) h

marks_of_other : (before : ℕ) (first : ListedOperator) (more : List ListedOperator) → eqb first.level before ≡ false → marks_of before (first ∷ more) ≡ mark_of first ∷ marks_of first.level more
marks_of_other before first more h = cond-false (eqb first.level before) (marks_of first.level more) (mark_of first ∷ marks_of first.level more) h

-- the first mark stands at the first operator, or it is the first mark of those after it
marks_first : (bytes : List ℕ) (at before : ℕ) (first : ListedOperator) (more : List ListedOperator) (mark : Mark) (marks : List Mark) (filled : StandInOrder bytes at (first ∷ more)) →
    (marks_of first.level more ≡ mark ∷ marks → filled.3.0 ≤ mark.place) → (b : Bool) → eqb first.level before ≡ b → marks_of before (first ∷ more) ≡ mark ∷ marks → at ≤ mark.place
marks_first bytes at before first more mark marks filled later true e h =
    let after = later (sym (marks_of_same before first more e) ∙ h) in
    let within = Stands_within filled.3.1 in
    omega arith
marks_first bytes at before first more mark marks filled later false e h =
    let lists : mark_of first ∷ marks_of first.level more ≡ mark ∷ marks = sym (marks_of_other before first more e) ∙ h in
    let same : mark_of first ≡ mark = cc in
    let place : first.place ≡ mark.place = ap (λ (m : Mark). m.place) same in
    let here = filled.0 in
    omega arith

-- marks stand at the places of operators
marks_within : (bytes : List ℕ) (at before : ℕ) (operators : List ListedOperator) (mark : Mark) (marks : List Mark) → StandInOrder bytes at operators → marks_of before operators ≡ mark ∷ marks → at ≤ mark.place
marks_within bytes at before [] mark marks filled h = let e : [] ≡ mark ∷ marks = h in cc
marks_within bytes at before (first ∷ more) mark marks filled h =
    marks_first bytes at before first more mark marks filled (marks_within bytes filled.3.0 first.level more mark marks filled.3.2) (eqb first.level before) refl h

-- what passing a place gives: the level of the operator there, and the marks of those after it
pub record Passed (marks : List Mark) (first : ListedOperator) (more : List ListedOperator) (found : ℕ × ℕ) : Type 0 where
  pub level : found.0 ≡ first.level
  pub left : drop found.1 marks ≡ marks_of first.level more
  pub within : found.1 ≤ length marks

-- where no mark is at the place
pass_none : (list : List Mark) (passed at level : ℕ) → ((mark : Mark) (marks : List Mark) → list ≡ mark ∷ marks → at < mark.place) → passed_mark list passed at level ≡ (level, passed)
pass_none [] passed at level h = refl
pass_none (mark ∷ marks) passed at level h =
    let far = h mark marks refl in
    cond-false (eqb mark.place at) (mark.level, passed + 1) (level, passed) (ne_eqb mark.place at (λ e. omega arith))

-- where one is
pass_one : (mark : Mark) (marks : List Mark) (passed at level : ℕ) → mark.place ≡ at → passed_mark (mark ∷ marks) passed at level ≡ (mark.level, passed + 1)
pass_one mark marks passed at level h = cond-true (eqb mark.place at) (mark.level, passed + 1) (level, passed) (eq-eqb mark.place at h)

pass : (bytes : List ℕ) (at passed level : ℕ) (marks : List Mark) (first : ListedOperator) (more : List ListedOperator) (b : Bool) → eqb first.level level ≡ b → StandInOrder bytes at (first ∷ more) →
    drop passed marks ≡ marks_of level (first ∷ more) → passed ≤ length marks → Passed marks first more (passed_mark (drop passed marks) passed at level)
pass bytes at passed level marks first more true e filled marked within =
    let list : drop passed marks ≡ marks_of first.level more = marked ∙ marks_of_same level first more e in
    let inside = Stands_within filled.3.1 in
    let none : passed_mark (drop passed marks) passed at level ≡ (level, passed) = pass_none (drop passed marks) passed at level (λ mark rest is.
    let after = marks_within bytes filled.3.0 first.level more mark rest filled.3.2 (sym list ∙ is) in omega arith) in
    rw none record { level = sym (eqb-true first.level level e); left = list; within = within }
pass bytes at passed level marks first more false e filled marked within =
    let list : drop passed marks ≡ mark_of first ∷ marks_of first.level more = marked ∙ marks_of_other level first more e in
    let one : passed_mark (drop passed marks) passed at level ≡ (first.level, passed + 1) =
    ap (λ ms. passed_mark ms passed at level) list ∙ pass_one (mark_of first) (marks_of first.level more) passed at level filled.0 in
    let rest : drop (passed + 1) marks ≡ marks_of first.level more = sym (drop-drop 1 passed marks) ∙ ap (drop 1) list in
    let long : length (drop passed marks) ≡ 1 + length (marks_of first.level more) = ap length list ∙ omega arith in
    rw one record { level = refl; left = rest; within = omega (arith, length-drop passed marks) }

-- these operators are passed and others are left, and so many marks are passed
pub record Progress (segment : Segment) (bytes : List ℕ) (at passed level : ℕ) (before : List ListedOperator) : Type 0 where
  pub left : List ListedOperator
  pub are_bytes : bytes ≡ syllables segment.words
  pub segment_is : IsSegment segment (before ++ left)
  pub filled : StandInOrder bytes at left
  pub marked : drop passed segment.marks ≡ marks_of level left
  pub within : passed ≤ length segment.marks

-- before the first operator
pub begins : (segment : Segment) (bytes : List ℕ) → HasOperators segment → bytes ≡ syllables segment.words → Progress segment bytes 0 0 0 []
begins segment bytes has are = record {
  left = has.0;
  are_bytes = are;
  segment_is = has.1;
  filled = rw are (has.1.filled);
  marked = has.1.marked;
  within = omega arith;
}

-- the operator at a place is passed
pub record Passes (segment : Segment) (bytes : List ℕ) (at : ℕ) (before : List ListedOperator) (found : ℕ × ℕ) : Type 0 where
  pub most : found.0 ≤ MOST_LEVEL
  pub stands : HasOperator bytes at found.0
  pub goes_on : (operator : Operator) (next : ℕ) → OperatorStands bytes at found.0 operator next →
      Progress segment bytes next found.1 found.0 (before ++ record { place = at; level = found.0; operator = operator } ∷ [])

-- an operator that stands at the same place and level
same_placed : (first : ListedOperator) (at level : ℕ) (operator : Operator) → first.place ≡ at → level ≡ first.level → first.operator ≡ operator →
    ◌≡◌ {A = ListedOperator} record { place = at; level = level; operator = operator } first
same_placed first at level operator place same op =
    ap (λ k. let p : ListedOperator = record { place = k; level = level; operator = operator } in p) (sym place)
    ∙ ap (λ k. let p : ListedOperator = record { place = first.place; level = k; operator = operator } in p) same
    ∙ ap (λ o. let p : ListedOperator = record { place = first.place; level = first.level; operator = o } in p) (sym op)

passes_of : (segment : Segment) (bytes : List ℕ) (at passed level : ℕ) (before : List ListedOperator) (p : Progress segment bytes at passed level before) (left : List ListedOperator) → p.left ≡ left → at < length bytes →
    Passes segment bytes at before (passed_mark (drop passed segment.marks) passed at level)
passes_of segment bytes at passed level before p [] is inside = let filled = rw is at p.filled in absurd (omega arith)
passes_of segment bytes at passed level before p (first ∷ more) is inside =
    let filled = rw is at p.filled in
    let marked = rw is at p.marked in
    let segment_is = rw is at p.segment_is in
    let found = passed_mark (drop passed segment.marks) passed at level in
    let went : Passed segment.marks first more found = pass bytes at passed level segment.marks first more (eqb first.level level) refl filled marked p.within in
    record {
      most = rw (went.level) (filled.2);
      stands = (first.operator, filled.3.0, rw (went.level) (filled.3.1));
      goes_on = λ operator next there.
          let stands : OperatorStands bytes at first.level operator next = rw (went.level) at there in
          let one = Stands_unique filled.2 filled.3.1 stands in
          let same = same_placed first at found.0 operator filled.0 went.level one.0 in
          record {
            left = more;
            are_bytes = p.are_bytes;
            segment_is =
                subst (λ (o : ListedOperator). IsSegment segment ((before ++ o ∷ []) ++ more)) (sym same)
                (rw (append_assoc before (first ∷ []) more) segment_is);
            filled = subst (λ k. StandInOrder bytes k more) one.1 filled.3.2;
            marked = went.left ∙ ap (λ l. marks_of l more) (sym went.level);
            within = went.within;
          };
    }

pub passes : (segment : Segment) (bytes : List ℕ) (at passed level : ℕ) (before : List ListedOperator) (found : ℕ × ℕ) → Progress segment bytes at passed level before → at < length bytes →
    found ≡ passed_mark (drop passed segment.marks) passed at level → Passes segment bytes at before found
passes segment bytes at passed level before found p inside is = rw is (passes_of segment bytes at passed level before p p.left refl inside)

-- after the last operator
passed_of : (segment : Segment) (bytes : List ℕ) (at passed level : ℕ) (before : List ListedOperator) (p : Progress segment bytes at passed level before) (left : List ListedOperator) → p.left ≡ left → length bytes ≤ at →
    IsSegment segment before
passed_of segment bytes at passed level before p [] is outside = rw (append-nil before) at (rw is at p.segment_is)
passed_of segment bytes at passed level before p (first ∷ more) is outside =
    let filled = rw is at p.filled in let within = Stands_within filled.3.1 in absurd (omega arith)

pub all_passed : (segment : Segment) (bytes : List ℕ) (at passed level : ℕ) (before : List ListedOperator) → Progress segment bytes at passed level before → length bytes ≤ at → IsSegment segment before
all_passed segment bytes at passed level before p outside = passed_of segment bytes at passed level before p p.left refl outside

-- ---- as far as they are listed

pub record Listed (segment : Segment) (bytes : List ℕ) (at passed level : ℕ) (old new : List (List ℕ)) : Type 0 where
  pub before : List ListedOperator
  pub progress : Progress segment bytes at passed level before
  pub added : new ≡ old ++ map operator_line before

pub starts : (segment : Segment) (bytes : List ℕ) (lines : List (List ℕ)) → HasOperators segment → bytes ≡ syllables segment.words → Listed segment bytes 0 0 0 lines lines
starts segment bytes lines has are = record { before = []; progress = begins segment bytes has are; added = sym (append-nil lines) }

-- the line of the operator at a place is added
pub record Turn (segment : Segment) (bytes : List ℕ) (at : ℕ) (old new : List (List ℕ)) (found : ℕ × ℕ) : Type 0 where
  pub most : found.0 ≤ MOST_LEVEL
  pub stands : HasOperator bytes at found.0
  pub goes_on : (next : ℕ) (after : List (List ℕ)) → AddsOperator bytes at found.0 new after next → Listed segment bytes next found.1 found.0 old after

pub turn : (segment : Segment) (bytes : List ℕ) (at passed level : ℕ) (old new : List (List ℕ)) (found : ℕ × ℕ) → Listed segment bytes at passed level old new → at < length bytes →
    found ≡ passed_mark (drop passed segment.marks) passed at level → Turn segment bytes at old new found
turn segment bytes at passed level old new found listed inside is =
    let went = passes segment bytes at passed level listed.before found listed.progress inside is in
    record {
      most = went.most;
      stands = went.stands;
      goes_on = λ next after adds.
          let placed : ListedOperator = record { place = at; level = found.0; operator = adds.operator } in
          record {
            before = listed.before ++ placed ∷ [];
            progress = went.goes_on adds.operator next adds.stands;
            added = adds.added ∙ ap (λ ls. ls ++ operator_line placed ∷ []) listed.added
                ∙ append_assoc old (map operator_line listed.before) (operator_line placed ∷ []) ∙ ap (λ ls. old ++ ls) (sym (map-append operator_line listed.before (placed ∷ [])));
          };
    }

-- after the last operator
pub ended : (segment : Segment) (bytes : List ℕ) (at passed level number : ℕ) (lines old new : List (List ℕ)) → Listed segment bytes at passed level old new → length bytes ≤ at →
    old ≡ lines ++ segment_line number (length segment.words) ∷ [] → AddsSegment number segment lines new
ended segment bytes at passed level number lines old new listed outside head =
    record {
      operators = listed.before;
      segment_is = all_passed segment bytes at passed level listed.before listed.progress outside;
      added = listed.added ∙ ap (λ ls. ls ++ map operator_line listed.before) head ∙ append_assoc lines (segment_line number (length segment.words) ∷ []) (map operator_line listed.before);
    }
