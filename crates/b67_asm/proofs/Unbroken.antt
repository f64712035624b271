-- Lines that break no rule: their segments have operators, which are no more than fit into one, and their formats fit a line.
use Rattle.std.proofs.Common.{◌≡◌, ℕ, ◌+◌, ◌≤◌, Bool, true, false, List, [], ◌∷◌, ◌++◌, length, Option, Some, None, Result, Ok, Err, refl, sym, ap, subst, arith, ◌∙◌, inl, inr, length-append}
use Rattle.std.specs.Prelude.{nat_lt, if◌then◌else◌}
use Rattle.std.proofs.lemmas.Bool.{cases_Bool, cond-true, cond-false, ltb-false}
use Rattle.b67_ops.specs.declared.TheConstants.{OUTER_LEVEL}
use Rattle.b67_ops.specs.declared.Operator.{Operator as Op}
use Rattle.b67_ops.specs.Spelling.{spelling}
use Rattle.b67_segment.specs.declared.TheConstants.{MOST_SEGMENT_SYLLABLES}
use Rattle.b67_segment.specs.Operators.{Placed, size, text}
use Rattle.b67_asm_text.specs.declared.item.Written.{Written}
use Rattle.b67_asm_text.specs.declared.item.Reading.{Reading}
use Rattle.b67_asm_text.specs.declared.item.Reading.TheVariants.{Blank, NoItem, Segment, Level, Label, Operator, Format}
use Rattle.b67_asm.specs.declared.label.Standing.{Standing}
use Rattle.b67_asm.specs.declared.refusal.Rule.{Rule}
use Rattle.b67_asm.specs.declared.refusal.Rule.TheVariants.{BadLine, Range, SegmentTooLong, EmptySegment}
use Rattle.b67_asm.specs.declared.refusal.Refusal.{Refusal}
use Rattle.b67_asm.specs.Labels.{labels_from, label_named, place_after}
use Rattle.b67_asm.specs.Rules.{Inside, segment_begun, broken_before, broken_in, first_before, first_broken, first_in, first_line, has_segment, is_empty, label_broken, line_moved, nowhere, operator_broken, or_next, resolved}
use Rattle.b67_asm.specs.Assembling.{operators_from, segments_from, with_operator}
use Rattle.b67_asm.proofs.Widths.{width_resolved}

-- ---- one line

-- where a rule is not broken on a line, it is what comes after that breaks none
not_here : (line : ℕ) (rule : Option Rule) (next : Option Refusal) → or_next line rule next ≡ None → (rule ≡ None) × (next ≡ None)
not_here line None next h = (refl, h)
not_here line (Some rule) next h = let r : Refusal = record { line = line; rule = rule } in let clash : Some r ≡ None = h in absurd cc

-- the rule of a format that does not fit
abbrev if_broken : Bool → Rule → Option Rule
if_broken fits rule = if fits then None else Some rule

fits_here : (fits : Bool) (rule : Rule) → if_broken fits rule ≡ None → fits ≡ true
fits_here true rule h = refl
fits_here false rule h = let clash : Some rule ≡ None = h in absurd cc

-- an operator that breaks no rule is resolved, and ends within the longest segment
record IsResolved (labels : List ℕ → Option Standing) (level place : ℕ) (written : Written) : Type 0 where
  operator : Op
  is : resolved labels level written ≡ Ok operator
  within : place_after place written ≤ MOST_SEGMENT_SYLLABLES

resolved_by : (labels : List ℕ → Option Standing) (level place : ℕ) (written : Written) (r : Result Op Rule) → resolved labels level written ≡ r → operator_broken (place_after place written) r ≡ None →
    IsResolved labels level place written
resolved_by labels level place written (Err rule) is h = let clash : Some rule ≡ None = h in absurd cc
resolved_by labels level place written (Ok operator) is h =
    let end = place_after place written in
    elim (cases_Bool (nat_lt MOST_SEGMENT_SYLLABLES end)) [
      | inl long ↦ let clash : Some SegmentTooLong ≡ None = sym (cond-true (nat_lt MOST_SEGMENT_SYLLABLES end) (Some SegmentTooLong) None long) ∙ h in absurd cc
      | inr short ↦ record { operator = operator; is = is; within = ltb-false MOST_SEGMENT_SYLLABLES end short }
    ]

abbrev at : (List ℕ → Option Standing) → ℕ → ℕ → Inside
at labels level place = record { labels = labels; level = level; place = place }

module _ (labels : List ℕ → Option Standing) (level place line : ℕ) (written : Written) (rest : List Reading) (h : first_in (at labels level place) line (Operator written ∷ rest) ≡ None) where
  parts : (operator_broken (place_after place written) (resolved labels level written) ≡ None) × (first_in (at labels level (place_after place written)) (line + 1) rest ≡ None)
  parts = not_here line (operator_broken (place_after place written) (resolved labels level written)) (first_in (at labels level (place_after place written)) (line + 1) rest) h

  is_resolved : IsResolved labels level place written
  is_resolved = resolved_by labels level place written (resolved labels level written) refl parts.0

  abbrev operator_here : Placed
  operator_here = record { level = level; operator = is_resolved.operator }

  operators_are : operators_from labels level (Operator written ∷ rest) ≡ operator_here ∷ operators_from labels level rest
  operators_are = ap (λ (r : Result Op Rule). with_operator level r (operators_from labels level rest)) is_resolved.is

  rest_unbroken : first_in (at labels level (place_after place written)) (line + 1) rest ≡ None
  rest_unbroken = parts.1

-- ---- the lines of a segment

-- its operators end within the longest segment
ends_within : (labels : List ℕ → Option Standing) (level place line : ℕ) (lines : List Reading) → place ≤ MOST_SEGMENT_SYLLABLES → first_in (at labels level place) line lines ≡ None →
    place + length (text place (operators_from labels level lines)) ≤ MOST_SEGMENT_SYLLABLES
ends_within labels level place line [] room h = omega (arith, room)
ends_within labels level place line (Blank ∷ rest) room h = ends_within labels level place (line + 1) rest room h
ends_within labels level place line (NoItem ∷ rest) room h = absurd (let r : Refusal = record { line = line; rule = BadLine } in let clash : Some r ≡ None = h in cc)
ends_within labels level place line (Segment ∷ rest) room h = omega (arith, room)
ends_within labels level place line (Level next ∷ rest) room h = ends_within labels next place (line + 1) rest room h
ends_within labels level place line (Label name ∷ rest) room h =
    ends_within labels level place (line + 1) rest room (not_here line (label_broken line (labels name)) (first_in (at labels level place) (line + 1) rest) h).1
ends_within labels level place line (Operator written ∷ rest) room h =
    let r = is_resolved labels level place line written rest h in
    let own = spelling place level r.operator in
    let end = place_after place written in
    let after = operators_from labels level rest in
    let wide : place + length own ≡ end = width_resolved labels level written r.operator place r.is in
    let later : end + length (text end after) ≤ MOST_SEGMENT_SYLLABLES = ends_within labels level end (line + 1) rest r.within (rest_unbroken labels level place line written rest h) in
    let there : place + length own + length (text (place + length own) after) ≤ MOST_SEGMENT_SYLLABLES =
    subst (λ (k : ℕ). k + length (text k after) ≤ MOST_SEGMENT_SYLLABLES) (sym wide) later in
    let all : place + length (own ++ text (place + length own) after) ≤ MOST_SEGMENT_SYLLABLES = omega (arith, there, length-append own (text (place + length own) after)) in
    subst (λ (ps : List Placed). place + length (text place ps) ≤ MOST_SEGMENT_SYLLABLES) (sym (operators_are labels level place line written rest h)) all
ends_within labels level place line (Format fits ∷ rest) room h =
    ends_within labels level place (line + 1) rest room (not_here line (if_broken fits Range) (first_in (at labels level place) (line + 1) rest) h).1

-- there is one
has_operator : (labels : List ℕ → Option Standing) (level place line : ℕ) (lines : List Reading) → is_empty lines ≡ false → first_in (at labels level place) line lines ≡ None →
    1 ≤ length (operators_from labels level lines)
has_operator labels level place line [] some h = let clash : true ≡ false = some in absurd cc
has_operator labels level place line (Blank ∷ rest) some h = has_operator labels level place (line + 1) rest some h
has_operator labels level place line (NoItem ∷ rest) some h = absurd (let r : Refusal = record { line = line; rule = BadLine } in let clash : Some r ≡ None = h in cc)
has_operator labels level place line (Segment ∷ rest) some h = let clash : true ≡ false = some in absurd cc
has_operator labels level place line (Level next ∷ rest) some h = has_operator labels next place (line + 1) rest some h
has_operator labels level place line (Label name ∷ rest) some h =
    has_operator labels level place (line + 1) rest some (not_here line (label_broken line (labels name)) (first_in (at labels level place) (line + 1) rest) h).1
has_operator labels level place line (Operator written ∷ rest) some h =
    subst (λ (ps : List Placed). 1 ≤ length ps) (sym (operators_are labels level place line written rest h)) (omega arith)
has_operator labels level place line (Format fits ∷ rest) some h =
    has_operator labels level place (line + 1) rest some (not_here line (if_broken fits Range) (first_in (at labels level place) (line + 1) rest) h).1

-- ---- all lines

-- operators of a segment: there are some, and no more than fit into one
pub record FillSegment (ps : List Placed) : Type 0 where
  pub some : 1 ≤ length ps
  pub few : size ps ≤ MOST_SEGMENT_SYLLABLES

abbrev pub FillSegments : List (List Placed) → Type 0
FillSegments [] = Unit {0}
FillSegments (ps ∷ pss) = FillSegment ps × FillSegments pss

-- the formats of lines fit
abbrev pub AllFit : List Reading → Type 0
AllFit [] = Unit {0}
AllFit (Format fits ∷ rest) = (fits ≡ true) × AllFit rest
AllFit (reading ∷ rest) = AllFit rest

pub record IsUnbroken (line : ℕ) (lines : List Reading) : Type 0 where
  pub segments : FillSegments (segments_from line lines)
  pub formats : AllFit lines

fills : (labels : List ℕ → Option Standing) (line : ℕ) (rest : List Reading) → is_empty rest ≡ false → first_in (at labels OUTER_LEVEL 0) line rest ≡ None →
    FillSegment (operators_from labels OUTER_LEVEL rest)
fills labels line rest some h = record {
  some = has_operator labels OUTER_LEVEL 0 line rest some h;
  few = (let end = ends_within labels OUTER_LEVEL 0 line rest (omega arith) h in omega (arith, end));
}

unbroken_in : (inside : Inside) (line : ℕ) (lines : List Reading) → first_in inside line lines ≡ None → IsUnbroken line lines
unbroken_in inside line [] h = record { segments = tt; formats = tt }
unbroken_in inside line (Blank ∷ rest) h = let r = unbroken_in inside (line + 1) rest h in record { segments = r.segments; formats = r.formats }
unbroken_in inside line (NoItem ∷ rest) h = absurd (let r : Refusal = record { line = line; rule = BadLine } in let clash : Some r ≡ None = h in cc)
unbroken_in inside line (Segment ∷ rest) h =
    let own = segment_begun (line + 1) rest in
    let e : Refusal = record { line = line; rule = EmptySegment } in
    elim (cases_Bool (is_empty rest)) [
      | inl none ↦ let clash : Some e ≡ None = sym (cond-true (is_empty rest) (Some e) (first_in own (line + 1) rest) none) ∙ h in absurd cc
      | inr some ↦
          let later : first_in own (line + 1) rest ≡ None = sym (cond-false (is_empty rest) (Some e) (first_in own (line + 1) rest) some) ∙ h in
          let r = unbroken_in own (line + 1) rest later in
          record { segments = (fills (label_named (labels_from (line + 1) 0 rest)) (line + 1) rest some later, r.segments); formats = r.formats }
    ]
unbroken_in inside line (Level next ∷ rest) h =
    let r = unbroken_in (line_moved inside (Level next)) (line + 1) rest h in record { segments = r.segments; formats = r.formats }
unbroken_in inside line (Label name ∷ rest) h =
    let r = unbroken_in inside (line + 1) rest (not_here line (label_broken line (inside.labels name)) (first_in inside (line + 1) rest) h).1 in
    record { segments = r.segments; formats = r.formats }
unbroken_in inside line (Operator written ∷ rest) h =
    let after = line_moved inside (Operator written) in
    let r = unbroken_in after (line + 1) rest (not_here line (broken_in inside line (Operator written)) (first_in after (line + 1) rest) h).1 in
    record { segments = r.segments; formats = r.formats }
unbroken_in inside line (Format fits ∷ rest) h =
    let p = not_here line (if_broken fits Range) (first_in inside (line + 1) rest) h in
    let r = unbroken_in inside (line + 1) rest p.1 in
    record { segments = r.segments; formats = (fits_here fits Range p.0, r.formats) }

unbroken_before : (line : ℕ) (lines : List Reading) → first_before line lines ≡ None → IsUnbroken line lines
unbroken_before line [] h = record { segments = tt; formats = tt }
unbroken_before line (Blank ∷ rest) h = let r = unbroken_before (line + 1) rest h in record { segments = r.segments; formats = r.formats }
unbroken_before line (NoItem ∷ rest) h = absurd (let r : Refusal = record { line = line; rule = BadLine } in let clash : Some r ≡ None = h in cc)
unbroken_before line (Segment ∷ rest) h = unbroken_in nowhere line (Segment ∷ rest) h
unbroken_before line (Level next ∷ rest) h =
    let r = unbroken_before (line + 1) rest (not_here line (broken_before (Level next)) (first_before (line + 1) rest) h).1 in record { segments = r.segments; formats = r.formats }
unbroken_before line (Label name ∷ rest) h =
    let r = unbroken_before (line + 1) rest (not_here line (broken_before (Label name)) (first_before (line + 1) rest) h).1 in record { segments = r.segments; formats = r.formats }
unbroken_before line (Operator written ∷ rest) h =
    let r = unbroken_before (line + 1) rest (not_here line (broken_before (Operator written)) (first_before (line + 1) rest) h).1 in record { segments = r.segments; formats = r.formats }
unbroken_before line (Format fits ∷ rest) h =
    let p = not_here line (if_broken fits Range) (first_before (line + 1) rest) h in
    let r = unbroken_before (line + 1) rest p.1 in
    record { segments = r.segments; formats = (fits_here fits Range p.0, r.formats) }

some_segment : (line : ℕ) (lines : List Reading) → has_segment lines ≡ true → 1 ≤ length (segments_from line lines)
some_segment line [] some = let clash : false ≡ true = some in absurd cc
some_segment line (Segment ∷ rest) some = omega arith
some_segment line (Blank ∷ rest) some = some_segment (line + 1) rest some
some_segment line (NoItem ∷ rest) some = some_segment (line + 1) rest some
some_segment line (Level next ∷ rest) some = some_segment (line + 1) rest some
some_segment line (Label name ∷ rest) some = some_segment (line + 1) rest some
some_segment line (Operator written ∷ rest) some = some_segment (line + 1) rest some
some_segment line (Format fits ∷ rest) some = some_segment (line + 1) rest some

-- lines of which none breaks a rule
pub record IsWhole (lines : List Reading) : Type 0 where
  pub unbroken : IsUnbroken 1 lines
  pub some : 1 ≤ length (segments_from 1 lines)

pub is_whole : (lines : List Reading) → first_broken lines ≡ None → IsWhole lines
is_whole lines h =
    elim (cases_Bool (has_segment lines)) [
      | inl some ↦ record {
        unbroken = unbroken_before 1 lines (sym (cond-true (has_segment lines) (first_before 1 lines) (Some (first_line lines)) some) ∙ h);
        some = some_segment 1 lines some;
      }
      | inr none ↦ let clash : Some (first_line lines) ≡ None = sym (cond-false (has_segment lines) (first_before 1 lines) (Some (first_line lines)) none) ∙ h in absurd cc
    ]
