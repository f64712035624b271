-- What becomes of an operator's line.
use Rattle.std.proofs.Common.{◌≡◌, ℕ, ◌+◌, ◌≤◌, ◌<◌, List, [], ◌∷◌, ◌++◌, length, Option, Some, None, Ok, Err, refl, sym, ap, ◌∙◌, subst}
use Rattle.std.specs.Prelude.{nat_lt, unwrap_or}
use Rattle.std.proofs.lemmas.Bool.{cond-true, cond-false, lt-ltb, le-ltb}
use Rattle.b67_ops.specs.declared.Operator.{Operator as Op}
use Rattle.b67_ops.specs.Spelling.{Fits, spelling}
use Rattle.b67_segment.specs.declared.TheConstants.{MOST_SEGMENT_SYLLABLES}
use Rattle.b67_segment.specs.Operators.{Placed, size}
use Rattle.b67_segment.specs.Building.{Built, appended, level_set}
use Rattle.b67_asm_text.specs.declared.item.Written.{Written}
use Rattle.b67_asm_text.specs.declared.item.Reading.TheVariants.{Operator}
use Rattle.b67_asm.specs.declared.label.Standing.{Standing}
use Rattle.b67_asm.specs.declared.refusal.Rule.{Rule}
use Rattle.b67_asm.specs.declared.refusal.Rule.TheVariants.{SegmentTooLong}
use Rattle.b67_asm.specs.declared.refusal.NotAssembled.TheVariants.{Refused}
use Rattle.b67_asm.specs.Labels.{place_after}
use Rattle.b67_asm.specs.Rules.{broken_in, operator_broken, resolved}
use Rattle.b67_asm.specs.Steps.{HasTaken, IsBlockLevel, RefusesLine, inside_of}
use Rattle.b67_asm.proofs.Lines.{operator_taken, refused_by}
use Rattle.b67_asm.proofs.Widths.{fits_is, resolved_is, size_resolved, width_resolved}

abbrev added : List Placed → Op → ℕ → List Placed
added old operator level = old ++ record { level = level; operator = operator } ∷ []

module _ (labels : List ℕ → Option Standing) (level : ℕ) (line : ℕ) (written : Written) where
  pub operator_refused : (old : List Placed) (rule : Rule) → Err rule ≡ resolved labels level written →
      RefusesLine (Refused record { line = line; rule = rule }) labels level old line (Operator written)
  operator_refused old rule e =
      refused_by labels level old line (Operator written) rule refl (ap (operator_broken (place_after (size old) written)) (sym e))

  -- it ends at a place beyond the longest segment
  pub operator_too_long : (old : List Placed) (operator : Op) (at end : ℕ) → Ok operator ≡ resolved labels level written → at ≡ size old → end ≡ place_after at written →
      MOST_SEGMENT_SYLLABLES < end → RefusesLine (Refused record { line = line; rule = SegmentTooLong }) labels level old line (Operator written)
  operator_too_long old operator at end e here ends long =
      let far : MOST_SEGMENT_SYLLABLES < place_after (size old) written =
      subst (λ (k : ℕ). MOST_SEGMENT_SYLLABLES < k) (ends ∙ ap (λ (k : ℕ). place_after k written) here) long in
      refused_by labels level old line (Operator written) SegmentTooLong refl
      (ap (operator_broken (place_after (size old) written)) (sym e)
      ∙ cond-true (nat_lt MOST_SEGMENT_SYLLABLES (place_after (size old) written)) (Some SegmentTooLong) None (lt-ltb _ _ far))

  pub ends_within : (old : List Placed) (at end : ℕ) → at ≡ size old → end ≡ place_after at written → end ≤ MOST_SEGMENT_SYLLABLES → place_after (size old) written ≤ MOST_SEGMENT_SYLLABLES
  ends_within old at end here ends within = subst (λ (k : ℕ). k ≤ MOST_SEGMENT_SYLLABLES) (ends ∙ ap (λ (k : ℕ). place_after k written) here) within

  pub operator_goes : (old new : Built) (operator : Op) → Ok operator ≡ resolved labels level written → place_after (size old.operators) written ≤ MOST_SEGMENT_SYLLABLES →
      old.level ≡ Some level → IsBlockLevel level → new ≡ appended old operator → HasTaken labels level old new line (Operator written) level
  operator_goes old new operator e room l block n =
      let set : level_set old ≡ level = ap (λ (o : Option ℕ). unwrap_or o 0) l in
      let ops : new.operators ≡ old.operators ++ record { level = level; operator = operator } ∷ [] =
      ap (λ (b : Built). b.operators) n ∙ ap (added old.operators operator) set in
      let none : broken_in (inside_of labels level old.operators) line (Operator written) ≡ None =
      ap (operator_broken (place_after (size old.operators) written)) (sym e)
      ∙ cond-false (nat_lt MOST_SEGMENT_SYLLABLES (place_after (size old.operators) written)) (Some SegmentTooLong) None (le-ltb _ _ room) in
      operator_taken labels level old new line written operator (sym e) room ops (size_resolved labels level written operator old.operators new.operators (sym e) ops)
      (ap (λ (b : Built). b.level) n ∙ l) block none

  pub operator_fits : (old : Built) (operator : Op) → Ok operator ≡ resolved labels level written → old.level ≡ Some level → Fits (level_set old) operator
  operator_fits old operator e l =
      subst (λ (k : ℕ). Fits k operator) (sym (ap (λ (o : Option ℕ). unwrap_or o 0) l)) (fits_is level operator (resolved_is labels level written operator (sym e)).1)

  pub operator_room : (old : Built) (operator : Op) → Ok operator ≡ resolved labels level written → old.level ≡ Some level →
      place_after (size old.operators) written ≤ MOST_SEGMENT_SYLLABLES → size old.operators + length (spelling (size old.operators) (level_set old) operator) ≤ MOST_SEGMENT_SYLLABLES
  operator_room old operator e l room =
      let set : level_set old ≡ level = ap (λ (o : Option ℕ). unwrap_or o 0) l in
      subst (λ (k : ℕ). size old.operators + length (spelling (size old.operators) k operator) ≤ MOST_SEGMENT_SYLLABLES) (sym set)
      (subst (λ (k : ℕ). k ≤ MOST_SEGMENT_SYLLABLES) (sym (width_resolved labels level written operator (size old.operators) (sym e))) room)
