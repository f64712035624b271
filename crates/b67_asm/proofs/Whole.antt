-- The lines of a whole text.
use Rattle.std.proofs.Common.{◌≡◌, ℕ, ◌+◌, ◌-◌, ◌^◌, ◌<◌, true, false, List, drop, length, Some, sym, ap, ◌∙◌, subst}
use Rattle.std.proofs.lemmas.Bool.{cond-true, cond-false}
use Rattle.b67_segment.specs.declared.code.Segment.{Segment as Made}
use Rattle.b67_segment.specs.declared.code.Format.{Format as Form}
use Rattle.b67_segment.specs.Operators.{Placed}
use Rattle.b67_asm_text.specs.declared.item.Reading.{Reading}
use Rattle.b67_asm_text.specs.Items.{formats, readings}
use Rattle.b67_asm.specs.declared.refusal.NotAssembled.{NotAssembled}
use Rattle.b67_asm.specs.Rules.{first_before, first_broken, first_in, first_line, has_segment, nowhere}
use Rattle.b67_asm.specs.Assembling.{AreCode, Assembles, IsFirst, segments_from}
use Rattle.b67_asm.specs.Steps.{HasAll, HasPassed, HasRest, HaveBlockLevels}
use Rattle.b67_asm.proofs.Levels.{levels_known, lines_few}
use Rattle.b67_asm.proofs.Segments.{first_as}

-- lines without a SEGMENT
pub lacks : (lines : List Reading) → has_segment lines ≡ false → first_broken lines ≡ Some (first_line lines)
lacks lines none = cond-false (has_segment lines) (first_before 1 lines) (Some (first_line lines)) none

-- lines with a SEGMENT
module _ (lines : List Reading) (some : has_segment lines ≡ true) where
  has : first_broken lines ≡ first_before 1 lines
  has = cond-true (has_segment lines) (first_before 1 lines) (Some (first_line lines)) some

  pub head_refused : (e : NotAssembled) → IsFirst e (first_before 1 lines) → IsFirst e (first_broken lines)
  head_refused e first = first_as e has first

  pub rest_refused : (at : ℕ) (e : NotAssembled) → HasPassed lines at → IsFirst e (first_in nowhere (at + 1) (drop at lines)) → IsFirst e (first_broken lines)
  rest_refused at e passed first = first_as e (has ∙ passed.same) first

  pub has_all : (at : ℕ) (segments : List Made) → HasPassed lines at → HasRest lines at segments → HasAll lines segments
  has_all at segments passed rest = record {
    whole = has ∙ passed.same ∙ rest.whole;
    are = subst (λ (pss : List (List Placed)). AreCode pss segments) (sym passed.segments) rest.are;
  }

-- a text from its lines
module _ (bytes : List ℕ) (lines : List Reading) (are : lines ≡ readings bytes) where
  pub assembled : (segments : List Made) (forms : List Form) → forms ≡ formats bytes → HasAll lines segments → Assembles bytes (record { segments = segments; formats = forms })
  assembled segments forms own all = record {
    whole = ap first_broken (sym are) ∙ all.whole;
    segments = subst (λ (ls : List Reading). AreCode (segments_from 1 ls) segments) are all.are;
    formats = own;
  }

  pub not_assembled : (e : NotAssembled) → IsFirst e (first_broken lines) → IsFirst e (first_broken (readings bytes))
  not_assembled e first = first_as e (ap first_broken (sym are)) first

  pub few_lines : length bytes < 2 ^ 32 - 1 → length lines < 2 ^ 32
  few_lines few = subst (λ (ls : List Reading). length ls < 2 ^ 32) (sym are) (lines_few bytes few)

  pub known_levels : HaveBlockLevels lines
  known_levels = subst HaveBlockLevels (sym are) (levels_known bytes)
