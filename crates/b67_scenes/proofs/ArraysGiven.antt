-- What ARRAYS is given: how many arrays, and their bounds in pairs.
use Rattle.std.proofs.Common.{◌≡◌, refl, ap, ℕ, List, [], ◌∷◌, ℤ}
use Rattle.b67_scenes.proofs.Prelude.{Value, number, whole_of, operands, AreNumbers, Slot, operand, intrinsic, mark}
use Rattle.std.specs.Prelude.{pos}
use Rattle.algol_tree.specs.Plain.{PPair}
use Rattle.algol_meaning.specs.Arrays.{bounds_of}
use Rattle.b67_ops.specs.declared.intrinsic.Intrinsic.TheVariants.{Arrays}
use Rattle.b67_templates.specs.Fragments.{IsWholeNumber}
use Rattle.b67_standing.specs.Standing.{arrays_begun, extents, AreWholeLows}
use Rattle.b67_frames.proofs.ArraySizes.{bound_numbers}
use Rattle.b67_scenes.proofs.Calling.{wholes_of}

-- the lower bound and the upper one of each pair
abbrev pub bound_values : List PPair → List Value → List Value
bound_values (p ∷ pairs) (v ∷ vs) = number p.low ∷ v ∷ bound_values pairs vs
bound_values _ _ = []

abbrev pub arrays_given : ℕ → List PPair → List Value → List Value
arrays_given many pairs vs = number (pos many) ∷ bound_values pairs vs

bounds_lie : (pairs : List PPair) (vs : List Value) (below : List Slot) → extents pairs vs below ≡ operands (bound_values pairs vs) below
bounds_lie [] vs below = refl
bounds_lie (p ∷ pairs) [] below = refl
bounds_lie (p ∷ pairs) (v ∷ vs) below = bounds_lie pairs vs (operand v ∷ operand (number p.low) ∷ below)

-- they lie above the reference and the mark
pub given_lie : (many : ℕ) (pairs : List PPair) (vs : List Value) → extents pairs vs (arrays_begun many []) ≡ operands (arrays_given many pairs vs) (intrinsic Arrays ∷ mark ∷ [])
given_lie many pairs vs = bounds_lie pairs vs (arrays_begun many [])

bounds_fit : (pairs : List PPair) (vs : List Value) → AreWholeLows pairs → AreNumbers vs → AreNumbers (bound_values pairs vs)
bounds_fit [] vs lows highs = tt
bounds_fit (p ∷ pairs) [] lows highs = tt
bounds_fit (p ∷ pairs) (v ∷ vs) lows highs = (lows.0, (highs.0, bounds_fit pairs vs lows.1 highs.1))

-- they are numbers
pub given_fit : (many : ℕ) (pairs : List PPair) (vs : List Value) → IsWholeNumber (pos many) → AreWholeLows pairs → AreNumbers vs → AreNumbers (arrays_given many pairs vs)
given_fit many pairs vs whole lows highs = (whole, bounds_fit pairs vs lows highs)

bounds_whole : (pairs : List PPair) (vs : List Value) → wholes_of (bound_values pairs vs) ≡ bound_numbers (bounds_of pairs vs)
bounds_whole [] vs = refl
bounds_whole (p ∷ pairs) [] = refl
bounds_whole (p ∷ pairs) (v ∷ vs) = ap (λ (zs : List ℤ). p.low ∷ whole_of v ∷ zs) (bounds_whole pairs vs)

pub given_whole : (many : ℕ) (pairs : List PPair) (vs : List Value) → wholes_of (arrays_given many pairs vs) ≡ pos many ∷ bound_numbers (bounds_of pairs vs)
given_whole many pairs vs = ap (λ (zs : List ℤ). pos many ∷ zs) (bounds_whole pairs vs)
