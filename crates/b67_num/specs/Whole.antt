-- Whole-number arithmetic with its two faults. A whole number has a magnitude of at most 2 ^ 39 - 1, which
-- is what an operand's mantissa holds.
use Rattle.std.specs.Ordering.{int_eq}
use Rattle.std.specs.Prelude.{◌≡◌, ℕ, ◌<◌, nat_eq, nat_le, Bool, not, int_lt, int_le, ℤ, pos, ◌+ℤ◌, ◌-ℤ◌, ◌*ℤ◌, ◌≤ℤ◌, neg_ℤ, unsigned_abs, int_div, int_rem, Result, Ok, Err, if◌then◌else◌}
use Rattle.b67_num.specs.declared.Calculation.{Calculation}
use Rattle.b67_num.specs.declared.Calculation.TheVariants.{Sum, Difference, Product, WholeQuotient, TruncatedQuotient, Remainder}
use Rattle.b67_num.specs.declared.TheConstants.{MOST}
use Rattle.b67_num.specs.declared.FaultKind.{FaultKind}
use Rattle.b67_num.specs.declared.FaultKind.TheVariants as kind
use Rattle.b67_num.specs.declared.NumFault.{NumFault}
use Rattle.b67_num.specs.declared.NumFault.TheVariants.{RealResult, DivideByZero}
use Rattle.b67_num.specs.declared.Relation.{Relation}
use Rattle.b67_num.specs.declared.Relation.TheVariants.{Less, LessOrEqual, Equal, NotEqual, GreaterOrEqual, Greater}

-- the greatest magnitude of a whole number
abbrev pub most : ℕ
most = unsigned_abs MOST

-- an exact result, which is RealResult where its magnitude is too great
unfoldable pub whole : ℤ → Result ℤ NumFault
whole z = if nat_le (unsigned_abs z) most then Ok z else Err RealResult

-- a division by b, which is DivideByZero where b is 0
unfoldable pub over : ℤ → Result ℤ NumFault → Result ℤ NumFault
over b r = if nat_eq (unsigned_abs b) 0 then Err DivideByZero else r

-- what a calculation with two whole numbers gives: its exact result, or the fault that says why it has none
unfoldable pub calculated : Calculation → ℤ → ℤ → Result ℤ NumFault
calculated Sum a b = whole (a +ℤ b)
calculated Difference a b = whole (a -ℤ b)
calculated Product a b = whole (a *ℤ b)
-- the quotient where b divides a, and else RealResult, since the exact quotient is not whole
calculated WholeQuotient a b = over b (if nat_eq (unsigned_abs (int_rem a b)) 0 then whole (int_div a b) else Err RealResult)
-- the quotient without its fraction
calculated TruncatedQuotient a b = over b (whole (int_div a b))
-- what that quotient leaves, with the dividend's sign
calculated Remainder a b = over b (whole (int_rem a b))

-- whether a relation holds between two numbers
unfoldable pub related : Relation → ℤ → ℤ → Bool
related Less a b = int_lt a b
related LessOrEqual a b = int_le a b
related Equal a b = int_eq a b
related NotEqual a b = not (int_eq a b)
related GreaterOrEqual a b = int_le b a
related Greater a b = int_lt b a

abbrev pub negation_of : ℤ → ℤ
negation_of a = neg_ℤ a

-- q is the truncated quotient of a by b, and r the remainder: together they give a back, r is smaller than
-- b, and r is 0 or has the sign of a
pub record IsDivision (a b q r : ℤ) : Type 0 where
  pub restores : q *ℤ b +ℤ r ≡ a
  pub smaller : unsigned_abs r < unsigned_abs b
  pub not_negative : pos 0 ≤ℤ a → pos 0 ≤ℤ r
  pub not_positive : a ≤ℤ pos 0 → r ≤ℤ pos 0

-- the fault of a run that a fault of arithmetic is
abbrev pub fault_of : NumFault → FaultKind
fault_of RealResult = kind.RealResult
fault_of DivideByZero = kind.DivideByZero
