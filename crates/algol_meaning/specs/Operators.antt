-- What the operators of the language give.
use Rattle.std.specs.Prelude.{◌&&◌, ◌||◌, not, ℤ, Bool, true, false, Result, Ok, Err}
use Rattle.algol_tree.specs.declared.tree.Op.{Op}
use Rattle.algol_tree.specs.declared.tree.Op.TheVariants as operators
use Rattle.b67_num.specs.declared.Calculation.TheVariants as calculation
use Rattle.b67_num.specs.declared.NumFault.{NumFault}
use Rattle.b67_num.specs.declared.Relation.TheVariants as relation
use Rattle.b67_num.specs.Whole.{calculated, related}
use Rattle.algol_meaning.specs.Value.{Value, number, truth, whole_of, truth_of}

abbrev pub numeric : Result ℤ NumFault → Result Value NumFault
numeric (Ok z) = Ok (number z)
numeric (Err fault) = Err fault

abbrev pub logical : Bool → Result Value NumFault
logical b = Ok (truth b)

abbrev pub same_truth : Bool → Bool → Bool
same_truth true b = b
same_truth false b = not b

-- the result of an operator, or the fault that says why it has none
abbrev pub result_of : Op → Value → Value → Result Value NumFault
result_of operators.Add v w = numeric (calculated calculation.Sum (whole_of v) (whole_of w))
result_of operators.Sub v w = numeric (calculated calculation.Difference (whole_of v) (whole_of w))
result_of operators.Mul v w = numeric (calculated calculation.Product (whole_of v) (whole_of w))
result_of operators.Over v w = numeric (calculated calculation.WholeQuotient (whole_of v) (whole_of w))
result_of operators.Div v w = numeric (calculated calculation.TruncatedQuotient (whole_of v) (whole_of w))
result_of operators.Mod v w = numeric (calculated calculation.Remainder (whole_of v) (whole_of w))
result_of operators.Lss v w = logical (related relation.Less (whole_of v) (whole_of w))
result_of operators.Leq v w = logical (related relation.LessOrEqual (whole_of v) (whole_of w))
result_of operators.Eql v w = logical (related relation.Equal (whole_of v) (whole_of w))
result_of operators.Neq v w = logical (related relation.NotEqual (whole_of v) (whole_of w))
result_of operators.Geq v w = logical (related relation.GreaterOrEqual (whole_of v) (whole_of w))
result_of operators.Gtr v w = logical (related relation.Greater (whole_of v) (whole_of w))
result_of operators.And v w = logical (truth_of v && truth_of w)
result_of operators.Or v w = logical (truth_of v || truth_of w)
result_of operators.Imp v w = logical (not (truth_of v) || truth_of w)
result_of operators.Eqv v w = logical (same_truth (truth_of v) (truth_of w))
