-- The table of the operators: where the row of an operator stands, so its code and its name, and which operator a code is of.
use Rattle.std.specs.Prelude.{ℕ, ◌+◌, List, [], ◌∷◌, map, get_or, Option, Some, None, nat_eq, if◌then◌else◌}
use Rattle.b67_ops.specs.contracts.BranchKind as branches
use Rattle.b67_ops.specs.contracts.PlainKind as plains
use Rattle.b67_ops.specs.declared.table.OperatorKind.{OperatorKind}
use Rattle.b67_ops.specs.declared.table.OperatorKind.TheVariants.{Valc, Namc, Lt8, Lt16, Lt48, Mpcw, Branch, Plain}
use Rattle.b67_ops.specs.declared.table.TheConstants.{TABLE}
use Rattle.b67_ops.specs.Positions.{position}

-- an operator, its code and its name
abbrev pub CodeRow : Type 0 → Type 0
CodeRow Name = OperatorKind × ℕ × Name

-- where the row of an operator stands
abbrev pub operator_index : OperatorKind → ℕ
operator_index Valc = 0
operator_index Namc = 1
operator_index Lt8 = 2
operator_index Lt16 = 3
operator_index Lt48 = 4
operator_index Mpcw = 5
operator_index (Branch kind) = 6 + position branches.the_parts (branches.as_values kind)
operator_index (Plain kind) = 9 + position plains.the_parts (plains.as_values kind)

-- the codes of rows
abbrev pub codes_of : {Name : Type 0} → List (CodeRow Name) → List ℕ
codes_of rows = map (λ row. row.1) rows

-- the code of an operator, and its name
unfoldable pub code_of : OperatorKind → ℕ
code_of kind = get_or (codes_of TABLE) (operator_index kind) 0

unfoldable pub name_of : OperatorKind → List ℕ
name_of kind = get_or (map (λ row. row.2.now) TABLE) (operator_index kind) []

-- the operator of the first row that has this code
abbrev pub first_with : {Name : Type 0} → ℕ → List (CodeRow Name) → Option OperatorKind
first_with code [] = None
first_with code (row ∷ more) = if nat_eq row.1 code then Some row.0 else first_with code more

-- the operator that has this code
unfoldable pub kind_with : ℕ → Option OperatorKind
kind_with code = first_with code TABLE
