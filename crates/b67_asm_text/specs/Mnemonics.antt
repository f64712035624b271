-- The operator that a name is of.
use Rattle.std.specs.Prelude.{ℕ, zero, suc, if◌then◌else◌, List, [], ◌∷◌, ◌++◌, Option, Some, None, option_to_list}
use Rattle.std.specs.Str.{bytes_eq}
use Rattle.b67_ops.specs.declared.table.OperatorKind.{OperatorKind}
use Rattle.b67_ops.specs.Codes.{kind_with, name_of}

-- the operators that have a code below this one, in the order of their codes
unfoldable pub operators_below : ℕ → List OperatorKind
operators_below zero = []
operators_below (suc code) = operators_below code ++ option_to_list (kind_with code)

-- the operators of the machine
unfoldable pub operators : List OperatorKind
operators = operators_below 256

-- the one of these that has this name
abbrev pub named_among : List ℕ → List OperatorKind → Option OperatorKind
named_among name [] = None
named_among name (kind ∷ kinds) = if bytes_eq (name_of kind) name then Some kind else named_among name kinds

-- the operator that has this name
unfoldable pub kind_named : List ℕ → Option OperatorKind
kind_named name = named_among name operators
