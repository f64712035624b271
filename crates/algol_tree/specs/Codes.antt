-- The table of the refusals: the letter and the number of each, as they are printed.
use Rattle.std.specs.Prelude.{ℕ, suc, List, [], ◌∷◌, map, get_or}
use Rattle.std.proofs.Common.{inl, inr}
use denote.Enum.Declared.{Choice}
use denote.Struct.Field.{Field}
use Rattle.algol_tree.specs.contracts.refusal.Code as generated
use Rattle.algol_tree.specs.declared.refusal.Code.{Code}
use Rattle.algol_tree.specs.declared.table.TheConstants.{TABLE}

-- how many variants of an enumeration are declared before this one
abbrev pub position : (variants : List (List Field)) → Choice variants → ℕ
position [] variant = absurd variant
position (first ∷ more) (inl this) = 0
position (first ∷ more) (inr later) = suc (position more later)

-- the rows stand in the order in which the refusals are declared
abbrev pub code_index : Code → ℕ
code_index code = position generated.the_parts (generated.as_values code)

-- the letter and the number in the row of a refusal
abbrev pub rule_letter : Code → ℕ
rule_letter code = get_or (map (λ row. row.1) TABLE) (code_index code) 0

abbrev pub rule_number : Code → ℕ
rule_number code = get_or (map (λ row. row.2) TABLE) (code_index code) 0
