-- Where a variant stands in its enumeration.
use Rattle.std.specs.Prelude.{ℕ, suc, List, [], ◌∷◌}
use Rattle.std.proofs.Common.{inl, inr}
use denote.Enum.Declared.{Choice}
use denote.Struct.Field.{Field}

-- how many variants of an enumeration are declared before this one
abbrev pub position : (variants : List (List Field)) → Choice variants → ℕ
position [] variant = absurd variant
position (first ∷ more) (inl this) = 0
position (first ∷ more) (inr later) = suc (position more later)
