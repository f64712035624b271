-- The places of processors.
use Rattle.std.specs.Prelude.{ℕ, zero, suc, List, [], ◌∷◌, ◌++◌}

-- the places of so many processors in their order: processor k has place k - 1
abbrev pub in_order : ℕ → List ℕ
in_order zero = []
in_order (suc n) = in_order n ++ n ∷ []
