-- The numbers of a source are whole.
use Rattle.std.specs.Prelude.{ℕ, List}
use Rattle.algol_tree.specs.First.{Source}
use Rattle.algol_tree.specs.Plain.{PProgram}
use Rattle.b67_fitting.specs.Wholes.{HasWholeNumbers}

abbrev pub SourcesHaveWholeNumbers : Type 0
SourcesHaveWholeNumbers = (bytes : List ℕ) (p : PProgram) → Source bytes p → HasWholeNumbers p
