-- What holds of everything that is shown.
use Rattle.std.specs.Prelude.{◌≡◌, ℕ, List}
use Rattle.algol_tree.specs.Plain.{PProgram}
use Rattle.algol_tree.specs.Scopes.{Scopes}
use Rattle.algol_meaning.specs.World.{World}
use Rattle.algol_lean.specs.Lean.{Lean}
use Rattle.b67_dump.specs.declared.Answer.{Answer}
use Rattle.b67_dump.specs.Snapshots.{snapshot}
use Rattle.b67_dump.specs.Dumps.{Dumps}

-- Instances that are left are not shown: where two worlds are alike but for the cells of those, the same is shown of both.
abbrev pub SnapshotsAreThoseOfLeanWorlds : Type 0
SnapshotsAreThoseOfLeanWorlds = (sc : Scopes) (w v : World) → Lean w v → snapshot sc v ≡ snapshot sc w

-- What is given has one answer for each number of entries: each of the two comes exactly where it is due.
abbrev pub DumpsHaveOneAnswer : Type 0
DumpsHaveOneAnswer = (tree : PProgram) (given : List ℕ) (most : ℕ) (a b : Answer) → Dumps tree given most a → Dumps tree given most b → a ≡ b
