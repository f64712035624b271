-- What the entries of a schedule store: the names of the cells.
use Rattle.std.specs.Prelude.{ℕ, if◌then◌else◌, List, [], ◌∷◌, Option, Some, None}
use Rattle.algol_tree.specs.Plain.{PProgram}
use Rattle.algol_tree.specs.Scopes.{Scopes, scopes_of}
use Rattle.algol_meaning.specs.World.{World}
use Rattle.algol_meaning.specs.Choice.{choice}
use Rattle.algol_meaning.specs.Run.{start}
use Rattle.algol_seen.specs.Accesses.{next_access}
use Rattle.b67_race.specs.Entries.{Access}
use Rattle.b67_commands.specs.Positions.{Stored}

-- the name of the cell that is stored, or an element of which is
abbrev pub stored_name : Option Access → Option (List ℕ)
stored_name None = None
stored_name (Some a) = if a.storing then Some a.cell.name else None

-- from a world on, of a legal schedule
abbrev pub stored_from : Scopes → World → List ℕ → Stored
stored_from sc w [] = []
stored_from sc w (p ∷ h) = stored_name (next_access sc w p) ∷ stored_from sc ((choice sc w p).world) h

abbrev pub stored_by : PProgram → List ℕ → Stored
stored_by tree h = stored_from (scopes_of tree) (start (scopes_of tree)) h
