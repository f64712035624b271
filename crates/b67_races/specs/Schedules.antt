-- What the entries of a schedule did, and their races.
use Rattle.std.specs.Prelude.{ℕ, List, [], ◌∷◌}
use Rattle.algol_tree.specs.Plain.{PProgram}
use Rattle.algol_tree.specs.Scopes.{Scopes, scopes_of}
use Rattle.algol_meaning.specs.World.{World}
use Rattle.algol_meaning.specs.Choice.{choice}
use Rattle.algol_meaning.specs.Run.{start}
use Rattle.algol_seen.specs.Accesses.{done_of}
use Rattle.b67_race.specs.Entries.{Done}
use Rattle.b67_race.specs.Races.{Race, AreRaces}

-- from a world on, of a legal schedule
abbrev pub all_done_from : Scopes → World → List ℕ → List Done
all_done_from sc w [] = []
all_done_from sc w (p ∷ h) = done_of sc w p ∷ all_done_from sc ((choice sc w p).world) h

abbrev pub all_done : PProgram → List ℕ → List Done
all_done tree h = all_done_from (scopes_of tree) (start (scopes_of tree)) h

-- the races of a source under a legal schedule
abbrev pub AreRacesOf : PProgram → List ℕ → List Race → Type 0
AreRacesOf tree h rs = AreRaces (all_done tree h) rs
