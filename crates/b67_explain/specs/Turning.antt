-- Whose turns the entries of a run by one processor are.
use Rattle.std.specs.Prelude.{◌≡◌, ℕ, List, length}
use Rattle.algol_tree.specs.Plain.{PProgram}
use Rattle.algol_meaning.specs.Turns.{turns}
use Rattle.b67_segment.specs.declared.code.Code.{Code}
use Rattle.b67_table.specs.Image.{Image}
use Rattle.b67_table.specs.Runs.{TableRun}
use Rattle.b67_faithful.specs.Faithful.{Faithful}
use Rattle.b67_stands.specs.Picked.{Pick, ArePicked}

-- The schedule is the one that one processor makes of the source under the rule, up to so many entries.
abbrev pub IsByTurns : PProgram → Pick → List ℕ → Type 0
IsByTurns tree pick schedule = turns tree pick (length schedule) ≡ schedule

abbrev pub PickedRunsAreTurns : Type 0
PickedRunsAreTurns =
    (tree : PProgram) (code : Code) (pick : Pick) (schedule tails : List ℕ) (img : Image) → Faithful tree code → (r : TableRun code schedule tails img)
    → ArePicked pick r.runs → IsByTurns tree pick schedule
