-- Whose the letters that a report prints are: those of the source's own actions.
use Rattle.std.specs.Prelude.{◌≡◌, ℕ, List, ◌∷◌, ◌++◌, length, Some, slice_get}
use Rattle.algol_tree.specs.Plain.{PProgram}
use Rattle.algol_tree.specs.Scopes.{scopes_of}
use Rattle.algol_meaning.specs.World.{World}
use Rattle.algol_meaning.specs.Choice.{choice}
use Rattle.algol_meaning.specs.Run.{run}
use Rattle.b67_deeds.specs.declared.Letter.{Letter}
use Rattle.b67_schedule.specs.Schedules.{entries}
use Rattle.b67_report.specs.declared.Report.{Report}
use Rattle.b67_explain.specs.Explaining.{Explains}

-- after the entries before it the source has this world, and the letter is that of what the process does next in it
pub record IsTheSources (tree : PProgram) (before : List ℕ) (process : ℕ) (letters : List Letter) : Type 0 where
  pub world : World
  pub legal : run tree before ≡ Some world
  pub letter : slice_get letters (length before) ≡ Some (choice (scopes_of tree) world process).action

-- there is one letter for each entry of the schedule, and each is the source's
pub record AreTheSources (tree : PProgram) (schedule : List ℕ) (letters : List Letter) : Type 0 where
  pub each : length letters ≡ length schedule
  pub are : (before : List ℕ) (process : ℕ) (later : List ℕ) → schedule ≡ before ++ process ∷ later → IsTheSources tree before process letters

abbrev pub PrintedLettersAreTheSources : Type 0
PrintedLettersAreTheSources =
    (tree : PProgram) (processors budget : ℕ) (report : Report) → Explains tree processors budget report
    → AreTheSources tree (entries report.schedule.runs) report.schedule.letters
