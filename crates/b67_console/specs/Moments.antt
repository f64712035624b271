-- Where a console stands: the world of the source and the machine, after the same entries.
use Rattle.std.specs.Prelude.{◌≡◌, ℕ, ◌+◌, ◌≤◌, List, [], length, Some}
use Rattle.algol_tree.specs.Scopes.{Scopes}
use Rattle.algol_meaning.specs.World.{World}
use Rattle.algol_meaning.specs.Run.{run_from, start}
use Rattle.algol_lean.specs.Beside.{RunsBeside}
use Rattle.b67_limits.specs.declared.TheConstants.{MOST_BUDGET}
use Rattle.b67_segment.specs.declared.code.Code.{Code}
use Rattle.b67_table.specs.Image.{Image}
use Rattle.b67_table.specs.Runs.{TableRun}
use Rattle.b67_table.specs.Sound.{Sound}
use Rattle.b67_schedule.specs.Schedules.{entries, ScheduleModel}
use Rattle.b67_machine.specs.Kept.{MachineModel}
use Rattle.b67_machine.specs.Replaying.{Between}
use Rattle.b67_fronts.specs.Fronts.{GoesThrough}
use Rattle.b67_commands.specs.declared.command.Command.{Command}
use Rattle.b67_console.specs.Telling.{answer_text}

-- One more than the operators of any run that the first replay goes through, so that none of them comes to it.
abbrev pub most_operators : ℕ
most_operators = MOST_BUDGET + 1

-- the world after these entries, beside which this one runs
pub record WorldAfter (sc : Scopes) (done : List ℕ) (now : World) : Type 0 where
  pub world : World
  pub legal : run_from sc done (Some (start sc)) ≡ Some world
  pub beside : RunsBeside sc world now

-- the entries that are done are performed by the machine, with so many operators, and made in the world
pub record StandsAt (sc : Scopes) (now : World) (m : MachineModel) (done : ScheduleModel) (spent : ℕ) : Type 0 where
  pub world : WorldAfter sc (entries done.runs) now
  pub sound : Sound m.code
  pub between : Between m.code (entries done.runs) done.letters spent m
  pub within : spent ≤ most_operators

-- The code goes through these entries, they are legal for the source, and there is room for so many.
pub record MayBeMade (sc : Scopes) (code : Code) (room : ℕ) (schedule : List ℕ) : Type 0 where
  pub through : GoesThrough code schedule most_operators
  pub world : World
  pub legal : run_from sc schedule (Some (start sc)) ≡ Some world
  pub fits : length schedule ≤ room

-- that is told to a command after these entries
pub record CommandIsTold (sc : Scopes) (code : Code) (done : List ℕ) (command : Command) (text : List ℕ) : Type 0 where
  pub world : World
  pub legal : run_from sc done (Some (start sc)) ≡ Some world
  pub image : Image
  pub ran : TableRun code done [] image
  pub is : text ≡ answer_text sc (length done) world image command
