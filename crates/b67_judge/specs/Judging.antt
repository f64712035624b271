-- When a report is just: what it says of the source is so under its own schedule.
use Rattle.std.specs.Prelude.{◌≡◌, ◌≢◌, ℕ, ◌+◌, false, List, ◌∷◌, ◌++◌, length, take, Some, None, slice_get}
use Rattle.algol_tree.specs.Plain.{PProgram}
use Rattle.algol_meaning.specs.World.{World}
use Rattle.algol_meaning.specs.Run.{run, may_go, end_of, finished, fault, all_waiting}
use Rattle.b67_schedule.specs.Schedules.{entries}
use Rattle.b67_report.specs.declared.Report.{Report}
use Rattle.b67_report.specs.declared.EndWords.{EndWords}
use Rattle.b67_report.specs.declared.EndWords.TheVariants as ends
use Rattle.b67_judge.specs.declared.Verdict.{Verdict}
use Rattle.b67_judge.specs.declared.Verdict.TheVariants.{Just, BadEntry, BadLine, BadEnd}

-- The printed end is that of the world, where it is one. A budget that was spent, the stack limit and a schedule that ended leave the world
-- without one; and the number of an entry that can't be performed is that of the next one, of one that differs that of the last one.
abbrev pub EndFits : World → ℕ → EndWords → Type 0
EndFits w performed ends.Finished = end_of w ≡ Some finished
EndFits w performed (ends.Fault kind process) = end_of w ≡ Some (fault kind process)
EndFits w performed ends.AllWaiting = end_of w ≡ Some all_waiting
EndFits w performed ends.BudgetSpent = end_of w ≡ None
EndFits w performed (ends.StackLimit process words) = end_of w ≡ None
EndFits w performed ends.ScheduleEnded = end_of w ≡ None
EndFits w performed (ends.Illegal entry) = entry ≡ performed + 1
EndFits w performed (ends.Differs entry) = entry ≡ performed

-- the printed schedule is legal, and the printed output is that of the world after it
pub record HasOutput (tree : PProgram) (report : Report) : Type 0 where
  pub world : World
  pub legal : run tree (entries report.schedule.runs) ≡ Some world
  pub output : report.output ≡ world.output

-- .. and the printed end fits it. Listing, counts and acts are not judged.
pub record IsJust (tree : PProgram) (report : Report) : Type 0 where
  pub has : HasOutput tree report
  pub end : EndFits has.world (length (entries report.schedule.runs)) report.end

-- The entry of that number is the first that is not able or follows an end.
pub record IsFirstIllegal (tree : PProgram) (given : List ℕ) (number : ℕ) : Type 0 where
  pub done : List ℕ
  pub process : ℕ
  pub left : List ℕ
  pub split : given ≡ done ++ process ∷ left
  pub world : World
  pub legal : run tree done ≡ Some world
  pub stays : may_go world process ≡ false
  pub is : number ≡ length done + 1

-- The line of that number, from 1, is the first in which two outputs differ, or that only one has.
pub record IsFirstOther (xs ys : List (List ℕ)) (number : ℕ) : Type 0 where
  pub before : ℕ
  pub is : number ≡ before + 1
  pub same : take before xs ≡ take before ys
  pub other : slice_get xs before ≢ slice_get ys before

-- the schedule is legal, but not that line
pub record IsOtherLine (tree : PProgram) (report : Report) (number : ℕ) : Type 0 where
  pub world : World
  pub legal : run tree (entries report.schedule.runs) ≡ Some world
  pub other : IsFirstOther report.output world.output number

-- schedule and output are the source's, but not the end
pub record IsOtherEnd (tree : PProgram) (report : Report) : Type 0 where
  pub has : HasOutput tree report
  pub other : EndFits has.world (length (entries report.schedule.runs)) report.end → ⊥

-- what a verdict on a report says
abbrev pub Judges : PProgram → Report → Verdict → Type 0
Judges tree report Just = IsJust tree report
Judges tree report (BadEntry entry) = IsFirstIllegal tree (entries report.schedule.runs) entry
Judges tree report (BadLine line) = IsOtherLine tree report line
Judges tree report BadEnd = IsOtherEnd tree report
