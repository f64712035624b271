-- What holds of a plant whenever its lock is free.
use Rattle.std.specs.Prelude.{◌≡◌, ◌≢◌, ◌⊎◌, ℕ, ◌+◌, ◌<◌, ◌≤◌, true, List, length, sum, Some, None}
use Rattle.b67_limits.specs.declared.TheConstants.{MOST_STRETCH}
use Rattle.b67_schedule.specs.Schedules.{entries}
use Rattle.b67_segment.specs.declared.code.Code.{Code}
use Rattle.b67_table.specs.Image.{Image}
use Rattle.b67_table.specs.Ending.{image_end, may_act}
use Rattle.b67_table.specs.Limits.{most_processes}
use Rattle.b67_table.specs.Outcome.{limit}
use Rattle.b67_table.specs.Runs.{count_of}
use Rattle.b67_table.specs.Table.{table}
use Rattle.b67_table.specs.Valid.{IsValid}
use Rattle.b67_action.specs.Able.{able_in}
use Rattle.b67_machine.specs.Kept.{operators_counted}
use Rattle.b67_machine.specs.Letters.{AreLetters}
use Rattle.b67_machine.specs.Replaying.{MachineStands}
use Rattle.b67_stands.specs.Tails.{tail_of}
use Rattle.b67_stands.specs.Going.{Leads}
use Rattle.b67_stands.specs.Running.{Running, answer_of}
use Rattle.b67_stands.specs.Placing.{ProcessesPlaced}

-- the process may act, and its next operator comes to the stack limit
pub record AtLimit (code : Code) (image : Image) (p : ℕ) : Type 0 where
  pub next : table code image p ≡ limit
  pub may : may_act image p ≡ true

-- The plant is one of a run of this code under that budget.
pub record Stands (code : Code) (budget : ℕ) (s : Running) : Type 0 where
  pub same : s.machine.code ≡ code
  pub valid : IsValid code s.machine.image
  -- the machine's image and counts and the schedule's letters are those of a run of the code under the schedule, and then so many plain
  -- operators of each process
  pub tails : List ℕ
  pub image : Image
  pub leads : Leads code (entries s.schedule.runs) tails image
  pub letters : AreLetters leads.run.runs s.schedule.letters
  pub shows : MachineStands s.machine.lacked image s.machine.image
  pub counts : (p : ℕ) → operators_counted s.machine.counts p ≡ count_of p leads.run.history leads.run.counts + tail_of tails p
  -- tails are of processes that there are, and only of such as are able
  pub few : length tails ≤ image.started
  pub able : (p : ℕ) → (tail_of tails p ≡ 0) ⊎ (able_in image p ≡ true)
  -- the operators are less than a stretch above the budget, and within it where the image has an end
  pub spends : s.spent ≡ sum leads.run.counts + sum tails
  pub below : s.spent < budget + MOST_STRETCH
  pub within : image_end image ≢ None → s.spent ≤ budget
  -- the stack limit, and want of memory, come only where there is no other end
  pub limit : (p : ℕ) → s.machine.limit ≡ Some p → AtLimit code image p × (s.spent < budget)
  pub lacking : s.machine.lacked ≡ true → (image_end image ≡ None) × (s.spent < budget) × (s.machine.limit ≡ None)
  -- while the run goes on, each process that is able is in the queue or out; there is a holder for each process that there may be
  pub placed : answer_of budget s ≡ None → ProcessesPlaced s.machine.image s.waiting s.out
  pub holders : length s.out ≡ most_processes
  -- the book of acts is the schedule's length, and a processor has left only where the run has ended
  pub acts : s.acts ≡ length (entries s.schedule.runs)
  pub left : s.leaves ≢ 0 → answer_of budget s ≢ None
