-- What holds of a plant on which one processor works, between its turns: a take, and the act of who was taken.
use Rattle.std.specs.Prelude.{◌≡◌, ◌≢◌, ◌≤◌, ℕ, false, List, [], length, reverse, None}
use Rattle.b67_limits.specs.declared.TheConstants.{MOST_BUDGET}
use Rattle.b67_schedule.specs.Schedules.{entries}
use Rattle.b67_segment.specs.declared.code.Code.{Code}
use Rattle.b67_table.specs.Image.{Image}
use Rattle.b67_table.specs.Runs.{Runs}
use Rattle.b67_table.specs.Sound.{Sound}
use Rattle.b67_machine.specs.declared.entry.Performed.{Performed}
use Rattle.b67_stands.specs.Running.{Running, answer_of}
use Rattle.b67_stands.specs.Picked.{Pick, waiting_after, ArePicked}
use Rattle.b67_stands.specs.Placing.{holder_of}
use Rattle.b67_stands.specs.Stands.{Stands}
use Rattle.b67_stands.specs.Calls.{IsFirst, TakesOne, done_is_action, ActsOnce}

-- nobody is out, and the next turn is that of the run under the rule
pub record IsNext (pick : Pick) {code : Code} {history counts : List ℕ} {image : Image} (runs : Runs code history counts image) (s : Running) : Type 0 where
  pub shows : s.machine.image ≡ image
  pub waiting : s.waiting ≡ waiting_after pick runs
  pub takes : s.takes ≡ length history
  pub nobody : (p : ℕ) → holder_of s.out p ≡ 0

-- Each entry of the schedule is of the process that the rule picks, in a run of the code without tails, and the operators are within the
-- budget.
pub record ByOne (code : Code) (budget : ℕ) (pick : Pick) (s : Running) : Type 0 where
  pub history : List ℕ
  pub counts : List ℕ
  pub image : Image
  pub runs : Runs code history counts image
  pub order : entries s.schedule.runs ≡ reverse history
  pub picked : ArePicked pick runs
  pub next : answer_of budget s ≡ None → IsNext pick runs s
  pub within : s.spent ≤ budget

-- a turn leaves it so, and a run of which no action was performed has ended
pub record KeepsByOne (code : Code) (budget : ℕ) (pick : Pick) (performed : Performed) (new : Running) : Type 0 where
  pub by_one : ByOne code budget pick new
  pub ended : done_is_action performed.done ≡ false → answer_of budget new ≢ None

pub record TurnsKeepByOne : Type 0 where
  -- so it is at first
  pub first : (code : Code) (budget : ℕ) (pick : Pick) (s : Running) → IsFirst code s → ByOne code budget pick s
  -- and after each turn
  pub turn : (code : Code) (budget : ℕ) (pick : Pick) (old between new : Running) (me p : ℕ) (performed : Performed) → Sound code → budget ≤ MOST_BUDGET
      → Stands code budget old → ByOne code budget pick old → answer_of budget old ≡ None → TakesOne pick me old p between → ActsOnce budget between p performed new
      → KeepsByOne code budget pick performed new
  -- and while the run goes on, somebody waits
  pub some : (code : Code) (budget : ℕ) (pick : Pick) (s : Running) → Stands code budget s → ByOne code budget pick s → answer_of budget s ≡ None → s.waiting ≢ []
