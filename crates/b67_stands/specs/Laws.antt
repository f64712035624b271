-- A plant stands from its first take to its end.
use Rattle.std.specs.Prelude.{◌≡◌, ◌≢◌, ◌≤◌, ◌<◌, ◌+◌, ℕ, nat_le, List, [], None}
use Rattle.b67_limits.specs.declared.TheConstants.{MOST_STRETCH}
use Rattle.b67_deeds.specs.declared.Letter.{Letter}
use Rattle.b67_segment.specs.declared.code.Code.{Code}
use Rattle.b67_table.specs.Beginning.{first_image}
use Rattle.b67_table.specs.Sound.{Sound}
use Rattle.b67_table.specs.Valid.{IsValid}
use Rattle.b67_machine.specs.declared.entry.Performed.{Performed}
use Rattle.b67_stands.specs.Running.{Running, spends, answer_of}
use Rattle.b67_stands.specs.Placing.{IsOut}
use Rattle.b67_stands.specs.Stands.{Stands}
use Rattle.b67_stands.specs.Calls.{IsFirst, TakesOne, LandsOnce, GoesBack, ActsOnce, RunsOn, Leaves}

pub record CallsKeepStands : Type 0 where
  pub first : (code : Code) (budget : ℕ) (s : Running) → IsValid code first_image → IsFirst code s → Stands code budget s
  -- takes, landings, ways back to the queue, acts and runs while the run goes on, all but takes of a process that is out
  pub take : (code : Code) (budget : ℕ) (old new : Running) (pick : ℕ → ℕ → ℕ) (me p : ℕ) → Stands code budget old → answer_of budget old ≡ None → 1 ≤ me
      → TakesOne pick me old p new → Stands code budget new
  pub land : (code : Code) (budget : ℕ) (old new : Running) (p n : ℕ) → Stands code budget old → answer_of budget old ≡ None → IsOut old.out p
      → old.spent + n < budget + MOST_STRETCH → LandsOnce old p n new → Stands code budget new
  pub back : (code : Code) (budget : ℕ) (old new : Running) (p : ℕ) → Stands code budget old → answer_of budget old ≡ None → IsOut old.out p
      → GoesBack old p new → Stands code budget new
  pub act : (code : Code) (budget : ℕ) (old new : Running) (p : ℕ) (performed : Performed) → Sound code → Stands code budget old → answer_of budget old ≡ None
      → IsOut old.out p → IsValid new.machine.code new.machine.image → ActsOnce budget old p performed new → Stands code budget new
  pub run : (code : Code) (budget : ℕ) (old new : Running) (p : ℕ) (letters : List Letter) (operators : ℕ) → Sound code → Stands code budget old
      → answer_of budget old ≡ None → IsOut old.out p → RunsOn budget old p letters operators new → Stands code budget new
  -- leaves once it has ended
  pub leave : (code : Code) (budget : ℕ) (old new : Running) → Stands code budget old → answer_of budget old ≢ None → Leaves old new → Stands code budget new
  -- after entries that land the run goes on
  pub runs_on : (budget : ℕ) (old new : Running) (p : ℕ) (letters : List Letter) (operators : ℕ) → answer_of budget old ≡ None
      → RunsOn budget old p letters operators new → answer_of budget new ≡ None
  -- a landing ends the run exactly where the operators have reached the budget
  pub lands_to : (budget : ℕ) (old new : Running) (p n : ℕ) → answer_of budget old ≡ None → LandsOnce old p n new
      → answer_of budget new ≡ spends (nat_le budget new.spent)
  -- while it goes on and nobody waits, some process is out
  pub idle : (code : Code) (budget : ℕ) (s : Running) → Stands code budget s → answer_of budget s ≡ None → s.waiting ≡ [] → (p : ℕ) × IsOut s.out p
