-- What holds of a plant that processors share, call by call, of how many acts each of them made, and of the books when all have left.
use Rattle.std.specs.Prelude.{◌≡◌, ◌≢◌, ◌+◌, ◌≤◌, ℕ, List, length, replicate, sum, None}
use Rattle.std.specs.List.{All}
use Rattle.b67_list.specs.Numbered.{set_numbered}
use Rattle.b67_deeds.specs.declared.Letter.{Letter}
use Rattle.b67_segment.specs.declared.code.Code.{Code}
use Rattle.b67_action.specs.Able.{one_if}
use Rattle.b67_machine.specs.Kept.{operators_counted}
use Rattle.b67_machine.specs.declared.entry.Performed.{Performed}
use Rattle.b67_stands.specs.Running.{Running, answer_of}
use Rattle.b67_stands.specs.Picked.{Pick}
use Rattle.b67_stands.specs.Placing.{holder_of, IsOut}
use Rattle.b67_stands.specs.Calls.{IsFirst, TakesOne, LandsOnce, done_is_action, ActsOnce, RunsOn, Leaves}

-- ---- the calls

-- nobody is out with the processor
abbrev pub IsFree : ℕ → Running → Type 0
IsFree me s = (p : ℕ) → holder_of s.out p ≢ me

-- so many acts more are the processor's
abbrev pub with_acts : List ℕ → ℕ → ℕ → List ℕ
with_acts acts me n = set_numbered acts me (operators_counted acts me + n)

-- A plant of this code under that budget to which calls of so many processors lead, from one before its first take, and how many acts each
-- of them made, in their order. Each take is by a processor with which nobody is out, and of the process at the place that the rule picks,
-- by how many wait and how many takes there have been. Each landing is of a process that is out. Each act is of a process that is out with
-- the processor that makes it, and is counted of that processor exactly where an action was performed, which is an entry of the schedule.
-- Each run is of a process that is out with the processor that brings it, stays out, and is counted of that processor entry by entry. So
-- no more processes are out than there are processors, and none that was taken waits again before its entry.
pub data Shared (code : Code) (budget : ℕ) (pick : Pick) (processors : ℕ) : List ℕ → Running → Type 0 where
  begin : {s : Running} → IsFirst code s → Shared code budget pick processors (replicate processors 0) s
  take : {acts : List ℕ} {old new : Running} (me p : ℕ) → Shared code budget pick processors acts old → answer_of budget old ≡ None → 1 ≤ me → me ≤ processors
      → IsFree me old → TakesOne pick me old p new → Shared code budget pick processors acts new
  land : {acts : List ℕ} {old new : Running} (p n : ℕ) → Shared code budget pick processors acts old → answer_of budget old ≡ None → IsOut old.out p
      → LandsOnce old p n new → Shared code budget pick processors acts new
  act : {acts : List ℕ} {old new : Running} (me p : ℕ) (performed : Performed) → Shared code budget pick processors acts old → answer_of budget old ≡ None
      → 1 ≤ me → me ≤ processors → holder_of old.out p ≡ me → ActsOnce budget old p performed new
      → Shared code budget pick processors (with_acts acts me (one_if (done_is_action performed.done))) new
  run : {acts : List ℕ} {old new : Running} (me p : ℕ) (letters : List Letter) (operators : ℕ) → Shared code budget pick processors acts old → answer_of budget old ≡ None
      → 1 ≤ me → me ≤ processors → holder_of old.out p ≡ me → RunsOn budget old p letters operators new
      → Shared code budget pick processors (with_acts acts me (length letters)) new
  leave : {acts : List ℕ} {old new : Running} → Shared code budget pick processors acts old → answer_of budget old ≢ None → Leaves old new
      → Shared code budget pick processors acts new

-- ---- the books

-- There is one number of acts for each processor. Each has left, and the books of the plant are the sums of the acts and of the leaves.
pub record ByProcessors (processors : ℕ) (s : Running) (acts : List ℕ) : Type 0 where
  pub each : length acts ≡ processors
  pub acts_book : sum acts ≡ s.acts
  pub leaves : List ℕ
  pub each_left : length leaves ≡ processors
  pub left : All (λ (n : ℕ). 1 ≤ n) leaves
  pub leaves_book : sum leaves ≡ s.leaves
