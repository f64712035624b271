-- Turns of one process, one after another.
use Rattle.std.specs.Prelude.{◌≡◌, ◌≤◌, ℕ, suc, None}
use Rattle.b67_limits.specs.declared.TheConstants.{MOST_BUDGET}
use Rattle.b67_segment.specs.declared.code.Code.{Code}
use Rattle.b67_table.specs.Sound.{Sound}
use Rattle.b67_table.specs.Valid.{IsValid}
use Rattle.b67_machine.specs.declared.entry.Performed.{Performed}
use Rattle.b67_stands.specs.Running.{Running, answer_of}
use Rattle.b67_stands.specs.Placing.{holder_of, IsOut}
use Rattle.b67_stands.specs.Picked.{Pick}
use Rattle.b67_stands.specs.Stands.{Stands}
use Rattle.b67_stands.specs.Calls.{TakesOne, ActsOnce}
use Rattle.b67_stands.specs.Alone.{ByOne}

-- an act of a process that is out, after which the run goes on, and a take, which is of the same process
pub record ActsAgain (pick : Pick) (budget me p : ℕ) (old new : Running) : Type 0 where
  pub performed : Performed
  pub acted : Running
  pub acts : ActsOnce budget old p performed acted
  pub valid : IsValid acted.machine.code acted.machine.image
  pub going : answer_of budget acted ≡ None
  pub takes : TakesOne pick me acted p new

-- so many of them, one after another
pub data ActsOn (pick : Pick) (budget me p : ℕ) : Running → ℕ → Running → Type 0 where
  stay : {a : Running} → ActsOn pick budget me p a 0 a
  go : {a b c : Running} {n : ℕ} → ActsOn pick budget me p a n b → ActsAgain pick budget me p b c → ActsOn pick budget me p a (suc n) c

-- so many of them, and then an act, of which so much was performed
pub record ActsMany (pick : Pick) (budget : ℕ) (old : Running) (p turns : ℕ) (performed : Performed) (new : Running) : Type 0 where
  pub between : Running
  pub acts : ActsOn pick budget (holder_of old.out p) p old turns between
  pub last : ActsOnce budget between p performed new

-- the plant stands, its run goes on, and the process is out
pub record StandsOut (code : Code) (budget p : ℕ) (s : Running) : Type 0 where
  pub stands : Stands code budget s
  pub going : answer_of budget s ≡ None
  pub out : IsOut s.out p

-- the process was taken of a plant on which one processor works
pub record TakenByOne (code : Code) (budget : ℕ) (pick : Pick) (me p : ℕ) (s : Running) : Type 0 where
  pub before : Running
  pub stands : Stands code budget before
  pub by_one : ByOne code budget pick before
  pub going : answer_of budget before ≡ None
  pub takes : TakesOne pick me before p s

pub record TurnsKeepOn : Type 0 where
  pub stands : (code : Code) (budget : ℕ) (pick : Pick) (me p n : ℕ) (old new : Running) → Sound code → 1 ≤ me → StandsOut code budget p old → ActsOn pick budget me p old n new
      → StandsOut code budget p new
  pub by_one : (code : Code) (budget : ℕ) (pick : Pick) (me p n : ℕ) (old new : Running) → Sound code → budget ≤ MOST_BUDGET → 1 ≤ me → TakenByOne code budget pick me p old
      → ActsOn pick budget me p old n new → TakenByOne code budget pick me p new
  -- and no operator is lost of the count
  pub spent : (budget : ℕ) (pick : Pick) (me p n : ℕ) (old new : Running) → ActsOn pick budget me p old n new → old.spent ≤ new.spent
