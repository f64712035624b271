-- How far a walk over a schedule went.
use Rattle.std.specs.Prelude.{◌≡◌, ℕ, ◌+◌, ◌<◌, false, List, ◌∷◌, ◌++◌, length, replicate, Some}
use Rattle.algol_tree.specs.Scopes.{Scopes}
use Rattle.algol_meaning.specs.World.{World}
use Rattle.algol_meaning.specs.Run.{may_go, run_from}
use Rattle.algol_lean.specs.Beside.{RunsBeside}
use Rattle.b67_judge.specs.declared.walking.Walked.{Walked}
use Rattle.b67_judge.specs.declared.walking.Walked.TheVariants.{Whole, Stopped}

-- From w on, n entries of the process went; the world after them may go beside `now`.
pub record WentBeside (sc : Scopes) (w : World) (n p : ℕ) (now : World) : Type 0 where
  pub after : World
  pub went : run_from sc (replicate n p) (Some w) ≡ Some after
  pub beside : RunsBeside sc after now

-- .. of so many, as far as it may go
pub record GoesAsFar (sc : Scopes) (w : World) (n times p : ℕ) (now : World) : Type 0 where
  pub goes : WentBeside sc w n p now
  pub stays : n < times → may_go goes.after p ≡ false

-- The entry of that number is the first that may not go, in the world that is there then.
pub record StopsAt (sc : Scopes) (given : List ℕ) (w now : World) (number : ℕ) : Type 0 where
  pub done : List ℕ
  pub process : ℕ
  pub left : List ℕ
  pub split : given ≡ done ++ process ∷ left
  pub legal : run_from sc done (Some w) ≡ Some now
  pub stays : may_go now process ≡ false
  pub is : number ≡ length done + 1

abbrev pub WalksTo : Scopes → List ℕ → World → World → Walked → Type 0
WalksTo sc given w now Whole = run_from sc given (Some w) ≡ Some now
WalksTo sc given w now (Stopped number) = StopsAt sc given w now number

-- a walk to a world that may go beside `now`
pub record WalksBeside (sc : Scopes) (given : List ℕ) (w now : World) (walked : Walked) : Type 0 where
  pub after : World
  pub walks : WalksTo sc given w after walked
  pub beside : RunsBeside sc after now
