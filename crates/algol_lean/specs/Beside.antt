-- A world that runs beside another one, whose left instances may hold other cells.
use Rattle.std.specs.Prelude.{◌≡◌, ℕ, true, false, List, Option, Some}
use Rattle.algol_tree.specs.Scopes.{Scopes}
use Rattle.algol_meaning.specs.World.{World}
use Rattle.algol_meaning.specs.Run.{may_go, run_from}
use Rattle.algol_run.specs.Stepping.{step_of, told_step, is_going}
use Rattle.algol_run.specs.declared.stepping.Stepped.{Stepped}
use Rattle.algol_seen.specs.Seen.{SeenStep}
use Rattle.algol_seen.specs.declared.seen.Seen.{Seen}
use Rattle.algol_lean.specs.Lean.{Lean, UsesNoneLeft}

-- No action of a run from this world uses a cell of an instance that is left.
abbrev pub KeepsInUse : Scopes → World → Type 0
KeepsInUse sc w = (h : List ℕ) (after : World) (p : ℕ) → run_from sc h (Some w) ≡ Some after → may_go after p ≡ true → UsesNoneLeft sc after p

-- v runs beside w: both do the same, whatever the schedule
pub record RunsBeside (sc : Scopes) (w v : World) : Type 0 where
  pub lean : Lean w v
  pub in_use : KeepsInUse sc w

-- What is told of a step in a world beside w is a step of w, and v is beside the world after it.
pub record StepsBeside (sc : Scopes) (w : World) (p : ℕ) (v : World) (s : Stepped) : Type 0 where
  pub after : World
  pub step : told_step s after ≡ step_of sc w p
  pub still : is_going s ≡ false → after ≡ w
  pub beside : RunsBeside sc after v

-- .. with what it does with cells and events
pub record SeenBeside (sc : Scopes) (w : World) (p : ℕ) (v : World) (s : Option Seen) : Type 0 where
  pub after : World
  pub step : SeenStep sc w p after s
  pub beside : RunsBeside sc after v
