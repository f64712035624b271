-- Where a walk over a schedule stands that notes what each entry does.
use Rattle.std.specs.Prelude.{◌≡◌, ℕ, Bool, true, false, List, ◌++◌, Some, None}
use Rattle.algol_tree.specs.Scopes.{Scopes}
use Rattle.algol_meaning.specs.World.{World}
use Rattle.algol_meaning.specs.Run.{run_from}
use Rattle.algol_lean.specs.Beside.{RunsBeside}
use Rattle.b67_race.specs.Noted.{StandsAfter}
use Rattle.b67_race.specs.declared.walk.Walk.{Walk}
use Rattle.b67_races.specs.Schedules.{all_done_from}

-- From a world on, some entries of a schedule were made and noted, and these are left; the world after those that were made may go beside `now`.
pub record ScheduleStands (sc : Scopes) (w : World) (given : List ℕ) (now : World) (walk : Walk) (left : List ℕ) : Type 0 where
  pub done : List ℕ
  pub split : given ≡ done ++ left
  pub world : World
  pub legal : run_from sc done (Some w) ≡ Some world
  pub beside : RunsBeside sc world now
  pub noted : StandsAfter (all_done_from sc w done) walk

-- Either it goes on, or the schedule is not legal.
abbrev pub WorldGoes : Scopes → World → List ℕ → World → Walk → List ℕ → Bool → Type 0
WorldGoes sc w given now walk left true = ScheduleStands sc w given now walk left
WorldGoes sc w given now walk left false = run_from sc given (Some w) ≡ None
