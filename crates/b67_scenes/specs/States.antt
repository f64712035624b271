-- In which states a process is in a world and in an image at once.
use Rattle.std.specs.Prelude.{Option, Some}
use Rattle.algol_tree.specs.Scopes.{Scopes}
use Rattle.algol_meaning.specs.World.{State, able, waits_for, waits_any, procures, ended, World}
use Rattle.b67_table.specs.declared.ProcessState.{ProcessState}
use Rattle.b67_table.specs.declared.ProcessState.TheVariants.{Able, WaitsFor, WaitsAny, Procures, Ended}
use Rattle.b67_frames.specs.Arrays.{Layout}
use Rattle.b67_scenes.specs.Depending.{IsEventAt}

module _ (sc : Scopes) (w : World) (lay : Layout) where
  -- It is able in both; or it waits in both in the same way, and the one event for which it waits in the world lies at the place for which it
  -- waits in the image; or it has ended in both.
  abbrev pub StateIs : State → Option ProcessState → Type 0
  StateIs able (Some Able) = Unit {0}
  StateIs (waits_for r) (Some (WaitsFor at)) = IsEventAt sc w lay r at
  StateIs (waits_any rs) (Some WaitsAny) = Unit {0}
  StateIs (procures r) (Some (Procures at)) = IsEventAt sc w lay r at
  StateIs ended (Some Ended) = Unit {0}
  StateIs _ _ = ⊥
