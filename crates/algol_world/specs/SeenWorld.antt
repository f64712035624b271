-- What the world of the code stands for.
use Rattle.std.specs.Prelude.{ℕ, List, map, Option, Some, None}
use Rattle.std.specs.Borrow.{Bor}
use Rattle.algol_tree.specs.Scopes as scoping
use Rattle.algol_meaning.specs.Value as plain
use Rattle.algol_meaning.specs.World as world
use Rattle.algol_cells.specs.SeenScope.{scoped}
use Rattle.algol_rest.specs.SeenRest.{rest}
use Rattle.algol_cells.specs.SeenCell.{reference}
use Rattle.algol_cells.specs.declared.cell.Reference.{Reference}
use Rattle.algol_instances.specs.SeenInstance.{instance}
use Rattle.algol_world.specs.declared.world.Purpose.{Purpose}
use Rattle.algol_world.specs.declared.world.Purpose.TheVariants as purposes
use Rattle.algol_world.specs.declared.world.Part.{Part}
use Rattle.algol_world.specs.declared.world.State.{State}
use Rattle.algol_world.specs.declared.world.State.TheVariants as states
use Rattle.algol_world.specs.declared.world.Process.{Process}
use Rattle.algol_world.specs.declared.world.WorldFault.{WorldFault}
use Rattle.algol_world.specs.declared.world.World.{World}

abbrev pub purpose : Purpose → world.Purpose
purpose purposes.Block = world.block
purpose purposes.Procedure = world.procedure
purpose purposes.NameRead = world.name_read
purpose purposes.NamePlace = world.name_place
purpose purposes.Started = world.started

abbrev pub state : State → world.State
state states.Able = world.able
state (states.WaitsFor r) = world.waits_for (reference r)
state (states.WaitsAny rs) = world.waits_any (map reference rs)
state (states.Procures r) = world.procures (reference r)
state states.Ended = world.ended

abbrev pub task : Option Reference → Option plain.Reference
task None = None
task (Some r) = Some (reference r)

abbrev pub fault : Option WorldFault → Option world.WorldFault
fault None = None
fault (Some f) = Some (record { kind = f.kind; process = f.process })

module _ (sc : scoping.Scopes) where
  abbrev pub part : Part → world.Part
  part x = record { instance = x.instance; purpose = purpose x.purpose; rest = rest sc x.rest }

  abbrev pub process : Process → world.Process
  process q = record { todo = map part q.todo; critical = q.critical; task = task q.task; state = state q.state; woken = q.woken }

  abbrev pub processes : List Process → List world.Process
  processes qs = map process qs

abbrev pub world_of : World → world.World
world_of w =
    record {
      instances = map instance w.instances;
      processes = processes (scoped w.scopes) w.processes;
      output = w.output;
      fault = fault w.fault;
    }

-- the process of that number, one that has ended where there is none
abbrev pub process_of : World → ℕ → world.Process
process_of w p = world.process_at (world_of w) p

abbrev pub process_or_none : scoping.Scopes → Option (Bor Process) → world.Process
process_or_none sc None = world.no_process
process_or_none sc (Some q) = process sc q.now
