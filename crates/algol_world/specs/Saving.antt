-- What is kept of a world, so that it can be put back.
use Rattle.std.specs.Prelude.{map}
use Rattle.algol_tree.specs.Scopes as scoping
use Rattle.algol_meaning.specs.World as world
use Rattle.algol_instances.specs.SeenInstance.{instance}
use Rattle.algol_world.specs.SeenWorld.{processes, fault}
use Rattle.algol_world.specs.declared.saving.Saved.{Saved}

-- the world that was saved, by the scopes of its tree
abbrev pub saved_in : scoping.Scopes → Saved → world.World
saved_in sc s =
    record {
      instances = map instance s.instances;
      processes = processes sc s.processes;
      output = s.output;
      fault = fault s.fault;
    }
