use Rattle.std.proofs.Common.{◌≡◌, take}
use Rattle.algol_tree.specs.Scopes.{Scopes}
use Rattle.algol_world.specs.SeenWorld.{processes}
use Rattle.algol_world.proofs.saving.copy_processes.Given as goal

abbrev pub invariant-loop-q : goal.invariant-loop-q
invariant-loop-q l = (sc : Scopes) → processes sc l.copies.items ≡ processes sc (take l.q-index l.processes)
