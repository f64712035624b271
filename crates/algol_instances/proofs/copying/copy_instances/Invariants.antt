use Rattle.std.proofs.Common.{◌≡◌, take}
use Rattle.algol_instances.proofs.copying.copy_instances.Given as goal

abbrev pub invariant-loop-from : goal.invariant-loop-from
invariant-loop-from l = l.copies.items ≡ take l.from-index l.instances
