use Rattle.std.proofs.Common.{◌≡◌, ◌+◌, ◌-◌, ◌^◌, ◌≤◌, drop, map}
use Rattle.algol_meaning.specs.Arrays.{live_elements}
use Rattle.algol_instances.specs.SeenArray.{capped}
use Rattle.algol_instances.specs.SeenInstance.{instance}
use Rattle.algol_instances.proofs.size.live_in_all.Given as goal

abbrev pub invariant-adding : goal.invariant-adding
invariant-adding l = record {
  sum : capped (l.size + live_elements (map instance (drop l.x-index l.instances))) ≡ capped (live_elements (map instance l.instances));
  fits : l.size ≤ 2 ^ 64 - 1;
}
