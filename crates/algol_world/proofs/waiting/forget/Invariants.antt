use Rattle.std.proofs.Common.{◌≡◌, drop, map}
use Rattle.algol_meaning.specs.Events.{forgotten}
use Rattle.algol_cells.specs.SeenCell.{reference}
use Rattle.algol_instances.specs.SeenInstance.{holding, instance}
use Rattle.algol_world.proofs.waiting.forget.Given as goal

abbrev pub invariant-leaving : goal.invariant-leaving
invariant-leaving l =
    (forgotten (holding (map instance l.instances)) l.number (map reference (drop l.r-index l.rs))).instances
    ≡ (forgotten (holding (map instance l.initial.instances)) l.number (map reference l.rs)).instances
