use Rattle.std.proofs.Common.{◌≡◌, ◌+◌, drop, map}
use Rattle.b67_deeds.specs.Deeds.{answers}
use Rattle.b67_deeds.specs.declared.EventTest.TheVariants as test
use Rattle.algol_meaning.specs.Events.{event_at, first_that, first_happened}
use Rattle.algol_cells.specs.SeenCell.{reference}
use Rattle.algol_world.specs.SeenWorld.{world_of}
use Rattle.algol_step.proofs.testing.first_happened.Given as goal

abbrev pub invariant-looking : goal.invariant-looking
invariant-looking l =
    (first_happened (world_of l.world) (map reference l.rs)
    ≡ first_that (λ r. answers test.WaitAny (event_at (world_of l.world) r)) l.place (map reference (drop l.r-index l.rs)))
    × (l.place ≡ l.r-index + 1)
