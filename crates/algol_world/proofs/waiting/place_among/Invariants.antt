use Rattle.std.proofs.Common.{◌≡◌, ◌+◌, drop, map}
use Rattle.algol_meaning.specs.Events.{same_reference, first_that}
use Rattle.algol_cells.specs.SeenCell.{reference}
use Rattle.algol_world.proofs.waiting.place_among.Given as goal

abbrev pub invariant-looking : goal.invariant-looking
invariant-looking l =
    (first_that (λ s. same_reference s (reference l.r)) 1 (map reference l.rs)
    ≡ first_that (λ s. same_reference s (reference l.r)) l.place (map reference (drop l.s-index l.rs)))
    × (l.place ≡ l.s-index + 1)
