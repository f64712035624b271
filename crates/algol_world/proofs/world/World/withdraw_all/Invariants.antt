use Rattle.std.proofs.Common.{◌≡◌, drop}
use Rattle.algol_meaning.specs.Events.{all_withdrawn}
use Rattle.algol_cells.specs.SeenCell.{reference}
use Rattle.algol_world.specs.SeenWorld.{world_of}
use Rattle.algol_world.proofs.world.World.withdraw_all.Given as goal

abbrev pub invariant-withdrawing : goal.invariant-withdrawing
invariant-withdrawing l =
    (all_withdrawn (world_of l.self) (reference l.r) (drop l.number-index l.numbers) ≡ all_withdrawn (world_of l.initial.self) (reference l.r) l.numbers)
    × (l.self.scopes ≡ l.initial.self.scopes)
