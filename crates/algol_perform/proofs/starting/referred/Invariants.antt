use Rattle.std.proofs.Common.{◌≡◌, ◌∷◌, ◌++◌, drop, map}
use Rattle.algol_meaning.specs.Critical.{referred_by}
use Rattle.algol_cells.specs.SeenCell.{cell}
use Rattle.algol_perform.proofs.starting.referred.Given as goal

abbrev pub invariant-referring : goal.invariant-referring
invariant-referring l = l.wanted.items ++ referred_by (map cell (drop l.cell-index l.cells)) ≡ l.parent ∷ referred_by (map cell l.cells)
