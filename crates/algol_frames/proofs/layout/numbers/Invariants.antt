use Rattle.std.proofs.Common.{◌≡◌, drop}
use Rattle.std.specs.Option.{option_or}
use Rattle.std.specs.BTreeMap.{get}
use Rattle.algol_tree.specs.declared.token.Spot.{Spot}
use Rattle.algol_tree.specs.contracts.token.SpotOrd.TheImpl.{ghosts}
use Rattle.algol_frames.specs.Laying.{number_from}
use Rattle.algol_frames.proofs.layout.numbers.Given as goal

abbrev pub invariant-each : goal.invariant-each
invariant-each l =
    (q : Spot) → option_or (get ghosts.cmp l.numbers q) (number_from l.at (drop l.at l.blocks) q) ≡ number_from 0 l.blocks q
