use Rattle.std.proofs.Common.{◌≡◌, drop}
use Rattle.std.specs.Option.{option_or}
use Rattle.std.specs.BTreeMap.{get}
use Rattle.algol_tree.specs.declared.token.Spot.{Spot}
use Rattle.algol_tree.specs.contracts.token.SpotOrd.TheImpl.{ghosts}
use Rattle.algol_frames.specs.Laying.{parameters_from}
use Rattle.algol_frames.proofs.layout.parameters.Given as goal

abbrev pub invariant-uses : goal.invariant-uses
invariant-uses l =
    (q : Spot) → option_or (get ghosts.cmp l.parameters q) (parameters_from (drop l.found-index l.uses) q) ≡ parameters_from l.uses q
