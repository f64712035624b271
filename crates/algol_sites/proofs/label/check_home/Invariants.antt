use Rattle.std.proofs.Common.{◌≡◌, drop}
use Rattle.algol_tree.specs.Accepted.{noted_all}
use Rattle.algol_sites.specs.Labelling.{away}
use Rattle.algol_sites.proofs.label.check_home.Given as goal

abbrev pub invariant-standings : goal.invariant-standings
invariant-standings l = noted_all l.faults.first (away (drop l.standing-index l.standings)) ≡ noted_all l.initial.faults.first (away l.fn.standings)
