use Rattle.std.proofs.Common.{◌≡◌, drop}
use Rattle.algol_tree.specs.Accepted.{noted_all}
use Rattle.algol_sites.specs.Labelling.{label_again}
use Rattle.algol_sites.proofs.label.check_standings.Given as goal

abbrev pub invariant-again : goal.invariant-again
invariant-again l = noted_all l.faults.first (label_again (drop l.standing-index l.again)) ≡ noted_all l.initial.faults.first (label_again l.again)
