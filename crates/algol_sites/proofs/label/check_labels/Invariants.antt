use Rattle.std.proofs.Common.{◌≡◌, drop}
use Rattle.algol_tree.specs.Accepted.{noted_all}
use Rattle.algol_sites.specs.Labelling.{bad_in}
use Rattle.algol_sites.proofs.label.check_labels.Given as goal

abbrev pub invariant-labels : goal.invariant-labels
invariant-labels l = noted_all l.faults.first (bad_in l.fn.standings (drop l.declared-index l.labels)) ≡ noted_all l.initial.faults.first (bad_in l.fn.standings l.fn.labels)
