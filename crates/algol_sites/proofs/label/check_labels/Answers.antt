use Rattle.std.proofs.Common.{◌∙◌}
use Rattle.algol_sites.proofs.Places.{labels_step}
use Rattle.algol_sites.proofs.label.check_labels.Goals as goal

pub labels-preserved : goal.labels-preserved
labels-preserved c =
    labels_step c.args.standings.now c.args.labels.now c.labels.declared-index (record { line = 0; column = 0 }) c.in_ok-table.table c.labels.faults.first
    c.check_label.new.faults.first c.labels-test.true c.in_ok-table.ensures c.check_label.ensures
    ∙ c.labels.invariant
