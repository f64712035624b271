use Rattle.std.proofs.Common.{◌∙◌}
use Rattle.algol_lows.proofs.LowerBounds.{names_step}
use Rattle.algol_lows.proofs.bounds.add_parameters.Goals as goal

pub names-preserved : goal.names-preserved
names-preserved c spot =
    names_step c.args.scopes.now c.args.names.now c.names.n-index c.n-item.result c.args.lows.now c.names.table c.add_parameter.new.table c.names-test.true c.n-item.is
    c.in_ok-add_parameter.ensures spot
    ∙ c.names.invariant spot
