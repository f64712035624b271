use Rattle.std.proofs.Common.{◌∙◌}
use Rattle.algol_sorts.specs.Specified.{specified_as}
use Rattle.algol_sorts.proofs.Telling.{name_step}
use Rattle.algol_sorts.proofs.heading.specify.Goals as goal

pub names-preserved : goal.names-preserved
names-preserved c = λ q.
    name_step c.deref-named-items.result.now c.names.named-index c.named-item.result c.bytes.result c.of.result c.names.table c.insert.new.self c.specified_as.result
    (specified_as c.args.spec.now) c.names-test.true c.named-item.is c.bytes.ensures c.specified_as.ensures c.of.ensures c.in_ok-insert.ensures.updates q
    ∙ c.names.invariant q
