use Rattle.std.proofs.Common.{◌∙◌, drop}
use Rattle.std.proofs.lemmas.List.{drop_all}
use Rattle.algol_sorts.specs.declared.sort.Sort.TheVariants as sort
use Rattle.algol_sorts.proofs.Telling.{value_step, values_end}
use Rattle.algol_sorts.proofs.heading.names_in.Goals as goal

pub names-preserved : goal.names-preserved
names-preserved c = λ q.
    value_step c.args.names.now c.names.named-index c.named-item.result c.bytes.result c.of.result c.names.table c.insert.new.self sort.Unspecified
    c.names-test.true c.named-item.is c.bytes.ensures c.of.ensures c.in_ok-insert.ensures.updates q
    ∙ c.names.invariant q

pub returns : goal.returns
returns c = λ q.
    values_end c.names.table (drop c.names.named-index c.args.names.now) c.args.names.now q
    (drop_all c.names.named-index c.args.names.now c.names-test.false) (c.names.invariant q)
