use Rattle.b67_asm.proofs.Gathering.{gathers_label, gathers_nothing, gathers_operator}
use Rattle.b67_asm.proofs.label.gather.Goals as goal

pub returns-in_ok-put-in-Label-clause-gathers : goal.returns-in_ok-put-in-Label-clause-gathers
returns-in_ok-put-in-Label-clause-gathers c =
    gathers_label c.args.labels.now c.args.line c.args.at c.args.reading.now c.put.new.labels c.in-Label.name c.bytes.result.now c.in-Label.is c.bytes.ensures c.in_ok-put-in-Label.ensures

pub returns-in-Operator-clause-gathers : goal.returns-in-Operator-clause-gathers
returns-in-Operator-clause-gathers c =
    gathers_operator c.args.labels.now c.args.line c.args.at c.args.reading.now c.in-Operator.written c.place_after.result c.in-Operator.is c.place_after.ensures.value

pub returns-in_default-clause-gathers : goal.returns-in_default-clause-gathers
returns-in_default-clause-gathers c =
    gathers_nothing c.args.labels.now c.args.line c.args.at c.args.reading.now c.in_default.not-Label c.in_default.not-Operator c.requires.inside
