use Rattle.algol_known.proofs.Tables.{puts_entry}
use Rattle.algol_known.proofs.known.Names.declare_parameter.Goals as goal

pub returns-clause-puts : goal.returns-clause-puts
returns-clause-puts c = puts_entry c.args.name c.of.result c.args.self.now.parameters c.insert.new.self c.args.entry c.of.ensures c.in_ok-insert.ensures.updates
