use Rattle.algol_sites.proofs.Statements.{write_notes}
use Rattle.algol_sites.proofs.statement.write.Goals as goal

pub returns : goal.returns
returns c = λ listed.
    write_notes c.args.scopes.now c.args.file.now c.args.spot c.args.phrases.now c.args.items.now listed c.args.faults.now.first c.want_name.new.faults.first
    c.want_numbers.new.faults.first c.check_line.new.faults.first c.expressions.new.faults.first c.want_name.ensures c.want_numbers.ensures c.check_line.ensures
    c.expressions.ensures
