use Rattle.algol_tree.proofs.Images.{stmt_of_if_then}
use Rattle.algol_stmt.proofs.make.if_then.Goals as goal

pub returns : goal.returns
returns c = stmt_of_if_then c.args.condition c.args.yes
