use Rattle.algol_tree.proofs.Images.{if_else_is}
use Rattle.algol_stmt.proofs.make.if_else.Goals as goal

pub returns : goal.returns
returns c = if_else_is c.args.condition c.args.yes c.args.otherwise
