use Rattle.algol_front.proofs.Ordered.{source_in_order}
use Rattle.algol_tree.specs.Image.{program}
use Rattle.b67_judge.proofs.Beside.{first_beside}
use Rattle.b67_judge.proofs.judging.first.Goals as goal

pub scopes_of-requires-clause-order : goal.scopes_of-requires-clause-order
scopes_of-requires-clause-order c = source_in_order (program c.args.checked.now.program) c.args.checked.now.accepted

pub returns-clause-beside : goal.returns-clause-beside
returns-clause-beside c =
    first_beside (program c.args.checked.now.program) c.in_ok-scopes.scopes c.start.result c.args.checked.now.accepted c.in_ok-scopes.ensures c.start.ensures.begins c.start.ensures.same
