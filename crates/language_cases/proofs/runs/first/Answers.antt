use Rattle.algol_front.proofs.Ordered.{source_in_order}
use Rattle.algol_tree.specs.Image.{program}
use Rattle.language_cases.proofs.runs.first.Goals as goal

pub scopes_of-requires-clause-order : goal.scopes_of-requires-clause-order
scopes_of-requires-clause-order c = source_in_order (program c.args.checked.now.program) c.args.checked.now.accepted
