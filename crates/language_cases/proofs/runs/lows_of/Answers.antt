use Rattle.algol_front.proofs.Ordered.{source_in_order}
use Rattle.algol_tree.specs.Image.{program}
use Rattle.language_cases.proofs.runs.lows_of.Goals as goal

pub lows_of_program-requires-clause-order : goal.lows_of_program-requires-clause-order
lows_of_program-requires-clause-order c = source_in_order (program c.args.checked.now.program) c.args.checked.now.accepted
