use Rattle.algol_lows.proofs.LowerBounds.{program_added}
use Rattle.algol_lows.proofs.bounds.lows_of_program.Goals as goal

pub returns : goal.returns
returns c =
    program_added c.args.scopes.now c.args.tree.now.body c.new-table.result c.add_in_body.new.table c.requires.resolved c.requires.order c.new-table.ensures.empty
    c.in_ok-add_in_body.ensures
