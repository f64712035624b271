use Rattle.std.proofs.Common.{rules, ap, ◌∙◌}
use Rattle.algol_meaning.specs.Asks.{nth_stmt}
use Rattle.algol_meaning.specs.SeenTree.{stmts}
use Rattle.algol_rest.proofs.Answering.{nth_got}
use Rattle.algol_rest.proofs.resuming.nth.Goals as goal

pub returns : goal.returns
returns c =
    let l = c.get.ensures.lookup in nth_got c.args.ss.now _ c.get.result l.0 l.1 ∙ ap (nth_stmt (stmts c.args.ss.now)) (search (rules))
