use Rattle.algol_tree.specs.Image.{body, decls, stmts}
use Rattle.algol_tree.proofs.Images.{body_is}
use Rattle.b67_list.proofs.Answered.{on_ok}
use Rattle.algol_scope.proofs.Found.{found_program}
use Rattle.algol_scope.proofs.whole.walk.Goals as goal

pub returns : goal.returns
returns c =
    on_ok c.body.result
    (λ filled.
    found_program c.args.resolver.now c.begun.new.self c.body.new.self c.args.program.now.body.spot (decls c.args.program.now.body.decls)
    (stmts c.args.program.now.body.stmts) (body c.args.program.now.body) (body_is c.args.program.now.body) c.requires.order c.requires.fresh
    c.in_ok-begun.ensures.begins c.in_ok-begun.ensures.around c.in_ok-begun.ensures.findings filled)
    c.body.ensures
