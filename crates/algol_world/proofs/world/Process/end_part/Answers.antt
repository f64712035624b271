use Rattle.std.proofs.Common.{ap, sym, ◌∙◌}
use Rattle.algol_cells.specs.Shown.{shown_cell}
use Rattle.algol_cells.specs.SeenScope.{scoped}
use Rattle.algol_rest_expr.specs.SeenExpression.{rest_answered}
use Rattle.algol_world.specs.SeenWorld.{process}
use Rattle.algol_world.proofs.Processes.{nothing_left, next_left}
use Rattle.algol_world.proofs.world.Process.end_part.Goals as goal

pub returns-in-None : goal.returns-in-None
returns-in-None c =
    let sc = scoped c.args.scopes.now in
    ap (λ (parts : _). record (process sc c.args.self.now) { todo = parts })
    (nothing_left sc (rest_answered c.args.answer) c.args.self.now.todo (ap shown_cell (sym c.in-None.is) ∙ c.under.ensures))

pub returns-in-Some : goal.returns-in-Some
returns-in-Some c =
    let there = ap shown_cell (sym c.in-Some.is) ∙ c.under.ensures in
    rw (← next_left (scoped c.args.scopes.now) (rest_answered c.args.answer) c.args.self.now.todo c.in-Some.field-0.now c.pop.result c.pop.new.self there c.pop.ensures)
    c.go_on.ensures
