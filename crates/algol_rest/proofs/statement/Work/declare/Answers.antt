use Rattle.std.proofs.Common.{◌≡◌, ◌∷◌}
use Rattle.algol_cells.specs.SeenScope.{scoped}
use Rattle.algol_rest.proofs.Declaring.{next_decl}
use Rattle.algol_rest.proofs.statement.Work.declare.Goals as goal

pub returns-in_ok-push-in-Some : goal.returns-in_ok-push-in-Some
returns-in_ok-push-in-Some c =
    let e : c.args.ds.now ≡ c.in-Some.d.now ∷ c.in-Some.rest.now = c.in-Some.ensures.cases.0 in
    rw e
    (next_decl (scoped c.args.scopes.now) c.in-Some.d.now c.in-Some.rest c.args.self.now.todo c.make.result _ _ c.in_ok-push-in-Some.ensures c.make.ensures)
