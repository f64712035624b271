use Rattle.algol_tree.specs.Image.{expr}
use Rattle.algol_sites.specs.Assigning.{can_take}
use Rattle.algol_sites.proofs.Actuals.{each_as, none_in}
use Rattle.algol_sites.proofs.Statements.{left_none, left_some}
use Rattle.algol_sites.proofs.statement.left_side.Goals as goal

pub returns-in-None : goal.returns-in-None
returns-in-None c = λ a n u w.
    left_none c.args.v.now (expr c.args.value.now) (can_take c.args.place.now.block c.args.place.now.around.items) a c.args.faults.now.first
    c.name_side.new.faults.first (none_in c.exprs_in-subs.result.now c.args.v.now.subs c.exprs_in-subs.ensures c.in-None.ensures.cases)
    (c.name_side.ensures a n w)

pub returns-in-Some : goal.returns-in-Some
returns-in-Some c = λ a n u w.
    left_some c.args.v.now (expr c.args.value.now) (can_take c.args.place.now.block c.args.place.now.around.items) a c.args.faults.now.first
    c.element_side.new.faults.first c.exprs_in-subs.result.now c.exprs_in-subs.result.now c.in-Some.field-0.0.now c.in-Some.field-0.1.now c.in-Some.ensures.cases.0
    c.exprs_in-subs.ensures c.exprs_in-subs.ensures
    (c.element_side.ensures a n (each_as c.args.scopes.now a c.exprs_in-subs.result.now c.args.v.now.subs c.exprs_in-subs.ensures u) w)
