use Rattle.std.proofs.Common.{◌≡◌, ◌≤◌, drop, map}
use Rattle.algol_tree.specs.declared.tree.Expr.{size-Expr}
use Rattle.algol_tree.specs.Image.{expr, exprs}
use Rattle.algol_tree.specs.Sites.{sites, inside_list, inside_actuals}
use Rattle.algol_tree.specs.Surroundings.{Surroundings}
use Rattle.algol_sites.specs.Seen.{formal_as}
use Rattle.algol_sites.specs.Noting.{noted_in}
use Rattle.algol_sites.specs.Seeing.{TellsEach, TellsIn}
use Rattle.algol_sites.proofs.expression.+expressions.Given as goal

abbrev pub invariant-subscripts-subscripts : goal.invariant-subscripts-subscripts
invariant-subscripts-subscripts l =
    (a : Surroundings) → TellsEach l.scopes a (exprs l.fn.v.subs) →
    (noted_in l.faults.first (inside_list (exprs (drop l.e-index l.subs)) a) ≡ noted_in l.initial.faults.first (inside_list (exprs l.fn.v.subs) a)) ×
    TellsEach l.scopes a (exprs (drop l.e-index l.subs))

abbrev pub invariant-actuals-actuals : goal.invariant-actuals-actuals
invariant-actuals-actuals l =
    (a : Surroundings) → TellsEach l.scopes a (exprs l.fn.c.actuals) →
    (noted_in l.faults.first (inside_actuals (exprs (drop l.at l.given)) (drop l.at (map formal_as l.formals)) a) ≡
    noted_in l.initial.faults.first (inside_actuals (exprs l.fn.c.actuals) (map formal_as l.formals) a)) ×
    TellsEach l.scopes a (exprs (drop l.at l.given))

-- what is left is no deeper than the whole
abbrev pub invariant-expression-parts : goal.invariant-expression-parts
invariant-expression-parts l =
    ((a : Surroundings) → TellsIn l.scopes a (expr l.fn.e) →
    (noted_in l.faults.first (sites (expr l.at) a) ≡ noted_in l.initial.faults.first (sites (expr l.fn.e) a)) × TellsIn l.scopes a (expr l.at)) ×
    (size-Expr l.at ≤ size-Expr l.fn.e)
