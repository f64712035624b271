-- The plain trees of actuals.
use Rattle.std.proofs.Common.{arith, ◌≡◌, refl, suc, true, List, [], ◌∷◌, length, nat_lt}
use Rattle.std.proofs.lemmas.Bool.Decides.{nat_tests}
use Rattle.algol_tree.specs.Plain as tree
use Rattle.algol_tree.specs.declared.tree.Named.{Named}
use Rattle.algol_tree.specs.declared.tree.Expr.{Expr}
use Rattle.algol_tree.specs.declared.tree.Expr.TheVariants as shapes
use Rattle.algol_tree.specs.declared.tree.Variable.{Variable}
use Rattle.algol_meaning.specs.Choice.{is_subscripted}
use Rattle.algol_meaning.specs.SeenTree.{expr, exprs}
use Rattle.algol_rest_expr.proofs.Trees.{expr_of_variable}

with_subscripts : (n : Named) (es : List Expr) → nat_lt 0 (length es) ≡ is_subscripted (tree.variable (tree.subscripted n (exprs es)))
with_subscripts n [] = refl
with_subscripts n (e ∷ es) = let t : nat_lt 0 (suc (length es)) ≡ true = grind (arith, nat_tests) in t

pub subscripted_variable : (v : Variable) → nat_lt 0 (length v.subs) ≡ is_subscripted (expr (shapes.Variable v))
subscripted_variable v = rw (expr_of_variable v) (with_subscripts v.name v.subs)

pub ruleset tree_laws = subscripted_variable
