use Rattle.std.proofs.Common.{◌≡◌, ap, sym, ◌∙◌, List}
use Rattle.algol_tree.specs.Plain as tree
use Rattle.algol_tree.specs.declared.tree.Expr.{Expr}
use Rattle.algol_meaning.specs.SeenTree.{expr, exprs}
use Rattle.algol_rest_expr.proofs.Trees.{expr_of_variable}
use Rattle.algol_rest_expr.proofs.expression.eval.Goals as goal

pub returns-in-Variable : goal.returns-in-Variable
returns-in-Variable c =
    let q : c.deref.result.now ≡ c.in-Variable.v.subs = c.deref.ensures.value ∙ c.items.ensures in
    let e : expr c.args.e.now ≡ tree.variable (tree.subscripted c.in-Variable.v.name (exprs c.deref.result.now)) =
    ap expr c.in-Variable.is
    ∙ expr_of_variable c.in-Variable.v
    ∙ ap (λ (es : List Expr). tree.variable (tree.subscripted c.in-Variable.v.name (exprs es))) (sym q) in
    rw e c.variable.ensures
