-- The plain tree of each form of expression.
use Rattle.b67_deeds.specs.declared.EventTest.TheVariants as test
use Rattle.std.proofs.Common.{List, rules, [], ◌∷◌, ◌≡◌, ◌+◌, ◌≤◌, ℤ, Bool, ap, sym, ◌∙◌, arith}
use Rattle.std.specs.declared.boxed.Box.{Box}
use Rattle.std.specs.declared.alloc.Global.{Global}
use Rattle.algol_tree.specs.declared.token.Spot.{Spot}
use Rattle.algol_tree.specs.declared.tree.Op.{Op}
use Rattle.algol_tree.specs.declared.tree.Expr.{Expr}
use Rattle.algol_tree.specs.declared.tree.Expr as expressions
use Rattle.algol_tree.specs.declared.tree.Variable.{Variable}
use Rattle.algol_tree.specs.declared.tree.Call.{Call}
use Rattle.algol_tree.specs.declared.tree.EventName.{EventName}
use Rattle.algol_tree.specs.declared.tree.Named.{Named}
use Rattle.algol_tree.specs.Counts.{call_tokens, exprs_tokens}
use Rattle.algol_tree.specs.Image.{expr, exprs, call, variable}
use Rattle.algol_tree.specs.Plain as tree
use Rattle.algol_tree.specs.Plain.{PExprs}
use Rattle.algol_tree.proofs.Images.{call_is, if_image, neg_image, not_image, paren_image, plus_image, two_image, variable_is}

pub number_is : (z : ℤ) (spot : Spot) → expr (expressions.Number z spot) ≡ tree.number z spot
number_is z spot = search (rules, expressions.the_lemmas)

pub truth_is : (b : Bool) (spot : Spot) → expr (expressions.Truth b spot) ≡ tree.truth b spot
truth_is b spot = search (rules, expressions.the_lemmas)

pub naming_is : (v : Variable) → expr (expressions.Variable v) ≡ tree.variable (variable v)
naming_is v = search (rules, expressions.the_lemmas)

-- the name and the subscripts of a variable are its own
module _ (v : Variable) (n : Named) (es : PExprs) (is : variable v ≡ tree.subscripted n es) where
  pub own_name : n ≡ v.name
  own_name = let same : tree.subscripted n es ≡ tree.subscripted v.name (exprs v.subs) = sym is ∙ variable_is v in cc same

  pub own_subscripts : es ≡ exprs v.subs
  own_subscripts = let same : tree.subscripted n es ≡ tree.subscripted v.name (exprs v.subs) = sym is ∙ variable_is v in cc same

pub calling_is : (c : Call) → expr (expressions.Call c) ≡ tree.call (call c)
calling_is c = search (rules, expressions.the_lemmas)

pub happened_as : (e : Expr) (event : EventName) (spot : Spot) → e ≡ expressions.Happened event spot → expr e ≡ tree.tested test.Happened (event ∷ []) spot
happened_as e event spot is = ap expr is ∙ shape
  where
    shape : expr (expressions.Happened event spot) ≡ tree.tested test.Happened (event ∷ []) spot
    shape = search (rules, expressions.the_lemmas)

pub available_as : (e : Expr) (event : EventName) (spot : Spot) → e ≡ expressions.Available event spot → expr e ≡ tree.tested test.Available (event ∷ []) spot
available_as e event spot is = ap expr is ∙ shape
  where
    shape : expr (expressions.Available event spot) ≡ tree.tested test.Available (event ∷ []) spot
    shape = search (rules, expressions.the_lemmas)

pub fix_as : (e : Expr) (event : EventName) (spot : Spot) → e ≡ expressions.Fix event spot → expr e ≡ tree.tested test.Fix (event ∷ []) spot
fix_as e event spot is = ap expr is ∙ shape
  where
    shape : expr (expressions.Fix event spot) ≡ tree.tested test.Fix (event ∷ []) spot
    shape = search (rules, expressions.the_lemmas)

pub wait_as : (e : Expr) (events : List EventName) (spot : Spot) → e ≡ expressions.WaitAny events spot → expr e ≡ tree.tested test.WaitAny events spot
wait_as e events spot is = ap expr is ∙ shape
  where
    shape : expr (expressions.WaitAny events spot) ≡ tree.tested test.WaitAny events spot
    shape = search (rules, expressions.the_lemmas)

-- ---- the tokens of a call

called_long : (n : Named) (es : PExprs) → 1 + exprs_tokens es ≤ call_tokens (tree.called n es)
called_long n tree.none = omega arith
called_long n (tree.more e es) = omega arith

-- the name and the actuals, each with the comma or the parenthesis before it
pub call_long : (c : Call) → 1 + exprs_tokens (exprs c.actuals) ≤ call_tokens (call c)
call_long c = omega (arith, ap call_tokens (call_is c), called_long c.name (exprs c.actuals))

-- ---- the same where a part is named otherwise

module _ (e d : Expr) (x : Box Expr Global) (spot : Spot) (same : d ≡ x.value) where
  pub paren_as : e ≡ expressions.Paren x spot → expr e ≡ tree.paren (expr d) spot
  paren_as is = ap expr is ∙ paren_image x spot ∙ ap (λ (y : Expr). tree.paren (expr y) spot) (sym same)

  pub plus_as : e ≡ expressions.Plus x spot → expr e ≡ tree.plus (expr d) spot
  plus_as is = ap expr is ∙ plus_image x spot ∙ ap (λ (y : Expr). tree.plus (expr y) spot) (sym same)

  pub neg_as : e ≡ expressions.Neg x spot → expr e ≡ tree.neg (expr d) spot
  neg_as is = ap expr is ∙ neg_image x spot ∙ ap (λ (y : Expr). tree.neg (expr y) spot) (sym same)

  pub not_as : e ≡ expressions.Not x spot → expr e ≡ tree.not (expr d) spot
  not_as is = ap expr is ∙ not_image x spot ∙ ap (λ (y : Expr). tree.not (expr y) spot) (sym same)

pub two_as : (e a b : Expr) (op : Op) (x y : Box Expr Global) → e ≡ expressions.Two op x y → a ≡ x.value → b ≡ y.value → expr e ≡ tree.two op (expr a) (expr b)
two_as e a b op x y is p q =
    ap expr is ∙ two_image op x y ∙ ap (λ (z : Expr). tree.two op (expr z) (expr y.value)) (sym p) ∙ ap (λ (z : Expr). tree.two op (expr a) (expr z)) (sym q)

pub if_as : (e a b d : Expr) (c x y : Box Expr Global) (spot : Spot) → e ≡ expressions.If c x y spot → a ≡ c.value → b ≡ x.value → d ≡ y.value →
    expr e ≡ tree.if (expr a) (expr b) (expr d) spot
if_as e a b d c x y spot is p q r =
    ap expr is ∙ if_image c x y spot ∙ ap (λ (z : Expr). tree.if (expr z) (expr x.value) (expr y.value) spot) (sym p)
    ∙ ap (λ (z : Expr). tree.if (expr a) (expr z) (expr y.value) spot) (sym q) ∙ ap (λ (z : Expr). tree.if (expr a) (expr b) (expr z) spot) (sym r)
