-- A part of an expression is less deep than the whole.
use Rattle.std.proofs.Common.{arith, ◌≡◌, ◌<◌, sym, subst}
use Rattle.std.specs.declared.boxed.Box.{Box}
use Rattle.std.specs.declared.alloc.Global.{Global}
use Rattle.algol_tree.specs.declared.token.Spot.{Spot}
use Rattle.algol_tree.specs.declared.tree.Op.{Op}
use Rattle.algol_tree.specs.declared.tree.Expr.{Expr, size-Expr}
use Rattle.algol_tree.specs.declared.tree.Expr.TheVariants as expression
use Rattle.algol_tree.specs.declared.tree.Expr.TheViews.{sized-Paren, sized-Plus, sized-Neg, sized-Not, sized-Two, sized-If}

less_deep : (e d f g : Expr) → e ≡ f → d ≡ g → size-Expr g < size-Expr f → size-Expr d < size-Expr e
less_deep e d f g h i s =
    let P : Expr → Type 0 = λ z. size-Expr z < size-Expr f in
    let Q : Expr → Type 0 = λ z. size-Expr d < size-Expr z in
    subst Q (sym h) (subst P (sym i) s)

pub in_paren : (e d : Expr) (x : Box Expr Global) (spot : Spot) → e ≡ expression.Paren x spot → d ≡ x.value → size-Expr d < size-Expr e
in_paren e d x spot h i =
    let s : size-Expr x.value < size-Expr (expression.Paren x spot) = omega (arith, sized-Paren x spot) in less_deep e d (expression.Paren x spot) x.value h i s

pub in_plus : (e d : Expr) (x : Box Expr Global) (spot : Spot) → e ≡ expression.Plus x spot → d ≡ x.value → size-Expr d < size-Expr e
in_plus e d x spot h i =
    let s : size-Expr x.value < size-Expr (expression.Plus x spot) = omega (arith, sized-Plus x spot) in less_deep e d (expression.Plus x spot) x.value h i s

pub in_neg : (e d : Expr) (x : Box Expr Global) (spot : Spot) → e ≡ expression.Neg x spot → d ≡ x.value → size-Expr d < size-Expr e
in_neg e d x spot h i =
    let s : size-Expr x.value < size-Expr (expression.Neg x spot) = omega (arith, sized-Neg x spot) in less_deep e d (expression.Neg x spot) x.value h i s

pub in_not : (e d : Expr) (x : Box Expr Global) (spot : Spot) → e ≡ expression.Not x spot → d ≡ x.value → size-Expr d < size-Expr e
in_not e d x spot h i =
    let s : size-Expr x.value < size-Expr (expression.Not x spot) = omega (arith, sized-Not x spot) in less_deep e d (expression.Not x spot) x.value h i s

pub in_left : (e d : Expr) (op : Op) (x y : Box Expr Global) → e ≡ expression.Two op x y → d ≡ x.value → size-Expr d < size-Expr e
in_left e d op x y h i =
    let s : size-Expr x.value < size-Expr (expression.Two op x y) = omega (arith, sized-Two op x y) in less_deep e d (expression.Two op x y) x.value h i s

pub in_right : (e d : Expr) (op : Op) (x y : Box Expr Global) → e ≡ expression.Two op x y → d ≡ y.value → size-Expr d < size-Expr e
in_right e d op x y h i =
    let s : size-Expr y.value < size-Expr (expression.Two op x y) = omega (arith, sized-Two op x y) in less_deep e d (expression.Two op x y) y.value h i s

pub in_otherwise : (e d : Expr) (c x y : Box Expr Global) (spot : Spot) → e ≡ expression.If c x y spot → d ≡ y.value → size-Expr d < size-Expr e
in_otherwise e d c x y spot h i =
    let s : size-Expr y.value < size-Expr (expression.If c x y spot) = omega (arith, sized-If c x y spot) in less_deep e d (expression.If c x y spot) y.value h i s
