-- An expression that is a name by itself is that variable without subscripts.
use Rattle.std.proofs.Common.{◌≡◌, Some, ap}
use Rattle.algol_tree.specs.declared.tree.Named.{Named}
use Rattle.algol_tree.specs.Plain as tree
use Rattle.algol_tree.specs.Plain.{PExpr, name_alone}

pub named_alone : (e : PExpr) (n : Named) → name_alone e ≡ Some n → e ≡ tree.variable (tree.subscripted n tree.none)
named_alone (tree.variable (tree.subscripted m tree.none)) n h = (let same : m ≡ n = cc in ap (λ x. tree.variable (tree.subscripted x tree.none)) same)
named_alone (tree.variable (tree.subscripted m (tree.more e es))) n h = cc
named_alone (tree.number z spot) n h = cc
named_alone (tree.truth b spot) n h = cc
named_alone (tree.call c) n h = cc
named_alone (tree.tested test es spot) n h = cc
named_alone (tree.paren e spot) n h = cc
named_alone (tree.plus e spot) n h = cc
named_alone (tree.neg e spot) n h = cc
named_alone (tree.not e spot) n h = cc
named_alone (tree.two op x y) n h = cc
named_alone (tree.if c x y spot) n h = cc
