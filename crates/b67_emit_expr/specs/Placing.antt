-- Actuals that have a place: those that are subscripted.
use Rattle.std.specs.Prelude.{Option, Some, None}
use Rattle.algol_tree.specs.declared.tree.Variable.{Variable}
use Rattle.algol_tree.specs.Image.{variable}
use Rattle.algol_tree.specs.Plain as tree
use Rattle.algol_tree.specs.Plain.{PExpr, PVariable}

-- the element that an actual is, none where it is not subscripted
abbrev pub element_place_of : PExpr → Option PVariable
element_place_of (tree.variable (tree.subscripted n (tree.more e es))) = Some (tree.subscripted n (tree.more e es))
element_place_of _ = None

abbrev pub plain_of : Option Variable → Option PVariable
plain_of None = None
plain_of (Some v) = Some (variable v)
