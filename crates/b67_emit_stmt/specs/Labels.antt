-- Where labels stand in a text.
use Rattle.std.specs.Prelude.{List, [], ◌∷◌, ◌++◌}
use Rattle.algol_tree.specs.declared.token.Spot.{Spot}
use Rattle.algol_tree.specs.Plain as tree
use Rattle.algol_tree.specs.Plain.{PStmt, PStmts}

-- The places of the labels before the statements within a statement, also of inner blocks. The procedures that these declare are other texts.
abbrev mutual
  pub label_spots : PStmt → List Spot
  label_spots (tree.label n s) = n.spot ∷ label_spots s
  label_spots (tree.block (tree.body spot ds ss)) = label_spots_in ss
  label_spots (tree.if_then c x) = label_spots x
  label_spots (tree.if_else c x y) = label_spots x ++ label_spots y
  label_spots (tree.while c b) = label_spots b
  label_spots (tree.until b c) = label_spots b
  label_spots (tree.for v a s l b) = label_spots b
  label_spots (tree.thru e b) = label_spots b
  label_spots (tree.case e ss) = label_spots_in ss
  label_spots _ = []

  pub label_spots_in : PStmts → List Spot
  label_spots_in tree.no_stmts = []
  label_spots_in (tree.stmts s ss) = label_spots s ++ label_spots_in ss
