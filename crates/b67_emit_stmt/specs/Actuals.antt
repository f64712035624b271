-- The actuals that have cells, as what is told of names says: those of a block, in the order of the text.
use Rattle.std.specs.Prelude.{◌≡◌, ℕ, ◌+◌, ◌≤◌, ◌&&◌, if◌then◌else◌, Bool, Some, List, [], ◌∷◌, ◌++◌, map}
use Rattle.std.specs.Borrow.{Bor}
use Rattle.algol_tree.specs.declared.token.Spot.{Spot}
use Rattle.algol_tree.specs.declared.tree.Expr.{Expr}
use Rattle.algol_tree.specs.Image.{expr}
use Rattle.algol_tree.specs.Plain as tree
use Rattle.algol_tree.specs.Plain.{PCall, PExpr, PExprs, PPair, PStmt, PStmts, PDecls}
use Rattle.algol_tree.specs.Scopes.{Scopes}
use Rattle.b67_ops.specs.declared.Couple.{Couple}
use Rattle.b67_ops.specs.declared.TheConstants.{MOST_LEVEL}
use Rattle.b67_templates.specs.Cells.{Actual}
use Rattle.b67_templates.specs.Fitting.{Told, ExprFits}
use Rattle.b67_templates.specs.Paying.{modes_of, actual_has_cell}

-- the trees of these
abbrev pub images : List (Bor Expr) → List PExpr
images es = map (λ (e : Bor Expr). expr e.now) es

module _ (told : Told) where
  abbrev pub celled : Bool → PExpr → List PExpr
  celled mode e = if mode && actual_has_cell told e then e ∷ [] else []

  abbrev mutual
    pub cells_in_actual : PExpr → List PExpr
    cells_in_actual (tree.variable (tree.subscripted n es)) = cells_among es
    cells_in_actual (tree.call c) = cells_in_call c
    cells_in_actual (tree.paren e spot) = cells_in_actual e
    cells_in_actual (tree.plus e spot) = cells_in_actual e
    cells_in_actual (tree.neg e spot) = cells_in_actual e
    cells_in_actual (tree.not e spot) = cells_in_actual e
    cells_in_actual (tree.two op x y) = cells_in_actual x ++ cells_in_actual y
    cells_in_actual (tree.if c x y spot) = cells_in_actual c ++ cells_in_actual x ++ cells_in_actual y
    cells_in_actual _ = []

    pub cells_in_call : PCall → List PExpr
    cells_in_call (tree.called n es) = cells_given (modes_of (told.meant n.spot)) es

    -- of subscripts, and of items
    pub cells_among : PExprs → List PExpr
    cells_among tree.none = []
    cells_among (tree.more e es) = cells_in_actual e ++ cells_among es

    -- of a call: each comes before those within it
    pub cells_given : List Bool → PExprs → List PExpr
    cells_given modes tree.none = []
    cells_given [] (tree.more e es) = cells_in_actual e ++ cells_given [] es
    cells_given (mode ∷ modes) (tree.more e es) = celled mode e ++ cells_in_actual e ++ cells_given modes es

  abbrev pub cells_in_pairs : List PPair → List PExpr
  cells_in_pairs [] = []
  cells_in_pairs (p ∷ pairs) = cells_in_actual p.high ++ cells_in_pairs pairs

  abbrev pub cells_in_decls : PDecls → List PExpr
  cells_in_decls tree.no_decls = []
  cells_in_decls (tree.decls (tree.arrays kind ns pairs) ds) = cells_in_pairs pairs ++ cells_in_decls ds
  cells_in_decls (tree.decls d ds) = cells_in_decls ds

  -- what stands in an inner block is that block's
  abbrev mutual
    pub cells_in_stmt : PStmt → List PExpr
    cells_in_stmt (tree.label n s) = cells_in_stmt s
    cells_in_stmt (tree.assign (tree.subscripted n es) e) = cells_among es ++ cells_in_actual e
    cells_in_stmt (tree.call_of c) = cells_in_call c
    cells_in_stmt (tree.block (tree.body spot tree.no_decls ss)) = cells_in_stmts ss
    cells_in_stmt (tree.if_then c x) = cells_in_actual c ++ cells_in_stmt x
    cells_in_stmt (tree.if_else c x y) = cells_in_actual c ++ cells_in_stmt x ++ cells_in_stmt y
    cells_in_stmt (tree.while c b) = cells_in_actual c ++ cells_in_stmt b
    cells_in_stmt (tree.until b c) = cells_in_stmt b ++ cells_in_actual c
    cells_in_stmt (tree.for v a s l b) = cells_in_actual a ++ cells_in_actual s ++ cells_in_actual l ++ cells_in_stmt b
    cells_in_stmt (tree.thru e b) = cells_in_actual e ++ cells_in_stmt b
    cells_in_stmt (tree.case e ss) = cells_in_actual e ++ cells_in_stmts ss
    cells_in_stmt (tree.process c task) = cells_in_call c
    cells_in_stmt (tree.write n spot phrases es) = cells_among es
    cells_in_stmt _ = []

    pub cells_in_stmts : PStmts → List PExpr
    cells_in_stmts tree.no_stmts = []
    cells_in_stmts (tree.stmts s ss) = cells_in_stmt s ++ cells_in_stmts ss

  -- those of a block with these declarations and statements
  abbrev pub cells_in_block : PDecls → PStmts → List PExpr
  cells_in_block ds ss = cells_in_decls ds ++ cells_in_stmts ss

abbrev pub exprs_of : List Actual → List PExpr
exprs_of as' = map (λ (a : Actual). a.expr) as'

-- the code of an actual that has a cell runs one level further in than its block, at a level that the machine has
abbrev pub AreInner : Told → Type 0
AreInner told = (spot : Spot) (c : Couple) → told.actuals spot ≡ Some c → c.level + 1 ≤ MOST_LEVEL

-- each of these actuals has a value of its kind, in the text of the block with this number, of this level, and its code a level
module _ (sc : Scopes) (told : Told) (level block : ℕ) where
  abbrev pub HaveValues : List Actual → Type 0
  HaveValues [] = Unit {0}
  HaveValues (a ∷ as') = ExprFits sc told level block a.kind a.expr × (level + 1 ≤ MOST_LEVEL) × HaveValues as'
