-- How many actuals stand in a text, whatever they are given for: a block has at least as many as it has actuals with cells.
use Rattle.std.specs.Prelude.{ℕ, ◌+◌, ◌≤◌, List, [], ◌∷◌, length}
use Rattle.algol_tree.specs.Plain as tree
use Rattle.algol_tree.specs.Plain.{PExpr, PExprs, PPair, PStmt, PStmts, PDecls}
use Rattle.algol_tree.specs.Blocks.{Block}
use Rattle.algol_tree.specs.Scopes.{Scopes}
use Rattle.b67_templates.specs.Cells.{actuals_of}

abbrev mutual
  pub arguments_in : PExpr → ℕ
  arguments_in (tree.variable (tree.subscripted n es)) = arguments_among es
  arguments_in (tree.call (tree.called n es)) = arguments_given es
  arguments_in (tree.paren e spot) = arguments_in e
  arguments_in (tree.plus e spot) = arguments_in e
  arguments_in (tree.neg e spot) = arguments_in e
  arguments_in (tree.not e spot) = arguments_in e
  arguments_in (tree.two op x y) = arguments_in x + arguments_in y
  arguments_in (tree.if c x y spot) = arguments_in c + arguments_in x + arguments_in y
  arguments_in _ = 0

  -- in subscripts, and in items
  pub arguments_among : PExprs → ℕ
  arguments_among tree.none = 0
  arguments_among (tree.more e es) = arguments_in e + arguments_among es

  -- in the actuals of a call, and these themselves
  pub arguments_given : PExprs → ℕ
  arguments_given tree.none = 0
  arguments_given (tree.more e es) = 1 + arguments_in e + arguments_given es

abbrev pub arguments_in_pairs : List PPair → ℕ
arguments_in_pairs [] = 0
arguments_in_pairs (p ∷ pairs) = arguments_in p.high + arguments_in_pairs pairs

abbrev pub arguments_in_decls : PDecls → ℕ
arguments_in_decls tree.no_decls = 0
arguments_in_decls (tree.decls (tree.arrays kind ns pairs) ds) = arguments_in_pairs pairs + arguments_in_decls ds
arguments_in_decls (tree.decls d ds) = arguments_in_decls ds

-- what stands in an inner block is that block's
abbrev mutual
  pub arguments_in_stmt : PStmt → ℕ
  arguments_in_stmt (tree.label n s) = arguments_in_stmt s
  arguments_in_stmt (tree.assign (tree.subscripted n es) e) = arguments_among es + arguments_in e
  arguments_in_stmt (tree.call_of (tree.called n es)) = arguments_given es
  arguments_in_stmt (tree.block (tree.body spot tree.no_decls ss)) = arguments_in_stmts ss
  arguments_in_stmt (tree.if_then c x) = arguments_in c + arguments_in_stmt x
  arguments_in_stmt (tree.if_else c x y) = arguments_in c + arguments_in_stmt x + arguments_in_stmt y
  arguments_in_stmt (tree.while c b) = arguments_in c + arguments_in_stmt b
  arguments_in_stmt (tree.until b c) = arguments_in_stmt b + arguments_in c
  arguments_in_stmt (tree.for v a s l b) = arguments_in a + arguments_in s + arguments_in l + arguments_in_stmt b
  arguments_in_stmt (tree.thru e b) = arguments_in e + arguments_in_stmt b
  arguments_in_stmt (tree.case e ss) = arguments_in e + arguments_in_stmts ss
  arguments_in_stmt (tree.process (tree.called n es) task) = arguments_given es
  arguments_in_stmt (tree.write n spot phrases es) = arguments_among es
  arguments_in_stmt _ = 0

  pub arguments_in_stmts : PStmts → ℕ
  arguments_in_stmts tree.no_stmts = 0
  arguments_in_stmts (tree.stmts s ss) = arguments_in_stmt s + arguments_in_stmts ss

-- a block has no more actuals with cells than actuals
abbrev pub ActualsAreFew : Type 0
ActualsAreFew = (sc : Scopes) (b : Block) → length (actuals_of sc b) ≤ arguments_in_decls b.decls + arguments_in_stmts b.stmts
