-- How many syllables code has at most where it stands, by what the names mean. The code of the actuals of a text's own block is not among
-- them, that of the actuals of the blocks within it is: so with the former the tokens of a text pay for all.
use Rattle.std.specs.Prelude.{ℕ, ◌+◌, ◌*◌, List, [], ◌∷◌, length}
use Rattle.algol_tree.specs.Plain as tree
use Rattle.algol_tree.specs.Plain.{PExpr, PExprs, PPair, PStmt, PStmts, PDecls}
use Rattle.b67_templates.specs.Cells.{variables, procedures, has_place}
use Rattle.b67_templates.specs.Paying.{inline, inline_all, routine_code}
use Rattle.b67_emitter.specs.Values.{meanings, place_syllables}
use Rattle.b67_emit_stmt.specs.declared.draft.Known.{Known}
use Rattle.b67_emit_stmt.specs.Actuals.{cells_in_block}

module _ (s : Known) where
  abbrev pub expr_syllables : PExpr → ℕ
  expr_syllables e = inline (meanings s.names.now) e

  -- the items of a line
  abbrev pub items_syllables : PExprs → ℕ
  items_syllables es = inline_all (meanings s.names.now) es

  -- a mark, a reference, the format's number, the items and the entry
  abbrev pub write_syllables : PExprs → ℕ
  write_syllables es = 16 + items_syllables es

  -- ---- actuals that have cells

  -- those of a block with these declarations and statements
  abbrev pub celled_in : PDecls → PStmts → List PExpr
  celled_in ds ss = cells_in_block (meanings s.names.now) ds ss

  -- their code, one after another
  abbrev pub routines_syllables : List PExpr → ℕ
  routines_syllables [] = 0
  routines_syllables (e ∷ es) = routine_code (has_place e) (expr_syllables e) + routines_syllables es

  -- .. and their control words
  abbrev pub actuals_syllables : List PExpr → ℕ
  actuals_syllables es = routines_syllables es + 12 * length es

  -- ---- what a block begins with

  -- a lower bound as it stands, and the value of an upper bound
  abbrev pub bounds_syllables : List PPair → ℕ
  bounds_syllables [] = 0
  bounds_syllables (p ∷ pairs) = 12 + expr_syllables p.high + bounds_syllables pairs

  -- a mark, a reference, how many arrays, their bounds, the entry, and PUSH; and of an event all but the bounds and how many
  abbrev pub arrays_syllables : List PPair → ℕ
  arrays_syllables pairs = 17 + bounds_syllables pairs

  abbrev pub decls_syllables : PDecls → ℕ
  decls_syllables tree.no_decls = 0
  decls_syllables (tree.decls (tree.arrays kind ns pairs) ds) = arrays_syllables pairs + decls_syllables ds
  decls_syllables (tree.decls (tree.events ns) ds) = 5 * length ns + decls_syllables ds
  decls_syllables (tree.decls (tree.tasks ns) ds) = 5 * length ns + decls_syllables ds
  decls_syllables (tree.decls d ds) = decls_syllables ds

  -- a zero for each of so many, the control words of procedures and of actuals, their making into cells
  abbrev pub cells_syllables : ℕ → PDecls → List PExpr → ℕ
  cells_syllables many ds es = many + 12 * length (procedures ds) + 12 * length es + 1

  -- the cells, and after them the arrays
  abbrev pub begin_syllables : ℕ → PDecls → List PExpr → ℕ
  begin_syllables many ds es = cells_syllables many ds es + decls_syllables ds

  -- ---- statements

  abbrev mutual
    pub stmt_syllables : PStmt → ℕ
    stmt_syllables (tree.assign v e) = place_syllables s.names.now v + expr_syllables e + 1
    stmt_syllables (tree.call_of c) = expr_syllables (tree.call c) + 1
    stmt_syllables (tree.block (tree.body spot tree.no_decls ss)) = stmts_syllables ss
    -- a branch, the code of the block's actuals, the block, its EXIT and its entry
    stmt_syllables (tree.block (tree.body spot (tree.decls d ds) ss)) =
        3 + (routines_syllables (celled_in (tree.decls d ds) ss)
        + (begin_syllables (length (variables (tree.decls d ds))) (tree.decls d ds) (celled_in (tree.decls d ds) ss) + stmts_syllables ss) + 1) + 14
    stmt_syllables (tree.if_then c x) = expr_syllables c + 3 + stmt_syllables x
    stmt_syllables (tree.if_else c x y) = expr_syllables c + stmt_syllables x + 6 + stmt_syllables y
    stmt_syllables (tree.while c b) = expr_syllables c + 3 + stmt_syllables b + 3
    stmt_syllables (tree.until b c) = stmt_syllables b + expr_syllables c + 6
    -- the first value, the difference, its sign, the body, the next value, the turn: the step stands twice
    stmt_syllables (tree.for v a t l b) =
        4 + expr_syllables a + (3 + expr_syllables l) + (13 + expr_syllables t) + stmt_syllables b + (7 + expr_syllables t) + 3
    stmt_syllables (tree.thru e b) = expr_syllables e + 8 + stmt_syllables b + 4
    stmt_syllables (tree.case e ss) = 19 + expr_syllables e + stmts_syllables ss
    stmt_syllables (tree.write n spot phrases es) = write_syllables es
    stmt_syllables (tree.label n x) = stmt_syllables x
    -- a mark, a reference, three numbers and the entry
    stmt_syllables (tree.go_to n) = 40
    -- a mark, two references and the entry
    stmt_syllables (tree.event act e) = 6
    -- a mark, two references, the task, the actuals and the entry
    stmt_syllables (tree.process c task) = expr_syllables (tree.call c) + 6
    stmt_syllables tree.empty = 0

    -- where they are those of a CASE, with an entry of its table and a branch for each
    pub stmts_syllables : PStmts → ℕ
    stmts_syllables tree.no_stmts = 0
    stmts_syllables (tree.stmts x xs) = 6 + stmt_syllables x + stmts_syllables xs
