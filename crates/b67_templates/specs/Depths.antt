-- How many words lie on the stack at most while a construct is evaluated or performed, and how many syllables its code has at most.
use Rattle.std.specs.Prelude.{ℕ, ◌+◌, ◌*◌, ◌≤◌, List, [], ◌∷◌, length}
use Rattle.algol_tree.specs.declared.tree.Named.{Named}
use Rattle.algol_tree.specs.Plain as tree
use Rattle.algol_tree.specs.Plain.{PExpr, PExprs, PPair, PStmt, PStmts, PDecls, PBody}
use Rattle.algol_tree.specs.Counts.{expr_tokens, stmt_tokens}
use Rattle.b67_templates.specs.Arguments.{arguments_in_decls, arguments_in_stmts}
use Rattle.b67_templates.specs.Cells.{procedures}
use Rattle.algol_meaning.specs.Rest.{Item, run, turn, count, check, test, result, make_arrays, make_event}

abbrev mutual
  pub depth : PExpr → ℕ
  depth (tree.paren e spot) = depth e
  depth (tree.plus e spot) = depth e
  depth (tree.neg e spot) = depth e
  depth (tree.not e spot) = depth e
  depth (tree.two op a b) = depth a + depth b
  depth (tree.if c x y spot) = depth c + depth x + depth y
  -- a name may be a call: a mark and a reference, or the value
  depth (tree.variable (tree.subscripted n tree.none)) = 2
  -- the subscripts, and the descriptor of a row with three words above the last subscript while that is moved
  depth (tree.variable (tree.subscripted n (tree.more e es))) = 5 + line_depth (tree.more e es)
  -- a mark, a reference, the actuals
  depth (tree.call (tree.called n es)) = 2 + line_depth es
  -- a mark, a reference, those of the events
  depth (tree.tested t es spot) = 2 + length es
  depth _ = 1

  -- the items of a line, or the actuals of a call
  pub line_depth : PExprs → ℕ
  line_depth tree.none = 0
  line_depth (tree.more e es) = depth e + line_depth es

-- the same of an element on the left of an assignment, where a name by itself takes none
abbrev pub place_depth : PExprs → ℕ
place_depth tree.none = 0
place_depth (tree.more e es) = 5 + line_depth (tree.more e es)

-- a lower and an upper bound for each dimension
abbrev pub bounds_depth : List PPair → ℕ
bounds_depth [] = 0
bounds_depth (p ∷ pairs) = 1 + depth p.high + bounds_depth pairs

-- a mark, a reference, how many arrays, the bounds; and the descriptors that take their place
abbrev pub arrays_depth : List Named → List PPair → ℕ
arrays_depth ns pairs = 3 + bounds_depth pairs + length ns

-- of an event a mark and a reference, and then its word
abbrev pub decls_depth : PDecls → ℕ
decls_depth tree.no_decls = 0
decls_depth (tree.decls (tree.arrays kind ns pairs) ds) = arrays_depth ns pairs + decls_depth ds
decls_depth (tree.decls (tree.events ns) ds) = 2 + decls_depth ds
decls_depth (tree.decls (tree.tasks ns) ds) = 2 + decls_depth ds
decls_depth (tree.decls d ds) = decls_depth ds

-- the difference, the step, and two words more in their comparison with 0
abbrev pub loop_depth : PExpr → PExpr → ℕ
loop_depth step last = 4 + depth step + depth last

abbrev mutual
  pub stmt_depth : PStmt → ℕ
  stmt_depth tree.empty = 0
  stmt_depth (tree.label n s) = stmt_depth s
  stmt_depth (tree.assign (tree.subscripted n es) e) = place_depth es + 1 + depth e
  stmt_depth (tree.block b) = body_depth b
  stmt_depth (tree.call_of (tree.called n es)) = 2 + line_depth es
  stmt_depth (tree.if_then c x) = depth c + stmt_depth x
  stmt_depth (tree.if_else c x y) = depth c + stmt_depth x + stmt_depth y
  stmt_depth (tree.while c b) = depth c + stmt_depth b
  stmt_depth (tree.until b c) = stmt_depth b + depth c
  stmt_depth (tree.for v a s l b) = 1 + depth a + loop_depth s l + stmt_depth b
  -- the count, and two words more in its test
  stmt_depth (tree.thru e b) = depth e + 3 + stmt_depth b
  -- a mark, a reference, the number, how many statements, the table's place
  stmt_depth (tree.case e ss) = 4 + depth e + stmts_depth ss
  -- a mark, a reference, the format's number, the items
  stmt_depth (tree.write n spot phrases es) = 3 + line_depth es
  -- a mark, a reference, the level, the segment, the place
  stmt_depth (tree.go_to n) = 5
  -- a mark, a reference, that of the event
  stmt_depth (tree.event act e) = 3
  -- a mark, a reference, those of the procedure and of the task's event, the actuals
  stmt_depth (tree.process (tree.called n es) task) = 4 + line_depth es

  pub stmts_depth : PStmts → ℕ
  stmts_depth tree.no_stmts = 0
  stmts_depth (tree.stmts s ss) = stmt_depth s + stmts_depth ss

  -- of an inner block a mark and its control word lie there, until it is entered, and then the control words of its procedures and of its
  -- actuals, or what makes its arrays
  pub body_depth : PBody → ℕ
  body_depth (tree.body spot tree.no_decls ss) = stmts_depth ss
  body_depth (tree.body spot (tree.decls d ds) ss) =
      2 + length (procedures (tree.decls d ds)) + arguments_in_decls (tree.decls d ds) + arguments_in_stmts ss + decls_depth (tree.decls d ds) + stmts_depth ss

-- how many words an item of what is to be done needs above those that lie below it
abbrev pub item_depth : Item → ℕ
item_depth (run s) = stmt_depth s
item_depth turn = 0
item_depth (count n b) = 3 + stmt_depth b
item_depth (check b c) = stmt_depth b + depth c
item_depth (test loop) = loop_depth loop.step loop.last + stmt_depth loop.body
item_depth (result name) = 1
item_depth (make_arrays kind ns pairs) = arrays_depth ns pairs
item_depth (make_event n) = 2

-- a count lies on the stack while what comes before it is done
abbrev pub counts_in : List Item → ℕ
counts_in [] = 0
counts_in (count n b ∷ k) = 1 + counts_in k
counts_in (_ ∷ k) = counts_in k

-- no item needs more than so many words
abbrev pub AreShallow : ℕ → List Item → Type 0
AreShallow most [] = Unit {0}
AreShallow most (item ∷ k) = (counts_in k + item_depth item ≤ most) × AreShallow most k

-- ---- lengths

-- the code of an expression stands at most twice, that of a statement once
abbrev pub expr_syllables : PExpr → ℕ
expr_syllables e = 12 * expr_tokens e

abbrev pub stmt_syllables : PStmt → ℕ
stmt_syllables s = 24 * stmt_tokens s
