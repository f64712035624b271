-- What is evaluated and performed needs no more words than four for each of its tokens, with one for each actual in it.
use Rattle.std.proofs.Common.{◌+◌, ◌*◌, ◌≤◌, List, [], ◌∷◌, length, arith}
use Rattle.b67_rows.proofs.Prelude.{expr_tokens, exprs_tokens, pairs_tokens, stmt_tokens, stmts_tokens, decls_tokens, PExpr, PExprs, PPair, PStmt, PStmts, PDecls, EventName, arguments_in_decls, arguments_in_stmt, arguments_in_stmts, procedures, depth}
use Rattle.algol_tree.specs.Plain as tree
use Rattle.algol_tree.specs.Counts.{events_tokens}
use Rattle.b67_templates.specs.Arguments.{arguments_in, arguments_among, arguments_given, arguments_in_pairs}
use Rattle.b67_templates.specs.Depths.{line_depth, bounds_depth, decls_depth, stmt_depth, stmts_depth}

events_small : (es : List EventName) → length es ≤ events_tokens es + 1
events_small [] = omega arith
events_small (e ∷ []) = omega arith
events_small (e ∷ f ∷ es) = omega (arith, events_small (f ∷ es))

mutual
  pub depth_small : (e : PExpr) → depth e ≤ 2 * expr_tokens e
  depth_small (tree.number value spot) = omega arith
  depth_small (tree.truth value spot) = omega arith
  depth_small (tree.variable (tree.subscripted n tree.none)) = omega arith
  depth_small (tree.variable (tree.subscripted n (tree.more e es))) = omega (arith, depth_small e, line_small es)
  depth_small (tree.call (tree.called n tree.none)) = omega arith
  depth_small (tree.call (tree.called n (tree.more e es))) = omega (arith, depth_small e, line_small es)
  depth_small (tree.tested x es spot) = omega (arith, events_small es)
  depth_small (tree.paren e spot) = omega (arith, depth_small e)
  depth_small (tree.plus e spot) = omega (arith, depth_small e)
  depth_small (tree.neg e spot) = omega (arith, depth_small e)
  depth_small (tree.not e spot) = omega (arith, depth_small e)
  depth_small (tree.two op a b) = omega (arith, depth_small a, depth_small b)
  depth_small (tree.if c x y spot) = omega (arith, depth_small c, depth_small x, depth_small y)

  line_small : (es : PExprs) → line_depth es ≤ 2 * exprs_tokens es
  line_small tree.none = omega arith
  line_small (tree.more e es) = omega (arith, depth_small e, line_small es)

mutual
  -- and an actual has a token
  pub arguments_small : (e : PExpr) → arguments_in e ≤ expr_tokens e
  arguments_small (tree.number value spot) = omega arith
  arguments_small (tree.truth value spot) = omega arith
  arguments_small (tree.variable (tree.subscripted n tree.none)) = omega arith
  arguments_small (tree.variable (tree.subscripted n (tree.more e es))) = omega (arith, arguments_small e, among_small es)
  arguments_small (tree.call (tree.called n tree.none)) = omega arith
  arguments_small (tree.call (tree.called n (tree.more e es))) = omega (arith, arguments_small e, given_small es)
  arguments_small (tree.tested x es spot) = omega arith
  arguments_small (tree.paren e spot) = omega (arith, arguments_small e)
  arguments_small (tree.plus e spot) = omega (arith, arguments_small e)
  arguments_small (tree.neg e spot) = omega (arith, arguments_small e)
  arguments_small (tree.not e spot) = omega (arith, arguments_small e)
  arguments_small (tree.two op a b) = omega (arith, arguments_small a, arguments_small b)
  arguments_small (tree.if c x y spot) = omega (arith, arguments_small c, arguments_small x, arguments_small y)

  pub among_small : (es : PExprs) → arguments_among es ≤ exprs_tokens es
  among_small tree.none = omega arith
  among_small (tree.more e es) = omega (arith, arguments_small e, among_small es)

  pub given_small : (es : PExprs) → arguments_given es ≤ exprs_tokens es
  given_small tree.none = omega arith
  given_small (tree.more e es) = omega (arith, arguments_small e, given_small es)

pub bounds_arguments : (pairs : List PPair) → arguments_in_pairs pairs ≤ pairs_tokens pairs
bounds_arguments [] = omega arith
bounds_arguments (p ∷ pairs) = omega (arith, arguments_small p.high, bounds_arguments pairs)

bounds_small : (pairs : List PPair) → bounds_depth pairs ≤ 2 * pairs_tokens pairs
bounds_small [] = omega arith
bounds_small (p ∷ pairs) = omega (arith, depth_small p.high, bounds_small pairs)

-- a declaration has a semicolon
pub decls_small : (ds : PDecls) → length (procedures ds) + arguments_in_decls ds + decls_depth ds ≤ 4 * decls_tokens ds
decls_small tree.no_decls = omega arith
decls_small (tree.decls (tree.simple kind ns) ds) = omega (arith, decls_small ds)
decls_small (tree.decls (tree.files ns) ds) = omega (arith, decls_small ds)
decls_small (tree.decls (tree.events ns) ds) = omega (arith, decls_small ds)
decls_small (tree.decls (tree.tasks ns) ds) = omega (arith, decls_small ds)
decls_small (tree.decls (tree.labels ns) ds) = omega (arith, decls_small ds)
decls_small (tree.decls (tree.arrays kind ns pairs) ds) = omega (arith, decls_small ds, bounds_small pairs, bounds_arguments pairs)
decls_small (tree.decls (tree.forward h) ds) = omega (arith, decls_small ds)
decls_small (tree.decls (tree.procedure h s) ds) = omega (arith, decls_small ds)

mutual
  pub stmt_small : (s : PStmt) → stmt_depth s + arguments_in_stmt s ≤ 4 * stmt_tokens s
  stmt_small tree.empty = omega arith
  stmt_small (tree.label n s) = omega (arith, stmt_small s)
  stmt_small (tree.assign (tree.subscripted n tree.none) e) = omega (arith, depth_small e, arguments_small e)
  stmt_small (tree.assign (tree.subscripted n (tree.more i is)) e) =
      omega (arith, depth_small i, line_small is, depth_small e, arguments_small i, among_small is, arguments_small e)
  stmt_small (tree.call_of (tree.called n tree.none)) = omega arith
  stmt_small (tree.call_of (tree.called n (tree.more e es))) = omega (arith, depth_small e, line_small es, arguments_small e, given_small es)
  stmt_small (tree.go_to n) = omega arith
  stmt_small (tree.block (tree.body spot tree.no_decls ss)) = omega (arith, stmts_small ss)
  stmt_small (tree.block (tree.body spot (tree.decls d ds) ss)) = omega (arith, decls_small (tree.decls d ds), stmts_small ss)
  stmt_small (tree.if_then c x) = omega (arith, depth_small c, arguments_small c, stmt_small x)
  stmt_small (tree.if_else c x y) = omega (arith, depth_small c, arguments_small c, stmt_small x, stmt_small y)
  stmt_small (tree.while c b) = omega (arith, depth_small c, arguments_small c, stmt_small b)
  stmt_small (tree.until b c) = omega (arith, stmt_small b, depth_small c, arguments_small c)
  stmt_small (tree.for v a s l b) =
      omega (arith, depth_small a, arguments_small a, depth_small s, arguments_small s, depth_small l, arguments_small l, stmt_small b)
  stmt_small (tree.thru e b) = omega (arith, depth_small e, arguments_small e, stmt_small b)
  stmt_small (tree.case e ss) = omega (arith, depth_small e, arguments_small e, stmts_small ss)
  stmt_small (tree.process (tree.called n tree.none) task) = omega arith
  stmt_small (tree.process (tree.called n (tree.more e es)) task) = omega (arith, depth_small e, line_small es, arguments_small e, given_small es)
  stmt_small (tree.event act e) = omega arith
  stmt_small (tree.write n spot phrases es) = omega (arith, line_small es, among_small es)

  pub stmts_small : (ss : PStmts) → stmts_depth ss + arguments_in_stmts ss ≤ 4 * stmts_tokens ss
  stmts_small tree.no_stmts = omega arith
  stmts_small (tree.stmts s ss) = omega (arith, stmt_small s, stmts_small ss)
