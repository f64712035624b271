-- What the points of a part, and what follows them, stand for.
use Rattle.std.specs.Prelude.{◌≡◌, ℕ, ◌+◌, ◌<◌, ◌++◌, Bool, true, false, List, [], ◌∷◌, map, length}
use Rattle.algol_tree.specs.Plain as tree
use Rattle.algol_tree.specs.Plain.{PExpr, PStmt, PStmts, PDecl, PDecls, PBody}
use Rattle.algol_tree.specs.Scopes.{Scopes}
use Rattle.algol_tree.specs.declared.tree.Op.TheVariants as operators
use Rattle.algol_tree.specs.declared.tree.Named.{Named}
use Rattle.algol_meaning.specs.Value as plain
use Rattle.algol_meaning.specs.Rest as rest
use Rattle.algol_meaning.specs.Rest.{Hole, Half, val, busy, HalfGiven, given, wants, HalfPlace, at, aims, Item, run, turn, count, check, test, result, make_arrays, make_event, Rest}
use Rattle.algol_meaning.specs.Settle.{settle, settle_actuals, valued_of, aimed_of}
use Rattle.algol_meaning.specs.Statements as statements
use Rattle.algol_meaning.specs.Statements.{items, decls_items, event_items, settle_items, settle_line, settle_bounds, alone, stepped}
use Rattle.algol_meaning.specs.Asks as asks
use Rattle.algol_meaning.specs.SeenTree.{expr, exprs, stmt, stmts, decls, body, pairs}
use Rattle.algol_cells.specs.SeenValue.{value}
use Rattle.algol_rest_expr.specs.SeenExpression.{place, all_done, sorts_after, hole, wrap}
use Rattle.algol_rest_expr.specs.declared.part.Frame.{Frame}
use Rattle.algol_rest.specs.declared.statement.Next.{Next}
use Rattle.algol_rest.specs.declared.statement.Next.TheVariants as next
use Rattle.algol_rest.specs.declared.statement.Again.{Again}
use Rattle.algol_rest.specs.declared.statement.Again.TheVariants as again
use Rattle.algol_rest.specs.declared.statement.Right.{Right}
use Rattle.algol_rest.specs.declared.statement.Right.TheVariants as right
use Rattle.algol_rest.specs.declared.statement.Sought.{Sought}
use Rattle.algol_rest.specs.declared.statement.Sought.TheVariants as sought
use Rattle.algol_rest.specs.declared.statement.Role.{Role}
use Rattle.algol_rest.specs.declared.statement.Role.TheVariants as role
use Rattle.algol_rest.specs.declared.statement.Within.{Within}
use Rattle.algol_rest.specs.declared.statement.Within.TheVariants as within
use Rattle.algol_rest.specs.declared.statement.Deed.{Deed}
use Rattle.algol_rest.specs.declared.statement.Deed.TheVariants as deed
use Rattle.algol_rest.specs.declared.statement.Last.{Last}
use Rattle.algol_rest.specs.declared.statement.Last.TheVariants as last
use Rattle.algol_rest.specs.declared.statement.Target.{Target}
use Rattle.algol_rest.specs.declared.statement.Target.TheVariants as target
use Rattle.algol_rest.specs.declared.statement.Work.{Work}
use Rattle.algol_rest.specs.declared.statement.Point.{Point}
use Rattle.algol_rest.specs.declared.statement.Point.TheVariants as point

-- ---- what follows

-- FOR, once its control variable is set
abbrev pub loop_of : Named → PExpr → PExpr → PStmt → rest.Loop
loop_of control step last body = record { control = control; step = step; last = last; body = body }

-- what follows the body of that loop; no other statement has it
abbrev pub again_item : Again → PStmt → Item
again_item (again.Count n) (tree.thru e b) = count n b
again_item again.Check (tree.until b c) = check b c
again_item again.Step (tree.for v e s l b) = run (stepped (loop_of v s l b))
again_item again.Test (tree.for v e s l b) = test (loop_of v s l b)
again_item _ _ = turn

abbrev pub item : Next → List Item → List Item
item (next.Run s) k = run (stmt s.now) ∷ k
item (next.Rest ss) k = items (stmts ss.now) k
item next.Turn k = turn ∷ k
item (next.Result name) k = result name.now ∷ k
item (next.Again a s) k = again_item a (stmt s.now) ∷ k
item (next.Events ns) k = event_items ns.now ++ k
item (next.Decls ds) k = decls_items (decls ds.now) ++ k

abbrev pub following : List Next → List Item
following [] = []
following (n ∷ k) = item n (following k)

-- the statement begins with an action, or with what an action needs
abbrev pub begins_action : PStmt → Bool
begins_action (tree.assign v e) = true
begins_action (tree.call_of c) = true
begins_action (tree.go_to n) = true
begins_action (tree.process c task) = true
begins_action (tree.event act e) = true
begins_action (tree.write n spot phrases es) = true
begins_action _ = false

-- ---- what an expression is evaluated for

abbrev pub right_side : Right → PExpr
right_side (right.Expr e) = expr e.now
right_side (right.Stepped n e) = tree.two operators.Add (alone n.now) (expr e.now)

abbrev pub role_at : Role → Named → HalfGiven → List Item → Rest
role_at role.Calls n x k = statements.statement_called_of n x k
role_at (role.Starts task) n x k = statements.prepared_of n x task.now k

-- ---- where a part stands

abbrev pub deed_at : Deed → List Item → Rest
deed_at (deed.Store p v) k = rest.store (place p) (value v) k
deed_at deed.Turn k = rest.turning k
deed_at (deed.Start n gs task) k = rest.starting n.now (all_done gs) task.now k
deed_at (deed.Event act n) k = rest.acting act n.now k
deed_at (deed.Line phrases vs) k = rest.line phrases.now (map value vs) k
deed_at (deed.Arrays kind ns ps vs) k = rest.arrays kind ns.now (pairs ps.now) (map value vs) k
deed_at (deed.MakeEvent n) k = rest.event n.now k
deed_at deed.Within k = rest.within k
deed_at deed.Dropping k = rest.dropping k

abbrev pub last_at : Last → Rest
last_at last.Over = rest.over
last_at (last.Giving v) = rest.giving (value v)
last_at (last.GivingPlace p) = rest.giving_place (place p)
last_at (last.Going n) = rest.going n.now

abbrev pub target_at : Target → rest.Aim
target_at (target.Resolve n) = rest.resolve n.now
target_at (target.Index n ks v es) = rest.place_index n.now ks (value v) (exprs es.now)
target_at target.Inside = rest.inside_place

module _ (sc : Scopes) where
  -- the rest that is asked for a place, once that has come so far
  abbrev pub sought_at : Sought → HalfPlace → List Item → Rest
  sought_at (sought.Aiming r) x k = statements.aimed_at x (right_side r) (settle sc (right_side r)) k
  sought_at sought.Locating x k = asks.located_of x

  -- the statement whose test or number has come to `x`
  abbrev pub tested : PStmt → Half → List Item → Rest
  tested (tree.if_then c s) x k =
      statements.chosen_of x s tree.empty k (settle_items sc (run s ∷ k)) (settle_items sc k)
  tested (tree.if_else c s t) x k =
      statements.chosen_of x s t k (settle_items sc (run s ∷ k)) (settle_items sc (run t ∷ k))
  tested (tree.while c b) x k =
      statements.looped_of x c b k (settle_items sc (run b ∷ turn ∷ run (tree.while c b) ∷ k)) (settle_items sc k)
  tested (tree.until b c) x k = statements.checked_of x b c k (settle_items sc k)
  tested (tree.thru e b) x k = statements.counted_of x b k (statements.counted_body sc b k) (settle_items sc k)
  tested (tree.for v e s l b) x k = statements.differed_of sc x (loop_of v s l b) k (settle_items sc k)
  tested (tree.case e ss) x k = statements.selected_of x ss k
  tested _ x k = asks.evaluated_of x

  -- the FOR whose step in its test has come to `x`
  abbrev pub stepped_by : plain.Value → PStmt → Half → List Item → Rest
  stepped_by d (tree.for v e s l b) x k = statements.tested_of sc d x (loop_of v s l b) k (settle_items sc k)
  stepped_by d _ x k = asks.evaluated_of x

  -- the rest whose expression has come to `x`
  abbrev pub held : Within → Half → List Item → Rest
  held within.Evaluating x k = asks.evaluated_of x
  held (within.Storing p) x k = statements.assigned_of (place p) x k
  held (within.Testing s) x k = tested (stmt s.now) x k
  held (within.Stepping d s) x k = stepped_by (value d) (stmt s.now) x k
  held (within.Supplying r n gs es) x k =
      role_at r n.now
      (valued_of (all_done gs) x (sorts_after sc n.now gs) (exprs es.now) (settle_actuals sc (exprs es.now) (sorts_after sc n.now gs))) k
  held (within.Subscripting s n ks es) x k = sought_at s (aimed_of n.now ks x (exprs es.now)) k
  held (within.Writing phrases vs es) x k =
      statements.item_of phrases.now (map value vs) x (exprs es.now) k (settle_line sc (exprs es.now) phrases.now k)
  held (within.Bounding kind ns ps vs more) x k =
      statements.bound_of kind ns.now (pairs ps.now) (map value vs) x (pairs more.now) k
      (settle_bounds sc (pairs more.now) kind ns.now (pairs ps.now) k)

  abbrev pub rest_of : Point → List Frame → List Next → Rest
  rest_of (point.Last l) fs k = last_at l
  rest_of (point.Reading name) fs k = rest.reading name.now
  rest_of (point.Deed d) fs k = deed_at d (following k)
  rest_of (point.Select v ss) fs k = rest.select (value v) (stmts ss.now) (following k)
  rest_of (point.EnterBlock b) fs k = rest.entering_block (body b.now) (following k)
  rest_of (point.Enter n gs) fs k = rest.entering n.now (all_done gs) (following k)
  rest_of (point.Pass r n gs m es) fs k =
      role_at r n.now (wants (rest.pass (all_done gs) m.now (sorts_after sc n.now gs) (exprs es.now))) (following k)
  rest_of (point.Seek s t) fs k = sought_at s (aims (target_at t)) (following k)
  rest_of (point.In h w) fs k = held w (busy (wrap sc fs (hole sc h))) (following k)

-- ---- what is left to do before the next action

abbrev mutual
  pub stmt_size : PStmt → ℕ
  stmt_size tree.empty = 1
  stmt_size (tree.label n s) = 1 + stmt_size s
  stmt_size (tree.block b) = 2 + body_size b
  stmt_size (tree.if_then c x) = 2 + stmt_size x
  stmt_size (tree.if_else c x y) = 2 + stmt_size x + stmt_size y
  stmt_size (tree.while c b) = 2 + stmt_size b
  stmt_size (tree.until b c) = 3 + stmt_size b
  stmt_size (tree.for v a s l b) = 6 + stmt_size b
  stmt_size (tree.thru e b) = 3 + stmt_size b
  stmt_size _ = 2

  pub stmts_size : PStmts → ℕ
  stmts_size tree.no_stmts = 0
  stmts_size (tree.stmts s ss) = 1 + stmt_size s + stmts_size ss

  pub body_size : PBody → ℕ
  body_size (tree.body spot ds ss) = stmts_size ss

abbrev pub again_size : Again → PStmt → ℕ
again_size (again.Count n) s = stmt_size s
again_size again.Check s = 1
again_size again.Step s = 1
again_size again.Test s = stmt_size s

-- each declaration, and each name of one
abbrev pub decl_size : PDecl → ℕ
decl_size (tree.events ns) = 3 + length ns
decl_size (tree.tasks ns) = 3 + length ns
decl_size _ = 3

abbrev pub decls_size : PDecls → ℕ
decls_size tree.no_decls = 0
decls_size (tree.decls d ds) = 1 + decl_size d + decls_size ds

-- a turn is an action, and what comes after it does not count
abbrev pub weigh : List Next → ℕ
weigh [] = 0
weigh (next.Run s ∷ k) = stmt_size (stmt s.now) + weigh k
weigh (next.Rest ss ∷ k) = 1 + stmts_size (stmts ss.now) + weigh k
weigh (next.Turn ∷ k) = 0
weigh (next.Result name ∷ k) = 0
weigh (next.Again a s ∷ k) = again_size a (stmt s.now) + weigh k
weigh (next.Events ns ∷ k) = 1 + length ns.now + weigh k
weigh (next.Decls ds ∷ k) = 1 + decls_size (decls ds.now) + weigh k

abbrev pub test_size : PStmt → ℕ
test_size (tree.until b c) = 1
test_size s = stmt_size s

abbrev pub within_size : Within → ℕ
within_size (within.Testing s) = test_size (stmt s.now)
within_size (within.Stepping d s) = stmt_size (stmt s.now)
within_size _ = 1

abbrev pub ahead : Work → List Item
ahead w = following w.todo

module _ (sc : Scopes) where
  -- a head is found
  abbrev pub HeadFinds : Rest → Work → Type 0
  HeadFinds x w = x ≡ rest_of sc w.point.value w.frames w.todo

  -- One silent step: either a head is found, or less is left to do, and it comes to the same.
  abbrev pub Advances : Rest → ℕ → Bool → Work → Type 0
  Advances x bound false w = (x ≡ settle_items sc (following w.todo)) × (w.frames ≡ []) × (weigh w.todo < bound)
  Advances x bound true w = HeadFinds x w
