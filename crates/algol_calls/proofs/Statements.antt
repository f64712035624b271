-- The silent steps of statements, of the items after them, and of the items of a block keep calls fitting.
use Rattle.std.proofs.Common.{Bool, true, false, List, [], ◌∷◌, ◌++◌, refl}
use Rattle.std.specs.Prelude.{if◌then◌else◌, ℤ, pos, int_lt, Option}
use Rattle.algol_tree.specs.declared.tree.Kind.{Kind}
use Rattle.algol_tree.specs.declared.tree.Named.{Named}
use Rattle.algol_tree.specs.declared.tree.PhraseText.{PhraseText}
use Rattle.algol_tree.specs.Plain as tree
use Rattle.algol_tree.specs.Plain.{PExpr, PExprs, PPair, PStmt, PStmts}
use Rattle.algol_tree.specs.Scopes.{Scopes}
use Rattle.algol_meaning.specs.Value.{Value, whole_of, truth_of}
use Rattle.algol_meaning.specs.Rest.{Place, Half, val, busy, HalfGiven, given, wants, HalfPlace, at, aims, Loop, Item, run, turn, count, check, test, result, make_arrays, make_event, Rest, turning}
use Rattle.algol_meaning.specs.Settle.{settle, settle_actuals, settle_place}
use Rattle.algol_meaning.specs.Statements.{items, run_and, turn_and, assigned_of, aimed_at, chosen_of, looped_of, checked_of, repeated_of, counted_of, after_count, selected_of, statement_called_of, prepared_of, item_of, bound_of, is_past, difference_in, stepped, assignment, settle_line, settle_bounds, settle_stmt, settle_stmts, counted_body, again, tested_of, differed_of, settle_items}
use Rattle.algol_calls.specs.Fits.{IsCallee, sorts_wanted, CalledExprFits, ExprsFit, PairsFit, CalledPlaceFits, LeftFits, TaskFits, CalledStmtFits, CalledStmtsFit, LoopFits, ItemsFit, RestFits}
use Rattle.algol_calls.proofs.Expressions.{HalfFits, HalfGivenFits, HalfPlaceFits, settle_fits, settle_actuals_fit, settle_place_fits}

module _ (sc : Scopes) where
  abbrev Fits : Rest → Type 0
  Fits = RestFits sc

  abbrev Fit : List Item → Type 0
  Fit = ItemsFit sc

  abbrev StatementFits : PStmt → Type 0
  StatementFits = CalledStmtFits sc

  abbrev ValueFits : PExpr → Type 0
  ValueFits = CalledExprFits sc

  either_fits : (b : Bool) (x y : Rest) → Fits x → Fits y → Fits (if b then x else y)
  either_fits true x y i j = i
  either_fits false x y i j = j

  items_fit : (ss : PStmts) (k : List Item) → CalledStmtsFit sc ss → Fit k → Fit (items ss k)
  items_fit tree.no_stmts k i j = j
  items_fit (tree.stmts s ss) k i j = (i.0, items_fit ss k i.1 j)

  -- ---- one lemma for each form that settling and resuming share

  pub assigned_fits : (p : Place) (x : Half) (k : List Item) → CalledPlaceFits sc p → HalfFits sc x → Fit k → Fits (assigned_of p x k)
  assigned_fits p (val v) k i h j = (i, j)
  assigned_fits p (busy h) k i l j = (i, l, j)

  pub aimed_fits : (x : HalfPlace) (e : PExpr) (s : Half) (k : List Item) → HalfPlaceFits sc x → ValueFits e → HalfFits sc s → Fit k → Fits (aimed_at x e s k)
  aimed_fits (at p) e s k i l h j = assigned_fits p s k i h j
  aimed_fits (aims x) e s k i l h j = (i, l, j)

  pub chosen_fits : (x : Half) (a b : PStmt) (k : List Item) (r s : Rest) → HalfFits sc x → StatementFits a → StatementFits b → Fit k → Fits r → Fits s → Fits (chosen_of x a b k r s)
  chosen_fits (val v) a b k r s h i l j m n = either_fits (truth_of v) r s m n
  chosen_fits (busy x) a b k r s h i l j m n = (h, i, l, j)

  pub looped_fits : (x : Half) (c : PExpr) (b : PStmt) (k : List Item) (body r : Rest) → HalfFits sc x → ValueFits c → StatementFits b → Fit k → Fits body → Fits r →
      Fits (looped_of x c b k body r)
  looped_fits (val v) c b k body r h i l j m n = either_fits (truth_of v) body r m n
  looped_fits (busy x) c b k body r h i l j m n = (h, i, l, j)

  pub checked_fits : (x : Half) (b : PStmt) (c : PExpr) (k : List Item) (r : Rest) → HalfFits sc x → StatementFits b → ValueFits c → Fit k → Fits r → Fits (checked_of x b c k r)
  checked_fits (val v) b c k r h i l j n = either_fits (truth_of v) r (turning (run_and (tree.until b c) k)) n ((i, l), j)
  checked_fits (busy x) b c k r h i l j n = (h, i, l, j)

  repeated_fits : (n : ℤ) (body : ℤ → Rest) (r : Rest) → ((z : ℤ) → Fits (body z)) → Fits r → Fits (repeated_of n body r)
  repeated_fits n body r m i = either_fits (int_lt (pos 0) n) (body n) r (m n) i

  pub counted_fits : (x : Half) (b : PStmt) (k : List Item) (body : ℤ → Rest) (r : Rest) → HalfFits sc x → StatementFits b → Fit k → ((z : ℤ) → Fits (body z)) → Fits r →
      Fits (counted_of x b k body r)
  counted_fits (val v) b k body r h i j m n = repeated_fits (whole_of v) body r m n
  counted_fits (busy x) b k body r h i j m n = (h, i, j)

  pub selected_fits : (x : Half) (ss : PStmts) (k : List Item) → HalfFits sc x → CalledStmtsFit sc ss → Fit k → Fits (selected_of x ss k)
  selected_fits (val v) ss k h i j = (i, j)
  selected_fits (busy x) ss k h i j = (h, i, j)

  pub called_fits : (n : Named) (x : HalfGiven) (k : List Item) → IsCallee sc n → HalfGivenFits sc x (sorts_wanted sc n) → Fit k → Fits (statement_called_of n x k)
  called_fits n (given gs) k p i j = (p, i, j)
  called_fits n (wants x) k p i j = (p, i, j)

  pub prepared_fits : (n : Named) (x : HalfGiven) (task : Option Named) (k : List Item) → IsCallee sc n → HalfGivenFits sc x (sorts_wanted sc n) → TaskFits sc task → Fit k →
      Fits (prepared_of n x task k)
  prepared_fits n (given gs) task k p i t j = (p, i, t, j)
  prepared_fits n (wants x) task k p i t j = (p, i, t, j)

  pub item_fits : (phrases : List PhraseText) (vs : List Value) (x : Half) (es : PExprs) (k : List Item) (go_on : List Value → Rest) → HalfFits sc x → ExprsFit sc es → Fit k →
      ((ws : List Value) → Fits (go_on ws)) → Fits (item_of phrases vs x es k go_on)
  item_fits phrases vs (val v) es k go_on h i j g = g (vs ++ v ∷ [])
  item_fits phrases vs (busy x) es k go_on h i j g = (h, i, j)

  pub bound_fits : (kind : Kind) (ns : List Named) (pairs : List PPair) (vs : List Value) (x : Half) (ps : List PPair) (k : List Item) (go_on : List Value → Rest) → HalfFits sc x →
      PairsFit sc ps → Fit k → ((ws : List Value) → Fits (go_on ws)) → Fits (bound_of kind ns pairs vs x ps k go_on)
  bound_fits kind ns pairs vs (val v) ps k go_on h i j g = g (vs ++ v ∷ [])
  bound_fits kind ns pairs vs (busy x) ps k go_on h i j g = (h, i, j)

  assignment_fits : (n : Named) (e : PExpr) (k : List Item) → LeftFits sc n tree.none → ValueFits e → Fit k → Fits (assignment sc n e k)
  assignment_fits n e k p i j =
      aimed_fits (settle_place sc (tree.subscripted n tree.none)) e (settle sc e) k (settle_place_fits sc n tree.none p) i (settle_fits sc e i) j

  pub line_fits : (es : PExprs) (phrases : List PhraseText) (k : List Item) (vs : List Value) → ExprsFit sc es → Fit k → Fits (settle_line sc es phrases k vs)
  line_fits tree.none phrases k vs i j = j
  line_fits (tree.more e es) phrases k vs i j =
      item_fits phrases vs (settle sc e) es k (settle_line sc es phrases k) (settle_fits sc e i.0) i.1 j (λ ws. line_fits es phrases k ws i.1 j)

  pub bounds_fit : (ps : List PPair) (kind : Kind) (ns : List Named) (pairs : List PPair) (k : List Item) (vs : List Value) → PairsFit sc ps → Fit k →
      Fits (settle_bounds sc ps kind ns pairs k vs)
  bounds_fit [] kind ns pairs k vs i j = j
  bounds_fit (p ∷ ps) kind ns pairs k vs i j =
      bound_fits kind ns pairs vs (settle sc p.high) ps k (settle_bounds sc ps kind ns pairs k) (settle_fits sc p.high i.0) i.1 j (λ ws. bounds_fit ps kind ns pairs k ws i.1 j)

  mutual
    pub stmt_fits : (s : PStmt) (k : List Item) (r : Rest) → StatementFits s → Fit k → Fits r → Fits (settle_stmt sc s k r)
    stmt_fits tree.empty k r i j n = n
    stmt_fits (tree.label name s) k r i j n = stmt_fits s k r i j n
    stmt_fits (tree.assign (tree.subscripted m es) e) k r i j n =
        aimed_fits (settle_place sc (tree.subscripted m es)) e (settle sc e) k (settle_place_fits sc m es i.0) i.1 (settle_fits sc e i.1) j
    stmt_fits (tree.call_of (tree.called m es)) k r i j n =
        called_fits m (settle_actuals sc es (sorts_wanted sc m) []) k i.0 (settle_actuals_fit sc es (sorts_wanted sc m) (sorts_wanted sc m) [] i.1 refl) j
    stmt_fits (tree.go_to m) k r i j n = i
    stmt_fits (tree.block (tree.body spot tree.no_decls ss)) k r i j n = stmts_fit ss k r i j n
    stmt_fits (tree.block (tree.body spot (tree.decls d ds) ss)) k r i j n = j
    stmt_fits (tree.if_then c x) k r i j n =
        chosen_fits (settle sc c) x tree.empty k (settle_stmt sc x k r) r (settle_fits sc c i.0) i.1 tt j (stmt_fits x k r i.1 j n) n
    stmt_fits (tree.if_else c x y) k r i j n =
        chosen_fits (settle sc c) x y k (settle_stmt sc x k r) (settle_stmt sc y k r) (settle_fits sc c i.0) i.1 i.2 j (stmt_fits x k r i.1 j n) (stmt_fits y k r i.2 j n)
    stmt_fits (tree.while c b) k r i j n =
        let again = turning (run_and (tree.while c b) k) in
        looped_fits (settle sc c) c b k (settle_stmt sc b (turn_and (tree.while c b) k) again) r (settle_fits sc c i.0) i.0 i.1 j
        (stmt_fits b (turn_and (tree.while c b) k) again i.1 (tt, (i, j)) (i, j)) n
    stmt_fits (tree.until b c) k r i j n =
        stmt_fits b (check b c ∷ k) (checked_of (settle sc c) b c k r) i.0 (i, j) (checked_fits (settle sc c) b c k r (settle_fits sc c i.1) i.0 i.1 j n)
    stmt_fits (tree.for v a s l b) k r i j n =
        assignment_fits v a (test (record { control = v; step = s; last = l; body = b }) ∷ k) (i.0).0 i.1 ((i.0, i.2, i.3, i.4), j)
    stmt_fits (tree.thru e b) k r i j n =
        counted_fits (settle sc e) b k (counted_body sc b k) r (settle_fits sc e i.0) i.1 j
        (λ z. stmt_fits b (turn ∷ after_count z b k) (turning (after_count z b k)) i.1 (tt, (i.1, j)) (i.1, j)) n
    stmt_fits (tree.case e ss) k r i j n = selected_fits (settle sc e) ss k (settle_fits sc e i.0) i.1 j
    stmt_fits (tree.process (tree.called m es) task) k r i j n =
        prepared_fits m (settle_actuals sc es (sorts_wanted sc m) []) task k i.0 (settle_actuals_fit sc es (sorts_wanted sc m) (sorts_wanted sc m) [] i.1 refl) i.2 j
    stmt_fits (tree.event act e) k r i j n = (i, j)
    stmt_fits (tree.write m spot phrases es) k r i j n = line_fits es phrases k [] i j

    stmts_fit : (ss : PStmts) (k : List Item) (r : Rest) → CalledStmtsFit sc ss → Fit k → Fits r → Fits (settle_stmts sc ss k r)
    stmts_fit tree.no_stmts k r i j n = n
    stmts_fit (tree.stmts s ss) k r i j n = stmt_fits s (items ss k) (settle_stmts sc ss k r) i.0 (items_fit ss k i.1 j) (stmts_fit ss k r i.1 j n)

  pub counted_body_fits : (b : PStmt) (k : List Item) → StatementFits b → Fit k → (z : ℤ) → Fits (counted_body sc b k z)
  counted_body_fits b k i j z = stmt_fits b (turn ∷ after_count z b k) (turning (after_count z b k)) i (tt, (i, j)) (i, j)

  -- ---- the test of FOR

  again_fits : (loop : Loop) (k : List Item) → LoopFits sc loop → Fit k → Fits (again sc loop k)
  again_fits loop k i j =
      let step : StatementFits (stepped loop) = ((i.0).0, ((i.0).1, i.1)) in
      stmt_fits loop.body (run (stepped loop) ∷ turn ∷ test loop ∷ k) (settle_stmt sc (stepped loop) (turn ∷ test loop ∷ k) (turning (test loop ∷ k))) i.3
      (step, (tt, (i, j))) (stmt_fits (stepped loop) (turn ∷ test loop ∷ k) (turning (test loop ∷ k)) step (tt, (i, j)) (i, j))

  pub tested_fits : (d : Value) (x : Half) (loop : Loop) (k : List Item) (r : Rest) → HalfFits sc x → LoopFits sc loop → Fit k → Fits r → Fits (tested_of sc d x loop k r)
  tested_fits d (val v) loop k r h i j n = either_fits (is_past (whole_of d) (whole_of v)) r (again sc loop k) n (again_fits loop k i j)
  tested_fits d (busy x) loop k r h i j n = (h, i, j)

  pub differed_fits : (x : Half) (loop : Loop) (k : List Item) (r : Rest) → HalfFits sc x → LoopFits sc loop → Fit k → Fits r → Fits (differed_of sc x loop k r)
  differed_fits (val v) loop k r h i j n = tested_fits v (settle sc loop.step) loop k r (settle_fits sc loop.step i.1) i j n
  differed_fits (busy x) loop k r h i j n = (h, i, j)

  -- ---- items

  pub settled_fits : (k : List Item) → Fit k → Fits (settle_items sc k)
  settled_fits [] i = tt
  settled_fits (run s ∷ k) i = stmt_fits s k (settle_items sc k) i.0 i.1 (settled_fits k i.1)
  settled_fits (turn ∷ k) i = i.1
  settled_fits (count n b ∷ k) i = repeated_fits n (counted_body sc b k) (settle_items sc k) (counted_body_fits b k i.0 i.1) (settled_fits k i.1)
  settled_fits (check b c ∷ k) i =
      checked_fits (settle sc c) b c k (settle_items sc k) (settle_fits sc c (i.0).1) (i.0).0 (i.0).1 i.1 (settled_fits k i.1)
  settled_fits (test loop ∷ k) i =
      differed_fits (settle sc (difference_in loop)) loop k (settle_items sc k) (settle_fits sc (difference_in loop) (((i.0).0).1, (i.0).2)) i.0 i.1 (settled_fits k i.1)
  settled_fits (result name ∷ k) i = tt
  settled_fits (make_arrays kind ns ps ∷ k) i = bounds_fit ps kind ns ps k [] i.0 i.1
  settled_fits (make_event n ∷ k) i = i.1
