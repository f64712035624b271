-- The silent steps of statements, of the items after them, and of the items of a block keep to the text.
use Rattle.std.proofs.Common.{Bool, true, false, List, [], ◌∷◌, ◌++◌}
use Rattle.std.specs.Prelude.{if◌then◌else◌, ℤ, pos, int_lt, Option}
use Rattle.algol_tree.specs.declared.tree.Kind.{Kind}
use Rattle.algol_tree.specs.declared.tree.Named.{Named}
use Rattle.algol_tree.specs.declared.tree.PhraseText.{PhraseText}
use Rattle.algol_tree.specs.Plain as tree
use Rattle.algol_tree.specs.Plain.{PExpr, PExprs, PPair, PStmt, PStmts, PBody}
use Rattle.algol_tree.specs.Scopes.{Scopes}
use Rattle.algol_meaning.specs.Value.{Value, whole_of, truth_of}
use Rattle.algol_meaning.specs.Rest.{Place, Half, val, busy, HalfGiven, given, wants, HalfPlace, at, aims, Loop, Item, run, turn, count, check, test, result, make_arrays, make_event, Rest, turning}
use Rattle.algol_meaning.specs.Settle.{sorts_of, callee, settle, settle_actuals, settle_place}
use Rattle.algol_meaning.specs.Statements.{items, run_and, turn_and, assigned_of, aimed_at, chosen_of, looped_of, checked_of, repeated_of, counted_of, after_count, selected_of, statement_called_of, prepared_of, item_of, bound_of, is_past, difference_in, stepped, assignment, settle_line, settle_bounds, settle_stmt, settle_stmts, counted_body, again, tested_of, differed_of, settle_items}
use Rattle.algol_paths.specs.Texts.{InExpr, InExprs, InPairs, InName, InPlace, InStmt, InStmts, InLoop, InItems, InDeclared, InRest}
use Rattle.algol_paths.proofs.Expressions.{InHalf, InHalfGiven, InHalfPlace, settle_in, settle_actuals_in, settle_place_in}

module _ (P : Named → Type 0) (Q : PBody → Type 0) (R : Named → Type 0) where
  abbrev Keeps : Rest → Type 0
  Keeps = InRest P Q R

  abbrev Keep : List Item → Type 0
  Keep = InItems P Q

  abbrev KeepDeclared : List Item → Type 0
  KeepDeclared = InDeclared P Q R

  either_keeps : (b : Bool) (x y : Rest) → Keeps x → Keeps y → Keeps (if b then x else y)
  either_keeps true x y i j = i
  either_keeps false x y i j = j

  items_keep : (ss : PStmts) (k : List Item) → InStmts P Q ss → Keep k → Keep (items ss k)
  items_keep tree.no_stmts k i j = j
  items_keep (tree.stmts s ss) k i j = (i.0, items_keep ss k i.1 j)

  -- ---- one lemma for each form that settling and resuming share

  pub assigned_keeps : (p : Place) (x : Half) (k : List Item) → InPlace P p → InHalf P x → Keep k → Keeps (assigned_of p x k)
  assigned_keeps p (val v) k i h j = (i, j)
  assigned_keeps p (busy h) k i l j = (i, l, j)

  pub aimed_keeps : (x : HalfPlace) (e : PExpr) (s : Half) (k : List Item) → InHalfPlace P x → InExpr P e → InHalf P s → Keep k → Keeps (aimed_at x e s k)
  aimed_keeps (at p) e s k i l h j = assigned_keeps p s k i h j
  aimed_keeps (aims x) e s k i l h j = (i, l, j)

  pub chosen_keeps : (x : Half) (a b : PStmt) (k : List Item) (r s : Rest) → InHalf P x → InStmt P Q a → InStmt P Q b → Keep k → Keeps r → Keeps s → Keeps (chosen_of x a b k r s)
  chosen_keeps (val v) a b k r s h i l j m n = either_keeps (truth_of v) r s m n
  chosen_keeps (busy x) a b k r s h i l j m n = (h, i, l, j)

  pub looped_keeps : (x : Half) (c : PExpr) (b : PStmt) (k : List Item) (body r : Rest) → InHalf P x → InExpr P c → InStmt P Q b → Keep k → Keeps body → Keeps r →
      Keeps (looped_of x c b k body r)
  looped_keeps (val v) c b k body r h i l j m n = either_keeps (truth_of v) body r m n
  looped_keeps (busy x) c b k body r h i l j m n = (h, i, l, j)

  pub checked_keeps : (x : Half) (b : PStmt) (c : PExpr) (k : List Item) (r : Rest) → InHalf P x → InStmt P Q b → InExpr P c → Keep k → Keeps r → Keeps (checked_of x b c k r)
  checked_keeps (val v) b c k r h i l j n = either_keeps (truth_of v) r (turning (run_and (tree.until b c) k)) n ((i, l), j)
  checked_keeps (busy x) b c k r h i l j n = (h, i, l, j)

  repeated_keeps : (n : ℤ) (body : ℤ → Rest) (r : Rest) → ((z : ℤ) → Keeps (body z)) → Keeps r → Keeps (repeated_of n body r)
  repeated_keeps n body r m i = either_keeps (int_lt (pos 0) n) (body n) r (m n) i

  pub counted_keeps : (x : Half) (b : PStmt) (k : List Item) (body : ℤ → Rest) (r : Rest) → InHalf P x → InStmt P Q b → Keep k → ((z : ℤ) → Keeps (body z)) → Keeps r →
      Keeps (counted_of x b k body r)
  counted_keeps (val v) b k body r h i j m n = repeated_keeps (whole_of v) body r m n
  counted_keeps (busy x) b k body r h i j m n = (h, i, j)

  pub selected_keeps : (x : Half) (ss : PStmts) (k : List Item) → InHalf P x → InStmts P Q ss → Keep k → Keeps (selected_of x ss k)
  selected_keeps (val v) ss k h i j = (i, j)
  selected_keeps (busy x) ss k h i j = (h, i, j)

  pub called_keeps : (n : Named) (x : HalfGiven) (k : List Item) → P n → InHalfGiven P x → Keep k → Keeps (statement_called_of n x k)
  called_keeps n (given gs) k p i j = (p, i, j)
  called_keeps n (wants x) k p i j = (p, i, j)

  pub prepared_keeps : (n : Named) (x : HalfGiven) (task : Option Named) (k : List Item) → P n → InHalfGiven P x → InName P task → Keep k → Keeps (prepared_of n x task k)
  prepared_keeps n (given gs) task k p i t j = (p, i, t, j)
  prepared_keeps n (wants x) task k p i t j = (p, i, t, j)

  pub item_keeps : (phrases : List PhraseText) (vs : List Value) (x : Half) (es : PExprs) (k : List Item) (go_on : List Value → Rest) → InHalf P x → InExprs P es → Keep k →
      ((ws : List Value) → Keeps (go_on ws)) → Keeps (item_of phrases vs x es k go_on)
  item_keeps phrases vs (val v) es k go_on h i j g = g (vs ++ v ∷ [])
  item_keeps phrases vs (busy x) es k go_on h i j g = (h, i, j)

  pub bound_keeps : (kind : Kind) (ns : List Named) (pairs : List PPair) (vs : List Value) (x : Half) (ps : List PPair) (k : List Item) (go_on : List Value → Rest) → InHalf R x →
      InPairs R ps → KeepDeclared k → ((ws : List Value) → Keeps (go_on ws)) → Keeps (bound_of kind ns pairs vs x ps k go_on)
  bound_keeps kind ns pairs vs (val v) ps k go_on h i j g = g (vs ++ v ∷ [])
  bound_keeps kind ns pairs vs (busy x) ps k go_on h i j g = (h, i, j)

  module _ (sc : Scopes) where
    assignment_keeps : (n : Named) (e : PExpr) (k : List Item) → P n → InExpr P e → Keep k → Keeps (assignment sc n e k)
    assignment_keeps n e k p i j =
        aimed_keeps (settle_place sc (tree.subscripted n tree.none)) e (settle sc e) k (settle_place_in P sc n tree.none p tt) i (settle_in P sc e i) j

    pub line_keeps : (es : PExprs) (phrases : List PhraseText) (k : List Item) (vs : List Value) → InExprs P es → Keep k → Keeps (settle_line sc es phrases k vs)
    line_keeps tree.none phrases k vs i j = j
    line_keeps (tree.more e es) phrases k vs i j =
        item_keeps phrases vs (settle sc e) es k (settle_line sc es phrases k) (settle_in P sc e i.0) i.1 j (λ ws. line_keeps es phrases k ws i.1 j)

    pub bounds_keep : (ps : List PPair) (kind : Kind) (ns : List Named) (pairs : List PPair) (k : List Item) (vs : List Value) → InPairs R ps → KeepDeclared k →
        Keeps (settle_bounds sc ps kind ns pairs k vs)
    bounds_keep [] kind ns pairs k vs i j = j
    bounds_keep (p ∷ ps) kind ns pairs k vs i j =
        bound_keeps kind ns pairs vs (settle sc p.high) ps k (settle_bounds sc ps kind ns pairs k) (settle_in R sc p.high i.0) i.1 j
        (λ ws. bounds_keep ps kind ns pairs k ws i.1 j)

    mutual
      pub stmt_keeps : (s : PStmt) (k : List Item) (r : Rest) → InStmt P Q s → Keep k → Keeps r → Keeps (settle_stmt sc s k r)
      stmt_keeps tree.empty k r i j n = n
      stmt_keeps (tree.label name s) k r i j n = stmt_keeps s k r i j n
      stmt_keeps (tree.assign (tree.subscripted m es) e) k r i j n =
          aimed_keeps (settle_place sc (tree.subscripted m es)) e (settle sc e) k (settle_place_in P sc m es i.0 i.1) i.2 (settle_in P sc e i.2) j
      stmt_keeps (tree.call_of (tree.called m es)) k r i j n =
          called_keeps m (settle_actuals sc es (sorts_of (callee sc m).parameters) []) k i.0 (settle_actuals_in P sc es (sorts_of (callee sc m).parameters) [] i.1 tt) j
      stmt_keeps (tree.go_to m) k r i j n = i
      stmt_keeps (tree.block (tree.body spot tree.no_decls ss)) k r i j n = stmts_keep ss k r i j n
      stmt_keeps (tree.block (tree.body spot (tree.decls d ds) ss)) k r i j n = (i, j)
      stmt_keeps (tree.if_then c x) k r i j n =
          chosen_keeps (settle sc c) x tree.empty k (settle_stmt sc x k r) r (settle_in P sc c i.0) i.1 tt j (stmt_keeps x k r i.1 j n) n
      stmt_keeps (tree.if_else c x y) k r i j n =
          chosen_keeps (settle sc c) x y k (settle_stmt sc x k r) (settle_stmt sc y k r) (settle_in P sc c i.0) i.1 i.2 j (stmt_keeps x k r i.1 j n) (stmt_keeps y k r i.2 j n)
      stmt_keeps (tree.while c b) k r i j n =
          let again = turning (run_and (tree.while c b) k) in
          looped_keeps (settle sc c) c b k (settle_stmt sc b (turn_and (tree.while c b) k) again) r (settle_in P sc c i.0) i.0 i.1 j
          (stmt_keeps b (turn_and (tree.while c b) k) again i.1 (tt, (i, j)) (i, j)) n
      stmt_keeps (tree.until b c) k r i j n =
          stmt_keeps b (check b c ∷ k) (checked_of (settle sc c) b c k r) i.0 (i, j) (checked_keeps (settle sc c) b c k r (settle_in P sc c i.1) i.0 i.1 j n)
      stmt_keeps (tree.for v a s l b) k r i j n =
          assignment_keeps v a (test (record { control = v; step = s; last = l; body = b }) ∷ k) i.0 i.1 ((i.0, i.2, i.3, i.4), j)
      stmt_keeps (tree.thru e b) k r i j n =
          counted_keeps (settle sc e) b k (counted_body sc b k) r (settle_in P sc e i.0) i.1 j
          (λ z. stmt_keeps b (turn ∷ after_count z b k) (turning (after_count z b k)) i.1 (tt, (i.1, j)) (i.1, j)) n
      stmt_keeps (tree.case e ss) k r i j n = selected_keeps (settle sc e) ss k (settle_in P sc e i.0) i.1 j
      stmt_keeps (tree.process (tree.called m es) task) k r i j n =
          prepared_keeps m (settle_actuals sc es (sorts_of (callee sc m).parameters) []) task k i.0
          (settle_actuals_in P sc es (sorts_of (callee sc m).parameters) [] i.1 tt) i.2 j
      stmt_keeps (tree.event act e) k r i j n = (i, j)
      stmt_keeps (tree.write m spot phrases es) k r i j n = line_keeps es phrases k [] i j

      stmts_keep : (ss : PStmts) (k : List Item) (r : Rest) → InStmts P Q ss → Keep k → Keeps r → Keeps (settle_stmts sc ss k r)
      stmts_keep tree.no_stmts k r i j n = n
      stmts_keep (tree.stmts s ss) k r i j n =
          stmt_keeps s (items ss k) (settle_stmts sc ss k r) i.0 (items_keep ss k i.1 j) (stmts_keep ss k r i.1 j n)

    pub counted_body_keeps : (b : PStmt) (k : List Item) → InStmt P Q b → Keep k → (z : ℤ) → Keeps (counted_body sc b k z)
    counted_body_keeps b k i j z = stmt_keeps b (turn ∷ after_count z b k) (turning (after_count z b k)) i (tt, (i, j)) (i, j)

    -- ---- the test of FOR

    again_keeps : (loop : Loop) (k : List Item) → InLoop P Q loop → Keep k → Keeps (again sc loop k)
    again_keeps loop k i j =
        let step : InStmt P Q (stepped loop) = (i.0, tt, ((i.0, tt), i.1)) in
        stmt_keeps loop.body (run (stepped loop) ∷ turn ∷ test loop ∷ k) (settle_stmt sc (stepped loop) (turn ∷ test loop ∷ k) (turning (test loop ∷ k))) i.3
        (step, (tt, (i, j))) (stmt_keeps (stepped loop) (turn ∷ test loop ∷ k) (turning (test loop ∷ k)) step (tt, (i, j)) (i, j))

    pub tested_keeps : (d : Value) (x : Half) (loop : Loop) (k : List Item) (r : Rest) → InHalf P x → InLoop P Q loop → Keep k → Keeps r → Keeps (tested_of sc d x loop k r)
    tested_keeps d (val v) loop k r h i j n = either_keeps (is_past (whole_of d) (whole_of v)) r (again sc loop k) n (again_keeps loop k i j)
    tested_keeps d (busy x) loop k r h i j n = (h, i, j)

    pub differed_keeps : (x : Half) (loop : Loop) (k : List Item) (r : Rest) → InHalf P x → InLoop P Q loop → Keep k → Keeps r → Keeps (differed_of sc x loop k r)
    differed_keeps (val v) loop k r h i j n = tested_keeps v (settle sc loop.step) loop k r (settle_in P sc loop.step i.1) i j n
    differed_keeps (busy x) loop k r h i j n = (h, i, j)

    -- ---- items

    pub settled_keeps : (k : List Item) → Keep k → Keeps (settle_items sc k)
    settled_keeps [] i = tt
    settled_keeps (run s ∷ k) i = stmt_keeps s k (settle_items sc k) i.0 i.1 (settled_keeps k i.1)
    settled_keeps (turn ∷ k) i = i.1
    settled_keeps (count n b ∷ k) i =
        repeated_keeps n (counted_body sc b k) (settle_items sc k) (counted_body_keeps b k i.0 i.1) (settled_keeps k i.1)
    settled_keeps (check b c ∷ k) i =
        checked_keeps (settle sc c) b c k (settle_items sc k) (settle_in P sc c (i.0).1) (i.0).0 (i.0).1 i.1 (settled_keeps k i.1)
    settled_keeps (test loop ∷ k) i =
        differed_keeps (settle sc (difference_in loop)) loop k (settle_items sc k) (settle_in P sc (difference_in loop) (((i.0).0, tt), (i.0).2)) i.0 i.1
        (settled_keeps k i.1)
    settled_keeps (result name ∷ k) i = tt
    settled_keeps (make_arrays kind ns ps ∷ k) i = absurd i.0
    settled_keeps (make_event n ∷ k) i = absurd i.0

    pub declared_keeps : (k : List Item) → KeepDeclared k → Keeps (settle_items sc k)
    declared_keeps (make_arrays kind ns ps ∷ k) i = bounds_keep ps kind ns ps k [] i.0 i.1
    declared_keeps (make_event n ∷ k) i = i
    declared_keeps k i = settled_keeps k i
