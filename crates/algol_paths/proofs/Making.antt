-- The arrays, events and tasks of a block are made in their order: silent steps make none, and an action those of its head.
use Rattle.std.proofs.Common.{◌≡◌, ℤ, Bool, true, false, List, [], ◌∷◌, ◌++◌, map, refl, sym, ap, ◌∙◌}
use Rattle.std.specs.Prelude.{if◌then◌else◌, pos, int_lt, nat_abs, Option}
use Rattle.algol_tree.specs.declared.tree.Kind.{Kind}
use Rattle.algol_tree.specs.declared.tree.Named.{Named}
use Rattle.algol_tree.specs.declared.tree.PhraseText.{PhraseText}
use Rattle.algol_tree.specs.Plain as tree
use Rattle.algol_tree.specs.Plain.{PExpr, PExprs, PPair, PStmt, PStmts, PBody}
use Rattle.algol_tree.specs.Scopes.{Scopes}
use Rattle.algol_meaning.specs.Value.{Value, whole_of, truth_of}
use Rattle.algol_meaning.specs.Rest.{Place, Half, val, busy, HalfGiven, given, wants, HalfPlace, at, aims, Loop, Item, run, turn, count, check, test, result, make_arrays, make_event, Rest, over, reading, giving, giving_place, store, select, turning, going, entering_block, entering, starting, acting, line, arrays, event, within, dropping, evaluating, locating, aiming, storing, choosing, looping, checking, counting, differing, stepping, selecting, calling, preparing, writing, bounding, Answer, entered}
use Rattle.algol_meaning.specs.Settle.{sorts_of, callee, is_typed, settle, settle_actuals, settle_place, half_of, answer_put, put_actuals, put_place}
use Rattle.algol_meaning.specs.Statements.{items, run_and, turn_and, assigned_of, aimed_at, chosen_of, looped_of, checked_of, repeated_of, counted_of, after_count, selected_of, statement_called_of, prepared_of, item_of, bound_of, is_past, difference_in, stepped, settle_line, settle_bounds, settle_stmt, settle_stmts, counted_body, again, tested_of, differed_of, settle_items}
use Rattle.algol_meaning.specs.Asks.{evaluated_of, located_of, nth_stmt, inside_or_after, asks_called, resume}
use Rattle.algol_paths.specs.Blocks.{BlockIsSeen, IsSeenAround, IsInner}
use Rattle.algol_paths.specs.Texts.{InItems, InDeclared, InRest}
use Rattle.algol_paths.specs.Arrays.{DeclaredArray, arrays_in, arrays_to_come, to_make, left_to_make, Made, an_array, made_in, to_come, all_to_make, all_left_to_make, arrays_among}
use Rattle.algol_paths.specs.Laws.{ArraysAreMadeInOrder, AllIsMadeInOrder}

abbrev MakesNone : Rest → Type 0
MakesNone r = all_to_make r ≡ []

either_none : (b : Bool) (x y : Rest) → MakesNone x → MakesNone y → MakesNone (if b then x else y)
either_none true x y m n = m
either_none false x y m n = n

-- ---- one lemma for each form that settling and resuming share

assigned_none : (p : Place) (x : Half) (k : List Item) → MakesNone (assigned_of p x k)
assigned_none p (val v) k = refl
assigned_none p (busy h) k = refl

aimed_none : (x : HalfPlace) (e : PExpr) (s : Half) (k : List Item) → MakesNone (aimed_at x e s k)
aimed_none (at p) e s k = assigned_none p s k
aimed_none (aims x) e s k = refl

chosen_none : (x : Half) (a b : PStmt) (k : List Item) (r s : Rest) → MakesNone r → MakesNone s → MakesNone (chosen_of x a b k r s)
chosen_none (val v) a b k r s m n = either_none (truth_of v) r s m n
chosen_none (busy h) a b k r s m n = refl

looped_none : (x : Half) (c : PExpr) (b : PStmt) (k : List Item) (body r : Rest) → MakesNone body → MakesNone r → MakesNone (looped_of x c b k body r)
looped_none (val v) c b k body r m n = either_none (truth_of v) body r m n
looped_none (busy h) c b k body r m n = refl

checked_none : (x : Half) (b : PStmt) (c : PExpr) (k : List Item) (r : Rest) → MakesNone r → MakesNone (checked_of x b c k r)
checked_none (val v) b c k r n = either_none (truth_of v) r (turning (run_and (tree.until b c) k)) n refl
checked_none (busy h) b c k r n = refl

repeated_none : (n : ℤ) (body : ℤ → Rest) (r : Rest) → ((z : ℤ) → MakesNone (body z)) → MakesNone r → MakesNone (repeated_of n body r)
repeated_none n body r m i = either_none (int_lt (pos 0) n) (body n) r (m n) i

counted_none : (x : Half) (b : PStmt) (k : List Item) (body : ℤ → Rest) (r : Rest) → ((z : ℤ) → MakesNone (body z)) → MakesNone r → MakesNone (counted_of x b k body r)
counted_none (val v) b k body r m n = repeated_none (whole_of v) body r m n
counted_none (busy h) b k body r m n = refl

selected_none : (x : Half) (ss : PStmts) (k : List Item) → MakesNone (selected_of x ss k)
selected_none (val v) ss k = refl
selected_none (busy h) ss k = refl

called_none : (n : Named) (x : HalfGiven) (k : List Item) → MakesNone (statement_called_of n x k)
called_none n (given gs) k = refl
called_none n (wants x) k = refl

prepared_none : (n : Named) (x : HalfGiven) (task : Option Named) (k : List Item) → MakesNone (prepared_of n x task k)
prepared_none n (given gs) task k = refl
prepared_none n (wants x) task k = refl

item_none : (phrases : List PhraseText) (vs : List Value) (x : Half) (es : PExprs) (k : List Item) (go_on : List Value → Rest) → ((ws : List Value) → MakesNone (go_on ws)) →
    MakesNone (item_of phrases vs x es k go_on)
item_none phrases vs (val v) es k go_on g = g (vs ++ v ∷ [])
item_none phrases vs (busy h) es k go_on g = refl

evaluated_none : (x : Half) → MakesNone (evaluated_of x)
evaluated_none (val v) = refl
evaluated_none (busy h) = refl

located_none : (x : HalfPlace) → MakesNone (located_of x)
located_none (at p) = refl
located_none (aims x) = refl

-- a bound that has no value is before the same arrays
bound_makes : (kind : Kind) (ns : List Named) (pairs : List PPair) (vs : List Value) (x : Half) (ps : List PPair) (k : List Item) (go_on : List Value → Rest) →
    ((ws : List Value) → all_to_make (go_on ws) ≡ made_in kind ns pairs ++ to_come k) →
    all_to_make (bound_of kind ns pairs vs x ps k go_on) ≡ made_in kind ns pairs ++ to_come k
bound_makes kind ns pairs vs (val v) ps k go_on g = g (vs ++ v ∷ [])
bound_makes kind ns pairs vs (busy h) ps k go_on g = refl

module _ (sc : Scopes) where
  line_none : (es : PExprs) (phrases : List PhraseText) (k : List Item) (vs : List Value) → MakesNone (settle_line sc es phrases k vs)
  line_none tree.none phrases k vs = refl
  line_none (tree.more e es) phrases k vs = item_none phrases vs (settle sc e) es k (settle_line sc es phrases k) (λ ws. line_none es phrases k ws)

  bounds_make : (ps : List PPair) (kind : Kind) (ns : List Named) (pairs : List PPair) (k : List Item) (vs : List Value) →
      all_to_make (settle_bounds sc ps kind ns pairs k vs) ≡ made_in kind ns pairs ++ to_come k
  bounds_make [] kind ns pairs k vs = refl
  bounds_make (p ∷ ps) kind ns pairs k vs =
      bound_makes kind ns pairs vs (settle sc p.high) ps k (settle_bounds sc ps kind ns pairs k) (λ ws. bounds_make ps kind ns pairs k ws)

  -- a statement makes none where what comes after it makes none
  mutual
    stmt_none : (s : PStmt) (k : List Item) (r : Rest) → MakesNone r → MakesNone (settle_stmt sc s k r)
    stmt_none tree.empty k r n = n
    stmt_none (tree.label name s) k r n = stmt_none s k r n
    stmt_none (tree.assign v e) k r n = aimed_none (settle_place sc v) e (settle sc e) k
    stmt_none (tree.call_of (tree.called m es)) k r n = called_none m (settle_actuals sc es (sorts_of (callee sc m).parameters) []) k
    stmt_none (tree.go_to m) k r n = refl
    stmt_none (tree.block (tree.body spot tree.no_decls ss)) k r n = stmts_none ss k r n
    stmt_none (tree.block (tree.body spot (tree.decls d ds) ss)) k r n = refl
    stmt_none (tree.if_then c x) k r n = chosen_none (settle sc c) x tree.empty k (settle_stmt sc x k r) r (stmt_none x k r n) n
    stmt_none (tree.if_else c x y) k r n =
        chosen_none (settle sc c) x y k (settle_stmt sc x k r) (settle_stmt sc y k r) (stmt_none x k r n) (stmt_none y k r n)
    stmt_none (tree.while c b) k r n =
        let next = turning (run_and (tree.while c b) k) in
        looped_none (settle sc c) c b k (settle_stmt sc b (turn_and (tree.while c b) k) next) r (stmt_none b (turn_and (tree.while c b) k) next refl) n
    stmt_none (tree.until b c) k r n =
        stmt_none b (check b c ∷ k) (checked_of (settle sc c) b c k r) (checked_none (settle sc c) b c k r n)
    stmt_none (tree.for v a s l b) k r n =
        aimed_none (settle_place sc (tree.subscripted v tree.none)) a (settle sc a) (test (record { control = v; step = s; last = l; body = b }) ∷ k)
    stmt_none (tree.thru e b) k r n =
        counted_none (settle sc e) b k (counted_body sc b k) r (λ z. stmt_none b (turn ∷ after_count z b k) (turning (after_count z b k)) refl) n
    stmt_none (tree.case e ss) k r n = selected_none (settle sc e) ss k
    stmt_none (tree.process (tree.called m es) task) k r n =
        prepared_none m (settle_actuals sc es (sorts_of (callee sc m).parameters) []) task k
    stmt_none (tree.event act e) k r n = refl
    stmt_none (tree.write m spot phrases es) k r n = line_none es phrases k []

    stmts_none : (ss : PStmts) (k : List Item) (r : Rest) → MakesNone r → MakesNone (settle_stmts sc ss k r)
    stmts_none tree.no_stmts k r n = n
    stmts_none (tree.stmts s ss) k r n = stmt_none s (items ss k) (settle_stmts sc ss k r) (stmts_none ss k r n)

  counted_body_none : (b : PStmt) (k : List Item) (z : ℤ) → MakesNone (counted_body sc b k z)
  counted_body_none b k z = stmt_none b (turn ∷ after_count z b k) (turning (after_count z b k)) refl

  again_none : (loop : Loop) (k : List Item) → MakesNone (again sc loop k)
  again_none loop k =
      stmt_none loop.body (run (stepped loop) ∷ turn ∷ test loop ∷ k) (settle_stmt sc (stepped loop) (turn ∷ test loop ∷ k) (turning (test loop ∷ k)))
      (stmt_none (stepped loop) (turn ∷ test loop ∷ k) (turning (test loop ∷ k)) refl)

  tested_none : (d : Value) (x : Half) (loop : Loop) (k : List Item) (r : Rest) → MakesNone r → MakesNone (tested_of sc d x loop k r)
  tested_none d (val v) loop k r n = either_none (is_past (whole_of d) (whole_of v)) r (again sc loop k) n (again_none loop k)
  tested_none d (busy h) loop k r n = refl

  differed_none : (x : Half) (loop : Loop) (k : List Item) (r : Rest) → MakesNone r → MakesNone (differed_of sc x loop k r)
  differed_none (val v) loop k r n = tested_none v (settle sc loop.step) loop k r n
  differed_none (busy h) loop k r n = refl

  module _ (P : Named → Type 0) (Q : PBody → Type 0) where
    -- ---- items among which is nothing to make

    none_to_come : (k : List Item) → InItems P Q k → to_come k ≡ []
    none_to_come [] i = refl
    none_to_come (make_arrays kind ns ps ∷ k) i = absurd i.0
    none_to_come (make_event n ∷ k) i = absurd i.0
    none_to_come (item ∷ k) i = none_to_come k i.1

    pub items_none : (k : List Item) → InItems P Q k → MakesNone (settle_items sc k)
    items_none [] i = refl
    items_none (run s ∷ k) i = stmt_none s k (settle_items sc k) (items_none k i.1)
    items_none (turn ∷ k) i = refl
    items_none (count n b ∷ k) i = repeated_none n (counted_body sc b k) (settle_items sc k) (counted_body_none b k) (items_none k i.1)
    items_none (check b c ∷ k) i = checked_none (settle sc c) b c k (settle_items sc k) (items_none k i.1)
    items_none (test loop ∷ k) i = differed_none (settle sc (difference_in loop)) loop k (settle_items sc k) (items_none k i.1)
    items_none (result name ∷ k) i = refl
    items_none (make_arrays kind ns ps ∷ k) i = absurd i.0
    items_none (make_event n ∷ k) i = absurd i.0

    inside_none : (a : Answer) (k : List Item) → InItems P Q k → MakesNone (inside_or_after sc a k)
    inside_none entered k i = refl
    inside_none _ k i = items_none k i

    entered_none : (typed : Bool) (a : Answer) (k : List Item) → InItems P Q k → MakesNone (asks_called sc typed a k)
    entered_none true entered k i = refl
    entered_none false entered k i = refl
    entered_none typed _ k i = items_none k i

    module _ (R : Named → Type 0) where
      declared_make : (k : List Item) → InDeclared P Q R k → all_to_make (settle_items sc k) ≡ to_come k
      declared_make (make_arrays kind ns ps ∷ k) i = bounds_make ps kind ns ps k []
      declared_make (make_event n ∷ k) i = refl
      declared_make k i = items_none k i ∙ sym (none_to_come k i)

      -- ---- after an action

      resumed_makes : (r : Rest) (a : Answer) → InRest P Q R r → all_to_make (resume sc r a) ≡ all_left_to_make r
      resumed_makes over a i = refl
      resumed_makes (reading name) a i = evaluated_none (half_of a)
      resumed_makes (giving v) a i = refl
      resumed_makes (giving_place p) a i = refl
      resumed_makes (store p v k) a i = items_none k i.1
      resumed_makes (select v ss k) a i = stmt_none (nth_stmt ss (nat_abs (whole_of v))) k (settle_items sc k) (items_none k i.1)
      resumed_makes (turning k) a i = items_none k i
      resumed_makes (going n) a i = refl
      resumed_makes (entering_block (tree.body spot ds ss) k) a i = inside_none a k i.1
      resumed_makes (entering n gs k) a i = entered_none (is_typed sc n) a k i.2
      resumed_makes (starting n gs task k) a i = items_none k i.3
      resumed_makes (acting act n k) a i = items_none k i.1
      resumed_makes (line phrases vs k) a i = items_none k i
      resumed_makes (arrays kind ns pairs vs k) a i = declared_make k i
      resumed_makes (event n k) a i = declared_make k i
      resumed_makes (within k) a i = items_none k i
      resumed_makes (dropping k) a i = items_none k i
      resumed_makes (evaluating h) a i = evaluated_none (answer_put sc h a)
      resumed_makes (locating x) a i = located_none (put_place sc x a)
      resumed_makes (aiming x e k) a i = aimed_none (put_place sc x a) e (settle sc e) k
      resumed_makes (storing p h k) a i = assigned_none p (answer_put sc h a) k
      resumed_makes (choosing h x y k) a i =
          let n = items_none k i.3 in
          let r = settle_items sc k in
          chosen_none (answer_put sc h a) x y k (settle_stmt sc x k r) (settle_stmt sc y k r) (stmt_none x k r n) (stmt_none y k r n)
      resumed_makes (looping h c b k) a i =
          let next = turning (run_and (tree.while c b) k) in
          looped_none (answer_put sc h a) c b k (settle_stmt sc b (turn_and (tree.while c b) k) next) (settle_items sc k)
          (stmt_none b (turn_and (tree.while c b) k) next refl) (items_none k i.3)
      resumed_makes (checking h b c k) a i = checked_none (answer_put sc h a) b c k (settle_items sc k) (items_none k i.3)
      resumed_makes (counting h b k) a i =
          counted_none (answer_put sc h a) b k (counted_body sc b k) (settle_items sc k) (counted_body_none b k) (items_none k i.2)
      resumed_makes (differing h loop k) a i = differed_none (answer_put sc h a) loop k (settle_items sc k) (items_none k i.2)
      resumed_makes (stepping d h loop k) a i = tested_none d (answer_put sc h a) loop k (settle_items sc k) (items_none k i.2)
      resumed_makes (selecting h ss k) a i = selected_none (answer_put sc h a) ss k
      resumed_makes (calling n x k) a i = called_none n (put_actuals sc x a) k
      resumed_makes (preparing n x task k) a i = prepared_none n (put_actuals sc x a) task k
      resumed_makes (writing phrases vs h es k) a i =
          item_none phrases vs (answer_put sc h a) es k (settle_line sc es phrases k) (λ ws. line_none es phrases k ws)
      resumed_makes (bounding kind ns pairs vs h ps k) a i =
          bound_makes kind ns pairs vs (answer_put sc h a) ps k (settle_bounds sc ps kind ns pairs k) (λ ws. bounds_make ps kind ns pairs k ws)

-- ---- the arrays among what is made

only_arrays : (as' : List DeclaredArray) (ms : List Made) → arrays_among (map an_array as' ++ ms) ≡ as' ++ arrays_among ms
only_arrays [] ms = refl
only_arrays (a ∷ as') ms = ap (λ xs. a ∷ xs) (only_arrays as' ms)

arrays_come : (k : List Item) → arrays_among (to_come k) ≡ arrays_to_come k
arrays_come [] = refl
arrays_come (make_arrays kind ns ps ∷ k) = only_arrays (arrays_in kind ns ps) (to_come k) ∙ ap (λ xs. arrays_in kind ns ps ++ xs) (arrays_come k)
arrays_come (make_event n ∷ k) = arrays_come k
arrays_come (run s ∷ k) = arrays_come k
arrays_come (turn ∷ k) = arrays_come k
arrays_come (count n b ∷ k) = arrays_come k
arrays_come (check b c ∷ k) = arrays_come k
arrays_come (test loop ∷ k) = arrays_come k
arrays_come (result name ∷ k) = arrays_come k

both_come : (kind : Kind) (ns : List Named) (ps : List PPair) (k : List Item) → arrays_among (made_in kind ns ps ++ to_come k) ≡ arrays_in kind ns ps ++ arrays_to_come k
both_come kind ns ps k = only_arrays (arrays_in kind ns ps) (to_come k) ∙ ap (λ xs. arrays_in kind ns ps ++ xs) (arrays_come k)

arrays_made : (r : Rest) → arrays_among (all_to_make r) ≡ to_make r
arrays_made (bounding kind ns pairs vs h ps k) = both_come kind ns pairs k
arrays_made (arrays kind ns pairs vs k) = both_come kind ns pairs k
arrays_made (event n k) = arrays_come k
arrays_made _ = refl

arrays_left : (r : Rest) → arrays_among (all_left_to_make r) ≡ left_to_make r
arrays_left (bounding kind ns pairs vs h ps k) = both_come kind ns pairs k
arrays_left (arrays kind ns pairs vs k) = arrays_come k
arrays_left (event n k) = arrays_come k
arrays_left _ = refl

-- ---- the laws

pub all_is_made_in_order : AllIsMadeInOrder
all_is_made_in_order = record {
  settled = λ sc j k i. declared_make sc (BlockIsSeen sc j) (IsInner sc j) (IsSeenAround sc j) k i;
  resumed = λ sc j r a i. resumed_makes sc (BlockIsSeen sc j) (IsInner sc j) (IsSeenAround sc j) r a i;
}

pub arrays_are_made_in_order : ArraysAreMadeInOrder
arrays_are_made_in_order = record {
  settled = λ sc j k i. sym (arrays_made (settle_items sc k)) ∙ (ap arrays_among (all_is_made_in_order.settled sc j k i) ∙ arrays_come k);
  resumed = λ sc j r a i. sym (arrays_made (resume sc r a)) ∙ (ap arrays_among (all_is_made_in_order.resumed sc j r a i) ∙ arrays_left r);
}
