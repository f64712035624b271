-- Once a part inside is open, the part around it asks for nothing.
use Rattle.std.proofs.Common.{◌≡◌, ℕ, Bool, true, false, List, refl}
use Rattle.std.specs.Prelude.{ℤ, Option}
use Rattle.algol_tree.specs.declared.tree.Op.{Op}
use Rattle.algol_tree.specs.declared.tree.Kind.{Kind}
use Rattle.algol_tree.specs.declared.tree.Named.{Named}
use Rattle.algol_tree.specs.declared.tree.PhraseText.{PhraseText}
use Rattle.algol_tree.specs.Plain as tree
use Rattle.algol_tree.specs.Plain.{PExpr, PExprs, PPair, PStmt, PStmts}
use Rattle.algol_tree.specs.Sorts.{Sort}
use Rattle.algol_tree.specs.Scopes.{Scopes}
use Rattle.algol_meaning.specs.Value.{Value}
use Rattle.algol_meaning.specs.Rest as rests
use Rattle.algol_meaning.specs.Rest.{Place, Given, Hole, Actuals, Half, val, busy, HalfGiven, given, wants, Aim, HalfPlace, at, aims, Loop, Item, Rest, entered}
use Rattle.algol_meaning.specs.Settle.{is_typed, subscripted_of, called_of, valued_of, left_of, right_of, condition_of, negated_of, inverted_of, aimed_of, settle, settle_actuals, answer_put, put_actuals, put_place}
use Rattle.algol_meaning.specs.Statements.{assigned_of, aimed_at, chosen_of, looped_of, checked_of, counted_of, counted_body, selected_of, statement_called_of, prepared_of, item_of, bound_of, tested_of, differed_of, settle_line, settle_bounds, settle_stmt, run_and, turn_and, settle_items}
use Rattle.algol_meaning.specs.Asks as asks
use Rattle.algol_meaning.specs.Asks.{Ask, nothing, ask_hole, ask_actuals, ask_aim, ask, resume, asks_called, evaluated_of, located_of}

-- it is answered by a part inside, or it may be
abbrev pub Opens : Ask → Type 0
Opens (asks.reads n) = Unit {0}
Opens (asks.resolves n) = Unit {0}
Opens (asks.enters n gs) = Unit {0}
Opens (asks.enters_block b) = Unit {0}
Opens _ = ⊥

abbrev AsksNothing : Half → Type 0
AsksNothing (val v) = ⊥
AsksNothing (busy h) = ask_hole h ≡ nothing

abbrev GivenAsksNothing : HalfGiven → Type 0
GivenAsksNothing (given gs) = ⊥
GivenAsksNothing (wants x) = ask_actuals x ≡ nothing

abbrev PlaceAsksNothing : HalfPlace → Type 0
PlaceAsksNothing (at p) = ⊥
PlaceAsksNothing (aims x) = ask_aim x ≡ nothing

subscripted_waits : (n : Named) (ks : List ℕ) (x : Half) (es : PExprs) → AsksNothing x → AsksNothing (subscripted_of n ks x es)
subscripted_waits n ks (busy h) es e = e
subscripted_waits n ks (val v) es e = absurd e

called_waits : (n : Named) (x : HalfGiven) → GivenAsksNothing x → AsksNothing (called_of n x)
called_waits n (wants x) e = e
called_waits n (given gs) e = absurd e

left_waits : (op : Op) (x : Half) (b : PExpr) (s : Half) → AsksNothing x → AsksNothing (left_of op x b s)
left_waits op (busy h) b s e = e
left_waits op (val v) b s e = absurd e

right_waits : (op : Op) (v : Value) (x : Half) → AsksNothing x → AsksNothing (right_of op v x)
right_waits op v (busy h) e = e
right_waits op v (val w) e = absurd e

negated_waits : (x : Half) → AsksNothing x → AsksNothing (negated_of x)
negated_waits (busy h) e = e
negated_waits (val v) e = absurd e

inverted_waits : (x : Half) → AsksNothing x → AsksNothing (inverted_of x)
inverted_waits (busy h) e = e
inverted_waits (val v) e = absurd e

condition_waits : (x : Half) (a b : PExpr) (s t : Half) → AsksNothing x → AsksNothing (condition_of x a b s t)
condition_waits (busy h) a b s t e = e
condition_waits (val v) a b s t e = absurd e

valued_waits : (gs : List Given) (x : Half) (sorts : List Sort) (es : PExprs) (go_on : List Given → HalfGiven) → AsksNothing x → GivenAsksNothing (valued_of gs x sorts es go_on)
valued_waits gs (busy h) sorts es go_on e = e
valued_waits gs (val v) sorts es go_on e = absurd e

aimed_waits : (n : Named) (ks : List ℕ) (x : Half) (es : PExprs) → AsksNothing x → PlaceAsksNothing (aimed_of n ks x es)
aimed_waits n ks (busy h) es e = e
aimed_waits n ks (val v) es e = absurd e

module _ (sc : Scopes) where
  mutual
    put_waits : (h : Hole) → Opens (ask_hole h) → AsksNothing (answer_put sc h entered)
    put_waits (rests.read n) e = refl
    put_waits (rests.element n ks i) e = absurd e
    put_waits (rests.index n ks i x es) e = absurd e
    put_waits (rests.tests x ns) e = absurd e
    put_waits (rests.broken op v w f) e = absurd e
    put_waits (rests.enter n gs) e = refl
    put_waits rests.inside e = absurd e
    put_waits (rests.subscript n ks h es) e = subscripted_waits n ks (answer_put sc h entered) es (put_waits h e)
    put_waits (rests.argument n x) e = called_waits n (put_actuals sc x entered) (put_actuals_wait x e)
    put_waits (rests.left op h b) e = left_waits op (answer_put sc h entered) b (settle sc b) (put_waits h e)
    put_waits (rests.right op v h) e = right_waits op v (answer_put sc h entered) (put_waits h e)
    put_waits (rests.negated h) e = negated_waits (answer_put sc h entered) (put_waits h e)
    put_waits (rests.inverted h) e = inverted_waits (answer_put sc h entered) (put_waits h e)
    put_waits (rests.condition h x y) e = condition_waits (answer_put sc h entered) x y (settle sc x) (settle sc y) (put_waits h e)

    put_actuals_wait : (x : Actuals) → Opens (ask_actuals x) → GivenAsksNothing (put_actuals sc x entered)
    put_actuals_wait (rests.pass gs n sorts es) e = absurd e
    put_actuals_wait (rests.in_value gs h sorts es) e = valued_waits gs (answer_put sc h entered) sorts es (settle_actuals sc es sorts) (put_waits h e)

  put_place_waits : (x : Aim) → Opens (ask_aim x) → PlaceAsksNothing (put_place sc x entered)
  put_place_waits (rests.resolve n) e = refl
  put_place_waits (rests.place_index n ks i es) e = absurd e
  put_place_waits rests.inside_place e = absurd e
  put_place_waits (rests.place_subscript n ks h es) e = aimed_waits n ks (answer_put sc h entered) es (put_waits h e)

  -- ---- one lemma for each form

  abbrev Waits : Rest → Type 0
  Waits r = ask r ≡ nothing

  in_evaluated : (x : Half) → AsksNothing x → Waits (evaluated_of x)
  in_evaluated (busy h) e = e
  in_evaluated (val v) e = absurd e

  in_located : (x : HalfPlace) → PlaceAsksNothing x → Waits (located_of x)
  in_located (aims x) e = e
  in_located (at p) e = absurd e

  in_aimed : (x : HalfPlace) (b : PExpr) (s : Half) (k : List Item) → PlaceAsksNothing x → Waits (aimed_at x b s k)
  in_aimed (aims x) b s k e = e
  in_aimed (at p) b s k e = absurd e

  in_assigned : (p : Place) (x : Half) (k : List Item) → AsksNothing x → Waits (assigned_of p x k)
  in_assigned p (busy h) k e = e
  in_assigned p (val v) k e = absurd e

  in_chosen : (x : Half) (a b : PStmt) (k : List Item) (s t : Rest) → AsksNothing x → Waits (chosen_of x a b k s t)
  in_chosen (busy h) a b k s t e = e
  in_chosen (val v) a b k s t e = absurd e

  in_looped : (x : Half) (c : PExpr) (b : PStmt) (k : List Item) (s t : Rest) → AsksNothing x → Waits (looped_of x c b k s t)
  in_looped (busy h) c b k s t e = e
  in_looped (val v) c b k s t e = absurd e

  in_checked : (x : Half) (b : PStmt) (c : PExpr) (k : List Item) (s : Rest) → AsksNothing x → Waits (checked_of x b c k s)
  in_checked (busy h) b c k s e = e
  in_checked (val v) b c k s e = absurd e

  in_counted : (x : Half) (b : PStmt) (k : List Item) (s : ℤ → Rest) (t : Rest) → AsksNothing x → Waits (counted_of x b k s t)
  in_counted (busy h) b k s t e = e
  in_counted (val v) b k s t e = absurd e

  in_differed : (x : Half) (loop : Loop) (k : List Item) (s : Rest) → AsksNothing x → Waits (differed_of sc x loop k s)
  in_differed (busy h) loop k s e = e
  in_differed (val v) loop k s e = absurd e

  in_tested : (d : Value) (x : Half) (loop : Loop) (k : List Item) (s : Rest) → AsksNothing x → Waits (tested_of sc d x loop k s)
  in_tested d (busy h) loop k s e = e
  in_tested d (val v) loop k s e = absurd e

  in_selected : (x : Half) (ss : PStmts) (k : List Item) → AsksNothing x → Waits (selected_of x ss k)
  in_selected (busy h) ss k e = e
  in_selected (val v) ss k e = absurd e

  in_called : (n : Named) (x : HalfGiven) (k : List Item) → GivenAsksNothing x → Waits (statement_called_of n x k)
  in_called n (wants x) k e = e
  in_called n (given gs) k e = absurd e

  in_prepared : (n : Named) (x : HalfGiven) (t : Option Named) (k : List Item) → GivenAsksNothing x → Waits (prepared_of n x t k)
  in_prepared n (wants x) t k e = e
  in_prepared n (given gs) t k e = absurd e

  in_item : (ps : List PhraseText) (vs : List Value) (x : Half) (es : PExprs) (k : List Item) (go_on : List Value → Rest) → AsksNothing x → Waits (item_of ps vs x es k go_on)
  in_item ps vs (busy h) es k go_on e = e
  in_item ps vs (val v) es k go_on e = absurd e

  in_bound : (kind : Kind) (ns : List Named) (pairs : List PPair) (vs : List Value) (x : Half) (ps : List PPair) (k : List Item) (go_on : List Value → Rest) → AsksNothing x →
      Waits (bound_of kind ns pairs vs x ps k go_on)
  in_bound kind ns pairs vs (busy h) ps k go_on e = e
  in_bound kind ns pairs vs (val v) ps k go_on e = absurd e

  in_call : (typed : Bool) (k : List Item) → Waits (asks_called sc typed entered k)
  in_call true k = refl
  in_call false k = refl

  pub opened_waits : (r : Rest) → Opens (ask r) → ask (resume sc r entered) ≡ nothing
  opened_waits (rests.entering_block b k) e = refl
  opened_waits (rests.entering n gs k) e = in_call (is_typed sc n) k
  opened_waits (rests.evaluating h) e = in_evaluated (answer_put sc h entered) (put_waits h e)
  opened_waits (rests.locating x) e = in_located (put_place sc x entered) (put_place_waits x e)
  opened_waits (rests.aiming x b k) e = in_aimed (put_place sc x entered) b (settle sc b) k (put_place_waits x e)
  opened_waits (rests.storing p h k) e = in_assigned p (answer_put sc h entered) k (put_waits h e)
  opened_waits (rests.choosing h x y k) e = in_chosen (answer_put sc h entered) x y k (settle_stmt sc x k (settle_items sc k)) (settle_stmt sc y k (settle_items sc k)) (put_waits h e)
  opened_waits (rests.looping h c b k) e =
      in_looped (answer_put sc h entered) c b k (settle_stmt sc b (turn_and (tree.while c b) k) (rests.turning (run_and (tree.while c b) k))) (settle_items sc k) (put_waits h e)
  opened_waits (rests.checking h b c k) e = in_checked (answer_put sc h entered) b c k (settle_items sc k) (put_waits h e)
  opened_waits (rests.counting h b k) e = in_counted (answer_put sc h entered) b k (counted_body sc b k) (settle_items sc k) (put_waits h e)
  opened_waits (rests.differing h loop k) e = in_differed (answer_put sc h entered) loop k (settle_items sc k) (put_waits h e)
  opened_waits (rests.stepping d h loop k) e = in_tested d (answer_put sc h entered) loop k (settle_items sc k) (put_waits h e)
  opened_waits (rests.selecting h ss k) e = in_selected (answer_put sc h entered) ss k (put_waits h e)
  opened_waits (rests.calling n x k) e = in_called n (put_actuals sc x entered) k (put_actuals_wait x e)
  opened_waits (rests.preparing n x t k) e = in_prepared n (put_actuals sc x entered) t k (put_actuals_wait x e)
  opened_waits (rests.writing ps vs h es k) e = in_item ps vs (answer_put sc h entered) es k (settle_line sc es ps k) (put_waits h e)
  opened_waits (rests.bounding kind ns pairs vs h ps k) e = in_bound kind ns pairs vs (answer_put sc h entered) ps k (settle_bounds sc ps kind ns pairs k) (put_waits h e)
  opened_waits _ e = absurd e
