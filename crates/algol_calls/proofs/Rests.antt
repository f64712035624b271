-- What a part has still to do fits, whatever its head has answered that fits; and what the head asks for.
use Rattle.std.proofs.Common.{arith, ◌≡◌, ℕ, zero, suc, Bool, true, false, List, [], ◌∷◌, ◌++◌}
use Rattle.std.specs.Prelude.{if◌then◌else◌, nat_abs}
use Rattle.algol_tree.specs.declared.tree.Named.{Named}
use Rattle.algol_tree.specs.Plain as tree
use Rattle.algol_tree.specs.Plain.{PStmts, PDecls}
use Rattle.algol_tree.specs.Blocks.{Block}
use Rattle.algol_tree.specs.Sorts.{Sort, is_formal}
use Rattle.algol_tree.specs.Scopes.{Scopes}
use Rattle.algol_meaning.specs.Value.{whole_of}
use Rattle.algol_meaning.specs.Rest.{Given, Hole, read, element, index, tests, broken, enter, inside, subscript, argument, left, right, negated, inverted, condition, Actuals, pass, in_value, Half, val, busy, Aim, resolve, place_index, inside_place, place_subscript, HalfPlace, at, aims, Item, Rest, over, reading, giving, giving_place, store, select, turning, going, entering_block, entering, starting, acting, line, arrays, event, within, dropping, evaluating, locating, aiming, storing, choosing, looping, checking, counting, differing, stepping, selecting, calling, preparing, writing, bounding, Answer, entered}
use Rattle.algol_meaning.specs.Settle.{sort_at, is_typed, settle, half_of, answer_put, put_actuals, put_place}
use Rattle.algol_meaning.specs.Statements.{items, decls_items, ending, items_of, is_labelled, stmts_from, items_from, settle_line, settle_bounds, settle_stmt, run_and, turn_and, counted_body, settle_items}
use Rattle.algol_meaning.specs.Asks.{ask_hole, ask_actuals, ask_aim, ask, evaluated_of, located_of, nth_stmt, inside_or_after, asks_called, resume}
use Rattle.algol_calls.specs.Fits.{AreFew, NameIsTold, sorts_wanted, NextThen, PassFits, GivenThen, HoleFits, ActualsLeft, AimFits, CalledStmtFits, CalledStmtsFit, ItemsFit, RestFits, AskFits, AnswerFits}
use Rattle.algol_calls.specs.Laws.{CallsFit}
use Rattle.algol_calls.proofs.Expressions.{HalfFits, HalfPlaceFits, half_fits, settle_fits, put_fits, put_actuals_fit, put_place_fits}
use Rattle.algol_calls.proofs.Statements.{assigned_fits, aimed_fits, chosen_fits, looped_fits, checked_fits, counted_fits, selected_fits, called_fits, prepared_fits, item_fits, bound_fits, line_fits, bounds_fit, stmt_fits, counted_body_fits, tested_fits, differed_fits, settled_fits}

module _ (sc : Scopes) where
  pub evaluated_fits : (x : Half) → HalfFits sc x → RestFits sc (evaluated_of x)
  evaluated_fits (val v) i = tt
  evaluated_fits (busy h) i = i

  pub located_fits : (x : HalfPlace) → HalfPlaceFits sc x → RestFits sc (located_of x)
  located_fits (at p) i = i
  located_fits (aims x) i = i

  nth_fits : (ss : PStmts) (n : ℕ) → CalledStmtsFit sc ss → CalledStmtFits sc (nth_stmt ss n)
  nth_fits tree.no_stmts n i = tt
  nth_fits (tree.stmts s ss) zero i = i.0
  nth_fits (tree.stmts s ss) (suc n) i = nth_fits ss n i.1

  inside_fits : (a : Answer) (k : List Item) → ItemsFit sc k → RestFits sc (inside_or_after sc a k)
  inside_fits entered k j = j
  inside_fits _ k j = settled_fits sc k j

  entered_fits : (typed : Bool) (a : Answer) (k : List Item) → ItemsFit sc k → RestFits sc (asks_called sc typed a k)
  entered_fits true entered k j = j
  entered_fits false entered k j = j
  entered_fits typed _ k j = settled_fits sc k j

  pub resumed_fits : (r : Rest) (a : Answer) → RestFits sc r → AnswerFits sc (ask r) a → RestFits sc (resume sc r a)
  resumed_fits over a i f = tt
  resumed_fits (reading name) a i f = evaluated_fits (half_of a) (half_fits sc a)
  resumed_fits (giving v) a i f = tt
  resumed_fits (giving_place p) a i f = i
  resumed_fits (store p v k) a i f = settled_fits sc k i.1
  resumed_fits (select v ss k) a i f =
      stmt_fits sc (nth_stmt ss (nat_abs (whole_of v))) k (settle_items sc k) (nth_fits ss (nat_abs (whole_of v)) i.0) i.1 (settled_fits sc k i.1)
  resumed_fits (turning k) a i f = settled_fits sc k i
  resumed_fits (going n) a i f = i
  resumed_fits (entering_block b k) a i f = inside_fits a k i
  resumed_fits (entering n gs k) a i f = entered_fits (is_typed sc n) a k i.2
  resumed_fits (starting n gs task k) a i f = settled_fits sc k i.3
  resumed_fits (acting act n k) a i f = settled_fits sc k i.1
  resumed_fits (line phrases vs k) a i f = settled_fits sc k i
  resumed_fits (arrays kind ns pairs vs k) a i f = settled_fits sc k i
  resumed_fits (event n k) a i f = settled_fits sc k i
  resumed_fits (within k) a i f = settled_fits sc k i
  resumed_fits (dropping k) a i f = settled_fits sc k i
  resumed_fits (evaluating h) a i f = evaluated_fits (answer_put sc h a) (put_fits sc h a i f)
  resumed_fits (locating x) a i f = located_fits (put_place sc x a) (put_place_fits sc x a i f)
  resumed_fits (aiming x e k) a i f = aimed_fits sc (put_place sc x a) e (settle sc e) k (put_place_fits sc x a i.0 f) i.1 (settle_fits sc e i.1) i.2
  resumed_fits (storing p h k) a i f = assigned_fits sc p (answer_put sc h a) k i.0 (put_fits sc h a i.1 f) i.2
  resumed_fits (choosing h x y k) a i f =
      let r = settle_items sc k in
      let s = settled_fits sc k i.3 in
      chosen_fits sc (answer_put sc h a) x y k (settle_stmt sc x k r) (settle_stmt sc y k r) (put_fits sc h a i.0 f) i.1 i.2 i.3 (stmt_fits sc x k r i.1 i.3 s) (stmt_fits sc y k r i.2 i.3 s)
  resumed_fits (looping h c b k) a i f =
      let next = turning (run_and (tree.while c b) k) in
      looped_fits sc (answer_put sc h a) c b k (settle_stmt sc b (turn_and (tree.while c b) k) next) (settle_items sc k) (put_fits sc h a i.0 f) i.1 i.2 i.3
      (stmt_fits sc b (turn_and (tree.while c b) k) next i.2 (tt, ((i.1, i.2), i.3)) ((i.1, i.2), i.3)) (settled_fits sc k i.3)
  resumed_fits (checking h b c k) a i f = checked_fits sc (answer_put sc h a) b c k (settle_items sc k) (put_fits sc h a i.0 f) i.1 i.2 i.3 (settled_fits sc k i.3)
  resumed_fits (counting h b k) a i f =
      counted_fits sc (answer_put sc h a) b k (counted_body sc b k) (settle_items sc k) (put_fits sc h a i.0 f) i.1 i.2 (counted_body_fits sc b k i.1 i.2) (settled_fits sc k i.2)
  resumed_fits (differing h loop k) a i f = differed_fits sc (answer_put sc h a) loop k (settle_items sc k) (put_fits sc h a i.0 f) i.1 i.2 (settled_fits sc k i.2)
  resumed_fits (stepping d h loop k) a i f = tested_fits sc d (answer_put sc h a) loop k (settle_items sc k) (put_fits sc h a i.0 f) i.1 i.2 (settled_fits sc k i.2)
  resumed_fits (selecting h ss k) a i f = selected_fits sc (answer_put sc h a) ss k (put_fits sc h a i.0 f) i.1 i.2
  resumed_fits (calling n x k) a i f = called_fits sc n (put_actuals sc x a) k i.0 (put_actuals_fit sc x a (sorts_wanted sc n) i.1 f) i.2
  resumed_fits (preparing n x task k) a i f = prepared_fits sc n (put_actuals sc x a) task k i.0 (put_actuals_fit sc x a (sorts_wanted sc n) i.1 f) i.2 i.3
  resumed_fits (writing phrases vs h es k) a i f =
      item_fits sc phrases vs (answer_put sc h a) es k (settle_line sc es phrases k) (put_fits sc h a i.0 f) i.1 i.2 (λ ws. line_fits sc es phrases k ws i.1 i.2)
  resumed_fits (bounding kind ns pairs vs h ps k) a i f =
      bound_fits sc kind ns pairs vs (answer_put sc h a) ps k (settle_bounds sc ps kind ns pairs k) (put_fits sc h a i.0 f) i.1 i.2
      (λ ws. bounds_fit sc ps kind ns pairs k ws i.1 i.2)

  -- ---- what the head asks for

  next_told : (gs : List Given) (all sorts : List Sort) (n : Named) → GivenThen sc (NextThen (PassFits sc n) sorts) gs all → NameIsTold sc n × (is_formal (sort_at sc n) ≡ true)
  next_told [] [] sorts n i = absurd i
  next_told [] (s ∷ all) sorts n i = ((i.0).told, (i.0).formal)
  next_told (g ∷ gs) [] sorts n i = absurd i
  next_told (g ∷ gs) (s ∷ all) sorts n i = next_told gs all sorts n i.1

  one_is_few : (n : Named) → AreFew (n ∷ [])
  one_is_few n = (omega (arith), omega (arith))

  mutual
    hole_asks : (h : Hole) → HoleFits sc h → AskFits sc (ask_hole h)
    hole_asks (read n) i = i
    hole_asks (element n ks v) i = i
    hole_asks (index n ks v e es) i = i.0
    hole_asks (tests test ns) i = i
    hole_asks (broken op v w fault) i = tt
    hole_asks (enter n gs) i = i
    hole_asks inside i = tt
    hole_asks (subscript n ks h es) i = hole_asks h i.1
    hole_asks (argument n x) i = actuals_ask (sorts_wanted sc n) x i.1
    hole_asks (left op h b) i = hole_asks h i.0
    hole_asks (right op v h) i = hole_asks h i
    hole_asks (negated h) i = hole_asks h i
    hole_asks (inverted h) i = hole_asks h i
    hole_asks (condition h x y) i = hole_asks h i.0

    actuals_ask : (all : List Sort) (x : Actuals) → ActualsLeft sc x all → AskFits sc (ask_actuals x)
    actuals_ask all (pass gs n sorts es) i = next_told gs all sorts n i.0
    actuals_ask all (in_value gs h sorts es) i = hole_asks h i.1

  aim_asks : (x : Aim) → AimFits sc x → AskFits sc (ask_aim x)
  aim_asks (resolve n) i = i
  aim_asks (place_index n ks v es) i = i.0
  aim_asks inside_place i = tt
  aim_asks (place_subscript n ks h es) i = hole_asks h i.1

  pub rest_asks : (r : Rest) → RestFits sc r → AskFits sc (ask r)
  rest_asks over i = tt
  rest_asks (reading name) i = tt
  rest_asks (giving v) i = tt
  rest_asks (giving_place p) i = i
  rest_asks (store p v k) i = i.0
  rest_asks (select v ss k) i = tt
  rest_asks (turning k) i = tt
  rest_asks (going n) i = i
  rest_asks (entering_block b k) i = tt
  rest_asks (entering n gs k) i = (i.0, i.1)
  rest_asks (starting n gs task k) i = (i.0, i.1, i.2)
  rest_asks (acting act n k) i = ((i.0, tt), one_is_few n)
  rest_asks (line phrases vs k) i = tt
  rest_asks (arrays kind ns pairs vs k) i = tt
  rest_asks (event n k) i = tt
  rest_asks (within k) i = tt
  rest_asks (dropping k) i = tt
  rest_asks (evaluating h) i = hole_asks h i
  rest_asks (locating x) i = aim_asks x i
  rest_asks (aiming x e k) i = aim_asks x i.0
  rest_asks (storing p h k) i = hole_asks h i.1
  rest_asks (choosing h x y k) i = hole_asks h i.0
  rest_asks (looping h c b k) i = hole_asks h i.0
  rest_asks (checking h b c k) i = hole_asks h i.0
  rest_asks (counting h b k) i = hole_asks h i.0
  rest_asks (differing h loop k) i = hole_asks h i.0
  rest_asks (stepping d h loop k) i = hole_asks h i.0
  rest_asks (selecting h ss k) i = hole_asks h i.0
  rest_asks (calling n x k) i = actuals_ask (sorts_wanted sc n) x i.1
  rest_asks (preparing n x task k) i = actuals_ask (sorts_wanted sc n) x i.1
  rest_asks (writing phrases vs h es k) i = hole_asks h i.0
  rest_asks (bounding kind ns pairs vs h ps k) i = hole_asks h i.0

  -- ---- from a label on

  from_label : (ss : PStmts) (name : List ℕ) (k : List Item) → ItemsFit sc (items ss k) → ItemsFit sc (items (stmts_from ss name) k)
  from_label tree.no_stmts name k i = i
  from_label (tree.stmts s ss) name k i = by (is_labelled s name) (from_label ss name k i.1)
    where
      by : (b : Bool) → ItemsFit sc (items (stmts_from ss name) k) → ItemsFit sc (items (if b then tree.stmts s ss else stmts_from ss name) k)
      by true j = i
      by false j = j

  behind : (xs k : List Item) → ItemsFit sc (xs ++ k) → ItemsFit sc k
  behind [] k i = i
  behind (x ∷ xs) k i = behind xs k i.1

  pub labelled_fits : (b : Block) (name : List ℕ) → ItemsFit sc (items_of b) → ItemsFit sc (items_from b name)
  labelled_fits b name i = from_label b.stmts name (ending b) (behind (decls_items b.decls) (items b.stmts (ending b)) i)

pub calls_fit : CallsFit
calls_fit = record {
  settled = λ sc k i. settled_fits sc k i;
  resumed = λ sc r a i f. resumed_fits sc r a i f;
  labelled = λ sc b name i. labelled_fits sc b name i;
  asked = λ sc r i. rest_asks sc r i;
}
