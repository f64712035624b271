-- What a part holds once its head has an answer, it held before or the answer brings.
use Rattle.std.proofs.Common.{◌≡◌, ℕ, Bool, true, false, List, [], ◌∷◌, ◌++◌, Some, None}
use Rattle.std.specs.Prelude.{if◌then◌else◌, ℤ, pos, int_lt, nat_abs, Option, Result, Ok, Err}
use Rattle.algol_tree.specs.declared.tree.Op.{Op}
use Rattle.algol_tree.specs.declared.tree.Kind.{Kind}
use Rattle.algol_tree.specs.declared.tree.Named.{Named}
use Rattle.algol_tree.specs.declared.tree.PhraseText.{PhraseText}
use Rattle.algol_tree.specs.Plain as tree
use Rattle.algol_tree.specs.Plain.{PExpr, PVariable, PExprs, PPair, PStmt, PStmts, PBody, name_alone}
use Rattle.algol_tree.specs.Sorts.{Sort, is_formal, is_by_name, is_variable, procedure_in}
use Rattle.algol_tree.specs.Scopes.{Scopes}
use Rattle.b67_num.specs.declared.NumFault.{NumFault}
use Rattle.algol_meaning.specs.Value.{Value, number, whole_of, truth_of, Cell, simple}
use Rattle.algol_meaning.specs.Operators.{result_of}
use Rattle.algol_meaning.specs.Rest as rests
use Rattle.algol_meaning.specs.Rest.{Place, Given, valued, passed, refers, names, Hole, Actuals, Half, val, busy, HalfGiven, given, wants, Aim, HalfPlace, at, aims, Loop, Item, Rest, Answer, done, value, cell, place, entered, cell_of_answer, subscripts_of}
use Rattle.algol_meaning.specs.Settle.{after_result, right_of, left_of, negated_of, inverted_of, condition_of, named_of, subscripted_of, called_of, valued_of, alone_of, sorts_of, left_alone_of, aimed_of, half_of, half_place_of, callee, is_typed, sort_at, other_of, actual_of, first_actual_of, settle, settle_actuals, answer_put, put_actuals, settle_place, indexed_of, put_place}
use Rattle.algol_meaning.specs.Statements.{items, run_and, turn_and, assigned_of, aimed_at, chosen_of, looped_of, checked_of, repeated_of, counted_of, after_count, selected_of, statement_called_of, prepared_of, item_of, bound_of, begun_of, is_past, difference_in, stepped, settle_line, settle_bounds, settle_stmt, settle_stmts, settle_body, counted_body, again, tested_of, differed_of, settle_items}
use Rattle.algol_meaning.specs.Asks.{evaluated_of, located_of, nth_stmt, inside_or_after, asks_called, resume}
use Rattle.algol_standing.specs.Worlds.{held_in_place, held_in_givens, held_in_hole, held_in_actuals, held_in_aim, held_in_rest, held_in_answer, IsGivable, GivesNoOwn}

abbrev pub AreAll : (Cell → Type 0) → List Cell → Type 0
AreAll C [] = Unit {0}
AreAll C (c ∷ cells) = C c × AreAll C cells

pub all_both : (C : Cell → Type 0) (xs ys : List Cell) → AreAll C xs → AreAll C ys → AreAll C (xs ++ ys)
all_both C [] ys i j = j
all_both C (x ∷ xs) ys i j = (i.0, all_both C xs ys i.1 j)

pub all_front : (C : Cell → Type 0) (xs ys : List Cell) → AreAll C (xs ++ ys) → AreAll C xs
all_front C [] ys i = tt
all_front C (x ∷ xs) ys i = (i.0, all_front C xs ys i.1)

pub all_back : (C : Cell → Type 0) (xs ys : List Cell) → AreAll C (xs ++ ys) → AreAll C ys
all_back C [] ys i = i
all_back C (x ∷ xs) ys i = all_back C xs ys i.1

-- an answer gives no variable of the part itself
abbrev pub IsForeign : Answer → Type 0
IsForeign (place p) = IsGivable p
IsForeign _ = Unit {0}

module _ (C : Cell → Type 0) (plain : (v : Value) → C (simple v)) where
  abbrev pub HalfHolds : Half → Type 0
  HalfHolds (val v) = Unit {0}
  HalfHolds (busy h) = AreAll C (held_in_hole h)

  abbrev pub GivenHolds : HalfGiven → Type 0
  GivenHolds (given gs) = AreAll C (held_in_givens gs)
  GivenHolds (wants x) = AreAll C (held_in_actuals x)

  abbrev pub PlaceHolds : HalfPlace → Type 0
  PlaceHolds (at p) = AreAll C (held_in_place p)
  PlaceHolds (aims x) = AreAll C (held_in_aim x)

  -- ---- operators

  after_holds : (op : Op) (v w : Value) (r : Result Value NumFault) → HalfHolds (after_result op v w r)
  after_holds op v w (Ok x) = tt
  after_holds op v w (Err fault) = tt

  right_holds : (op : Op) (v : Value) (x : Half) → HalfHolds x → HalfHolds (right_of op v x)
  right_holds op v (val w) i = after_holds op v w (result_of op v w)
  right_holds op v (busy h) i = i

  left_holds : (op : Op) (x : Half) (b : PExpr) (s : Half) → HalfHolds x → HalfHolds s → HalfHolds (left_of op x b s)
  left_holds op (val v) b s i l = right_holds op v s l
  left_holds op (busy h) b s i l = i

  negated_holds : (x : Half) → HalfHolds x → HalfHolds (negated_of x)
  negated_holds (val v) i = tt
  negated_holds (busy h) i = i

  inverted_holds : (x : Half) → HalfHolds x → HalfHolds (inverted_of x)
  inverted_holds (val v) i = tt
  inverted_holds (busy h) i = i

  either_holds : (b : Bool) (s t : Half) → HalfHolds s → HalfHolds t → HalfHolds (if b then s else t)
  either_holds true s t i j = i
  either_holds false s t i j = j

  condition_holds : (x : Half) (a b : PExpr) (s t : Half) → HalfHolds x → HalfHolds s → HalfHolds t → HalfHolds (condition_of x a b s t)
  condition_holds (val v) a b s t i m n = either_holds (truth_of v) s t m n
  condition_holds (busy h) a b s t i m n = i

  -- ---- names, subscripts, calls

  named_holds : (o : Option ℕ) (n : Named) → HalfHolds (named_of o n)
  named_holds (Some block) n = tt
  named_holds None n = tt

  subscripted_holds : (n : Named) (ks : List ℕ) (x : Half) (es : PExprs) → HalfHolds x → HalfHolds (subscripted_of n ks x es)
  subscripted_holds n ks (busy h) es i = i
  subscripted_holds n ks (val v) tree.none i = tt
  subscripted_holds n ks (val v) (tree.more e es) i = tt

  called_holds : (n : Named) (x : HalfGiven) → GivenHolds x → HalfHolds (called_of n x)
  called_holds n (given gs) i = i
  called_holds n (wants x) i = i

  -- one more actual that is done
  and_given : (gs : List Given) (g : Given) → AreAll C (held_in_givens gs) → AreAll C (held_in_givens (g ∷ [])) → AreAll C (held_in_givens (gs ++ g ∷ []))
  and_given [] g i j = j
  and_given (refers n ∷ gs) g i j = and_given gs g i j
  and_given (names e ∷ gs) g i j = and_given gs g i j
  and_given (valued v ∷ gs) g i j = and_given gs g i j
  and_given (passed c ∷ gs) g i j = (i.0, and_given gs g i.1 j)

  -- so do the actuals after it
  abbrev GoesOn : (List Given → HalfGiven) → Type 0
  GoesOn go_on = (gs : List Given) → AreAll C (held_in_givens gs) → GivenHolds (go_on gs)

  valued_holds : (gs : List Given) (x : Half) (sorts : List Sort) (es : PExprs) (go_on : List Given → HalfGiven) → AreAll C (held_in_givens gs) → HalfHolds x → GoesOn go_on →
      GivenHolds (valued_of gs x sorts es go_on)
  valued_holds gs (val v) sorts es go_on i j g = g (gs ++ valued v ∷ []) (and_given gs (valued v) i tt)
  valued_holds gs (busy h) sorts es go_on i j g = all_both C (held_in_givens gs) (held_in_hole h) i j

  alone_holds : (o : Option ℕ) (formal : Bool) (gs : List Given) (n : Named) (sorts : List Sort) (es : PExprs) (go_on : List Given → HalfGiven) → AreAll C (held_in_givens gs) →
      GoesOn go_on → GivenHolds (alone_of o formal gs n sorts es go_on)
  alone_holds (Some block) formal gs n sorts es go_on i g =
      let alone = tree.variable (tree.subscripted n tree.none) in
      g (gs ++ names alone ∷ []) (and_given gs (names alone) i tt)
  alone_holds None true gs n sorts es go_on i g = i
  alone_holds None false gs n sorts es go_on i g = g (gs ++ refers n ∷ []) (and_given gs (refers n) i tt)

  -- ---- left sides

  left_alone_holds : (by_name : Bool) (n : Named) → PlaceHolds (left_alone_of by_name n)
  left_alone_holds true n = tt
  left_alone_holds false n = tt

  aimed_holds : (n : Named) (ks : List ℕ) (x : Half) (es : PExprs) → HalfHolds x → PlaceHolds (aimed_of n ks x es)
  aimed_holds n ks (busy h) es i = i
  aimed_holds n ks (val v) es i = tt

  -- ---- answers

  half_holds : (a : Answer) → HalfHolds (half_of a)
  half_holds (value v) = tt
  half_holds entered = tt
  half_holds _ = tt

  half_place_holds : (a : Answer) → AreAll C (held_in_answer a) → PlaceHolds (half_place_of a)
  half_place_holds (place p) i = i
  half_place_holds _ i = tt

  cell_holds : (a : Answer) → AreAll C (held_in_answer a) → C (cell_of_answer a (simple (number (pos 0))))
  cell_holds (cell c) i = i.0
  cell_holds done i = plain (number (pos 0))
  cell_holds (value v) i = plain (number (pos 0))
  cell_holds (place p) i = plain (number (pos 0))
  cell_holds entered i = plain (number (pos 0))

  module _ (sc : Scopes) where
    other_holds : (o : Option Named) (e : PExpr) (gs : List Given) (sorts : List Sort) (es : PExprs) (go_on : List Given → HalfGiven) → AreAll C (held_in_givens gs) → GoesOn go_on →
        GivenHolds (other_of sc o e gs sorts es go_on)
    other_holds (Some n) e gs sorts es go_on i g = alone_holds (procedure_in (sort_at sc n)) (is_formal (sort_at sc n)) gs n sorts es go_on i g
    other_holds None e gs sorts es go_on i g = g (gs ++ names e ∷ []) (and_given gs (names e) i tt)

    actual_holds : (by_value : Bool) (e : PExpr) (x : Half) (gs : List Given) (sorts : List Sort) (es : PExprs) (go_on : List Given → HalfGiven) → HalfHolds x →
        AreAll C (held_in_givens gs) → GoesOn go_on → GivenHolds (actual_of sc by_value e x gs sorts es go_on)
    actual_holds true e x gs sorts es go_on h i g = valued_holds gs x sorts es go_on i h g
    actual_holds false e x gs sorts es go_on h i g = other_holds (name_alone e) e gs sorts es go_on i g

    first_actual_holds : (sorts : List Sort) (e : PExpr) (x : Half) (gs : List Given) (es : PExprs) (go_on : List Sort → List Given → HalfGiven) → HalfHolds x →
        AreAll C (held_in_givens gs) → ((after : List Sort) → GoesOn (go_on after)) → GivenHolds (first_actual_of sc sorts e x gs es go_on)
    first_actual_holds [] e x gs es go_on h i g = g [] gs i
    first_actual_holds (s ∷ sorts) e x gs es go_on h i g = actual_holds (is_variable s) e x gs sorts es (go_on sorts) h i (g sorts)

    mutual
      pub settle_holds : (e : PExpr) → HalfHolds (settle sc e)
      settle_holds (tree.number z spot) = tt
      settle_holds (tree.truth b spot) = tt
      settle_holds (tree.variable (tree.subscripted n tree.none)) = named_holds (procedure_in (sort_at sc n)) n
      settle_holds (tree.variable (tree.subscripted n (tree.more e es))) = subscripted_holds n [] (settle sc e) es (settle_holds e)
      settle_holds (tree.call (tree.called n es)) =
          called_holds n (settle_actuals sc es (sorts_of (callee sc n).parameters) []) (actuals_hold es (sorts_of (callee sc n).parameters) [] tt)
      settle_holds (tree.tested x es spot) = tt
      settle_holds (tree.paren e spot) = settle_holds e
      settle_holds (tree.plus e spot) = settle_holds e
      settle_holds (tree.neg e spot) = negated_holds (settle sc e) (settle_holds e)
      settle_holds (tree.not e spot) = inverted_holds (settle sc e) (settle_holds e)
      settle_holds (tree.two op a b) = left_holds op (settle sc a) b (settle sc b) (settle_holds a) (settle_holds b)
      settle_holds (tree.if c x y spot) = condition_holds (settle sc c) x y (settle sc x) (settle sc y) (settle_holds c) (settle_holds x) (settle_holds y)

      pub actuals_hold : (es : PExprs) (sorts : List Sort) (gs : List Given) → AreAll C (held_in_givens gs) → GivenHolds (settle_actuals sc es sorts gs)
      actuals_hold tree.none sorts gs i = i
      actuals_hold (tree.more e es) sorts gs i = first_actual_holds sorts e (settle sc e) gs es (settle_actuals sc es) (settle_holds e) i (λ after more l. actuals_hold es after more l)

    mutual
      put_holds : (h : Hole) (a : Answer) → AreAll C (held_in_hole h) → AreAll C (held_in_answer a) → HalfHolds (answer_put sc h a)
      put_holds (rests.read n) a i j = half_holds a
      put_holds (rests.element n ks v) a i j = half_holds a
      put_holds (rests.index n ks v e es) a i j = subscripted_holds n (subscripts_of a) (settle sc e) es (settle_holds e)
      put_holds (rests.tests x ns) a i j = half_holds a
      put_holds (rests.broken op v w fault) a i j = half_holds a
      put_holds (rests.enter n gs) a i j = half_holds a
      put_holds rests.inside a i j = half_holds a
      put_holds (rests.subscript n ks h es) a i j = subscripted_holds n ks (answer_put sc h a) es (put_holds h a i j)
      put_holds (rests.argument n x) a i j = called_holds n (put_actuals sc x a) (put_actuals_hold x a i j)
      put_holds (rests.left op h b) a i j = left_holds op (answer_put sc h a) b (settle sc b) (put_holds h a i j) (settle_holds b)
      put_holds (rests.right op v h) a i j = right_holds op v (answer_put sc h a) (put_holds h a i j)
      put_holds (rests.negated h) a i j = negated_holds (answer_put sc h a) (put_holds h a i j)
      put_holds (rests.inverted h) a i j = inverted_holds (answer_put sc h a) (put_holds h a i j)
      put_holds (rests.condition h x y) a i j = condition_holds (answer_put sc h a) x y (settle sc x) (settle sc y) (put_holds h a i j) (settle_holds x) (settle_holds y)

      put_actuals_hold : (x : Actuals) (a : Answer) → AreAll C (held_in_actuals x) → AreAll C (held_in_answer a) → GivenHolds (put_actuals sc x a)
      put_actuals_hold (rests.pass gs n sorts es) a i j =
          let c = passed (cell_of_answer a (simple (number (pos 0)))) in
          actuals_hold es sorts (gs ++ c ∷ []) (and_given gs c i (cell_holds a j, tt))
      put_actuals_hold (rests.in_value gs h sorts es) a i j =
          valued_holds gs (answer_put sc h a) sorts es (settle_actuals sc es sorts) (all_front C (held_in_givens gs) (held_in_hole h) i)
          (put_holds h a (all_back C (held_in_givens gs) (held_in_hole h) i) j) (λ more l. actuals_hold es sorts more l)

    -- ---- left sides

    pub settle_place_holds : (v : PVariable) → PlaceHolds (settle_place sc v)
    settle_place_holds (tree.subscripted n tree.none) = left_alone_holds (is_by_name (sort_at sc n)) n
    settle_place_holds (tree.subscripted n (tree.more e es)) = aimed_holds n [] (settle sc e) es (settle_holds e)

    indexed_holds : (n : Named) (a : Answer) (es : PExprs) → AreAll C (held_in_answer a) → PlaceHolds (indexed_of sc n a es)
    indexed_holds n a tree.none j = half_place_holds a j
    indexed_holds n a (tree.more e es) j = aimed_holds n (subscripts_of a) (settle sc e) es (settle_holds e)

    put_place_holds : (x : Aim) (a : Answer) → AreAll C (held_in_aim x) → AreAll C (held_in_answer a) → PlaceHolds (put_place sc x a)
    put_place_holds (rests.resolve n) a i j = half_place_holds a j
    put_place_holds (rests.place_index n ks v es) a i j = indexed_holds n a es j
    put_place_holds rests.inside_place a i j = half_place_holds a j
    put_place_holds (rests.place_subscript n ks h es) a i j = aimed_holds n ks (answer_put sc h a) es (put_holds h a i j)

  -- ---- one lemma for each form that settling and resuming share; the part evaluates a name, or it does not

  module _ (evaluates : Bool) where
    abbrev pub RestHolds : Rest → Type 0
    RestHolds r = AreAll C (held_in_rest r) × GivesNoOwn evaluates r

    rest_either : (b : Bool) (x y : Rest) → RestHolds x → RestHolds y → RestHolds (if b then x else y)
    rest_either true x y i j = i
    rest_either false x y i j = j

    assigned_holds : (p : Place) (x : Half) (k : List Item) → AreAll C (held_in_place p) → HalfHolds x → RestHolds (assigned_of p x k)
    assigned_holds p (val v) k i h = (i, tt)
    assigned_holds p (busy h) k i l = (all_both C (held_in_place p) (held_in_hole h) i l, tt)

    aimed_at_holds : (x : HalfPlace) (e : PExpr) (s : Half) (k : List Item) → PlaceHolds x → HalfHolds s → RestHolds (aimed_at x e s k)
    aimed_at_holds (at p) e s k i h = assigned_holds p s k i h
    aimed_at_holds (aims x) e s k i h = (i, tt)

    chosen_holds : (x : Half) (a b : PStmt) (k : List Item) (r s : Rest) → HalfHolds x → RestHolds r → RestHolds s → RestHolds (chosen_of x a b k r s)
    chosen_holds (val v) a b k r s h m n = rest_either (truth_of v) r s m n
    chosen_holds (busy x) a b k r s h m n = (h, tt)

    looped_holds : (x : Half) (c : PExpr) (b : PStmt) (k : List Item) (body r : Rest) → HalfHolds x → RestHolds body → RestHolds r → RestHolds (looped_of x c b k body r)
    looped_holds (val v) c b k body r h m n = rest_either (truth_of v) body r m n
    looped_holds (busy x) c b k body r h m n = (h, tt)

    checked_holds : (x : Half) (b : PStmt) (c : PExpr) (k : List Item) (r : Rest) → HalfHolds x → RestHolds r → RestHolds (checked_of x b c k r)
    checked_holds (val v) b c k r h n = rest_either (truth_of v) r (rests.turning (run_and (tree.until b c) k)) n (tt, tt)
    checked_holds (busy x) b c k r h n = (h, tt)

    repeated_holds : (n : ℤ) (body : ℤ → Rest) (r : Rest) → ((z : ℤ) → RestHolds (body z)) → RestHolds r → RestHolds (repeated_of n body r)
    repeated_holds n body r m i = rest_either (int_lt (pos 0) n) (body n) r (m n) i

    counted_holds : (x : Half) (b : PStmt) (k : List Item) (body : ℤ → Rest) (r : Rest) → HalfHolds x → ((z : ℤ) → RestHolds (body z)) → RestHolds r → RestHolds (counted_of x b k body r)
    counted_holds (val v) b k body r h m n = repeated_holds (whole_of v) body r m n
    counted_holds (busy x) b k body r h m n = (h, tt)

    selected_holds : (x : Half) (ss : PStmts) (k : List Item) → HalfHolds x → RestHolds (selected_of x ss k)
    selected_holds (val v) ss k h = (tt, tt)
    selected_holds (busy x) ss k h = (h, tt)

    called_rest_holds : (n : Named) (x : HalfGiven) (k : List Item) → GivenHolds x → RestHolds (statement_called_of n x k)
    called_rest_holds n (given gs) k i = (i, tt)
    called_rest_holds n (wants x) k i = (i, tt)

    prepared_holds : (n : Named) (x : HalfGiven) (task : Option Named) (k : List Item) → GivenHolds x → RestHolds (prepared_of n x task k)
    prepared_holds n (given gs) task k i = (i, tt)
    prepared_holds n (wants x) task k i = (i, tt)

    item_holds : (phrases : List PhraseText) (vs : List Value) (x : Half) (es : PExprs) (k : List Item) (go_on : List Value → Rest) → HalfHolds x → ((ws : List Value) → RestHolds (go_on ws)) →
        RestHolds (item_of phrases vs x es k go_on)
    item_holds phrases vs (val v) es k go_on h g = g (vs ++ v ∷ [])
    item_holds phrases vs (busy x) es k go_on h g = (h, tt)

    bound_holds : (kind : Kind) (ns : List Named) (pairs : List PPair) (vs : List Value) (x : Half) (ps : List PPair) (k : List Item) (go_on : List Value → Rest) → HalfHolds x →
        ((ws : List Value) → RestHolds (go_on ws)) → RestHolds (bound_of kind ns pairs vs x ps k go_on)
    bound_holds kind ns pairs vs (val v) ps k go_on h g = g (vs ++ v ∷ [])
    bound_holds kind ns pairs vs (busy x) ps k go_on h g = (h, tt)

    begun_holds : (b : PBody) (k : List Item) (r : Rest) → RestHolds r → RestHolds (begun_of b k r)
    begun_holds (tree.body spot tree.no_decls ss) k r i = i
    begun_holds (tree.body spot (tree.decls d ds) ss) k r i = (tt, tt)

    pub evaluated_holds : (x : Half) → HalfHolds x → RestHolds (evaluated_of x)
    evaluated_holds (val v) i = (tt, tt)
    evaluated_holds (busy h) i = (i, tt)

    abbrev pub PlaceGivable : HalfPlace → Type 0
    PlaceGivable (at p) = IsGivable p
    PlaceGivable (aims x) = Unit {0}

    pub located_holds : (x : HalfPlace) → PlaceHolds x → PlaceGivable x → evaluates ≡ true → RestHolds (located_of x)
    located_holds (at p) i g e = (i, (e, g))
    located_holds (aims x) i g e = (i, e)

    aimed_givable : (n : Named) (ks : List ℕ) (x : Half) (es : PExprs) → PlaceGivable (aimed_of n ks x es)
    aimed_givable n ks (busy h) es = tt
    aimed_givable n ks (val v) es = tt

    half_place_givable : (a : Answer) → IsForeign a → PlaceGivable (half_place_of a)
    half_place_givable (place p) i = i
    half_place_givable _ i = tt

    module _ (sc : Scopes) where
      indexed_givable : (n : Named) (a : Answer) (es : PExprs) → IsForeign a → PlaceGivable (indexed_of sc n a es)
      indexed_givable n a tree.none i = half_place_givable a i
      indexed_givable n a (tree.more e es) i = aimed_givable n (subscripts_of a) (settle sc e) es

      pub put_place_givable : (x : Aim) (a : Answer) → IsForeign a → PlaceGivable (put_place sc x a)
      put_place_givable (rests.resolve n) a i = half_place_givable a i
      put_place_givable (rests.place_index n ks v es) a i = indexed_givable n a es i
      put_place_givable rests.inside_place a i = half_place_givable a i
      put_place_givable (rests.place_subscript n ks h es) a i = aimed_givable n ks (answer_put sc h a) es

      line_holds : (es : PExprs) (phrases : List PhraseText) (k : List Item) (vs : List Value) → RestHolds (settle_line sc es phrases k vs)
      line_holds tree.none phrases k vs = (tt, tt)
      line_holds (tree.more e es) phrases k vs = item_holds phrases vs (settle sc e) es k (settle_line sc es phrases k) (settle_holds sc e) (λ ws. line_holds es phrases k ws)

      bounds_hold : (ps : List PPair) (kind : Kind) (ns : List Named) (pairs : List PPair) (k : List Item) (vs : List Value) → RestHolds (settle_bounds sc ps kind ns pairs k vs)
      bounds_hold [] kind ns pairs k vs = (tt, tt)
      bounds_hold (p ∷ ps) kind ns pairs k vs =
          bound_holds kind ns pairs vs (settle sc p.high) ps k (settle_bounds sc ps kind ns pairs k) (settle_holds sc p.high) (λ ws. bounds_hold ps kind ns pairs k ws)

      mutual
        pub stmt_holds : (s : PStmt) (k : List Item) (r : Rest) → RestHolds r → RestHolds (settle_stmt sc s k r)
        stmt_holds tree.empty k r n = n
        stmt_holds (tree.label name s) k r n = stmt_holds s k r n
        stmt_holds (tree.assign v e) k r n = aimed_at_holds (settle_place sc v) e (settle sc e) k (settle_place_holds sc v) (settle_holds sc e)
        stmt_holds (tree.call_of (tree.called m es)) k r n =
            called_rest_holds m (settle_actuals sc es (sorts_of (callee sc m).parameters) []) k (actuals_hold sc es (sorts_of (callee sc m).parameters) [] tt)
        stmt_holds (tree.go_to m) k r n = (tt, tt)
        stmt_holds (tree.block b) k r n = begun_holds b k (settle_body sc b k r) (body_holds b k r n)
        stmt_holds (tree.if_then c x) k r n = chosen_holds (settle sc c) x tree.empty k (settle_stmt sc x k r) r (settle_holds sc c) (stmt_holds x k r n) n
        stmt_holds (tree.if_else c x y) k r n =
            chosen_holds (settle sc c) x y k (settle_stmt sc x k r) (settle_stmt sc y k r) (settle_holds sc c) (stmt_holds x k r n) (stmt_holds y k r n)
        stmt_holds (tree.while c b) k r n =
            let again = rests.turning (run_and (tree.while c b) k) in
            looped_holds (settle sc c) c b k (settle_stmt sc b (turn_and (tree.while c b) k) again) r (settle_holds sc c) (stmt_holds b (turn_and (tree.while c b) k) again (tt, tt)) n
        stmt_holds (tree.until b c) k r n =
            stmt_holds b (rests.check b c ∷ k) (checked_of (settle sc c) b c k r) (checked_holds (settle sc c) b c k r (settle_holds sc c) n)
        stmt_holds (tree.for v a s l b) k r n =
            aimed_at_holds (settle_place sc (tree.subscripted v tree.none)) a (settle sc a) (rests.test (record { control = v; step = s; last = l; body = b }) ∷ k)
            (settle_place_holds sc (tree.subscripted v tree.none)) (settle_holds sc a)
        stmt_holds (tree.thru e b) k r n =
            counted_holds (settle sc e) b k (counted_body sc b k) r (settle_holds sc e)
            (λ z. stmt_holds b (rests.turn ∷ after_count z b k) (rests.turning (after_count z b k)) (tt, tt)) n
        stmt_holds (tree.case e ss) k r n = selected_holds (settle sc e) ss k (settle_holds sc e)
        stmt_holds (tree.process (tree.called m es) task) k r n =
            prepared_holds m (settle_actuals sc es (sorts_of (callee sc m).parameters) []) task k (actuals_hold sc es (sorts_of (callee sc m).parameters) [] tt)
        stmt_holds (tree.event act e) k r n = (tt, tt)
        stmt_holds (tree.write m spot phrases es) k r n = line_holds es phrases k []

        stmts_hold : (ss : PStmts) (k : List Item) (r : Rest) → RestHolds r → RestHolds (settle_stmts sc ss k r)
        stmts_hold tree.no_stmts k r n = n
        stmts_hold (tree.stmts s ss) k r n = stmt_holds s (items ss k) (settle_stmts sc ss k r) (stmts_hold ss k r n)

        body_holds : (b : PBody) (k : List Item) (r : Rest) → RestHolds r → RestHolds (settle_body sc b k r)
        body_holds (tree.body spot ds ss) k r n = stmts_hold ss k r n

      counted_body_holds : (b : PStmt) (k : List Item) (z : ℤ) → RestHolds (counted_body sc b k z)
      counted_body_holds b k z = stmt_holds b (rests.turn ∷ after_count z b k) (rests.turning (after_count z b k)) (tt, tt)

      -- ---- the test of FOR

      again_holds : (loop : Loop) (k : List Item) → RestHolds (again sc loop k)
      again_holds loop k =
          stmt_holds loop.body (rests.run (stepped loop) ∷ rests.turn ∷ rests.test loop ∷ k)
          (settle_stmt sc (stepped loop) (rests.turn ∷ rests.test loop ∷ k) (rests.turning (rests.test loop ∷ k)))
          (stmt_holds (stepped loop) (rests.turn ∷ rests.test loop ∷ k) (rests.turning (rests.test loop ∷ k)) (tt, tt))

      tested_holds : (d : Value) (x : Half) (loop : Loop) (k : List Item) (r : Rest) → HalfHolds x → RestHolds r → RestHolds (tested_of sc d x loop k r)
      tested_holds d (val v) loop k r h n = rest_either (is_past (whole_of d) (whole_of v)) r (again sc loop k) n (again_holds loop k)
      tested_holds d (busy x) loop k r h n = (h, tt)

      differed_holds : (x : Half) (loop : Loop) (k : List Item) (r : Rest) → HalfHolds x → RestHolds r → RestHolds (differed_of sc x loop k r)
      differed_holds (val v) loop k r h n = tested_holds v (settle sc loop.step) loop k r (settle_holds sc loop.step) n
      differed_holds (busy x) loop k r h n = (h, tt)

      -- ---- items

      -- what is still to be done holds nothing
      pub items_hold : (k : List Item) → RestHolds (settle_items sc k)
      items_hold [] = (tt, tt)
      items_hold (rests.run s ∷ k) = stmt_holds s k (settle_items sc k) (items_hold k)
      items_hold (rests.turn ∷ k) = (tt, tt)
      items_hold (rests.count n b ∷ k) = repeated_holds n (counted_body sc b k) (settle_items sc k) (counted_body_holds b k) (items_hold k)
      items_hold (rests.check b c ∷ k) = checked_holds (settle sc c) b c k (settle_items sc k) (settle_holds sc c) (items_hold k)
      items_hold (rests.test loop ∷ k) = differed_holds (settle sc (difference_in loop)) loop k (settle_items sc k) (settle_holds sc (difference_in loop)) (items_hold k)
      items_hold (rests.result name ∷ k) = (tt, tt)
      items_hold (rests.make_arrays kind ns ps ∷ k) = bounds_hold ps kind ns ps k []
      items_hold (rests.make_event n ∷ k) = (tt, tt)

      inside_holds : (a : Answer) (k : List Item) → RestHolds (inside_or_after sc a k)
      inside_holds entered k = (tt, tt)
      inside_holds done k = items_hold k
      inside_holds (value v) k = items_hold k
      inside_holds (cell c) k = items_hold k
      inside_holds (place p) k = items_hold k

      entered_holds : (typed : Bool) (a : Answer) (k : List Item) → RestHolds (asks_called sc typed a k)
      entered_holds true entered k = (tt, tt)
      entered_holds false entered k = (tt, tt)
      entered_holds typed done k = items_hold k
      entered_holds typed (value v) k = items_hold k
      entered_holds typed (cell c) k = items_hold k
      entered_holds typed (place p) k = items_hold k

      pub resumed_holds : (r : Rest) (a : Answer) → RestHolds r → AreAll C (held_in_answer a) → IsForeign a → RestHolds (resume sc r a)
      resumed_holds rests.over a i j f = (tt, tt)
      resumed_holds (rests.reading name) a i j f = evaluated_holds (half_of a) (half_holds a)
      resumed_holds (rests.giving v) a i j f = (tt, tt)
      resumed_holds (rests.giving_place p) a i j f = i
      resumed_holds (rests.store p v k) a i j f = items_hold k
      resumed_holds (rests.select v ss k) a i j f = stmt_holds (nth_stmt ss (nat_abs (whole_of v))) k (settle_items sc k) (items_hold k)
      resumed_holds (rests.turning k) a i j f = items_hold k
      resumed_holds (rests.going n) a i j f = (tt, tt)
      resumed_holds (rests.entering_block b k) a i j f = inside_holds a k
      resumed_holds (rests.entering n gs k) a i j f = entered_holds (is_typed sc n) a k
      resumed_holds (rests.starting n gs task k) a i j f = items_hold k
      resumed_holds (rests.acting act n k) a i j f = items_hold k
      resumed_holds (rests.line phrases vs k) a i j f = items_hold k
      resumed_holds (rests.arrays kind ns pairs vs k) a i j f = items_hold k
      resumed_holds (rests.event n k) a i j f = items_hold k
      resumed_holds (rests.within k) a i j f = items_hold k
      resumed_holds (rests.dropping k) a i j f = items_hold k
      resumed_holds (rests.evaluating h) a i j f = evaluated_holds (answer_put sc h a) (put_holds sc h a i.0 j)
      resumed_holds (rests.locating x) a i j f = located_holds (put_place sc x a) (put_place_holds sc x a i.0 j) (put_place_givable x a f) i.1
      resumed_holds (rests.aiming x e k) a i j f = aimed_at_holds (put_place sc x a) e (settle sc e) k (put_place_holds sc x a i.0 j) (settle_holds sc e)
      resumed_holds (rests.storing p h k) a i j f =
          assigned_holds p (answer_put sc h a) k (all_front C (held_in_place p) (held_in_hole h) i.0) (put_holds sc h a (all_back C (held_in_place p) (held_in_hole h) i.0) j)
      resumed_holds (rests.choosing h x y k) a i j f =
          chosen_holds (answer_put sc h a) x y k (settle_stmt sc x k (settle_items sc k)) (settle_stmt sc y k (settle_items sc k)) (put_holds sc h a i.0 j)
          (stmt_holds x k (settle_items sc k) (items_hold k)) (stmt_holds y k (settle_items sc k) (items_hold k))
      resumed_holds (rests.looping h c b k) a i j f =
          looped_holds (answer_put sc h a) c b k (settle_stmt sc b (turn_and (tree.while c b) k) (rests.turning (run_and (tree.while c b) k))) (settle_items sc k) (put_holds sc h a i.0 j)
          (stmt_holds b (turn_and (tree.while c b) k) (rests.turning (run_and (tree.while c b) k)) (tt, tt)) (items_hold k)
      resumed_holds (rests.checking h b c k) a i j f = checked_holds (answer_put sc h a) b c k (settle_items sc k) (put_holds sc h a i.0 j) (items_hold k)
      resumed_holds (rests.counting h b k) a i j f = counted_holds (answer_put sc h a) b k (counted_body sc b k) (settle_items sc k) (put_holds sc h a i.0 j) (counted_body_holds b k) (items_hold k)
      resumed_holds (rests.differing h loop k) a i j f = differed_holds (answer_put sc h a) loop k (settle_items sc k) (put_holds sc h a i.0 j) (items_hold k)
      resumed_holds (rests.stepping d h loop k) a i j f = tested_holds d (answer_put sc h a) loop k (settle_items sc k) (put_holds sc h a i.0 j) (items_hold k)
      resumed_holds (rests.selecting h ss k) a i j f = selected_holds (answer_put sc h a) ss k (put_holds sc h a i.0 j)
      resumed_holds (rests.calling n x k) a i j f = called_rest_holds n (put_actuals sc x a) k (put_actuals_hold sc x a i.0 j)
      resumed_holds (rests.preparing n x task k) a i j f = prepared_holds n (put_actuals sc x a) task k (put_actuals_hold sc x a i.0 j)
      resumed_holds (rests.writing phrases vs h es k) a i j f =
          item_holds phrases vs (answer_put sc h a) es k (settle_line sc es phrases k) (put_holds sc h a i.0 j) (λ ws. line_holds es phrases k ws)
      resumed_holds (rests.bounding kind ns pairs vs h ps k) a i j f =
          bound_holds kind ns pairs vs (answer_put sc h a) ps k (settle_bounds sc ps kind ns pairs k) (put_holds sc h a i.0 j) (λ ws. bounds_hold ps kind ns pairs k ws)
