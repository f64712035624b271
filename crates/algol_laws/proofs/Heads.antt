-- After the silent steps a part has a head, and the head asks for an action.
use Rattle.std.specs.Prelude.{◌≡◌, refl, ℕ, ℤ, nat_abs, int_lt, pos, if◌then◌else◌, Bool, true, false, List, [], ◌∷◌, ◌++◌, Option, Some, None, Result, Ok, Err}
use Rattle.algol_tree.specs.declared.tree.Op.{Op}
use Rattle.algol_tree.specs.declared.tree.Kind.{Kind}
use Rattle.algol_tree.specs.declared.tree.Named.{Named}
use Rattle.algol_tree.specs.declared.tree.PhraseText.{PhraseText}
use Rattle.algol_tree.specs.Plain as tree
use Rattle.algol_tree.specs.Plain.{PExpr, PVariable, PExprs, PPair, PStmt, PStmts, PBody, name_alone}
use Rattle.b67_num.specs.declared.NumFault.{NumFault}
use Rattle.algol_meaning.specs.Value.{Value, whole_of, truth_of, simple, number}
use Rattle.algol_tree.specs.Sorts.{Sort, is_formal, is_by_name, is_variable, procedure_in}
use Rattle.algol_tree.specs.Scopes.{Scopes}
use Rattle.algol_meaning.specs.Rest.{Place, Given, valued, refers, names, Hole, Actuals, Half, val, busy, HalfGiven, given, wants, Aim, HalfPlace, at, aims, Loop, Item, Rest, Answer}
use Rattle.algol_meaning.specs.Rest as rests
use Rattle.algol_meaning.specs.Operators.{result_of}
use Rattle.algol_meaning.specs.Settle.{after_result, right_of, left_of, negated_of, inverted_of, condition_of, named_of, subscripted_of, called_of, valued_of, alone_of, sorts_of, half_of, half_place_of, callee, is_typed, sort_at, other_of, actual_of, first_actual_of, settle, settle_actuals, answer_put, put_actuals, left_alone_of, aimed_of, settle_place, indexed_of, put_place}
use Rattle.algol_meaning.specs.Statements.{items, assigned_of, aimed_at, chosen_of, looped_of, checked_of, repeated_of, counted_of, after_count, counted_body, selected_of, statement_called_of, prepared_of, item_of, bound_of, begun_of, settle_line, settle_bounds, settle_stmt, settle_stmts, settle_body, is_past, again, tested_of, differed_of, difference_in, stepped, run_and, turn_and, settle_items}
use Rattle.algol_meaning.specs.Asks.{ask_hole, ask_actuals, ask_aim, ask, resume, evaluated_of, located_of, nth_stmt, inside_or_after, asks_called}
use Rattle.algol_laws.specs.Heads.{asks_action}

-- a value, or a head that asks for an action
abbrev pub acts : Half → Bool
acts (val v) = true
acts (busy h) = asks_action (ask_hole h)

abbrev pub acts_given : HalfGiven → Bool
acts_given (given gs) = true
acts_given (wants x) = asks_action (ask_actuals x)

abbrev pub acts_place : HalfPlace → Bool
acts_place (at p) = true
acts_place (aims a) = asks_action (ask_aim a)

abbrev pub acts_rest : Rest → Bool
acts_rest r = asks_action (ask r)

-- an answer that leaves no part inside
abbrev pub is_answer : Answer → Bool
is_answer rests.entered = false
is_answer _ = true

abbrev pub is_place : Answer → Bool
is_place (rests.place p) = true
is_place _ = false

abbrev pub awaits_place : Aim → Bool
awaits_place (rests.place_subscript n ks h es) = false
awaits_place _ = true

abbrev pub awaits_place_in : Rest → Bool
awaits_place_in (rests.locating x) = awaits_place x
awaits_place_in (rests.aiming x e k) = awaits_place x
awaits_place_in _ = false

-- ---- expressions

after_result_acts : (op : Op) (v w : Value) (r : Result Value NumFault) → acts (after_result op v w r) ≡ true
after_result_acts op v w (Ok x) = refl
after_result_acts op v w (Err fault) = refl

right_acts : (op : Op) (v : Value) (x : Half) → acts x ≡ true → acts (right_of op v x) ≡ true
right_acts op v (val w) e = after_result_acts op v w (result_of op v w)
right_acts op v (busy h) e = e

left_acts : (op : Op) (x : Half) (b : PExpr) (s : Half) → acts x ≡ true → acts s ≡ true → acts (left_of op x b s) ≡ true
left_acts op (val v) b s e f = right_acts op v s f
left_acts op (busy h) b s e f = e

negated_acts : (x : Half) → acts x ≡ true → acts (negated_of x) ≡ true
negated_acts (val v) e = refl
negated_acts (busy h) e = e

inverted_acts : (x : Half) → acts x ≡ true → acts (inverted_of x) ≡ true
inverted_acts (val v) e = refl
inverted_acts (busy h) e = e

either : (b : Bool) (x y : Half) → acts x ≡ true → acts y ≡ true → acts (if b then x else y) ≡ true
either true x y e f = e
either false x y e f = f

condition_acts : (x : Half) (a b : PExpr) (s t : Half) → acts x ≡ true → acts s ≡ true → acts t ≡ true → acts (condition_of x a b s t) ≡ true
condition_acts (val v) a b s t e f g = either (truth_of v) s t f g
condition_acts (busy h) a b s t e f g = e

named_acts : (o : Option ℕ) (n : Named) → acts (named_of o n) ≡ true
named_acts (Some block) n = refl
named_acts None n = refl

subscripted_acts : (n : Named) (ks : List ℕ) (x : Half) (es : PExprs) → acts x ≡ true → acts (subscripted_of n ks x es) ≡ true
subscripted_acts n ks (busy h) es e = e
subscripted_acts n ks (val v) tree.none e = refl
subscripted_acts n ks (val v) (tree.more a es) e = refl

called_acts : (n : Named) (g : HalfGiven) → acts_given g ≡ true → acts (called_of n g) ≡ true
called_acts n (given gs) e = refl
called_acts n (wants x) e = e

-- ---- actuals

abbrev Goes : (List Given → HalfGiven) → Type 0
Goes go_on = (gs : List Given) → acts_given (go_on gs) ≡ true

valued_acts : (gs : List Given) (x : Half) (sorts : List Sort) (es : PExprs) (go_on : List Given → HalfGiven) → acts x ≡ true → Goes go_on → acts_given (valued_of gs x sorts es go_on) ≡ true
valued_acts gs (val v) sorts es go_on e f = f (gs ++ valued v ∷ [])
valued_acts gs (busy h) sorts es go_on e f = e

alone_acts : (o : Option ℕ) (formal : Bool) (gs : List Given) (n : Named) (sorts : List Sort) (es : PExprs) (go_on : List Given → HalfGiven) → Goes go_on →
    acts_given (alone_of o formal gs n sorts es go_on) ≡ true
alone_acts (Some block) formal gs n sorts es go_on f = f (gs ++ names (tree.variable (tree.subscripted n tree.none)) ∷ [])
alone_acts None true gs n sorts es go_on f = refl
alone_acts None false gs n sorts es go_on f = f (gs ++ refers n ∷ [])

module _ (sc : Scopes) where
  other_acts : (o : Option Named) (e : PExpr) (gs : List Given) (sorts : List Sort) (es : PExprs) (go_on : List Given → HalfGiven) → Goes go_on →
      acts_given (other_of sc o e gs sorts es go_on) ≡ true
  other_acts (Some n) e gs sorts es go_on f = alone_acts (procedure_in (sort_at sc n)) (is_formal (sort_at sc n)) gs n sorts es go_on f
  other_acts None e gs sorts es go_on f = f (gs ++ names e ∷ [])

  actual_acts : (by_value : Bool) (e : PExpr) (x : Half) (gs : List Given) (sorts : List Sort) (es : PExprs) (go_on : List Given → HalfGiven) → acts x ≡ true → Goes go_on →
      acts_given (actual_of sc by_value e x gs sorts es go_on) ≡ true
  actual_acts true e x gs sorts es go_on f g = valued_acts gs x sorts es go_on f g
  actual_acts false e x gs sorts es go_on f g = other_acts (name_alone e) e gs sorts es go_on g

  first_actual_acts : (sorts : List Sort) (e : PExpr) (x : Half) (gs : List Given) (es : PExprs) (go_on : List Sort → List Given → HalfGiven) → acts x ≡ true → ((ss : List Sort) → Goes (go_on ss)) →
      acts_given (first_actual_of sc sorts e x gs es go_on) ≡ true
  first_actual_acts [] e x gs es go_on f g = g [] gs
  first_actual_acts (s ∷ sorts) e x gs es go_on f g = actual_acts (is_variable s) e x gs sorts es (go_on sorts) f (g sorts)

  mutual
    pub settle_acts : (e : PExpr) → acts (settle sc e) ≡ true
    settle_acts (tree.number z spot) = refl
    settle_acts (tree.truth b spot) = refl
    settle_acts (tree.variable (tree.subscripted n tree.none)) = named_acts (procedure_in (sort_at sc n)) n
    settle_acts (tree.variable (tree.subscripted n (tree.more e es))) = subscripted_acts n [] (settle sc e) es (settle_acts e)
    settle_acts (tree.call (tree.called n es)) = called_acts n (settle_actuals sc es (sorts_of (callee sc n).parameters) []) (actuals_act es (sorts_of (callee sc n).parameters) [])
    settle_acts (tree.tested test es spot) = refl
    settle_acts (tree.paren e spot) = settle_acts e
    settle_acts (tree.plus e spot) = settle_acts e
    settle_acts (tree.neg e spot) = negated_acts (settle sc e) (settle_acts e)
    settle_acts (tree.not e spot) = inverted_acts (settle sc e) (settle_acts e)
    settle_acts (tree.two op a b) = left_acts op (settle sc a) b (settle sc b) (settle_acts a) (settle_acts b)
    settle_acts (tree.if c x y spot) = condition_acts (settle sc c) x y (settle sc x) (settle sc y) (settle_acts c) (settle_acts x) (settle_acts y)

    pub actuals_act : (es : PExprs) (sorts : List Sort) (gs : List Given) → acts_given (settle_actuals sc es sorts gs) ≡ true
    actuals_act tree.none sorts gs = refl
    actuals_act (tree.more e es) sorts gs = first_actual_acts sorts e (settle sc e) gs es (settle_actuals sc es) (settle_acts e) (actuals_act es)

  half_acts : (a : Answer) → is_answer a ≡ true → acts (half_of a) ≡ true
  half_acts rests.done e = refl
  half_acts (rests.value v) e = refl
  half_acts (rests.cell c) e = refl
  half_acts (rests.place p) e = refl
  half_acts rests.entered e = e

  mutual
    pub put_acts : (h : Hole) (a : Answer) → is_answer a ≡ true → acts (answer_put sc h a) ≡ true
    put_acts (rests.read n) a e = half_acts a e
    put_acts (rests.element n ks i) a e = half_acts a e
    put_acts (rests.index n ks i x es) a e = subscripted_acts n (rests.subscripts_of a) (settle sc x) es (settle_acts x)
    put_acts (rests.tests test ns) a e = half_acts a e
    put_acts (rests.broken op v w fault) a e = half_acts a e
    put_acts (rests.enter n gs) a e = half_acts a e
    put_acts rests.inside a e = half_acts a e
    put_acts (rests.subscript n ks h es) a e = subscripted_acts n ks (answer_put sc h a) es (put_acts h a e)
    put_acts (rests.argument n x) a e = called_acts n (put_actuals sc x a) (put_actuals_act x a e)
    put_acts (rests.left op h b) a e = left_acts op (answer_put sc h a) b (settle sc b) (put_acts h a e) (settle_acts b)
    put_acts (rests.right op v h) a e = right_acts op v (answer_put sc h a) (put_acts h a e)
    put_acts (rests.negated h) a e = negated_acts (answer_put sc h a) (put_acts h a e)
    put_acts (rests.inverted h) a e = inverted_acts (answer_put sc h a) (put_acts h a e)
    put_acts (rests.condition h x y) a e = condition_acts (answer_put sc h a) x y (settle sc x) (settle sc y) (put_acts h a e) (settle_acts x) (settle_acts y)

    pub put_actuals_act : (x : Actuals) (a : Answer) → is_answer a ≡ true → acts_given (put_actuals sc x a) ≡ true
    put_actuals_act (rests.pass gs n sorts es) a e = actuals_act es sorts (gs ++ rests.passed (rests.cell_of_answer a (simple (number (pos 0)))) ∷ [])
    put_actuals_act (rests.in_value gs h sorts es) a e = valued_acts gs (answer_put sc h a) sorts es (settle_actuals sc es sorts) (put_acts h a e) (actuals_act es sorts)

  -- ---- left sides

  half_place_acts : (a : Answer) → is_place a ≡ true → acts_place (half_place_of a) ≡ true
  half_place_acts (rests.place p) e = refl
  half_place_acts rests.done e = cc
  half_place_acts (rests.value v) e = cc
  half_place_acts (rests.cell c) e = cc
  half_place_acts rests.entered e = cc

  left_alone_acts : (named : Bool) (n : Named) → acts_place (left_alone_of named n) ≡ true
  left_alone_acts true n = refl
  left_alone_acts false n = refl

  aimed_acts : (n : Named) (ks : List ℕ) (x : Half) (es : PExprs) → acts x ≡ true → acts_place (aimed_of n ks x es) ≡ true
  aimed_acts n ks (busy h) es e = e
  aimed_acts n ks (val v) es e = refl

  pub place_acts : (v : PVariable) → acts_place (settle_place sc v) ≡ true
  place_acts (tree.subscripted n tree.none) = left_alone_acts (is_by_name (sort_at sc n)) n
  place_acts (tree.subscripted n (tree.more e es)) = aimed_acts n [] (settle sc e) es (settle_acts e)

  indexed_acts : (n : Named) (a : Answer) (es : PExprs) → is_place a ≡ true → acts_place (indexed_of sc n a es) ≡ true
  indexed_acts n a tree.none e = half_place_acts a e
  indexed_acts n a (tree.more x es) e = aimed_acts n (rests.subscripts_of a) (settle sc x) es (settle_acts x)

  put_place_acts : (x : Aim) (a : Answer) → is_answer a ≡ true → (awaits_place x ≡ true → is_place a ≡ true) → acts_place (put_place sc x a) ≡ true
  put_place_acts (rests.resolve n) a e f = half_place_acts a (f refl)
  put_place_acts (rests.place_index n ks i es) a e f = indexed_acts n a es (f refl)
  put_place_acts rests.inside_place a e f = half_place_acts a (f refl)
  put_place_acts (rests.place_subscript n ks h es) a e f = aimed_acts n ks (answer_put sc h a) es (put_acts h a e)

-- ---- statements

abbrev Ready : Rest → Type 0
Ready r = acts_rest r ≡ true

rest_either : (b : Bool) (x y : Rest) → Ready x → Ready y → Ready (if b then x else y)
rest_either true x y e f = e
rest_either false x y e f = f

assigned_acts : (p : Place) (x : Half) (k : List Item) → acts x ≡ true → Ready (assigned_of p x k)
assigned_acts p (val v) k e = refl
assigned_acts p (busy h) k e = e

aimed_at_acts : (x : HalfPlace) (e : PExpr) (s : Half) (k : List Item) → acts_place x ≡ true → acts s ≡ true → Ready (aimed_at x e s k)
aimed_at_acts (at p) e s k f g = assigned_acts p s k g
aimed_at_acts (aims a) e s k f g = f

chosen_acts : (x : Half) (a b : PStmt) (k : List Item) (s t : Rest) → acts x ≡ true → Ready s → Ready t → Ready (chosen_of x a b k s t)
chosen_acts (val v) a b k s t e f g = rest_either (truth_of v) s t f g
chosen_acts (busy h) a b k s t e f g = e

looped_acts : (x : Half) (c : PExpr) (b : PStmt) (k : List Item) (s t : Rest) → acts x ≡ true → Ready s → Ready t → Ready (looped_of x c b k s t)
looped_acts (val v) c b k s t e f g = rest_either (truth_of v) s t f g
looped_acts (busy h) c b k s t e f g = e

checked_acts : (x : Half) (b : PStmt) (c : PExpr) (k : List Item) (t : Rest) → acts x ≡ true → Ready t → Ready (checked_of x b c k t)
checked_acts (val v) b c k t e f = rest_either (truth_of v) t (rests.turning (run_and (tree.until b c) k)) f refl
checked_acts (busy h) b c k t e f = e

repeated_acts : (n : ℤ) (body : ℤ → Rest) (r : Rest) → ((m : ℤ) → Ready (body m)) → Ready r → Ready (repeated_of n body r)
repeated_acts n body r e f = rest_either (int_lt (pos 0) n) (body n) r (e n) f

counted_acts : (x : Half) (b : PStmt) (k : List Item) (body : ℤ → Rest) (r : Rest) → acts x ≡ true → ((m : ℤ) → Ready (body m)) → Ready r → Ready (counted_of x b k body r)
counted_acts (val v) b k body r e f g = repeated_acts (whole_of v) body r f g
counted_acts (busy h) b k body r e f g = e

selected_acts : (x : Half) (ss : PStmts) (k : List Item) → acts x ≡ true → Ready (selected_of x ss k)
selected_acts (val v) ss k e = refl
selected_acts (busy h) ss k e = e

statement_called_acts : (n : Named) (g : HalfGiven) (k : List Item) → acts_given g ≡ true → Ready (statement_called_of n g k)
statement_called_acts n (given gs) k e = refl
statement_called_acts n (wants x) k e = e

prepared_acts : (n : Named) (g : HalfGiven) (task : Option Named) (k : List Item) → acts_given g ≡ true → Ready (prepared_of n g task k)
prepared_acts n (given gs) task k e = refl
prepared_acts n (wants x) task k e = e

item_acts : (ps : List PhraseText) (vs : List Value) (x : Half) (es : PExprs) (k : List Item) (go_on : List Value → Rest) → acts x ≡ true → ((us : List Value) → Ready (go_on us)) →
    Ready (item_of ps vs x es k go_on)
item_acts ps vs (val v) es k go_on e f = f (vs ++ v ∷ [])
item_acts ps vs (busy h) es k go_on e f = e

bound_acts : (kind : Kind) (ns : List Named) (pairs : List PPair) (vs : List Value) (x : Half) (ps : List PPair) (k : List Item) (go_on : List Value → Rest) → acts x ≡ true → ((us : List Value) → Ready (go_on us)) →
    Ready (bound_of kind ns pairs vs x ps k go_on)
bound_acts kind ns pairs vs (val v) ps k go_on e f = f (vs ++ v ∷ [])
bound_acts kind ns pairs vs (busy h) ps k go_on e f = e

begun_acts : (b : PBody) (k : List Item) (r : Rest) → Ready r → Ready (begun_of b k r)
begun_acts (tree.body spot tree.no_decls ss) k r e = e
begun_acts (tree.body spot (tree.decls d ds) ss) k r e = refl

pub evaluated_acts : (x : Half) → acts x ≡ true → Ready (evaluated_of x)
evaluated_acts (val v) e = refl
evaluated_acts (busy h) e = e

pub located_acts : (x : HalfPlace) → acts_place x ≡ true → Ready (located_of x)
located_acts (at p) e = refl
located_acts (aims a) e = e

module _ (sc : Scopes) where
  line_acts : (es : PExprs) (ps : List PhraseText) (k : List Item) (vs : List Value) → Ready (settle_line sc es ps k vs)
  line_acts tree.none ps k vs = refl
  line_acts (tree.more e es) ps k vs = item_acts ps vs (settle sc e) es k (settle_line sc es ps k) (settle_acts sc e) (line_acts es ps k)

  bounds_act : (ps : List PPair) (kind : Kind) (ns : List Named) (pairs : List PPair) (k : List Item) (vs : List Value) → Ready (settle_bounds sc ps kind ns pairs k vs)
  bounds_act [] kind ns pairs k vs = refl
  bounds_act (p ∷ ps) kind ns pairs k vs =
      bound_acts kind ns pairs vs (settle sc p.high) ps k (settle_bounds sc ps kind ns pairs k) (settle_acts sc p.high) (bounds_act ps kind ns pairs k)

  mutual
    pub stmt_acts : (s : PStmt) (k : List Item) (r : Rest) → Ready r → Ready (settle_stmt sc s k r)
    stmt_acts tree.empty k r e = e
    stmt_acts (tree.label n s) k r e = stmt_acts s k r e
    stmt_acts (tree.assign v x) k r e = aimed_at_acts (settle_place sc v) x (settle sc x) k (place_acts sc v) (settle_acts sc x)
    stmt_acts (tree.call_of (tree.called n es)) k r e = statement_called_acts n (settle_actuals sc es (sorts_of (callee sc n).parameters) []) k (actuals_act sc es (sorts_of (callee sc n).parameters) [])
    stmt_acts (tree.go_to n) k r e = refl
    stmt_acts (tree.block b) k r e = begun_acts b k (settle_body sc b k r) (body_acts b k r e)
    stmt_acts (tree.if_then c x) k r e = chosen_acts (settle sc c) x tree.empty k (settle_stmt sc x k r) r (settle_acts sc c) (stmt_acts x k r e) e
    stmt_acts (tree.if_else c x y) k r e = chosen_acts (settle sc c) x y k (settle_stmt sc x k r) (settle_stmt sc y k r) (settle_acts sc c) (stmt_acts x k r e) (stmt_acts y k r e)
    stmt_acts (tree.while c b) k r e =
        looped_acts (settle sc c) c b k (settle_stmt sc b (turn_and (tree.while c b) k) (rests.turning (run_and (tree.while c b) k))) r (settle_acts sc c)
        (stmt_acts b (turn_and (tree.while c b) k) (rests.turning (run_and (tree.while c b) k)) refl) e
    stmt_acts (tree.until b c) k r e = stmt_acts b (rests.check b c ∷ k) (checked_of (settle sc c) b c k r) (checked_acts (settle sc c) b c k r (settle_acts sc c) e)
    stmt_acts (tree.for v a s l b) k r e =
        aimed_at_acts (settle_place sc (tree.subscripted v tree.none)) a (settle sc a) (rests.test (record { control = v; step = s; last = l; body = b }) ∷ k)
        (place_acts sc (tree.subscripted v tree.none)) (settle_acts sc a)
    stmt_acts (tree.thru x b) k r e =
        counted_acts (settle sc x) b k (λ n. settle_stmt sc b (rests.turn ∷ after_count n b k) (rests.turning (after_count n b k))) r (settle_acts sc x)
        (λ n. stmt_acts b (rests.turn ∷ after_count n b k) (rests.turning (after_count n b k)) refl) e
    stmt_acts (tree.case x ss) k r e = selected_acts (settle sc x) ss k (settle_acts sc x)
    stmt_acts (tree.process (tree.called n es) task) k r e = prepared_acts n (settle_actuals sc es (sorts_of (callee sc n).parameters) []) task k (actuals_act sc es (sorts_of (callee sc n).parameters) [])
    stmt_acts (tree.event act n) k r e = refl
    stmt_acts (tree.write n spot ps es) k r e = line_acts es ps k []

    pub stmts_act : (ss : PStmts) (k : List Item) (r : Rest) → Ready r → Ready (settle_stmts sc ss k r)
    stmts_act tree.no_stmts k r e = e
    stmts_act (tree.stmts s ss) k r e = stmt_acts s (items ss k) (settle_stmts sc ss k r) (stmts_act ss k r e)

    pub body_acts : (b : PBody) (k : List Item) (r : Rest) → Ready r → Ready (settle_body sc b k r)
    body_acts (tree.body spot ds ss) k r e = stmts_act ss k r e

  again_acts : (loop : Loop) (k : List Item) → Ready (again sc loop k)
  again_acts loop k =
      stmt_acts loop.body (rests.run (stepped loop) ∷ rests.turn ∷ rests.test loop ∷ k)
      (settle_stmt sc (stepped loop) (rests.turn ∷ rests.test loop ∷ k) (rests.turning (rests.test loop ∷ k)))
      (stmt_acts (stepped loop) (rests.turn ∷ rests.test loop ∷ k) (rests.turning (rests.test loop ∷ k)) refl)

  tested_acts : (d : Value) (x : Half) (loop : Loop) (k : List Item) (r : Rest) → acts x ≡ true → Ready r → Ready (tested_of sc d x loop k r)
  tested_acts d (val v) loop k r e f = rest_either (is_past (whole_of d) (whole_of v)) r (again sc loop k) f (again_acts loop k)
  tested_acts d (busy h) loop k r e f = e

  differed_acts : (x : Half) (loop : Loop) (k : List Item) (r : Rest) → acts x ≡ true → Ready r → Ready (differed_of sc x loop k r)
  differed_acts (val v) loop k r e f = tested_acts v (settle sc loop.step) loop k r (settle_acts sc loop.step) f
  differed_acts (busy h) loop k r e f = e

  body_counted_acts : (b : PStmt) (k : List Item) (n : ℤ) → Ready (counted_body sc b k n)
  body_counted_acts b k n = stmt_acts b (rests.turn ∷ after_count n b k) (rests.turning (after_count n b k)) refl

  -- whatever is still to be done, its head asks for an action
  pub items_act : (k : List Item) → Ready (settle_items sc k)
  items_act [] = refl
  items_act (rests.run s ∷ k) = stmt_acts s k (settle_items sc k) (items_act k)
  items_act (rests.turn ∷ k) = refl
  items_act (rests.count n b ∷ k) = repeated_acts n (counted_body sc b k) (settle_items sc k) (body_counted_acts b k) (items_act k)
  items_act (rests.check b c ∷ k) = checked_acts (settle sc c) b c k (settle_items sc k) (settle_acts sc c) (items_act k)
  items_act (rests.test loop ∷ k) = differed_acts (settle sc (difference_in loop)) loop k (settle_items sc k) (settle_acts sc (difference_in loop)) (items_act k)
  items_act (rests.result name ∷ k) = refl
  items_act (rests.make_arrays kind ns ps ∷ k) = bounds_act ps kind ns ps k []
  items_act (rests.make_event n ∷ k) = refl

  after_acts : (a : Answer) (k : List Item) → is_answer a ≡ true → Ready (inside_or_after sc a k)
  after_acts rests.done k e = items_act k
  after_acts (rests.value v) k e = items_act k
  after_acts (rests.cell c) k e = items_act k
  after_acts (rests.place p) k e = items_act k
  after_acts rests.entered k e = e

  called_after : (typed : Bool) (a : Answer) (k : List Item) → is_answer a ≡ true → Ready (asks_called sc typed a k)
  called_after typed rests.done k e = items_act k
  called_after typed (rests.value v) k e = items_act k
  called_after typed (rests.cell c) k e = items_act k
  called_after typed (rests.place p) k e = items_act k
  called_after typed rests.entered k e = cc

  -- .. and so it is after an answer that leaves no part inside
  pub resume_acts : (r : Rest) (a : Answer) → is_answer a ≡ true → (awaits_place_in r ≡ true → is_place a ≡ true) → Ready (resume sc r a)
  resume_acts rests.over a e f = refl
  resume_acts (rests.reading name) a e f = evaluated_acts (half_of a) (half_acts sc a e)
  resume_acts (rests.giving v) a e f = refl
  resume_acts (rests.giving_place p) a e f = refl
  resume_acts (rests.store p v k) a e f = items_act k
  resume_acts (rests.select i ss k) a e f = stmt_acts (nth_stmt ss (nat_abs (whole_of i))) k (settle_items sc k) (items_act k)
  resume_acts (rests.turning k) a e f = items_act k
  resume_acts (rests.going n) a e f = refl
  resume_acts (rests.entering_block b k) a e f = after_acts a k e
  resume_acts (rests.entering n gs k) a e f = called_after (is_typed sc n) a k e
  resume_acts (rests.starting n gs task k) a e f = items_act k
  resume_acts (rests.acting act n k) a e f = items_act k
  resume_acts (rests.line ps vs k) a e f = items_act k
  resume_acts (rests.arrays kind ns pairs vs k) a e f = items_act k
  resume_acts (rests.event n k) a e f = items_act k
  resume_acts (rests.within k) a e f = items_act k
  resume_acts (rests.dropping k) a e f = items_act k
  resume_acts (rests.evaluating h) a e f = evaluated_acts (answer_put sc h a) (put_acts sc h a e)
  resume_acts (rests.locating x) a e f = located_acts (put_place sc x a) (put_place_acts sc x a e f)
  resume_acts (rests.aiming x b k) a e f = aimed_at_acts (put_place sc x a) b (settle sc b) k (put_place_acts sc x a e f) (settle_acts sc b)
  resume_acts (rests.storing p h k) a e f = assigned_acts p (answer_put sc h a) k (put_acts sc h a e)
  resume_acts (rests.choosing h x y k) a e f =
      chosen_acts (answer_put sc h a) x y k (settle_stmt sc x k (settle_items sc k)) (settle_stmt sc y k (settle_items sc k)) (put_acts sc h a e)
      (stmt_acts x k (settle_items sc k) (items_act k)) (stmt_acts y k (settle_items sc k) (items_act k))
  resume_acts (rests.looping h c b k) a e f =
      looped_acts (answer_put sc h a) c b k (settle_stmt sc b (turn_and (tree.while c b) k) (rests.turning (run_and (tree.while c b) k))) (settle_items sc k) (put_acts sc h a e)
      (stmt_acts b (turn_and (tree.while c b) k) (rests.turning (run_and (tree.while c b) k)) refl) (items_act k)
  resume_acts (rests.checking h b c k) a e f = checked_acts (answer_put sc h a) b c k (settle_items sc k) (put_acts sc h a e) (items_act k)
  resume_acts (rests.counting h b k) a e f = counted_acts (answer_put sc h a) b k (counted_body sc b k) (settle_items sc k) (put_acts sc h a e) (body_counted_acts b k) (items_act k)
  resume_acts (rests.differing h loop k) a e f = differed_acts (answer_put sc h a) loop k (settle_items sc k) (put_acts sc h a e) (items_act k)
  resume_acts (rests.stepping d h loop k) a e f = tested_acts d (answer_put sc h a) loop k (settle_items sc k) (put_acts sc h a e) (items_act k)
  resume_acts (rests.selecting h ss k) a e f = selected_acts (answer_put sc h a) ss k (put_acts sc h a e)
  resume_acts (rests.calling n x k) a e f = statement_called_acts n (put_actuals sc x a) k (put_actuals_act sc x a e)
  resume_acts (rests.preparing n x task k) a e f = prepared_acts n (put_actuals sc x a) task k (put_actuals_act sc x a e)
  resume_acts (rests.writing ps vs h es k) a e f = item_acts ps vs (answer_put sc h a) es k (settle_line sc es ps k) (put_acts sc h a e) (line_acts es ps k)
  resume_acts (rests.bounding kind ns pairs vs h ps k) a e f =
      bound_acts kind ns pairs vs (answer_put sc h a) ps k (settle_bounds sc ps kind ns pairs k) (put_acts sc h a e) (bounds_act ps kind ns pairs k)
