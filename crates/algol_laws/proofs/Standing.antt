-- In each world of a run every part has a head that asks for an action, and every part around it waits for what the inner one gives.
use Rattle.std.proofs.Common.{◌≡◌, refl, sym, subst, ℕ, zero, suc, List, [], ◌∷◌, ◌++◌, Option, Bool, true, false}
use Rattle.std.specs.Prelude.{if◌then◌else◌, ◌==◌, slice_get, slice_set, ℤ}
use Rattle.b67_list.specs.Numbered.{set_numbered}
use Rattle.algol_tree.specs.declared.tree.Kind.{Kind}
use Rattle.algol_tree.specs.declared.tree.Named.{Named}
use Rattle.algol_tree.specs.declared.tree.Op.{Op}
use Rattle.algol_tree.specs.Plain as tree
use Rattle.algol_tree.specs.Plain.{PExpr, PExprs, PPair, PStmt, PStmts, PProgram}
use Rattle.algol_tree.specs.declared.tree.PhraseText.{PhraseText}
use Rattle.algol_tree.specs.Scopes.{Scopes}
use Rattle.algol_tree.specs.Sorts.{Sort}
use Rattle.algol_meaning.specs.Value.{Value, Reference}
use Rattle.algol_meaning.specs.Rest as rests
use Rattle.algol_meaning.specs.Rest.{Place, own, there, element_of, Given, Hole, Actuals, Half, val, busy, HalfGiven, given, wants, Aim, HalfPlace, at, aims, Loop, Item, Rest, Answer, done, value, cell, place, entered}
use Rattle.algol_meaning.specs.Settle.{is_typed, subscripted_of, called_of, valued_of, left_of, right_of, condition_of, negated_of, inverted_of, aimed_of, settle, settle_actuals, answer_put, put_actuals, put_place}
use Rattle.algol_meaning.specs.Statements.{assigned_of, aimed_at, chosen_of, looped_of, checked_of, counted_of, counted_body, selected_of, statement_called_of, prepared_of, item_of, bound_of, tested_of, differed_of, settle_line, settle_bounds, settle_stmt, run_and, turn_and, settle_items}
use Rattle.algol_meaning.specs.World.{Purpose, able, started, set_able, set_all_able, block, procedure, name_read, name_place, Part, Process, World, process_at, or_no_process}
use Rattle.algol_meaning.specs.Critical.{is_evaluation}
use Rattle.algol_meaning.specs.Instances.{cut_at, is_part_of}
use Rattle.algol_meaning.specs.Events.{list_in, woken_by, withdrawn, all_withdrawn}
use Rattle.algol_meaning.specs.Asks as asks
use Rattle.algol_meaning.specs.Asks.{Ask, ask_hole, ask_actuals, ask_aim, ask, resume, asks_called, evaluated_of, located_of}
use Rattle.algol_laws.proofs.Heads.{acts_rest, is_answer, is_place, awaits_place, awaits_place_in}
use Rattle.algol_laws.proofs.Releasing.{forgotten_processes}

-- ---- what a head leaves, and whether it awaits a place

abbrev pub is_leaving : Ask → Bool
is_leaving (asks.leaves a) = true
is_leaving _ = false

mutual
  hole_stays : (h : Hole) → is_leaving (ask_hole h) ≡ false
  hole_stays (rests.read n) = refl
  hole_stays (rests.element n ks i) = refl
  hole_stays (rests.index n ks i e es) = refl
  hole_stays (rests.tests test ns) = refl
  hole_stays (rests.broken op v w f) = refl
  hole_stays (rests.enter n gs) = refl
  hole_stays rests.inside = refl
  hole_stays (rests.subscript n ks h es) = hole_stays h
  hole_stays (rests.argument n x) = actuals_stay x
  hole_stays (rests.left op h b) = hole_stays h
  hole_stays (rests.right op v h) = hole_stays h
  hole_stays (rests.negated h) = hole_stays h
  hole_stays (rests.inverted h) = hole_stays h
  hole_stays (rests.condition h x y) = hole_stays h

  actuals_stay : (x : Actuals) → is_leaving (ask_actuals x) ≡ false
  actuals_stay (rests.pass gs n sorts es) = refl
  actuals_stay (rests.in_value gs h sorts es) = hole_stays h

aim_stays : (x : Aim) → is_leaving (ask_aim x) ≡ false
aim_stays (rests.resolve n) = refl
aim_stays (rests.place_index n ks i es) = refl
aim_stays rests.inside_place = refl
aim_stays (rests.place_subscript n ks h es) = hole_stays h

abbrev pub is_place_purpose : Purpose → Bool
is_place_purpose name_place = true
is_place_purpose _ = false

-- of the rest of a part whose place is asked for
abbrev pub gives_place : Rest → Bool
gives_place (rests.locating x) = true
gives_place (rests.giving_place p) = true
gives_place _ = false

pub gives_still : (sc : Scopes) (r : Rest) (a : Answer) → gives_place r ≡ true → gives_place (resume sc r a) ≡ true
gives_still sc (rests.giving_place p) a e = refl
gives_still sc (rests.locating x) a e = located (put_place sc x a)
  where
    located : (x : HalfPlace) → gives_place (located_of x) ≡ true
    located (at p) = refl
    located (aims x) = refl
gives_still sc _ a e = cc

abbrev pub leaves_answer : Ask → Bool
leaves_answer (asks.leaves a) = is_answer a
leaves_answer _ = true

abbrev pub leaves_place : Ask → Bool
leaves_place (asks.leaves a) = is_place a
leaves_place _ = true

stays_answer : (a : Ask) → is_leaving a ≡ false → leaves_answer a ≡ true
stays_answer (asks.leaves a) e = cc
stays_answer _ e = refl

stays_place : (a : Ask) → is_leaving a ≡ false → leaves_place a ≡ true
stays_place (asks.leaves a) e = cc
stays_place _ e = refl

pub answers : (r : Rest) → leaves_answer (ask r) ≡ true
answers rests.over = refl
answers (rests.reading name) = refl
answers (rests.giving v) = refl
answers (rests.giving_place p) = refl
answers (rests.store p v k) = refl
answers (rests.select i ss k) = refl
answers (rests.turning k) = refl
answers (rests.going n) = refl
answers (rests.entering_block b k) = refl
answers (rests.entering n gs k) = refl
answers (rests.starting n gs task k) = refl
answers (rests.acting act n k) = refl
answers (rests.line ps vs k) = refl
answers (rests.arrays kind ns pairs vs k) = refl
answers (rests.event n k) = refl
answers (rests.within k) = refl
answers (rests.dropping k) = refl
answers (rests.evaluating h) = stays_answer (ask_hole h) (hole_stays h)
answers (rests.locating x) = stays_answer (ask_aim x) (aim_stays x)
answers (rests.aiming x e k) = stays_answer (ask_aim x) (aim_stays x)
answers (rests.storing p h k) = stays_answer (ask_hole h) (hole_stays h)
answers (rests.choosing h x y k) = stays_answer (ask_hole h) (hole_stays h)
answers (rests.looping h c b k) = stays_answer (ask_hole h) (hole_stays h)
answers (rests.checking h b c k) = stays_answer (ask_hole h) (hole_stays h)
answers (rests.counting h b k) = stays_answer (ask_hole h) (hole_stays h)
answers (rests.differing h loop k) = stays_answer (ask_hole h) (hole_stays h)
answers (rests.stepping d h loop k) = stays_answer (ask_hole h) (hole_stays h)
answers (rests.selecting h ss k) = stays_answer (ask_hole h) (hole_stays h)
answers (rests.calling n x k) = stays_answer (ask_actuals x) (actuals_stay x)
answers (rests.preparing n x task k) = stays_answer (ask_actuals x) (actuals_stay x)
answers (rests.writing ps vs h es k) = stays_answer (ask_hole h) (hole_stays h)
answers (rests.bounding kind ns pairs vs h ps k) = stays_answer (ask_hole h) (hole_stays h)

pub places : (r : Rest) → gives_place r ≡ true → leaves_place (ask r) ≡ true
places (rests.giving_place p) e = refl
places (rests.locating x) e = stays_place (ask_aim x) (aim_stays x)
places _ e = cc

-- ---- what awaits a place asks for one

abbrev pub asks_place : Ask → Bool
asks_place asks.nothing = true
asks_place (asks.indexes n ks v) = true
asks_place (asks.resolves n) = true
asks_place _ = false

aim_asks : (x : Aim) → awaits_place x ≡ true → asks_place (ask_aim x) ≡ true
aim_asks (rests.resolve n) e = refl
aim_asks (rests.place_index n ks i es) e = refl
aim_asks rests.inside_place e = refl
aim_asks (rests.place_subscript n ks h es) e = cc

pub awaiting_asks : (r : Rest) → awaits_place_in r ≡ true → asks_place (ask r) ≡ true
awaiting_asks (rests.locating x) e = aim_asks x e
awaiting_asks (rests.aiming x b k) e = aim_asks x e
awaiting_asks _ e = cc

-- ---- what opens a part whose place is not asked for

abbrev pub opens_plain : Ask → Bool
opens_plain (asks.reads n) = true
opens_plain (asks.enters n gs) = true
opens_plain (asks.enters_block b) = true
opens_plain _ = false

abbrev pub is_busy : Half → Bool
is_busy (busy h) = true
is_busy (val v) = false

abbrev pub is_wanting : HalfGiven → Bool
is_wanting (wants x) = true
is_wanting (given gs) = false

subscripted_busy : (n : Named) (ks : List ℕ) (x : Half) (es : PExprs) → is_busy x ≡ true → is_busy (subscripted_of n ks x es) ≡ true
subscripted_busy n ks (busy h) es e = refl
subscripted_busy n ks (val v) es e = cc

called_busy : (n : Named) (x : HalfGiven) → is_wanting x ≡ true → is_busy (called_of n x) ≡ true
called_busy n (wants x) e = refl
called_busy n (given gs) e = cc

left_busy : (op : Op) (x : Half) (b : PExpr) (s : Half) → is_busy x ≡ true → is_busy (left_of op x b s) ≡ true
left_busy op (busy h) b s e = refl
left_busy op (val v) b s e = cc

right_busy : (op : Op) (v : Value) (x : Half) → is_busy x ≡ true → is_busy (right_of op v x) ≡ true
right_busy op v (busy h) e = refl
right_busy op v (val w) e = cc

negated_busy : (x : Half) → is_busy x ≡ true → is_busy (negated_of x) ≡ true
negated_busy (busy h) e = refl
negated_busy (val v) e = cc

inverted_busy : (x : Half) → is_busy x ≡ true → is_busy (inverted_of x) ≡ true
inverted_busy (busy h) e = refl
inverted_busy (val v) e = cc

condition_busy : (x : Half) (a b : PExpr) (s t : Half) → is_busy x ≡ true → is_busy (condition_of x a b s t) ≡ true
condition_busy (busy h) a b s t e = refl
condition_busy (val v) a b s t e = cc

valued_wants : (gs : List Given) (x : Half) (sorts : List Sort) (es : PExprs) (go_on : List Given → HalfGiven) → is_busy x ≡ true → is_wanting (valued_of gs x sorts es go_on) ≡ true
valued_wants gs (busy h) sorts es go_on e = refl
valued_wants gs (val v) sorts es go_on e = cc

module _ (sc : Scopes) where
  mutual
    put_busy : (h : Hole) → opens_plain (ask_hole h) ≡ true → is_busy (answer_put sc h entered) ≡ true
    put_busy (rests.read n) e = refl
    put_busy (rests.element n ks i) e = cc
    put_busy (rests.index n ks i x es) e = cc
    put_busy (rests.tests test ns) e = cc
    put_busy (rests.broken op v w f) e = cc
    put_busy (rests.enter n gs) e = refl
    put_busy rests.inside e = cc
    put_busy (rests.subscript n ks h es) e = subscripted_busy n ks (answer_put sc h entered) es (put_busy h e)
    put_busy (rests.argument n x) e = called_busy n (put_actuals sc x entered) (put_wants x e)
    put_busy (rests.left op h b) e = left_busy op (answer_put sc h entered) b (settle sc b) (put_busy h e)
    put_busy (rests.right op v h) e = right_busy op v (answer_put sc h entered) (put_busy h e)
    put_busy (rests.negated h) e = negated_busy (answer_put sc h entered) (put_busy h e)
    put_busy (rests.inverted h) e = inverted_busy (answer_put sc h entered) (put_busy h e)
    put_busy (rests.condition h x y) e = condition_busy (answer_put sc h entered) x y (settle sc x) (settle sc y) (put_busy h e)

    put_wants : (x : Actuals) → opens_plain (ask_actuals x) ≡ true → is_wanting (put_actuals sc x entered) ≡ true
    put_wants (rests.pass gs n sorts es) e = cc
    put_wants (rests.in_value gs h sorts es) e = valued_wants gs (answer_put sc h entered) sorts es (settle_actuals sc es sorts) (put_busy h e)

  -- a place whose subscript is in progress
  in_subscript : (n : Named) (ks : List ℕ) (x : Half) (es : PExprs) → is_busy x ≡ true → awaits_place_in (located_of (aimed_of n ks x es)) ≡ false
  in_subscript n ks (busy h) es e = refl
  in_subscript n ks (val v) es e = cc

  in_left_subscript : (n : Named) (ks : List ℕ) (x : Half) (es : PExprs) (e : PExpr) (s : Half) (k : List Item) → is_busy x ≡ true →
      awaits_place_in (aimed_at (aimed_of n ks x es) e s k) ≡ false
  in_left_subscript n ks (busy h) es b s k e = refl
  in_left_subscript n ks (val v) es b s k e = cc

  in_chosen : (x : Half) (a b : PStmt) (k : List Item) (s t : Rest) → is_busy x ≡ true → awaits_place_in (chosen_of x a b k s t) ≡ false
  in_chosen (busy h) a b k s t e = refl
  in_chosen (val v) a b k s t e = cc

  in_looped : (x : Half) (c : PExpr) (b : PStmt) (k : List Item) (s t : Rest) → is_busy x ≡ true → awaits_place_in (looped_of x c b k s t) ≡ false
  in_looped (busy h) c b k s t e = refl
  in_looped (val v) c b k s t e = cc

  in_checked : (x : Half) (b : PStmt) (c : PExpr) (k : List Item) (s : Rest) → is_busy x ≡ true → awaits_place_in (checked_of x b c k s) ≡ false
  in_checked (busy h) b c k s e = refl
  in_checked (val v) b c k s e = cc

  in_counted : (x : Half) (b : PStmt) (k : List Item) (s : ℤ → Rest) (t : Rest) → is_busy x ≡ true → awaits_place_in (counted_of x b k s t) ≡ false
  in_counted (busy h) b k s t e = refl
  in_counted (val v) b k s t e = cc

  in_differed : (x : Half) (loop : Loop) (k : List Item) (s : Rest) → is_busy x ≡ true → awaits_place_in (differed_of sc x loop k s) ≡ false
  in_differed (busy h) loop k s e = refl
  in_differed (val v) loop k s e = cc

  in_tested : (d : Value) (x : Half) (loop : Loop) (k : List Item) (s : Rest) → is_busy x ≡ true → awaits_place_in (tested_of sc d x loop k s) ≡ false
  in_tested d (busy h) loop k s e = refl
  in_tested d (val v) loop k s e = cc

  in_item : (ps : List PhraseText) (vs : List Value) (x : Half) (es : PExprs) (k : List Item) (go_on : List Value → Rest) → is_busy x ≡ true →
      awaits_place_in (item_of ps vs x es k go_on) ≡ false
  in_item ps vs (busy h) es k go_on e = refl
  in_item ps vs (val v) es k go_on e = cc

  in_bound : (kind : Kind) (ns : List Named) (pairs : List PPair) (vs : List Value) (x : Half) (ps : List PPair) (k : List Item) (go_on : List Value → Rest) → is_busy x ≡ true →
      awaits_place_in (bound_of kind ns pairs vs x ps k go_on) ≡ false
  in_bound kind ns pairs vs (busy h) ps k go_on e = refl
  in_bound kind ns pairs vs (val v) ps k go_on e = cc

  in_assigned : (p : Place) (x : Half) (k : List Item) → awaits_place_in (assigned_of p x k) ≡ false
  in_assigned p (busy h) k = refl
  in_assigned p (val v) k = refl

  in_evaluated : (x : Half) → awaits_place_in (evaluated_of x) ≡ false
  in_evaluated (busy h) = refl
  in_evaluated (val v) = refl

  in_selected : (x : Half) (ss : PStmts) (k : List Item) → awaits_place_in (selected_of x ss k) ≡ false
  in_selected (busy h) ss k = refl
  in_selected (val v) ss k = refl

  in_called : (n : Named) (x : HalfGiven) (k : List Item) → awaits_place_in (statement_called_of n x k) ≡ false
  in_called n (wants x) k = refl
  in_called n (given gs) k = refl

  in_prepared : (n : Named) (x : HalfGiven) (task : Option Named) (k : List Item) → awaits_place_in (prepared_of n x task k) ≡ false
  in_prepared n (wants x) task k = refl
  in_prepared n (given gs) task k = refl

  in_call : (typed : Bool) (k : List Item) → awaits_place_in (asks_called sc typed entered k) ≡ false
  in_call true k = refl
  in_call false k = refl

  -- once a part inside is open whose place is not asked for, no place is awaited
  pub opened : (r : Rest) → opens_plain (ask r) ≡ true → awaits_place_in (resume sc r entered) ≡ false
  opened (rests.entering_block b k) e = refl
  opened (rests.entering n gs k) e = in_call (is_typed sc n) k
  opened (rests.evaluating h) e = in_evaluated (answer_put sc h entered)
  opened (rests.locating (rests.resolve n)) e = cc
  opened (rests.locating (rests.place_index n ks i es)) e = cc
  opened (rests.locating rests.inside_place) e = cc
  opened (rests.locating (rests.place_subscript n ks h es)) e = in_subscript n ks (answer_put sc h entered) es (put_busy h e)
  opened (rests.aiming (rests.resolve n) b k) e = cc
  opened (rests.aiming (rests.place_index n ks i es) b k) e = cc
  opened (rests.aiming rests.inside_place b k) e = cc
  opened (rests.aiming (rests.place_subscript n ks h es) b k) e = in_left_subscript n ks (answer_put sc h entered) es b (settle sc b) k (put_busy h e)
  opened (rests.storing p h k) e = in_assigned p (answer_put sc h entered) k
  opened (rests.choosing h x y k) e = in_chosen (answer_put sc h entered) x y k (settle_stmt sc x k (settle_items sc k)) (settle_stmt sc y k (settle_items sc k)) (put_busy h e)
  opened (rests.looping h c b k) e =
      in_looped (answer_put sc h entered) c b k (settle_stmt sc b (turn_and (tree.while c b) k) (rests.turning (run_and (tree.while c b) k))) (settle_items sc k) (put_busy h e)
  opened (rests.checking h b c k) e = in_checked (answer_put sc h entered) b c k (settle_items sc k) (put_busy h e)
  opened (rests.counting h b k) e = in_counted (answer_put sc h entered) b k (counted_body sc b k) (settle_items sc k) (put_busy h e)
  opened (rests.differing h loop k) e = in_differed (answer_put sc h entered) loop k (settle_items sc k) (put_busy h e)
  opened (rests.stepping d h loop k) e = in_tested d (answer_put sc h entered) loop k (settle_items sc k) (put_busy h e)
  opened (rests.selecting h ss k) e = in_selected (answer_put sc h entered) ss k
  opened (rests.calling n x k) e = in_called n (put_actuals sc x entered) k
  opened (rests.preparing n x task k) e = in_prepared n (put_actuals sc x entered) task k
  opened (rests.writing ps vs h es k) e = in_item ps vs (answer_put sc h entered) es k (settle_line sc es ps k) (put_busy h e)
  opened (rests.bounding kind ns pairs vs h ps k) e = in_bound kind ns pairs vs (answer_put sc h entered) ps k (settle_bounds sc ps kind ns pairs k) (put_busy h e)
  opened _ e = cc

  -- ---- parts

  -- the part around one of this purpose goes on with what that gives
  abbrev pub Awaits : Purpose → Rest → Type 0
  Awaits purpose r = (a : Answer) → is_answer a ≡ true → (is_place_purpose purpose ≡ true → is_place a ≡ true) → acts_rest (resume sc r a) ≡ true

  abbrev pub Shaped : Part → Type 0
  Shaped x = is_place_purpose x.purpose ≡ true → gives_place x.rest ≡ true

  abbrev pub Around : Purpose → List Part → Type 0
  Around purpose [] = Unit {0}
  Around purpose (x ∷ xs) = Awaits purpose x.rest × Shaped x × Around x.purpose xs

  abbrev pub Stands : List Part → Type 0
  Stands [] = Unit {0}
  Stands (x ∷ xs) = (acts_rest x.rest ≡ true) × Shaped x × Around x.purpose xs

  abbrev pub AllStand : List Process → Type 0
  AllStand [] = Unit {0}
  AllStand (q ∷ qs) = Stands q.todo × AllStand qs

  -- ---- processes

  all_set : (qs : List Process) (k : ℕ) (r : Process) → AllStand qs → Stands r.todo → AllStand (slice_set qs k r)
  all_set [] k r f g = f
  all_set (q ∷ qs) zero r f g = (g, f.1)
  all_set (q ∷ qs) (suc k) r f g = (f.0, all_set qs k r f.1 g)

  pub all_numbered : (qs : List Process) (i : ℕ) (r : Process) → AllStand qs → Stands r.todo → AllStand (set_numbered qs i r)
  all_numbered qs zero r f g = f
  all_numbered qs (suc k) r f g = all_set qs k r f g

  pub all_more : (qs : List Process) (r : Process) → AllStand qs → Stands r.todo → AllStand (qs ++ r ∷ [])
  all_more [] r f g = (g, f)
  all_more (q ∷ qs) r f g = (f.0, all_more qs r f.1 g)

  all_got : (qs : List Process) (k : ℕ) → AllStand qs → Stands ((or_no_process (slice_get qs k)).todo)
  all_got [] k f = f
  all_got (q ∷ qs) zero f = f.0
  all_got (q ∷ qs) (suc k) f = all_got qs k f.1

  pub all_at : (w : World) (i : ℕ) → AllStand w.processes → Stands ((process_at w i).todo)
  all_at w zero f = record {}
  all_at w (suc k) f = all_got w.processes k f

  pub all_able : (w : World) (rs : List ℕ) → AllStand w.processes → AllStand ((set_all_able w rs).processes)
  all_able w [] f = f
  all_able w (i ∷ rs) f = all_able (set_able w i) rs (all_numbered w.processes i (record (process_at w i) { state = able }) f (all_at w i f))

  pub all_woken : (w : World) (r : Reference) (ps : List ℕ) → AllStand w.processes → AllStand ((all_withdrawn w r ps).processes)
  all_woken w r [] f = f
  all_woken w r (i ∷ ps) f =
      all_woken (withdrawn w r i) r ps
      (subst (λ qs. AllStand (set_numbered qs i (record (process_at w i) { woken = woken_by r (process_at w i) })))
      (sym (forgotten_processes w i (list_in (process_at w i).state)))
      (all_numbered w.processes i (record (process_at w i) { woken = woken_by r (process_at w i) }) f (all_at w i f)))

  -- ---- GO TO: what is left when newer parts have ended

  abbrev pub Inside : List Part → Type 0
  Inside [] = Unit {0}
  Inside (x ∷ xs) = Around x.purpose xs

  abbrev pub Target : List Part → Type 0
  Target [] = Unit {0}
  Target (x ∷ xs) = (is_place_purpose x.purpose ≡ false) × Around x.purpose xs

  target : (x : Part) (i : ℕ) → is_part_of x i ≡ true → is_place_purpose x.purpose ≡ false
  target x i e = by x.purpose e
    where
      by : (purpose : Purpose) → (if is_evaluation purpose then false else x.instance == i) ≡ true → is_place_purpose purpose ≡ false
      by block e = refl
      by procedure e = refl
      by name_read e = refl
      by name_place e = cc
      by started e = refl

  inner : (x : Part) (xs : List Part) → Around x.purpose xs → Inside xs
  inner x [] f = record {}
  inner x (y ∷ ys) f = f.2

  pub cut_stands : (newer parts : List Part) (i : ℕ) → Inside parts → Target ((cut_at newer parts i).from)
  cut_stands newer [] i f = record {}
  cut_stands newer (x ∷ xs) i f = by (is_part_of x i) refl (cut_stands (newer ++ x ∷ []) xs i (inner x xs f))
    where
      by : (b : Bool) → is_part_of x i ≡ b → Target ((cut_at (newer ++ x ∷ []) xs i).from) →
          Target ((if b then record { newer = newer; from = x ∷ xs } else cut_at (newer ++ x ∷ []) xs i).from)
      by true e g = (target x i e, f)
      by false e g = g
