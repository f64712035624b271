-- The silent steps of expressions, actuals and left sides keep calls fitting.
use Rattle.std.proofs.Common.{◌≡◌, ℕ, Bool, true, false, List, [], ◌∷◌, ◌++◌, Some, None, refl, sym, ◌∙◌, subst}
use Rattle.std.specs.Prelude.{if◌then◌else◌, Option, Result, Ok, Err}
use Rattle.algol_tree.specs.declared.tree.Op.{Op}
use Rattle.algol_tree.specs.declared.tree.Named.{Named}
use Rattle.algol_tree.specs.Plain as tree
use Rattle.algol_tree.specs.Plain.{PExpr, PExprs, name_alone}
use Rattle.algol_tree.specs.Sorts.{Sort, is_formal, is_by_name, is_variable, procedure_in}
use Rattle.algol_tree.specs.Scopes.{Scopes}
use Rattle.b67_num.specs.declared.NumFault.{NumFault}
use Rattle.algol_meaning.specs.Value.{Value, truth_of, Cell}
use Rattle.algol_meaning.specs.Operators.{result_of}
use Rattle.algol_meaning.specs.Rest.{Given, valued, passed, refers, names, Hole, read, element, index, tests, broken, enter, inside, subscript, argument, left, right, negated, inverted, condition, Actuals, pass, in_value, Half, val, busy, HalfGiven, given, wants, Aim, resolve, place_index, inside_place, place_subscript, HalfPlace, at, aims, Answer, done, value, cell, place, entered, subscripts_of}
use Rattle.algol_meaning.specs.Settle.{after_result, right_of, left_of, negated_of, inverted_of, condition_of, named_of, subscripted_of, called_of, valued_of, alone_of, left_alone_of, aimed_of, half_of, half_place_of, sort_at, other_of, actual_of, settle, settle_actuals, answer_put, put_actuals, settle_place, indexed_of, put_place}
use Rattle.algol_meaning.specs.Asks as asks
use Rattle.algol_meaning.specs.Asks.{ask_hole, ask_actuals, ask_aim}
use Rattle.b67_list.proofs.Numbers.{absurd_truth}
use Rattle.algol_calls.specs.Fits.{IsLink, IsByValue, NextThen, NameLeads, IsCallee, sorts_wanted, AloneFits, ParameterStandsFor, CalledExprFits, ExprsFit, ActualsFit, GivenFits, GivenThen, GivensFit, PassFits, HoleFits, ActualsLeft, CalledPlaceFits, AimFits, LeftFits, AnswerFits}
use Rattle.algol_calls.proofs.Sorts.{variable_no_formal, by_name_else, link_true, link_for}

module _ (sc : Scopes) where
  abbrev pub HalfFits : Half → Type 0
  HalfFits (val v) = Unit {0}
  HalfFits (busy h) = HoleFits sc h

  abbrev pub HalfGivenFits : HalfGiven → List Sort → Type 0
  HalfGivenFits (given gs) all = GivensFit sc gs all
  HalfGivenFits (wants x) all = ActualsLeft sc x all

  abbrev pub HalfPlaceFits : HalfPlace → Type 0
  HalfPlaceFits (at p) = CalledPlaceFits sc p
  HalfPlaceFits (aims x) = AimFits sc x

  -- ---- operators

  after_fits : (op : Op) (v w : Value) (r : Result Value NumFault) → HalfFits (after_result op v w r)
  after_fits op v w (Ok x) = tt
  after_fits op v w (Err fault) = tt

  right_fits : (op : Op) (v : Value) (x : Half) → HalfFits x → HalfFits (right_of op v x)
  right_fits op v (val w) i = after_fits op v w (result_of op v w)
  right_fits op v (busy h) i = i

  left_fits : (op : Op) (x : Half) (b : PExpr) (s : Half) → HalfFits x → CalledExprFits sc b → HalfFits s → HalfFits (left_of op x b s)
  left_fits op (val v) b s i j l = right_fits op v s l
  left_fits op (busy h) b s i j l = (i, j)

  negated_fits : (x : Half) → HalfFits x → HalfFits (negated_of x)
  negated_fits (val v) i = tt
  negated_fits (busy h) i = i

  inverted_fits : (x : Half) → HalfFits x → HalfFits (inverted_of x)
  inverted_fits (val v) i = tt
  inverted_fits (busy h) i = i

  either_fits : (b : Bool) (s t : Half) → HalfFits s → HalfFits t → HalfFits (if b then s else t)
  either_fits true s t i j = i
  either_fits false s t i j = j

  condition_fits : (x : Half) (a b : PExpr) (s t : Half) → HalfFits x → CalledExprFits sc a → CalledExprFits sc b → HalfFits s → HalfFits t → HalfFits (condition_of x a b s t)
  condition_fits (val v) a b s t i j l m n = either_fits (truth_of v) s t m n
  condition_fits (busy h) a b s t i j l m n = (i, j, l)

  -- ---- names, subscripts, calls

  named_fits : (o : Option ℕ) (n : Named) → AloneFits sc o n → HalfFits (named_of o n)
  named_fits (Some block) n p = p
  named_fits None n p = p

  subscripted_fits : (n : Named) (ks : List ℕ) (x : Half) (es : PExprs) → NameLeads sc n → HalfFits x → ExprsFit sc es → HalfFits (subscripted_of n ks x es)
  subscripted_fits n ks (busy h) es p i j = (p, i, j)
  subscripted_fits n ks (val v) tree.none p i j = p
  subscripted_fits n ks (val v) (tree.more e es) p i j = (p, j.0, j.1)

  called_fits : (n : Named) (x : HalfGiven) → IsCallee sc n → HalfGivenFits x (sorts_wanted sc n) → HalfFits (called_of n x)
  called_fits n (given gs) p i = (p, i)
  called_fits n (wants x) p i = (p, i)

  -- ---- actuals that are done

  and_given : (X Y : List Sort → Type 0) (gs : List Given) (g : Given) (all : List Sort) → GivenThen sc X gs all →
      ((after : List Sort) → X after → GivenThen sc Y (g ∷ []) after) → GivenThen sc Y (gs ++ g ∷ []) all
  and_given X Y [] g all i f = f all i
  and_given X Y (h ∷ gs) g [] i f = absurd i
  and_given X Y (h ∷ gs) g (s ∷ all) i f = (i.0, and_given X Y gs g all i.1 f)

  given_as : (X Y : List Sort → Type 0) (gs : List Given) (all : List Sort) → ((after : List Sort) → X after → Y after) → GivenThen sc X gs all → GivenThen sc Y gs all
  given_as X Y [] all f i = f all i
  given_as X Y (g ∷ gs) [] f i = absurd i
  given_as X Y (g ∷ gs) (s ∷ all) f i = (i.0, given_as X Y gs all f i.1)

  -- these are given for all but the last, which are those sorts
  abbrev pub Leaves : List Given → List Sort → List Sort → Type 0
  Leaves gs sorts all = GivenThen sc (λ after. after ≡ sorts) gs all

  one_more : (s : Sort) (sorts all : List Sort) (gs : List Given) (g : Given) → GivenFits sc s g → Leaves gs (s ∷ sorts) all → Leaves (gs ++ g ∷ []) sorts all
  one_more s sorts all gs g f i =
      and_given (λ after. after ≡ s ∷ sorts) (λ after. after ≡ sorts) gs g all i
      (λ after e. subst (λ k. GivenThen sc (λ rest. rest ≡ sorts) (g ∷ []) k) (sym e) (f, refl))

  next_given : (F : Sort → Type 0) (sorts all : List Sort) (gs : List Given) (g : Given) → ((s : Sort) → F s → GivenFits sc s g) → GivenThen sc (NextThen F sorts) gs all →
      Leaves (gs ++ g ∷ []) sorts all
  next_given F sorts all gs g f i = and_given (NextThen F sorts) (λ after. after ≡ sorts) gs g all i by
    where
      by : (after : List Sort) → NextThen F sorts after → GivenThen sc (λ rest. rest ≡ sorts) (g ∷ []) after
      by [] x = absurd x
      by (s ∷ after) x = (f s x.0, x.1)

  then_next : (F : Sort → Type 0) (s : Sort) (sorts all : List Sort) (gs : List Given) → F s → Leaves gs (s ∷ sorts) all → GivenThen sc (NextThen F sorts) gs all
  then_next F s sorts all gs f i =
      given_as (λ after. after ≡ s ∷ sorts) (NextThen F sorts) gs all (λ after e. subst (λ k. NextThen F sorts k) (sym e) (f, refl)) i

  -- so do the actuals after it
  abbrev GoesOn : List Sort → List Sort → (List Given → HalfGiven) → Type 0
  GoesOn sorts all go_on = (gs : List Given) → Leaves gs sorts all → HalfGivenFits (go_on gs) all

  value_fits : (s : Sort) (v : Value) → IsByValue s → GivenFits sc s (valued v)
  value_fits s v e = (tt, λ f. absurd_truth (sym f ∙ e))

  valued_fits : (gs : List Given) (x : Half) (sorts all : List Sort) (es : PExprs) (go_on : List Given → HalfGiven) → GivenThen sc (NextThen IsByValue sorts) gs all → HalfFits x →
      ActualsFit sc es sorts → GoesOn sorts all go_on → HalfGivenFits (valued_of gs x sorts es go_on) all
  valued_fits gs (val v) sorts all es go_on i j l g = g (gs ++ valued v ∷ []) (next_given IsByValue sorts all gs (valued v) (λ s e. value_fits s v e) i)
  valued_fits gs (busy h) sorts all es go_on i j l g = (i, j, l)

  module _ (s : Sort) (sorts all : List Sort) (gs : List Given) (es : PExprs) (go_on : List Given → HalfGiven) (i : Leaves gs (s ∷ sorts) all) (l : ActualsFit sc es sorts)
      (g : GoesOn sorts all go_on) where
    gives : (x : Given) → GivenFits sc s x → HalfGivenFits (go_on (gs ++ x ∷ [])) all
    gives x f = g (gs ++ x ∷ []) (one_more s sorts all gs x f i)

    alone_fits : (o : Option ℕ) (formal : Bool) (n : Named) → procedure_in (sort_at sc n) ≡ o → is_formal (sort_at sc n) ≡ formal → AloneFits sc (procedure_in (sort_at sc n)) n →
        ParameterStandsFor sc s (tree.variable (tree.subscripted n tree.none)) → HalfGivenFits (alone_of o formal gs n sorts es go_on) all
    alone_fits (Some block) formal n e f p stands =
        gives (names (tree.variable (tree.subscripted n tree.none))) (p, by_name_else s (λ y z. some_none (sym e ∙ (stands y z).0)))
      where
        some_none : Some block ≡ None → ⊥
        some_none k = cc
    alone_fits None true n e f p stands =
        (then_next (PassFits sc n) s sorts all gs (record { told = subst (λ o. AloneFits sc o n) e p; formal = f; links = λ y z. (stands y z).1 }) i, l)
    alone_fits None false n e f p stands = gives (refers n) (record { told = subst (λ o. AloneFits sc o n) e p; no_formal = f }, λ y. tt)

    other_fits : (e : PExpr) → CalledExprFits sc e → ParameterStandsFor sc s e → HalfGivenFits (other_of sc (name_alone e) e gs sorts es go_on) all
    other_fits (tree.variable (tree.subscripted n tree.none)) p stands = alone_fits (procedure_in (sort_at sc n)) (is_formal (sort_at sc n)) n refl refl p stands
    other_fits e p stands = gives (names e) (p, by_name_else s stands)

    actual_fits : (by_value : Bool) (e : PExpr) (x : Half) → is_variable s ≡ by_value → CalledExprFits sc e → ParameterStandsFor sc s e → HalfFits x →
        HalfGivenFits (actual_of sc by_value e x gs sorts es go_on) all
    actual_fits true e x f p stands h = valued_fits gs x sorts all es go_on (then_next IsByValue s sorts all gs (variable_no_formal s f) i) h l g
    actual_fits false e x f p stands h = other_fits e p stands

  mutual
    pub settle_fits : (e : PExpr) → CalledExprFits sc e → HalfFits (settle sc e)
    settle_fits (tree.number z spot) i = tt
    settle_fits (tree.truth b spot) i = tt
    settle_fits (tree.variable (tree.subscripted n tree.none)) i = named_fits (procedure_in (sort_at sc n)) n i
    settle_fits (tree.variable (tree.subscripted n (tree.more e es))) i = subscripted_fits n [] (settle sc e) es i.0 (settle_fits e i.1) i.2
    settle_fits (tree.call (tree.called n es)) i = called_fits n (settle_actuals sc es (sorts_wanted sc n) []) i.0 (settle_actuals_fit es (sorts_wanted sc n) (sorts_wanted sc n) [] i.1 refl)
    settle_fits (tree.tested test es spot) i = i
    settle_fits (tree.paren e spot) i = settle_fits e i
    settle_fits (tree.plus e spot) i = settle_fits e i
    settle_fits (tree.neg e spot) i = negated_fits (settle sc e) (settle_fits e i)
    settle_fits (tree.not e spot) i = inverted_fits (settle sc e) (settle_fits e i)
    settle_fits (tree.two op a b) i = left_fits op (settle sc a) b (settle sc b) (settle_fits a i.0) i.1 (settle_fits b i.1)
    settle_fits (tree.if c x y spot) i =
        condition_fits (settle sc c) x y (settle sc x) (settle sc y) (settle_fits c i.0) i.1 i.2 (settle_fits x i.1) (settle_fits y i.2)

    pub settle_actuals_fit : (es : PExprs) (sorts all : List Sort) (gs : List Given) → ActualsFit sc es sorts → Leaves gs sorts all → HalfGivenFits (settle_actuals sc es sorts gs) all
    settle_actuals_fit tree.none [] all gs i j = j
    settle_actuals_fit tree.none (s ∷ sorts) all gs i j = absurd i
    settle_actuals_fit (tree.more e es) [] all gs i j = absurd i
    settle_actuals_fit (tree.more e es) (s ∷ sorts) all gs i j =
        actual_fits s sorts all gs es (settle_actuals sc es sorts) j i.2 (λ more k. settle_actuals_fit es sorts all more i.2 k) (is_variable s) e (settle sc e) refl i.1 i.0 (settle_fits e i.1)

  -- ---- answers

  pub half_fits : (a : Answer) → HalfFits (half_of a)
  half_fits (value v) = tt
  half_fits entered = tt
  half_fits _ = tt

  -- the own cell of a parameter, passed on
  passed_fits : (n : Named) (c : Cell) (s : Sort) → IsLink (is_by_name (sort_at sc n)) c → PassFits sc n s → GivenFits sc s (passed c)
  passed_fits n c s link f =
      (link_true (is_by_name (sort_at sc n)) c link, λ formal. link_for (is_by_name s) (is_by_name (sort_at sc n)) c (λ e. f.links formal e) link)

  mutual
    pub put_fits : (h : Hole) (a : Answer) → HoleFits sc h → AnswerFits sc (ask_hole h) a → HalfFits (answer_put sc h a)
    put_fits (read n) a i f = half_fits a
    put_fits (element n ks v) a i f = half_fits a
    put_fits (index n ks v e es) a i f = subscripted_fits n (subscripts_of a) (settle sc e) es i.0 (settle_fits e i.1) i.2
    put_fits (tests test ns) a i f = half_fits a
    put_fits (broken op v w fault) a i f = half_fits a
    put_fits (enter n gs) a i f = half_fits a
    put_fits inside a i f = half_fits a
    put_fits (subscript n ks h es) a i f = subscripted_fits n ks (answer_put sc h a) es i.0 (put_fits h a i.1 f) i.2
    put_fits (argument n x) a i f = called_fits n (put_actuals sc x a) i.0 (put_actuals_fit x a (sorts_wanted sc n) i.1 f)
    put_fits (left op h b) a i f = left_fits op (answer_put sc h a) b (settle sc b) (put_fits h a i.0 f) i.1 (settle_fits b i.1)
    put_fits (right op v h) a i f = right_fits op v (answer_put sc h a) (put_fits h a i f)
    put_fits (negated h) a i f = negated_fits (answer_put sc h a) (put_fits h a i f)
    put_fits (inverted h) a i f = inverted_fits (answer_put sc h a) (put_fits h a i f)
    put_fits (condition h x y) a i f =
        condition_fits (answer_put sc h a) x y (settle sc x) (settle sc y) (put_fits h a i.0 f) i.1 i.2 (settle_fits x i.1) (settle_fits y i.2)

    pub put_actuals_fit : (x : Actuals) (a : Answer) (all : List Sort) → ActualsLeft sc x all → AnswerFits sc (ask_actuals x) a → HalfGivenFits (put_actuals sc x a) all
    put_actuals_fit (pass gs n sorts es) (cell c) all i f =
        settle_actuals_fit es sorts all (gs ++ passed c ∷ []) i.1 (next_given (PassFits sc n) sorts all gs (passed c) (λ s g. passed_fits n c s f g) i.0)
    put_actuals_fit (pass gs n sorts es) done all i f = absurd f
    put_actuals_fit (pass gs n sorts es) (value v) all i f = absurd f
    put_actuals_fit (pass gs n sorts es) (place p) all i f = absurd f
    put_actuals_fit (pass gs n sorts es) entered all i f = absurd f
    put_actuals_fit (in_value gs h sorts es) a all i f =
        valued_fits gs (answer_put sc h a) sorts all es (settle_actuals sc es sorts) i.0 (put_fits h a i.1 f) i.2 (λ more k. settle_actuals_fit es sorts all more i.2 k)

  -- ---- left sides

  left_alone_fits : (by_name : Bool) (n : Named) → is_by_name (sort_at sc n) ≡ by_name → LeftFits sc n tree.none → HalfPlaceFits (left_alone_of by_name n)
  left_alone_fits true n e i = (i.0, e)
  left_alone_fits false n e i = record { told = i.0; no_formal = i.1 ∙ e }

  aimed_fits : (n : Named) (ks : List ℕ) (x : Half) (es : PExprs) → NameLeads sc n → HalfFits x → ExprsFit sc es → HalfPlaceFits (aimed_of n ks x es)
  aimed_fits n ks (busy h) es p i j = (p, i, j)
  aimed_fits n ks (val v) es p i j = (p, j)

  pub settle_place_fits : (n : Named) (es : PExprs) → LeftFits sc n es → HalfPlaceFits (settle_place sc (tree.subscripted n es))
  settle_place_fits n tree.none i = left_alone_fits (is_by_name (sort_at sc n)) n refl i
  settle_place_fits n (tree.more e es) i = aimed_fits n [] (settle sc e) es i.0 (settle_fits e i.1) i.2

  -- a place that answers fits
  abbrev AnswersPlace : Answer → Type 0
  AnswersPlace (place p) = CalledPlaceFits sc p
  AnswersPlace _ = Unit {0}

  half_place_fits : (a : Answer) → AnswersPlace a → HalfPlaceFits (half_place_of a)
  half_place_fits (place p) i = i
  half_place_fits _ i = tt

  resolved_place : (n : Named) (a : Answer) → AnswerFits sc (asks.resolves n) a → AnswersPlace a
  resolved_place n (place p) f = f
  resolved_place n _ f = tt

  index_place : (n : Named) (ks : List ℕ) (v : Value) (a : Answer) → AnswerFits sc (asks.indexes n ks v) a → AnswersPlace a
  index_place n ks v (place p) f = f
  index_place n ks v _ f = tt

  given_place : (a : Answer) → AnswerFits sc asks.nothing a → AnswersPlace a
  given_place (place p) f = f
  given_place _ f = tt

  indexed_fits : (n : Named) (a : Answer) (es : PExprs) → NameLeads sc n → AnswersPlace a → ExprsFit sc es → HalfPlaceFits (indexed_of sc n a es)
  indexed_fits n a tree.none p j i = half_place_fits a j
  indexed_fits n a (tree.more e es) p j i = aimed_fits n (subscripts_of a) (settle sc e) es p (settle_fits e i.0) i.1

  pub put_place_fits : (x : Aim) (a : Answer) → AimFits sc x → AnswerFits sc (ask_aim x) a → HalfPlaceFits (put_place sc x a)
  put_place_fits (resolve n) a i f = half_place_fits a (resolved_place n a f)
  put_place_fits (place_index n ks v es) a i f = indexed_fits n a es i.0 (index_place n ks v a f) i.1
  put_place_fits inside_place a i f = half_place_fits a (given_place a f)
  put_place_fits (place_subscript n ks h es) a i f = aimed_fits n ks (answer_put sc h a) es i.0 (put_fits h a i.1 f) i.2
