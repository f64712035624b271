-- The silent steps of expressions, actuals and left sides keep to the text: what is left up to the head has the names of what it came from.
use Rattle.std.proofs.Common.{◌≡◌, ℕ, Bool, true, false, List, [], ◌∷◌, ◌++◌, Some, None, refl, subst}
use Rattle.std.specs.Prelude.{if◌then◌else◌, pos, Option, Result, Ok, Err}
use Rattle.algol_tree.specs.declared.tree.Op.{Op}
use Rattle.algol_tree.specs.declared.tree.Named.{Named}
use Rattle.algol_tree.specs.Plain as tree
use Rattle.algol_tree.specs.Plain.{PExpr, PExprs, name_alone}
use Rattle.algol_tree.specs.Sorts.{Sort, is_formal, is_by_name, is_variable, procedure_in}
use Rattle.algol_tree.specs.Scopes.{Scopes}
use Rattle.algol_tree.proofs.Alone.{named_alone}
use Rattle.b67_num.specs.declared.NumFault.{NumFault}
use Rattle.algol_meaning.specs.Value.{Value, number, truth_of, simple}
use Rattle.algol_meaning.specs.Operators.{result_of}
use Rattle.algol_meaning.specs.Rest.{Given, valued, passed, refers, names, Hole, read, element, index, tests, broken, enter, inside, subscript, argument, left, right, negated, inverted, condition, Actuals, pass, in_value, Half, val, busy, HalfGiven, given, wants, Aim, resolve, place_index, inside_place, place_subscript, HalfPlace, at, aims, Answer, value, place, entered, cell_of_answer, subscripts_of}
use Rattle.algol_meaning.specs.Settle.{after_result, right_of, left_of, negated_of, inverted_of, condition_of, named_of, subscripted_of, called_of, valued_of, alone_of, sorts_of, left_alone_of, aimed_of, half_of, half_place_of, callee, sort_at, other_of, actual_of, first_actual_of, settle, settle_actuals, answer_put, put_actuals, settle_place, indexed_of, put_place}
use Rattle.algol_paths.specs.Texts.{InExpr, InExprs, InPlace, InGivens, InHole, InActuals, InAim, InAnswer}

module _ (P : Named → Type 0) where
  abbrev pub InHalf : Half → Type 0
  InHalf (val v) = Unit {0}
  InHalf (busy h) = InHole P h

  abbrev pub InHalfGiven : HalfGiven → Type 0
  InHalfGiven (given gs) = InGivens P gs
  InHalfGiven (wants x) = InActuals P x

  abbrev pub InHalfPlace : HalfPlace → Type 0
  InHalfPlace (at p) = InPlace P p
  InHalfPlace (aims x) = InAim P x

  -- ---- operators

  after_in : (op : Op) (v w : Value) (r : Result Value NumFault) → InHalf (after_result op v w r)
  after_in op v w (Ok x) = tt
  after_in op v w (Err fault) = tt

  right_in : (op : Op) (v : Value) (x : Half) → InHalf x → InHalf (right_of op v x)
  right_in op v (val w) i = after_in op v w (result_of op v w)
  right_in op v (busy h) i = i

  left_in : (op : Op) (x : Half) (b : PExpr) (s : Half) → InHalf x → InExpr P b → InHalf s → InHalf (left_of op x b s)
  left_in op (val v) b s i j l = right_in op v s l
  left_in op (busy h) b s i j l = (i, j)

  negated_in : (x : Half) → InHalf x → InHalf (negated_of x)
  negated_in (val v) i = tt
  negated_in (busy h) i = i

  inverted_in : (x : Half) → InHalf x → InHalf (inverted_of x)
  inverted_in (val v) i = tt
  inverted_in (busy h) i = i

  either_in : (b : Bool) (s t : Half) → InHalf s → InHalf t → InHalf (if b then s else t)
  either_in true s t i j = i
  either_in false s t i j = j

  condition_in : (x : Half) (a b : PExpr) (s t : Half) → InHalf x → InExpr P a → InExpr P b → InHalf s → InHalf t → InHalf (condition_of x a b s t)
  condition_in (val v) a b s t i j l m n = either_in (truth_of v) s t m n
  condition_in (busy h) a b s t i j l m n = (i, j, l)

  -- ---- names, subscripts, calls

  named_in : (o : Option ℕ) (n : Named) → P n → InHalf (named_of o n)
  named_in (Some block) n p = (p, tt)
  named_in None n p = p

  subscripted_in : (n : Named) (ks : List ℕ) (x : Half) (es : PExprs) → P n → InHalf x → InExprs P es → InHalf (subscripted_of n ks x es)
  subscripted_in n ks (busy h) es p i j = (p, i, j)
  subscripted_in n ks (val v) tree.none p i j = p
  subscripted_in n ks (val v) (tree.more e es) p i j = (p, j.0, j.1)

  called_in : (n : Named) (x : HalfGiven) → P n → InHalfGiven x → InHalf (called_of n x)
  called_in n (given gs) p i = (p, i)
  called_in n (wants x) p i = (p, i)

  -- one more actual that is done
  and_given : (gs : List Given) (g : Given) → InGivens P gs → InGivens P (g ∷ []) → InGivens P (gs ++ g ∷ [])
  and_given [] g i j = j
  and_given (refers n ∷ gs) g i j = (i.0, and_given gs g i.1 j)
  and_given (names e ∷ gs) g i j = (i.0, and_given gs g i.1 j)
  and_given (valued v ∷ gs) g i j = and_given gs g i j
  and_given (passed c ∷ gs) g i j = and_given gs g i j

  -- so do the actuals after it
  abbrev GoesOn : (List Given → HalfGiven) → Type 0
  GoesOn go_on = (gs : List Given) → InGivens P gs → InHalfGiven (go_on gs)

  valued_in : (gs : List Given) (x : Half) (sorts : List Sort) (es : PExprs) (go_on : List Given → HalfGiven) → InGivens P gs → InHalf x → InExprs P es → GoesOn go_on →
      InHalfGiven (valued_of gs x sorts es go_on)
  valued_in gs (val v) sorts es go_on i j l g = g (gs ++ valued v ∷ []) (and_given gs (valued v) i tt)
  valued_in gs (busy h) sorts es go_on i j l g = (i, j, l)

  alone_in : (o : Option ℕ) (formal : Bool) (gs : List Given) (n : Named) (sorts : List Sort) (es : PExprs) (go_on : List Given → HalfGiven) → P n → InGivens P gs → InExprs P es →
      GoesOn go_on → InHalfGiven (alone_of o formal gs n sorts es go_on)
  alone_in (Some block) formal gs n sorts es go_on p i j g =
      let alone = tree.variable (tree.subscripted n tree.none) in
      g (gs ++ names alone ∷ []) (and_given gs (names alone) i ((p, tt), tt))
  alone_in None true gs n sorts es go_on p i j g = (i, p, j)
  alone_in None false gs n sorts es go_on p i j g = g (gs ++ refers n ∷ []) (and_given gs (refers n) i (p, tt))

  -- ---- left sides

  left_alone_in : (by_name : Bool) (n : Named) → P n → InHalfPlace (left_alone_of by_name n)
  left_alone_in true n p = p
  left_alone_in false n p = p

  aimed_in : (n : Named) (ks : List ℕ) (x : Half) (es : PExprs) → P n → InHalf x → InExprs P es → InHalfPlace (aimed_of n ks x es)
  aimed_in n ks (busy h) es p i j = (p, i, j)
  aimed_in n ks (val v) es p i j = (p, j)

  -- ---- answers

  pub half_in : (a : Answer) → InHalf (half_of a)
  half_in (value v) = tt
  half_in entered = tt
  half_in _ = tt

  half_place_in : (a : Answer) → InAnswer P a → InHalfPlace (half_place_of a)
  half_place_in (place p) i = i
  half_place_in _ i = tt

  module _ (sc : Scopes) where
    other_in : (o : Option Named) (e : PExpr) (gs : List Given) (sorts : List Sort) (es : PExprs) (go_on : List Given → HalfGiven) → name_alone e ≡ o → InExpr P e → InGivens P gs → InExprs P es → GoesOn go_on →
        InHalfGiven (other_of sc o e gs sorts es go_on)
    other_in (Some n) e gs sorts es go_on is i j l g =
        alone_in (procedure_in (sort_at sc n)) (is_formal (sort_at sc n)) gs n sorts es go_on (subst (InExpr P) (named_alone e n is) i).0 j l g
    other_in None e gs sorts es go_on is i j l g = g (gs ++ names e ∷ []) (and_given gs (names e) j (i, tt))

    actual_in : (by_value : Bool) (e : PExpr) (x : Half) (gs : List Given) (sorts : List Sort) (es : PExprs) (go_on : List Given → HalfGiven) → InExpr P e → InHalf x → InGivens P gs →
        InExprs P es → GoesOn go_on → InHalfGiven (actual_of sc by_value e x gs sorts es go_on)
    actual_in true e x gs sorts es go_on i h j l g = valued_in gs x sorts es go_on j h l g
    actual_in false e x gs sorts es go_on i h j l g = other_in (name_alone e) e gs sorts es go_on refl i j l g

    first_actual_in : (sorts : List Sort) (e : PExpr) (x : Half) (gs : List Given) (es : PExprs) (go_on : List Sort → List Given → HalfGiven) → InExpr P e → InHalf x → InGivens P gs →
        InExprs P es → ((after : List Sort) → GoesOn (go_on after)) → InHalfGiven (first_actual_of sc sorts e x gs es go_on)
    first_actual_in [] e x gs es go_on i h j l g = g [] gs j
    first_actual_in (s ∷ sorts) e x gs es go_on i h j l g = actual_in (is_variable s) e x gs sorts es (go_on sorts) i h j l (g sorts)

    mutual
      pub settle_in : (e : PExpr) → InExpr P e → InHalf (settle sc e)
      settle_in (tree.number z spot) i = tt
      settle_in (tree.truth b spot) i = tt
      settle_in (tree.variable (tree.subscripted n tree.none)) i = named_in (procedure_in (sort_at sc n)) n i.0
      settle_in (tree.variable (tree.subscripted n (tree.more e es))) i = subscripted_in n [] (settle sc e) es i.0 (settle_in e (i.1).0) (i.1).1
      settle_in (tree.call (tree.called n es)) i =
          called_in n (settle_actuals sc es (sorts_of (callee sc n).parameters) []) i.0 (settle_actuals_in es (sorts_of (callee sc n).parameters) [] i.1 tt)
      settle_in (tree.tested test es spot) i = i
      settle_in (tree.paren e spot) i = settle_in e i
      settle_in (tree.plus e spot) i = settle_in e i
      settle_in (tree.neg e spot) i = negated_in (settle sc e) (settle_in e i)
      settle_in (tree.not e spot) i = inverted_in (settle sc e) (settle_in e i)
      settle_in (tree.two op a b) i = left_in op (settle sc a) b (settle sc b) (settle_in a i.0) i.1 (settle_in b i.1)
      settle_in (tree.if c x y spot) i =
          condition_in (settle sc c) x y (settle sc x) (settle sc y) (settle_in c i.0) i.1 i.2 (settle_in x i.1) (settle_in y i.2)

      pub settle_actuals_in : (es : PExprs) (sorts : List Sort) (gs : List Given) → InExprs P es → InGivens P gs → InHalfGiven (settle_actuals sc es sorts gs)
      settle_actuals_in tree.none sorts gs i j = j
      settle_actuals_in (tree.more e es) sorts gs i j =
          first_actual_in sorts e (settle sc e) gs es (settle_actuals sc es) i.0 (settle_in e i.0) j i.1 (λ after more l. settle_actuals_in es after more i.1 l)

    mutual
      -- whatever the answer
      pub put_in : (h : Hole) (a : Answer) → InHole P h → InHalf (answer_put sc h a)
      put_in (read n) a i = half_in a
      put_in (element n ks v) a i = half_in a
      put_in (index n ks v e es) a i = subscripted_in n (subscripts_of a) (settle sc e) es i.0 (settle_in e i.1) i.2
      put_in (tests test ns) a i = half_in a
      put_in (broken op v w fault) a i = half_in a
      put_in (enter n gs) a i = half_in a
      put_in inside a i = half_in a
      put_in (subscript n ks h es) a i = subscripted_in n ks (answer_put sc h a) es i.0 (put_in h a i.1) i.2
      put_in (argument n x) a i = called_in n (put_actuals sc x a) i.0 (put_actuals_in x a i.1)
      put_in (left op h b) a i = left_in op (answer_put sc h a) b (settle sc b) (put_in h a i.0) i.1 (settle_in b i.1)
      put_in (right op v h) a i = right_in op v (answer_put sc h a) (put_in h a i)
      put_in (negated h) a i = negated_in (answer_put sc h a) (put_in h a i)
      put_in (inverted h) a i = inverted_in (answer_put sc h a) (put_in h a i)
      put_in (condition h x y) a i =
          condition_in (answer_put sc h a) x y (settle sc x) (settle sc y) (put_in h a i.0) i.1 i.2 (settle_in x i.1) (settle_in y i.2)

      pub put_actuals_in : (x : Actuals) (a : Answer) → InActuals P x → InHalfGiven (put_actuals sc x a)
      put_actuals_in (pass gs n sorts es) a i =
          let c = passed (cell_of_answer a (simple (number (pos 0)))) in
          settle_actuals_in es sorts (gs ++ c ∷ []) i.2 (and_given gs c i.0 tt)
      put_actuals_in (in_value gs h sorts es) a i =
          valued_in gs (answer_put sc h a) sorts es (settle_actuals sc es sorts) i.0 (put_in h a i.1) i.2 (λ more l. settle_actuals_in es sorts more i.2 l)

    -- ---- left sides

    pub settle_place_in : (n : Named) (es : PExprs) → P n → InExprs P es → InHalfPlace (settle_place sc (tree.subscripted n es))
    settle_place_in n tree.none p i = left_alone_in (is_by_name (sort_at sc n)) n p
    settle_place_in n (tree.more e es) p i = aimed_in n [] (settle sc e) es p (settle_in e i.0) i.1

    indexed_in : (n : Named) (a : Answer) (es : PExprs) → P n → InAnswer P a → InExprs P es → InHalfPlace (indexed_of sc n a es)
    indexed_in n a tree.none p j i = half_place_in a j
    indexed_in n a (tree.more e es) p j i = aimed_in n (subscripts_of a) (settle sc e) es p (settle_in e i.0) i.1

    pub put_place_in : (x : Aim) (a : Answer) → InAim P x → InAnswer P a → InHalfPlace (put_place sc x a)
    put_place_in (resolve n) a i j = half_place_in a j
    put_place_in (place_index n ks v es) a i j = indexed_in n a es i.0 j i.1
    put_place_in inside_place a i j = half_place_in a j
    put_place_in (place_subscript n ks h es) a i j = aimed_in n ks (answer_put sc h a) es i.0 (put_in h a i.1) i.2
