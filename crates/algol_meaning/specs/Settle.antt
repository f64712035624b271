-- The silent steps of expressions, actuals and left sides, and what stands there once the head has acted.
use Rattle.std.specs.Prelude.{ℕ, if◌then◌else◌, pos, not, Bool, true, false, List, [], ◌∷◌, ◌++◌, map, Option, Some, None, Result, Ok, Err}
use Rattle.algol_tree.specs.declared.tree.Op.{Op}
use Rattle.algol_tree.specs.declared.tree.Kind.{Kind}
use Rattle.algol_tree.specs.declared.tree.Named.{Named}
use Rattle.algol_tree.specs.declared.tree.EventName.{EventName}
use Rattle.algol_tree.specs.Plain as tree
use Rattle.algol_tree.specs.Plain.{PExpr, PVariable, PExprs, name_alone}
use Rattle.b67_num.specs.declared.NumFault.{NumFault}
use Rattle.b67_num.specs.Whole.{negation_of}
use Rattle.algol_meaning.specs.Value.{Value, number, truth, whole_of, truth_of, simple}
use Rattle.algol_tree.specs.Sorts.{Sort, is_formal, is_by_name, is_variable, procedure_in, Parameter}
use Rattle.algol_tree.specs.Blocks.{Block, block_numbered}
use Rattle.algol_tree.specs.Scopes.{Scopes, use_of}
use Rattle.algol_meaning.specs.Operators.{result_of}
use Rattle.algol_meaning.specs.Rest.{own, Given, valued, passed, refers, names, Hole, read, element, index, tests, broken, enter, inside, subscript, argument, left, right, negated, inverted, condition, Actuals, pass, in_value, Half, val, busy, HalfGiven, given, wants, Aim, resolve, place_index, inside_place, place_subscript, HalfPlace, at, aims, Answer, value, place, entered, cell_of_answer, subscripts_of}

abbrev pub after_result : Op → Value → Value → Result Value NumFault → Half
after_result op v w (Ok x) = val x
after_result op v w (Err fault) = busy (broken op v w fault)

abbrev pub right_of : Op → Value → Half → Half
right_of op v (val w) = after_result op v w (result_of op v w)
right_of op v (busy h) = busy (right op v h)

-- the last argument is the second operand after the silent steps
abbrev pub left_of : Op → Half → PExpr → Half → Half
left_of op (val v) b settled = right_of op v settled
left_of op (busy h) b settled = busy (left op h b)

abbrev pub negated_of : Half → Half
negated_of (val v) = val (number (negation_of (whole_of v)))
negated_of (busy h) = busy (negated h)

abbrev pub inverted_of : Half → Half
inverted_of (val v) = val (truth (not (truth_of v)))
inverted_of (busy h) = busy (inverted h)

-- the last arguments are the two parts after the silent steps
abbrev pub condition_of : Half → PExpr → PExpr → Half → Half → Half
condition_of (val v) x y settled_x settled_y = if truth_of v then settled_x else settled_y
condition_of (busy h) x y settled_x settled_y = busy (condition h x y)

-- ---- names, subscripts, calls

-- a procedure's name by itself is a call
abbrev pub named_of : Option ℕ → Named → Half
named_of (Some block) n = busy (enter n [])
named_of None n = busy (read n)

abbrev pub subscripted_of : Named → List ℕ → Half → PExprs → Half
subscripted_of n ks (busy h) es = busy (subscript n ks h es)
subscripted_of n ks (val v) tree.none = busy (element n ks v)
subscripted_of n ks (val v) (tree.more e es) = busy (index n ks v e es)

abbrev pub called_of : Named → HalfGiven → Half
called_of n (given gs) = busy (enter n gs)
called_of n (wants x) = busy (argument n x)

-- an actual by value; `go_on` are the actuals after it
abbrev pub valued_of : List Given → Half → List Sort → PExprs → (List Given → HalfGiven) → HalfGiven
valued_of gs (val v) sorts es go_on = go_on (gs ++ valued v ∷ [])
valued_of gs (busy h) sorts es go_on = wants (in_value gs h sorts es)

-- A name by itself as an actual that is not by value: of a procedure, of a parameter that stands for something else, of another.
abbrev pub alone_of : Option ℕ → Bool → List Given → Named → List Sort → PExprs → (List Given → HalfGiven) → HalfGiven
alone_of (Some block) formal gs n sorts es go_on = go_on (gs ++ names (tree.variable (tree.subscripted n tree.none)) ∷ [])
alone_of None true gs n sorts es go_on = wants (pass gs n sorts es)
alone_of None false gs n sorts es go_on = go_on (gs ++ refers n ∷ [])

abbrev pub sorts_of : List Parameter → List Sort
sorts_of ps = map (λ (p : Parameter). p.sort) ps

abbrev pub or_zero : Option ℕ → ℕ
or_zero (Some block) = block
or_zero None = 0

abbrev pub block_of_sort : Sort → ℕ
block_of_sort s = or_zero (procedure_in s)

-- ---- left sides

abbrev pub left_alone_of : Bool → Named → HalfPlace
left_alone_of true n = aims (resolve n)
left_alone_of false n = at (own n)

abbrev pub aimed_of : Named → List ℕ → Half → PExprs → HalfPlace
aimed_of n ks (busy h) es = aims (place_subscript n ks h es)
aimed_of n ks (val v) es = aims (place_index n ks v es)

-- ---- answers

abbrev pub half_of : Answer → Half
half_of (value v) = val v
half_of entered = busy inside
half_of _ = val (number (pos 0))

abbrev pub half_place_of : Answer → HalfPlace
half_place_of (place p) = at p
half_place_of _ = aims inside_place

abbrev pub has_result : Option Kind → Bool
has_result (Some kind) = true
has_result None = false

module _ (sc : Scopes) where
  -- the block of the procedure that this use names
  abbrev pub callee : Named → Block
  callee n = block_numbered sc.blocks (block_of_sort ((use_of sc n).sort))

  -- it has a result
  abbrev pub is_typed : Named → Bool
  is_typed n = has_result ((callee n).result)

  abbrev pub sort_at : Named → Sort
  sort_at n = (use_of sc n).sort

  -- an actual that is not by value: `e` is it
  abbrev pub other_of : Option Named → PExpr → List Given → List Sort → PExprs → (List Given → HalfGiven) → HalfGiven
  other_of (Some n) e gs sorts es go_on = alone_of (procedure_in (sort_at n)) (is_formal (sort_at n)) gs n sorts es go_on
  other_of None e gs sorts es go_on = go_on (gs ++ names e ∷ [])

  abbrev pub actual_of : Bool → PExpr → Half → List Given → List Sort → PExprs → (List Given → HalfGiven) → HalfGiven
  actual_of true e settled gs sorts es go_on = valued_of gs settled sorts es go_on
  actual_of false e settled gs sorts es go_on = other_of (name_alone e) e gs sorts es go_on

  abbrev pub first_actual_of : List Sort → PExpr → Half → List Given → PExprs → (List Sort → List Given → HalfGiven) → HalfGiven
  first_actual_of [] e settled gs es go_on = go_on [] gs
  first_actual_of (s ∷ sorts) e settled gs es go_on = actual_of (is_variable s) e settled gs sorts es (go_on sorts)

  abbrev mutual
    pub settle : PExpr → Half
    settle (tree.number z spot) = val (number z)
    settle (tree.truth b spot) = val (truth b)
    settle (tree.variable (tree.subscripted n tree.none)) = named_of (procedure_in (sort_at n)) n
    settle (tree.variable (tree.subscripted n (tree.more e es))) = subscripted_of n [] (settle e) es
    settle (tree.call (tree.called n es)) = called_of n (settle_actuals es (sorts_of (callee n).parameters) [])
    settle (tree.tested test es spot) = busy (tests test (map (λ (e : EventName). e.name) es))
    settle (tree.paren e spot) = settle e
    settle (tree.plus e spot) = settle e
    settle (tree.neg e spot) = negated_of (settle e)
    settle (tree.not e spot) = inverted_of (settle e)
    settle (tree.two op a b) = left_of op (settle a) b (settle b)
    settle (tree.if c x y spot) = condition_of (settle c) x y (settle x) (settle y)

    pub settle_actuals : PExprs → List Sort → List Given → HalfGiven
    settle_actuals tree.none sorts gs = given gs
    settle_actuals (tree.more e es) sorts gs =
        first_actual_of sorts e (settle e) gs es (settle_actuals es)

  abbrev mutual
    pub answer_put : Hole → Answer → Half
    answer_put (read n) a = half_of a
    answer_put (element n ks i) a = half_of a
    answer_put (index n ks i e es) a = subscripted_of n (subscripts_of a) (settle e) es
    answer_put (tests test ns) a = half_of a
    answer_put (broken op v w fault) a = half_of a
    answer_put (enter n gs) a = half_of a
    answer_put inside a = half_of a
    answer_put (subscript n ks h es) a = subscripted_of n ks (answer_put h a) es
    answer_put (argument n x) a = called_of n (put_actuals x a)
    answer_put (left op h b) a = left_of op (answer_put h a) b (settle b)
    answer_put (right op v h) a = right_of op v (answer_put h a)
    answer_put (negated h) a = negated_of (answer_put h a)
    answer_put (inverted h) a = inverted_of (answer_put h a)
    answer_put (condition h x y) a = condition_of (answer_put h a) x y (settle x) (settle y)

    pub put_actuals : Actuals → Answer → HalfGiven
    put_actuals (pass gs n sorts es) a = settle_actuals es sorts (gs ++ passed (cell_of_answer a (simple (number (pos 0)))) ∷ [])
    put_actuals (in_value gs h sorts es) a = valued_of gs (answer_put h a) sorts es (settle_actuals es sorts)

  -- ---- left sides

  abbrev pub settle_place : PVariable → HalfPlace
  settle_place (tree.subscripted n tree.none) = left_alone_of (is_by_name (sort_at n)) n
  settle_place (tree.subscripted n (tree.more e es)) = aimed_of n [] (settle e) es

  -- the place of a subscripted actual
  abbrev pub settle_actual_place : PExpr → HalfPlace
  settle_actual_place (tree.variable v) = settle_place v
  settle_actual_place _ = aims inside_place

  -- after the last subscript the place is whole
  abbrev pub indexed_of : Named → Answer → PExprs → HalfPlace
  indexed_of n a tree.none = half_place_of a
  indexed_of n a (tree.more e es) = aimed_of n (subscripts_of a) (settle e) es

  abbrev pub put_place : Aim → Answer → HalfPlace
  put_place (resolve n) a = half_place_of a
  put_place (place_index n ks i es) a = indexed_of n a es
  put_place inside_place a = half_place_of a
  put_place (place_subscript n ks h es) a = aimed_of n ks (answer_put h a) es
