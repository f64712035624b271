-- What the rest of an expression asks for, and that it stays one over each answer.
use Rattle.b67_frames.proofs.Prelude.{Scopes, Ask, goes_to, ask_hole, ask_actuals, ask_aim, ask, resume, Hole, argument, Actuals, Aim, Rest, evaluating, locating, Answer, IsOfExpression}
use Rattle.b67_deeds.specs.Deeds as deeds
use Rattle.algol_meaning.specs.Rest.{read, element, index, tests, broken, enter, inside, subscript, left, right, negated, inverted, condition, Half, val, busy, pass, in_value, resolve, place_index, inside_place, place_subscript, HalfPlace, at, aims, giving, giving_place, done, cell, entered}
use Rattle.algol_meaning.specs.Settle.{answer_put, put_place}
use Rattle.algol_meaning.specs.Asks.{reads_result, leaves, stores, selects, turns, enters_block, starts, event_deed, writes, makes_arrays, makes_event, evaluated_of, located_of}

-- an expression asks for no part of a statement, for no result of a procedure, and for no entry of a block; it leaves with a value or a place
abbrev pub IsExpressionAsk : Ask → Type 0
IsExpressionAsk (reads_result name) = ⊥
IsExpressionAsk (leaves done) = ⊥
IsExpressionAsk (leaves (cell c)) = ⊥
IsExpressionAsk (leaves entered) = ⊥
IsExpressionAsk (stores p v) = ⊥
IsExpressionAsk (selects v ss) = ⊥
IsExpressionAsk turns = ⊥
IsExpressionAsk (goes_to n) = ⊥
IsExpressionAsk (enters_block b) = ⊥
IsExpressionAsk (starts n gs task) = ⊥
IsExpressionAsk (event_deed (deeds.acts x) ns) = ⊥
IsExpressionAsk (writes phrases vs) = ⊥
IsExpressionAsk (makes_arrays kind ns pairs vs) = ⊥
IsExpressionAsk (makes_event n) = ⊥
IsExpressionAsk _ = Unit {0}

mutual
  hole_asks : (h : Hole) → IsExpressionAsk (ask_hole h)
  hole_asks (read n) = tt
  hole_asks (element n ks i) = tt
  hole_asks (index n ks i e es) = tt
  hole_asks (tests x ns) = tt
  hole_asks (broken op v w fault) = tt
  hole_asks (enter n gs) = tt
  hole_asks inside = tt
  hole_asks (subscript n ks h es) = hole_asks h
  hole_asks (argument n x) = actuals_ask x
  hole_asks (left op h b) = hole_asks h
  hole_asks (right op v h) = hole_asks h
  hole_asks (negated h) = hole_asks h
  hole_asks (inverted h) = hole_asks h
  hole_asks (condition h x y) = hole_asks h

  actuals_ask : (x : Actuals) → IsExpressionAsk (ask_actuals x)
  actuals_ask (pass gs n sorts es) = tt
  actuals_ask (in_value gs h sorts es) = hole_asks h

aim_asks : (x : Aim) → IsExpressionAsk (ask_aim x)
aim_asks (resolve n) = tt
aim_asks (place_index n ks i es) = tt
aim_asks inside_place = tt
aim_asks (place_subscript n ks h es) = hole_asks h

pub expression_asks : (r : Rest) → IsOfExpression r → IsExpressionAsk (ask r)
expression_asks (evaluating h) is = hole_asks h
expression_asks (locating x) is = aim_asks x
expression_asks (giving v) is = tt
expression_asks (giving_place p) is = tt
expression_asks _ is = absurd is

-- an expression that is settled is one
pub evaluated_is : (h : Half) → IsOfExpression (evaluated_of h)
evaluated_is (val v) = tt
evaluated_is (busy h) = tt

pub located_is : (x : HalfPlace) → IsOfExpression (located_of x)
located_is (at p) = tt
located_is (aims a) = tt

-- and so it is after an answer
pub expression_resumed : (sc : Scopes) (r : Rest) (a : Answer) → IsOfExpression r → IsOfExpression (resume sc r a)
expression_resumed sc (evaluating h) a is = evaluated_is (answer_put sc h a)
expression_resumed sc (locating x) a is = located_is (put_place sc x a)
expression_resumed sc (giving v) a is = tt
expression_resumed sc (giving_place p) a is = tt
expression_resumed sc _ a is = absurd is
