-- What the head of a part asks for, and what the part has still to do once that is answered.
use Rattle.std.specs.Prelude.{ℕ, zero, suc, nat_abs, List, [], ◌∷◌, Option, if◌then◌else◌, Bool}
use Rattle.algol_tree.specs.declared.tree.Kind.{Kind}
use Rattle.algol_tree.specs.declared.tree.Named.{Named}
use Rattle.b67_deeds.specs.Deeds as deeds
use Rattle.b67_deeds.specs.Deeds.{EventDeed}
use Rattle.algol_tree.specs.declared.tree.PhraseText.{PhraseText}
use Rattle.algol_tree.specs.Plain as tree
use Rattle.algol_tree.specs.Plain.{PPair, PStmt, PStmts, PBody}
use Rattle.b67_num.specs.declared.NumFault.{NumFault}
use Rattle.algol_meaning.specs.Value.{Value, whole_of}
use Rattle.algol_tree.specs.Scopes.{Scopes}
use Rattle.algol_meaning.specs.Rest.{Place, Given, Hole, read, element, index, tests, broken, enter, inside, subscript, argument, left, right, negated, inverted, condition, Actuals, pass, in_value, Half, val, busy, Aim, resolve, place_index, inside_place, place_subscript, HalfPlace, at, aims, Item, Rest, over, reading, giving, giving_place, store, select, turning, going, entering_block, entering, starting, acting, line, arrays, event, within, dropping, evaluating, locating, aiming, storing, choosing, looping, checking, counting, differing, stepping, selecting, calling, preparing, writing, bounding, Answer, done, value, place, entered}
use Rattle.algol_meaning.specs.Settle.{is_typed, settle, half_of, answer_put, put_actuals, put_place}
use Rattle.algol_meaning.specs.Statements.{assigned_of, aimed_at, chosen_of, looped_of, checked_of, counted_of, selected_of, statement_called_of, prepared_of, item_of, bound_of, settle_line, settle_bounds, settle_stmt, tested_of, differed_of, run_and, turn_and, counted_body, settle_items}

pub data Ask : Type 0 where
  nothing : Ask
  reads : Named → Ask
  reads_element : Named → List ℕ → Value → Ask
  indexes : Named → List ℕ → Value → Ask
  fails : NumFault → Ask
  enters : Named → List Given → Ask
  passes : Named → Ask
  resolves : Named → Ask
  reads_result : List ℕ → Ask
  leaves : Answer → Ask
  stores : Place → Value → Ask
  selects : Value → PStmts → Ask
  turns : Ask
  goes_to : Named → Ask
  enters_block : PBody → Ask
  starts : Named → List Given → Option Named → Ask
  event_deed : EventDeed → List Named → Ask  -- of the events that are named
  writes : List PhraseText → List Value → Ask
  makes_arrays : Kind → List Named → List PPair → List Value → Ask
  makes_event : Named → Ask

abbrev mutual
  pub ask_hole : Hole → Ask
  ask_hole (read n) = reads n
  ask_hole (element n ks i) = reads_element n ks i
  ask_hole (index n ks i e es) = indexes n ks i
  ask_hole (tests test ns) = event_deed (deeds.tests test) ns
  ask_hole (broken op v w fault) = fails fault
  ask_hole (enter n gs) = enters n gs
  ask_hole inside = nothing
  ask_hole (subscript n ks h es) = ask_hole h
  ask_hole (argument n x) = ask_actuals x
  ask_hole (left op h b) = ask_hole h
  ask_hole (right op v h) = ask_hole h
  ask_hole (negated h) = ask_hole h
  ask_hole (inverted h) = ask_hole h
  ask_hole (condition h x y) = ask_hole h

  pub ask_actuals : Actuals → Ask
  ask_actuals (pass gs n sorts es) = passes n
  ask_actuals (in_value gs h sorts es) = ask_hole h

abbrev pub ask_aim : Aim → Ask
ask_aim (resolve n) = resolves n
ask_aim (place_index n ks i es) = indexes n ks i
ask_aim inside_place = nothing
ask_aim (place_subscript n ks h es) = ask_hole h

abbrev pub ask : Rest → Ask
ask over = leaves done
ask (reading name) = reads_result name
ask (giving v) = leaves (value v)
ask (giving_place p) = leaves (place p)
ask (store p v k) = stores p v
ask (select i ss k) = selects i ss
ask (turning k) = turns
ask (going n) = goes_to n
ask (entering_block b k) = enters_block b
ask (entering n gs k) = enters n gs
ask (starting n gs task k) = starts n gs task
ask (acting act n k) = event_deed (deeds.acts act) (n ∷ [])
ask (line phrases vs k) = writes phrases vs
ask (arrays kind ns pairs vs k) = makes_arrays kind ns pairs vs
ask (event n k) = makes_event n
ask (within k) = nothing
ask (dropping k) = nothing
ask (evaluating h) = ask_hole h
ask (locating a) = ask_aim a
ask (aiming a e k) = ask_aim a
ask (storing p h k) = ask_hole h
ask (choosing h x y k) = ask_hole h
ask (looping h c b k) = ask_hole h
ask (checking h b c k) = ask_hole h
ask (counting h b k) = ask_hole h
ask (differing h loop k) = ask_hole h
ask (stepping d h loop k) = ask_hole h
ask (selecting h ss k) = ask_hole h
ask (calling n x k) = ask_actuals x
ask (preparing n x task k) = ask_actuals x
ask (writing phrases vs h es k) = ask_hole h
ask (bounding kind ns pairs vs h ps k) = ask_hole h

-- ---- what is still to be done after the answer

-- the value or place of a name
abbrev pub evaluated_of : Half → Rest
evaluated_of (val v) = giving v
evaluated_of (busy h) = evaluating h

abbrev pub located_of : HalfPlace → Rest
located_of (at p) = giving_place p
located_of (aims a) = locating a

abbrev pub nth_stmt : PStmts → ℕ → PStmt
nth_stmt tree.no_stmts i = tree.empty
nth_stmt (tree.stmts s ss) zero = s
nth_stmt (tree.stmts s ss) (suc i) = nth_stmt ss i

module _ (sc : Scopes) where
  -- after the Enter of a block, or of a statement's call
  abbrev pub inside_or_after : Answer → List Item → Rest
  inside_or_after entered k = within k
  inside_or_after _ k = settle_items sc k

  abbrev pub asks_called : Bool → Answer → List Item → Rest
  asks_called typed entered k = if typed then dropping k else within k
  asks_called typed _ k = settle_items sc k

  abbrev pub resume : Rest → Answer → Rest
  resume over a = over
  resume (reading name) a = evaluated_of (half_of a)
  resume (giving v) a = giving v
  resume (giving_place p) a = giving_place p
  resume (store p v k) a = settle_items sc k
  resume (select v ss k) a = settle_stmt sc (nth_stmt ss (nat_abs (whole_of v))) k (settle_items sc k)
  resume (turning k) a = settle_items sc k
  resume (going n) a = going n
  resume (entering_block b k) a = inside_or_after a k
  resume (entering n gs k) a = asks_called (is_typed sc n) a k
  resume (starting n gs task k) a = settle_items sc k
  resume (acting act n k) a = settle_items sc k
  resume (line phrases vs k) a = settle_items sc k
  resume (arrays kind ns pairs vs k) a = settle_items sc k
  resume (event n k) a = settle_items sc k
  resume (within k) a = settle_items sc k
  resume (dropping k) a = settle_items sc k
  resume (evaluating h) a = evaluated_of (answer_put sc h a)
  resume (locating x) a = located_of (put_place sc x a)
  resume (aiming x e k) a = aimed_at (put_place sc x a) e (settle sc e) k
  resume (storing p h k) a = assigned_of p (answer_put sc h a) k
  resume (choosing h x y k) a =
      chosen_of (answer_put sc h a) x y k (settle_stmt sc x k (settle_items sc k)) (settle_stmt sc y k (settle_items sc k))
  resume (looping h c b k) a =
      looped_of (answer_put sc h a) c b k (settle_stmt sc b (turn_and (tree.while c b) k) (turning (run_and (tree.while c b) k))) (settle_items sc k)
  resume (checking h b c k) a = checked_of (answer_put sc h a) b c k (settle_items sc k)
  resume (counting h b k) a =
      counted_of (answer_put sc h a) b k (counted_body sc b k) (settle_items sc k)
  resume (differing h loop k) a = differed_of sc (answer_put sc h a) loop k (settle_items sc k)
  resume (stepping d h loop k) a = tested_of sc d (answer_put sc h a) loop k (settle_items sc k)
  resume (selecting h ss k) a = selected_of (answer_put sc h a) ss k
  resume (calling n x k) a = statement_called_of n (put_actuals sc x a) k
  resume (preparing n x task k) a = prepared_of n (put_actuals sc x a) task k
  resume (writing phrases vs h es k) a = item_of phrases vs (answer_put sc h a) es k (settle_line sc es phrases k)
  resume (bounding kind ns pairs vs h ps k) a = bound_of kind ns pairs vs (answer_put sc h a) ps k (settle_bounds sc ps kind ns pairs k)
