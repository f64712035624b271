-- The silent steps of a rest whose head has not acted.
use Rattle.std.specs.Prelude.{◌≡◌}
use Rattle.algol_tree.specs.Plain as tree
use Rattle.algol_tree.specs.Scopes.{Scopes}
use Rattle.algol_meaning.specs.Rest.{Hole, Actuals, Half, busy, HalfGiven, wants, Aim, HalfPlace, aims, Rest}
use Rattle.algol_meaning.specs.Rest as rests
use Rattle.algol_meaning.specs.Settle.{subscripted_of, called_of, valued_of, left_of, right_of, negated_of, inverted_of, condition_of, aimed_of, settle, settle_actuals}
use Rattle.algol_meaning.specs.Statements.{assigned_of, aimed_at, chosen_of, looped_of, checked_of, counted_of, counted_body, selected_of, statement_called_of, prepared_of, item_of, bound_of, settle_line, settle_bounds, settle_stmt, tested_of, differed_of, run_and, turn_and, settle_items}
use Rattle.algol_meaning.specs.Asks.{evaluated_of, located_of}

module _ (sc : Scopes) where
  abbrev mutual
    -- the head stays, and the steps around it are taken again
    pub again_hole : Hole → Half
    again_hole (rests.subscript n ks h es) = subscripted_of n ks (again_hole h) es
    again_hole (rests.argument n x) = called_of n (again_actuals x)
    again_hole (rests.left op h b) = left_of op (again_hole h) b (settle sc b)
    again_hole (rests.right op v h) = right_of op v (again_hole h)
    again_hole (rests.negated h) = negated_of (again_hole h)
    again_hole (rests.inverted h) = inverted_of (again_hole h)
    again_hole (rests.condition h x y) = condition_of (again_hole h) x y (settle sc x) (settle sc y)
    again_hole (rests.read n) = busy (rests.read n)
    again_hole (rests.element n ks i) = busy (rests.element n ks i)
    again_hole (rests.index n ks i e es) = busy (rests.index n ks i e es)
    again_hole (rests.tests test ns) = busy (rests.tests test ns)
    again_hole (rests.broken op v w fault) = busy (rests.broken op v w fault)
    again_hole (rests.enter n gs) = busy (rests.enter n gs)
    again_hole rests.inside = busy rests.inside

    pub again_actuals : Actuals → HalfGiven
    again_actuals (rests.pass gs n sorts es) = wants (rests.pass gs n sorts es)
    again_actuals (rests.in_value gs h sorts es) = valued_of gs (again_hole h) sorts es (settle_actuals sc es sorts)

  abbrev pub again_aim : Aim → HalfPlace
  again_aim (rests.place_subscript n ks h es) = aimed_of n ks (again_hole h) es
  again_aim (rests.resolve n) = aims (rests.resolve n)
  again_aim (rests.place_index n ks i es) = aims (rests.place_index n ks i es)
  again_aim rests.inside_place = aims rests.inside_place

  abbrev pub repeated_rest : Rest → Rest
  repeated_rest (rests.evaluating h) = evaluated_of (again_hole h)
  repeated_rest (rests.locating x) = located_of (again_aim x)
  repeated_rest (rests.aiming x e k) = aimed_at (again_aim x) e (settle sc e) k
  repeated_rest (rests.storing p h k) = assigned_of p (again_hole h) k
  repeated_rest (rests.choosing h x y k) =
      chosen_of (again_hole h) x y k (settle_stmt sc x k (settle_items sc k)) (settle_stmt sc y k (settle_items sc k))
  repeated_rest (rests.looping h c b k) =
      looped_of (again_hole h) c b k (settle_stmt sc b (turn_and (tree.while c b) k) (rests.turning (run_and (tree.while c b) k))) (settle_items sc k)
  repeated_rest (rests.checking h b c k) = checked_of (again_hole h) b c k (settle_items sc k)
  repeated_rest (rests.counting h b k) = counted_of (again_hole h) b k (counted_body sc b k) (settle_items sc k)
  repeated_rest (rests.differing h loop k) = differed_of sc (again_hole h) loop k (settle_items sc k)
  repeated_rest (rests.stepping d h loop k) = tested_of sc d (again_hole h) loop k (settle_items sc k)
  repeated_rest (rests.selecting h ss k) = selected_of (again_hole h) ss k
  repeated_rest (rests.calling n x k) = statement_called_of n (again_actuals x) k
  repeated_rest (rests.preparing n x task k) = prepared_of n (again_actuals x) task k
  repeated_rest (rests.writing phrases vs h es k) = item_of phrases vs (again_hole h) es k (settle_line sc es phrases k)
  repeated_rest (rests.bounding kind ns pairs vs h ps k) = bound_of kind ns pairs vs (again_hole h) ps k (settle_bounds sc ps kind ns pairs k)
  repeated_rest r = r

-- A rest is quiet: its silent steps, taken once more, change nothing.
abbrev pub EachRestIsQuiet : Type 0
EachRestIsQuiet = (sc : Scopes) (r : Rest) → repeated_rest sc r ≡ r
