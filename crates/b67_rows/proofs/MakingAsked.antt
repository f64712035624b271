-- A head that makes arrays makes those that come first among the ones that are still to be made.
use Rattle.std.proofs.Common.{◌≡◌, refl, ap, ◌∙◌, List, [], ◌∷◌, ◌++◌, true, false}
use Rattle.b67_list.proofs.Truths.{true_false}
use Rattle.b67_rows.proofs.Prelude.{PPair, Kind, Named, Ask, makes_arrays, makes_event, ask_hole, ask_actuals, ask_aim, ask, Hole, read, element, index, tests, broken, enter, inside, subscript, argument, left, right, negated, inverted, condition, Actuals, pass, in_value, Aim, resolve, place_index, inside_place, place_subscript, Rest, arrays, event, evaluating, locating, aiming, storing, choosing, looping, checking, counting, differing, stepping, selecting, calling, preparing, writing, bounding, Value, Made, an_event, made_in, all_to_make, all_left_to_make}
use Rattle.b67_rows.proofs.Unmade.{makes}

-- no head of an expression makes anything
mutual
  hole_makes_none : (h : Hole) → makes (ask_hole h) ≡ false
  hole_makes_none (read n) = refl
  hole_makes_none (element n ks v) = refl
  hole_makes_none (index n ks v e es) = refl
  hole_makes_none (tests x ns) = refl
  hole_makes_none (broken op v w fault) = refl
  hole_makes_none (enter n gs) = refl
  hole_makes_none inside = refl
  hole_makes_none (subscript n ks h es) = hole_makes_none h
  hole_makes_none (argument n x) = actuals_make_none x
  hole_makes_none (left op h b) = hole_makes_none h
  hole_makes_none (right op v h) = hole_makes_none h
  hole_makes_none (negated h) = hole_makes_none h
  hole_makes_none (inverted h) = hole_makes_none h
  hole_makes_none (condition h x y) = hole_makes_none h

  actuals_make_none : (x : Actuals) → makes (ask_actuals x) ≡ false
  actuals_make_none (pass gs n sorts es) = refl
  actuals_make_none (in_value gs h sorts es) = hole_makes_none h

aim_makes_none : (x : Aim) → makes (ask_aim x) ≡ false
aim_makes_none (resolve n) = refl
aim_makes_none (place_index n ks v es) = refl
aim_makes_none inside_place = refl
aim_makes_none (place_subscript n ks h es) = hole_makes_none h

-- what is asked for
abbrev made_by : Ask → List Made
made_by (makes_arrays kind ns pairs vs) = made_in kind ns pairs
made_by (makes_event n) = an_event n.name ∷ []
made_by _ = []

making : (r : Rest) → makes (ask r) ≡ true → all_to_make r ≡ made_by (ask r) ++ all_left_to_make r
making (arrays kind ns pairs vs k) e = refl
making (event n k) e = refl
making (evaluating h) e = true_false e (hole_makes_none h)
making (locating x) e = true_false e (aim_makes_none x)
making (aiming x y k) e = true_false e (aim_makes_none x)
making (storing p h k) e = true_false e (hole_makes_none h)
making (choosing h x y k) e = true_false e (hole_makes_none h)
making (looping h c b k) e = true_false e (hole_makes_none h)
making (checking h b c k) e = true_false e (hole_makes_none h)
making (counting h b k) e = true_false e (hole_makes_none h)
making (differing h loop k) e = true_false e (hole_makes_none h)
making (stepping d h loop k) e = true_false e (hole_makes_none h)
making (selecting h ss k) e = true_false e (hole_makes_none h)
making (calling n x k) e = true_false e (actuals_make_none x)
making (preparing n x task k) e = true_false e (actuals_make_none x)
making (writing phrases vs h es k) e = true_false e (hole_makes_none h)
making (bounding kind ns pairs vs h later k) e = true_false e (hole_makes_none h)
making r e = true_false e refl

pub makes_first : (r : Rest) (kind : Kind) (ns : List Named) (pairs : List PPair) (vs : List Value) → ask r ≡ makes_arrays kind ns pairs vs → all_to_make r ≡ made_in kind ns pairs ++ all_left_to_make r
makes_first r kind ns pairs vs e = making r (ap makes e) ∙ ap (λ (k : Ask). made_by k ++ all_left_to_make r) e

pub makes_event_first : (r : Rest) (n : Named) → ask r ≡ makes_event n → all_to_make r ≡ an_event n.name ∷ all_left_to_make r
makes_event_first r n e = making r (ap makes e) ∙ ap (λ (k : Ask). made_by k ++ all_left_to_make r) e
