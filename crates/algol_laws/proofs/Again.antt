-- The silent steps of a rest, taken once more, change nothing.
use Rattle.std.proofs.Common.{◌≡◌, refl}
use Rattle.algol_tree.specs.Scopes.{Scopes}
use Rattle.algol_meaning.specs.Rest.{Hole, Actuals, busy, wants, Aim, aims, Rest}
use Rattle.algol_meaning.specs.Rest as rests
use Rattle.algol_laws.specs.Again.{again_hole, again_actuals, again_aim, EachRestIsQuiet}

module _ (sc : Scopes) where
  mutual
    hole_again : (h : Hole) → again_hole sc h ≡ busy h
    hole_again (rests.subscript n ks h es) = rw (hole_again h) refl
    hole_again (rests.argument n x) = rw (actuals_again x) refl
    hole_again (rests.left op h b) = rw (hole_again h) refl
    hole_again (rests.right op v h) = rw (hole_again h) refl
    hole_again (rests.negated h) = rw (hole_again h) refl
    hole_again (rests.inverted h) = rw (hole_again h) refl
    hole_again (rests.condition h x y) = rw (hole_again h) refl
    hole_again (rests.read n) = refl
    hole_again (rests.element n ks i) = refl
    hole_again (rests.index n ks i e es) = refl
    hole_again (rests.tests test ns) = refl
    hole_again (rests.broken op v w fault) = refl
    hole_again (rests.enter n gs) = refl
    hole_again rests.inside = refl

    actuals_again : (x : Actuals) → again_actuals sc x ≡ wants x
    actuals_again (rests.pass gs n sorts es) = refl
    actuals_again (rests.in_value gs h sorts es) = rw (hole_again h) refl

  aim_again : (x : Aim) → again_aim sc x ≡ aims x
  aim_again (rests.place_subscript n ks h es) = rw (hole_again h) refl
  aim_again (rests.resolve n) = refl
  aim_again (rests.place_index n ks i es) = refl
  aim_again rests.inside_place = refl

pub rest_again : EachRestIsQuiet
rest_again sc (rests.evaluating h) = rw (hole_again sc h) refl
rest_again sc (rests.locating x) = rw (aim_again sc x) refl
rest_again sc (rests.aiming x e k) = rw (aim_again sc x) refl
rest_again sc (rests.storing p h k) = rw (hole_again sc h) refl
rest_again sc (rests.choosing h x y k) = rw (hole_again sc h) refl
rest_again sc (rests.looping h c b k) = rw (hole_again sc h) refl
rest_again sc (rests.checking h b c k) = rw (hole_again sc h) refl
rest_again sc (rests.counting h b k) = rw (hole_again sc h) refl
rest_again sc (rests.differing h loop k) = rw (hole_again sc h) refl
rest_again sc (rests.stepping d h loop k) = rw (hole_again sc h) refl
rest_again sc (rests.selecting h ss k) = rw (hole_again sc h) refl
rest_again sc (rests.calling n x k) = rw (actuals_again sc x) refl
rest_again sc (rests.preparing n x task k) = rw (actuals_again sc x) refl
rest_again sc (rests.writing phrases vs h es k) = rw (hole_again sc h) refl
rest_again sc (rests.bounding kind ns pairs vs h ps k) = rw (hole_again sc h) refl
rest_again sc _ = refl
