-- What a part leaves with: nothing, a value or a place. And what waits for a place that the part inside gives.
use Rattle.std.proofs.Common.{◌≡◌, Bool, true, false, refl, sym, subst}
use Rattle.algol_meaning.specs.Value.{Value, Cell}
use Rattle.algol_meaning.specs.Rest as rests
use Rattle.algol_meaning.specs.Rest.{Place, Hole, Actuals, Aim, Rest, Answer, done, value, place}
use Rattle.algol_meaning.specs.Asks as asks
use Rattle.algol_meaning.specs.Asks.{ask_hole, ask_actuals, ask_aim, ask}
use Rattle.algol_laws.proofs.Heads.{is_answer, is_place, awaits_place, awaits_place_in}
use Rattle.algol_standing.specs.Worlds.{held_in_rest, held_in_answer, GivesNoOwn, GivesPlace, WaitsForPlace}
use Rattle.algol_standing.proofs.Lists.{false_true}
use Rattle.algol_standing.proofs.Holding.{AreAll, IsForeign}

mutual
  hole_stays : (h : Hole) (a : Answer) → ask_hole h ≡ asks.leaves a → ⊥
  hole_stays (rests.read n) a e = cc
  hole_stays (rests.element n ks i) a e = cc
  hole_stays (rests.index n ks i x es) a e = cc
  hole_stays (rests.tests x ns) a e = cc
  hole_stays (rests.broken op v w f) a e = cc
  hole_stays (rests.enter n gs) a e = cc
  hole_stays rests.inside a e = cc
  hole_stays (rests.subscript n ks h es) a e = hole_stays h a e
  hole_stays (rests.argument n x) a e = actuals_stay x a e
  hole_stays (rests.left op h b) a e = hole_stays h a e
  hole_stays (rests.right op v h) a e = hole_stays h a e
  hole_stays (rests.negated h) a e = hole_stays h a e
  hole_stays (rests.inverted h) a e = hole_stays h a e
  hole_stays (rests.condition h x y) a e = hole_stays h a e

  actuals_stay : (x : Actuals) (a : Answer) → ask_actuals x ≡ asks.leaves a → ⊥
  actuals_stay (rests.pass gs n sorts es) a e = cc
  actuals_stay (rests.in_value gs h sorts es) a e = hole_stays h a e

aim_stays : (x : Aim) (a : Answer) → ask_aim x ≡ asks.leaves a → ⊥
aim_stays (rests.resolve n) a e = cc
aim_stays (rests.place_index n ks i es) a e = cc
aim_stays rests.inside_place a e = cc
aim_stays (rests.place_subscript n ks h es) a e = hole_stays h a e

-- it is over, or it gives a value or a place
module _ (P : Rest → Answer → Type 0) (over_done : P rests.over done) (value_given : (v : Value) → P (rests.giving v) (value v))
    (place_given : (p : Place) → P (rests.giving_place p) (place p)) where
  leaves_by : (r : Rest) (a : Answer) → ask r ≡ asks.leaves a → P r a
  leaves_by rests.over a e = let same : done ≡ a = cc in subst (λ b. P rests.over b) same over_done
  leaves_by (rests.giving v) a e = let same : value v ≡ a = cc in subst (λ b. P (rests.giving v) b) same (value_given v)
  leaves_by (rests.giving_place p) a e = let same : place p ≡ a = cc in subst (λ b. P (rests.giving_place p) b) same (place_given p)
  leaves_by (rests.reading name) a e = cc
  leaves_by (rests.store p v k) a e = cc
  leaves_by (rests.select v ss k) a e = cc
  leaves_by (rests.turning k) a e = cc
  leaves_by (rests.going n) a e = cc
  leaves_by (rests.entering_block b k) a e = cc
  leaves_by (rests.entering n gs k) a e = cc
  leaves_by (rests.starting n gs t k) a e = cc
  leaves_by (rests.acting x n k) a e = cc
  leaves_by (rests.line phrases vs k) a e = cc
  leaves_by (rests.arrays kind ns pairs vs k) a e = cc
  leaves_by (rests.event n k) a e = cc
  leaves_by (rests.within k) a e = cc
  leaves_by (rests.dropping k) a e = cc
  leaves_by (rests.evaluating h) a e = absurd (hole_stays h a e)
  leaves_by (rests.locating x) a e = absurd (aim_stays x a e)
  leaves_by (rests.aiming x b k) a e = absurd (aim_stays x a e)
  leaves_by (rests.storing p h k) a e = absurd (hole_stays h a e)
  leaves_by (rests.choosing h x y k) a e = absurd (hole_stays h a e)
  leaves_by (rests.looping h c b k) a e = absurd (hole_stays h a e)
  leaves_by (rests.checking h b c k) a e = absurd (hole_stays h a e)
  leaves_by (rests.counting h b k) a e = absurd (hole_stays h a e)
  leaves_by (rests.differing h loop k) a e = absurd (hole_stays h a e)
  leaves_by (rests.stepping d h loop k) a e = absurd (hole_stays h a e)
  leaves_by (rests.selecting h ss k) a e = absurd (hole_stays h a e)
  leaves_by (rests.calling n x k) a e = absurd (actuals_stay x a e)
  leaves_by (rests.preparing n x t k) a e = absurd (actuals_stay x a e)
  leaves_by (rests.writing phrases vs h es k) a e = absurd (hole_stays h a e)
  leaves_by (rests.bounding kind ns pairs vs h ps k) a e = absurd (hole_stays h a e)

pub leaves_foreign : (b : Bool) (r : Rest) (a : Answer) → ask r ≡ asks.leaves a → GivesNoOwn b r → IsForeign a
leaves_foreign b = leaves_by (λ r a. GivesNoOwn b r → IsForeign a) (λ g. tt) (λ v g. tt) (λ p g. g.1)

pub leaves_held : (C : Cell → Type 0) (r : Rest) (a : Answer) → ask r ≡ asks.leaves a → AreAll C (held_in_rest r) → AreAll C (held_in_answer a)
leaves_held C = leaves_by (λ r a. AreAll C (held_in_rest r) → AreAll C (held_in_answer a)) (λ i. tt) (λ v i. tt) (λ p i. i)

pub leaves_answer : (r : Rest) (a : Answer) → ask r ≡ asks.leaves a → is_answer a ≡ true
leaves_answer = leaves_by (λ r a. is_answer a ≡ true) refl (λ v. refl) (λ p. refl)

pub leaves_place : (r : Rest) (a : Answer) → ask r ≡ asks.leaves a → GivesPlace r → is_place a ≡ true
leaves_place = leaves_by (λ r a. GivesPlace r → is_place a ≡ true) (λ g. absurd g) (λ v g. absurd g) (λ p g. refl)

-- what has an instance of its own gives no place, and so nothing that is held
pub leaves_nothing : (C : Cell → Type 0) (r : Rest) (a : Answer) → ask r ≡ asks.leaves a → GivesNoOwn false r → AreAll C (held_in_answer a)
leaves_nothing C = leaves_by (λ r a. GivesNoOwn false r → AreAll C (held_in_answer a)) (λ g. tt) (λ v g. tt) (λ p g. false_true g.0)

-- what awaits a place and asks for nothing waits for the part inside
aim_waits : (x : Aim) → awaits_place x ≡ true → ask_aim x ≡ asks.nothing → x ≡ rests.inside_place
aim_waits (rests.resolve n) e f = cc
aim_waits (rests.place_index n ks i es) e f = cc
aim_waits rests.inside_place e f = refl
aim_waits (rests.place_subscript n ks h es) e f = cc

pub waits : (r : Rest) → awaits_place_in r ≡ true → ask r ≡ asks.nothing → WaitsForPlace r
waits (rests.locating x) e f = subst (λ y. WaitsForPlace (rests.locating y)) (sym (aim_waits x e f)) tt
waits (rests.aiming x b k) e f = subst (λ y. WaitsForPlace (rests.aiming y b k)) (sym (aim_waits x e f)) tt
waits _ e f = cc
