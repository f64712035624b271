-- What a head asks for names only what its text sees.
use Rattle.std.proofs.Common.{◌≡◌, ◌⊎◌, List, [], ◌∷◌, map, Option, Some, None, refl}
use Rattle.std.specs.List.{AllByRecursion}
use Rattle.algol_tree.specs.declared.tree.EventName.{EventName}
use Rattle.algol_tree.specs.declared.tree.Named.{Named}
use Rattle.algol_tree.specs.Plain as tree
use Rattle.algol_tree.specs.Plain.{PExpr, PExprs, PBody}
use Rattle.algol_meaning.specs.Value.{Cell}
use Rattle.algol_meaning.specs.Rest as rests
use Rattle.algol_meaning.specs.Rest.{Place, Given, Hole, Actuals, Aim, Rest, Answer, place, entered}
use Rattle.algol_meaning.specs.Asks as asks
use Rattle.algol_meaning.specs.Asks.{Ask, ask_hole, ask_actuals, ask_aim, ask}
use Rattle.algol_paths.specs.Texts.{InExpr, InExprs, InName, InPlace, InGivens, InHole, InActuals, InAim, InRest}
use Rattle.algol_paths.specs.Arrays.{all_to_make}
use Rattle.algol_standing.specs.Worlds.{held_in_place, held_in_givens, held_in_hole, held_in_actuals, held_in_aim, held_in_rest, IsNoBlock}
use Rattle.algol_standing.proofs.Holding.{AreAll, all_back}

abbrev pub Sees : (Named → Type 0) → (PBody → Type 0) → Ask → Type 0
Sees P Q (asks.reads n) = P n
Sees P Q (asks.reads_element n ks v) = P n
Sees P Q (asks.indexes n ks v) = P n
Sees P Q (asks.enters n gs) = P n × InGivens P gs
Sees P Q (asks.passes n) = P n
Sees P Q (asks.resolves n) = P n
Sees P Q (asks.stores p v) = InPlace P p
Sees P Q (asks.goes_to n) = P n
Sees P Q (asks.enters_block b) = Q b
Sees P Q (asks.starts n gs task) = P n × InGivens P gs × InName P task
Sees P Q (asks.event_deed x ns) = AllByRecursion P ns
Sees P Q _ = Unit {0}

-- the answer is one to what was asked for, and leaves no part inside
abbrev pub Suits : Ask → Answer → Type 0
Suits asks.nothing a = ⊥
Suits (asks.indexes n ks v) (place p) = Unit {0}
Suits (asks.indexes n ks v) _ = ⊥
Suits (asks.resolves n) (place p) = Unit {0}
Suits (asks.resolves n) _ = ⊥
Suits _ entered = ⊥
Suits _ _ = Unit {0}

-- ---- a predicate that more names have

module _ (P R : Named → Type 0) (f : (n : Named) → R n → P n) where
  names_more : (ns : List Named) → AllByRecursion R ns → AllByRecursion P ns
  names_more [] i = tt
  names_more (n ∷ ns) i = (f n i.0, names_more ns i.1)

  mutual
    expr_more : (e : PExpr) → InExpr R e → InExpr P e
    expr_more (tree.number z spot) i = tt
    expr_more (tree.truth b spot) i = tt
    expr_more (tree.variable (tree.subscripted n es)) i = (f n i.0, exprs_more es i.1)
    expr_more (tree.call (tree.called n es)) i = (f n i.0, exprs_more es i.1)
    expr_more (tree.tested which es spot) i = names_more (map (λ (e : EventName). e.name) es) i
    expr_more (tree.paren e spot) i = expr_more e i
    expr_more (tree.plus e spot) i = expr_more e i
    expr_more (tree.neg e spot) i = expr_more e i
    expr_more (tree.not e spot) i = expr_more e i
    expr_more (tree.two op x y) i = (expr_more x i.0, expr_more y i.1)
    expr_more (tree.if c x y spot) i = (expr_more c i.0, expr_more x i.1, expr_more y i.2)

    exprs_more : (es : PExprs) → InExprs R es → InExprs P es
    exprs_more tree.none i = tt
    exprs_more (tree.more e es) i = (expr_more e i.0, exprs_more es i.1)

  givens_more : (gs : List Given) → InGivens R gs → InGivens P gs
  givens_more [] i = tt
  givens_more (rests.refers n ∷ gs) i = (f n i.0, givens_more gs i.1)
  givens_more (rests.names e ∷ gs) i = (expr_more e i.0, givens_more gs i.1)
  givens_more (rests.valued v ∷ gs) i = givens_more gs i
  givens_more (rests.passed c ∷ gs) i = givens_more gs i

  name_more : (o : Option Named) → InName R o → InName P o
  name_more None i = tt
  name_more (Some n) i = f n i

  place_more : (p : Place) → InPlace R p → InPlace P p
  place_more (rests.own n) i = f n i
  place_more (rests.there r) i = tt
  place_more (rests.element_of r ks) i = tt

  module _ (Q : PBody → Type 0) where
    sees_more : (x : Ask) → Sees R Q x → Sees P Q x
    sees_more (asks.reads n) i = f n i
    sees_more (asks.reads_element n ks v) i = f n i
    sees_more (asks.indexes n ks v) i = f n i
    sees_more (asks.enters n gs) i = (f n i.0, givens_more gs i.1)
    sees_more (asks.passes n) i = f n i
    sees_more (asks.resolves n) i = f n i
    sees_more (asks.stores p v) i = place_more p i
    sees_more (asks.goes_to n) i = f n i
    sees_more (asks.enters_block b) i = i
    sees_more (asks.starts n gs task) i = (f n i.0, givens_more gs i.1, name_more task i.2)
    sees_more (asks.event_deed x ns) i = names_more ns i
    sees_more _ i = tt

module _ (P : Named → Type 0) (Q : PBody → Type 0) where
  mutual
    hole_sees : (h : Hole) → InHole P h → Sees P Q (ask_hole h)
    hole_sees (rests.read n) i = i
    hole_sees (rests.element n ks v) i = i
    hole_sees (rests.index n ks v e es) i = i.0
    hole_sees (rests.tests x ns) i = i
    hole_sees (rests.broken op v w f) i = tt
    hole_sees (rests.enter n gs) i = i
    hole_sees rests.inside i = tt
    hole_sees (rests.subscript n ks h es) i = hole_sees h i.1
    hole_sees (rests.argument n x) i = actuals_see x i.1
    hole_sees (rests.left op h b) i = hole_sees h i.0
    hole_sees (rests.right op v h) i = hole_sees h i
    hole_sees (rests.negated h) i = hole_sees h i
    hole_sees (rests.inverted h) i = hole_sees h i
    hole_sees (rests.condition h x y) i = hole_sees h i.0

    actuals_see : (x : Actuals) → InActuals P x → Sees P Q (ask_actuals x)
    actuals_see (rests.pass gs n sorts es) i = i.1
    actuals_see (rests.in_value gs h sorts es) i = hole_sees h i.1

  aim_sees : (x : Aim) → InAim P x → Sees P Q (ask_aim x)
  aim_sees (rests.resolve n) i = i
  aim_sees (rests.place_index n ks v es) i = i.0
  aim_sees rests.inside_place i = tt
  aim_sees (rests.place_subscript n ks h es) i = hole_sees h i.1

module _ (P : Named → Type 0) (Q : PBody → Type 0) (R : Named → Type 0) (f : (n : Named) → R n → P n) where
  pub rest_sees : (r : Rest) → InRest P Q R r → Sees P Q (ask r)
  rest_sees rests.over i = tt
  rest_sees (rests.reading name) i = tt
  rest_sees (rests.giving v) i = tt
  rest_sees (rests.giving_place p) i = tt
  rest_sees (rests.store p v k) i = i.0
  rest_sees (rests.select v ss k) i = tt
  rest_sees (rests.turning k) i = tt
  rest_sees (rests.going n) i = i
  rest_sees (rests.entering_block (tree.body spot ds ss) k) i = i.0
  rest_sees (rests.entering n gs k) i = (i.0, i.1)
  rest_sees (rests.starting n gs task k) i = (i.0, i.1, i.2)
  rest_sees (rests.acting act n k) i = (i.0, tt)
  rest_sees (rests.line phrases vs k) i = tt
  rest_sees (rests.arrays kind ns pairs vs k) i = tt
  rest_sees (rests.event n k) i = tt
  rest_sees (rests.within k) i = tt
  rest_sees (rests.dropping k) i = tt
  rest_sees (rests.evaluating h) i = hole_sees P Q h i
  rest_sees (rests.locating x) i = aim_sees P Q x i
  rest_sees (rests.aiming x e k) i = aim_sees P Q x i.0
  rest_sees (rests.storing p h k) i = hole_sees P Q h i.1
  rest_sees (rests.choosing h x y k) i = hole_sees P Q h i.0
  rest_sees (rests.looping h c b k) i = hole_sees P Q h i.0
  rest_sees (rests.checking h b c k) i = hole_sees P Q h i.0
  rest_sees (rests.counting h b k) i = hole_sees P Q h i.0
  rest_sees (rests.differing h loop k) i = hole_sees P Q h i.0
  rest_sees (rests.stepping d h loop k) i = hole_sees P Q h i.0
  rest_sees (rests.selecting h ss k) i = hole_sees P Q h i.0
  rest_sees (rests.calling n x k) i = actuals_see P Q x i.1
  rest_sees (rests.preparing n x task k) i = actuals_see P Q x i.1
  rest_sees (rests.writing phrases vs h es k) i = hole_sees P Q h i.0
  rest_sees (rests.bounding kind ns pairs vs h ps k) i = sees_more P R f Q (ask_hole h) (hole_sees R Q h i.0)

-- where something is left to make, the head is among the bounds of arrays and sees only what is around, or it makes what it names
module _ (P : Named → Type 0) (Q : PBody → Type 0) (R : Named → Type 0) where
  pub bound_sees : (r : Rest) → InRest P Q R r → (all_to_make r ≡ []) ⊎ Sees R IsNoBlock (ask r)
  bound_sees (rests.bounding kind ns pairs vs h ps k) i = ◌⊎◌.inr (hole_sees R IsNoBlock h i.0)
  bound_sees (rests.arrays kind ns pairs vs k) i = ◌⊎◌.inr tt
  bound_sees (rests.event n k) i = ◌⊎◌.inr tt
  bound_sees _ i = ◌⊎◌.inl refl

-- ---- what a call hands on

abbrev pub AskHolds : (Cell → Type 0) → Ask → Type 0
AskHolds C (asks.enters n gs) = AreAll C (held_in_givens gs)
AskHolds C (asks.starts n gs task) = AreAll C (held_in_givens gs)
AskHolds C (asks.stores p v) = AreAll C (held_in_place p)
AskHolds C _ = Unit {0}

module _ (C : Cell → Type 0) where
  mutual
    hole_asks : (h : Hole) → AreAll C (held_in_hole h) → AskHolds C (ask_hole h)
    hole_asks (rests.read n) i = tt
    hole_asks (rests.element n ks v) i = tt
    hole_asks (rests.index n ks v e es) i = tt
    hole_asks (rests.tests x ns) i = tt
    hole_asks (rests.broken op v w f) i = tt
    hole_asks (rests.enter n gs) i = i
    hole_asks rests.inside i = tt
    hole_asks (rests.subscript n ks h es) i = hole_asks h i
    hole_asks (rests.argument n x) i = actuals_ask x i
    hole_asks (rests.left op h b) i = hole_asks h i
    hole_asks (rests.right op v h) i = hole_asks h i
    hole_asks (rests.negated h) i = hole_asks h i
    hole_asks (rests.inverted h) i = hole_asks h i
    hole_asks (rests.condition h x y) i = hole_asks h i

    actuals_ask : (x : Actuals) → AreAll C (held_in_actuals x) → AskHolds C (ask_actuals x)
    actuals_ask (rests.pass gs n sorts es) i = tt
    actuals_ask (rests.in_value gs h sorts es) i = hole_asks h (all_back C (held_in_givens gs) (held_in_hole h) i)

  aim_asks : (x : Aim) → AreAll C (held_in_aim x) → AskHolds C (ask_aim x)
  aim_asks (rests.resolve n) i = tt
  aim_asks (rests.place_index n ks v es) i = tt
  aim_asks rests.inside_place i = tt
  aim_asks (rests.place_subscript n ks h es) i = hole_asks h i

  pub rest_asks : (r : Rest) → AreAll C (held_in_rest r) → AskHolds C (ask r)
  rest_asks (rests.entering n gs k) i = i
  rest_asks (rests.starting n gs task k) i = i
  rest_asks (rests.store p v k) i = i
  rest_asks (rests.evaluating h) i = hole_asks h i
  rest_asks (rests.locating x) i = aim_asks x i
  rest_asks (rests.aiming x e k) i = aim_asks x i
  rest_asks (rests.storing p h k) i = hole_asks h (all_back C (held_in_place p) (held_in_hole h) i)
  rest_asks (rests.choosing h x y k) i = hole_asks h i
  rest_asks (rests.looping h c b k) i = hole_asks h i
  rest_asks (rests.checking h b c k) i = hole_asks h i
  rest_asks (rests.counting h b k) i = hole_asks h i
  rest_asks (rests.differing h loop k) i = hole_asks h i
  rest_asks (rests.stepping d h loop k) i = hole_asks h i
  rest_asks (rests.selecting h ss k) i = hole_asks h i
  rest_asks (rests.calling n x k) i = actuals_ask x i
  rest_asks (rests.preparing n x task k) i = actuals_ask x i
  rest_asks (rests.writing phrases vs h es k) i = hole_asks h i
  rest_asks (rests.bounding kind ns pairs vs h ps k) i = hole_asks h i
  rest_asks _ i = tt
