-- The procedure that a head enters is seen from the text of its part, and so are the arrays that it gives to it; a block that it enters
-- stands in that.
use Rattle.std.proofs.Common.{◌≡◌, ◌⊎◌, inl, inr, refl, List, [], ◌∷◌, subst}
use Rattle.b67_rows.proofs.Prelude.{PBody, Named, enters, enters_block, ask, ask_hole, ask_actuals, ask_aim, Given, valued, passed, refers, names, Hole, read, element, index, tests, broken, enter, inside, subscript, argument, left, right, negated, inverted, condition, Actuals, pass, in_value, Aim, resolve, place_index, inside_place, place_subscript, Rest, over, reading, giving, giving_place, store, select, turning, going, entering_block, entering, starting, acting, line, arrays, event, within, dropping, evaluating, locating, aiming, storing, choosing, looping, checking, counting, differing, stepping, selecting, calling, preparing, writing, bounding, all_to_make, InHole, InActuals, InAim, InRest}
use Rattle.algol_tree.specs.Plain.{body}
use Rattle.algol_paths.specs.Texts.{InGivens}

-- Of each name of an array that is given P holds.
abbrev pub InReferred : (Named → Type 0) → List Given → Type 0
InReferred P [] = Unit {0}
InReferred P (refers n ∷ gs) = P n × InReferred P gs
InReferred P (valued v ∷ gs) = InReferred P gs
InReferred P (passed c ∷ gs) = InReferred P gs
InReferred P (names e ∷ gs) = InReferred P gs

pub all_referred : (P : Named → Type 0) (gs : List Given) → InGivens P gs → InReferred P gs
all_referred P [] is = tt
all_referred P (refers n ∷ gs) is = (is.0, all_referred P gs is.1)
all_referred P (valued v ∷ gs) is = all_referred P gs is
all_referred P (passed c ∷ gs) is = all_referred P gs is
all_referred P (names e ∷ gs) is = all_referred P gs is.1

wider : (P R : Named → Type 0) → ((n : Named) → R n → P n) → (gs : List Given) → InReferred R gs → InReferred P gs
wider P R narrower [] is = tt
wider P R narrower (refers n ∷ gs) is = (narrower n is.0, wider P R narrower gs is.1)
wider P R narrower (valued v ∷ gs) is = wider P R narrower gs is
wider P R narrower (passed c ∷ gs) is = wider P R narrower gs is
wider P R narrower (names e ∷ gs) is = wider P R narrower gs is

module _ (P : Named → Type 0) (n : Named) (gs : List Given) where
  -- .. and of the name of the procedure
  abbrev pub InEntry : Type 0
  InEntry = P n × InReferred P gs

  same_entry : (m : Named) (hs : List Given) → enters m hs ≡ enters n gs → P m → InGivens P hs → InEntry
  same_entry m hs e is given =
      let same : m ≡ n = cc in
      let same_given : hs ≡ gs = cc in
      (subst P same is, subst (λ (xs : List Given). InReferred P xs) same_given (all_referred P hs given))

  mutual
    hole_enters : (h : Hole) → ask_hole h ≡ enters n gs → InHole P h → InEntry
    hole_enters (read m) e is = cc
    hole_enters (element m ks i) e is = cc
    hole_enters (index m ks i x es) e is = cc
    hole_enters (tests x ns) e is = cc
    hole_enters (broken op v w fault) e is = cc
    hole_enters (enter m hs) e is = same_entry m hs e is.0 is.1
    hole_enters inside e is = cc
    hole_enters (subscript m ks h es) e is = hole_enters h e is.1
    hole_enters (argument m x) e is = actuals_enter x e is.1
    hole_enters (left op h b) e is = hole_enters h e is.0
    hole_enters (right op v h) e is = hole_enters h e is
    hole_enters (negated h) e is = hole_enters h e is
    hole_enters (inverted h) e is = hole_enters h e is
    hole_enters (condition h x y) e is = hole_enters h e is.0

    actuals_enter : (x : Actuals) → ask_actuals x ≡ enters n gs → InActuals P x → InEntry
    actuals_enter (pass hs m sorts es) e is = cc
    actuals_enter (in_value hs h sorts es) e is = hole_enters h e is.1

  aim_enters : (a : Aim) → ask_aim a ≡ enters n gs → InAim P a → InEntry
  aim_enters (resolve m) e is = cc
  aim_enters (place_index m ks i es) e is = cc
  aim_enters inside_place e is = cc
  aim_enters (place_subscript m ks h es) e is = hole_enters h e is.1

-- of a procedure
pub enters_seen : (P : Named → Type 0) (n : Named) (gs : List Given) (Q : PBody → Type 0) (R : Named → Type 0) → ((m : Named) → R m → P m) → (r : Rest) → ask r ≡ enters n gs → InRest P Q R r → InEntry P n gs
enters_seen P n gs Q R narrower over e is = cc
enters_seen P n gs Q R narrower (reading name) e is = cc
enters_seen P n gs Q R narrower (giving v) e is = cc
enters_seen P n gs Q R narrower (giving_place p) e is = cc
enters_seen P n gs Q R narrower (store p v k) e is = cc
enters_seen P n gs Q R narrower (select i ss k) e is = cc
enters_seen P n gs Q R narrower (turning k) e is = cc
enters_seen P n gs Q R narrower (going m) e is = cc
enters_seen P n gs Q R narrower (entering_block b k) e is = cc
enters_seen P n gs Q R narrower (entering m hs k) e is = same_entry P n gs m hs e is.0 is.1
enters_seen P n gs Q R narrower (starting m hs task k) e is = cc
enters_seen P n gs Q R narrower (acting act m k) e is = cc
enters_seen P n gs Q R narrower (line phrases vs k) e is = cc
enters_seen P n gs Q R narrower (arrays kind ns pairs vs k) e is = cc
enters_seen P n gs Q R narrower (event m k) e is = cc
enters_seen P n gs Q R narrower (within k) e is = cc
enters_seen P n gs Q R narrower (dropping k) e is = cc
enters_seen P n gs Q R narrower (evaluating h) e is = hole_enters P n gs h e is
enters_seen P n gs Q R narrower (storing p h k) e is = hole_enters P n gs h e is.1
enters_seen P n gs Q R narrower (choosing h x y k) e is = hole_enters P n gs h e is.0
enters_seen P n gs Q R narrower (looping h c b k) e is = hole_enters P n gs h e is.0
enters_seen P n gs Q R narrower (checking h b c k) e is = hole_enters P n gs h e is.0
enters_seen P n gs Q R narrower (counting h b k) e is = hole_enters P n gs h e is.0
enters_seen P n gs Q R narrower (differing h loop k) e is = hole_enters P n gs h e is.0
enters_seen P n gs Q R narrower (stepping d h loop k) e is = hole_enters P n gs h e is.0
enters_seen P n gs Q R narrower (selecting h ss k) e is = hole_enters P n gs h e is.0
enters_seen P n gs Q R narrower (writing phrases vs h es k) e is = hole_enters P n gs h e is.0
enters_seen P n gs Q R narrower (bounding kind ns pairs vs h ps k) e is = let there : InEntry R n gs = hole_enters R n gs h e is.0 in (narrower n there.0, wider P R narrower gs there.1)
enters_seen P n gs Q R narrower (locating a) e is = aim_enters P n gs a e is
enters_seen P n gs Q R narrower (aiming a x k) e is = aim_enters P n gs a e is.0
enters_seen P n gs Q R narrower (calling m x k) e is = actuals_enter P n gs x e is.1
enters_seen P n gs Q R narrower (preparing m x task k) e is = actuals_enter P n gs x e is.1

-- arrays are still to be made where it is entered in a bound
pub entered_in_bound : (P : Named → Type 0) (n : Named) (gs : List Given) (Q : PBody → Type 0) (R : Named → Type 0) (r : Rest) → ask r ≡ enters n gs → InRest P Q R r → (all_to_make r ≡ []) ⊎ InEntry R n gs
entered_in_bound P n gs Q R (arrays kind ns pairs vs k) e is = cc
entered_in_bound P n gs Q R (event m k) e is = cc
entered_in_bound P n gs Q R (bounding kind ns pairs vs h ps k) e is = inr (hole_enters R n gs h e is.0)
entered_in_bound P n gs Q R r e is = inl refl

-- no head in an expression enters a block
mutual
  hole_blocks : {A : Type 0} (h : Hole) (b : PBody) → ask_hole h ≡ enters_block b → A
  hole_blocks (read m) b e = cc
  hole_blocks (element m ks i) b e = cc
  hole_blocks (index m ks i x es) b e = cc
  hole_blocks (tests x ns) b e = cc
  hole_blocks (broken op a w fault) b e = cc
  hole_blocks (enter m hs) b e = cc
  hole_blocks inside b e = cc
  hole_blocks (subscript m ks h es) b e = hole_blocks h b e
  hole_blocks (argument m x) b e = actuals_block x b e
  hole_blocks (left op h c) b e = hole_blocks h b e
  hole_blocks (right op a h) b e = hole_blocks h b e
  hole_blocks (negated h) b e = hole_blocks h b e
  hole_blocks (inverted h) b e = hole_blocks h b e
  hole_blocks (condition h x y) b e = hole_blocks h b e

  actuals_block : {A : Type 0} (x : Actuals) (b : PBody) → ask_actuals x ≡ enters_block b → A
  actuals_block (pass hs m sorts es) b e = cc
  actuals_block (in_value hs h sorts es) b e = hole_blocks h b e

aim_blocks : {A : Type 0} (a : Aim) (b : PBody) → ask_aim a ≡ enters_block b → A
aim_blocks (resolve m) b e = cc
aim_blocks (place_index m ks i es) b e = cc
aim_blocks inside_place b e = cc
aim_blocks (place_subscript m ks h es) b e = hole_blocks h b e

-- of a block
pub blocks_seen : (P : Named → Type 0) (Q : PBody → Type 0) (R : Named → Type 0) (b : PBody) (r : Rest) → ask r ≡ enters_block b → InRest P Q R r → Q b
blocks_seen P Q R b over e is = cc
blocks_seen P Q R b (reading name) e is = cc
blocks_seen P Q R b (giving v) e is = cc
blocks_seen P Q R b (giving_place p) e is = cc
blocks_seen P Q R b (store p v k) e is = cc
blocks_seen P Q R b (select i ss k) e is = cc
blocks_seen P Q R b (turning k) e is = cc
blocks_seen P Q R b (going m) e is = cc
blocks_seen P Q R b (entering_block (body spot ds ss) k) e is = let same : body spot ds ss ≡ b = cc in subst Q same is.0
blocks_seen P Q R b (entering m hs k) e is = cc
blocks_seen P Q R b (starting m hs task k) e is = cc
blocks_seen P Q R b (acting act m k) e is = cc
blocks_seen P Q R b (line phrases vs k) e is = cc
blocks_seen P Q R b (arrays kind ns pairs vs k) e is = cc
blocks_seen P Q R b (event m k) e is = cc
blocks_seen P Q R b (within k) e is = cc
blocks_seen P Q R b (dropping k) e is = cc
blocks_seen P Q R b (evaluating h) e is = hole_blocks h b e
blocks_seen P Q R b (storing p h k) e is = hole_blocks h b e
blocks_seen P Q R b (choosing h x y k) e is = hole_blocks h b e
blocks_seen P Q R b (looping h c x k) e is = hole_blocks h b e
blocks_seen P Q R b (checking h x c k) e is = hole_blocks h b e
blocks_seen P Q R b (counting h x k) e is = hole_blocks h b e
blocks_seen P Q R b (differing h loop k) e is = hole_blocks h b e
blocks_seen P Q R b (stepping d h loop k) e is = hole_blocks h b e
blocks_seen P Q R b (selecting h ss k) e is = hole_blocks h b e
blocks_seen P Q R b (writing phrases vs h es k) e is = hole_blocks h b e
blocks_seen P Q R b (bounding kind ns pairs vs h ps k) e is = hole_blocks h b e
blocks_seen P Q R b (locating a) e is = aim_blocks a b e
blocks_seen P Q R b (aiming a x k) e is = aim_blocks a b e
blocks_seen P Q R b (calling m x k) e is = actuals_block x b e
blocks_seen P Q R b (preparing m x task k) e is = actuals_block x b e

-- and no arrays are still to be made there
pub block_unmade : (b : PBody) (r : Rest) → ask r ≡ enters_block b → all_to_make r ≡ []
block_unmade b (arrays kind ns pairs vs k) e = cc
block_unmade b (event m k) e = cc
block_unmade b (bounding kind ns pairs vs h ps k) e = hole_blocks h b e
block_unmade b r e = refl
