-- The names that a head asks for are seen from the text of its part.
use Rattle.std.proofs.Common.{◌≡◌, subst}
use Rattle.b67_rows.proofs.Prelude.{PBody, Named, reads, stores, ask, ask_hole, ask_actuals, ask_aim, Hole, read, element, index, tests, broken, enter, inside, subscript, argument, left, right, negated, inverted, condition, Actuals, pass, in_value, Aim, resolve, place_index, inside_place, place_subscript, Rest, over, reading, giving, giving_place, store, select, turning, going, entering_block, entering, starting, acting, line, arrays, event, within, dropping, evaluating, locating, aiming, storing, choosing, looping, checking, counting, differing, stepping, selecting, calling, preparing, writing, bounding, Value, InHole, InActuals, InAim, InRest}
use Rattle.algol_meaning.specs.Rest.{Place, own}
use Rattle.algol_paths.specs.Texts.{InPlace}

module _ (P : Named → Type 0) (n : Named) where
  mutual
    hole_reads : (h : Hole) → ask_hole h ≡ reads n → InHole P h → P n
    hole_reads (read m) e is = let same : m ≡ n = cc in subst P same is
    hole_reads (element m ks i) e is = cc
    hole_reads (index m ks i x es) e is = cc
    hole_reads (tests x ns) e is = cc
    hole_reads (broken op v w fault) e is = cc
    hole_reads (enter m gs) e is = cc
    hole_reads inside e is = cc
    hole_reads (subscript m ks h es) e is = hole_reads h e is.1
    hole_reads (argument m x) e is = actuals_read x e is.1
    hole_reads (left op h b) e is = hole_reads h e is.0
    hole_reads (right op v h) e is = hole_reads h e is
    hole_reads (negated h) e is = hole_reads h e is
    hole_reads (inverted h) e is = hole_reads h e is
    hole_reads (condition h x y) e is = hole_reads h e is.0

    actuals_read : (x : Actuals) → ask_actuals x ≡ reads n → InActuals P x → P n
    actuals_read (pass gs m sorts es) e is = cc
    actuals_read (in_value gs h sorts es) e is = hole_reads h e is.1

  aim_reads : (a : Aim) → ask_aim a ≡ reads n → InAim P a → P n
  aim_reads (resolve m) e is = cc
  aim_reads (place_index m ks i es) e is = cc
  aim_reads inside_place e is = cc
  aim_reads (place_subscript m ks h es) e is = hole_reads h e is.1

-- Of names in bounds R holds, which is more.
module _ (P : Named → Type 0) (n : Named) (Q : PBody → Type 0) (R : Named → Type 0) (narrower : R n → P n) where
  -- of a read
  pub reads_seen : (r : Rest) → ask r ≡ reads n → InRest P Q R r → P n
  reads_seen over e is = cc
  reads_seen (reading name) e is = cc
  reads_seen (giving v) e is = cc
  reads_seen (giving_place p) e is = cc
  reads_seen (store p v k) e is = cc
  reads_seen (select i ss k) e is = cc
  reads_seen (turning k) e is = cc
  reads_seen (going m) e is = cc
  reads_seen (entering_block b k) e is = cc
  reads_seen (entering m gs k) e is = cc
  reads_seen (starting m gs task k) e is = cc
  reads_seen (acting act m k) e is = cc
  reads_seen (line phrases vs k) e is = cc
  reads_seen (arrays kind ns pairs vs k) e is = cc
  reads_seen (event m k) e is = cc
  reads_seen (within k) e is = cc
  reads_seen (dropping k) e is = cc
  reads_seen (evaluating h) e is = hole_reads P n h e is
  reads_seen (locating a) e is = aim_reads P n a e is
  reads_seen (aiming a x k) e is = aim_reads P n a e is.0
  reads_seen (storing p h k) e is = hole_reads P n h e is.1
  reads_seen (choosing h x y k) e is = hole_reads P n h e is.0
  reads_seen (looping h c b k) e is = hole_reads P n h e is.0
  reads_seen (checking h b c k) e is = hole_reads P n h e is.0
  reads_seen (counting h b k) e is = hole_reads P n h e is.0
  reads_seen (differing h loop k) e is = hole_reads P n h e is.0
  reads_seen (stepping d h loop k) e is = hole_reads P n h e is.0
  reads_seen (selecting h ss k) e is = hole_reads P n h e is.0
  reads_seen (calling m x k) e is = actuals_read P n x e is.1
  reads_seen (preparing m x task k) e is = actuals_read P n x e is.1
  reads_seen (writing phrases vs h es k) e is = hole_reads P n h e is.0
  reads_seen (bounding kind ns pairs vs h ps k) e is = narrower (hole_reads R n h e is.0)

  -- no head in an expression stores
  mutual
    hole_stores : {A : Type 0} (h : Hole) (p : Place) (v : Value) → ask_hole h ≡ stores p v → A
    hole_stores (read m) p v e = cc
    hole_stores (element m ks i) p v e = cc
    hole_stores (index m ks i x es) p v e = cc
    hole_stores (tests x ns) p v e = cc
    hole_stores (broken op a w fault) p v e = cc
    hole_stores (enter m gs) p v e = cc
    hole_stores inside p v e = cc
    hole_stores (subscript m ks h es) p v e = hole_stores h p v e
    hole_stores (argument m x) p v e = actuals_store x p v e
    hole_stores (left op h b) p v e = hole_stores h p v e
    hole_stores (right op a h) p v e = hole_stores h p v e
    hole_stores (negated h) p v e = hole_stores h p v e
    hole_stores (inverted h) p v e = hole_stores h p v e
    hole_stores (condition h x y) p v e = hole_stores h p v e

    actuals_store : {A : Type 0} (x : Actuals) (p : Place) (v : Value) → ask_actuals x ≡ stores p v → A
    actuals_store (pass gs m sorts es) p v e = cc
    actuals_store (in_value gs h sorts es) p v e = hole_stores h p v e

  aim_stores : {A : Type 0} (a : Aim) (p : Place) (v : Value) → ask_aim a ≡ stores p v → A
  aim_stores (resolve m) p v e = cc
  aim_stores (place_index m ks i es) p v e = cc
  aim_stores inside_place p v e = cc
  aim_stores (place_subscript m ks h es) p v e = hole_stores h p v e

  -- of a store
  pub stores_seen : (r : Rest) (v : Value) → ask r ≡ stores (own n) v → InRest P Q R r → P n
  stores_seen over v e is = cc
  stores_seen (reading name) v e is = cc
  stores_seen (giving x) v e is = cc
  stores_seen (giving_place p) v e is = cc
  stores_seen (store p x k) v e is = let same : p ≡ own n = cc in subst (λ (y : Place). InPlace P y) same is.0
  stores_seen (select i ss k) v e is = cc
  stores_seen (turning k) v e is = cc
  stores_seen (going m) v e is = cc
  stores_seen (entering_block b k) v e is = cc
  stores_seen (entering m gs k) v e is = cc
  stores_seen (starting m gs task k) v e is = cc
  stores_seen (acting act m k) v e is = cc
  stores_seen (line phrases vs k) v e is = cc
  stores_seen (arrays kind ns pairs vs k) v e is = cc
  stores_seen (event m k) v e is = cc
  stores_seen (within k) v e is = cc
  stores_seen (dropping k) v e is = cc
  stores_seen (evaluating h) v e is = hole_stores h (own n) v e
  stores_seen (locating a) v e is = aim_stores a (own n) v e
  stores_seen (aiming a x k) v e is = aim_stores a (own n) v e
  stores_seen (storing p h k) v e is = hole_stores h (own n) v e
  stores_seen (choosing h x y k) v e is = hole_stores h (own n) v e
  stores_seen (looping h c b k) v e is = hole_stores h (own n) v e
  stores_seen (checking h b c k) v e is = hole_stores h (own n) v e
  stores_seen (counting h b k) v e is = hole_stores h (own n) v e
  stores_seen (differing h loop k) v e is = hole_stores h (own n) v e
  stores_seen (stepping d h loop k) v e is = hole_stores h (own n) v e
  stores_seen (selecting h ss k) v e is = hole_stores h (own n) v e
  stores_seen (calling m x k) v e is = actuals_store x (own n) v e
  stores_seen (preparing m x task k) v e is = actuals_store x (own n) v e
  stores_seen (writing phrases vs h es k) v e is = hole_stores h (own n) v e
  stores_seen (bounding kind ns pairs vs h ps k) v e is = hole_stores h (own n) v e
