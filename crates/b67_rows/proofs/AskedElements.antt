-- A name for which a head asks, for an element of an array, for an index, for what a parameter stands for or for its passing, or for an event, is
-- seen from the text of its part. All arrays of the part's own instance are made, or the name stands in a bound.
use Rattle.std.proofs.Common.{◌≡◌, ◌⊎◌, inl, inr, refl, subst, List, [], ◌∷◌, Option, Some, None}
use Rattle.b67_rows.proofs.Prelude.{AllByRecursion, PBody, Named, Ask, reads, enters, stores, enters_block, makes_arrays, makes_event, ask, ask_hole, ask_actuals, ask_aim, Hole, read, element, index, tests, broken, enter, inside, subscript, argument, left, right, negated, inverted, condition, Actuals, pass, in_value, Aim, resolve, place_index, inside_place, place_subscript, Rest, over, reading, giving, giving_place, store, select, turning, going, entering_block, entering, starting, acting, line, arrays, event, within, dropping, evaluating, locating, aiming, storing, choosing, looping, checking, counting, differing, stepping, selecting, calling, preparing, writing, bounding, all_to_make, InHole, InActuals, InAim, InRest}
use Rattle.algol_meaning.specs.Asks.{nothing, reads_element, indexes, fails, passes, resolves, reads_result, leaves, selects, turns, goes_to, starts, event_deed, writes}

abbrev pub first_named : List Named → Option Named
first_named [] = None
first_named (n ∷ ns) = Some n

-- the array of which an element or an index is asked for, the parameter that is passed, or by name that is resolved, the first event with
-- which something is done
abbrev pub array_asked : Ask → Option Named
array_asked (reads_element n ks v) = Some n
array_asked (indexes n ks v) = Some n
array_asked (passes n) = Some n
array_asked (resolves n) = Some n
array_asked (event_deed x ns) = first_named ns
array_asked _ = None

-- it is one of these
abbrev pub IsNamed : List Named → Named → Type 0
IsNamed [] n = ⊥
IsNamed (m ∷ ns) n = (m ≡ n) ⊎ IsNamed ns n

-- .. or one of the events with which something is done
abbrev pub IsAsked : Ask → Named → Type 0
IsAsked (reads_element m ks v) n = m ≡ n
IsAsked (indexes m ks v) n = m ≡ n
IsAsked (passes m) n = m ≡ n
IsAsked (resolves m) n = m ≡ n
IsAsked (event_deed x ns) n = IsNamed ns n
IsAsked _ n = ⊥

first_is : (ns : List Named) (n : Named) → first_named ns ≡ Some n → IsNamed ns n
first_is [] n e = cc
first_is (m ∷ ns) n e = let same : m ≡ n = cc in inl same

pub asked_is : (k : Ask) (n : Named) → array_asked k ≡ Some n → IsAsked k n
asked_is nothing n e = cc
asked_is (reads m) n e = cc
asked_is (reads_element m ks v) n e = let same : m ≡ n = cc in same
asked_is (indexes m ks v) n e = let same : m ≡ n = cc in same
asked_is (fails f) n e = cc
asked_is (enters m gs) n e = cc
asked_is (passes m) n e = let same : m ≡ n = cc in same
asked_is (resolves m) n e = let same : m ≡ n = cc in same
asked_is (reads_result name) n e = cc
asked_is (leaves a) n e = cc
asked_is (stores x v) n e = cc
asked_is (selects v ss) n e = cc
asked_is turns n e = cc
asked_is (goes_to m) n e = cc
asked_is (enters_block b) n e = cc
asked_is (starts m gs task) n e = cc
asked_is (event_deed x ns) n e = first_is ns n e
asked_is (writes phrases vs) n e = cc
asked_is (makes_arrays kind ns pairs vs) n e = cc
asked_is (makes_event m) n e = cc

-- what holds of all of these holds of each
named_so : (P : Named → Type 0) (n : Named) (ns : List Named) → IsNamed ns n → AllByRecursion P ns → P n
named_so P n [] e all = absurd e
named_so P n (m ∷ ns) (inl e) all = subst P e all.0
named_so P n (m ∷ ns) (inr e) all = named_so P n ns e all.1

module _ (P : Named → Type 0) (n : Named) where
  mutual
    hole_asks : (h : Hole) → IsAsked (ask_hole h) n → InHole P h → P n
    hole_asks (element m ks i) e is = subst P e is
    hole_asks (index m ks i x es) e is = subst P e is.0
    hole_asks (read m) e is = absurd e
    hole_asks (tests x ns) e is = named_so P n ns e is
    hole_asks (broken op v w fault) e is = absurd e
    hole_asks (enter m gs) e is = absurd e
    hole_asks inside e is = absurd e
    hole_asks (subscript m ks h es) e is = hole_asks h e is.1
    hole_asks (argument m x) e is = actuals_ask x e is.1
    hole_asks (left op h b) e is = hole_asks h e is.0
    hole_asks (right op v h) e is = hole_asks h e is
    hole_asks (negated h) e is = hole_asks h e is
    hole_asks (inverted h) e is = hole_asks h e is
    hole_asks (condition h x y) e is = hole_asks h e is.0

    actuals_ask : (x : Actuals) → IsAsked (ask_actuals x) n → InActuals P x → P n
    actuals_ask (pass gs m sorts es) e is = subst P e is.1
    actuals_ask (in_value gs h sorts es) e is = hole_asks h e is.1

  aim_asks : (a : Aim) → IsAsked (ask_aim a) n → InAim P a → P n
  aim_asks (resolve m) e is = subst P e is
  aim_asks (place_index m ks i es) e is = subst P e is.0
  aim_asks inside_place e is = absurd e
  aim_asks (place_subscript m ks h es) e is = hole_asks h e is.1

-- Of names in bounds R holds, which is more.
module _ (P : Named → Type 0) (n : Named) (Q : PBody → Type 0) (R : Named → Type 0) (narrower : R n → P n) where
  pub record ArraySeen (r : Rest) : Type 0 where
    pub seen : P n
    pub made : (all_to_make r ≡ []) ⊎ R n

  pub asked_seen : (r : Rest) → IsAsked (ask r) n → InRest P Q R r → ArraySeen r
  asked_seen over e is = absurd e
  asked_seen (reading name) e is = absurd e
  asked_seen (giving v) e is = absurd e
  asked_seen (giving_place p) e is = absurd e
  asked_seen (store p v k) e is = absurd e
  asked_seen (select i ss k) e is = absurd e
  asked_seen (turning k) e is = absurd e
  asked_seen (going m) e is = absurd e
  asked_seen (entering_block b k) e is = absurd e
  asked_seen (entering m gs k) e is = absurd e
  asked_seen (starting m gs task k) e is = absurd e
  asked_seen (acting act m k) e is = record { seen = named_so P n (m ∷ []) e (is.0, tt); made = inl refl }
  asked_seen (line phrases vs k) e is = absurd e
  asked_seen (arrays kind ns pairs vs k) e is = absurd e
  asked_seen (event m k) e is = absurd e
  asked_seen (within k) e is = absurd e
  asked_seen (dropping k) e is = absurd e
  asked_seen (evaluating h) e is = record { seen = hole_asks P n h e is; made = inl refl }
  asked_seen (locating a) e is = record { seen = aim_asks P n a e is; made = inl refl }
  asked_seen (aiming a x k) e is = record { seen = aim_asks P n a e is.0; made = inl refl }
  asked_seen (storing p h k) e is = record { seen = hole_asks P n h e is.1; made = inl refl }
  asked_seen (choosing h x y k) e is = record { seen = hole_asks P n h e is.0; made = inl refl }
  asked_seen (looping h c b k) e is = record { seen = hole_asks P n h e is.0; made = inl refl }
  asked_seen (checking h b c k) e is = record { seen = hole_asks P n h e is.0; made = inl refl }
  asked_seen (counting h b k) e is = record { seen = hole_asks P n h e is.0; made = inl refl }
  asked_seen (differing h loop k) e is = record { seen = hole_asks P n h e is.0; made = inl refl }
  asked_seen (stepping d h loop k) e is = record { seen = hole_asks P n h e is.0; made = inl refl }
  asked_seen (selecting h ss k) e is = record { seen = hole_asks P n h e is.0; made = inl refl }
  asked_seen (calling m x k) e is = record { seen = actuals_ask P n x e is.1; made = inl refl }
  asked_seen (preparing m x task k) e is = record { seen = actuals_ask P n x e is.1; made = inl refl }
  asked_seen (writing phrases vs h es k) e is = record { seen = hole_asks P n h e is.0; made = inl refl }
  asked_seen (bounding kind ns pairs vs h ps k) e is = let bound : R n = hole_asks R n h e is.0 in record { seen = narrower bound; made = inr bound }

  pub array_seen : (r : Rest) → array_asked (ask r) ≡ Some n → InRest P Q R r → ArraySeen r
  array_seen r e is = asked_seen r (asked_is (ask r) n e) is
