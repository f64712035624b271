-- Events of the kernel that are changed one after the other are changed as all at once.
use Rattle.std.proofs.Common.{◌≡◌, ◌⊎◌, inl, inr, refl, sym, ap, ◌∙◌, subst, ℕ, List, [], ◌∷◌, Option, Some, None, Bool, true, false}
use Rattle.b67_pictures.proofs.Prelude.{eqb-true, eq-eqb, option_map, if◌then◌else◌, ◌==◌, ◌||◌, map, EventState, left_by, joined, IsListed, Place, one_event, same_place_true, same_place_self, Event, same_place, waiters_at, event_is_among, event_changed, with_state}
use Rattle.std.specs.Prelude.{not, filter}
use Rattle.b67_deeds.proofs.Lists.{listed_either}
use Rattle.b67_events.specs.Events.{event_at, state_of, joined_all}

-- ---- one event

-- what is at a place after the event at a place is changed
pub changed_there : (at to : Place) (change : EventState → EventState) (es : List Event) → event_at to (event_changed at (with_state change) es) ≡ (if same_place at to then option_map (with_state change) (event_at to es) else event_at to es)
changed_there at to change es = by_test (same_place at to) refl
  where
    by_test : (b : Bool) → same_place at to ≡ b → event_at to (event_changed at (with_state change) es) ≡ (if b then option_map (with_state change) (event_at to es) else event_at to es)
    by_test true e =
        subst (λ (z : Place). event_at z (event_changed at (with_state change) es) ≡ option_map (with_state change) (event_at z es)) (same_place_true at to e)
        (one_event.here at (with_state change) (λ x. refl) es)
    by_test false e = one_event.elsewhere at to (with_state change) (λ x. refl) (λ (same : to ≡ at). let clash : false ≡ true = sym e ∙ same_place_self at to (sym same) in cc) es

-- what is at a place after all are changed
pub all_changed : (change : EventState → EventState) (at : Place) (es : List Event) → event_at at (map (with_state change) es) ≡ option_map (with_state change) (event_at at es)
all_changed change at [] = refl
all_changed change at (x ∷ es) = by_test (same_place x.place at) (all_changed change at es)
  where
    by_test : (b : Bool) → event_at at (map (with_state change) es) ≡ option_map (with_state change) (event_at at es) →
        (if b then Some (with_state change x) else event_at at (map (with_state change) es)) ≡ option_map (with_state change) (if b then Some x else event_at at es)
    by_test true further = refl
    by_test false further = further

-- ---- who leaves

listed_first : (f : ℕ → Bool) (xs : List ℕ) (k : ℕ) → IsListed (filter f xs) k → IsListed xs k
listed_first f [] k listed = listed
listed_first f (x ∷ xs) k listed = by_test (f x) (listed_first f xs k) listed
  where
    by_test : (b : Bool) → (IsListed (filter f xs) k → IsListed xs k) → IsListed (if b then x ∷ filter f xs else filter f xs) k → (x ≡ k) ⊎ IsListed xs k
    by_test true rest (inl e) = inl e
    by_test true rest (inr l) = inr (rest l)
    by_test false rest l = inr (rest l)

gone_first : (p : ℕ) (xs : List ℕ) → IsListed (filter (λ q. not (p == q)) xs) p → ⊥
gone_first p [] listed = listed
gone_first p (x ∷ xs) listed = by_test (p == x) refl (gone_first p xs) listed
  where
    by_test : (b : Bool) → (p == x) ≡ b → (IsListed (filter (λ q. not (p == q)) xs) p → ⊥) → IsListed (if not b then x ∷ filter (λ q. not (p == q)) xs else filter (λ q. not (p == q)) xs) p → ⊥
    by_test true e rest l = rest l
    by_test false e rest (inl same) = let clash : false ≡ true = sym e ∙ eq-eqb p x (sym same) in cc
    by_test false e rest (inr l) = rest l

absent_stays : (p : ℕ) (xs : List ℕ) → (IsListed xs p → ⊥) → filter (λ q. not (p == q)) xs ≡ xs
absent_stays p [] none = refl
absent_stays p (x ∷ xs) none = by_test (p == x) refl (absent_stays p xs (λ l. none (inr l)))
  where
    by_test : (b : Bool) → (p == x) ≡ b → filter (λ q. not (p == q)) xs ≡ xs → (if not b then x ∷ filter (λ q. not (p == q)) xs else filter (λ q. not (p == q)) xs) ≡ x ∷ xs
    by_test true e rest = absurd (none (inl (sym (eqb-true p x e))))
    by_test false e rest = ap (λ (ys : List ℕ). x ∷ ys) rest

-- nobody waits for more after one has left
pub left_fewer : (p : ℕ) (o : Option Event) (k : ℕ) → IsListed (state_of (option_map (with_state (left_by p)) o)).waiters k → IsListed (state_of o).waiters k
left_fewer p None k listed = listed
left_fewer p (Some e) k listed = listed_first (λ q. not (p == q)) e.state.waiters k listed

pub left_gone : (p : ℕ) (o : Option Event) → IsListed (state_of (option_map (with_state (left_by p)) o)).waiters p → ⊥
left_gone p None listed = listed
left_gone p (Some e) listed = gone_first p e.state.waiters listed

left_absent : (p : ℕ) (o : Option Event) → (IsListed (state_of o).waiters p → ⊥) → option_map (with_state (left_by p)) o ≡ o
left_absent p None none = refl
left_absent p (Some e) none = ap (λ (xs : List ℕ). Some (record e { state = record e.state { waiters = xs } })) (absent_stays p e.state.waiters none)

left_twice : (p : ℕ) (o : Option Event) → option_map (with_state (left_by p)) (option_map (with_state (left_by p)) o) ≡ option_map (with_state (left_by p)) o
left_twice p o = left_absent p (option_map (with_state (left_by p)) o) (left_gone p o)

-- a process leaves the events at these places, one after the other
abbrev pub walked : ℕ → List Place → List Event → List Event
walked p [] es = es
walked p (at ∷ ats) es = walked p ats (event_changed at (with_state (left_by p)) es)

pub step_fewer : (p : ℕ) (at : Place) (es : List Event) (k : ℕ) (to : Place) → IsListed (waiters_at to (event_changed at (with_state (left_by p)) es)) k → IsListed (waiters_at to es) k
step_fewer p at es k to listed = by_test (same_place at to) (subst (λ (o : Option Event). IsListed (state_of o).waiters k) (changed_there at to (left_by p) es) listed)
  where
    by_test : (b : Bool) → IsListed (state_of (if b then option_map (with_state (left_by p)) (event_at to es) else event_at to es)).waiters k → IsListed (waiters_at to es) k
    by_test true l = left_fewer p (event_at to es) k l
    by_test false l = l

walked_there : (p : ℕ) (ats : List Place) (es : List Event) (to : Place) → event_at to (walked p ats es) ≡ (if event_is_among ats to then option_map (with_state (left_by p)) (event_at to es) else event_at to es)
walked_there p [] es to = refl
walked_there p (at ∷ ats) es to =
    walked_there p ats (event_changed at (with_state (left_by p)) es) to
    ∙ ap (λ (o : Option Event). if event_is_among ats to then option_map (with_state (left_by p)) o else o) (changed_there at to (left_by p) es)
    ∙ by_tests (same_place at to) (event_is_among ats to)
  where
    by_tests : (a b : Bool) → (if b then option_map (with_state (left_by p)) (if a then option_map (with_state (left_by p)) (event_at to es) else event_at to es) else (if a then option_map (with_state (left_by p)) (event_at to es) else event_at to es))
        ≡ (if a || b then option_map (with_state (left_by p)) (event_at to es) else event_at to es)
    by_tests true true = left_twice p (event_at to es)
    by_tests true false = refl
    by_tests false true = refl
    by_tests false false = refl

-- where it waits for no others, it leaves all events so
pub walked_all : (p : ℕ) (ats : List Place) (es : List Event) (to : Place) → (IsListed (waiters_at to es) p → event_is_among ats to ≡ true) → event_at to (map (with_state (left_by p)) es) ≡ event_at to (walked p ats es)
walked_all p ats es to within = all_changed (left_by p) to es ∙ by_test (event_is_among ats to) refl ∙ sym (walked_there p ats es to)
  where
    by_test : (b : Bool) → event_is_among ats to ≡ b → option_map (with_state (left_by p)) (event_at to es) ≡ (if b then option_map (with_state (left_by p)) (event_at to es) else event_at to es)
    by_test true e = refl
    by_test false e = left_absent p (event_at to es) (λ listed. let clash : false ≡ true = sym e ∙ within listed in cc)

-- ---- who joins

-- a process joins those who wait for the events at these places that are not among those seen
abbrev pub joining : ℕ → List Place → List Place → List Event → List Event
joining p seen [] es = es
joining p seen (at ∷ ats) es = if event_is_among seen at then joining p (at ∷ seen) ats es else (joining p (at ∷ seen) ats (event_changed at (with_state (joined p)) es))

joining_there : (p : ℕ) (seen ats : List Place) (es : List Event) (to : Place) →
    event_at to (joining p seen ats es) ≡ (if event_is_among seen to then event_at to es else (if event_is_among ats to then option_map (with_state (joined p)) (event_at to es) else event_at to es))
joining_there p seen [] es to = by_test (event_is_among seen to)
  where
    by_test : (b : Bool) → event_at to es ≡ (if b then event_at to es else event_at to es)
    by_test true = refl
    by_test false = refl
joining_there p seen (at ∷ ats) es to =
    by_seen (event_is_among seen at) refl (joining_there p (at ∷ seen) ats es to) (joining_there p (at ∷ seen) ats (event_changed at (with_state (joined p)) es) to)
  where
    next : List Event
    next = event_changed at (with_state (joined p)) es

    g : Option Event → Option Event
    g o = option_map (with_state (joined p)) o

    -- the same place is seen or not
    seen_same : same_place at to ≡ true → event_is_among seen to ≡ event_is_among seen at
    seen_same e = ap (λ (z : Place). event_is_among seen z) (sym (same_place_true at to e))

    after_seen : (a b c : Bool) → (a ≡ true → b ≡ true) → (o : Option Event) → (if a || b then o else (if c then g o else o)) ≡ (if b then o else (if a || c then g o else o))
    after_seen true true c h o = refl
    after_seen true false c h o = let clash : false ≡ true = h refl in cc
    after_seen false b c h o = refl

    after_step : (a b c : Bool) → (a ≡ true → b ≡ false) → (o : Option Event) → (if a || b then (if a then g o else o) else (if c then g (if a then g o else o) else (if a then g o else o))) ≡ (if b then o else (if a || c then g o else o))
    after_step true true c h o = let clash : true ≡ false = h refl in cc
    after_step true false c h o = refl
    after_step false b c h o = refl

    Rest : List Event → Type 0
    Rest now = event_at to (joining p (at ∷ seen) ats now) ≡ (if event_is_among (at ∷ seen) to then event_at to now else (if event_is_among ats to then g (event_at to now) else event_at to now))

    by_seen : (d : Bool) → event_is_among seen at ≡ d → Rest es → Rest next →
        event_at to (if d then joining p (at ∷ seen) ats es else (joining p (at ∷ seen) ats next)) ≡ (if event_is_among seen to then event_at to es else (if event_is_among (at ∷ ats) to then g (event_at to es) else event_at to es))
    by_seen true e same_rest rest =
        same_rest
        ∙ after_seen (same_place at to) (event_is_among seen to) (event_is_among ats to) (λ same. seen_same same ∙ e) (event_at to es)
    by_seen false e same_rest rest =
        rest
        ∙ ap (λ (o : Option Event). if same_place at to || event_is_among seen to then o else (if event_is_among ats to then g o else o)) (changed_there at to (joined p) es)
        ∙ after_step (same_place at to) (event_is_among seen to) (event_is_among ats to) (λ same. seen_same same ∙ e) (event_at to es)

joined_there : (p : ℕ) (ats : List Place) (es : List Event) (to : Place) → event_at to (joined_all ats p es) ≡ (if event_is_among ats to then option_map (with_state (joined p)) (event_at to es) else event_at to es)
joined_there p ats [] to = by_test (event_is_among ats to)
  where
    nothing : Option Event
    nothing = None

    by_test : (b : Bool) → nothing ≡ (if b then nothing else nothing)
    by_test true = refl
    by_test false = refl
joined_there p ats (x ∷ es) to = by_place (same_place x.place to) refl (joined_there p ats es to)
  where
    g : Option Event → Option Event
    g o = option_map (with_state (joined p)) o

    first : Bool → Event
    first b = if b then with_state (joined p) x else x

    same_first : (b : Bool) → same_place (first b).place to ≡ same_place x.place to
    same_first true = refl
    same_first false = refl

    here : (b : Bool) → Some (first b) ≡ (if b then Some (with_state (joined p) x) else Some x)
    here true = refl
    here false = refl

    by_place : (a : Bool) → same_place x.place to ≡ a → event_at to (joined_all ats p es) ≡ (if event_is_among ats to then g (event_at to es) else event_at to es) →
        (if same_place (first (event_is_among ats x.place)).place to then Some (first (event_is_among ats x.place)) else event_at to (joined_all ats p es))
        ≡ (if event_is_among ats to then g (if same_place x.place to then Some x else event_at to es) else (if same_place x.place to then Some x else event_at to es))
    by_place true e further =
        ap (λ (b : Bool). if b then Some (first (event_is_among ats x.place)) else event_at to (joined_all ats p es)) (same_first (event_is_among ats x.place) ∙ e)
        ∙ ap (λ (z : Place). Some (first (event_is_among ats z))) (same_place_true x.place to e)
        ∙ here (event_is_among ats to)
        ∙ ap (λ (b : Bool). if event_is_among ats to then g (if b then Some x else event_at to es) else (if b then Some x else event_at to es)) (sym e)
    by_place false e further =
        ap (λ (b : Bool). if b then Some (first (event_is_among ats x.place)) else event_at to (joined_all ats p es)) (same_first (event_is_among ats x.place) ∙ e)
        ∙ further
        ∙ ap (λ (b : Bool). if event_is_among ats to then g (if b then Some x else event_at to es) else (if b then Some x else event_at to es)) (sym e)

-- one after the other as all at once
pub joining_all : (p : ℕ) (ats : List Place) (es : List Event) (to : Place) → event_at to (joined_all ats p es) ≡ event_at to (joining p [] ats es)
joining_all p ats es to = joined_there p ats es to ∙ sym (joining_there p [] ats es to)

-- who waits after that waited before, or is the one that has joined at one of these places
joined_more : (p : ℕ) (o : Option Event) (k : ℕ) → IsListed (state_of (option_map (with_state (joined p)) o)).waiters k → IsListed (state_of o).waiters k ⊎ (p ≡ k)
joined_more p None k listed = inl listed
joined_more p (Some e) k listed = listed_either e.state.waiters p k listed

pub step_more : (p : ℕ) (at : Place) (es : List Event) (k : ℕ) (to : Place) → IsListed (waiters_at to (event_changed at (with_state (joined p)) es)) k → IsListed (waiters_at to es) k ⊎ ((p ≡ k) × (at ≡ to))
step_more p at es k to listed = by_test (same_place at to) refl (subst (λ (o : Option Event). IsListed (state_of o).waiters k) (changed_there at to (joined p) es) listed)
  where
    with_place : at ≡ to → IsListed (waiters_at to es) k ⊎ (p ≡ k) → IsListed (waiters_at to es) k ⊎ ((p ≡ k) × (at ≡ to))
    with_place same (inl l) = inl l
    with_place same (inr e) = inr (e, same)

    by_test : (b : Bool) → same_place at to ≡ b → IsListed (state_of (if b then option_map (with_state (joined p)) (event_at to es) else event_at to es)).waiters k → IsListed (waiters_at to es) k ⊎ ((p ≡ k) × (at ≡ to))
    by_test true e l = with_place (same_place_true at to e) (joined_more p (event_at to es) k l)
    by_test false e l = inl l

pub all_more : (p : ℕ) (ats : List Place) (es : List Event) (k : ℕ) (to : Place) → IsListed (waiters_at to (joined_all ats p es)) k → IsListed (waiters_at to es) k ⊎ ((p ≡ k) × (event_is_among ats to ≡ true))
all_more p ats es k to listed = by_test (event_is_among ats to) refl (subst (λ (o : Option Event). IsListed (state_of o).waiters k) (joined_there p ats es to) listed)
  where
    with_list : event_is_among ats to ≡ true → IsListed (waiters_at to es) k ⊎ (p ≡ k) → IsListed (waiters_at to es) k ⊎ ((p ≡ k) × (event_is_among ats to ≡ true))
    with_list e (inl l) = inl l
    with_list e (inr same) = inr (same, e)

    by_test : (b : Bool) → event_is_among ats to ≡ b → IsListed (state_of (if b then option_map (with_state (joined p)) (event_at to es) else event_at to es)).waiters k → IsListed (waiters_at to es) k ⊎ ((p ≡ k) × (event_is_among ats to ≡ true))
    by_test true e l = with_list e (joined_more p (event_at to es) k l)
    by_test false e l = inl l
