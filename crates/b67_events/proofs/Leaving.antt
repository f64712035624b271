-- Who is released leaves all events.
use Rattle.std.proofs.Common.{◌≡◌, ℕ, Bool, true, false, cond, not, ◌&&◌, ◌||◌, eqb, List, [], ◌∷◌, map, refl, sym, ap, ◌∙◌, subst, inl, inr}
use Rattle.std.specs.Prelude.{filter}
use Rattle.std.proofs.lemmas.Bool.{cases_Bool, cond-true, cond-false, and_parts, and_from, and_left, both_ways, false_from_ne_true, not_from_true, not_from_false, eqb-true, eq-eqb, or_left, or_right}
use Rattle.b67_word.specs.declared.Place.{Place}
use Rattle.b67_deeds.specs.Events.{left_by}
use Rattle.b67_events.specs.Events.{same_place, waiter_is_one_of, event_is_among, list_of, with_state, event_changed, withdrawn}
use Rattle.b67_events.specs.Kept.{same_queue, stands_in, waiters_listed, EventEntry, event_shown, events_of, set_flags, with_happened, without_waiters, without_first, is_same, is_left, is_named, StandOnce}
use Rattle.b67_events.specs.declared.Queue.{Queue}
use Rattle.b67_events.specs.declared.Queue.TheVariants.{Waiters, Procurers}
use Rattle.b67_events.specs.declared.Waiting.{Waiting}
use Rattle.b67_events.proofs.Listed.{filter_kept}
use Rattle.b67_events.proofs.Shown.{made_same, events_caused}
use Rattle.b67_events.proofs.Stood.{first_is_filter, once_filter}

module _ {X : Type 0} where
  -- a filter after another one is one by both tests
  pub filter_twice : (a b c : X → Bool) → ((x : X) → c x ≡ (b x && a x)) → (xs : List X) → filter a (filter b xs) ≡ filter c xs
  filter_twice a b c both [] = refl
  filter_twice a b c both (x ∷ xs) = elim (cases_Bool (b x)) [
    | inl e ↦
        ap (filter a) (cond-true (b x) (x ∷ filter b xs) (filter b xs) e)
        ∙ ap (λ ys. cond (a x) (x ∷ ys) ys) (filter_twice a b c both xs)
        ∙ ap (λ t. cond t (x ∷ filter c xs) (filter c xs)) (sym (both x ∙ ap (λ t. t && a x) e))
    | inr e ↦
        ap (filter a) (cond-false (b x) (x ∷ filter b xs) (filter b xs) e) ∙ filter_twice a b c both xs
        ∙ sym (cond-false (c x) (x ∷ filter c xs) (filter c xs) (both x ∙ ap (λ t. t && a x) e))
  ]

  pub filter_every : (a : X → Bool) → ((x : X) → a x ≡ true) → (xs : List X) → filter a xs ≡ xs
  filter_every a all [] = refl
  filter_every a all (x ∷ xs) = cond-true (a x) (x ∷ filter a xs) (filter a xs) (all x) ∙ ap (λ ys. x ∷ ys) (filter_every a all xs)

eqb_turn : (a b : ℕ) → eqb a b ≡ eqb b a
eqb_turn a b = elim (cases_Bool (eqb a b)) [
  | inl e ↦ e ∙ sym (eq-eqb b a (sym (eqb-true a b e)))
  | inr e ↦ e ∙ sym (false_from_ne_true (eqb b a) (λ h. both_ways (eqb a b) e (eq-eqb a b (sym (eqb-true b a h)))))
]

-- one who waits for an event to happen, and is one of these
abbrev pub leaves : List ℕ → Waiting → Bool
leaves ps w = same_queue Waiters w.queue && waiter_is_one_of ps w.process

abbrev pub stays : List ℕ → Waiting → Bool
stays ps w = not (leaves ps w)

abbrev leaves_as : ℕ → Waiting → Bool
leaves_as p w = same_queue Waiters w.queue && eqb w.process p

abbrev stays_as : ℕ → Waiting → Bool
stays_as p w = not (leaves_as p w)

-- of the waiters of an event that process goes
listed_left : (p : ℕ) (at : Place) (ws : List Waiting) → waiters_listed Waiters at (filter (stays_as p) ws) ≡ filter (λ q. not (eqb p q)) (waiters_listed Waiters at ws)
listed_left p at [] = refl
listed_left p at (w ∷ ws) =
    let rest = listed_left p at ws in
    let t = stands_in Waiters at w in
    let left : List ℕ → List ℕ = filter (λ q. not (eqb p q)) in
    let numbers : List Waiting → List ℕ = map (λ v. v.process) in
    let there = filter (stands_in Waiters at) ws in
    let mine = filter (stays_as p) ws in
    elim (cases_Bool t) [
      | inl e ↦
          let waits : same_queue Waiters w.queue ≡ true = (and_parts (same_place at w.place) (same_queue Waiters w.queue) e).1 in
          let test : leaves_as p w ≡ eqb p w.process = ap (λ b. b && eqb w.process p) waits ∙ eqb_turn w.process p in
          elim (cases_Bool (eqb p w.process)) [
            | inl k ↦
                ap (waiters_listed Waiters at) (cond-false (stays_as p w) (w ∷ mine) mine (not_from_true (leaves_as p w) (test ∙ k))) ∙ rest
                ∙ sym (ap (λ vs. left (numbers vs)) (cond-true t (w ∷ there) there e)
                ∙ cond-false (not (eqb p w.process)) (w.process ∷ left (numbers there)) (left (numbers there)) (not_from_true (eqb p w.process) k))
            | inr k ↦
                ap (waiters_listed Waiters at) (cond-true (stays_as p w) (w ∷ mine) mine (not_from_false (leaves_as p w) (test ∙ k)))
                ∙ ap numbers (cond-true t (w ∷ filter (stands_in Waiters at) mine) (filter (stands_in Waiters at) mine) e)
                ∙ ap (λ qs. w.process ∷ qs) rest
                ∙ sym (ap (λ vs. left (numbers vs)) (cond-true t (w ∷ there) there e)
                ∙ cond-true (not (eqb p w.process)) (w.process ∷ left (numbers there)) (left (numbers there)) (not_from_false (eqb p w.process) k))
          ]
      | inr e ↦
          let here : waiters_listed Waiters at (filter (stays_as p) (w ∷ ws)) ≡ waiters_listed Waiters at mine = elim (cases_Bool (stays_as p w)) [
            | inl k ↦
                ap (waiters_listed Waiters at) (cond-true (stays_as p w) (w ∷ mine) mine k)
                ∙ ap numbers (cond-false t (w ∷ filter (stands_in Waiters at) mine) (filter (stands_in Waiters at) mine) e)
            | inr k ↦ ap (waiters_listed Waiters at) (cond-false (stays_as p w) (w ∷ mine) mine k)
          ] in
          here ∙ rest ∙ sym (ap (λ vs. left (numbers vs)) (cond-false t (w ∷ there) there e))
    ]

-- its procurers stay
procurers_stay : (p : ℕ) (at : Place) (ws : List Waiting) → waiters_listed Procurers at (filter (stays_as p) ws) ≡ waiters_listed Procurers at ws
procurers_stay p at ws =
    ap (map (λ w. w.process)) (filter_kept (stands_in Procurers at) (stays_as p) (λ w s. not_from_false (leaves_as p w)
    (and_left (same_queue Waiters w.queue) (eqb w.process p) (no_waiter w.queue (and_parts (same_place at w.place) (same_queue Procurers w.queue) s).1))) ws)
  where
    no_waiter : (queue : Queue) → same_queue Procurers queue ≡ true → same_queue Waiters queue ≡ false
    no_waiter Waiters h = cc
    no_waiter Procurers h = refl

-- a process leaves all events
events_left : (p : ℕ) (ws : List Waiting) (fs : List EventEntry) → map (with_state (left_by p)) (events_of fs ws) ≡ events_of fs (filter (stays_as p) ws)
events_left p ws [] = refl
events_left p ws (x ∷ fs) =
    ap (λ e. e ∷ map (with_state (left_by p)) (events_of fs ws))
    (sym (made_same x (waiters_listed Waiters x.0 (filter (stays_as p) ws)) (waiters_listed Procurers x.0 (filter (stays_as p) ws))
    (filter (λ q. not (eqb p q)) (waiters_listed Waiters x.0 ws)) (waiters_listed Procurers x.0 ws) (listed_left p x.0 ws) (procurers_stay p x.0 ws)))
    ∙ ap (λ es. event_shown (filter (stays_as p) ws) x ∷ es) (events_left p ws fs)

both_stay : (s a b : Bool) → not (s && (a || b)) ≡ (not (s && a) && not (s && b))
both_stay true true b = refl
both_stay true false b = refl
both_stay false a b = refl

none_stay : (s : Bool) → not (s && false) ≡ true
none_stay true = refl
none_stay false = refl

-- these processes leave all events
pub events_withdrawn : (ps : List ℕ) (ws : List Waiting) (fs : List EventEntry) → withdrawn ps (events_of fs ws) ≡ events_of fs (filter (stays ps) ws)
events_withdrawn [] ws fs = ap (events_of fs) (sym (filter_every (stays []) (λ w. none_stay (same_queue Waiters w.queue)) ws))
events_withdrawn (p ∷ ps) ws fs =
    ap (withdrawn ps) (events_left p ws fs)
    ∙ events_withdrawn ps (filter (stays_as p) ws) fs
    ∙ ap (events_of fs) (filter_twice (stays ps) (stays_as p) (stays (p ∷ ps)) (λ w. both_stay (same_queue Waiters w.queue) (eqb w.process p) (waiter_is_one_of ps w.process)) ws)

-- An event has happened, or has not; and those who waited for it leave all events.
pub events_released : (at : Place) (b : Bool) (fs : List EventEntry) (ws : List Waiting)
    → events_of (set_flags at (with_happened b) fs) (filter (stays (waiters_listed Waiters at ws)) (filter (λ w. not (stands_in Waiters at w)) ws))
    ≡ withdrawn (waiters_listed Waiters at ws) (event_changed at (with_state (without_waiters b)) (events_of fs ws))
events_released at b fs ws =
    let ps = waiters_listed Waiters at ws in
    sym (events_withdrawn ps (filter (λ w. not (stands_in Waiters at w)) ws) (set_flags at (with_happened b) fs))
    ∙ ap (withdrawn ps) (events_caused at b fs ws)

-- ---- by their lists

-- one goes as this process that waits for this event, or for one of the others
left_both : (q e s m : Bool) → not (q && (e && (s || m))) ≡ (not (e && (s && q)) && not (q && (e && m)))
left_both true true true m = refl
left_both true true false m = refl
left_both true false s m = refl
left_both false true true m = refl
left_both false true false m = refl
left_both false false s m = refl

pub leave_step : (p : ℕ) (at : Place) (rest : List Place) (ws : List Waiting) → StandOnce ws
    → filter (λ w. not (is_left p rest w)) (without_first (is_same (record { process = p; place = at; queue = Waiters })) ws)
    ≡ filter (λ w. not (is_left p (at ∷ rest) w)) ws
leave_step p at rest ws once =
    let one : Waiting = record { process = p; place = at; queue = Waiters } in
    ap (filter (λ w. not (is_left p rest w))) (first_is_filter one ws once)
    ∙ filter_twice (λ w. not (is_left p rest w)) (λ w. not (is_same one w)) (λ w. not (is_left p (at ∷ rest) w))
    (λ w. left_both (same_queue Waiters w.queue) (eqb w.process p) (same_place at w.place) (event_is_among rest w.place)
    ∙ ap (λ e. not (e && (same_place at w.place && same_queue Waiters w.queue)) && not (is_left p rest w)) (eqb_turn w.process p)) ws

pub once_left : (p : ℕ) (at : Place) (ws : List Waiting) → StandOnce ws → StandOnce (without_first (is_same (record { process = p; place = at; queue = Waiters })) ws)
once_left p at ws once =
    let one : Waiting = record { process = p; place = at; queue = Waiters } in
    subst StandOnce (sym (first_is_filter one ws once)) (once_filter (λ w. not (is_same one w)) ws once)

none_goes : (q e : Bool) → not (q && (e && false)) ≡ true
none_goes true true = refl
none_goes true false = refl
none_goes false e = refl

-- of no events nobody waits
pub left_none : (p : ℕ) (places : List Place) (ws : List Waiting) → places ≡ [] → filter (λ w. not (is_left p places w)) ws ≡ ws
left_none p places ws none =
    ap (λ l. filter (λ w. not (is_left p l w)) ws) none ∙ filter_every (λ w. not (is_left p [] w)) (λ w. none_goes (same_queue Waiters w.queue) (eqb w.process p)) ws

pub named_none : (ps : List ℕ) (lists : List (List Place)) (ws : List Waiting) → ps ≡ [] → filter (λ w. not (is_named ps lists w)) ws ≡ ws
named_none ps lists ws none =
    ap (λ l. filter (λ w. not (is_named l lists w)) ws) none ∙ filter_every (λ w. not (is_named [] lists w)) (λ w. none_stay (same_queue Waiters w.queue)) ws

named_both : (q e o m : Bool) → not (q && ((e || o) && m)) ≡ (not (q && (e && m)) && not (q && (o && m)))
named_both true true o true = refl
named_both true true true false = refl
named_both true true false false = refl
named_both true false o m = refl
named_both false e o m = refl

list_where : (e : Bool) (a b : Bool) → (e ≡ true → a ≡ b) → (e && a) ≡ (e && b)
list_where true a b h = h refl
list_where false a b h = refl

pub named_step : (p : ℕ) (rest : List ℕ) (lists : List (List Place)) (ws : List Waiting)
    → filter (λ w. not (is_named rest lists w)) (filter (λ w. not (is_left p (list_of p lists) w)) ws) ≡ filter (λ w. not (is_named (p ∷ rest) lists w)) ws
named_step p rest lists ws =
    filter_twice (λ w. not (is_named rest lists w)) (λ w. not (is_left p (list_of p lists) w)) (λ w. not (is_named (p ∷ rest) lists w))
    (λ w. named_both (same_queue Waiters w.queue) (eqb w.process p) (waiter_is_one_of rest w.process) (event_is_among (list_of w.process lists) w.place)
    ∙ ap (λ k. not (same_queue Waiters w.queue && k) && not (is_named rest lists w))
    (list_where (eqb w.process p) (event_is_among (list_of w.process lists) w.place) (event_is_among (list_of p lists) w.place)
    (λ e. ap (λ n. event_is_among (list_of n lists) w.place) (eqb-true w.process p e)))) ws
