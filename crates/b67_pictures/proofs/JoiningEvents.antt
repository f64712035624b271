-- A process joins those who wait for several events: its image with it in all of their lists pictures the world after that.
use Rattle.std.proofs.Common.{◌≡◌, ◌≢◌, ◌⊎◌, inl, inr, refl, sym, ap, ◌∙◌, subst, ℕ, List, [], ◌∷◌, Option, Some, Bool, true, false}
use Rattle.b67_list.proofs.Numbered.{numbered_set}
use Rattle.b67_list.proofs.Numbers.{none_some}
use Rattle.b67_pictures.proofs.Prelude.{if◌then◌else◌, ◌||◌, numbered, set_numbered, joined, IsListed, PProgram, Scopes, scopes_of, change_event, Reference, Process, waits_any, lives, World, with_process, IsOwn, Place, Code, same_place_self, waiters_at, event_is_among, with_state, list_of, Image, with_events, AwaitsAt, ProcessState, WaitsAny, Texts, some_same, same_or_not, numbered_other, HasFacts, Layout, process_is, events_same, list_stays, PicturesBy, AreAwaiting, ListIs}
use Rattle.algol_meaning.specs.Events as meant
use Rattle.algol_meaning.specs.Events.{joined_all}
use Rattle.b67_events.specs.Events as kernel
use Rattle.b67_events.specs.Events.{with_list}
use Rattle.b67_scenes.proofs.Freeing.{state_facts, state_pictured, StateChanges}
use Rattle.b67_scenes.proofs.Waiting.{list_there}
use Rattle.b67_pictures.proofs.EventMoving.{IsOwned, moved_is, moved_world, moved_facts, moved_stay, moved_pictured}
use Rattle.b67_pictures.proofs.LettingGo.{events_swapped, owned_same, all_owned}
use Rattle.b67_pictures.proofs.SameEvents.{AllOwned, among_there}
use Rattle.b67_pictures.proofs.Walking.{joining, joining_all, step_more, all_more}
use Rattle.b67_table.proofs.Several.{list_other}

-- what becomes of another process is beside it
pub joined_beside : (seen rs : List Reference) (w : World) (p : ℕ) (q : Process) (k : ℕ) → joined_all (with_process w p q) k seen rs ≡ with_process (joined_all w k seen rs) p q
joined_beside seen [] w p q k = refl
joined_beside seen (r ∷ rs) w p q k =
    by_test (meant.reference_is_among seen r) (joined_beside (r ∷ seen) rs w p q k) (joined_beside (r ∷ seen) rs (change_event w r (Some (joined k))) p q k)
  where
    by_test : (b : Bool) → joined_all (with_process w p q) k (r ∷ seen) rs ≡ with_process (joined_all w k (r ∷ seen) rs) p q →
        joined_all (change_event (with_process w p q) r (Some (joined k))) k (r ∷ seen) rs ≡ with_process (joined_all (change_event w r (Some (joined k))) k (r ∷ seen) rs) p q →
        (if b then joined_all (with_process w p q) k (r ∷ seen) rs else (joined_all (change_event (with_process w p q) r (Some (joined k))) k (r ∷ seen) rs))
        ≡ with_process (if b then joined_all w k (r ∷ seen) rs else (joined_all (change_event w r (Some (joined k))) k (r ∷ seen) rs)) p q
    by_test true e f = e
    by_test false e f = f

module _ (tree : PProgram) (code : Code) (texts : Texts) (lay : Layout) where
  abbrev sc : Scopes
  sc = scopes_of tree

  -- The process waits for several events, among which are all at these places; it joins them one after the other.
  joining_pictured : (k : ℕ) (rs seen : List Reference) (ats seen_at : List Place) (w : World) (img : Image) → PicturesBy tree code texts w lay img → HasFacts w → ListIs sc w lay rs ats → AllOwned w rs →
      ListIs sc w lay seen seen_at → AllOwned w seen → numbered img.states k ≡ Some WaitsAny → ((at : Place) → event_is_among ats at ≡ true → event_is_among (list_of k img.lists) at ≡ true) →
      PicturesBy tree code texts (joined_all w k seen rs) lay (with_events img (joining k seen_at ats img.events))
  joining_pictured k [] seen [] seen_at w img by facts is owned seen_is seen_owned state within = by
  joining_pictured k [] seen (at ∷ ats) seen_at w img by facts is owned seen_is seen_owned state within = absurd is
  joining_pictured k (r ∷ rs) seen [] seen_at w img by facts is owned seen_is seen_owned state within = absurd is
  joining_pictured k (r ∷ rs) seen (at ∷ ats) seen_at w img by facts is owned seen_is seen_owned state within =
      let next : World = moved_world tree code texts w lay img by facts r at is.0 owned.0 (joined k) in
      let now : Image = with_events img (kernel.event_changed at (with_state (joined k)) img.events) in
      let stay = moved_stay tree code texts w lay img by facts r at is.0 owned.0 (joined k) in
      let own_so : (i : ℕ) → IsOwned w i → IsOwned next i = λ i o. owned_same w next refl i o in
      by_test (meant.reference_is_among seen r) (event_is_among seen_at at) (among_there tree code texts w lay img by facts r at is.0 owned.0 seen seen_at seen_is seen_owned)
      (joining_pictured k rs (r ∷ seen) ats (at ∷ seen_at) w img by facts is.1 owned.1 (is.0, seen_is) (owned.0, seen_owned) state (λ to among. within to (later (kernel.same_place at to) (event_is_among ats to) among)))
      (subst (λ (u : World). PicturesBy tree code texts (joined_all u k (r ∷ seen) rs) lay (with_events img (joining k (at ∷ seen_at) ats (kernel.event_changed at (with_state (joined k)) img.events))))
      (sym (moved_is tree code texts w lay img by facts r at is.0 owned.0 (joined k)))
      (joining_pictured k rs (r ∷ seen) ats (at ∷ seen_at) next now
      (moved_pictured tree code texts w lay img by facts r at is.0 owned.0 (joined k)
      (λ m to listed. awaits_still m to (step_more k at img.events m to listed) (by.waits.awaiting m to)))
      (moved_facts tree code texts w lay img by facts r at is.0 owned.0 (joined k)) (list_stays sc w next lay lay stay (λ j f laid. laid) rs ats is.1) (all_owned w next own_so rs owned.1)
      (list_stays sc w next lay lay stay (λ j f laid. laid) (r ∷ seen) (at ∷ seen_at) (is.0, seen_is)) (all_owned w next own_so (r ∷ seen) (owned.0, seen_owned)) state
      (λ to among. within to (later (kernel.same_place at to) (event_is_among ats to) among))))
    where
      later : (a b : Bool) → b ≡ true → (a || b) ≡ true
      later true b e = refl
      later false b e = e

      awaits_still : (m : ℕ) (to : Place) → IsListed (waiters_at to img.events) m ⊎ ((k ≡ m) × (at ≡ to)) → (IsListed (waiters_at to img.events) m → AwaitsAt (numbered img.states m) (list_of m img.lists) to) →
          AwaitsAt (numbered img.states m) (list_of m img.lists) to
      awaits_still m to (inl l) before = before l
      awaits_still m to (inr here) before =
          subst (λ (n : ℕ). AwaitsAt (numbered img.states n) (list_of n img.lists) to) here.0
          (subst (λ (o : Option ProcessState). AwaitsAt o (list_of k img.lists) to) (sym state) (within to (first_is here.1)))
        where
          first_is : at ≡ to → event_is_among (at ∷ ats) to ≡ true
          first_is e = ap (λ (b : Bool). b || event_is_among ats to) (same_place_self at to e)

      by_test : (a b : Bool) → a ≡ b → PicturesBy tree code texts (joined_all w k (r ∷ seen) rs) lay (with_events img (joining k (at ∷ seen_at) ats img.events)) →
          PicturesBy tree code texts (joined_all (change_event w r (Some (joined k))) k (r ∷ seen) rs) lay (with_events img (joining k (at ∷ seen_at) ats (kernel.event_changed at (with_state (joined k)) img.events))) →
          PicturesBy tree code texts (if a then joined_all w k (r ∷ seen) rs else (joined_all (change_event w r (Some (joined k))) k (r ∷ seen) rs)) lay
          (with_events img (if b then joining k (at ∷ seen_at) ats img.events else (joining k (at ∷ seen_at) ats (kernel.event_changed at (with_state (joined k)) img.events))))
      by_test true true e same moved = same
      by_test true false e same moved = cc
      by_test false true e same moved = cc
      by_test false false e same moved = moved

  -- A process that no event lists waits for these.
  -- A process that no event lists is to wait for these.
  pub record WaitsForThese : Type 0 where
    pub w : World
    pub img : Image
    pub by : PicturesBy tree code texts w lay img
    pub facts : HasFacts w
    pub p : ℕ
    pub q : Process
    pub is : numbered w.processes p ≡ Some q
    pub alive : lives q.state ≡ true
    pub nowhere : (to : Place) → IsListed (waiters_at to img.events) p → ⊥
    pub machine_state : ProcessState
    pub there : numbered img.states p ≡ Some machine_state
    pub events_named : List Reference
    pub places : List Place
    pub list : ListIs (scopes_of tree) w lay events_named places
    pub owned : AllOwned w events_named

  module _ (waits : WaitsForThese) where
    open waits use {w, img, by, facts, p, q, is, alive, nowhere, machine_state, there, events_named as rs, places as ats, list, owned}

    some : p ≢ 0
    some none = none_some (ap (λ (n : ℕ). numbered w.processes n) (sym none) ∙ is)

    abbrev q' : Process
    q' = record q { state = waits_any rs }

    abbrev waiting : World
    waiting = with_process w p q'

    abbrev lists : List (List Place)
    lists = with_list img.lists p ats

    abbrev first : Image
    first = record img { states = set_numbered img.states p WaitsAny; lists = lists }

    stay : (rs : List Reference) (ats : List Place) → ListIs sc w lay rs ats → ListIs sc waiting lay rs ats
    stay rs ats l = list_stays sc w waiting lay lay (λ j. events_same w waiting j refl) (λ j f laid. laid) rs ats l

    own_there : (i : ℕ) → IsOwned w i → IsOwned waiting i
    own_there i o = by_number (same_or_not p o.number)
      where
        by_number : (p ≡ o.number) ⊎ (p ≢ o.number) → IsOwned waiting i
        by_number (inl same) =
            let is_q : q ≡ o.process = some_same (sym is ∙ ap (λ (n : ℕ). numbered w.processes n) same ∙ o.is) in
            record { number = p; process = q'; is = numbered_set w.processes p q q' is; alive = refl; own = subst (λ (z : Process). IsOwn z.todo i) (sym is_q) o.own }
        by_number (inr other) = record { number = o.number; process = o.process; is = numbered_other w.processes p o.number q' other ∙ o.is; alive = o.alive; own = o.own }

    abbrev changes : StateChanges tree code texts lay
    changes = record {
      w = w;
      img = img;
      by = by;
      process = p;
      old = q;
      at = is;
      alive = alive;
      facts = facts;
      state = waits_any rs;
      stays = refl;
      machine_state = WaitsAny;
      live = refl;
      woken = q.woken;
      lists = lists;
      numbers = img.numbers;
    }

    first_is : PicturesBy tree code texts waiting lay first
    first_is =
        state_pictured tree code texts lay changes tt (λ to listed. absurd (nowhere to listed))
        (subst (λ (places : List Place). ListIs sc waiting lay rs places) (sym (list_there img.lists p ats some)) (stay rs ats list)) (λ r other. list_other img.lists p r ats other) refl
        (by.waits.woken p ∙ ap (λ (z : Process). z.woken) (process_is w p q is)) (λ r other. refl)

    first_facts : HasFacts waiting
    first_facts = state_facts tree code texts lay changes

    list_now : list_of p lists ≡ ats
    list_now = list_there img.lists p ats some

    state_now : numbered first.states p ≡ Some WaitsAny
    state_now = numbered_set img.states p machine_state WaitsAny there

    joined_so : PicturesBy tree code texts (joined_all waiting p [] rs) lay (with_events first (joining p [] ats img.events))
    joined_so =
        joining_pictured p rs [] ats [] waiting first first_is first_facts (stay rs ats list) (all_owned w waiting own_there rs owned) tt tt state_now
        (λ at among. ap (λ (places : List Place). event_is_among places at) list_now ∙ among)

    awaiting : AreAwaiting (with_events first (kernel.joined_all ats p img.events))
    awaiting m to listed = by_more (all_more p ats img.events m to listed)
      where
        by_more : IsListed (waiters_at to img.events) m ⊎ ((p ≡ m) × (event_is_among ats to ≡ true)) → AwaitsAt (numbered first.states m) (list_of m lists) to
        by_more (inl l) = first_is.waits.awaiting m to l
        by_more (inr here) =
            subst (λ (n : ℕ). AwaitsAt (numbered first.states n) (list_of n lists) to) here.0
            (subst (λ (o : Option ProcessState). AwaitsAt o (list_of p lists) to) (sym state_now) (ap (λ (places : List Place). event_is_among places to) list_now ∙ here.1))

    pub joined_pictured : PicturesBy tree code texts (with_process (joined_all w p [] rs) p (record q { state = waits_any rs })) lay
        (record img { events = kernel.joined_all ats p img.events; lists = with_list img.lists p ats; states = set_numbered img.states p WaitsAny })
    joined_pictured =
        subst (λ (u : World). PicturesBy tree code texts u lay (with_events first (kernel.joined_all ats p img.events))) (joined_beside [] rs w p q' p)
        (events_swapped tree code texts lay (joined_all waiting p [] rs) (with_events first (joining p [] ats img.events)) joined_so (kernel.joined_all ats p img.events)
        (record {
          are_open = λ i number e to has. joining_all p ats img.events to ∙ joined_so.events.are_open i number e to has;
          apart = joined_so.events.apart;
        }) awaiting)
