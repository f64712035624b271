-- Each action changes the event at one place.
use Rattle.std.proofs.Common.{◌≡◌, ◌≢◌, ℕ, Bool, true, false, cond, not, ◌||◌, List, [], ◌∷◌, refl, sym, ap, ◌∙◌, inl, inr}
use Rattle.std.specs.Prelude.{filter, Some, None, is_some}
use Rattle.std.specs.Option.{option_map}
use Rattle.std.proofs.lemmas.Bool.{cases_Bool, cond-true, cond-false, both_ways, false_from_ne_true, not_from_true, not_from_false, or_from, or_parts}
use Rattle.b67_word.specs.declared.Place.{Place}
use Rattle.b67_events.specs.Events.{Event, same_place, event_at, is_open, is_from, event_changed, fresh, is_before, placed, event_opened, closed_from}
use Rattle.b67_events.specs.Laws.{StaysInPlace, EventsAreApart, OneEventChanges, EventsStayApart}
use Rattle.b67_events.proofs.Listed.{same_place_true, same_place_self}
use Rattle.b67_events.proofs.Queued.{any_filter}

-- another place is not that one
apart : (p q : Place) → p ≢ q → same_place p q ≡ false
apart p q h = false_from_ne_true (same_place p q) (λ e. h (same_place_true p q e))

turned : (p q : Place) → same_place p q ≡ false → same_place q p ≡ false
turned p q h = false_from_ne_true (same_place q p) (λ e. both_ways (same_place p q) h (same_place_self p q (sym (same_place_true q p e))))

-- an event that is changed, or not, stays at its place
module _ (at : Place) (change : Event → Event) (stays : StaysInPlace change) where
  one : Event → Event
  one e = cond (same_place e.place at) (change e) e

  place_stays : (e : Event) → (one e).place ≡ e.place
  unfolding one
  place_stays e = elim (cases_Bool (same_place e.place at)) [
    | inl h ↦ ap (λ (g : Event). g.place) (cond-true (same_place e.place at) (change e) e h) ∙ stays e
    | inr h ↦ ap (λ (g : Event). g.place) (cond-false (same_place e.place at) (change e) e h)
  ]

  changed_here : (es : List Event) → event_at at (event_changed at change es) ≡ option_map change (event_at at es)
  unfolding one
  changed_here [] = refl
  changed_here (e ∷ es) =
      let b = same_place e.place at in
      let rest = event_at at (event_changed at change es) in
      let test : same_place (one e).place at ≡ b = ap (λ p. same_place p at) (place_stays e) in
      elim (cases_Bool b) [
        | inl h ↦
            cond-true (same_place (one e).place at) (Some (one e)) rest (test ∙ h)
            ∙ ap Some (cond-true b (change e) e h)
            ∙ sym (ap (option_map change) (cond-true b (Some e) (event_at at es) h))
        | inr h ↦
            cond-false (same_place (one e).place at) (Some (one e)) rest (test ∙ h)
            ∙ changed_here es
            ∙ sym (ap (option_map change) (cond-false b (Some e) (event_at at es) h))
      ]

  changed_elsewhere : (to : Place) → to ≢ at → (es : List Event) → event_at to (event_changed at change es) ≡ event_at to es
  unfolding one
  changed_elsewhere to other [] = refl
  changed_elsewhere to other (e ∷ es) =
      let b = same_place e.place at in
      let t = same_place e.place to in
      let rest = event_at to (event_changed at change es) in
      let test : same_place (one e).place to ≡ t = ap (λ p. same_place p to) (place_stays e) in
      elim (cases_Bool t) [
        | inl h ↦
            let no : b ≡ false = false_from_ne_true b (λ k. other (sym (same_place_true e.place to h) ∙ same_place_true e.place at k)) in
            cond-true (same_place (one e).place to) (Some (one e)) rest (test ∙ h)
            ∙ ap Some (cond-false b (change e) e no)
            ∙ sym (cond-true t (Some e) (event_at to es) h)
        | inr h ↦
            cond-false (same_place (one e).place to) (Some (one e)) rest (test ∙ h)
            ∙ changed_elsewhere to other es
            ∙ sym (cond-false t (Some e) (event_at to es) h)
      ]

  open-changed : (to : Place) (es : List Event) → is_open to (event_changed at change es) ≡ is_open to es
  unfolding one
  open-changed to [] = refl
  open-changed to (e ∷ es) =
      ap (λ p. same_place p to || is_open to (event_changed at change es)) (place_stays e) ∙ ap (λ b. same_place e.place to || b) (open-changed to es)

  apart_changed : (es : List Event) → EventsAreApart es → EventsAreApart (event_changed at change es)
  unfolding one
  apart_changed [] h = tt
  apart_changed (e ∷ es) h = (ap (λ p. is_open p (event_changed at change es)) (place_stays e) ∙ open-changed e.place es ∙ h.0, apart_changed es h.1)

module _ (at : Place) where
  others : List Event → List Event
  others es = filter (λ e. not (same_place e.place at)) es

  goes : (e : Event) (es : List Event) → same_place e.place at ≡ true → others (e ∷ es) ≡ others es
  unfolding others
  goes e es h = cond-false (not (same_place e.place at)) (e ∷ others es) (others es) (not_from_true (same_place e.place at) h)

  remains : (e : Event) (es : List Event) → same_place e.place at ≡ false → others (e ∷ es) ≡ e ∷ others es
  unfolding others
  remains e es h = cond-true (not (same_place e.place at)) (e ∷ others es) (others es) (not_from_false (same_place e.place at) h)

  others_elsewhere : (to : Place) → to ≢ at → (es : List Event) → event_at to (others es) ≡ event_at to es
  unfolding others
  others_elsewhere to other [] = refl
  others_elsewhere to other (e ∷ es) =
      let t = same_place e.place to in
      elim (cases_Bool (same_place e.place at)) [
        | inl h ↦
            let no : t ≡ false = false_from_ne_true t (λ k. other (sym (same_place_true e.place to k) ∙ same_place_true e.place at h)) in
            ap (event_at to) (goes e es h) ∙ others_elsewhere to other es ∙ sym (cond-false t (Some e) (event_at to es) no)
        | inr h ↦ ap (event_at to) (remains e es h) ∙ ap (λ r. cond t (Some e) r) (others_elsewhere to other es)
      ]

  none_left : (es : List Event) → is_open at (others es) ≡ false
  unfolding others
  none_left [] = refl
  none_left (e ∷ es) = elim (cases_Bool (same_place e.place at)) [
    | inl h ↦ ap (is_open at) (goes e es h) ∙ none_left es
    | inr h ↦ ap (is_open at) (remains e es h) ∙ or_from (same_place e.place at) (is_open at (others es)) h (none_left es)
  ]

-- an event among the others at its place
module _ (f : Event) where
  before : (e : Event) (es : List Event) → is_before f.place e.place ≡ true → placed f (e ∷ es) ≡ f ∷ e ∷ es
  before e es h = cond-true (is_before f.place e.place) (f ∷ e ∷ es) (e ∷ placed f es) h

  behind : (e : Event) (es : List Event) → is_before f.place e.place ≡ false → placed f (e ∷ es) ≡ e ∷ placed f es
  behind e es h = cond-false (is_before f.place e.place) (f ∷ e ∷ es) (e ∷ placed f es) h

  placed_here : (es : List Event) → is_open f.place es ≡ false → event_at f.place (placed f es) ≡ Some f
  placed_here [] none = cond-true (same_place f.place f.place) (Some f) None (same_place_self f.place f.place refl)
  placed_here (e ∷ es) none =
      let parts = or_parts (same_place e.place f.place) (is_open f.place es) none in
      elim (cases_Bool (is_before f.place e.place)) [
        | inl h ↦
            ap (event_at f.place) (before e es h)
            ∙ cond-true (same_place f.place f.place) (Some f) (event_at f.place (e ∷ es)) (same_place_self f.place f.place refl)
        | inr h ↦
            ap (event_at f.place) (behind e es h)
            ∙ cond-false (same_place e.place f.place) (Some e) (event_at f.place (placed f es)) parts.0
            ∙ placed_here es parts.1
      ]

  placed_elsewhere : (to : Place) → same_place f.place to ≡ false → (es : List Event) → event_at to (placed f es) ≡ event_at to es
  placed_elsewhere to other [] = cond-false (same_place f.place to) (Some f) None other
  placed_elsewhere to other (e ∷ es) = elim (cases_Bool (is_before f.place e.place)) [
    | inl h ↦ ap (event_at to) (before e es h) ∙ cond-false (same_place f.place to) (Some f) (event_at to (e ∷ es)) other
    | inr h ↦ ap (event_at to) (behind e es h) ∙ ap (λ r. cond (same_place e.place to) (Some e) r) (placed_elsewhere to other es)
  ]

  placed_none : (to : Place) → same_place f.place to ≡ false → (es : List Event) → is_open to es ≡ false → is_open to (placed f es) ≡ false
  placed_none to other [] none = or_from (same_place f.place to) false other refl
  placed_none to other (e ∷ es) none =
      let parts = or_parts (same_place e.place to) (is_open to es) none in
      elim (cases_Bool (is_before f.place e.place)) [
        | inl h ↦ ap (is_open to) (before e es h) ∙ or_from (same_place f.place to) (is_open to (e ∷ es)) other none
        | inr h ↦ ap (is_open to) (behind e es h) ∙ or_from (same_place e.place to) (is_open to (placed f es)) parts.0 (placed_none to other es parts.1)
      ]

  apart_placed : (es : List Event) → is_open f.place es ≡ false → EventsAreApart es → EventsAreApart (placed f es)
  apart_placed [] none h = (refl, tt)
  apart_placed (e ∷ es) none h =
      let parts = or_parts (same_place e.place f.place) (is_open f.place es) none in
      elim (cases_Bool (is_before f.place e.place)) [
        | inl k ↦ rw (before e es k) (none, h)
        | inr k ↦ rw (behind e es k) (placed_none e.place (turned e.place f.place parts.0) es h.0, apart_placed es parts.1 h.1)
      ]

event_opened_here : (at : Place) (es : List Event) → event_at at (event_opened at es) ≡ Some (fresh at)
unfolding others
event_opened_here at es = placed_here (fresh at) (others at es) (none_left at es)

event_opened_elsewhere : (at to : Place) → to ≢ at → (es : List Event) → event_at to (event_opened at es) ≡ event_at to es
unfolding others
event_opened_elsewhere at to other es = placed_elsewhere (fresh at) to (apart at to (λ e. other (sym e))) (others at es) ∙ others_elsewhere at to other es

apart_filter : (r : Event → Bool) (es : List Event) → EventsAreApart es → EventsAreApart (filter r es)
apart_filter r [] h = tt
apart_filter r (e ∷ es) h = elim (cases_Bool (r e)) [
  | inl k ↦ rw (cond-true (r e) (e ∷ filter r es) (filter r es) k) (any_filter (λ f. same_place f.place e.place) r es h.0, apart_filter r es h.1)
  | inr k ↦ rw (cond-false (r e) (e ∷ filter r es) (filter r es) k) (apart_filter r es h.1)
]

apart_opened : (at : Place) (es : List Event) → EventsAreApart es → EventsAreApart (event_opened at es)
unfolding others
apart_opened at es h =
    apart_placed (fresh at) (others at es) (none_left at es) (apart_filter (λ e. not (same_place e.place at)) es h)

module _ (stack low : ℕ) (to : Place) where
  test : Event → Bool
  test e = not (is_from stack low e.place)

  closed_gone : is_from stack low to ≡ true → (es : List Event) → event_at to (closed_from stack low es) ≡ None
  unfolding test
  closed_gone from [] = refl
  closed_gone from (e ∷ es) =
      let rest = closed_from stack low es in
      elim (cases_Bool (is_from stack low e.place)) [
        | inl h ↦ ap (event_at to) (cond-false (test e) (e ∷ rest) rest (not_from_true (is_from stack low e.place) h)) ∙ closed_gone from es
        | inr h ↦
            let no : same_place e.place to ≡ false =
            false_from_ne_true (same_place e.place to)
            (λ k. both_ways (is_from stack low e.place) h (ap (is_from stack low) (same_place_true e.place to k) ∙ from)) in
            ap (event_at to) (cond-true (test e) (e ∷ rest) rest (not_from_false (is_from stack low e.place) h))
            ∙ cond-false (same_place e.place to) (Some e) (event_at to rest) no
            ∙ closed_gone from es
      ]

  closed_stays : is_from stack low to ≡ false → (es : List Event) → event_at to (closed_from stack low es) ≡ event_at to es
  unfolding test
  closed_stays below [] = refl
  closed_stays below (e ∷ es) =
      let rest = closed_from stack low es in
      let t = same_place e.place to in
      elim (cases_Bool (is_from stack low e.place)) [
        | inl h ↦
            let no : t ≡ false =
            false_from_ne_true t (λ k. both_ways (is_from stack low to) below (ap (is_from stack low) (sym (same_place_true e.place to k)) ∙ h)) in
            ap (event_at to) (cond-false (test e) (e ∷ rest) rest (not_from_true (is_from stack low e.place) h))
            ∙ closed_stays below es
            ∙ sym (cond-false t (Some e) (event_at to es) no)
        | inr h ↦
            ap (event_at to) (cond-true (test e) (e ∷ rest) rest (not_from_false (is_from stack low e.place) h))
            ∙ ap (λ r. cond t (Some e) r) (closed_stays below es)
      ]

  closed_is : (es : List Event) → event_at to (closed_from stack low es) ≡ cond (is_from stack low to) None (event_at to es)
  closed_is es = elim (cases_Bool (is_from stack low to)) [
    | inl h ↦ closed_gone h es ∙ sym (cond-true (is_from stack low to) None (event_at to es) h)
    | inr h ↦ closed_stays h es ∙ sym (cond-false (is_from stack low to) None (event_at to es) h)
  ]

found_is : (at : Place) (es : List Event) → is_open at es ≡ is_some (event_at at es)
found_is at [] = refl
found_is at (e ∷ es) =
    let b = same_place e.place at in
    let rest = event_at at es in
    elim (cases_Bool b) [
      | inl h ↦ ap (λ t. t || is_open at es) h ∙ sym (ap is_some (cond-true b (Some e) rest h))
      | inr h ↦ ap (λ t. t || is_open at es) h ∙ found_is at es ∙ sym (ap is_some (cond-false b (Some e) rest h))
    ]

pub one_event : OneEventChanges
unfolding others
one_event = record {
  here = changed_here;
  elsewhere = λ at to change stays other es. changed_elsewhere at change stays to other es;
  opened_here = event_opened_here;
  opened_elsewhere = event_opened_elsewhere;
  closed_there = closed_is;
  found = found_is;
}

pub stay_apart : EventsStayApart
stay_apart = record {
  by_change = apart_changed;
  by_opening = apart_opened;
  by_closing = λ stack low es h. apart_filter (λ e. not (is_from stack low e.place)) es h;
}
