-- What `==` says of the events' flags; when those who wait are the same; and events are the same by their lists.
use Rattle.std.proofs.Common.{◌≡◌, true, ◌&&◌, List, [], ◌∷◌, refl, sym, ap, ◌∙◌}
use Rattle.std.proofs.lemmas.Bool.{and_parts, and_from}
use Rattle.std.specs.Bool.{Decides}
use Rattle.std.specs.Cmp.{booleans_Decides}
use Rattle.std.proofs.Math.Bool.{beq}
use Rattle.b67_word.specs.declared.Place.{Place}
use Rattle.b67_events.specs.Events.{same_place}
use Rattle.b67_events.specs.Kept.{same_queue, stands_in, waiters_listed, EventEntry, event_shown, events_of}
use Rattle.b67_events.specs.declared.Flags.{Flags}
use Rattle.b67_events.specs.declared.Queue.{Queue}
use Rattle.b67_events.specs.declared.Queue.TheVariants.{Waiters, Procurers}
use Rattle.b67_events.specs.declared.Waiting.{Waiting}
use Rattle.b67_events.proofs.Listed.{same_place_true, same_place_self, place_of}
use Rattle.b67_events.proofs.Shown.{made_same}
use Rattle.b67_events.proofs.Queued.{same_queue_true}

pub place_decides : (a b : Place) → Decides (same_place a b) (a ≡ b)
place_decides a b = (λ h. same_place_true a b h, λ h. same_place_self a b h)

pub flags_decides : (a b : Flags) → Decides (beq a.happened b.happened && beq a.available b.available) (a ≡ b)
flags_decides a b =
    let happened = booleans_Decides a.happened b.happened in
    let available = booleans_Decides a.available b.available in (
      λ h.
          let parts = and_parts (beq a.happened b.happened) (beq a.available b.available) h in
          let first : a ≡ record { happened = b.happened; available = a.available } = ap (λ x. record { happened = x; available = a.available }) (happened.0 parts.0) in
          let second : record { happened = b.happened; available = a.available } ≡ b = ap (λ x. record { happened = b.happened; available = x }) (available.0 parts.1) in
          first ∙ second,
      λ h. and_from (beq a.happened b.happened) (beq a.available b.available) (happened.1 (ap (λ (f : Flags). f.happened) h)) (available.1 (ap (λ (f : Flags). f.available) h)),
    )

-- who is the same process, and stands in the same list, is the same
pub waiting_same : (w v : Waiting) → w.process ≡ v.process → stands_in w.queue w.place v ≡ true → w ≡ v
waiting_same w v process h =
    let place : w.place ≡ v.place = place_of w.queue w.place v h in
    let queue : w.queue ≡ v.queue = same_queue_true w.queue v.queue (and_parts (same_place w.place v.place) (same_queue w.queue v.queue) h).1 in
    let first : w ≡ record { process = v.process; place = w.place; queue = w.queue } = ap (λ p. record { process = p; place = w.place; queue = w.queue }) process in
    let second : record { process = v.process; place = w.place; queue = w.queue } ≡ record { process = v.process; place = v.place; queue = w.queue } = ap (λ p. record { process = v.process; place = p; queue = w.queue }) place in
    let third : record { process = v.process; place = v.place; queue = w.queue } ≡ v = ap (λ q. record { process = v.process; place = v.place; queue = q }) queue in
    first ∙ second ∙ third

-- events are the same by the lists of all
pub events_same : (ws vs : List Waiting) → ((queue : Queue) (at : Place) → waiters_listed queue at ws ≡ waiters_listed queue at vs) → (fs : List EventEntry)
    → events_of fs ws ≡ events_of fs vs
events_same ws vs same [] = refl
events_same ws vs same (f ∷ fs) =
    ap (λ e. e ∷ events_of fs ws) (made_same f (waiters_listed Waiters f.0 ws) (waiters_listed Procurers f.0 ws) (waiters_listed Waiters f.0 vs) (waiters_listed Procurers f.0 vs) (same Waiters f.0) (same Procurers f.0))
    ∙ ap (λ es. event_shown vs f ∷ es) (events_same ws vs same fs)
