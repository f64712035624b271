-- The events of the frames that GO TO leaves are closed, and those of all others stay as they were.
use Rattle.std.proofs.Common.{◌≡◌, ◌⊎◌, inl, inr, refl, ap, ◌∙◌, ℕ, Bool, false, List, [], ◌∷◌, Some, None}
use Rattle.b67_scenes.proofs.Prelude.{if◌then◌else◌, numbered, EventState, IsListed, PProgram, Scopes, scopes_of, own_instances, leave, Instance, Process, Part, World, with_process, IsOwn, Word, Place, Code, Stacks, one_event, Event, event_at, is_from, closed_from, waiters_at, Passed, Texts, FramesClose, IsElsewhere, Layout, HasEvent, EventsAre, Frame}
use Rattle.b67_frames.proofs.EventsKept.{events_by}
use Rattle.b67_frames.proofs.EventsLow.{event_outside}
use Rattle.b67_frames.proofs.JumpClosing.{events_left}
use Rattle.b67_scenes.proofs.JumpCut.{NoFrame, Way}
use Rattle.b67_scenes.proofs.JumpWorld.{IsAmong, stood_before}
use Rattle.b67_scenes.proofs.Waiting.{fewer_closed}

-- an event that lies above none of these frames stays
kept : (p : ℕ) (at : Place) (fs : List Passed) (events : List Event) → NoFrame (λ (n : ℕ). is_from p n at) fs → event_at at (events_left p fs events) ≡ event_at at events
kept p at [] events out = refl
kept p at (f ∷ fs) events out =
    kept p at fs (closed_from p f.frame events) out.1
    ∙ one_event.closed_there p f.frame at events
    ∙ ap (λ (t : Bool). if t then None else event_at at events) out.0

-- nobody waits for more
pub fewer_left : (p : ℕ) (fs : List Passed) (events : List Event) (r : ℕ) (at : Place) → IsListed (waiters_at at (events_left p fs events)) r → IsListed (waiters_at at events) r
fewer_left p [] events r at listed = listed
fewer_left p (f ∷ fs) events r at listed = fewer_closed p f.frame events r at (fewer_left p fs (closed_from p f.frame events) r at listed)

module _ (tree : PProgram) (code : Code) (texts : Texts) (closing : FramesClose) (w : World) (lay : Layout) (p i : ℕ) (stacks : Stacks) (stack : List Word) (part : Part) (outer : List Part) (words : List Word)
    (f : Frame tree code texts w lay p part outer words) (down : Way tree code texts closing w lay p i stacks stack part outer words f) (q : Process)
    (held : (k : ℕ) (x : Instance) → numbered w.instances k ≡ Some x → x.left ≡ false → IsOwn (part ∷ outer) k ⊎ IsElsewhere lay p k) where
  abbrev sc : Scopes
  sc = scopes_of tree

  abbrev w' : World
  w' = with_process (leave w (own_instances down.above)) p q

  -- it was an event of an instance that is not left
  before : (k number : ℕ) (e : EventState) (at : Place) → HasEvent sc w' lay k number e at → HasEvent sc w lay k number e at × (IsAmong (own_instances down.above) k → ⊥)
  before k number e at h =
      let b = stood_before (own_instances down.above) w k h.instance h.is h.stands in (
        record {
          instance = h.instance;
          is = b.0;
          stands = h.stands;
          name = h.name;
          declares = h.declares;
          has = h.has;
          frame = h.frame;
          laid = h.laid;
          at_is = h.at_is;
        },
        b.1,
      )

  outside : (k number : ℕ) (e : EventState) (at : Place) → HasEvent sc w' lay k number e at → NoFrame (λ (n : ℕ). is_from p n at) down.passed
  outside k number e at h = by (before k number e at h)
    where
      by : HasEvent sc w lay k number e at × (IsAmong (own_instances down.above) k → ⊥) → NoFrame (λ (n : ℕ). is_from p n at) down.passed
      by b =
          down.frames (λ (n : ℕ). is_from p n at)
          (λ next more lower mark control wanted a inside.
          event_outside tree code texts w lay p (next ∷ more) lower mark control wanted a k (placed (next ∷ more) inside (held k b.0.instance b.0.is b.0.stands)) number e at b.0)
        where
          placed : (parts : List Part) → ((m : ℕ) → IsOwn (down.target ∷ down.parts) m → IsOwn parts m) → IsOwn (part ∷ outer) k ⊎ IsElsewhere lay p k → IsOwn parts k ⊎ IsElsewhere lay p k
          placed parts inside (inl own) = inl (inside k (down.others k own b.1))
          placed parts inside (inr elsewhere) = inr elsewhere

  pub events_jump : (events : List Event) → EventsAre (scopes_of tree) w lay events →
      EventsAre (scopes_of tree) (with_process (leave w (own_instances down.above)) p q) lay (events_left p down.passed events)
  events_jump events are =
      events_by sc w w' lay lay (λ k number e at h. (before k number e at h).0) events (events_left p down.passed events)
      (λ k number e at h. kept p at down.passed events (outside k number e at h)) are
