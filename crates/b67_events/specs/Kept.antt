-- How events are kept: the flags of each at its place, one list of all who wait, event by event and in order of arrival, and the places of
-- those who wait for several.
use Rattle.std.specs.Prelude.{◌≡◌, ◌⊎◌, ℕ, suc, ◌+◌, ◌*◌, ◌<◌, ◌≤◌, Bool, true, false, ◌&&◌, ◌==◌, nat_lt, nat_le, Option, Some, None, List, [], ◌∷◌, ◌++◌, map, filter, length, if◌then◌else◌, cond}
use Rattle.std.specs.List.{list_any, AllByRecursion}
use Rattle.std.specs.Map.{lookup}
use Rattle.b67_word.specs.declared.Place.{Place}
use Rattle.b67_limits.specs.declared.TheConstants.{MOST_EVENTS}
use Rattle.b67_deeds.specs.Events.{EventState}
use Rattle.b67_events.specs.Events.{Event, same_place, is_before, waiter_is_one_of, event_is_among, list_of}
use Rattle.b67_events.specs.Once.{times_in}
use Rattle.b67_events.specs.declared.Flags.{Flags}
use Rattle.b67_events.specs.declared.Queue.{Queue}
use Rattle.b67_events.specs.declared.Queue.TheVariants.{Waiters, Procurers}
use Rattle.b67_events.specs.declared.Waiting.{Waiting}

abbrev pub same_queue : Queue → Queue → Bool
same_queue Waiters Waiters = true
same_queue Waiters Procurers = false
same_queue Procurers Waiters = false
same_queue Procurers Procurers = true

-- whether one who waits stands in this list of the event at a place
abbrev pub stands_in : Queue → Place → Waiting → Bool
stands_in queue at w = same_place at w.place && same_queue queue w.queue

-- a list of an event: those of all who wait that stand in it
abbrev pub waiters_listed : Queue → Place → List Waiting → List ℕ
waiters_listed queue at ws = map (λ w. w.process) (filter (stands_in queue at) ws)

-- the place of an event that is open, with its flags
abbrev pub EventEntry : Type 0
EventEntry = Place × Flags

-- the event with these flags
abbrev pub event_shown : List Waiting → EventEntry → Event
event_shown ws f = record {
  place = f.0;
  state = record { happened = f.1.happened; available = f.1.available; waiters = waiters_listed Waiters f.0 ws; procurers = waiters_listed Procurers f.0 ws };
}

abbrev pub events_of : List EventEntry → List Waiting → List Event
events_of fs ws = map (event_shown ws) fs

-- the flags of the event at a place
abbrev pub flags_at : Place → List EventEntry → Option Flags
flags_at at fs = lookup (λ p. same_place p at) fs

abbrev pub flag_of : (Flags → Bool) → Option Flags → Bool
flag_of test None = false
flag_of test (Some f) = test f

abbrev pub has_flags : Place → List EventEntry → Bool
has_flags at fs = list_any (λ f. same_place f.0 at) fs

-- the flags of the event at a place are changed
abbrev pub set_flags : Place → (Flags → Flags) → List EventEntry → List EventEntry
set_flags at change fs = map (λ f. if same_place f.0 at then (f.0, change f.1) else f) fs

abbrev pub with_happened : Bool → Flags → Flags
with_happened b f = record f { happened = b }

abbrev pub with_available : Bool → Flags → Flags
with_available b f = record f { available = b }

-- an event with its flags stands before the first one whose place is after its own
abbrev pub event_put : EventEntry → List EventEntry → List EventEntry
event_put f [] = f ∷ []
event_put f (g ∷ gs) = if is_before f.0 g.0 then f ∷ g ∷ gs else g ∷ event_put f gs

-- the displacement of each event is one of a stack
abbrev pub AreWithin : List EventEntry → Type 0
AreWithin fs = (p : Place) → has_flags p fs ≡ true → p.at < 65536

-- a list without its first element that passes a test
abbrev pub without_first : {X : Type 0} → (X → Bool) → List X → List X
without_first test [] = []
without_first test (x ∷ xs) = cond (test x) xs (x ∷ without_first test xs)

-- whether a process is among those who wait
abbrev pub among : ℕ → List Waiting → Bool
among process ws = list_any (λ w. process == w.process) ws

-- whether one stands among those who wait as another does: the same process in the same list of the same event
abbrev pub is_same : Waiting → Waiting → Bool
is_same w v = w.process == v.process && stands_in w.queue w.place v

abbrev pub stands_again : Waiting → List Waiting → Bool
stands_again w ws = list_any (is_same w) ws

-- Each who waits is a process from 1 to n, waits for an event that is open, and stands in each of its lists once.
abbrev pub AreQueued : List EventEntry → ℕ → List Waiting → Type 0
AreQueued fs n [] = Unit {0}
AreQueued fs n (w ∷ ws) =
    (1 ≤ w.process) × (w.process ≤ n) × (has_flags w.place fs ≡ true)
    × (stands_again w ws ≡ false) × AreQueued fs n ws

abbrev pub waiter_numbers_of : List Waiting → List ℕ
waiter_numbers_of ws = map (λ w. w.process) ws

-- There is room for all n processes to wait, each for as many events as one can, and events are open at places of stacks.
pub record IsKept (fs : List EventEntry) (ws : List Waiting) (n capacity : ℕ) : Type 0 where
  pub room : n * MOST_EVENTS ≤ capacity
  pub queued : AreQueued fs n ws
  pub few : (p : ℕ) → times_in p (waiter_numbers_of ws) ≤ MOST_EVENTS
  pub within : AreWithin fs

-- ---- the order of those who wait

abbrev pub rank_in : Queue → ℕ
rank_in Waiters = 0
rank_in Procurers = 1

-- the number by which those stand who wait in this list of the event at a place: two for each displacement of a stack
abbrev pub rank_at : Queue → Place → ℕ
rank_at queue at = at.stack * 131072 + at.at * 2 + rank_in queue

abbrev pub rank_of : Waiting → ℕ
rank_of w = rank_at w.queue w.place

-- Those who wait stand by their ranks, each at a displacement that a stack has.
abbrev pub AreInOrder : List Waiting → Type 0
AreInOrder [] = Unit {0}
AreInOrder (w ∷ ws) = (w.place.at < 65536) × AllByRecursion (λ v. rank_of w ≤ rank_of v) ws × AreInOrder ws

-- how many stand below a rank
abbrev pub below : ℕ → List Waiting → ℕ
below r [] = 0
below r (w ∷ ws) = cond (nat_lt (rank_of w) r) (suc (below r ws)) 0

-- whether one stands from a rank on, and below another
abbrev pub is_ranked : ℕ → ℕ → Waiting → Bool
is_ranked from to w = nat_le from (rank_of w) && nat_lt (rank_of w) to

-- one stands before the first of a higher rank, and so after those who came to its list before it
abbrev pub stand : Waiting → List Waiting → List Waiting
stand one [] = one ∷ []
stand one (w ∷ ws) = cond (nat_lt (rank_of one) (rank_of w)) (one ∷ w ∷ ws) (w ∷ stand one ws)

abbrev pub stand_all : List Waiting → List Waiting → List Waiting
stand_all [] ws = ws
stand_all (one ∷ more) ws = stand_all more (stand one ws)

-- no one stands among those who wait as one after it does
abbrev pub StandOnce : List Waiting → Type 0
StandOnce [] = Unit {0}
StandOnce (w ∷ ws) = (stands_again w ws ≡ false) × StandOnce ws

-- ---- several events

-- an event that lets all go who wait for it has happened, or has not
abbrev pub without_waiters : Bool → EventState → EventState
without_waiters b e = record e { happened = b; waiters = [] }

-- A process that waits for these places joins the waiters of each, but of those that are among the ones seen before.
abbrev pub joiners : ℕ → List Place → List Place → List Waiting
joiners p seen [] = []
joiners p seen (at ∷ places) =
    if event_is_among seen at then joiners p (seen ++ at ∷ []) places
    else record { process = p; place = at; queue = Waiters } ∷ joiners p (seen ++ at ∷ []) places

-- whether one is this process and waits for one of these events to happen
abbrev pub is_left : ℕ → List Place → Waiting → Bool
is_left p places w = same_queue Waiters w.queue && (w.process == p && event_is_among places w.place)

-- whether one is one of these processes and waits for one of the several events that it has listed to happen
abbrev pub is_named : List ℕ → List (List Place) → Waiting → Bool
is_named ps lists w = same_queue Waiters w.queue && (waiter_is_one_of ps w.process && event_is_among (list_of w.process lists) w.place)

abbrev pub waits_at : List Waiting → ℕ → Place → Type 0
waits_at ws p at = waiter_is_one_of (waiters_listed Waiters at ws) p ≡ true

-- A process that waits for two events to happen has listed them.
abbrev pub AreNamed : List (List Place) → List Waiting → Type 0
AreNamed lists ws =
    (p : ℕ) (a b : Place) → waits_at ws p a → waits_at ws p b → (same_place a b ≡ true) ⊎ (event_is_among (list_of p lists) b ≡ true)

-- There is room for the places of all n processes, and they are those for which each waits, where it waits for several.
pub record PlacesAreListed (lists : List (List Place)) (ws : List Waiting) (n capacity : ℕ) : Type 0 where
  pub room : n ≤ capacity
  pub known : length lists ≤ n
  pub named : AreNamed lists ws
