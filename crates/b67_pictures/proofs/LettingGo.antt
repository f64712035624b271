-- A process that is released from a wait leaves all events for which it waits: its image without it in any list of an event, with its woken number,
-- pictures the world after that.
use Rattle.std.proofs.Common.{◌≡◌, ◌≢◌, ◌⊎◌, inl, inr, refl, sym, ap, ◌∙◌, subst, ℕ, zero, suc, List, [], ◌∷◌, length, Option, Some, None, true}
use Rattle.b67_list.proofs.Lists.{set_set_here}
use Rattle.b67_list.proofs.Numbered.{numbered_set}
use Rattle.b67_list.proofs.Numbers.{none_some}
use Rattle.b67_pictures.proofs.Prelude.{map, numbered, set_numbered, EventState, left_by, IsListed, PProgram, Scopes, scopes_of, change_event, event_at, list_in, all_withdrawn, Reference, event, Process, able, lives, World, cell_at, process_at, with_process, set_able, set_all_able, Instance, or_no_instance, cell_in, IsOwn, Place, Code, Event, waiters_at, event_is_among, with_state, list_of, unlisted, Image, woken_number, with_events, able_again, told_positions, Texts, Core, HasCore, length_set_numbered, some_same, same_or_not, numbered_other, numbered_beyond, HasFacts, Layout, EventsAre, numbered_swap, process_is, EventsStay, event_stays, number_by, number_is, list_stays, still_awaiting, IsEventAt, Pictured, living, dead, PicturesBy, AreAwaiting, ListIs}
use Rattle.b67_deeds.specs.Listed.{AreOnce}
use Rattle.algol_meaning.specs.World.{or_no_process}
use Rattle.algol_meaning.specs.Events.{forgotten, told_number, woken_by, withdrawn}
use Rattle.algol_laws.proofs.Releasing.{forgotten_processes}
use Rattle.b67_events.specs.Events as kernel
use Rattle.b67_events.specs.Events.{position_of}
use Rattle.b67_table.specs.declared.ProcessState.TheVariants.{Able}
use Rattle.b67_table.specs.Writes.{with_number}
use Rattle.b67_scenes.proofs.Freeing.{woken_facts, woken_pictured}
use Rattle.b67_scenes.proofs.Waiting.{list_emptied, list_beside}
use Rattle.b67_pictures.proofs.EventMoving.{IsOwned, moved_is, moved_world, moved_facts, moved_stay, moved_pictured}
use Rattle.b67_pictures.proofs.SameEvents.{AllOwned, position_there}
use Rattle.b67_pictures.proofs.SameShape.{IsSameShape, shape_self, shape_on, event_moves, event_later, states_set, states_self, states_on, AreSameButStates, states_back, stays_shape}
use Rattle.b67_pictures.proofs.Walking.{walked, walked_all, all_changed, step_fewer, left_fewer, left_gone}
use Rattle.b67_scenes.proofs.Kept.{living_there}

-- ---- worlds

-- who is released, withdrawn from its events, and able
abbrev pub let_go_one : World → Reference → ℕ → World
let_go_one w r p = set_able (withdrawn w r p) p

abbrev pub let_go_all : World → Reference → List ℕ → World
let_go_all w r [] = w
let_go_all w r (p ∷ ps) = let_go_all (let_go_one w r p) r ps

pub numbered_again : {A : Type 0} (xs : List A) (k : ℕ) (x y : A) → set_numbered (set_numbered xs k x) k y ≡ set_numbered xs k y
numbered_again xs zero x y = refl
numbered_again xs (suc k) x y = set_set_here xs k x y

-- another process beside it
forgotten_beside : (rs : List Reference) (w : World) (p : ℕ) (q : Process) (k : ℕ) → forgotten (with_process w p q) k rs ≡ with_process (forgotten w k rs) p q
forgotten_beside [] w p q k = refl
forgotten_beside (r ∷ rs) w p q k = forgotten_beside rs (change_event w r (Some (left_by k))) p q k

withdrawn_beside : (w : World) (r : Reference) (p : ℕ) (q : Process) (k : ℕ) → p ≢ k → withdrawn (with_process w p q) r k ≡ with_process (withdrawn w r k) p q
withdrawn_beside w r p q k other =
    ap (λ (z : Process). with_process (forgotten (with_process w p q) k (list_in z.state)) k (record z { woken = woken_by r z })) (ap or_no_process (numbered_other w.processes p k q other))
    ∙ ap (λ (u : World). with_process u k (record (process_at w k) { woken = woken_by r (process_at w k) })) (forgotten_beside (list_in ((process_at w k).state)) w p q k)
    ∙ ap (λ (qs : List Process). record (forgotten w k (list_in ((process_at w k).state))) { processes = qs })
    (numbered_swap (forgotten w k (list_in ((process_at w k).state))).processes p k q (record (process_at w k) { woken = woken_by r (process_at w k) }) other)

able_beside_one : (w : World) (p : ℕ) (q : Process) (k : ℕ) → p ≢ k → set_able (with_process w p q) k ≡ with_process (set_able w k) p q
able_beside_one w p q k other =
    ap (λ (o : Option Process). with_process (with_process w p q) k (record (or_no_process o) { state = able })) (numbered_other w.processes p k q other)
    ∙ ap (λ (qs : List Process). record w { processes = qs }) (numbered_swap w.processes p k q (record (process_at w k) { state = able }) other)

pub let_go_beside : (ps : List ℕ) (w : World) (r : Reference) (p : ℕ) (q : Process) → (IsListed ps p → ⊥) → let_go_all (with_process w p q) r ps ≡ with_process (let_go_all w r ps) p q
let_go_beside [] w r p q none = refl
let_go_beside (k ∷ ps) w r p q none =
    ap (λ (u : World). let_go_all u r ps) (ap (λ (u : World). set_able u k) (withdrawn_beside w r p q k other) ∙ able_beside_one (withdrawn w r k) p q k other)
    ∙ let_go_beside ps (let_go_one w r k) r p q (λ listed. none (inr listed))
  where
    other : p ≢ k
    other e = none (inl (sym e))

all_withdrawn_beside : (ps : List ℕ) (w : World) (r : Reference) (p : ℕ) (q : Process) → (IsListed ps p → ⊥) → all_withdrawn (with_process w p q) r ps ≡ with_process (all_withdrawn w r ps) p q
all_withdrawn_beside [] w r p q none = refl
all_withdrawn_beside (k ∷ ps) w r p q none =
    ap (λ (u : World). all_withdrawn u r ps) (withdrawn_beside w r p q k (λ (e : p ≡ k). none (inl (sym e)))) ∙ all_withdrawn_beside ps (withdrawn w r k) r p q (λ listed. none (inr listed))

withdrawn_other : (w : World) (r : Reference) (k p : ℕ) → k ≢ p → process_at (withdrawn w r k) p ≡ process_at w p
withdrawn_other w r k p other =
    ap or_no_process (numbered_other (forgotten w k (list_in ((process_at w k).state))).processes k p (record (process_at w k) { woken = woken_by r (process_at w k) }) other)
    ∙ ap (λ (qs : List Process). or_no_process (numbered qs p)) (forgotten_processes w k (list_in ((process_at w k).state)))

all_withdrawn_other : (ps : List ℕ) (w : World) (r : Reference) (p : ℕ) → (IsListed ps p → ⊥) → process_at (all_withdrawn w r ps) p ≡ process_at w p
all_withdrawn_other [] w r p none = refl
all_withdrawn_other (k ∷ ps) w r p none = all_withdrawn_other ps (withdrawn w r k) r p (λ listed. none (inr listed)) ∙ withdrawn_other w r k p (λ (e : k ≡ p). none (inl e))

-- first all are withdrawn, then all are able: so each is let go, one after the other
pub let_go_is : (ps : List ℕ) (w : World) (r : Reference) → AreOnce ps → set_all_able (all_withdrawn w r ps) ps ≡ let_go_all w r ps
let_go_is [] w r once = refl
let_go_is (p ∷ ps) w r once = ap (λ (u : World). set_all_able u ps) one ∙ let_go_is ps (let_go_one w r p) r once.1
  where
    v : World
    v = withdrawn w r p

    one : set_able (all_withdrawn (withdrawn w r p) r ps) p ≡ all_withdrawn (let_go_one w r p) r ps
    one =
        ap (λ (z : Process). with_process (all_withdrawn (withdrawn w r p) r ps) p (record z { state = able })) (all_withdrawn_other ps (withdrawn w r p) r p once.0)
        ∙ sym (all_withdrawn_beside ps (withdrawn w r p) r p (record (process_at (withdrawn w r p) p) { state = able }) once.0)

-- where the process is there
module _ (w : World) (r : Reference) (k : ℕ) (q : Process) (is : numbered w.processes k ≡ Some q) where
  there_still : numbered (forgotten w k (list_in q.state)).processes k ≡ Some q
  there_still = ap (λ (qs : List Process). numbered qs k) (forgotten_processes w k (list_in q.state)) ∙ is

  pub one_is : let_go_one w r k ≡ with_process (forgotten w k (list_in q.state)) k (record q { state = able; woken = woken_by r q })
  one_is =
      ap (λ (z : Process). set_able (with_process (forgotten w k (list_in z.state)) k (record z { woken = woken_by r z })) k) (process_is w k q is)
      ∙ ap (λ (z : Process). with_process (with_process (forgotten w k (list_in q.state)) k (record q { woken = woken_by r q })) k (record z { state = able }))
      (ap or_no_process (numbered_set (forgotten w k (list_in q.state)).processes k q (record q { woken = woken_by r q }) there_still))
      ∙ ap (λ (qs : List Process). record (forgotten w k (list_in q.state)) { processes = qs })
      (numbered_again (forgotten w k (list_in q.state)).processes k (record q { woken = woken_by r q }) (record q { state = able; woken = woken_by r q }))

-- ---- the shape stays

-- these lead to events
abbrev pub HaveEvents : World → List Reference → Type 0
HaveEvents w [] = Unit {0}
HaveEvents w (r ∷ rs) = ((e : EventState) × (cell_at w r ≡ event e)) × HaveEvents w rs

pub events_have : (w w' : World) → IsSameShape w w' → (rs : List Reference) → HaveEvents w rs → HaveEvents w' rs
events_have w w' same [] have = tt
events_have w w' same (r ∷ rs) have = (event_later w w' same r (have.0).0 (have.0).1, events_have w w' same rs have.1)

-- the same events where the instances are the same
pub same_events : (w w' : World) → w'.instances ≡ w.instances → (rs : List Reference) → HaveEvents w rs → HaveEvents w' rs
same_events w w' same [] have = tt
same_events w w' same (r ∷ rs) have = (
  ((have.0).0, ap (λ (xs : List Instance). cell_in ((or_no_instance (numbered xs r.instance)).cells) r.name) same ∙ (have.0).1),
  same_events w w' same rs have.1,
)

pub stay_events : (w w' : World) → EventsStay w w' → (rs : List Reference) → HaveEvents w rs → HaveEvents w' rs
stay_events w w' stay [] have = tt
stay_events w w' stay (r ∷ rs) have = ((stay r.instance r.name (have.0).0 (have.0).1).1, stay_events w w' stay rs have.1)

pub change_shape : (w : World) (r : Reference) (change : EventState → EventState) → (e : EventState) × (cell_at w r ≡ event e) → IsSameShape w (change_event w r (Some change))
change_shape w r change have = record { instances = event_moves w r have.0 (change (event_at w r)) have.1; processes = states_self w.processes }

forgotten_shape : (w : World) (k : ℕ) (rs : List Reference) → HaveEvents w rs → IsSameShape w (forgotten w k rs)
forgotten_shape w k [] have = shape_self w
forgotten_shape w k (r ∷ rs) have =
    let next : World = change_event w r (Some (left_by k)) in
    let one : IsSameShape w next = change_shape w r (left_by k) have.0 in
    shape_on w next (forgotten next k rs) one (forgotten_shape next k rs (events_have w next one rs have.1))

pub let_go_shape : (w : World) (r : Reference) (k : ℕ) (q : Process) → numbered w.processes k ≡ Some q → lives q.state ≡ true → HaveEvents w (list_in q.state) → IsSameShape w (let_go_one w r k)
let_go_shape w r k q is alive have =
    let f : IsSameShape w (forgotten w k (list_in q.state)) = forgotten_shape w k (list_in q.state) have in
    subst (λ (u : World). IsSameShape w u) (sym (one_is w r k q is))
    (record { instances = f.instances; processes = states_back_set f })
  where
    states_back_set : IsSameShape w (forgotten w k (list_in q.state)) → AreSameButStates w.processes (set_numbered (forgotten w k (list_in q.state)).processes k (record q { state = able; woken = woken_by r q }))
    states_back_set f =
        states_on w.processes (forgotten w k (list_in q.state)).processes (set_numbered (forgotten w k (list_in q.state)).processes k (record q { state = able; woken = woken_by r q })) f.processes
        (states_back (set_numbered (forgotten w k (list_in q.state)).processes k (record q { state = able; woken = woken_by r q })) (forgotten w k (list_in q.state)).processes
        (states_set (forgotten w k (list_in q.state)).processes k q able (woken_by r q) (there_still w r k q is) (sym alive)))

-- who waits is there, and lives, and its list leads to events
pub record Waiter (w : World) (k : ℕ) : Type 0 where
  pub process : Process
  pub is : numbered w.processes k ≡ Some process
  pub alive : lives process.state ≡ true
  pub events : HaveEvents w (list_in process.state)

-- what an image has in a list are events
pub list_events : (sc : Scopes) (w : World) (lay : Layout) (rs : List Reference) (ats : List Place) → ListIs sc w lay rs ats → HaveEvents w rs
list_events sc w lay [] ats is = tt
list_events sc w lay (r ∷ rs) [] is = absurd is
list_events sc w lay (r ∷ rs) (at ∷ ats) is = ((is.0.made.cell, is.0.made.is), list_events sc w lay rs ats is.1)

-- another one is let go
other_there : (w : World) (r : Reference) (p : ℕ) (q : Process) → numbered w.processes p ≡ Some q → (k : ℕ) (o : Process) → p ≢ k → numbered w.processes k ≡ Some o → numbered (let_go_one w r p).processes k ≡ Some o
other_there w r p q at k o other is =
    ap (λ (u : World). numbered u.processes k) (one_is w r p q at)
    ∙ numbered_other (forgotten w p (list_in q.state)).processes p k (record q { state = able; woken = woken_by r q }) other
    ∙ ap (λ (qs : List Process). numbered qs k) (forgotten_processes w p (list_in q.state))
    ∙ is

own_there : (w : World) (r : Reference) (p : ℕ) (q : Process) → numbered w.processes p ≡ Some q → numbered (let_go_one w r p).processes p ≡ Some (record q { state = able; woken = woken_by r q })
own_there w r p q at =
    ap (λ (u : World). numbered u.processes p) (one_is w r p q at)
    ∙ numbered_set (forgotten w p (list_in q.state)).processes p q (record q { state = able; woken = woken_by r q }) (there_still w r p q at)

apart_of : (p : ℕ) (ps : List ℕ) (k : ℕ) → (IsListed ps p → ⊥) → IsListed ps k → p ≢ k
apart_of p ps k none listed e = none (subst (IsListed ps) (sym e) listed)

pub let_go_all_shape : (ps : List ℕ) (w : World) (r : Reference) → AreOnce ps → ((k : ℕ) → IsListed ps k → Waiter w k) → IsSameShape w (let_go_all w r ps)
let_go_all_shape [] w r once waiters = shape_self w
let_go_all_shape (p ∷ ps) w r once waiters =
    let h : Waiter w p = waiters p (inl refl) in
    let next : World = let_go_one w r p in
    let one : IsSameShape w next = let_go_shape w r p h.process h.is h.alive h.events in
    shape_on w next (let_go_all next r ps) one
    (let_go_all_shape ps next r once.1
    (λ k listed.
    let o : Waiter w k = waiters k (inr listed) in
    record {
      process = o.process;
      is = other_there w r p h.process h.is k o.process (apart_of p ps k once.0 listed) o.is;
      alive = o.alive;
      events = events_have w next one (list_in (o.process).state) o.events;
    }))

-- ---- owners

pub owned_same : (w w' : World) → w'.processes ≡ w.processes → (i : ℕ) → IsOwned w i → IsOwned w' i
owned_same w w' same i o = record { number = o.number; process = o.process; is = ap (λ (qs : List Process). numbered qs o.number) same ∙ o.is; alive = o.alive; own = o.own }

pub all_owned : (w w' : World) → ((i : ℕ) → IsOwned w i → IsOwned w' i) → (rs : List Reference) → AllOwned w rs → AllOwned w' rs
all_owned w w' so [] owned = tt
all_owned w w' so (r ∷ rs) owned = (so r.instance owned.0, all_owned w w' so rs owned.1)

owned_then : (w : World) (r : Reference) (p : ℕ) (q : Process) → numbered w.processes p ≡ Some q → (i : ℕ) → IsOwned w i → IsOwned (let_go_one w r p) i
owned_then w r p q at i o = by_number (same_or_not p o.number)
  where
    by_number : (p ≡ o.number) ⊎ (p ≢ o.number) → IsOwned (let_go_one w r p) i
    by_number (inl same) =
        let is_q : q ≡ o.process = some_same (sym at ∙ ap (λ (n : ℕ). numbered w.processes n) same ∙ o.is) in
        record {
          number = p;
          process = record q { state = able; woken = woken_by r q };
          is = own_there w r p q at;
          alive = refl;
          own = subst (λ (z : Process). IsOwn z.todo i) (sym is_q) o.own;
        }
    by_number (inr other) = record { number = o.number; process = o.process; is = other_there w r p q at o.number o.process other o.is; alive = o.alive; own = o.own }

-- a number that is told
number_told : (o : Option ℕ) (numbers : List ℕ) (k n x : ℕ) → numbered numbers k ≡ Some x → woken_number numbers k ≡ n → woken_number (with_number o k numbers) k ≡ told_number o n
number_told None numbers k n x there is = is
number_told (Some m) numbers k n x there is = number_is (set_numbered numbers k m) k m (numbered_set numbers k x m there)

told_many : (o : Option ℕ) (numbers : List ℕ) (k : ℕ) → length (with_number o k numbers) ≡ length numbers
told_many None numbers k = refl
told_many (Some m) numbers k = length_set_numbered numbers k m

told_others : (o : Option ℕ) (numbers : List ℕ) (k r : ℕ) → r ≢ k → woken_number (with_number o k numbers) r ≡ woken_number numbers r
told_others None numbers k r other = refl
told_others (Some m) numbers k r other = number_by (set_numbered numbers k m) numbers r (numbered_other numbers k r m (λ e. other (sym e)))

-- a list as long has an item there as well
pub there_too : {A B : Type 0} (xs : List A) (ys : List B) (k : ℕ) (x : A) → length ys ≡ length xs → numbered xs k ≡ Some x → (y : B) × (numbered ys k ≡ Some y)
there_too {A} {B} xs ys k x many is = found (numbered ys k) refl
  where
    found : (o : Option B) → numbered ys k ≡ o → (y : B) × (numbered ys k ≡ Some y)
    found (Some y) e = (y, e)
    found None e = none_some (sym (numbered_beyond ys xs k (sym many) e) ∙ is)

-- ---- pictures

module _ (tree : PProgram) (code : Code) (texts : Texts) (lay : Layout) where
  abbrev sc : Scopes
  sc = scopes_of tree

  -- other events in the image
  module _ (w : World) (img : Image) (by : PicturesBy tree code texts w lay img) (es : List Event) where
    same_core : (m : ℕ) (core : Core) → HasCore img m core → HasCore (with_events img es) m core
    same_core m core has = record { live = has.live; registers = has.registers; own = has.own; stack = has.stack; is = has.is }

    same_picture : (m : ℕ) (q : Process) → Pictured tree code texts w lay img m q → Pictured tree code texts w lay (with_events img es) m q
    same_picture m q (dead e s) = dead e s
    same_picture m q (living a s l) =
        living a s (living_there tree code texts w lay img (with_events img es) m q q.state q.woken l (same_core m l.core l.has))

    pub events_swapped : EventsAre (scopes_of tree) w lay es → AreAwaiting (with_events img es) → PicturesBy tree code texts w lay (with_events img es)
    events_swapped are awaiting =
        record {
          laid = by.laid;
          arrays = by.arrays;
          events = are;
          waits = record { numbers = by.waits.numbers; woken = by.waits.woken; lists = by.waits.lists; awaiting = awaiting };
          output = by.output;
          fault = by.fault;
          started = by.started;
          counted = by.counted;
          few = by.few;
          states = by.states;
          system = by.system;
          each = λ m q e. same_picture m q (by.each m q e);
        }

  -- the process leaves its events one after the other
  forgotten_pictured : (k : ℕ) (rs : List Reference) (ats : List Place) (w : World) (img : Image) → PicturesBy tree code texts w lay img → HasFacts w → ListIs sc w lay rs ats → AllOwned w rs →
      PicturesBy tree code texts (forgotten w k rs) lay (with_events img (walked k ats img.events)) × HasFacts (forgotten w k rs)
  forgotten_pictured k [] [] w img by facts is owned = (by, facts)
  forgotten_pictured k [] (at ∷ ats) w img by facts is owned = absurd is
  forgotten_pictured k (r ∷ rs) [] w img by facts is owned = absurd is
  forgotten_pictured k (r ∷ rs) (at ∷ ats) w img by facts is owned =
      let next : World = moved_world tree code texts w lay img by facts r at is.0 owned.0 (left_by k) in
      let now : Image = with_events img (kernel.event_changed at (with_state (left_by k)) img.events) in
      subst (λ (u : World). PicturesBy tree code texts (forgotten u k rs) lay (with_events img (walked k ats (kernel.event_changed at (with_state (left_by k)) img.events))) × HasFacts (forgotten u k rs))
      (sym (moved_is tree code texts w lay img by facts r at is.0 owned.0 (left_by k)))
      (forgotten_pictured k rs ats next now
      (moved_pictured tree code texts w lay img by facts r at is.0 owned.0 (left_by k) (still_awaiting img now by.waits.awaiting (λ m to listed. step_fewer k at img.events m to listed) refl refl))
      (moved_facts tree code texts w lay img by facts r at is.0 owned.0 (left_by k))
      (list_stays sc w next lay lay (moved_stay tree code texts w lay img by facts r at is.0 owned.0 (left_by k)) (λ j f laid. laid) rs ats is.1) (all_owned w next (λ i o. owned_same w next refl i o) rs owned.1))

  -- who waits: the instances of its events stand, and it stands among those who wait for its events only
  pub record IsWaiter (w : World) (img : Image) (k : ℕ) : Type 0 where
    pub process : Process
    pub is : numbered w.processes k ≡ Some process
    pub alive : lives process.state ≡ true
    pub owned : AllOwned w (list_in process.state)
    pub within : (to : Place) → IsListed (waiters_at to img.events) k → event_is_among (list_of k img.lists) to ≡ true

  -- A process waits for this event, among others.
  pub record GoesFree : Type 0 where
    pub w : World
    pub img : Image
    pub by : PicturesBy tree code texts w lay img
    pub facts : HasFacts w
    pub reference : Reference
    pub at : Place
    pub lies : IsEventAt (scopes_of tree) w lay reference at
    pub owned : IsOwned w reference.instance
    pub waiter : ℕ
    pub waits : IsWaiter w img waiter
    pub position : Option ℕ
    pub position_is : position ≡ position_of at img.lists waiter

  module _ (free : GoesFree) where
    open free use {w, img, by, facts, reference as r, at, lies, owned as o, waiter as k, waits as h, position, position_is}

    abbrev q : Process
    q = h.process

    abbrev rs : List Reference
    rs = list_in q.state

    abbrev ats : List Place
    ats = list_of k img.lists

    is_list : ListIs sc w lay rs ats
    is_list = subst (λ (z : Process). ListIs sc w lay (list_in z.state) ats) (process_is w k q h.is) (by.waits.lists k)

    abbrev left : World
    left = forgotten w k rs

    walk : PicturesBy tree code texts left lay (with_events img (walked k ats img.events)) × HasFacts left
    walk = forgotten_pictured k rs ats w img by facts is_list h.owned

    abbrev es : List Event
    es = map (with_state (left_by k)) img.events

    fewer : (m : ℕ) (to : Place) → IsListed (waiters_at to es) m → IsListed (waiters_at to img.events) m
    fewer m to listed = left_fewer k (kernel.event_at to img.events) m (subst (λ (x : Option Event). IsListed (kernel.state_of x).waiters m) (all_changed (left_by k) to img.events) listed)

    -- all at once
    swept : PicturesBy tree code texts left lay (with_events img es)
    swept =
        events_swapped left (with_events img (walked k ats img.events)) walk.0 es
        (record {
          are_open = λ i number e to has. walked_all k ats img.events to (h.within to) ∙ walk.0.events.are_open i number e to has;
          apart = walk.0.events.apart;
        }) (still_awaiting img (with_events img es) by.waits.awaiting fewer refl refl)

    nowhere : (to : Place) → IsListed (waiters_at to es) k → ⊥
    nowhere to listed = left_gone k (kernel.event_at to img.events) (subst (λ (x : Option Event). IsListed (kernel.state_of x).waiters k) (all_changed (left_by k) to img.events) listed)

    -- its position is that of the event in the world
    told : woken_by r q ≡ told_number position q.woken
    told = ap (λ (x : Option ℕ). told_number x q.woken) (position_there tree code texts w lay img by facts r at lies o 1 rs ats is_list h.owned ∙ sym position_is)

    is_left : numbered left.processes k ≡ Some q
    is_left = there_still w r k q h.is

    abbrev numbers : List ℕ
    numbers = with_number position k img.numbers

    abbrev lists : List (List Place)
    lists = set_numbered img.lists k []

    has_number : (x : ℕ) × (numbered img.numbers k ≡ Some x)
    has_number = there_too w.processes img.numbers k q by.waits.numbers h.is

    abbrev pub go_image : Image
    go_image = record img {
      events = map (with_state (left_by k)) img.events;
      states = set_numbered img.states k Able;
      lists = set_numbered img.lists k [];
      numbers = with_number position k img.numbers;
    }

    gone : PicturesBy tree code texts (with_process left k (record q { state = able; woken = told_number position q.woken })) lay go_image
    gone =
        woken_pictured tree code texts lay left (with_events img es) swept k q is_left h.alive walk.1 (told_number position q.woken) lists numbers nowhere (list_emptied img.lists k)
        (λ m other. list_beside img.lists k m [] other) (told_many position img.numbers k)
        (number_told position img.numbers k q.woken has_number.0 has_number.1 (by.waits.woken k ∙ ap (λ (z : Process). z.woken) (process_is w k q h.is))) (λ m other. told_others position img.numbers k m other)

    pub go_pictured : PicturesBy tree code texts (let_go_one w r k) lay go_image
    go_pictured =
        subst (λ (u : World). PicturesBy tree code texts u lay go_image) (sym (one_is w r k q h.is))
        (subst (λ (n : ℕ). PicturesBy tree code texts (with_process left k (record q { state = able; woken = n })) lay go_image) (sym told) gone)

    pub go_facts : HasFacts (let_go_one w r k)
    go_facts =
        subst HasFacts (sym (one_is w r k q h.is))
        (subst (λ (n : ℕ). HasFacts (with_process left k (record q { state = able; woken = n }))) (sym told)
        (woken_facts tree code texts lay left (with_events img es) swept k q is_left h.alive walk.1 (told_number position q.woken) lists numbers))

    pub go_shape : IsSameShape w (let_go_one w r k)
    go_shape = let_go_shape w r k q h.is h.alive (list_events sc w lay rs ats is_list)

    -- others wait as they did
    pub others_wait : (m : ℕ) → k ≢ m → IsWaiter w img m → IsWaiter (let_go_one w r k) go_image m
    others_wait m other x =
        record {
          process = x.process;
          is = other_there w r k q h.is m x.process other x.is;
          alive = x.alive;
          owned = all_owned w (let_go_one w r k) (owned_then w r k q h.is) (list_in (x.process).state) x.owned;
          within = λ to listed. ap (λ (ls : List Place). event_is_among ls to) (list_beside img.lists k m [] (λ (e : m ≡ k). other (sym e))) ∙ x.within to (fewer m to listed);
        }

  -- each is let go, one after the other; the lists in which their positions are found are those before
  pub all_gone : (ps : List ℕ) (w : World) (img : Image) → PicturesBy tree code texts w lay img → HasFacts w → (r : Reference) (at : Place) → IsEventAt (scopes_of tree) w lay r at → IsOwned w r.instance → AreOnce ps →
      ((k : ℕ) → IsListed ps k → IsWaiter w img k) → (before : List (List Place)) → ((k : ℕ) → IsListed ps k → list_of k before ≡ list_of k img.lists) →
      PicturesBy tree code texts (let_go_all w r ps) lay
      (record img { events = kernel.withdrawn ps img.events; states = able_again ps img.states; lists = unlisted ps img.lists; numbers = told_positions at before ps img.numbers })
  all_gone [] w img by facts r at lies o once waiters before same = by
  all_gone (k ∷ ps) w img by facts r at lies o once waiters before same =
      let h : IsWaiter w img k = waiters k (inl refl) in
      let position : Option ℕ = position_of at before k in
      let position_is : position ≡ position_of at img.lists k = ap (λ (ls : List Place). kernel.first_that (λ (p : Place). kernel.same_place p at) 1 ls) (same k (inl refl)) in
      let next : World = let_go_one w r k in
      let free : GoesFree = record { w = w; img = img; by = by; facts = facts; reference = r; at = at; lies = lies; owned = o; waiter = k; waits = h; position = position; position_is = position_is } in
      let now : Image = go_image free in
      all_gone ps next now (go_pictured free) (go_facts free) r at
      (event_stays sc w next lay lay (stays_shape w next (go_shape free)) (λ j f laid. laid) r at lies) (owned_then w r k h.process h.is r.instance o) once.1
      (λ m listed. others_wait free m (apart_of k ps m once.0 listed) (waiters m (inr listed))) before
      (λ m listed. same m (inr listed) ∙ sym (list_beside img.lists k m [] (λ (e : m ≡ k). apart_of k ps m once.0 listed (sym e))))
