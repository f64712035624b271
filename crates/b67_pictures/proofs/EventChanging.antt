-- An event changes, and with it the state of the process that acts on it: the image pictures the world after it.
use Rattle.std.proofs.Common.{◌≡◌, ◌≢◌, ◌⊎◌, inl, inr, refl, sym, ap, ◌∙◌, subst, ℕ, ◌≤◌, List, ◌∷◌, length, Option, Some, None, true}
use Rattle.b67_pictures.proofs.Prelude.{numbered, EventState, PProgram, Scopes, scopes_of, resume, set_event, list_in, Reference, event, NamedCell, Instance, State, lives, World, or_no_instance, with_instance, with_process, cells_with, Place, Code, stack_limit, Event, event_changed, place, Image, is_live, cell_place, ProcessState, AreNested, Texts, Core, size, HasCore, with_core, same_or_not, arrays_unchanged, events_unchanged, OwnCells, OwnEvent, Layout, ArraysAre, event_there, EventsAre, cell_there, found_laid, Actor, Seen, stored_world, TheLaws, PicturesBy, StateIs, AreAwaiting}
use Rattle.algol_meaning.specs.World as meant
use Rattle.b67_events.specs.Laws.{StaysInPlace}
use Rattle.b67_table.specs.declared.ProcessState.TheVariants as image_states
use Rattle.b67_scenes.proofs.EventHomes.{own_there}
use Rattle.b67_scenes.proofs.EventThere.{as_many, cells_changed, event_keeps, arrays_after, events_after}
use Rattle.b67_pictures.proofs.Alone.{IsAfter}
use Rattle.b67_pictures.proofs.Changing.{refers_fewer, own_pictured, other_pictured, CellChange, PicturesElse}
use Rattle.b67_pictures.proofs.InFrame.{GoesOnAbove}

-- who lives in a world lives in its image
lives_there : (sc : Scopes) (w : World) (lay : Layout) (x : State) (o : Option ProcessState) → StateIs sc w lay x o → lives x ≡ true → is_live o ≡ true
lives_there sc w lay meant.able (Some image_states.Able) is e = refl
lives_there sc w lay (meant.waits_for r) (Some (image_states.WaitsFor at)) is e = refl
lives_there sc w lay (meant.waits_any rs) (Some image_states.WaitsAny) is e = refl
lives_there sc w lay (meant.procures r) (Some (image_states.Procures at)) is e = refl
lives_there sc w lay meant.ended (Some image_states.Ended) is e = cc
lives_there sc w lay meant.able _ is e = absurd is
lives_there sc w lay (meant.waits_for r) _ is e = absurd is
lives_there sc w lay (meant.waits_any rs) _ is e = absurd is
lives_there sc w lay (meant.procures r) _ is e = absurd is
lives_there sc w lay meant.ended _ is e = absurd is

module _ (tree : PProgram) (code : Code) (texts : Texts) (actor : Actor tree code texts) where
  open actor use {w}

  module _ (r : Reference) (l : Seen tree code texts actor r.instance) where
    pub instance_there : numbered w.instances r.instance ≡ Some l.found.lies.owned.framed.instance
    instance_there = ap (numbered w.instances) (sym l.found.lies.instance_is) ∙ l.found.lies.owned.framed.is

    -- the world with another event there
    pub event_world : (later : EventState) → set_event w r later ≡ stored_world w r.instance l.found.lies.owned.framed.instance instance_there (cells_with l.found.lies.owned.framed.instance.cells r.name (event later))
    event_world later = ap (λ (z : Instance). with_instance w r.instance (record z { cells = cells_with z.cells r.name (event later) })) (ap or_no_instance instance_there)

-- The event with this number of an instance whose frame is seen becomes another one; the process comes to this state, with these words above
-- the floor.
module _ (tree : PProgram) (code : Code) (texts : Texts) (nested : AreNested (scopes_of tree)) (laws : TheLaws) (actor : Actor tree code texts) where
  open actor use {w, lay, img, p, q, part, outer, core, s}

  -- How the event changes, in the world and in the image.
  pub record EventStore : Type 0 where
    pub r : Reference
    pub seen : Seen tree code texts actor r.instance
    pub number : ℕ
    pub found : OwnEvent (scopes_of tree) w lay seen.found.lies.part.instance seen.found.lies.owned.framed.instance (own_there tree code texts nested actor seen) r.name number
    pub later : EventState
    pub change : Event → Event
    pub stays : StaysInPlace change
    pub becomes : change (event_there (cell_place (cell_there tree code texts nested actor seen number)) found.cell) ≡ event_there (cell_place (cell_there tree code texts nested actor seen number)) later

  -- The state of the process after it, and those of the image.
  pub record StateAfter : Type 0 where
    pub state : State
    pub lives_now : lives state ≡ true
    pub states : List ProcessState
    pub many_states : length states ≡ length img.states
    pub state_is : StateIs (scopes_of tree) w lay state (numbered states p)
    pub states_are : (m : ℕ) → m ≢ p → numbered states m ≡ numbered img.states m
    pub list_same : list_in state ≡ list_in q.state

  module _ (able_is : lives q.state ≡ true) (onward : GoesOnAbove tree code texts actor) (becoming : EventStore) (then : StateAfter)
      (smaller : size (record { below = core.below; words = onward.words; registers = onward.registers }) ≤ stack_limit)
      (awaiting : AreAwaiting (record img { events = event_changed (cell_place (cell_there tree code texts nested actor becoming.seen becoming.number)) becoming.change img.events; states = then.states }))
      (after : IsAfter (scopes_of tree) w (with_process (stored_world w becoming.r.instance becoming.seen.found.lies.owned.framed.instance (instance_there tree code texts actor becoming.r becoming.seen) (cells_with becoming.seen.found.lies.owned.framed.instance.cells becoming.r.name (event becoming.later))) p (record q { todo = record part { rest = resume (scopes_of tree) part.rest onward.answer } ∷ outer; state = then.state })) p) where
    open then use {state, lives_now, states, many_states, state_is, states_are, list_same}
    open onward use {answer, words, registers, slots as below}
    open becoming use {r, seen as l, number, found, later, change, stays, becomes}

    abbrev sc : Scopes
    sc = scopes_of tree

    -- the instance of the event
    abbrev i : ℕ
    i = r.instance

    abbrev instance : Instance
    instance = l.found.lies.owned.framed.instance

    abbrev at : Place
    at = cell_place (cell_there tree code texts nested actor l number)

    -- .. has it under its own number
    abbrev HasIt : ℕ → Type 0
    HasIt j = (own : OwnCells sc w lay j instance) × (e : OwnEvent sc w lay j instance own r.name number) × (e.cell ≡ found.cell)

    has_it : HasIt i
    has_it = subst HasIt l.found.lies.instance_is (own_there tree code texts nested actor l, found, refl)

    abbrev cells' : List NamedCell
    cells' = cells_with instance.cells r.name (event later)

    abbrev stored : World
    stored = stored_world w i instance (instance_there tree code texts actor r l) cells'

    abbrev w' : World
    w' = with_process stored p (record q { todo = record part { rest = resume sc part.rest answer } ∷ outer; state = state })

    abbrev base : Image
    base = record img { events = event_changed at change img.events; states = states }

    -- each one has its core
    same : (m : ℕ) (other : Core) → HasCore img m other → HasCore base m other
    same m other had = record { live = by_number (same_or_not m p); registers = had.registers; own = had.own; stack = had.stack; is = had.is }
      where
        by_number : (m ≡ p) ⊎ (m ≢ p) → is_live (numbered states m) ≡ true
        by_number (inl e) = ap (λ (n : ℕ). is_live (numbered states n)) e ∙ lives_there sc w lay state (numbered states p) state_is lives_now
        by_number (inr apart) = ap is_live (states_are m apart) ∙ had.live

    arrays_now : ArraysAre sc w' lay img.rows
    arrays_now = arrays_unchanged sc stored w' lay img.rows refl (arrays_after sc w lay i instance has_it.0 r.name number has_it.1 later img.rows s.by.arrays)

    events_now : EventsAre sc w' lay (event_changed at change img.events)
    events_now =
        events_unchanged sc stored w' lay (event_changed at change img.events) refl
        (events_after sc w lay i instance has_it.0 r.name number has_it.1 later (place l.found.number (length l.found.lies.frame.lower)) (found_laid tree code texts w lay img i l.found) change stays
        (ap (λ c. change (event_there at c)) has_it.2 ∙ becomes) img.events s.by.events)

    abbrev cell_change : CellChange tree code texts laws actor
    cell_change = record {
      i = i;
      found = l.found;
      x = instance;
      at = instance_there tree code texts actor r l;
      with_cells = cells';
      far = 0;
      word = None;
      many = as_many sc w lay i instance has_it.0 r.name number has_it.1 later;
      short = λ set. absurd set;
      low = λ set. absurd set;
      keeps = event_keeps sc w lay i instance has_it.0 r.name number has_it.1 later;
      fewer = refers_fewer instance.cells r.name (event later) refl;
      changes = cells_changed sc w lay i instance has_it.0 r.name number has_it.1 later;
    }

    abbrev elsewhere : PicturesElse tree code texts laws actor onward cell_change smaller able_is state
    elsewhere = record {
      base = base;
      same = same;
      stacks = refl;
      after = after;
      arrays = arrays_now;
      events = events_now;
      list_same = list_same;
      lists = refl;
      numbers = refl;
      awaiting = awaiting;
      output = refl;
      fault = refl;
      started = refl;
      regs = refl;
      many_states = many_states;
      states = states_are;
      lives_so = lives_now;
      state_is = state_is;
    }

    pub event_pictured :
        PicturesBy tree code texts
        (with_process
        (stored_world w r.instance l.found.lies.owned.framed.instance (instance_there tree code texts actor r l) (cells_with l.found.lies.owned.framed.instance.cells r.name (event later))) p
        (record q { todo = record part { rest = resume (scopes_of tree) part.rest answer } ∷ outer; state = state })) lay
        (with_core (record img {
          events = event_changed (cell_place (cell_there tree code texts nested actor l number)) change img.events;
          states = states;
        }) p (record { below = core.below; words = words; registers = registers }))
    event_pictured = by_number (same_or_not l.found.number p)
      where
        by_number : (l.found.number ≡ p) ⊎ (l.found.number ≢ p) → PicturesBy tree code texts w' lay (with_core base p (record { below = core.below; words = words; registers = registers }))
        by_number (inl here) =
            own_pictured tree code texts laws actor onward cell_change
            smaller able_is state elsewhere here
        by_number (inr other) =
            other_pictured tree code texts laws actor onward cell_change
            smaller able_is state elsewhere other
