-- The events of an image are those of a later world, in which an instance has made one more, or in which one has changed.
use Rattle.std.proofs.Common.{◌≡◌, ◌≢◌, ◌⊎◌, inl, inr, sym, ap, ◌∙◌, subst, ℕ, zero, suc, ◌+◌, ◌<◌, ◌≤◌, List, [], ◌∷◌, ◌++◌, length, Some, arith}
use Rattle.b67_list.proofs.Lists.{get_within}
use Rattle.b67_list.proofs.Numbered.{numbered_set}
use Rattle.b67_frames.proofs.Prelude.{slice_get, numbered, set_numbered, EventState, block_numbered, Scopes, event, NamedCell, Instance, World, Place, one_event, Event, event_at, event_opened, place, simple_cells, made_of, made_base, some_same, same_or_not, most_or_more, numbered_other, get_seam, Layout, HasEvent, EventsAre}
use Rattle.std.specs.Option.{option_map}
use Rattle.b67_deeds.specs.Events.{fresh_state}
use Rattle.b67_events.specs.Events.{event_changed}
use Rattle.b67_events.specs.Laws.{StaysInPlace}
use Rattle.b67_frames.specs.Events.{event_there}

-- One instance changes: this event of it is one of the later world, and each other event was one before.
module _ (sc : Scopes) (w w' : World) (lay lay' : Layout) (i number : ℕ) (later : EventState) (there : Place) where
  -- an event of the later world is that one, or another one that was before
  pub data Came (j other : ℕ) (e : EventState) (at : Place) : Type 0 where
    this : i ≡ j → number ≡ other → later ≡ e → there ≡ at → Came j other e at
    before : HasEvent sc w lay j other e at → (i ≡ j → number ≡ other → ⊥) → Came j other e at

  pub events_came : ((j other : ℕ) (e : EventState) (at : Place) → HasEvent sc w' lay' j other e at → Came j other e at) → (events now : List Event) → event_at there now ≡ Some (event_there there later) →
      ((j other : ℕ) (e : EventState) (at : Place) → HasEvent sc w lay j other e at → (i ≡ j → number ≡ other → ⊥) → (at ≢ there) × (event_at at now ≡ event_at at events)) → EventsAre sc w lay events →
      EventsAre sc w' lay' now
  events_came origin events now here others are =
      record {
        are_open = λ j other e at h. open_by j other e at (origin j other e at h);
        apart = λ j k other more e f at h o. apart_by j k other more e f at (origin j other e at h) (origin k more f at o);
      }
    where
      open_by : (j other : ℕ) (e : EventState) (at : Place) → Came j other e at → event_at at now ≡ Some (event_there at e)
      open_by j other e at (this same number_is cell_is place_is) =
          ap (λ (x : Place). event_at x now) (sym place_is) ∙ here ∙ ap (λ (x : Place). Some (event_there x later)) place_is ∙ ap (λ (x : EventState). Some (event_there at x)) cell_is
      open_by j other e at (before h apart) = (others j other e at h apart).1 ∙ are.are_open j other e at h

      apart_by : (j k other more : ℕ) (e f : EventState) (at : Place) → Came j other e at → Came k more f at → (j ≡ k) × (other ≡ more)
      apart_by j k other more e f at (this same number_is cell_is place_is) (this same' number_is' cell_is' place_is') = (sym same ∙ same', sym number_is ∙ number_is')
      apart_by j k other more e f at (this same number_is cell_is place_is) (before o apart) = absurd ((others k more f at o apart).0 (sym place_is))
      apart_by j k other more e f at (before h apart) (this same number_is cell_is place_is) = absurd ((others j other e at h apart).0 (sym place_is))
      apart_by j k other more e f at (before h apart) (before o apart') = are.apart j k other more e f at h o

-- ---- one event more

-- The instance has made so much before, and now an event, which its block declares; the event's cell lies at this place, where none lay.
-- The instance has an event more.
pub record MakesEvent (sc : Scopes) (w : World) (w' : World) (lay : Layout) (lay' : Layout) (i : ℕ) : Type 0 where
  pub x : Instance
  pub name : List ℕ
  pub number : ℕ
  pub is : numbered w.instances i ≡ Some x
  pub now : w'.instances ≡ set_numbered w.instances i (record x { cells = x.cells ++ record { name = name; cell = event fresh_state } ∷ [] })
  pub many : length x.cells ≡ length (simple_cells sc (block_numbered sc.blocks x.block)) + number
  pub places : (j : ℕ) (f : Place) → numbered lay'.places j ≡ Some f → numbered lay.places j ≡ Some f
  pub frame : Place
  pub laid : numbered lay.places i ≡ Some frame

module _ (sc : Scopes) (w w' : World) (lay lay' : Layout) (i : ℕ) (makes : MakesEvent sc w w' lay lay' i) where
  open makes use {x, name, number, is, now, many, places, frame, laid}

  abbrev grown : Instance
  grown = record x { cells = x.cells ++ record { name = name; cell = event fresh_state } ∷ [] }

  abbrev there : Place
  there = place frame.stack (frame.at + (made_base sc (block_numbered sc.blocks x.block) + number))

  abbrev IsCome : (j other : ℕ) (e : EventState) (at : Place) → Type 0
  IsCome j other e at = Came sc w w' lay lay' i number fresh_state (place frame.stack (frame.at + (made_base sc (block_numbered sc.blocks x.block) + number))) j other e at

  module _ (j other : ℕ) (e : EventState) (at : Place) (h : HasEvent sc w' lay' j other e at) where
    set_there : numbered (set_numbered w.instances i grown) j ≡ Some h.instance
    set_there = ap (λ (xs : List Instance). numbered xs j) (sym now) ∙ h.is

    module _ (same : i ≡ j) (here : grown ≡ h.instance) where
      block_is : x.block ≡ h.instance.block
      block_is = ap (λ (z : Instance). z.block) here

      abbrev front : ℕ
      front = length (simple_cells sc (block_numbered sc.blocks x.block))

      has_it : slice_get (x.cells ++ record { name = name; cell = event fresh_state } ∷ []) (front + other) ≡ Some (record { name = h.name; cell = event e })
      has_it = ap (λ (z : Instance). slice_get z.cells (length (simple_cells sc (block_numbered sc.blocks z.block)) + other)) here ∙ h.has

      frame_is : frame ≡ h.frame
      frame_is = some_same (sym laid ∙ ap (λ (k : ℕ). numbered lay.places k) same ∙ places j h.frame h.laid)

      fresh : number ≡ other → IsCome j other e at
      fresh number_is =
          this same number_is cell_is
          (ap (λ (k : ℕ). place frame.stack (frame.at + (made_base sc (block_numbered sc.blocks x.block) + k))) number_is
          ∙ ap (λ (f : Place). place f.stack (f.at + (made_base sc (block_numbered sc.blocks x.block) + other))) frame_is
          ∙ ap (λ (b : ℕ). place h.frame.stack (h.frame.at + (made_base sc (block_numbered sc.blocks b) + other))) block_is
          ∙ sym h.at_is)
        where
          cell_is : fresh_state ≡ e
          cell_is =
              let lies : slice_get (x.cells ++ record { name = name; cell = event fresh_state } ∷ []) (front + other) ≡ Some (record { name = name; cell = event fresh_state }) =
              get_seam x.cells (record { name = name; cell = event fresh_state }) [] (front + other) (omega (arith, many, number_is)) in
              let cells_are : event fresh_state ≡ event e = ap (λ (c : NamedCell). c.cell) (some_same (sym lies ∙ has_it)) in
              cc

      old : (number ≡ other → ⊥) → IsCome j other e at
      old apart =
          before
          (record {
            instance = x;
            is = ap (λ (k : ℕ). numbered w.instances k) (sym same) ∙ is;
            stands = ap (λ (z : Instance). z.left) here ∙ h.stands;
            name = h.name;
            declares = ap (λ (b : ℕ). slice_get (made_of (block_numbered sc.blocks b).decls) other) block_is ∙ h.declares;
            has = in_front x.cells (front + other) (omega (arith, many, low)) has_it;
            frame = h.frame;
            laid = places j h.frame h.laid;
            at_is = h.at_is ∙ ap (λ (b : ℕ). place h.frame.stack (h.frame.at + (made_base sc (block_numbered sc.blocks b) + other))) (sym block_is);
          }) (λ own number_is. apart number_is)
        where
          long : (cells : List NamedCell) (c : NamedCell) → length (cells ++ c ∷ []) ≡ length cells + 1
          long [] c = omega arith
          long (d ∷ cells) c = omega (arith, long cells c)

          low : front + other < length x.cells
          low =
              by_number (most_or_more number other)
            where
              most : front + other < length x.cells + 1
              most =
                  omega (
                    arith,
                    get_within (x.cells ++ record { name = name; cell = event fresh_state } ∷ []) (front + other) (record { name = h.name; cell = event e }) has_it,
                    long x.cells (record { name = name; cell = event fresh_state }),
                  )

              by_number : (number ≤ other) ⊎ (other < number) → front + other < length x.cells
              by_number (inl high) = absurd (apart (omega (arith, high, most, many)))
              by_number (inr small) = omega (arith, small, many)

          in_front : (cells : List NamedCell) (k : ℕ) → k < length cells → slice_get (cells ++ record { name = name; cell = event fresh_state } ∷ []) k ≡ Some (record { name = h.name; cell = event e }) →
              slice_get cells k ≡ Some (record { name = h.name; cell = event e })
          in_front [] k low e = absurd (omega (arith, low))
          in_front (c ∷ cells) zero low e = e
          in_front (c ∷ cells) (suc k) low e = in_front cells k (omega (arith, low)) e

    made_origin : IsCome j other e at
    made_origin = by_instance (same_or_not i j)
      where
        by_instance : (i ≡ j) ⊎ (i ≢ j) → IsCome j other e at
        by_instance (inl same) = by_number same (some_same (sym (numbered_set w.instances i x grown is) ∙ ap (λ (k : ℕ). numbered (set_numbered w.instances i grown) k) same ∙ set_there)) (same_or_not number other)
          where
            by_number : (same : i ≡ j) → grown ≡ h.instance → (number ≡ other) ⊎ (number ≢ other) → IsCome j other e at
            by_number same here (inl number_is) = fresh same here number_is
            by_number same here (inr apart) = old same here apart
        by_instance (inr different) =
            before
            (record {
              instance = h.instance;
              is = sym (numbered_other w.instances i j grown different) ∙ set_there;
              stands = h.stands;
              name = h.name;
              declares = h.declares;
              has = h.has;
              frame = h.frame;
              laid = places j h.frame h.laid;
              at_is = h.at_is;
            }) (λ same number_is. different same)

  -- it is open there, and is fresh
  pub events_made : (events : List Event) →
      ((j other : ℕ) (e : EventState) (at : Place) → HasEvent sc w lay j other e at → at ≢ place frame.stack (frame.at + (made_base sc (block_numbered sc.blocks x.block) + number))) → EventsAre sc w lay events →
      EventsAre sc w' lay' (event_opened (place frame.stack (frame.at + (made_base sc (block_numbered sc.blocks x.block) + number))) events)
  events_made events none_there are =
      events_came sc w w' lay lay' i number fresh_state there made_origin events (event_opened there events) (one_event.opened_here there events)
      (λ j other e at h apart. (none_there j other e at h, one_event.opened_elsewhere there at (none_there j other e at h) events)) are

-- ---- another event

-- This event of an instance becomes another one, and each other one of that was there.
-- An event of the instance is another one.
pub record ChangesEvent (sc : Scopes) (w : World) (w' : World) (lay : Layout) (i : ℕ) : Type 0 where
  pub x : Instance
  pub y : Instance
  pub number : ℕ
  pub before : EventState
  pub later : EventState
  pub there : Place
  pub has : HasEvent sc w lay i number before there
  pub is : numbered w.instances i ≡ Some x
  pub now : w'.instances ≡ set_numbered w.instances i y
  pub left : y.left ≡ x.left
  pub block : y.block ≡ x.block
  pub this_is : (c : NamedCell) → slice_get y.cells (length (simple_cells sc (block_numbered sc.blocks x.block)) + number) ≡ Some c → c.cell ≡ event later
  pub others_are : (k : ℕ) → k ≢ length (simple_cells sc (block_numbered sc.blocks x.block)) + number → slice_get y.cells k ≡ slice_get x.cells k

module _ (sc : Scopes) (w w' : World) (lay : Layout) (i : ℕ) (changes : ChangesEvent sc w w' lay i) where
  open changes use {x, y, number, before as e, later, there as its_place, has, is, now, left, block, this_is, others_are}

  abbrev front_at : ℕ
  front_at = length (simple_cells sc (block_numbered sc.blocks x.block))

  abbrev IsChanged : (j other : ℕ) (f : EventState) (at : Place) → Type 0
  IsChanged j other f at = Came sc w w' lay lay i number later its_place j other f at

  module _ (j other : ℕ) (f : EventState) (at : Place) (h : HasEvent sc w' lay j other f at) where
    changed_there : numbered (set_numbered w.instances i y) j ≡ Some h.instance
    changed_there = ap (λ (xs : List Instance). numbered xs j) (sym now) ∙ h.is

    module _ (same : i ≡ j) (here : y ≡ h.instance) where
      same_block : x.block ≡ h.instance.block
      same_block = sym block ∙ ap (λ (z : Instance). z.block) here

      cell_lies : slice_get y.cells (front_at + other) ≡ Some (record { name = h.name; cell = event f })
      cell_lies =
          ap (λ (b : ℕ). slice_get y.cells (length (simple_cells sc (block_numbered sc.blocks b)) + other)) same_block
          ∙ ap (λ (z : Instance). slice_get z.cells (length (simple_cells sc (block_numbered sc.blocks h.instance.block)) + other)) here
          ∙ h.has

      this_one : number ≡ other → IsChanged j other f at
      this_one number_is =
          this same number_is cell_is
          (has.at_is
          ∙ ap (λ (g : Place). place g.stack (g.at + (made_base sc (block_numbered sc.blocks has.instance.block) + number))) (some_same (sym has.laid ∙ ap (λ (k : ℕ). numbered lay.places k) same ∙ h.laid))
          ∙ ap (λ (k : ℕ). place h.frame.stack (h.frame.at + (made_base sc (block_numbered sc.blocks has.instance.block) + k))) number_is
          ∙ ap (λ (b : ℕ). place h.frame.stack (h.frame.at + (made_base sc (block_numbered sc.blocks b) + other))) (ap (λ (z : Instance). z.block) (some_same (sym has.is ∙ is)) ∙ same_block)
          ∙ sym h.at_is)
        where
          cell_is : later ≡ f
          cell_is =
              let cells_are : event f ≡ event later =
              this_is (record { name = h.name; cell = event f }) (ap (λ (k : ℕ). slice_get y.cells (front_at + k)) number_is ∙ cell_lies) in
              cc

      other_one : number ≢ other → IsChanged j other f at
      other_one apart =
          before
          (record {
            instance = x;
            is = ap (λ (k : ℕ). numbered w.instances k) (sym same) ∙ is;
            stands = sym left ∙ ap (λ (z : Instance). z.left) here ∙ h.stands;
            name = h.name;
            declares = ap (λ (b : ℕ). slice_get (made_of (block_numbered sc.blocks b).decls) other) same_block ∙ h.declares;
            has = sym (others_are (front_at + other) (λ (e : front_at + other ≡ front_at + number). apart (omega (arith, e)))) ∙ cell_lies;
            frame = h.frame;
            laid = h.laid;
            at_is = h.at_is ∙ ap (λ (b : ℕ). place h.frame.stack (h.frame.at + (made_base sc (block_numbered sc.blocks b) + other))) (sym same_block);
          }) (λ own number_is. apart number_is)

    changed_origin : IsChanged j other f at
    changed_origin = by_instance (same_or_not i j)
      where
        by_instance : (i ≡ j) ⊎ (i ≢ j) → IsChanged j other f at
        by_instance (inl same) = by_number same (some_same (sym (numbered_set w.instances i x y is) ∙ ap (λ (k : ℕ). numbered (set_numbered w.instances i y) k) same ∙ changed_there)) (same_or_not number other)
          where
            by_number : (same : i ≡ j) → y ≡ h.instance → (number ≡ other) ⊎ (number ≢ other) → IsChanged j other f at
            by_number same here (inl number_is) = this_one same here number_is
            by_number same here (inr apart) = other_one same here apart
        by_instance (inr different) =
            before
            (record {
              instance = h.instance;
              is = sym (numbered_other w.instances i j y different) ∙ changed_there;
              stands = h.stands;
              name = h.name;
              declares = h.declares;
              has = h.has;
              frame = h.frame;
              laid = h.laid;
              at_is = h.at_is;
            }) (λ same number_is. different same)

  -- so does the event that is open at its place
  pub events_changed : (change : Event → Event) → StaysInPlace change → change (event_there its_place e) ≡ event_there its_place later → (events : List Event) → EventsAre sc w lay events → EventsAre sc w' lay (event_changed its_place change events)
  events_changed change stays becomes events are =
      events_came sc w w' lay lay i number later its_place changed_origin events (event_changed its_place change events)
      (one_event.here its_place change stays events ∙ ap (option_map change) (are.are_open i number e its_place has) ∙ ap (λ (x : Event). Some x) becomes)
      (λ j other f at h apart.
      let elsewhere : at ≢ its_place =
      λ (same : at ≡ its_place). let one = are.apart i j number other e f its_place has (subst (λ (z : Place). HasEvent sc w lay j other f z) same h) in apart one.0 one.1 in
      (elsewhere, one_event.elsewhere its_place at change stays elsewhere events)) are
