-- An event of an instance that stands becomes another one: its cells, the arrays and the events of the image after it.
use Rattle.std.proofs.Common.{◌≡◌, ◌≢◌, refl, sym, ap, ◌∙◌, subst, ℕ, ◌+◌, List, [], ◌∷◌, ◌++◌, length, Some}
use Rattle.b67_scenes.proofs.Prelude.{slice_get, slice_set, numbered, EventState, block_numbered, PProgram, Scopes, scopes_of, event, NamedCell, Instance, Part, World, instance_at, or_no_instance, with_instance, cell_in, cells_with, Made, IsOwn, Word, Place, Code, Event, place, Simple, simple_cells, made_base, Texts, Core, some_same, get_behind, KeepsArrays, Lies, lies_in, OwnCells, OwnEvent, cells_length, Layout, AreMade, ArraysAre, HasEvent, EventsAre, CellsAre, Framed, Frames}
use Rattle.algol_meaning.specs.Events.{set_event}
use Rattle.b67_events.specs.Events.{event_changed}
use Rattle.b67_events.specs.Laws.{StaysInPlace}
use Rattle.b67_store.specs.Store.{Rows}
use Rattle.b67_rows.proofs.Numbers.{get_set}
use Rattle.b67_frames.specs.Events.{event_there}
use Rattle.b67_frames.proofs.EventCells.{arrays_still, event_keeps_none, array_beside, made_changes, keeps_event, beside_set}
use Rattle.b67_frames.proofs.EventsChanged.{events_changed}
use Rattle.b67_frames.proofs.MadeArrays.{IsPast, past_events}
use Rattle.b67_scenes.proofs.StoringFrames.{length_cells, changed, stored_world, changed_at, ChangedCells}

-- the frame of an own instance of a process
module _ (tree : PProgram) (code : Code) (texts : Texts) (w : World) (lay : Layout) (p : ℕ) where
  pub record FramedThere (i : ℕ) : Type 0 where
    pub outer : List Part
    pub at : ℕ
    pub mark : Word
    pub control : Word
    pub cells : List Word
    pub framed : Framed (scopes_of tree) w lay p i outer at mark control cells

  pub framed_there : (parts : List Part) (core : Core) → Frames tree code texts w lay p parts core → (i : ℕ) → IsOwn parts i → FramedThere i
  framed_there [] core f i own = absurd f
  framed_there (part ∷ outer) core f i own =
      let l : Lies tree code texts w lay p (part ∷ outer) i core.below = lies_in tree code texts w lay p part outer core f.0 f.1 i own in
      subst FramedThere l.instance_is (record { outer = l.outer; at = length l.frame.lower; mark = l.frame.mark; control = l.frame.control; cells = l.frame.cells; framed = l.owned.framed })

module _ (sc : Scopes) (w : World) (lay : Layout) (i : ℕ) (x : Instance) (own : OwnCells sc w lay i x) (name : List ℕ) (number : ℕ) (found : OwnEvent sc w lay i x own name number) (later : EventState) where
  abbrev cells' : List NamedCell
  cells' = cells_with x.cells name (event later)

  abbrev w' : World
  w' = stored_world w i x own.is cells'

  here : instance_at w i ≡ x
  here = ap or_no_instance own.is

  -- the world with it
  pub event_world : set_event w (record { instance = i; name = name }) later ≡ stored_world w i x own.is (cells_with x.cells name (event later))
  event_world = ap (λ (z : Instance). with_instance w i (record z { cells = cells_with z.cells name (event later) })) here

  pub as_many : length (cells_with x.cells name (event later)) ≡ length x.cells
  as_many = length_cells x.cells name (event later)

  abbrev ss : List Simple
  ss = simple_cells sc (block_numbered sc.blocks x.block)

  -- its words stay
  pub cells_changed : (first : List NamedCell) (values : List Word) (arrays : List NamedCell) (declared : List Made) (descriptors : List Word) → CellsAre (simple_cells sc (block_numbered sc.blocks x.block)) first values →
      AreMade declared arrays (lay.rows i) descriptors → x.cells ≡ first ++ arrays →
      ChangedCells (simple_cells sc (block_numbered sc.blocks x.block)) (lay.rows i) (cells_with x.cells name (event later)) first values values declared descriptors
  cells_changed first values arrays declared descriptors are made has_cells =
      record {
        simple = first;
        references = λ n c word there lies is. (there, lies);
        arrays = cells_with arrays name (event later);
        simple_are = are;
        made = made_changes name later declared arrays (lay.rows i) descriptors found.cell (sym (past.found arrays) ∙ means_all) made;
        has = ap (λ (cs : List NamedCell). cells_with cs name (event later)) has_cells ∙ past.changed arrays (event later);
      }
    where
      means_all : cell_in (first ++ arrays) name ≡ event found.cell
      means_all = ap (λ (cs : List NamedCell). cell_in cs name) (sym has_cells) ∙ found.means

      past : IsPast first name
      past = past_events ss first values arrays name found.cell are means_all

  pub event_keeps : KeepsArrays sc w (stored_world w i x own.is (cells_with x.cells name (event later))) lay lay i
  event_keeps =
      keeps_event sc w w' lay i name found.cell later (ap (λ (z : Instance). cell_in z.cells name) here ∙ found.means)
      (ap or_no_instance (changed_at w i x own.is cells') ∙ ap (λ (z : Instance). record z { cells = cells_with z.cells name (event later) }) (sym here))

  pub arrays_after : (rows : Rows) → ArraysAre sc w lay rows → ArraysAre sc (stored_world w i x own.is (cells_with x.cells name (event later))) lay rows
  arrays_after rows =
      let none = event_keeps_none name later x.cells found.cell found.means in
      arrays_still sc w w' lay lay i (record {
        x = x;
        y = changed w i x own.is cells';
        there = own.is;
        now = refl;
        left = refl;
        block = refl;
        elements = none.0;
        many = none.1;
        was = λ k other c a lies allots. (array_beside name later x.cells (length (simple_cells sc (block_numbered sc.blocks x.block)) + k) other c lies, allots);
        others = λ j other. refl;
      }) rows

  -- ---- the events

  abbrev front : ℕ
  front = length (simple_cells sc (block_numbered sc.blocks x.block))

  -- after the simple cells this one is set, and all others are as they were
  cells_are : cells' ≡ own.simple ++ slice_set own.arrays number (record { name = name; cell = event later })
  cells_are = found.changed_behind (event later) ∙ ap (λ (cs : List NamedCell). own.simple ++ cs) (found.changed (event later))

  simple_many : length own.simple ≡ front
  simple_many = cells_length ss own.simple own.values own.simple_are

  this_is : (c : NamedCell) → slice_get cells' (front + number) ≡ Some c → c.cell ≡ event later
  this_is c lies =
      ap (λ (z : NamedCell). z.cell)
      (some_same
      (sym lies
      ∙ ap (λ (cs : List NamedCell). slice_get cs (front + number)) cells_are
      ∙ get_behind own.simple (slice_set own.arrays number (record { name = name; cell = event later })) number (front + number) (ap (λ (n : ℕ). n + number) (sym simple_many))
      ∙ get_set own.arrays number (record { name = name; cell = event found.cell }) (record { name = name; cell = event later }) found.there))

  others_are : (k : ℕ) → k ≢ front + number → slice_get cells' k ≡ slice_get x.cells k
  others_are k other =
      ap (λ (cs : List NamedCell). slice_get cs k) cells_are
      ∙ beside_set own.simple own.arrays number (record { name = name; cell = event later }) k (λ (e : k ≡ length own.simple + number). other (e ∙ ap (λ (n : ℕ). n + number) simple_many))
      ∙ ap (λ (cs : List NamedCell). slice_get cs k) (sym own.has)

  module _ (frame : Place) (laid : numbered lay.places i ≡ Some frame) where
    -- it is open at the place of its cell
    pub has_event : HasEvent sc w lay i number found.cell (place frame.stack (frame.at + (made_base sc (block_numbered sc.blocks x.block) + number)))
    has_event = record { instance = x; is = own.is; stands = own.stands; name = name; declares = found.declares; has = found.has; frame = frame; laid = laid; at_is = refl }

    pub events_after : (change : Event → Event) → StaysInPlace change →
        change (event_there (place frame.stack (frame.at + (made_base sc (block_numbered sc.blocks x.block) + number))) found.cell) ≡ event_there (place frame.stack (frame.at + (made_base sc (block_numbered sc.blocks x.block) + number))) later →
        (events : List Event) → EventsAre sc w lay events →
        EventsAre sc (stored_world w i x own.is (cells_with x.cells name (event later))) lay (event_changed (place frame.stack (frame.at + (made_base sc (block_numbered sc.blocks x.block) + number))) change events)
    events_after =
        events_changed sc w w' lay i (record {
          x = x;
          y = changed w i x own.is cells';
          number = number;
          before = found.cell;
          later = later;
          there = place frame.stack (frame.at + (made_base sc (block_numbered sc.blocks x.block) + number));
          has = has_event;
          is = own.is;
          now = refl;
          left = refl;
          block = refl;
          this_is = this_is;
          others_are = others_are;
        })
