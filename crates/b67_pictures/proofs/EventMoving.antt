-- One event of a world becomes another one, and nobody acts: the image in which it has changed pictures the world after it.
use Rattle.std.proofs.Common.{◌≡◌, refl, sym, ap, ◌∙◌, subst, ℕ, ◌+◌, List, ◌++◌, length, Some, None, true}
use Rattle.b67_list.proofs.Numbers.{none_some}
use Rattle.b67_list.proofs.Truths.{true_false}
use Rattle.b67_pictures.proofs.Prelude.{slice_get, numbered, EventState, block_numbered, PProgram, Scopes, scopes_of, set_event, change_event, Reference, event, NamedCell, Instance, Process, lives, World, instance_at, or_no_instance, event_in, cell_in, cell_at, cells_with, Made, an_event, IsInSkeleton, IsOwn, referred_in_cells, Word, Place, Code, event_changed, with_state, place, Image, simple_cells, made_base, made_of, Texts, Core, HasCore, length_set_numbered, some_same, HasFacts, KeepsArrays, StandOn, OwnCells, framed_cells, OwnEvent, known_event, Layout, AreMade, event_there, HasEvent, EventsAre, CellsAre, all_laid, LeavesAlone, put, stored_world, others_at, stored_on, ChangedCells, changed, CellStore, others_stored, EventsStay, events_kept, events_beside, waits_kept, IsEventAt, Living, Pictured, living, dead, PicturesBy, AreAwaiting}
use Rattle.algol_meaning.specs.World.{no_process}
use Rattle.b67_events.specs.Events as kernel
use Rattle.b67_scenes.proofs.EventThere as there
use Rattle.b67_scenes.proofs.EventThere.{FramedThere, framed_there}
use Rattle.b67_pictures.proofs.Changing.{refers_fewer}
use Rattle.b67_pictures.proofs.EventLow.{event_low}

-- the instance is one of a process that lives
pub record IsOwned (w : World) (i : ℕ) : Type 0 where
  pub number : ℕ
  pub process : Process
  pub is : numbered w.processes number ≡ Some process
  pub alive : lives process.state ≡ true
  pub own : IsOwn process.todo i

module _ (tree : PProgram) (code : Code) (texts : Texts) (w : World) (lay : Layout) (img : Image) (by : PicturesBy tree code texts w lay img) (facts : HasFacts w)
    (r : Reference) (at : Place) (lies : IsEventAt (scopes_of tree) w lay r at) (o : IsOwned w r.instance) where
  abbrev sc : Scopes
  sc = scopes_of tree

  abbrev i : ℕ
  i = r.instance

  lives_so : Living tree code texts w lay img o.number o.process
  lives_so = by_picture (by.each o.number o.process o.is)
    where
      by_picture : Pictured tree code texts w lay img o.number o.process → Living tree code texts w lay img o.number o.process
      by_picture (living alive s l) = l
      by_picture (dead e s) = true_false o.alive (ap lives e)

  pub framed : FramedThere tree code texts w lay o.number i
  framed = framed_there tree code texts w lay o.number o.process.todo lives_so.settled lives_so.frames i o.own

  abbrev x : Instance
  x = framed.framed.instance

  pub is : numbered w.instances r.instance ≡ Some framed.framed.instance
  is = framed.framed.is

  pub own_cells : OwnCells sc w lay i x
  own_cells = framed_cells sc w lay framed.framed

  abbrev number : ℕ
  number = lies.made.number

  pub found : OwnEvent sc w lay i x own_cells r.name number
  found = known_event sc w lay i x own_cells r.name lies.made

  abbrev high : ℕ
  high = framed.at

  laid : numbered lay.places i ≡ Some (place o.number high)
  laid = framed.framed.laid

  here : instance_at w i ≡ x
  here = ap or_no_instance is

  abbrev there_at : Place
  there_at = place o.number (high + (made_base sc (block_numbered sc.blocks x.block) + number))

  at_is : at ≡ there_at
  at_is =
      lies.at_is
      ∙ ap (λ (f : Place). place f.stack (f.at + (made_base sc (block_numbered sc.blocks ((instance_at w i).block)) + number))) (some_same (sym lies.laid ∙ laid))
      ∙ ap (λ (y : Instance). place o.number (high + (made_base sc (block_numbered sc.blocks y.block) + number))) here

  abbrev pub cell_here : EventState
  cell_here = found.cell

  -- the event is there, in the world and in the image
  pub has_here : HasEvent (scopes_of tree) w lay r.instance lies.made.number found.cell at
  has_here = subst (λ (z : Place). HasEvent sc w lay i number found.cell z) (sym at_is) (there.has_event sc w lay i x own_cells r.name number found found.cell (place o.number high) laid)

  pub declares_here : slice_get (made_of (block_numbered (scopes_of tree).blocks ((instance_at w r.instance).block)).decls) lies.made.number ≡ Some (an_event r.name)
  declares_here = ap (λ (y : Instance). slice_get (made_of (block_numbered sc.blocks y.block).decls) number) here ∙ found.declares

  pub means_here : cell_at w r ≡ event found.cell
  means_here = ap (λ (y : Instance). cell_in y.cells r.name) here ∙ found.means

  pub open_here : kernel.event_at at img.events ≡ Some (event_there at found.cell)
  open_here = by.events.are_open i number found.cell at has_here

  -- it becomes another one
  module _ (change : EventState → EventState) where
    abbrev later : EventState
    later = change found.cell

    abbrev cells' : List NamedCell
    cells' = cells_with x.cells r.name (event later)

    abbrev pub moved_world : World
    moved_world = stored_world w r.instance framed.framed.instance is (cells_with framed.framed.instance.cells r.name (event (change found.cell)))

    abbrev w' : World
    w' = moved_world

    pub moved_is : change_event w r (Some change) ≡ moved_world
    moved_is = ap (λ (e : EventState). set_event w r (change e)) (ap event_in means_here) ∙ there.event_world sc w lay i x own_cells r.name number found later

    keeps : KeepsArrays sc w w' lay lay i
    keeps = there.event_keeps sc w lay i x own_cells r.name number found later

    many : length cells' ≡ length x.cells
    many = there.as_many sc w lay i x own_cells r.name number found later

    fewer : (k : ℕ) → IsInSkeleton (referred_in_cells cells') k → IsInSkeleton (referred_in_cells x.cells) k
    fewer = refers_fewer x.cells r.name (event later) refl

    changes : (simple : List NamedCell) (values : List Word) (arrays : List NamedCell) (declared : List Made) (descriptors : List Word) → CellsAre (simple_cells sc (block_numbered sc.blocks x.block)) simple values →
        AreMade declared arrays (lay.rows i) descriptors → x.cells ≡ simple ++ arrays → ChangedCells (simple_cells sc (block_numbered sc.blocks x.block)) (lay.rows i) cells' simple values (put None values 0) declared descriptors
    changes = there.cells_changed sc w lay i x own_cells r.name number found later

    abbrev store : CellStore tree w lay o.number
    store = record {
      i = i;
      x = x;
      at = is;
      with_cells = cells';
      high = high;
      laid = laid;
      far = 0;
      up = high + 2 + 0;
      place_is = refl;
      word = None;
      many = many;
      short = λ set. absurd set;
      keeps = keeps;
      facts = facts;
      fewer = fewer;
      changes = changes;
    }

    on : StandOn sc w w' lay lay
    on = stored_on tree code texts w lay o.number store

    pub moved_facts : HasFacts moved_world
    moved_facts = on.after

    pub moved_stay : EventsStay w moved_world
    moved_stay = events_beside w w' i (λ j apart. others_at w i x is cells' j apart) (events_kept sc w w' lay lay i keeps)

    alone : (m : ℕ) → LeavesAlone sc w w' lay lay m
    alone m =
        record {
          laid = all_laid w lay facts by.laid;
          on = on;
          depends = λ j q older there_is newest free. free;
          lows = λ j y there_is mine stands low. event_low sc w i x is r.name found.cell later found.means j low;
        }

    abbrev pub moved_image : Image
    moved_image = record img { events = event_changed at (with_state change) img.events }

    same_core : (m : ℕ) (core : Core) → HasCore img m core → HasCore moved_image m core
    same_core m core has = record { live = has.live; registers = has.registers; own = has.own; stack = has.stack; is = has.is }

    each : (m : ℕ) (q : Process) → numbered w.processes m ≡ Some q → Pictured tree code texts w' lay moved_image m q
    each m q there_is =
        others_stored tree code texts w lay o.number store 0 no_process (λ k other. alone k) img moved_image framed.framed.own
        (λ z there_z. subst (λ (y : Process). IsOwn y.todo i) (some_same (sym o.is ∙ there_z)) o.own) (λ core has set. absurd set) (λ core has. same_core o.number core has) (λ k core a b has. same_core k core has) (λ k other. refl)
        m q (λ (none : m ≡ 0). none_some (ap (λ (n : ℕ). numbered w.processes n) (sym none) ∙ there_is)) there_is there_is (by.each m q there_is)

    events_now : EventsAre sc w' lay (event_changed at (with_state change) img.events)
    events_now =
        subst (λ (z : Place). EventsAre sc w' lay (event_changed z (with_state change) img.events)) (sym at_is)
        (there.events_after sc w lay i x own_cells r.name number found later (place o.number high) laid (with_state change) (λ e. refl) refl img.events by.events)

    pub moved_pictured : AreAwaiting (record img { events = event_changed at (with_state change) img.events }) →
        PicturesBy tree code texts moved_world lay (record img { events = event_changed at (with_state change) img.events })
    moved_pictured awaiting =
        record {
          laid = by.laid ∙ sym (length_set_numbered w.instances i (changed w i x is cells'));
          arrays = there.arrays_after sc w lay i x own_cells r.name number found later img.rows by.arrays;
          events = events_now;
          waits = waits_kept sc w w' lay lay moved_stay (λ j f there_is. there_is) img moved_image by.waits by.waits.numbers (λ k. (refl, refl)) refl (λ k. refl) awaiting;
          output = by.output;
          fault = by.fault;
          started = by.started;
          counted = by.counted;
          few = by.few;
          states = by.states;
          system = by.system;
          each = each;
        }
