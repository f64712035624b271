-- How the events of an image are those of a world.
use Rattle.std.specs.Prelude.{◌≡◌, ℕ, ◌+◌, false, List, length, Some, slice_get}
use Rattle.b67_list.specs.Numbered.{numbered}
use Rattle.algol_tree.specs.Blocks.{block_numbered}
use Rattle.algol_tree.specs.Scopes.{Scopes}
use Rattle.algol_meaning.specs.Value.{event}
use Rattle.b67_deeds.specs.Events.{EventState}
use Rattle.algol_meaning.specs.World.{Instance, World}
use Rattle.algol_paths.specs.Arrays.{an_event}
use Rattle.b67_word.specs.declared.Place.{Place}
use Rattle.b67_events.specs.Events.{Event, event_at}
use Rattle.b67_table.specs.Chains.{place}
use Rattle.b67_templates.specs.Cells.{simple_cells, made_of, made_base}
use Rattle.b67_frames.specs.Arrays.{Layout}

-- an event of a world at the place of its cell
abbrev pub event_there : Place → EventState → Event
event_there at e = record { place = at; state = e }

module _ (sc : Scopes) (w : World) (lay : Layout) where
  -- The instance stands, and has this event by this number among what its block declares; its cell lies at this place.
  pub record HasEvent (i number : ℕ) (e : EventState) (at : Place) : Type 0 where
    pub instance : Instance
    pub is : numbered w.instances i ≡ Some instance
    pub stands : instance.left ≡ false
    pub name : List ℕ
    pub declares : slice_get (made_of (block_numbered sc.blocks instance.block).decls) number ≡ Some (an_event name)
    pub has :
        slice_get instance.cells (length (simple_cells sc (block_numbered sc.blocks instance.block)) + number)
        ≡ Some (record { name = name; cell = event e })
    pub frame : Place
    pub laid : numbered lay.places i ≡ Some frame
    pub at_is : at ≡ place frame.stack (frame.at + (made_base sc (block_numbered sc.blocks instance.block) + number))

  -- The events of the instances that stand are open at the places of their cells, with who waits for them, and no two lie at one place.
  pub record EventsAre (events : List Event) : Type 0 where
    pub are_open : (i number : ℕ) (e : EventState) (at : Place) → HasEvent i number e at → event_at at events ≡ Some (event_there at e)
    pub apart : (i j number other : ℕ) (e f : EventState) (at : Place) → HasEvent i number e at → HasEvent j other f at → (i ≡ j) × (number ≡ other)
