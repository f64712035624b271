-- For which events each process waits where it waits for several, and its woken number, in a world and in an image at once.
use Rattle.std.specs.Prelude.{◌≡◌, ℕ, List, [], ◌∷◌, length}
use Rattle.b67_list.specs.Numbered.{numbered}
use Rattle.b67_deeds.specs.Listed.{IsListed}
use Rattle.algol_tree.specs.Scopes.{Scopes}
use Rattle.algol_meaning.specs.Value.{Reference}
use Rattle.algol_meaning.specs.World.{World, process_at}
use Rattle.algol_meaning.specs.Events.{list_in}
use Rattle.b67_word.specs.declared.Place.{Place}
use Rattle.b67_events.specs.Events.{waiters_at, list_of}
use Rattle.b67_table.specs.Image.{Image, woken_number}
use Rattle.b67_table.specs.Valid.{AwaitsAt}
use Rattle.b67_frames.specs.Arrays.{Layout}
use Rattle.b67_scenes.specs.Depending.{IsEventAt}

-- who stands among those that wait for an event at a place, waits for it
abbrev pub AreAwaiting : Image → Type 0
AreAwaiting img = (p : ℕ) (at : Place) → IsListed (waiters_at at img.events) p → AwaitsAt (numbered img.states p) (list_of p img.lists) at

module _ (sc : Scopes) (w : World) (lay : Layout) where
  -- the events to which these lead lie at these places
  abbrev pub ListIs : List Reference → List Place → Type 0
  ListIs [] [] = Unit {0}
  ListIs (r ∷ rs) (at ∷ places) = IsEventAt sc w lay r at × ListIs rs places
  ListIs _ _ = ⊥

  -- A process has the same list of events in both, which is empty where it does not wait for several; and the same woken number.
  pub record WaitsAre (img : Image) : Type 0 where
    pub numbers : length img.numbers ≡ length w.processes
    pub woken : (p : ℕ) → woken_number img.numbers p ≡ (process_at w p).woken
    pub lists : (p : ℕ) → ListIs (list_in ((process_at w p).state)) (list_of p img.lists)
    pub awaiting : AreAwaiting img
