-- What an effect makes of a world, without the parts by name: the innermost part of the process goes on.
use Rattle.std.specs.Prelude.{ℕ, Bool, List, [], ◌∷◌, None}
use Rattle.b67_deeds.specs.Deeds.{EventDeed, Deed, deed}
use Rattle.b67_deeds.specs.declared.Letter.{Letter}
use Rattle.b67_deeds.specs.declared.Letter.TheVariants as actions
use Rattle.algol_tree.specs.Scopes.{Scopes}
use Rattle.algol_meaning.specs.Value.{Reference}
use Rattle.algol_meaning.specs.World as world
use Rattle.algol_meaning.specs.World.{World, Part, Process, waits_any, process_at, with_process, set_all_able}
use Rattle.algol_meaning.specs.Rest.{Answer, done, entered}
use Rattle.algol_meaning.specs.Asks.{resume}
use Rattle.algol_meaning.specs.Choice as choices
use Rattle.algol_meaning.specs.Choice.{Choice}
use Rattle.algol_meaning.specs.Events.{Released, released, event_at, set_event, joined_all, all_withdrawn}

-- an action only
abbrev pub action_chosen : Letter → World → Choice
action_chosen action after = record { action = action; world = after; released = []; started = None }

module _ (sc : Scopes) where
  abbrev pub resumed : List Part → Answer → List Part
  resumed [] a = []
  resumed (part ∷ outer) a = record part { rest = resume sc part.rest a } ∷ outer

  -- the innermost part of the process goes on with this answer
  abbrev pub going : World → ℕ → Answer → World
  going w p a = with_process w p (record (process_at w p) { todo = resumed (process_at w p).todo a })

  -- .. and waits
  abbrev pub stopping : World → ℕ → world.State → World
  stopping w p s = with_process w p (record (process_at w p) { todo = resumed (process_at w p).todo done; state = s })

  -- .. and was not released by one of several events any more
  abbrev pub waking : World → ℕ → Answer → World
  waking w p a = with_process w p (record (process_at w p) { todo = resumed (process_at w p).todo a; woken = 0 })

  -- a part inside it comes to be
  abbrev pub part_opening : World → ℕ → Part → World
  part_opening w p inner = with_process w p (record (process_at w p) { todo = inner ∷ resumed (process_at w p).todo entered })

  -- an action that released these, after which the part goes on with nothing
  abbrev pub releasing : Letter → World → ℕ → List ℕ → Choice
  releasing action w p ps = record (action_chosen action (going w p done)) { released = ps }

-- the process is in this state
abbrev pub standing : World → ℕ → world.State → World
standing w p s = with_process w p (record (process_at w p) { state = s })

-- it waits for each of these events
abbrev pub waiting_for : World → ℕ → List Reference → World
waiting_for w p rs = with_process (joined_all w p [] rs) p (record (process_at w p) { state = waits_any rs })

-- ---- what a process does with an event

-- the event has happened or not, and who waited for it is released
abbrev pub letting_go : World → Reference → Bool → Released
letting_go w r b =
    record {
      world = set_all_able (all_withdrawn (set_event w r (record (event_at w r) { happened = b; waiters = [] })) r (event_at w r).waiters) (event_at w r).waiters;
      processes = (event_at w r).waiters;
    }

abbrev pub done_with : World → ℕ → EventDeed → Reference → Released
done_with w p x r = released w r (deed x p (event_at w r))

module _ (sc : Scopes) (w : World) (p : ℕ) where
  -- a process without parts has no choice
  abbrev pub does_of : Process → List Part → EventDeed → Reference → Deed → Choice
  does_of q [] x r d = action_chosen actions.Fault w
  does_of q (part ∷ outer) x r d = choices.deed_does sc w p q part outer x r d

  abbrev pub does_by : EventDeed → Reference → Choice
  does_by x r = does_of (process_at w p) ((process_at w p).todo) x r (deed x p (event_at w r))
