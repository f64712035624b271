-- What the leaving of a part makes of a world.
use Rattle.std.specs.Prelude.{ℕ, Bool, true, false, List, [], ◌∷◌, Option, Some, None}
use Rattle.b67_num.specs.declared.FaultKind.{FaultKind}
use Rattle.algol_tree.specs.Scopes.{Scopes}
use Rattle.algol_meaning.specs.World as world
use Rattle.algol_meaning.specs.World.{World, Part, Process, process_at, with_process}
use Rattle.algol_meaning.specs.Rest.{Answer}
use Rattle.algol_meaning.specs.Asks.{resume}
use Rattle.b67_deeds.specs.declared.Letter.TheVariants as actions
use Rattle.algol_meaning.specs.Critical.{is_evaluation}
use Rattle.algol_meaning.specs.Events.{Released, caused_by_end}
use Rattle.algol_meaning.specs.Instances.{leave}
use Rattle.algol_meaning.specs.Choice as choices
use Rattle.algol_meaning.specs.Choice.{Choice}
use Rattle.algol_world.specs.Going.{action_chosen}
use Rattle.algol_world.specs.declared.exiting.Innermost.{Innermost}

module _ (sc : Scopes) where
  -- the innermost part ends, and the next one goes on; nothing where there is no next one
  abbrev pub left_todo : List Part → Answer → List Part
  left_todo [] a = []
  left_todo (part ∷ []) a = part ∷ []
  left_todo (part ∷ next ∷ parts) a = record next { rest = resume sc next.rest a } ∷ parts

  abbrev pub leaving_with : World → ℕ → Answer → World
  leaving_with w p a = with_process w p (record (process_at w p) { todo = left_todo (process_at w p).todo a })

abbrev pub ending : World → ℕ → World
ending w p = with_process w p (record (process_at w p) { todo = []; state = world.ended })

abbrev pub failing : World → ℕ → FaultKind → World
failing w p kind = record w { fault = Some (record { kind = kind; process = p }) }

-- the innermost part: its instance, whether it evaluates a name, and whether no part is around it
abbrev pub is_nil : List Part → Bool
is_nil [] = true
is_nil (part ∷ parts) = false

abbrev pub is_nothing : {A : Type 0} → Option A → Bool
is_nothing None = true
is_nothing (Some x) = false

abbrev pub innermost_of : List Part → Option Innermost
innermost_of [] = None
innermost_of (part ∷ outer) =
    Some (record { instance = part.instance; evaluates = is_evaluation part.purpose; alone = is_nil outer })

-- the process ends, whose last instance is that
abbrev pub ended_after : Released → ℕ → Choice
ended_after x p = record { action = actions.End; world = ending x.world p; released = x.processes; started = None }

abbrev pub ended_by : World → ℕ → ℕ → Choice
ended_by w p i = ended_after (caused_by_end (leave w (i ∷ [])) p (process_at w p).task) p

-- the leaving of the innermost part with what it gives
abbrev pub leaves_of : Scopes → World → ℕ → Process → List Part → Answer → Choice
leaves_of sc w p q [] a = action_chosen actions.Fault w
leaves_of sc w p q (part ∷ outer) a = choices.left_choice sc w p q part outer a

abbrev pub leaves_by : Scopes → World → ℕ → Answer → Choice
leaves_by sc w p a = leaves_of sc w p (process_at w p) ((process_at w p).todo) a
