-- What GO TO makes of the parts of a process.
use Rattle.std.specs.Prelude.{◌≡◌, ℕ, if◌then◌else◌, List, [], ◌∷◌, length, map, take, drop, Option, Some, None}
use Rattle.std.specs.Borrow.{Bor}
use Rattle.algol_tree.specs.Scopes.{Scopes}
use Rattle.algol_tree.specs.declared.tree.Named.{Named}
use Rattle.algol_meaning.specs.World.{World, Process, Part, process_at, with_process}
use Rattle.algol_meaning.specs.Rest.{Rest}
use Rattle.b67_deeds.specs.declared.Letter.TheVariants as actions
use Rattle.algol_meaning.specs.Critical.{is_evaluation}
use Rattle.algol_meaning.specs.Instances.{cut_at}
use Rattle.algol_meaning.specs.Choice as choices
use Rattle.algol_meaning.specs.Choice.{Choice}
use Rattle.algol_world.specs.SeenWorld as views
use Rattle.algol_world.specs.Going.{action_chosen}
use Rattle.algol_world.specs.declared.world.Part as code

abbrev pub part_or_none : Scopes → Option (Bor code.Part) → Option Part
part_or_none sc None = None
part_or_none sc (Some x) = Some (views.part sc x.now)

-- the instance in which the innermost part goes on
abbrev pub instance_in : List Part → ℕ
instance_in [] = 0
instance_in (part ∷ outer) = part.instance

-- the instance that a part has for itself: the evaluation of a name has none
abbrev pub own_instance_of : Part → Option ℕ
own_instance_of part = if is_evaluation part.purpose then None else Some part.instance

abbrev pub own_in : code.Part → Option ℕ
own_in part = if is_evaluation (views.purpose part.purpose) then None else Some part.instance

abbrev pub owned : List (Option ℕ) → List ℕ
owned [] = []
owned (None ∷ is) = owned is
owned (Some i ∷ is) = i ∷ owned is

-- these are the own instances of the parts that are newer than the part of instance i
abbrev pub AreLeft : List (Option ℕ) → List Part → ℕ → Type 0
AreLeft left parts i =
    (cut_at [] parts i ≡ record { newer = take (length left) parts; from = drop (length left) parts })
    × (left ≡ map own_instance_of (take (length left) parts))

-- the innermost part has this still to do; nothing where there is none
abbrev pub redirected : List Part → Rest → List Part
redirected [] rest = []
redirected (target ∷ parts) rest = record target { rest = rest } ∷ parts

-- so many parts of the process are left, and the next one has this still to do
abbrev pub going_back : World → ℕ → ℕ → Rest → World
going_back w p left rest = with_process w p (record (process_at w p) { todo = redirected (drop left (process_at w p).todo) rest })

module _ (sc : Scopes) (w : World) (p : ℕ) where
  abbrev pub going_by : Process → List Part → Named → ℕ → Choice
  going_by q [] n i = action_chosen actions.Fault w
  going_by q (part ∷ outer) n i = choices.goes_to sc w p q part outer n i

  -- GO TO the label in the block of instance i
  abbrev pub going_to : Named → ℕ → Choice
  going_to n i = going_by (process_at w p) ((process_at w p).todo) n i

  abbrev pub making_by : Process → List Part → Named → Choice
  making_by q [] n = action_chosen actions.Fault w
  making_by q (part ∷ outer) n = choices.made_event sc w p q part outer n

  -- the making of an event
  abbrev pub making : Named → Choice
  making n = making_by (process_at w p) ((process_at w p).todo) n
