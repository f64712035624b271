-- The cells that an instance gives back once it is left.
use Rattle.std.specs.Prelude.{◌≡◌, ℕ, Bool, false, if◌then◌else◌, List, [], ◌∷◌, Option, Some, None}
use Rattle.std.specs.Borrow.{Bor}
use Rattle.algol_tree.specs.Scopes.{Scopes, use_of}
use Rattle.algol_meaning.specs.Value.{Reference}
use Rattle.algol_meaning.specs.World.{NamedCell, Part, World, ancestor, instance_at, process_at, set_cell}
use Rattle.algol_meaning.specs.Critical.{own_instances}
use Rattle.algol_meaning.specs.Instances.{cut_at}
use Rattle.algol_meaning.specs.Asks as asks
use Rattle.algol_meaning.specs.Asks.{Ask, ask}
use Rattle.algol_instances.specs.Counting.{cell_is_array}
use Rattle.algol_instances.specs.SeenInstance.{zero_cell, named_cell}
use Rattle.algol_instances.specs.declared.instance.NamedCell as code
use Rattle.algol_perform.specs.Going.{instance_in}
use Rattle.algol_run.specs.Stepping.{step_of, told_step, is_going}
use Rattle.algol_run.specs.declared.stepping.Stepped.{Stepped}
use Rattle.algol_seen.specs.Seen.{SeenStep}
use Rattle.algol_seen.specs.declared.seen.Seen.{Seen}

abbrev pub named_or_none : Option (Bor code.NamedCell) → Option NamedCell
named_or_none None = None
named_or_none (Some c) = Some (named_cell c.now)

-- a number 0 stands in for what the cell holds, if it is an array
abbrev pub world_without : World → Reference → Bool → World
world_without w r array = if array then set_cell w r zero_cell else w

-- .. for each array among these cells of an instance
abbrev pub without_arrays : World → ℕ → List NamedCell → World
without_arrays w i [] = w
without_arrays w i (c ∷ cells) = without_arrays (world_without w (record { instance = i; name = c.name }) (cell_is_array c.cell)) i cells

-- An instance that is left gives back its arrays; another one keeps them.
abbrev pub shed_of : World → ℕ → World
shed_of w i = if (instance_at w i).left then without_arrays w i ((instance_at w i).cells) else w

abbrev pub all_shed : World → List ℕ → World
all_shed w [] = w
all_shed w (i ∷ is) = all_shed (shed_of w i) is

-- ---- the instances that an action may leave

-- GO TO may leave the instances of the parts that are newer than that of its label
abbrev pub passed_by : Scopes → World → List Part → ℕ → Ask → List ℕ
passed_by sc w parts at (asks.goes_to n) = own_instances (cut_at [] parts (ancestor w ((use_of sc n).up) at)).newer
passed_by sc w parts at _ = []

abbrev pub passed_in : Scopes → World → List Part → List ℕ
passed_in sc w [] = []
passed_in sc w (part ∷ outer) = passed_by sc w (part ∷ outer) part.instance (ask part.rest)

-- each action may leave that of the innermost part
abbrev pub leaving_in : Scopes → World → List Part → List ℕ
leaving_in sc w parts = instance_in parts ∷ passed_in sc w parts

-- ---- steps

-- What is told of a step is a step of w, and the instances that it may leave, if they are left, have given back their arrays in `after`.
pub record StepsShedding (sc : Scopes) (w : World) (p : ℕ) (after : World) (s : Stepped) : Type 0 where
  pub went : World
  pub step : told_step s went ≡ step_of sc w p
  pub still : is_going s ≡ false → went ≡ w
  pub shed : after ≡ all_shed went (leaving_in sc w (process_at w p).todo)

-- .. with what it does with cells and events
pub record SeenShedding (sc : Scopes) (w : World) (p : ℕ) (after : World) (s : Option Seen) : Type 0 where
  pub went : World
  pub step : SeenStep sc w p went s
  pub shed : after ≡ all_shed went (leaving_in sc w (process_at w p).todo)
