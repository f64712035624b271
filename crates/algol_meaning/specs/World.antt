-- A world: instances of blocks with their cells, processes with what they have still to do, the output, and the fault that ended it.
use Rattle.std.specs.Prelude.{ℕ, zero, suc, if◌then◌else◌, pos, Bool, true, false, List, [], ◌∷◌, ◌++◌, Option, Some, None}
use Rattle.b67_num.specs.declared.FaultKind.{FaultKind}
use Rattle.b67_list.specs.Numbered.{numbered, set_numbered}
use Rattle.algol_meaning.specs.Value.{Value, number, Reference, ArrayCell, Cell, simple, event, array, reference}
use Rattle.b67_deeds.specs.Events.{EventState}
use Rattle.algol_tree.specs.Sorts.{same_name}
use Rattle.algol_meaning.specs.Rest.{Rest}

pub record NamedCell : Type 0 where
  pub name : List ℕ
  pub cell : Cell

-- Instances are numbered from 1 in the order of their making; parent 0 is no instance. `process` is the process in whose stack it stands.
pub record Instance : Type 0 where
  pub block : ℕ
  pub parent : ℕ
  pub process : ℕ
  pub cells : List NamedCell
  pub left : Bool

pub data Purpose : Type 0 where
  block : Purpose
  procedure : Purpose
  name_read : Purpose
  name_place : Purpose
  started : Purpose

pub record Part : Type 0 where
  pub instance : ℕ
  pub purpose : Purpose
  pub rest : Rest

pub data State : Type 0 where
  able : State
  waits_for : Reference → State
  waits_any : List Reference → State  -- for several events, in the order in which they are named, with repeats
  procures : Reference → State
  ended : State

-- What is to be done is a list of parts, the innermost first. The woken number is the place, from 1, of the event that released the process
-- among those for which it waited; it is 0 where the process has gone on since, or did not wait for several.
pub record Process : Type 0 where
  pub todo : List Part
  pub critical : Option ℕ
  pub task : Option Reference
  pub state : State
  pub woken : ℕ

pub record WorldFault : Type 0 where
  pub kind : FaultKind
  pub process : ℕ

-- processes are numbered from 1
pub record World : Type 0 where
  pub instances : List Instance
  pub processes : List Process
  pub output : List (List ℕ)
  pub fault : Option WorldFault

-- ---- instances and cells. Where there is none, an empty one stands in: a run comes to none.

abbrev pub no_instance : Instance
no_instance = record { block = 0; parent = 0; process = 0; cells = []; left = true }

abbrev pub or_no_instance : Option Instance → Instance
or_no_instance (Some x) = x
or_no_instance None = no_instance

abbrev pub instance_at : World → ℕ → Instance
instance_at w i = or_no_instance (numbered w.instances i)

-- the instance that is so many static parents up from i
abbrev pub ancestor : World → ℕ → ℕ → ℕ
ancestor w zero i = i
ancestor w (suc up) i = ancestor w up ((instance_at w i).parent)

abbrev pub cell_in : List NamedCell → List ℕ → Cell
cell_in [] name = simple (number (pos 0))
cell_in (c ∷ cells) name = if same_name c.name name then c.cell else cell_in cells name

abbrev pub cell_at : World → Reference → Cell
cell_at w r = cell_in ((instance_at w r.instance).cells) r.name

abbrev pub cells_with : List NamedCell → List ℕ → Cell → List NamedCell
cells_with [] name cell = []
cells_with (c ∷ cells) name cell = if same_name c.name name then record c { cell = cell } ∷ cells else c ∷ cells_with cells name cell

abbrev pub with_instance : World → ℕ → Instance → World
with_instance w i x = record w { instances = set_numbered w.instances i x }

-- the world with another cell there
abbrev pub set_cell : World → Reference → Cell → World
set_cell w r cell = with_instance w r.instance (record (instance_at w r.instance) { cells = cells_with ((instance_at w r.instance).cells) r.name cell })

-- the world with more cells in that instance
abbrev pub add_cells : World → ℕ → List NamedCell → World
add_cells w i cells = with_instance w i (record (instance_at w i) { cells = (instance_at w i).cells ++ cells })

-- what the reference leads to: where its cell is a Reference itself, that is followed
abbrev pub by_cell : Cell → Reference → Reference
by_cell (reference s) r = s
by_cell _ r = r

abbrev pub followed : World → Reference → Reference
followed w r = by_cell (cell_at w r) r

abbrev pub value_in : Cell → Value
value_in (simple v) = v
value_in _ = number (pos 0)

abbrev pub event_in : Cell → EventState
event_in (event e) = e
event_in _ = record { happened = false; available = false; waiters = []; procurers = [] }

abbrev pub array_in : Cell → ArrayCell
array_in (array a) = a
array_in _ = record { bounds = []; elements = [] }

-- ---- processes

abbrev pub no_process : Process
no_process = record { todo = []; critical = None; task = None; state = ended; woken = 0 }

abbrev pub or_no_process : Option Process → Process
or_no_process (Some q) = q
or_no_process None = no_process

abbrev pub process_at : World → ℕ → Process
process_at w p = or_no_process (numbered w.processes p)

abbrev pub with_process : World → ℕ → Process → World
with_process w p q = record w { processes = set_numbered w.processes p q }

abbrev pub is_able : State → Bool
is_able able = true
is_able _ = false

abbrev pub lives : State → Bool
lives ended = false
lives _ = true

abbrev pub set_able : World → ℕ → World
set_able w p = with_process w p (record (process_at w p) { state = able })

abbrev pub set_all_able : World → List ℕ → World
set_all_able w [] = w
set_all_able w (p ∷ ps) = set_all_able (set_able w p) ps
