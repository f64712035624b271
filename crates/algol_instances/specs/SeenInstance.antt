-- What the instances of the code stand for.
use Rattle.std.specs.Prelude.{ℕ, zero, suc, ◌+◌, if◌then◌else◌, List, [], ◌∷◌, map, Option, Some, None, pos}
use Rattle.std.specs.Borrow.{Bor}
use Rattle.algol_tree.specs.Sorts.{same_name}
use Rattle.algol_meaning.specs.Value as plain
use Rattle.algol_meaning.specs.World as world
use Rattle.algol_meaning.specs.World.{no_instance}
use Rattle.algol_cells.specs.SeenCell as seen
use Rattle.algol_cells.specs.declared.cell.Cell.{Cell}
use Rattle.algol_instances.specs.declared.instance.NamedCell.{NamedCell}
use Rattle.algol_instances.specs.declared.instance.Instance.{Instance}

abbrev pub named_cell : NamedCell → world.NamedCell
named_cell c = record { name = c.name.now; cell = seen.cell c.cell }

abbrev pub named_cells : List NamedCell → List world.NamedCell
named_cells cs = map named_cell cs

abbrev pub instance : Instance → world.Instance
instance i = record { block = i.block; parent = i.parent; process = i.process; cells = named_cells i.cells; left = i.left }

abbrev pub instance_or_none : Option (Bor Instance) → world.Instance
instance_or_none None = no_instance
instance_or_none (Some i) = instance i.now

abbrev pub zero_cell : plain.Cell
zero_cell = plain.simple (plain.number (pos 0))

-- where there is no cell, a number 0 stands in
abbrev pub cell_or_none : Option (Bor Cell) → plain.Cell
cell_or_none None = zero_cell
cell_or_none (Some c) = seen.cell c.now

-- a world of these instances only: what is asked of it depends on nothing else
abbrev pub holding : List world.Instance → world.World
holding instances = record { instances = instances; processes = []; output = []; fault = None }

-- where the item of that number stands in its list
abbrev pub place_of_number : ℕ → Option ℕ
place_of_number zero = None
place_of_number (suc k) = Some k

abbrev pub further : ℕ → Option ℕ → Option ℕ
further k None = None
further k (Some j) = Some (k + j)

-- the place of the first cell of that name
abbrev pub cell_place_in : List NamedCell → List ℕ → Option ℕ
cell_place_in [] name = None
cell_place_in (c ∷ cells) name = if same_name c.name.now name then Some 0 else further 1 (cell_place_in cells name)
