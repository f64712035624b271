-- What a change of the instances does to how many elements their arrays have that live.
use Rattle.std.specs.Prelude.{◌≡◌, ℕ, ◌+◌, if◌then◌else◌, Bool, true, false, List, [], ◌∷◌}
use Rattle.algol_tree.specs.Sorts.{same_name}
use Rattle.algol_meaning.specs.Value.{Reference, Cell, array}
use Rattle.algol_meaning.specs.World.{NamedCell, Instance, World, instance_at}
use Rattle.algol_meaning.specs.Arrays.{size_of_cells, size_unless}
use Rattle.algol_instances.specs.SeenArray.{capped}

-- how many elements the arrays of an instance have that live
abbrev pub live_in : Instance → ℕ
live_in x = size_unless x.left (size_of_cells x.cells)

abbrev pub cell_is_array : Cell → Bool
cell_is_array (array a) = true
cell_is_array _ = false

-- what the first cell of that name holds before it has another content; that content where there is none
abbrev pub displaced : List NamedCell → List ℕ → Cell → Cell
displaced [] name cell = cell
displaced (c ∷ cells) name cell = if same_name c.name name then c.cell else displaced cells name cell

abbrev pub displaced_at : World → Reference → Cell → Cell
displaced_at w r cell = displaced ((instance_at w r.instance).cells) r.name cell

-- So many elements lived, of which some are gone, and others have come: then so many live now. The code has each number capped.
pub record Adjusts (lived gone come now : ℕ) : Type 0 where
  pub all_lived : ℕ
  pub all_gone : ℕ
  pub all_come : ℕ
  pub lived_is : lived ≡ capped all_lived
  pub gone_is : gone ≡ capped all_gone
  pub come_is : come ≡ capped all_come
  pub now_is : now + all_gone ≡ all_lived + all_come
