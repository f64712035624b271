-- What the making of an instance or a process adds to a world.
use Rattle.std.specs.Prelude.{ℕ, ◌+◌, false, List, [], ◌∷◌, ◌++◌, length, Option}
use Rattle.algol_tree.specs.Blocks.{block_numbered}
use Rattle.algol_tree.specs.Plain as tree
use Rattle.algol_tree.specs.Plain.{PDecl}
use Rattle.algol_tree.specs.Scopes.{Scopes}
use Rattle.algol_meaning.specs.Value.{Reference, Cell}
use Rattle.algol_meaning.specs.Statements.{settle_items, items_of}
use Rattle.algol_meaning.specs.World as world
use Rattle.algol_meaning.specs.World.{World, NamedCell, Purpose, Part}
use Rattle.algol_meaning.specs.Instances.{fresh_cells, initial_cells}

-- the cells that a declaration brings
abbrev pub declared_cells : PDecl → List NamedCell
declared_cells (tree.simple kind ns) = initial_cells kind ns
declared_cells _ = []

module _ (sc : Scopes) where
  -- one more instance of that block
  abbrev pub with_instance_of : World → ℕ → ℕ → ℕ → List Cell → World
  with_instance_of w block parent process cells =
      record w {
        instances =
            w.instances
            ++ record {
              block = block;
              parent = parent;
              process = process;
              cells = fresh_cells (block_numbered sc.blocks block) cells;
              left = false;
            } ∷ [];
      }

  -- the part that goes on in the next instance
  abbrev pub part_of_purpose : World → ℕ → Purpose → Part
  part_of_purpose w block purpose =
      record { instance = length w.instances + 1; purpose = purpose; rest = settle_items sc (items_of (block_numbered sc.blocks block)) }

-- one more process, with that part only
abbrev pub with_process_of : World → Part → Option ℕ → Option Reference → World
with_process_of w part critical task =
    record w { processes = w.processes ++ record { todo = part ∷ []; critical = critical; task = task; state = world.able; woken = 0 } ∷ [] }
