-- What others can come to of an instance that has not made all that its block declares: its parameters, its result and its simple variables only.
use Rattle.std.specs.Prelude.{◌≡◌, ℕ, true, false, List, [], ◌∷◌, Some}
use Rattle.b67_list.specs.Numbered.{numbered}
use Rattle.algol_tree.specs.Blocks.{block_numbered}
use Rattle.algol_tree.specs.Scopes.{Scopes}
use Rattle.algol_meaning.specs.Value.{Reference, Cell, named, reference}
use Rattle.algol_meaning.specs.World.{NamedCell, Instance, Part, Process, World, instance_at}
use Rattle.algol_meaning.specs.Critical.{is_evaluation}
use Rattle.algol_paths.specs.Blocks.{IsSeenAround}
use Rattle.algol_paths.specs.Texts.{InExpr, InRest}
use Rattle.algol_paths.specs.Arrays.{all_to_make}
use Rattle.algol_calls.specs.Fits.{has_simple}
use Rattle.algol_standing.specs.Worlds.{held_in_rest, IsAmongParts, IsNoBlock}

-- the instance i, whose block has the number b
module _ (sc : Scopes) (b i : ℕ) where
  -- a reference to it names a cell that it has from its entry on
  abbrev pub LeadsLow : Reference → Type 0
  LeadsLow r = r.instance ≡ i → has_simple (block_numbered sc.blocks b) r.name ≡ true

  -- .. and an actual of it keeps to what is around its block
  abbrev pub CellLow : Cell → Type 0
  CellLow (reference r) = LeadsLow r
  CellLow (named n) = n.instance ≡ i → InExpr (IsSeenAround sc b) n.actual
  CellLow _ = Unit {0}

  abbrev pub AllLow : List Cell → Type 0
  AllLow [] = Unit {0}
  AllLow (c ∷ cells) = CellLow c × AllLow cells

  abbrev pub CellsLow : List NamedCell → Type 0
  CellsLow [] = Unit {0}
  CellsLow (c ∷ cells) = CellLow c.cell × CellsLow cells

  -- another instance: it is not declared in i
  pub record InstanceLow (x : Instance) : Type 0 where
    pub childless : x.parent ≡ i → ⊥
    pub cells : CellsLow x.cells

  -- a part of whatever process: an evaluation in i keeps to what is around its block, and enters no block
  pub record PartLow (part : Part) : Type 0 where
    pub holds : AllLow (held_in_rest part.rest)
    pub narrow : is_evaluation part.purpose ≡ true → part.instance ≡ i → InRest (IsSeenAround sc b) IsNoBlock (IsSeenAround sc b) part.rest

  pub record WorldLow (w : World) : Type 0 where
    pub instances : (j : ℕ) (x : Instance) → numbered w.instances j ≡ Some x → x.left ≡ false → InstanceLow x
    pub parts : (p : ℕ) (q : Process) (part : Part) → numbered w.processes p ≡ Some q → IsAmongParts q.todo part → PartLow part
    pub tasks : (p : ℕ) (q : Process) (r : Reference) → numbered w.processes p ≡ Some q → q.task ≡ Some r → LeadsLow r

-- Nobody comes to what actions make in the instance: it is nobody's parent, what refers to it names one of its simple cells, and its actuals, and
-- what is evaluated in it, keep to what is around its block.
abbrev pub IsLow : Scopes → World → ℕ → Type 0
IsLow sc w i = WorldLow sc ((instance_at w i).block) i w

-- The instance has still to make some of what its block declares.
pub record IsMaking (w : World) (i : ℕ) : Type 0 where
  pub number : ℕ
  pub process : Process
  pub part : Part
  pub is : numbered w.processes number ≡ Some process
  pub among : IsAmongParts process.todo part
  pub owns : is_evaluation part.purpose ≡ false
  pub instance_is : part.instance ≡ i
  pub makes : all_to_make part.rest ≡ [] → ⊥
