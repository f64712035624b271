-- Worlds in which calls fit: the own cells of parameters lead elsewhere, and what leads elsewhere leads to no such cell.
use Rattle.std.specs.Prelude.{◌≡◌, ℕ, true, false, List, [], ◌∷◌, Some}
use Rattle.b67_list.specs.Numbered.{numbered}
use Rattle.algol_tree.specs.Blocks.{block_numbered}
use Rattle.algol_tree.specs.Sorts.{is_formal, Parameter}
use Rattle.algol_tree.specs.Scopes.{Scopes}
use Rattle.algol_meaning.specs.Value.{Reference, Cell, named, reference}
use Rattle.algol_meaning.specs.World.{NamedCell, Instance, Part, Process, World, cell_in}
use Rattle.algol_meaning.specs.Events.{reference_is_among, list_in}
use Rattle.algol_calls.specs.Fits.{CellFits, parameter_sort, CalledExprFits, RestFits}
use Rattle.algol_standing.specs.Worlds.{held_in_rest, IsAmongParts, IsSound}
use Rattle.algol_standing.specs.Lows.{IsLow, IsMaking}

-- the first cells are those of the parameters
abbrev pub ParametersFit : List Parameter → List NamedCell → Type 0
ParametersFit [] cells = Unit {0}
ParametersFit (p ∷ ps) [] = ⊥
ParametersFit (p ∷ ps) (c ∷ cells) = (c.name ≡ p.name) × CellFits p.sort c.cell × ParametersFit ps cells

module _ (sc : Scopes) where
  abbrev pub parameters_at : ℕ → List Parameter
  parameters_at j = (block_numbered sc.blocks j).parameters

  module _ (w : World) where
    -- the instance is there, and no parameter of its block has that cell to lead elsewhere
    pub record IsPlainAt (r : Reference) : Type 0 where
      pub instance : Instance
      pub is : numbered w.instances r.instance ≡ Some instance
      pub no_formal : is_formal (parameter_sort (parameters_at instance.block) r.name) ≡ false

    abbrev pub LeadsRight : Cell → Type 0
    LeadsRight (reference r) = IsPlainAt r
    LeadsRight (named n) = CalledExprFits sc n.actual
    LeadsRight _ = Unit {0}

    abbrev pub AllLeadRight : List Cell → Type 0
    AllLeadRight [] = Unit {0}
    AllLeadRight (c ∷ cells) = LeadsRight c × AllLeadRight cells

    pub record InstanceFits (x : Instance) : Type 0 where
      pub parameters : ParametersFit (parameters_at x.block) x.cells
      pub cells : (name : List ℕ) → LeadsRight (cell_in x.cells name)

    pub record PartFits (part : Part) : Type 0 where
      pub rest : RestFits sc part.rest
      pub holds : AllLeadRight (held_in_rest part.rest)

    pub record ProcessFits (q : Process) : Type 0 where
      pub parts : (part : Part) → IsAmongParts q.todo part → PartFits part
      pub task : (r : Reference) → q.task ≡ Some r → IsPlainAt r
      pub waits : (r : Reference) → reference_is_among (list_in q.state) r ≡ true → IsPlainAt r

    pub record WorldFits : Type 0 where
      pub instances : (i : ℕ) (x : Instance) → numbered w.instances i ≡ Some x → InstanceFits x
      pub processes : (p : ℕ) (q : Process) → numbered w.processes p ≡ Some q → ProcessFits q

-- A world is as worlds are: what stands and waits is in order, calls fit, and nobody comes to what an instance has still to make.
pub record IsOk (sc : Scopes) (Whole : World → ℕ → Type 0) (w : World) : Type 0 where
  pub sound : IsSound sc Whole w
  pub fits : WorldFits sc w
  pub low : (i : ℕ) → IsMaking w i → IsLow sc w i
