-- Cells that are read, set, added and given: those of parameters stay fitting.
use Rattle.std.proofs.Common.{◌≡◌, ◌⊎◌, ℕ, List, [], ◌∷◌, ◌++◌, Option, Some, None, Bool, true, false, refl, sym, ap, ◌∙◌, subst}
use Rattle.std.specs.Prelude.{if◌then◌else◌, pos}
use Rattle.algol_tree.specs.declared.tree.Kind.{Kind}
use Rattle.algol_tree.specs.declared.tree.Named.{Named}
use Rattle.algol_tree.specs.Plain as tree
use Rattle.algol_tree.specs.Plain.{PDecls}
use Rattle.algol_tree.specs.Blocks.{Block}
use Rattle.algol_tree.specs.Sorts.{is_formal, Parameter, same_name}
use Rattle.algol_meaning.specs.Value.{initial_value, Value, number, Cell, simple}
use Rattle.algol_meaning.specs.World.{NamedCell, cell_in, cells_with}
use Rattle.algol_meaning.specs.Instances.{parameter_cells, initial_cells, result_cells, variable_cells, fresh_cells}
use Rattle.algol_calls.specs.Fits.{CellFits, parameter_sort}
use Rattle.b67_list.proofs.Numbers.{absurd_truth}
use Rattle.algol_standing.specs.Fitting.{ParametersFit}
use Rattle.algol_standing.proofs.Lists.{false_true}
use Rattle.algol_standing.proofs.Holding.{AreAll}

-- ---- reading

with_or : (cells : List NamedCell) (m n : List ℕ) (c : Cell) → (cell_in (cells_with cells m c) n ≡ cell_in cells n) ⊎ (cell_in (cells_with cells m c) n ≡ c)
with_or [] m n c = ◌⊎◌.inl refl
with_or (d ∷ cells) m n c = by (same_name d.name m) (with_or cells m n c)
  where
    here : (b : Bool) → ((if b then c else cell_in cells n) ≡ (if b then d.cell else cell_in cells n)) ⊎ ((if b then c else cell_in cells n) ≡ c)
    here true = ◌⊎◌.inr refl
    here false = ◌⊎◌.inl refl

    further : (b : Bool) → (cell_in (cells_with cells m c) n ≡ cell_in cells n) ⊎ (cell_in (cells_with cells m c) n ≡ c) →
        ((if b then d.cell else cell_in (cells_with cells m c) n) ≡ (if b then d.cell else cell_in cells n)) ⊎ ((if b then d.cell else cell_in (cells_with cells m c) n) ≡ c)
    further true h = ◌⊎◌.inl refl
    further false h = h

    by : (b : Bool) → (cell_in (cells_with cells m c) n ≡ cell_in cells n) ⊎ (cell_in (cells_with cells m c) n ≡ c) →
        (cell_in (if b then record d { cell = c } ∷ cells else d ∷ cells_with cells m c) n ≡ (if same_name d.name n then d.cell else cell_in cells n))
        ⊎ (cell_in (if b then record d { cell = c } ∷ cells else d ∷ cells_with cells m c) n ≡ c)
    by true h = here (same_name d.name n)
    by false h = further (same_name d.name n) h

more_or : (cells more : List NamedCell) (n : List ℕ) → (cell_in (cells ++ more) n ≡ cell_in cells n) ⊎ (cell_in (cells ++ more) n ≡ cell_in more n)
more_or [] more n = ◌⊎◌.inr refl
more_or (d ∷ cells) more n = by (same_name d.name n) (more_or cells more n)
  where
    by : (b : Bool) → (cell_in (cells ++ more) n ≡ cell_in cells n) ⊎ (cell_in (cells ++ more) n ≡ cell_in more n) →
        ((if b then d.cell else cell_in (cells ++ more) n) ≡ (if b then d.cell else cell_in cells n)) ⊎ ((if b then d.cell else cell_in (cells ++ more) n) ≡ cell_in more n)
    by true h = ◌⊎◌.inl refl
    by false h = h

module _ (C : Cell → Type 0) where
  -- each cell that is found in these is one of C
  abbrev pub Finds : List NamedCell → Type 0
  Finds cells = (n : List ℕ) → C (cell_in cells n)

  pub finds_with : (cells : List NamedCell) (m : List ℕ) (c : Cell) → C c → Finds cells → Finds (cells_with cells m c)
  finds_with cells m c k f n = by (with_or cells m n c)
    where
      by : (cell_in (cells_with cells m c) n ≡ cell_in cells n) ⊎ (cell_in (cells_with cells m c) n ≡ c) → C (cell_in (cells_with cells m c) n)
      by (◌⊎◌.inl e) = subst (λ x. C x) (sym e) (f n)
      by (◌⊎◌.inr e) = subst (λ x. C x) (sym e) k

  pub finds_more : (cells more : List NamedCell) → Finds cells → Finds more → Finds (cells ++ more)
  finds_more cells more f g n = by (more_or cells more n)
    where
      by : (cell_in (cells ++ more) n ≡ cell_in cells n) ⊎ (cell_in (cells ++ more) n ≡ cell_in more n) → C (cell_in (cells ++ more) n)
      by (◌⊎◌.inl e) = subst (λ x. C x) (sym e) (f n)
      by (◌⊎◌.inr e) = subst (λ x. C x) (sym e) (g n)

  either_cell : (b : Bool) (c d : Cell) → C c → C d → C (if b then c else d)
  either_cell true c d i j = i
  either_cell false c d i j = j

  -- ---- the cells of a new instance

  module _ (plain : (v : Value) → C (simple v)) where
    pub finds_none : Finds []
    finds_none n = plain (number (pos 0))

    pub finds_first : (d : NamedCell) (cells : List NamedCell) → C d.cell → Finds cells → Finds (d ∷ cells)
    finds_first d cells i f n = either_cell (same_name d.name n) d.cell (cell_in cells n) i (f n)

    finds_initial : (kind : Kind) (ns : List Named) → Finds (initial_cells kind ns)
    finds_initial kind [] = finds_none
    finds_initial kind (n ∷ ns) = finds_first (record { name = n.name; cell = simple (initial_value kind) }) (initial_cells kind ns) (plain (initial_value kind)) (finds_initial kind ns)

    finds_result : (o : Option Kind) (name : List ℕ) → Finds (result_cells o name)
    finds_result None name = finds_none
    finds_result (Some kind) name = finds_first (record { name = name; cell = simple (initial_value kind) }) [] (plain (initial_value kind)) finds_none

    finds_variables : (ds : PDecls) → Finds (variable_cells ds)
    finds_variables tree.no_decls = finds_none
    finds_variables (tree.decls (tree.simple kind ns) ds) = finds_more (initial_cells kind ns) (variable_cells ds) (finds_initial kind ns) (finds_variables ds)
    finds_variables (tree.decls _ ds) = finds_variables ds

    finds_parameters : (ps : List Parameter) (cells : List Cell) → AreAll C cells → Finds (parameter_cells ps cells)
    finds_parameters [] cells i = finds_none
    finds_parameters (p ∷ ps) [] i = finds_none
    finds_parameters (p ∷ ps) (c ∷ cells) i = finds_first (record { name = p.name; cell = c }) (parameter_cells ps cells) i.0 (finds_parameters ps cells i.1)

    pub finds_fresh : (b : Block) (cells : List Cell) → AreAll C cells → Finds (fresh_cells b cells)
    finds_fresh b cells i =
        finds_more (parameter_cells b.parameters cells ++ result_cells b.result b.name) (variable_cells b.decls)
        (finds_more (parameter_cells b.parameters cells) (result_cells b.result b.name) (finds_parameters b.parameters cells i) (finds_result b.result b.name))
        (finds_variables b.decls)

-- ---- the cells of parameters

pub parameters_with : (ps : List Parameter) (cells : List NamedCell) (m : List ℕ) (c : Cell) → is_formal (parameter_sort ps m) ≡ false → ParametersFit ps cells →
    ParametersFit ps (cells_with cells m c)
parameters_with [] cells m c e i = tt
parameters_with (p ∷ ps) [] m c e i = absurd i
parameters_with (p ∷ ps) (d ∷ cells) m c e i = by (same_name d.name m) refl (λ f. parameters_with ps cells m c f i.2)
  where
    same : same_name p.name m ≡ same_name d.name m
    same = ap (λ k. same_name k m) (sym i.0)

    sort_is : (b : Bool) → same_name d.name m ≡ b → is_formal (if b then p.sort else parameter_sort ps m) ≡ false
    sort_is b g = subst (λ a. is_formal (if a then p.sort else parameter_sort ps m) ≡ false) (same ∙ g) e

    by : (b : Bool) → same_name d.name m ≡ b → (is_formal (parameter_sort ps m) ≡ false → ParametersFit ps (cells_with cells m c)) →
        ParametersFit (p ∷ ps) (if b then record d { cell = c } ∷ cells else d ∷ cells_with cells m c)
    by true g h = (i.0, λ f. absurd_truth (sym f ∙ sort_is true g), i.2)
    by false g h = (i.0, i.1, h (sort_is false g))

pub parameters_more : (ps : List Parameter) (cells more : List NamedCell) → ParametersFit ps cells → ParametersFit ps (cells ++ more)
parameters_more [] cells more i = tt
parameters_more (p ∷ ps) [] more i = absurd i
parameters_more (p ∷ ps) (d ∷ cells) more i = (i.0, i.1, parameters_more ps cells more i.2)

-- the own cell of a parameter
pub parameter_fits : (ps : List Parameter) (cells : List NamedCell) (m : List ℕ) → ParametersFit ps cells → CellFits (parameter_sort ps m) (cell_in cells m)
parameter_fits [] cells m i = λ f. false_true f
parameter_fits (p ∷ ps) [] m i = absurd i
parameter_fits (p ∷ ps) (d ∷ cells) m i = by (same_name p.name m) (same_name d.name m) (ap (λ k. same_name k m) (sym i.0)) (parameter_fits ps cells m i.2)
  where
    by : (a b : Bool) → a ≡ b → CellFits (parameter_sort ps m) (cell_in cells m) → CellFits (if a then p.sort else parameter_sort ps m) (if b then d.cell else cell_in cells m)
    by true true e h = i.1
    by true false e h = absurd_truth e
    by false true e h = false_true e
    by false false e h = h
