-- Laws of the cells of a new instance, and of lists that grow.
use Rattle.std.proofs.Common.{arith, ◌≡◌, refl, ℕ, suc, List, [], ◌∷◌, ◌++◌, length, map, drop, ap, sym, ◌∙◌, append_assoc, append-nil, Some, None, slice_get}
use Rattle.algol_tree.specs.Plain as tree
use Rattle.algol_tree.specs.Plain.{PDecl, PDecls}
use Rattle.algol_tree.specs.Scopes.{Scopes}
use Rattle.algol_tree.specs.Sorts as sorts
use Rattle.algol_meaning.specs.Instances.{variable_cells, parameter_cells}
use Rattle.algol_cells.specs.SeenCell as seen
use Rattle.algol_cells.specs.SeenScope.{parameter}
use Rattle.algol_cells.specs.declared.cell.Cell.{Cell}
use Rattle.algol_cells.specs.declared.scope.Parameter.{Parameter}
use Rattle.algol_instances.specs.SeenInstance.{named_cell, named_cells, instance}
use Rattle.algol_world.specs.SeenWorld.{process}
use Rattle.algol_instances.specs.declared.instance.NamedCell.{NamedCell}
use Rattle.algol_instances.specs.declared.instance.Instance.{Instance}
use Rattle.algol_instances.proofs.Counting.{map_more}
use Rattle.algol_world.specs.declared.world.Process.{Process}
use Rattle.b67_list.proofs.Lists.{length_map, map_last}
use Rattle.algol_perform.specs.Making.{declared_cells}
use Rattle.algol_perform.proofs.Newer.{drop_more, drop_none}

-- ---- cells

pub cells_append : (cs : List NamedCell) (c : NamedCell) → named_cells (cs ++ c ∷ []) ≡ named_cells cs ++ named_cell c ∷ []
cells_append cs c = map_last named_cell cs c

pub variables_next : (d : PDecl) (ds : PDecls) → variable_cells (tree.decls d ds) ≡ declared_cells d ++ variable_cells ds
variables_next (tree.simple kind ns) ds = refl
variables_next (tree.files ns) ds = refl
variables_next (tree.events ns) ds = refl
variables_next (tree.tasks ns) ds = refl
variables_next (tree.labels ns) ds = refl
variables_next (tree.arrays kind ns ps) ds = refl
variables_next (tree.forward h) ds = refl
variables_next (tree.procedure h s) ds = refl

pub ruleset cell_laws = (cells_append, variables_next, append_assoc)

-- ---- the cells of parameters

no_given : (ps : List sorts.Parameter) → parameter_cells ps [] ≡ []
no_given [] = refl
no_given (p ∷ ps) = refl

module _ (ps : List Parameter) (named : List NamedCell) where
  -- where the contents end, or the parameters
  pub given_all : (cells : List Cell) → length cells ≡ 0 → named_cells named ++ parameter_cells (map parameter (drop (length named) ps)) (map seen.cell cells) ≡ named_cells named
  given_all [] e = ap (λ (cs : _). named_cells named ++ cs) (no_given (map parameter (drop (length named) ps))) ∙ append-nil (named_cells named)
  given_all (c ∷ cells) e = absurd (omega arith)

  pub no_more : (cells : List Cell) → None ≡ slice_get ps (length named) → named_cells named ++ parameter_cells (map parameter (drop (length named) ps)) (map seen.cell cells) ≡ named_cells named
  no_more cells e =
      ap (λ (qs : List Parameter). named_cells named ++ parameter_cells (map parameter qs) (map seen.cell cells)) (drop_none ps (length named) e)
      ∙ append-nil (named_cells named)

  pub given_more :
      (p : Parameter) (c : Cell) (n : NamedCell) (cells : List Cell) → Some p ≡ slice_get ps (length named) → n ≡ record { name = p.name; cell = c }
      → named_cells named ++ parameter_cells (map parameter (drop (length named) ps)) (map seen.cell (c ∷ cells))
      ≡ named_cells (named ++ n ∷ []) ++ parameter_cells (map parameter (drop (length (named ++ n ∷ [])) ps)) (map seen.cell cells)
  given_more p c n cells e f =
      ap (λ (qs : List Parameter). named_cells named ++ parameter_cells (map parameter qs) (map seen.cell (c ∷ cells))) (drop_more ps (length named) p e)
      ∙ sym (append_assoc (named_cells named) (record { name = p.name.now; cell = seen.cell c } ∷ []) (parameter_cells (map parameter (drop (suc (length named)) ps)) (map seen.cell cells)))
      ∙ ap (λ (m : NamedCell). (named_cells named ++ named_cell m ∷ []) ++ parameter_cells (map parameter (drop (suc (length named)) ps)) (map seen.cell cells)) (sym f)
      ∙ ap (λ (cs : _). cs ++ parameter_cells (map parameter (drop (suc (length named)) ps)) (map seen.cell cells)) (sym (cells_append named n))
      ∙ ap (λ (k : ℕ). named_cells (named ++ n ∷ []) ++ parameter_cells (map parameter (drop k ps)) (map seen.cell cells)) (longer named n)
    where
      longer : (xs : List NamedCell) (x : NamedCell) → suc (length xs) ≡ length (xs ++ x ∷ [])
      longer [] x = refl
      longer (y ∷ xs) x = ap suc (longer xs x)

-- ---- instances and processes

pub processes_append : (sc : Scopes) (qs : List Process) (q : Process) → map (process sc) (qs ++ q ∷ []) ≡ map (process sc) qs ++ process sc q ∷ []
processes_append sc qs q = map_last (process sc) qs q

pub instances_count : (is : List Instance) → length (map instance is) ≡ length is
instances_count is = length_map instance is

pub processes_count : (sc : Scopes) (qs : List Process) → length (map (process sc) qs) ≡ length qs
processes_count sc qs = length_map (process sc) qs

pub ruleset growing_laws = (map_more, processes_append, instances_count, processes_count)
