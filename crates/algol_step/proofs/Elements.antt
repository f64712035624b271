-- Laws of the cells and elements of new arrays.
use Rattle.std.proofs.Common.{◌≡◌, refl, ℕ, zero, suc, List, [], ◌∷◌, ◌++◌, map, ap, replicate}
use Rattle.algol_cells.specs.SeenValue.{value}
use Rattle.algol_cells.specs.SeenCell as seen
use Rattle.algol_cells.specs.declared.value.Value.{Value}
use Rattle.algol_cells.specs.declared.cell.Bounds.{Bounds}
use Rattle.algol_instances.specs.SeenInstance.{named_cell, named_cells}
use Rattle.algol_instances.specs.declared.instance.NamedCell.{NamedCell}

pub bounds_append : (bs : List Bounds) (b : Bounds) → map seen.bounds (bs ++ b ∷ []) ≡ map seen.bounds bs ++ seen.bounds b ∷ []
bounds_append [] b = refl
bounds_append (c ∷ bs) b = ap (λ (x : _). seen.bounds c ∷ x) (bounds_append bs b)

pub named_append : (cs : List NamedCell) (c : NamedCell) → named_cells (cs ++ c ∷ []) ≡ named_cells cs ++ named_cell c ∷ []
named_append [] c = refl
named_append (d ∷ cs) c = ap (λ (x : _). named_cell d ∷ x) (named_append cs c)

pub same_values : (n : ℕ) (v : Value) → map value (replicate n v) ≡ replicate n (value v)
same_values zero v = refl
same_values (suc n) v = ap (λ (x : _). value v ∷ x) (same_values n v)

pub ruleset making = (bounds_append, named_append, same_values)
