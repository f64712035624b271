-- Instances that are left keep all but that they stand: what others have of them is as it was.
use Rattle.std.proofs.Common.{refl, ap, ◌∙◌, ℕ, List}
use Rattle.b67_pictures.proofs.Prelude.{Scopes, NamedCell, World, instance_at, cell_in, by_cell, IsSameBut, KeepsArrays, Layout}

pub keeps_left : (sc : Scopes) (w w' : World) (lay : Layout) (j : ℕ) → IsSameBut (instance_at w' j) (instance_at w j) → KeepsArrays sc w w' lay lay j
keeps_left sc w w' lay j same =
    record {
      block = same.block;
      parent = same.parent;
      arrays = λ name cell is. record { later = cell; is = ap (λ (cells : List NamedCell). cell_in cells name) same.cells ∙ is; bounds = refl };
      events = λ name e is. (e, ap (λ (cells : List NamedCell). cell_in cells name) same.cells ∙ is);
      leads = λ name r. ap (λ (cells : List NamedCell). by_cell (cell_in cells name) r) same.cells;
      rows = λ number a there. there;
    }
