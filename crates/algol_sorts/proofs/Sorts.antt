-- What a parameter is declared as is one sort, however it is looked at.
use Rattle.std.proofs.Common.{◌≡◌, ℕ, Bool, true, false, List, [], ◌∷◌, length, refl}
use Rattle.std.specs.Prelude.{◌&&◌, not, if◌then◌else◌}
use Rattle.algol_tree.specs.declared.tree.Spec.{Spec}
use Rattle.algol_tree.specs.declared.tree.Spec.TheVariants as specs
use Rattle.algol_tree.specs.Classes as class
use Rattle.algol_tree.specs.Classes.{Class}
use Rattle.algol_tree.specs.Sorts as plain
use Rattle.algol_tree.specs.Sorts.{class_in, is_named_in, simple_sort, sort_in}
use Rattle.algol_sorts.specs.Sorts.{sort_is_by_name, parameter_by, sort_by}

-- a parameter is declared as what a call sees of it
pub parameter_declared : (ss : List Spec) (value : Bool) (name : List ℕ) → parameter_by (class_in ss name) value ≡ sort_by (class_in ss name) (sort_in ss value name)
parameter_declared [] value name = refl
parameter_declared (specs.Simple kind ns ∷ ss) value name = decide (is_named_in ns name) value (parameter_declared ss value name)
  where
    decide : (b v : Bool) → parameter_by (class_in ss name) v ≡ sort_by (class_in ss name) (sort_in ss v name) →
        parameter_by (if b then class.simple kind else class_in ss name) v ≡
        sort_by (if b then class.simple kind else class_in ss name) (if b then simple_sort v else sort_in ss v name)
    decide true true h = refl
    decide true false h = refl
    decide false v h = h
parameter_declared (specs.Events ns ∷ ss) value name = decide (is_named_in ns name) (parameter_declared ss value name)
  where
    decide : (b : Bool) → parameter_by (class_in ss name) value ≡ sort_by (class_in ss name) (sort_in ss value name) →
        parameter_by (if b then class.event else class_in ss name) value ≡
        sort_by (if b then class.event else class_in ss name) (if b then plain.formal_event else sort_in ss value name)
    decide true h = refl
    decide false h = h
parameter_declared (specs.Arrays kind ns lows ∷ ss) value name = decide (is_named_in ns name) (parameter_declared ss value name)
  where
    decide : (b : Bool) → parameter_by (class_in ss name) value ≡ sort_by (class_in ss name) (sort_in ss value name) →
        parameter_by (if b then class.array kind (length lows) else class_in ss name) value ≡
        sort_by (if b then class.array kind (length lows) else class_in ss name) (if b then plain.formal_array lows else sort_in ss value name)
    decide true h = refl
    decide false h = h

pub parameter_by_name : (c : Class) (value : Bool) → sort_is_by_name (parameter_by c value) ≡ (class.is_simple c && not value)
parameter_by_name (class.simple kind) true = refl
parameter_by_name (class.simple kind) false = refl
parameter_by_name _ value = refl
