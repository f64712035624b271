-- Values, and what a cell of an instance holds.
use Rattle.std.specs.Prelude.{ℕ, ℤ, pos, Bool, false, List}
use Rattle.algol_tree.specs.declared.tree.Kind.{Kind}
use Rattle.algol_tree.specs.declared.tree.Kind.TheVariants as kind
use Rattle.algol_tree.specs.Plain.{PExpr}
use Rattle.b67_deeds.specs.Events.{EventState}

pub data Value : Type 0 where
  number : ℤ → Value
  truth : Bool → Value

-- Expressions are typed before a run, so neither meets a value of the other kind.
abbrev pub whole_of : Value → ℤ
whole_of (number z) = z
whole_of (truth b) = pos 0

abbrev pub truth_of : Value → Bool
truth_of (number z) = false
truth_of (truth b) = b

-- what a variable starts as
abbrev pub initial_value : Kind → Value
initial_value kind.Number = number (pos 0)
initial_value kind.Truth = truth false

-- a cell: its instance, by number from 1, and its name
pub record Reference : Type 0 where
  pub instance : ℕ
  pub name : List ℕ

pub record Bounds : Type 0 where
  pub low : ℤ
  pub high : ℤ

-- elements row by row
pub record ArrayCell : Type 0 where
  pub bounds : List Bounds
  pub elements : List Value

-- an actual, and the instance in which it stands
pub record NameCell : Type 0 where
  pub actual : PExpr
  pub instance : ℕ

pub data Cell : Type 0 where
  simple : Value → Cell
  event : EventState → Cell
  array : ArrayCell → Cell
  named : NameCell → Cell
  reference : Reference → Cell
