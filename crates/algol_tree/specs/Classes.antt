-- What a name is declared as, so far as the rules of types, counts and labels look at it.
use Rattle.std.specs.Prelude.{ℕ, Bool, true, false, Option, Some, None}
use Rattle.algol_tree.specs.declared.tree.Kind.{Kind}
use Rattle.algol_tree.specs.declared.tree.Kind.TheVariants as types
use Rattle.algol_tree.specs.declared.tree.Heading.{Heading}

pub data Class : Type 0 where
  simple : Kind → Class  -- a simple variable or a simple parameter
  array : Kind → ℕ → Class  -- the kind of its elements, and how many subscripts it has
  event : Class
  task : Class
  label : Class
  file : Class
  procedure : Heading → Class  -- with its heading: the one with the body, where there is one
  unknown : Class  -- a name that is not declared, or a parameter without a specification: these rules say nothing of it

-- A parameter as a call sees it: an actual is by value where the heading names it in VALUE.
pub record Formal : Type 0 where
  pub class : Class
  pub by_value : Bool

abbrev pub same_kind : Kind → Kind → Bool
same_kind types.Number types.Number = true
same_kind types.Truth types.Truth = true
same_kind _ _ = false

abbrev pub same_result : Option Kind → Option Kind → Bool
same_result None None = true
same_result (Some k) (Some m) = same_kind k m
same_result _ _ = false

-- Tests on classes. Each says no of a name of which nothing is known.
abbrev pub is_simple : Class → Bool
is_simple (simple kind) = true
is_simple _ = false

abbrev pub is_array : Class → Bool
is_array (array kind subscripts) = true
is_array _ = false

abbrev pub is_event : Class → Bool
is_event event = true
is_event _ = false

abbrev pub is_task : Class → Bool
is_task task = true
is_task _ = false

abbrev pub is_label : Class → Bool
is_label label = true
is_label _ = false

abbrev pub is_file : Class → Bool
is_file file = true
is_file _ = false

abbrev pub is_procedure : Class → Bool
is_procedure (procedure h) = true
is_procedure _ = false

abbrev pub is_unspecified : Class → Bool
is_unspecified unknown = true
is_unspecified _ = false
