-- What a name can be declared as, and the names of a scope.
use Rattle.std.specs.Prelude.{ℕ, ◌==◌, ◌&&◌, if◌then◌else◌, ℤ, Bool, true, false, List, [], ◌∷◌, length, map, Option, Some, None}
use Rattle.algol_tree.specs.declared.token.Spot.{Spot}
use Rattle.algol_tree.specs.declared.tree.Named.{Named}
use Rattle.algol_tree.specs.declared.tree.Heading.{Heading}
use Rattle.algol_tree.specs.declared.tree.Spec.{Spec}
use Rattle.algol_tree.specs.declared.tree.Spec.TheVariants as spec
use Rattle.algol_tree.specs.Classes as class
use Rattle.algol_tree.specs.Classes.{Class, Formal}

abbrev pub same_name : List ℕ → List ℕ → Bool
same_name [] [] = true
same_name (a ∷ as') (b ∷ bs) = (a == b) && same_name as' bs
same_name _ _ = false

pub data Sort : Type 0 where
  variable : Sort  -- a simple variable, a value parameter, the result of the typed procedure around
  by_name : Sort
  array : Sort
  formal_array : List ℤ → Sort  -- with the lower bounds of its specification
  event : Sort  -- an event or a task
  formal_event : Sort
  label : Sort
  file : Sort
  procedure : ℕ → Sort  -- with the number of its block

-- Tests on sorts. Definitions that depend on a sort take the answers of these tests, so that they have few cases.
-- a parameter that stands for something else
abbrev pub is_formal : Sort → Bool
is_formal by_name = true
is_formal (formal_array lows) = true
is_formal formal_event = true
is_formal _ = false

abbrev pub is_by_name : Sort → Bool
is_by_name by_name = true
is_by_name _ = false

-- of a parameter: it is by value
abbrev pub is_variable : Sort → Bool
is_variable variable = true
is_variable _ = false

-- the block of a procedure
abbrev pub procedure_in : Sort → Option ℕ
procedure_in (procedure block) = Some block
procedure_in _ = None

-- A name, where its declaration stands (of a procedure, the heading with its body), the block that declares it, how many blocks are
-- around that block, and what it is declared as.
pub record Declared : Type 0 where
  pub name : List ℕ
  pub spot : Spot
  pub block : ℕ
  pub depth : ℕ
  pub sort : Sort
  pub class : Class

-- the first of that name, in a list with the innermost first
abbrev pub look_up : List Declared → List ℕ → Option Declared
look_up [] name = None
look_up (d ∷ ds) name = if same_name d.name name then Some d else look_up ds name

abbrev pub declare : ℕ → ℕ → Sort → Class → List Named → List Declared
declare block depth sort class ns =
    map (λ (n : Named). record { name = n.name; spot = n.spot; block = block; depth = depth; sort = sort; class = class }) ns

-- ---- parameters

pub record Parameter : Type 0 where
  pub name : List ℕ
  pub sort : Sort

abbrev pub is_named_in : List Named → List ℕ → Bool
is_named_in [] name = false
is_named_in (n ∷ ns) name = if same_name n.name name then true else is_named_in ns name

abbrev pub simple_sort : Bool → Sort
simple_sort true = variable
simple_sort false = by_name

abbrev pub specified_by : Spec → List ℕ → Bool
specified_by (spec.Simple kind ns) name = is_named_in ns name
specified_by (spec.Events ns) name = is_named_in ns name
specified_by (spec.Arrays kind ns lows) name = is_named_in ns name

abbrev pub sort_by : Spec → Bool → Sort
sort_by (spec.Simple kind ns) by_value = simple_sort by_value
sort_by (spec.Events ns) by_value = formal_event
sort_by (spec.Arrays kind ns lows) by_value = formal_array lows

abbrev pub sort_in : List Spec → Bool → List ℕ → Sort
sort_in [] by_value name = variable
sort_in (s ∷ ss) by_value name = if specified_by s name then sort_by s by_value else sort_in ss by_value name

abbrev pub parameters_of : Heading → List Parameter
parameters_of h = map (λ (n : Named). record { name = n.name; sort = sort_in h.specs (is_named_in h.values n.name) n.name }) h.params

abbrev pub class_by : Spec → Class
class_by (spec.Simple kind ns) = class.simple kind
class_by (spec.Events ns) = class.event
class_by (spec.Arrays kind ns lows) = class.array kind (length lows)

-- the first specification of a name decides
abbrev pub class_in : List Spec → List ℕ → Class
class_in [] name = class.unknown
class_in (s ∷ ss) name = if specified_by s name then class_by s else class_in ss name

abbrev pub declared_parameters : ℕ → ℕ → Heading → List Declared
declared_parameters block depth h =
    map
    (λ (n : Named).
    record {
      name = n.name;
      spot = n.spot;
      block = block;
      depth = depth;
      sort = sort_in h.specs (is_named_in h.values n.name) n.name;
      class = class_in h.specs n.name;
    })
    h.params

abbrev pub formals_of : Heading → List Formal
formals_of h = map (λ (n : Named). record { class = class_in h.specs n.name; by_value = is_named_in h.values n.name }) h.params
