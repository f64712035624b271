-- What a name is declared as. The definitions have a sort for the meaning and a class for the rules of types: these two are one sort here.
use Rattle.std.specs.Prelude.{ℕ, Bool, true, false}
use Rattle.algol_tree.specs.declared.tree.Kind.{Kind}
use Rattle.algol_tree.specs.Classes as class
use Rattle.algol_tree.specs.Classes.{Class, Formal}
use Rattle.algol_tree.specs.Sorts as plain
use Rattle.algol_tree.specs.Sorts.{Declared}
use Rattle.algol_sorts.specs.declared.sort.Sort.{Sort}
use Rattle.algol_sorts.specs.declared.sort.Sort.TheVariants as sort

abbrev simple_sort : Kind → plain.Sort → Sort
simple_sort kind plain.by_name = sort.ByName kind
simple_sort kind _ = sort.Variable kind

abbrev array_sort : Kind → ℕ → plain.Sort → Sort
array_sort kind subscripts (plain.formal_array lows) = sort.FormalArray kind subscripts
array_sort kind subscripts _ = sort.Array kind subscripts

abbrev event_sort : plain.Sort → Sort
event_sort plain.formal_event = sort.FormalEvent
event_sort _ = sort.Event

-- what is of this class, and of this sort in the meaning
abbrev pub sort_by : Class → plain.Sort → Sort
sort_by (class.simple kind) s = simple_sort kind s
sort_by (class.array kind subscripts) s = array_sort kind subscripts s
sort_by class.event s = event_sort s
sort_by class.task s = sort.Task
sort_by class.label s = sort.Label
sort_by class.file s = sort.File
sort_by (class.procedure h) s = sort.Procedure h.kind
sort_by class.unknown s = sort.Unspecified

-- what a name with this declaration is declared as
abbrev pub sort_of : Declared → Sort
sort_of d = sort_by d.class d.sort

-- a parameter of this class, by value or not
abbrev pub parameter_by : Class → Bool → Sort
parameter_by (class.simple kind) true = sort.Variable kind
parameter_by (class.simple kind) false = sort.ByName kind
parameter_by (class.array kind subscripts) value = sort.FormalArray kind subscripts
parameter_by class.event value = sort.FormalEvent
parameter_by _ value = sort.Unspecified

-- a parameter as a call sees it
abbrev pub parameter_of : Formal → Sort
parameter_of f = parameter_by f.class f.by_value

-- Tests on sorts.
abbrev pub sort_is_simple : Sort → Bool
sort_is_simple (sort.Variable kind) = true
sort_is_simple (sort.ByName kind) = true
sort_is_simple _ = false

abbrev pub sort_is_by_name : Sort → Bool
sort_is_by_name (sort.ByName kind) = true
sort_is_by_name _ = false

-- a parameter that VALUE names
abbrev pub by_value : Sort → Sort
by_value (sort.ByName kind) = sort.Variable kind
by_value s = s
