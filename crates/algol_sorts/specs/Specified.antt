-- What a heading says of its parameters, and tables of it.
use Rattle.std.specs.Prelude.{◌≡◌, ℕ, if◌then◌else◌, Bool, List, [], ◌∷◌, length, is_some, Option, Some, None}
use Rattle.algol_tree.specs.declared.tree.Heading.{Heading}
use Rattle.algol_tree.specs.declared.tree.Named.{Named}
use Rattle.algol_tree.specs.declared.tree.Spec.{Spec}
use Rattle.algol_tree.specs.declared.tree.Spec.TheVariants as specs
use Rattle.algol_tree.specs.Sorts.{class_in, is_named_in, specified_by}
use Rattle.algol_sorts.specs.declared.sort.Sort.{Sort}
use Rattle.algol_sorts.specs.declared.sort.Sort.TheVariants as sort
use Rattle.algol_sorts.specs.declared.heading.Specified.{Specified}
use Rattle.algol_sorts.specs.Sorts.{by_value, parameter_by}
use Rattle.algol_sorts.specs.Tables.{SortTable, sort_named}

-- what a specification says of a parameter that is not by value
abbrev pub specified_as : Spec → Sort
specified_as (specs.Simple kind ns) = sort.ByName kind
specified_as (specs.Events ns) = sort.FormalEvent
specified_as (specs.Arrays kind ns lows) = sort.FormalArray kind (length lows)

-- what nothing is said of
abbrev pub or_unspecified : Option Sort → Sort
or_unspecified None = sort.Unspecified
or_unspecified (Some s) = s

-- what the name is specified as by the table
abbrev pub sort_under : SortTable → List ℕ → Sort
sort_under table name = or_unspecified (sort_named table name)

-- the first of the specifications that names it decides
abbrev pub sort_in : List Spec → List ℕ → Sort
sort_in [] name = sort.Unspecified
sort_in (s ∷ ss) name = if specified_by s name then specified_as s else sort_in ss name

-- the table says of each name what these specifications say
abbrev pub Specifies : SortTable → List Spec → Type 0
Specifies table ss = (name : List ℕ) → sort_under table name ≡ sort_in ss name

-- the table has these names
abbrev pub AreNamed : SortTable → List Named → Type 0
AreNamed table ns = (name : List ℕ) → is_some (sort_named table name) ≡ is_named_in ns name

abbrev pub valued : Bool → Sort → Sort
valued value s = if value then by_value s else s

-- what is said of the name
abbrev pub told_sort : Specified → List ℕ → Sort
told_sort s name = valued (is_some (sort_named s.values name)) (sort_under s.sorts name)

-- what the parameter of that name is, by the definitions
abbrev pub parameter_in : Heading → List ℕ → Sort
parameter_in h name = parameter_by (class_in h.specs name) (is_named_in h.values name)

-- what is said of each name is what the heading says
abbrev pub SaysAll : Specified → Heading → Type 0
SaysAll s h = (name : List ℕ) → told_sort s name ≡ parameter_in h name
