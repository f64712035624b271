-- What the scopes tell of a name, in the words of the rules.
use Rattle.std.specs.Prelude.{ℕ, ◌==◌, not, Bool, false, List, [], map, Option, Some, None}
use Rattle.algol_tree.specs.declared.token.Spot.{Spot}
use Rattle.algol_tree.specs.declared.tree.Kind.{Kind}
use Rattle.algol_tree.specs.declared.tree.Heading.{Heading}
use Rattle.algol_tree.specs.Classes as rules
use Rattle.algol_sorts.specs.declared.sort.Sort.{Sort}
use Rattle.algol_sorts.specs.declared.sort.Sort.TheVariants as sort
use Rattle.algol_frames.specs.declared.scopes.Declared.{Declared}
use Rattle.algol_frames.specs.declared.scopes.Scopes.{Scopes}
use Rattle.algol_frames.specs.Answers.{declaration_of, parameters_of}

-- a heading of which only the type of the result is known
abbrev pub headed : Option Kind → Heading
headed kind =
    record { kind = kind; name = record { name = []; spot = record { line = 0; column = 0 } }; params = []; values = []; specs = [] }

-- What is declared as this, as the rules have it. Of a procedure only the type of its result is told: the rules of types and of
-- assignments ask nothing else of it by itself.
abbrev pub class_seen : Sort → rules.Class
class_seen (sort.Variable kind) = rules.simple kind
class_seen (sort.ByName kind) = rules.simple kind
class_seen (sort.Array kind subscripts) = rules.array kind subscripts
class_seen (sort.FormalArray kind subscripts) = rules.array kind subscripts
class_seen sort.Event = rules.event
class_seen sort.Task = rules.task
class_seen sort.FormalEvent = rules.event
class_seen sort.Label = rules.label
class_seen sort.File = rules.file
class_seen (sort.Procedure kind) = rules.procedure (headed kind)
class_seen sort.Unspecified = rules.unknown

-- ---- what is told under a place

abbrev pub sort_or : Option Declared → Sort
sort_or None = sort.Unspecified
sort_or (Some d) = d.sort

abbrev pub sort_there : Scopes → Spot → Sort
sort_there s spot = sort_or (declaration_of s spot)

abbrev pub spot_or : Spot → Option Declared → Spot
spot_or spot None = spot
spot_or spot (Some d) = d.spot

-- where it is declared
abbrev pub spot_there : Scopes → Spot → Spot
spot_there s spot = spot_or spot (declaration_of s spot)

abbrev pub sorts_or : Option (List Sort) → List Sort
sorts_or None = []
sorts_or (Some sorts) = sorts

-- of a procedure these, and of all else none
abbrev pub of_procedure : Sort → List Sort → List Sort
of_procedure (sort.Procedure kind) sorts = sorts
of_procedure _ sorts = []

-- what the parameters of the procedure are declared as
abbrev pub parameters_there : Scopes → Spot → List Sort
parameters_there s spot = of_procedure (sort_there s spot) (sorts_or (parameters_of s (spot_there s spot)))

-- ---- counts

-- a procedure with so many parameters takes another number of actuals
abbrev pub others_taken : Sort → ℕ → ℕ → Bool
others_taken (sort.Procedure kind) parameters count = not (parameters == count)
others_taken _ parameters count = false

-- ---- parameters

abbrev pub classes_of : List rules.Formal → List rules.Class
classes_of fs = map (λ (f : rules.Formal). f.class) fs

-- a parameter as the rules have it; whether it is by value makes no difference to them
abbrev pub formal_as : Sort → rules.Formal
formal_as s = record { class = class_seen s; by_value = false }

-- a parameter for an actual, where there is one
abbrev pub formal_for : Option Sort → Option rules.Formal
formal_for None = None
formal_for (Some s) = Some (formal_as s)

abbrev value_by : rules.Class → Option Kind
value_by (rules.simple kind) = Some kind
value_by _ = None

-- the type of the value that is wanted of an actual for it
abbrev pub value_of : Option Sort → Option Kind
value_of None = None
value_of (Some s) = value_by (class_seen s)
