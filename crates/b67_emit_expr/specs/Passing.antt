-- The actuals of a call: values, arrays and events by their names, and what is given by name.
use Rattle.std.specs.Prelude.{◌≡◌, ℕ, ◌≤◌, if◌then◌else◌, Bool, true, false, List, Option, Some, None, is_some}
use Rattle.algol_tree.specs.declared.tree.Named.{Named}
use Rattle.algol_tree.specs.Plain as tree
use Rattle.algol_tree.specs.Plain.{PExpr, name_alone}
use Rattle.algol_tree.specs.Scopes.{Scopes}
use Rattle.algol_paths.specs.Arrays.{Lows, Shape}
use Rattle.b67_ops.specs.declared.PlainKind.{PlainKind}
use Rattle.b67_ops.specs.declared.PlainKind.TheVariants as kinds
use Rattle.b67_segment.specs.Operators.{Placed, size}
use Rattle.b67_segment.specs.Building.{Built}
use Rattle.b67_templates.specs.Contexts.{Context}
use Rattle.b67_templates.specs.Cells as wants
use Rattle.b67_templates.specs.Cells.{Wanted, ShapeAgrees}
use Rattle.b67_templates.specs.Code.{ExprAt, ArrayActualAt, NameActualAt}
use Rattle.b67_templates.specs.Events.{EventActualAt}
use Rattle.b67_templates.specs.Emitting.{Emitted}
use Rattle.b67_templates.specs.Fitting.{wanted_by_name, ArrayFits, EventFits, NameActualFits, ExprFits}
use Rattle.b67_emitter.specs.declared.names.Names.{Names}
use Rattle.b67_emitter.specs.Values.{lows, meant, meanings, meant_event_in}

-- ---- the name by itself of an array or of an event

abbrev pub formal_in : Option Lows → Option Bool
formal_in None = None
formal_in (Some l) = Some l.formal

-- an event is told first, an array by its lower bounds
abbrev pub passed_as : Option Bool → Option Lows → Option Bool
passed_as (Some formal) l = Some formal
passed_as None l = formal_in l

-- whether the array or the event that the name means is a parameter; none where it means neither
abbrev pub passed : Names → Named → Option Bool
passed s n = passed_as (meant_event_in (meant s n.spot)) (lows s n.spot)

abbrev pub if_passed : Names → Option Named → Option Named
if_passed s None = None
if_passed s (Some n) = if is_some (passed s n) then Some n else None

-- the name of the array or of the event that an expression is, none where it is not the name by itself of one
abbrev pub passed_alone : Names → PExpr → Option Named
passed_alone s e = if_passed s (name_alone e)

-- ---- an actual

-- It is what is wanted: a value of that kind, the name of an array that agrees with that shape, that of an event, or what is given for a
-- parameter by name of that kind, which has a value too.
abbrev pub ActualFits : Names → Scopes → ℕ → ℕ → Wanted → PExpr → Type 0
ActualFits s scopes level block (wants.value kind) e = ExprFits scopes (meanings s) level block kind e
ActualFits s scopes level block (wants.array shape) e =
    (n : Named) × (e ≡ tree.variable (tree.subscripted n tree.none))
    × ((a : Shape) × ArrayFits scopes (meanings s) level n a × ShapeAgrees shape a)
ActualFits s scopes level block (wants.by_name kind) e = NameActualFits scopes (meanings s) level block kind e × ExprFits scopes (meanings s) level block kind e
ActualFits s scopes level block wants.event e = (n : Named) × (e ≡ tree.variable (tree.subscripted n tree.none)) × EventFits scopes (meanings s) level n
ActualFits s scopes level block wants.other e = ⊥

-- where its code stands
abbrev pub ActualAt : Scopes → Context → List Placed → ℕ → Wanted → PExpr → ℕ → ℕ → Type 0
ActualAt scopes context ps level (wants.value kind) e f t = ExprAt scopes context ps level kind e f t t
ActualAt scopes context ps level (wants.array shape) e f t =
    (n : Named) × (e ≡ tree.variable (tree.subscripted n tree.none)) × ArrayActualAt scopes context ps level shape n f t
ActualAt scopes context ps level (wants.by_name kind) e f t = NameActualAt scopes context ps level kind e f t
ActualAt scopes context ps level wants.event e f t =
    (n : Named) × (e ≡ tree.variable (tree.subscripted n tree.none)) × EventActualAt scopes context ps level n f t
ActualAt scopes context ps level wants.other e f t = ⊥

-- the actual has code at that level: it is what is wanted there or further out, by name or not, in whatever program names have this meaning
pub record HasActual (s : Names) (level : ℕ) (by_name : Bool) (e : PExpr) : Type 0 where
  pub scopes : Scopes
  pub own : ℕ
  pub block : ℕ
  pub wanted : Wanted
  pub mode : wanted_by_name wanted ≡ by_name
  pub outer : own ≤ level
  pub fits : ActualFits s scopes own block wanted e

-- From the first builder to the second the actual's code was appended.
pub record ActualEmitted (s : Names) (level : ℕ) (before after : Built) (by_name : Bool) (e : PExpr) : Type 0 where
  pub code :
      (scopes : Scopes) (context : Context) (wanted : Wanted) → wanted_by_name wanted ≡ by_name → ActualFits s scopes context.level context.block wanted e →
      Emitted before after (λ qs. ActualAt scopes context qs level wanted e (size before.operators) (size after.operators))

-- what makes the reference of a cell one that is read alike everywhere: where the cell has such a reference, that is loaded
abbrev pub reaching : Bool → PlainKind
reaching true = kinds.Lodt
reaching false = kinds.Stff
