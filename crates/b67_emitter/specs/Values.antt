-- What names mean, and what a call promises that appends the code of an expression, or of what an assignment stores through.
use Rattle.std.specs.Prelude.{◌≡◌, ℕ, ◌+◌, ◌<◌, ◌≤◌, Bool, true, false, Option, Some, None, List, map}
use Rattle.std.specs.List.{AllByRecursion}
use Rattle.std.specs.BTreeMap.{get}
use Rattle.algol_tree.specs.declared.TheConstants.{MOST_BLOCK_CELLS}
use Rattle.algol_tree.specs.declared.token.Spot.{Spot}
use Rattle.algol_tree.specs.declared.tree.Kind.{Kind}
use Rattle.algol_tree.specs.declared.tree.EventName.{EventName}
use Rattle.algol_tree.specs.declared.tree.Named.{Named}
use Rattle.algol_tree.specs.contracts.token.SpotOrd.TheImpl.{ghosts}
use Rattle.algol_tree.specs.Plain as tree
use Rattle.algol_tree.specs.Plain.{PExpr, PExprs, PCall, PVariable, name_alone}
use Rattle.algol_tree.specs.Blocks.{block_numbered}
use Rattle.algol_tree.specs.Cells.{first_spot}
use Rattle.algol_tree.specs.Scopes.{Scopes}
use Rattle.algol_frames.specs.declared.scopes.Couple as found
use Rattle.algol_frames.specs.declared.scopes.Declared.{Declared}
use Rattle.algol_frames.specs.Answers.{declaration_of, actual_of, result_couple_of, parameters_of}
use Rattle.algol_frames.specs.declared.scopes.Scopes as table
use Rattle.algol_meaning.specs.Settle.{sorts_of}
use Rattle.algol_sorts.specs.declared.sort.Sort.{Sort}
use Rattle.algol_sorts.specs.declared.sort.Sort.TheVariants as sorts
use Rattle.algol_sorts.specs.Sorts.{sort_is_by_name}
use Rattle.algol_paths.specs.Arrays as arrays
use Rattle.algol_paths.specs.Arrays.{Shape}
pub use Rattle.algol_lows.specs.Lows.{told_lows, lows_told}
use Rattle.b67_ops.specs.declared.Couple.{Couple}
use Rattle.b67_ops.specs.declared.Operator.TheVariants as ops
use Rattle.b67_ops.specs.declared.PlainKind.TheVariants as kinds
use Rattle.b67_ops.specs.declared.intrinsic.Intrinsic.{Intrinsic}
use Rattle.b67_segment.specs.Operators.{size}
use Rattle.b67_segment.specs.Building.{Built}
use Rattle.b67_templates.specs.Contexts.{Context}
use Rattle.b67_templates.specs.Fragments.{Has}
use Rattle.b67_templates.specs.Cells.{parameter_wants, IsArray}
use Rattle.b67_templates.specs.Code.{ExprAt, SubscriptsAt, PlaceAt, CallAt, ActualsAt, RoutineAt}
use Rattle.b67_templates.specs.Events.{names_of, OnEventsAt, TaskAt}
use Rattle.b67_templates.specs.Emitting.{Emitted, EmittedWithExits}
use Rattle.b67_templates.specs.Fitting.{Meant, a_variable, a_name, a_procedure, an_event, another, meant_is_event, Target, Told, on_left, PlaceFits, ExprFits, ProcedureFits, ActualsFit, ArrayFits, EventFits, TaskFits, SubscriptsFit}
use Rattle.b67_templates.specs.Paying.{modes_of, inline, inline_given}
use Rattle.b67_emitter.specs.declared.meanings.Given.{Given}
use Rattle.b67_emitter.specs.declared.names.Names.{Names}
use Rattle.b67_emitter.specs.declared.names.Target as kept

-- ---- couples

abbrev pub couple_found : Option found.Couple → Option Couple
couple_found None = None
couple_found (Some c) = Some (record { level = c.level; index = c.index })

abbrev pub couple_declared : Option Declared → Option Couple
couple_declared None = None
couple_declared (Some d) = couple_found d.couple

-- the couple of the name that stands there, none where it is no cell's
abbrev pub couples : Names → Spot → Option Couple
couples s spot = couple_declared (declaration_of s.scopes.now spot)

abbrev pub result_declared : table.Scopes → Option Declared → Option Couple
result_declared s None = None
result_declared s (Some d) = couple_found (result_couple_of s d.spot)

-- the couple of the result of the typed procedure that the name there means, none where it means none
abbrev pub results : Names → Spot → Option Couple
results s spot = result_declared s.scopes.now (declaration_of s.scopes.now spot)

abbrev pub lows_found : Names → Option Declared → Option arrays.Lows
lows_found s None = None
lows_found s (Some d) = lows_told (get ghosts.cmp s.lows d.spot)

-- the lower bounds of the array that the name there means, and whether it is a parameter; none where it means none
abbrev pub lows : Names → Spot → Option arrays.Lows
lows s spot = lows_found s (declaration_of s.scopes.now spot)

-- what is kept of a label
abbrev pub target_told : Option kept.Target → Option Target
target_told None = None
target_told (Some t) = Some (record { level = t.level; segment = t.segment; entry = t.entry })

abbrev pub labels_found : Names → Option Declared → Option Target
labels_found s None = None
labels_found s (Some d) = target_told (get ghosts.cmp s.labels d.spot)

-- where the label leads that the name there means; none where it means none
abbrev pub labels : Names → Spot → Option Target
labels s spot = labels_found s (declaration_of s.scopes.now spot)

-- ---- what is told of the names

-- what is declared as that sort, a procedure with parameters of these
abbrev pub meant_sorted : Option (List Sort) → Sort → Meant
meant_sorted ps (sorts.Variable kind) = a_variable
meant_sorted ps (sorts.ByName kind) = a_name
meant_sorted (Some ps) (sorts.Procedure kind) = a_procedure (map sort_is_by_name ps)
meant_sorted ps sorts.Event = an_event false
meant_sorted ps sorts.Task = an_event false
meant_sorted ps sorts.FormalEvent = an_event true
meant_sorted ps s = another

abbrev pub meant_declared : table.Scopes → Option Declared → Meant
meant_declared s None = another
meant_declared s (Some d) = meant_sorted (parameters_of s d.spot) d.sort

-- what the name that stands there is
abbrev pub meant : Names → Spot → Meant
meant s spot = meant_declared s.scopes.now (declaration_of s.scopes.now spot)

-- whether an event is a parameter; none of what is no event
abbrev pub meant_event_in : Meant → Option Bool
meant_event_in (an_event formal) = Some formal
meant_event_in _ = None

-- the couple of the actual that begins there, none where it has no cell
abbrev pub actuals : Names → Spot → Option Couple
actuals s spot = couple_found (actual_of s.scopes.now spot)

abbrev pub meanings : Names → Told
meanings s = record { couples = couples s; results = results s; lows = lows s; meant = meant s; labels = labels s; actuals = actuals s }

-- the couple of the name that stands there on the left of an assignment
abbrev pub lefts : Names → Spot → Option Couple
lefts s spot = on_left (meanings s) spot

-- Each cell lies among the first of its frame, as many as a block may have, after the frame's two words. And what has lower bounds is no
-- event.
pub record AreNear (s : Names) : Type 0 where
  pub own : (spot : Spot) (c : Couple) → couples s spot ≡ Some c → c.index < 2 + MOST_BLOCK_CELLS
  pub result : (spot : Spot) (c : Couple) → results s spot ≡ Some c → c.index < 2 + MOST_BLOCK_CELLS
  pub actual : (spot : Spot) (c : Couple) → actuals s spot ≡ Some c → c.index < 2 + MOST_BLOCK_CELLS
  pub apart : (spot : Spot) (l : arrays.Lows) → lows s spot ≡ Some l → meant_is_event (meant s spot) ≡ false

-- ---- what is given for a parameter by name

abbrev pub given_as : Bool → Option Couple → Option Given
given_as loads None = None
given_as loads (Some c) = Some (record { couple = c; loads = loads })

-- a variable's own couple, that of another parameter by name, or the actual's
abbrev pub given_alone : Meant → Option Couple → Option Couple → Option Given
given_alone a_variable own actual = given_as false own
given_alone a_name own actual = given_as true own
given_alone _ own actual = given_as false actual

abbrev pub given_named : Names → Option Named → Spot → Option Given
given_named s None first = given_as false (actuals s first)
given_named s (Some n) first = given_alone (meant s n.spot) (couples s n.spot) (actuals s first)

abbrev pub given : Names → PExpr → Option Given
given s e = given_named s (name_alone e) (first_spot e)

-- ---- expressions

-- the expression has code at that level: it fits there or in a block further out, in whatever program names have this meaning
pub record HasCode (s : Names) (level : ℕ) (e : PExpr) : Type 0 where
  pub scopes : Scopes
  pub own : ℕ
  pub block : ℕ
  pub kind : Kind
  pub outer : own ≤ level
  pub fits : ExprFits scopes (meanings s) own block kind e

-- From the first builder to the second the expression's code was appended, and the value stands at the place after it.
pub record ValueEmitted (s : Names) (level : ℕ) (before after : Built) (e : PExpr) : Type 0 where
  pub code :
      (scopes : Scopes) (context : Context) (kind : Kind) → ExprFits scopes (meanings s) context.level context.block kind e →
      Emitted before after (λ qs. ExprAt scopes context qs level kind e (size before.operators) (size after.operators) (size after.operators))

-- The same, but that the branches out of it are exits.
pub record ValueWithExits (s : Names) (level : ℕ) (before after : Built) (exits_before exits_after : List ℕ) (e : PExpr) : Type 0 where
  pub code :
      (scopes : Scopes) (context : Context) (kind : Kind) → ExprFits scopes (meanings s) context.level context.block kind e →
      EmittedWithExits before after exits_before exits_after
      (λ qs target. ExprAt scopes context qs level kind e (size before.operators) (size after.operators) target)

-- ---- calls

-- the call has code at that level: the procedure's name and the actuals fit there or further out, in whatever program names have this meaning
pub record HasCall (s : Names) (level : ℕ) (c : PCall) : Type 0 where
  pub scopes : Scopes
  pub own : ℕ
  pub block : ℕ
  pub name : Named
  pub actuals : PExprs
  pub callee : ℕ
  pub call_is : c ≡ tree.called name actuals
  pub outer : own ≤ level
  pub procedure : ProcedureFits scopes (meanings s) own name callee
  pub fits :
      ActualsFit scopes (meanings s) own block (sorts_of ((block_numbered scopes.blocks callee).parameters)) (parameter_wants scopes callee) actuals

-- From the first builder to the second the call's code was appended, the actuals and the entry with it.
pub record CallEmitted (s : Names) (level : ℕ) (before after : Built) (c : PCall) : Type 0 where
  pub code :
      (scopes : Scopes) (context : Context) (n : Named) (es : PExprs) (callee : ℕ) → c ≡ tree.called n es →
      ProcedureFits scopes (meanings s) context.level n callee →
      ActualsFit scopes (meanings s) context.level context.block (sorts_of ((block_numbered scopes.blocks callee).parameters)) (parameter_wants scopes callee) es →
      Emitted before after (λ qs. CallAt scopes context qs level n callee
      (ActualsAt scopes context qs level (sorts_of ((block_numbered scopes.blocks callee).parameters)) (parameter_wants scopes callee) es)
      (size before.operators) (size after.operators))

-- From the first builder to the second the actuals were appended, and the entry.
pub record FilledEmitted (s : Names) (level : ℕ) (before after : Built) (c : PCall) : Type 0 where
  pub code :
      (scopes : Scopes) (context : Context) (n : Named) (es : PExprs) (callee : ℕ) → c ≡ tree.called n es →
      ProcedureFits scopes (meanings s) context.level n callee →
      ActualsFit scopes (meanings s) context.level context.block (sorts_of ((block_numbered scopes.blocks callee).parameters)) (parameter_wants scopes callee) es →
      Emitted before after (λ qs. (filled : ℕ)
      × ActualsAt scopes context qs level (sorts_of ((block_numbered scopes.blocks callee).parameters)) (parameter_wants scopes callee) es (size before.operators) filled
      × Has qs level filled (ops.Plain kinds.Entr) (size after.operators))

-- how many syllables that is at most
abbrev pub filled_syllables : Names → PCall → ℕ
filled_syllables s (tree.called n es) = inline_given (meanings s) (modes_of (meant s n.spot)) es + 1

-- ---- events

-- an intrinsic on the events has code at that level: each name fits there or further out, in whatever program names have these meanings
pub record HasEvents (s : Names) (level : ℕ) (es : List EventName) : Type 0 where
  pub scopes : Scopes
  pub own : ℕ
  pub outer : own ≤ level
  pub fits : AllByRecursion (EventFits scopes (meanings s) own) (names_of es)

-- From the first builder to the second the code of the intrinsic on the events was appended.
pub record EventsEmitted (s : Names) (level : ℕ) (before after : Built) (name : Intrinsic) (es : List EventName) : Type 0 where
  pub code :
      (scopes : Scopes) (context : Context) → AllByRecursion (EventFits scopes (meanings s) context.level) (names_of es) →
      Emitted before after (λ qs. OnEventsAt scopes context qs level name (names_of es) (size before.operators) (size after.operators))

-- the task of a process has code at that level, where it has one: the name fits there or further out
pub record HasTask (s : Names) (level : ℕ) (task : Option Named) : Type 0 where
  pub scopes : Scopes
  pub own : ℕ
  pub outer : own ≤ level
  pub fits : TaskFits scopes (meanings s) own task

-- From the first builder to the second the task's reference was appended, or 0.
pub record TaskEmitted (s : Names) (level : ℕ) (before after : Built) (task : Option Named) : Type 0 where
  pub code :
      (scopes : Scopes) (context : Context) → TaskFits scopes (meanings s) context.level task →
      Emitted before after (λ qs. TaskAt scopes context qs level task (size before.operators) (size after.operators))

-- ---- the code of actuals

-- From the first builder to the second the code of the actual was appended, its RETN with it.
pub record RoutineEmitted (s : Names) (level : ℕ) (before after : Built) (e : PExpr) : Type 0 where
  pub code :
      (scopes : Scopes) (context : Context) (kind : Kind) → ExprFits scopes (meanings s) context.level context.block kind e →
      Emitted before after (λ qs. RoutineAt scopes context qs level (record { expr = e; kind = kind }) (size before.operators))

-- ---- what an assignment stores through

-- an element of an array: each subscript fits
abbrev pub ElementFits : Names → Scopes → ℕ → ℕ → Named → Shape → PExprs → Type 0
ElementFits s scopes level block n shape es = ArrayFits scopes (meanings s) level n shape × SubscriptsFit scopes (meanings s) level block shape.lows es

-- at that level or further out, a name by itself that has a cell on the left of an assignment, or an element
pub data HasReference (s : Names) (level : ℕ) (v : PVariable) : Type 0 where
  alone :
      (scopes : Scopes) (own : ℕ) (kind : Kind) (name : Named) → own ≤ level → v ≡ tree.subscripted name tree.none →
      PlaceFits scopes (meanings s) own kind name → HasReference s level v
  element :
      (scopes : Scopes) (own block : ℕ) (name : Named) (shape : Shape) (es : PExprs) → own ≤ level → v ≡ tree.subscripted name es →
      ElementFits s scopes own block name shape es → HasReference s level v

-- From the first builder to the second the variable's reference was appended, or that of the parameter and EVAL, or the descriptor of the
-- element.
pub record ReferenceEmitted (s : Names) (level : ℕ) (before after : Built) (v : PVariable) : Type 0 where
  pub alone :
      (scopes : Scopes) (context : Context) (kind : Kind) (name : Named) → v ≡ tree.subscripted name tree.none →
      PlaceFits scopes (meanings s) context.level kind name →
      Emitted before after (λ qs. PlaceAt scopes context qs level name kind (size before.operators) (size after.operators))
  pub element :
      (scopes : Scopes) (context : Context) (name : Named) (shape : Shape) (es : PExprs) → v ≡ tree.subscripted name es →
      ElementFits s scopes context.level context.block name shape es →
      Emitted before after (λ qs. (c : Couple) × (m : ℕ) × IsArray scopes context.level name shape c
      × SubscriptsAt scopes context qs level c shape.lows es (size before.operators) m
      × Has qs level m (ops.Plain kinds.Indx) (size after.operators))

-- how many syllables that is at most
abbrev pub place_syllables : Names → PVariable → ℕ
place_syllables s (tree.subscripted n tree.none) = 3
place_syllables s (tree.subscripted n (tree.more e es)) = inline (meanings s) (tree.variable (tree.subscripted n (tree.more e es)))
