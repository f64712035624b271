-- The rules of types and assignments. Each is the list of places at which a tree breaks it. A name of which nothing is known breaks
-- none of them.
use Rattle.std.specs.Prelude.{ℕ, ◌==◌, ◌&&◌, ◌||◌, if◌then◌else◌, not, Bool, true, false, List, [], ◌∷◌, ◌++◌, is_some, Option, Some, None}
use Rattle.std.specs.List.{flat_map, list_any}
use Rattle.algol_tree.specs.declared.token.Spot.{Spot}
use Rattle.algol_tree.specs.declared.tree.Named.{Named}
use Rattle.algol_tree.specs.declared.tree.Kind.{Kind}
use Rattle.algol_tree.specs.declared.tree.Kind.TheVariants as types
use Rattle.algol_tree.specs.declared.tree.EventName.{EventName}
use Rattle.algol_tree.specs.declared.tree.Heading.{Heading}
use Rattle.algol_tree.specs.Plain as tree
use Rattle.algol_tree.specs.Plain.{PExpr, PExprs, PPair, PStmt, PDecl, PDecls, name_alone}
use Rattle.algol_tree.specs.Classes as class
use Rattle.algol_tree.specs.Classes.{Class, Formal, same_kind, is_simple, is_array, is_event, is_task, is_label, is_file, is_procedure, is_unspecified}
use Rattle.algol_tree.specs.Sorts.{class_in}
use Rattle.algol_tree.specs.Blocks.{Block, number_at, around}
use Rattle.algol_tree.specs.Surroundings.{Surroundings, class_of, body_of}
use Rattle.algol_tree.specs.Sites as site
use Rattle.algol_tree.specs.Sites.{Part, Site}
use Rattle.algol_tree.specs.Cells.{first_spot}
use Rattle.algol_tree.specs.Types.{taken_by, read_type, element_type, type_of}
use Rattle.algol_tree.specs.Names.{if_so}
use Rattle.algol_tree.specs.Forwards.{same_heading}

-- ---- wrong types: an expression where another type is wanted, at its first token

abbrev differs : Kind → Option Kind → Bool
differs k None = false
differs k (Some m) = not (same_kind k m)

-- `wrong k e a`: k is wanted of e
abbrev wrong : Kind → PExpr → Surroundings → List Spot
wrong k e a = if_so (differs k (type_of e a)) (first_spot e)

-- the same where what is wanted may itself be unknown
abbrev wrong_for : Option Kind → PExpr → Surroundings → List Spot
wrong_for None e a = []
wrong_for (Some k) e a = wrong k e a

abbrev wrong_list : Kind → PExprs → Surroundings → List Spot
wrong_list k tree.none a = []
wrong_list k (tree.more e es) a = wrong k e a ++ wrong_list k es a

-- ---- names of the wrong kind, at the name

-- the name is known and the test says no
abbrev wrong_name : (Class → Bool) → Named → Surroundings → List Spot
wrong_name test n a = if_so (not (test (class_of a n)) && not (is_unspecified (class_of a n))) n.spot

abbrev is_read : Class → Bool
is_read c = is_some (read_type c)

-- a typed procedure, as a function; an untyped one, as a process
abbrev pub is_function : Class → Bool
is_function c = is_procedure c && is_read c

abbrev is_untyped : Class → Bool
is_untyped c = is_procedure c && not (is_read c)

abbrev wrong_event : EventName → Surroundings → List Spot
wrong_event e a = if e.task then wrong_name is_task e.name a else wrong_name is_event e.name a

abbrev pub wrong_in_expr : PExpr → Surroundings → List Spot
wrong_in_expr (tree.variable (tree.subscripted n tree.none)) a = wrong_name is_read n a
wrong_in_expr (tree.variable (tree.subscripted n (tree.more e es))) a = wrong_name is_array n a ++ wrong_list types.Number (tree.more e es) a
wrong_in_expr (tree.call (tree.called n es)) a = wrong_name is_function n a
wrong_in_expr (tree.tested test es spot) a = flat_map (λ (e : EventName). wrong_event e a) es
wrong_in_expr (tree.plus e spot) a = wrong types.Number e a
wrong_in_expr (tree.neg e spot) a = wrong types.Number e a
wrong_in_expr (tree.not e spot) a = wrong types.Truth e a
wrong_in_expr (tree.two op x y) a = wrong (taken_by op) x a ++ wrong (taken_by op) y a
wrong_in_expr (tree.if c x y spot) a = wrong types.Truth c a ++ wrong_for (type_of x a) y a
wrong_in_expr (tree.number z spot) a = []
wrong_in_expr (tree.truth b spot) a = []
wrong_in_expr (tree.paren e spot) a = []

-- ---- actuals: a value for a simple parameter; for an array or an event parameter the name of one, an array with elements of that
-- kind and as many subscripts

abbrev is_such_array : Kind → ℕ → Class → Bool
is_such_array k subscripts (class.array m count) = same_kind k m && (count == subscripts)
is_such_array k subscripts _ = false

abbrev wrong_reference_by : Option Named → (Class → Bool) → PExpr → Surroundings → List Spot
wrong_reference_by (Some n) test e a = wrong_name test n a
wrong_reference_by None test e a = first_spot e ∷ []

abbrev wrong_reference : (Class → Bool) → PExpr → Surroundings → List Spot
wrong_reference test e a = wrong_reference_by (name_alone e) test e a

abbrev wrong_actual_for : Class → PExpr → Surroundings → List Spot
wrong_actual_for (class.simple k) e a = wrong k e a
wrong_actual_for (class.array k subscripts) e a = wrong_reference (is_such_array k subscripts) e a
wrong_actual_for class.event e a = wrong_reference is_event e a
wrong_actual_for _ e a = []

abbrev pub wrong_actual : Option Formal → PExpr → Surroundings → List Spot
wrong_actual None e a = []
wrong_actual (Some f) e a = wrong_actual_for f.class e a

-- ---- headings: a parameter without a specification, an array or an event in VALUE, and a heading that differs from its FORWARD, at the
-- name of the one with the body

abbrev is_reference : Class → Bool
is_reference c = is_array c || is_event c

abbrev wrong_in_heading : Heading → List Spot
wrong_in_heading h =
    flat_map (λ (n : Named). if_so (is_unspecified (class_in h.specs n.name)) n.spot) h.params ++
    flat_map (λ (n : Named). if_so (is_reference (class_in h.specs n.name)) n.spot) h.values

abbrev wrong_body : Heading → Option Heading → List Spot
wrong_body h None = []
wrong_body h (Some g) = if_so (not (same_heading h g)) g.name.spot

abbrev pub wrong_in_decl : PDecl → PDecls → Surroundings → List Spot
wrong_in_decl (tree.forward h) later a = wrong_in_heading h ++ wrong_body h (body_of h.name.name later)
wrong_in_decl (tree.procedure h s) later a = wrong_in_heading h
wrong_in_decl (tree.simple kind ns) later a = []
wrong_in_decl (tree.files ns) later a = []
wrong_in_decl (tree.events ns) later a = []
wrong_in_decl (tree.tasks ns) later a = []
wrong_in_decl (tree.labels ns) later a = []
wrong_in_decl (tree.arrays kind ns pairs) later a = []

abbrev wrong_control : Class → Named → List Spot
wrong_control (class.simple types.Truth) v = v.spot ∷ []
wrong_control _ v = []

abbrev wrong_task : Option Named → Surroundings → List Spot
wrong_task None a = []
wrong_task (Some n) a = wrong_name is_task n a

-- ---- assignments: a left name without subscripts that is no simple variable, no simple parameter and not the typed procedure
-- around it, and a control variable that is none of the first two

module _ (blocks : List Block) where
  -- the place is inside the procedure
  abbrev is_around : Heading → Surroundings → Bool
  is_around h a = list_any (λ (i : ℕ). i == number_at blocks h.name.spot) (a.block ∷ around blocks a.block)

  abbrev is_assignable : Class → Surroundings → Bool
  is_assignable (class.simple k) a = true
  is_assignable (class.procedure h) a = is_some h.kind && is_around h a
  is_assignable class.unknown a = true
  is_assignable _ a = false

  abbrev left_type : Named → Surroundings → Option Kind
  left_type n a = if is_assignable (class_of a n) a then read_type (class_of a n) else None

  abbrev pub wrong_in_stmt : PStmt → Surroundings → List Spot
  wrong_in_stmt (tree.label n s) a = wrong_name is_label n a
  wrong_in_stmt (tree.assign (tree.subscripted n tree.none) e) a = wrong_for (left_type n a) e a
  wrong_in_stmt (tree.assign (tree.subscripted n (tree.more e es)) v) a =
      wrong_name is_array n a ++ wrong_list types.Number (tree.more e es) a ++ wrong_for (element_type (class_of a n)) v a
  wrong_in_stmt (tree.call_of (tree.called n es)) a = wrong_name is_procedure n a
  wrong_in_stmt (tree.go_to n) a = wrong_name is_label n a
  wrong_in_stmt (tree.if_then c x) a = wrong types.Truth c a
  wrong_in_stmt (tree.if_else c x y) a = wrong types.Truth c a
  wrong_in_stmt (tree.while c b) a = wrong types.Truth c a
  wrong_in_stmt (tree.until b c) a = wrong types.Truth c a
  wrong_in_stmt (tree.for v x s l b) a = wrong_control (class_of a v) v ++ wrong types.Number x a ++ wrong types.Number s a ++ wrong types.Number l a
  wrong_in_stmt (tree.thru e b) a = wrong types.Number e a
  wrong_in_stmt (tree.case e ss) a = wrong types.Number e a
  wrong_in_stmt (tree.process (tree.called n es) task) a = wrong_name is_untyped n a ++ wrong_task task a
  wrong_in_stmt (tree.event act e) a = wrong_event e a
  wrong_in_stmt (tree.write n spot phrases es) a = wrong_name is_file n a ++ wrong_list types.Number es a
  wrong_in_stmt tree.empty a = []
  wrong_in_stmt (tree.block b) a = []

  abbrev pub wrong_in_part : Part → Surroundings → List Spot
  wrong_in_part (site.name n) a = []
  wrong_in_part (site.expression e) a = wrong_in_expr e a
  wrong_in_part (site.actual e f) a = wrong_actual f e a
  wrong_in_part (site.bound e) a = wrong types.Number e a
  wrong_in_part (site.statement s listed) a = wrong_in_stmt s a
  wrong_in_part (site.declaration d later) a = wrong_in_decl d later a

  abbrev pub wrong_types : Site → List Spot
  wrong_types x = wrong_in_part x.part x.around

  abbrev pub not_assignable_in : PStmt → Surroundings → List Spot
  not_assignable_in (tree.assign (tree.subscripted n tree.none) e) a = if_so (not (is_assignable (class_of a n) a)) n.spot
  not_assignable_in (tree.assign (tree.subscripted n (tree.more e es)) v) a = []
  not_assignable_in (tree.for v x s l b) a = wrong_name is_simple v a
  not_assignable_in tree.empty a = []
  not_assignable_in (tree.label n s) a = []
  not_assignable_in (tree.call_of c) a = []
  not_assignable_in (tree.go_to n) a = []
  not_assignable_in (tree.block b) a = []
  not_assignable_in (tree.if_then c x) a = []
  not_assignable_in (tree.if_else c x y) a = []
  not_assignable_in (tree.while c b) a = []
  not_assignable_in (tree.until b c) a = []
  not_assignable_in (tree.thru e b) a = []
  not_assignable_in (tree.case e ss) a = []
  not_assignable_in (tree.process c task) a = []
  not_assignable_in (tree.event act e) a = []
  not_assignable_in (tree.write n spot phrases es) a = []

  abbrev pub not_assignable_part : Part → Surroundings → List Spot
  not_assignable_part (site.statement s listed) a = not_assignable_in s a
  not_assignable_part _ a = []

  abbrev pub not_assignable : Site → List Spot
  not_assignable x = not_assignable_part x.part x.around
