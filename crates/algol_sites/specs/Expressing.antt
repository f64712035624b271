-- The faults of names, of variables and of actuals, as the walk finds them.
use Rattle.std.specs.Prelude.{◌==◌, ◌&&◌, not, Bool, false, ℕ, List, [], ◌∷◌, is_some, length, Option, Some, None}
use Rattle.algol_tree.specs.declared.refusal.Code.TheVariants as codes
use Rattle.algol_tree.specs.declared.refusal.Fault.{Fault}
use Rattle.algol_tree.specs.declared.tree.Named.{Named}
use Rattle.algol_tree.specs.Plain.{PExpr, PExprs, name_alone}
use Rattle.algol_tree.specs.Classes as class
use Rattle.algol_tree.specs.Classes.{Class}
use Rattle.algol_tree.specs.Cells.{first_spot}
use Rattle.algol_tree.specs.Surroundings.{Surroundings, class_of}
use Rattle.algol_tree.specs.Accepted.{noted_all}
use Rattle.algol_tree.specs.Sites as site
use Rattle.algol_tree.specs.Sites.{Site}
use Rattle.algol_sorts.specs.declared.sort.Sort.{Sort}
use Rattle.algol_sites.specs.declared.wanted.Wanted.{Wanted}
use Rattle.algol_sites.specs.declared.wanted.Wanted.TheVariants as wanted
use Rattle.algol_sites.specs.Noting.{rule_broken, broken_if, noted_at, mistyped_list}
use Rattle.algol_sites.specs.Wanting.{is_met, unfit}
use Rattle.algol_sites.specs.Seen.{class_seen, formal_for, value_of}

abbrev pub takes_others : Class → ℕ → Bool
takes_others (class.procedure h) count = not (length h.params == count)
takes_others _ count = false

abbrev pub has_others : Class → ℕ → Bool
has_others (class.array kind subscripts) count = not (subscripts == count)
has_others _ count = false

-- a procedure that takes another number of actuals
abbrev pub miscounted_actuals : Named → ℕ → Surroundings → List Fault
miscounted_actuals n count a = broken_if codes.WrongCount (takes_others (class_of a n) count) n.spot

-- an array that has another number of subscripts
abbrev pub miscounted_subscripts : Named → ℕ → Surroundings → List Fault
miscounted_subscripts n count a = broken_if codes.WrongCount (has_others (class_of a n) count) n.spot

-- after a name by itself that is read
abbrev pub noted_name : Option Fault → Named → Surroundings → Option Fault
noted_name first n a =
    noted_all (noted_all first (unfit wanted.Read codes.WrongType n a))
    (broken_if codes.WrongCount (is_met wanted.Function (class_of a n) && takes_others (class_of a n) 0) n.spot)

-- after an array's name with its subscripts
abbrev pub noted_element : Option Fault → Named → PExprs → ℕ → Surroundings → Option Fault
noted_element first n es count a =
    noted_all (noted_all (noted_all first (unfit wanted.Array codes.WrongType n a)) (mistyped_list es a)) (miscounted_subscripts n count a)

-- after what an expression breaks itself, without what is in it
abbrev pub noted_here : Option Fault → PExpr → Surroundings → Option Fault
noted_here first e a = noted_at [] first (record { part = site.expression e; around = a })

-- something else than the name by itself of what is wanted
abbrev pub misplaced_by : Option Named → Wanted → PExpr → Surroundings → List Fault
misplaced_by (Some n) w e a = unfit w codes.WrongType n a
misplaced_by None w e a = rule_broken codes.WrongType (first_spot e ∷ [])

abbrev pub misplaced : Wanted → PExpr → Surroundings → List Fault
misplaced w e a = misplaced_by (name_alone e) w e a

abbrev pub misplaced_if : Option Wanted → PExpr → Surroundings → List Fault
misplaced_if None e a = []
misplaced_if (Some w) e a = misplaced w e a

abbrev reference_by : Class → Option Wanted
reference_by (class.array kind subscripts) = Some (wanted.SuchArray kind subscripts)
reference_by class.event = Some wanted.Event
reference_by _ = None

-- what is wanted of the name that has to be the actual for such a parameter
abbrev pub reference_of : Option Sort → Option Wanted
reference_of None = None
reference_of (Some s) = reference_by (class_seen s)

-- after what an actual breaks for its parameter
abbrev pub noted_actual : Option Fault → PExpr → Option Sort → Surroundings → Option Fault
noted_actual first e f a = noted_at [] first (record { part = site.actual e (formal_for f); around = a })

-- a name by itself that no value is wanted of
abbrev pub is_alone : PExpr → Option Sort → Bool
is_alone e f = is_some (name_alone e) && not (is_some (value_of f))

-- after what a call breaks itself
abbrev pub noted_call : Option Fault → Wanted → Named → ℕ → Surroundings → Option Fault
noted_call first w n count a = noted_all (noted_all first (unfit w codes.WrongType n a)) (miscounted_actuals n count a)
