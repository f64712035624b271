-- What the walk notes of statements, without what is in them.
use Rattle.std.specs.Prelude.{Bool, true, false, ℕ, List, [], ◌∷◌, Option, Some, None}
use Rattle.algol_tree.specs.declared.refusal.Code.TheVariants as codes
use Rattle.algol_tree.specs.declared.refusal.Fault.{Fault}
use Rattle.algol_tree.specs.declared.tree.Kind.TheVariants as kinds
use Rattle.algol_tree.specs.declared.tree.Named.{Named}
use Rattle.algol_tree.specs.Plain as tree
use Rattle.algol_tree.specs.Plain.{PExpr, PExprs, PVariable}
use Rattle.algol_tree.specs.Classes as class
use Rattle.algol_tree.specs.Classes.{Class}
use Rattle.algol_tree.specs.Types.{read_type, element_type}
use Rattle.algol_tree.specs.Surroundings.{Surroundings, class_of}
use Rattle.algol_tree.specs.Accepted.{noted_all}
use Rattle.algol_sites.specs.declared.wanted.Wanted.TheVariants as wanted
use Rattle.algol_sites.specs.Noting.{rule_broken, broken_if, mistyped, mistyped_for, mistyped_list}
use Rattle.algol_sites.specs.Wanting.{unfit}
use Rattle.algol_sites.specs.Expressing.{miscounted_subscripts, miscounted_actuals}

-- after a name without subscripts on the left, which can be assigned to or not
abbrev pub noted_name_side : Option Fault → Bool → Named → PExpr → Surroundings → Option Fault
noted_name_side first true n e a = noted_all first (mistyped_for (read_type (class_of a n)) e a)
noted_name_side first false n e a = noted_all first (rule_broken codes.NotAssignable (n.spot ∷ []))

-- after an element on the left
abbrev pub noted_element_side : Option Fault → Named → PExprs → ℕ → PExpr → Surroundings → Option Fault
noted_element_side first n es count e a =
    noted_all
    (noted_all (noted_all (noted_all first (unfit wanted.Array codes.WrongType n a)) (mistyped_list es a)) (mistyped_for (element_type (class_of a n)) e a))
    (miscounted_subscripts n count a)

-- after a left side and the type of its value
abbrev pub noted_left : Option Fault → (Class → Bool) → PVariable → ℕ → PExpr → Surroundings → Option Fault
noted_left first takes (tree.subscripted n tree.none) count e a = noted_name_side first (takes (class_of a n)) n e a
noted_left first takes (tree.subscripted n (tree.more x xs)) count e a = noted_element_side first n (tree.more x xs) count e a

abbrev pub unfit_task : Option Named → Surroundings → List Fault
unfit_task None a = []
unfit_task (Some n) a = unfit wanted.Task codes.WrongType n a

-- after a process that is called with so many actuals
abbrev pub noted_process : Option Fault → Named → Option Named → ℕ → Surroundings → Option Fault
noted_process first n task count a =
    noted_all (noted_all (noted_all first (unfit wanted.Untyped codes.WrongType n a)) (unfit_task task a)) (miscounted_actuals n count a)

abbrev pub is_truth : Class → Bool
is_truth (class.simple kinds.Truth) = true
is_truth _ = false

-- after the control variable of FOR, its first value, the step and the limit
abbrev pub noted_control : Option Fault → Named → PExpr → PExpr → PExpr → Surroundings → Option Fault
noted_control first v x s l a =
    noted_all
    (noted_all
    (noted_all (noted_all (noted_all first (broken_if codes.WrongType (is_truth (class_of a v)) v.spot)) (mistyped kinds.Number x a)) (mistyped kinds.Number s a))
    (mistyped kinds.Number l a))
    (unfit wanted.Simple codes.NotAssignable v a)
