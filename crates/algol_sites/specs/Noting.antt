-- The faults that the rules have for a part of a tree, and which of them is the first.
use Rattle.std.specs.Prelude.{Bool, false, not, List, [], ◌∷◌, ◌++◌, map, Option, Some, None}
use Rattle.algol_tree.specs.declared.token.Spot.{Spot}
use Rattle.algol_tree.specs.declared.refusal.Code.{Code}
use Rattle.algol_tree.specs.declared.refusal.Code.TheVariants as codes
use Rattle.algol_tree.specs.declared.refusal.Fault.{Fault}
use Rattle.algol_tree.specs.declared.tree.Kind.{Kind}
use Rattle.algol_tree.specs.declared.tree.Kind.TheVariants as kinds
use Rattle.algol_tree.specs.Plain as tree
use Rattle.algol_tree.specs.Plain.{PExpr, PExprs}
use Rattle.algol_tree.specs.Classes.{Class, same_kind}
use Rattle.algol_tree.specs.Surroundings.{Surroundings}
use Rattle.algol_tree.specs.Cells.{first_spot}
use Rattle.algol_tree.specs.Types.{element_type, read_type, type_of}
use Rattle.algol_tree.specs.Names.{if_so}
use Rattle.algol_tree.specs.Blocks.{Block}
use Rattle.algol_tree.specs.Sites.{Site}
use Rattle.algol_tree.specs.Checks.{wrong_types, not_assignable}
use Rattle.algol_tree.specs.Counted.{wrong_counts, bad_lists, wide_lines}
use Rattle.algol_tree.specs.Accepted.{noted_all}

abbrev pub rule_broken : Code → List Spot → List Fault
rule_broken code spots = map (λ (spot : Spot). record { spot = spot; code = code }) spots

-- a fault where the answer is yes
abbrev pub broken_if : Code → Bool → Spot → List Fault
broken_if code answer spot = rule_broken code (if_so answer spot)

-- The first fault after those of one part were noted too, but for labels.
abbrev pub noted_at : List Block → Option Fault → Site → Option Fault
noted_at blocks first x =
    noted_all
    (noted_all
    (noted_all
    (noted_all (noted_all first (rule_broken codes.WrongType (wrong_types blocks x))) (rule_broken codes.WrongCount (wrong_counts x)))
    (rule_broken codes.NotAssignable (not_assignable blocks x)))
    (rule_broken codes.WriteList (bad_lists x)))
    (rule_broken codes.LineTooWide (wide_lines x))

-- the same for many parts, one after the other
abbrev pub noted_along : List Block → Option Fault → List Site → Option Fault
noted_along blocks first [] = first
noted_along blocks first (x ∷ xs) = noted_along blocks (noted_at blocks first x) xs

-- the same for parts of expressions, for which blocks make no difference
abbrev pub noted_in : Option Fault → List Site → Option Fault
noted_in first xs = noted_along [] first xs

-- ---- an expression of another type than the one that is wanted

abbrev pub differs : Kind → Option Kind → Bool
differs k None = false
differs k (Some m) = not (same_kind k m)

-- the type of a variable, by the class of its name and by its subscripts
abbrev pub type_by : Class → PExprs → Option Kind
type_by c tree.none = read_type c
type_by c (tree.more e es) = element_type c

abbrev pub mistyped : Kind → PExpr → Surroundings → List Fault
mistyped k e a = broken_if codes.WrongType (differs k (type_of e a)) (first_spot e)

abbrev pub mistyped_for : Option Kind → PExpr → Surroundings → List Fault
mistyped_for None e a = []
mistyped_for (Some k) e a = mistyped k e a

abbrev pub mistyped_list : PExprs → Surroundings → List Fault
mistyped_list tree.none a = []
mistyped_list (tree.more e es) a = mistyped kinds.Number e a ++ mistyped_list es a
