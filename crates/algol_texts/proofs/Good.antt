-- Parts of a tree that break no rule, and whose names have the uses that are looked up.
use Rattle.std.proofs.Common.{◌≡◌, ◌&&◌, not, Bool, true, false, List, [], ◌∷◌, Option, Some, refl, sym}
use Rattle.std.specs.List.{AllByRecursion}
use Rattle.algol_tree.specs.declared.token.Spot.{Spot}
use Rattle.algol_tree.specs.declared.tree.Kind.{Kind}
use Rattle.algol_tree.specs.declared.tree.Named.{Named}
use Rattle.algol_tree.specs.Checks.{wrong_types, not_assignable}
use Rattle.algol_tree.specs.Classes as class
use Rattle.algol_tree.specs.Classes.{Formal}
use Rattle.algol_tree.specs.Counted.{wrong_counts}
use Rattle.algol_tree.specs.Names.{if_so, unknown_names, declared_twice}
use Rattle.algol_tree.specs.Plain as tree
use Rattle.algol_tree.specs.Plain.{PExpr}
use Rattle.algol_tree.specs.Scopes.{Scopes, Use, names_in, names_in_expr, declared_in}
use Rattle.algol_tree.specs.Sites.{Site, here, wants_value, name_part, actual_part}
use Rattle.algol_tree.specs.Sorts.{Declared}
use Rattle.algol_tree.specs.Surroundings.{Surroundings, declared_as}
use Rattle.algol_front_laws.specs.Declarations.{EachOnce}
use Rattle.algol_front_laws.specs.Uses.{use_by_name, use_in}
use Rattle.algol_told.proofs.Lists.{false_not_true}

module _ (sc : Scopes) where
  -- The name has a declaration at its place, and this use of it is looked up.
  pub record IsUse (as_used : Declared → Use) (a : Surroundings) (n : Named) : Type 0 where
    pub declared : Declared
    pub found : declared_as a n ≡ Some declared
    pub used : declared_in sc.uses n.spot ≡ Some (as_used declared)

  -- .. as what it is declared as
  abbrev pub IsUsed : Surroundings → Named → Type 0
  IsUsed a n = IsUse (use_by_name a n) a n

  pub record IsGood (x : Site) : Type 0 where
    pub uses : AllByRecursion (λ (n : Named). IsUse (use_in x.part x.around n) x.around n) (names_in x.part)
    pub once : EachOnce x.around
    pub known : unknown_names x ≡ []
    pub clear : declared_twice sc.blocks x ≡ []
    pub right : wrong_types sc.blocks x ≡ []
    pub assignable : not_assignable sc.blocks x ≡ []
    pub counted : wrong_counts x ≡ []

  abbrev pub AreGood : List Site → Type 0
  AreGood xs = AllByRecursion IsGood xs

  -- ---- actuals

  module _ (a : Surroundings) where
    name_used : (n : Named) (value : Bool) → IsGood (record { part = name_part n value; around = a }) → AllByRecursion (IsUsed a) (n ∷ [])
    name_used n true g = g.uses
    name_used n false g = g.uses

    -- an actual has the names of its expression
    pub actual_used : (e : PExpr) (f : Option Formal) → IsGood (record { part = actual_part e f; around = a }) → AllByRecursion (IsUsed a) (names_in_expr e)
    actual_used (tree.variable (tree.subscripted n tree.none)) f g = name_used n (wants_value f) g
    actual_used e f g = g.uses

    -- .. and is one, where a value is wanted
    pub value_good : (e : PExpr) (kind : Kind) (v : Bool) → IsGood (record { part = actual_part e (Some (record { class = class.simple kind; by_value = v })); around = a }) → IsGood (here e a)
    value_good (tree.variable (tree.subscripted n tree.none)) kind v g = g
    value_good e kind v g = g

-- ---- tests that say yes

pub nothing : (spot : Spot) (spots : List Spot) → spot ∷ spots ≡ [] → ⊥
nothing spot spots h = cc

-- a test of a class that is known
pub test_holds : (b unspecified : Bool) (spot : Spot) → unspecified ≡ false → if_so (not b && not unspecified) spot ≡ [] → b ≡ true
test_holds true u spot e h = refl
test_holds false true spot e h = absurd (false_not_true (sym e))
test_holds false false spot e h = absurd (nothing spot [] h)
