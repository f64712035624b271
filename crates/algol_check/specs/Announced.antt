-- Of each FORWARD the heading with the body, which stands after it.
use Rattle.std.specs.Prelude.{◌≡◌, ℕ, List, [], ◌∷◌, Option, Some, None, option_copied, slice_get}
use Rattle.std.specs.Borrow.{Bor}
use Rattle.std.specs.Ordering.{nat_cmp}
use Rattle.std.specs.Cmp.Lexicographic.{slice_cmp}
use Rattle.std.specs.BTreeMap.{BTreeMap, get_by}
use Rattle.algol_tree.specs.declared.tree.Heading.{Heading}
use Rattle.algol_tree.specs.Plain as tree
use Rattle.algol_tree.specs.Plain.{PDecl, PDecls}
use Rattle.algol_tree.specs.Surroundings.{body_of}

abbrev pub heading_in : BTreeMap (Bor (List ℕ)) (Bor Heading) → List ℕ → Option Heading
heading_in table name = option_copied (get_by (λ k. slice_cmp nat_cmp name k.now) table)

-- the table has the bodies that stand among these declarations
abbrev pub HasBodies : BTreeMap (Bor (List ℕ)) (Bor Heading) → PDecls → Type 0
HasBodies table ds = (name : List ℕ) → heading_in table name ≡ body_of name ds

abbrev pub body_for : PDecl → PDecls → Option Heading
body_for (tree.forward h) later = body_of h.name.name later
body_for _ later = None

-- for each declaration the body that it announces
abbrev pub bodies_for : PDecls → List (Option Heading)
bodies_for tree.no_decls = []
bodies_for (tree.decls d ds) = body_for d ds ∷ bodies_for ds

abbrev pub body_at : List (Option Heading) → ℕ → Option Heading
body_at bodies at = joined (slice_get bodies at)
  where
    joined : Option (Option Heading) → Option Heading
    joined None = None
    joined (Some o) = o
