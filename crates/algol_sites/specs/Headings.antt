-- The faults of a heading.
use Rattle.std.specs.Prelude.{◌||◌, Bool, not, List, [], ◌∷◌, ◌++◌, Option, Some, None}
use Rattle.algol_tree.specs.declared.refusal.Code.TheVariants as codes
use Rattle.algol_tree.specs.declared.refusal.Fault.{Fault}
use Rattle.algol_tree.specs.declared.tree.Heading.{Heading}
use Rattle.algol_tree.specs.declared.tree.Named.{Named}
use Rattle.algol_tree.specs.declared.tree.Spec.{Spec}
use Rattle.algol_tree.specs.Classes.{Class, is_array, is_event, is_unspecified}
use Rattle.algol_tree.specs.Plain as tree
use Rattle.algol_tree.specs.Plain.{PDecls}
use Rattle.algol_tree.specs.Sorts.{class_in}
use Rattle.algol_tree.specs.Forwards.{same_heading}
use Rattle.algol_tree.specs.Surroundings.{Surroundings}
use Rattle.algol_tree.specs.Sites as site
use Rattle.algol_tree.specs.Sites.{Site}
use Rattle.algol_sites.specs.Noting.{broken_if}

abbrev pub is_reference : Class → Bool
is_reference c = is_array c || is_event c

-- names of the wrong kind
abbrev pub faulty : (Named → Bool) → List Named → List Fault
faulty test [] = []
faulty test (n ∷ ns) = broken_if codes.WrongType (test n) n.spot ++ faulty test ns

-- parameters without a specification
abbrev pub missing : List Spec → List Named → List Fault
missing ss ns = faulty (λ (n : Named). is_unspecified (class_in ss n.name)) ns

-- arrays and events in VALUE
abbrev pub referring : List Spec → List Named → List Fault
referring ss ns = faulty (λ (n : Named). is_reference (class_in ss n.name)) ns

-- the heading with the body, where it is another
abbrev pub unlike : Heading → Option Heading → List Fault
unlike h None = []
unlike h (Some g) = broken_if codes.WrongType (not (same_heading h g)) g.name.spot

-- FORWARD, before these declarations
abbrev pub forward_site : Heading → PDecls → Surroundings → Site
forward_site h later a = record { part = site.declaration (tree.forward h) later; around = a }
