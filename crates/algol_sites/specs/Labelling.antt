-- Where labels stand, and where they are bad.
use Rattle.std.specs.Prelude.{◌==◌, ◌&&◌, if◌then◌else◌, not, Bool, List, [], ◌∷◌, ◌++◌, map, Option, Some, None}
use Rattle.std.specs.declared.cmp.Ordering.{Ordering}
use Rattle.std.specs.declared.alloc.Global.{Global}
use Rattle.std.specs.declared.vec.Vec.{Vec}
use Rattle.std.specs.Ordering.{nat_cmp, ordering_then}
use Rattle.std.specs.BTreeMap.{BTreeMap, get_by}
use Rattle.algol_tree.specs.declared.token.Spot.{Spot}
use Rattle.algol_tree.specs.declared.refusal.Code.TheVariants as codes
use Rattle.algol_tree.specs.declared.refusal.Fault.{Fault}
use Rattle.algol_tree.specs.declared.tree.Named.{Named}
use Rattle.algol_tree.specs.Plain as tree
use Rattle.algol_tree.specs.Plain.{PStmt}
use Rattle.algol_tree.specs.Sorts.{Declared}
use Rattle.algol_tree.specs.Blocks.{same_spot}
use Rattle.algol_tree.specs.Surroundings.{Surroundings, declared_as}
use Rattle.algol_tree.specs.Labels as rules
use Rattle.algol_tree.specs.Sites as site
use Rattle.algol_tree.specs.Sites.{Part, Site}
use Rattle.algol_sites.specs.declared.label.Standing.{Standing}
use Rattle.algol_sites.specs.Noting.{broken_if}

-- the order of places that a table has
abbrev pub label_order : Spot → Spot → Ordering
label_order a b = ordering_then (nat_cmp a.line b.line) (nat_cmp a.column b.column)

abbrev pub items_or : Option (Vec Standing Global) → List Standing
items_or None = []
items_or (Some v) = v.items

-- the places of the label that is declared there
abbrev pub places_in : BTreeMap Spot (Vec Standing Global) → Spot → List Standing
places_in table spot = items_or (get_by (label_order spot) table)

abbrev pub those_of : List Standing → Spot → List Standing
those_of [] spot = []
those_of (s ∷ ss) spot = if same_spot s.declared spot then s ∷ those_of ss spot else those_of ss spot

-- where it stands away from the list of its block
abbrev pub away : List Standing → List Fault
away [] = []
away (s ∷ ss) = broken_if codes.BadLabel (not s.at_home) s.spot ++ away ss

-- where it stands again
abbrev pub label_again : List Standing → List Fault
label_again [] = []
label_again (s ∷ ss) = record { spot = s.spot; code = codes.BadLabel } ∷ label_again ss

-- where the label is bad that is declared there and stands so
abbrev pub bad_at : Spot → List Standing → List Fault
bad_at spot [] = record { spot = spot; code = codes.BadLabel } ∷ []
bad_at spot (s ∷ ss) = away (s ∷ ss) ++ label_again ss

abbrev pub bad_in : List Standing → List Spot → List Fault
bad_in all [] = []
bad_in all (spot ∷ spots) = bad_at spot (those_of all spot) ++ bad_in all spots

-- ---- what the rule looks at in a part of a tree

-- a standing as the rule has it
abbrev pub standing_as : Standing → rules.Standing
standing_as s = record { declared = s.declared; spot = s.spot; at_home = s.at_home }

abbrev pub standing_of : Named → Bool → Surroundings → Option Declared → List rules.Standing
standing_of n listed a None = []
standing_of n listed a (Some d) = record { declared = d.spot; spot = n.spot; at_home = listed && (d.block == a.block) } ∷ []

abbrev standings_part : Part → Surroundings → List rules.Standing
standings_part (site.statement (tree.label n s) listed) a = standing_of n listed a (declared_as a n)
standings_part _ a = []

-- the label that stands there
abbrev pub standings_at : Site → List rules.Standing
standings_at x = standings_part x.part x.around

abbrev labels_part : Part → List Spot
labels_part (site.declaration (tree.labels ns) later) = map (λ (n : Named). n.spot) ns
labels_part _ = []

-- the labels that are declared there
abbrev pub labels_at : Site → List Spot
labels_at x = labels_part x.part

-- what is kept of a label before a statement, where there is something
abbrev pub standings_of : Option Standing → List rules.Standing
standings_of None = []
standings_of (Some s) = standing_as s ∷ []

-- a label before a statement
abbrev pub label_site : Named → PStmt → Bool → Surroundings → Site
label_site n s listed a = record { part = site.statement (tree.label n s) listed; around = a }
