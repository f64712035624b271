-- The rule of labels: a declared label stands exactly once, before a statement of the list of its own block.
use Rattle.std.specs.Prelude.{◌==◌, ◌&&◌, not, Bool, List, [], ◌∷◌, ◌++◌, map, filter, Option, Some, None}
use Rattle.std.specs.List.{flat_map}
use Rattle.algol_tree.specs.declared.token.Spot.{Spot}
use Rattle.algol_tree.specs.declared.tree.Named.{Named}
use Rattle.algol_tree.specs.Plain as tree
use Rattle.algol_tree.specs.Sorts.{Declared}
use Rattle.algol_tree.specs.Blocks.{same_spot}
use Rattle.algol_tree.specs.Surroundings.{Surroundings, declared_as}
use Rattle.algol_tree.specs.Sites as site
use Rattle.algol_tree.specs.Sites.{Part, Site}

-- a label before a statement: where it is declared, where it stands, and whether that is in the list of its own block
pub record Standing : Type 0 where
  pub declared : Spot
  pub spot : Spot
  pub at_home : Bool

abbrev pub standing_of : Named → Bool → Surroundings → Option Declared → List Standing
standing_of n listed a None = []
standing_of n listed a (Some d) = record { declared = d.spot; spot = n.spot; at_home = listed && (d.block == a.block) } ∷ []

abbrev pub standings_part : Part → Surroundings → List Standing
standings_part (site.statement (tree.label n s) listed) a = standing_of n listed a (declared_as a n)
standings_part _ a = []

abbrev pub standings_at : Site → List Standing
standings_at x = standings_part x.part x.around

abbrev pub labels_part : Part → List Spot
labels_part (site.declaration (tree.labels ns) later) = map (λ (n : Named). n.spot) ns
labels_part _ = []

-- the places at which a label is bad: its declaration where it stands nowhere; where it stands away from its block's list; where it stands again
abbrev pub bad_standings : Spot → List Standing → List Spot
bad_standings spot [] = spot ∷ []
bad_standings spot (s ∷ ss) =
    map (λ (t : Standing). t.spot) (filter (λ (t : Standing). not t.at_home) (s ∷ ss)) ++ map (λ (t : Standing). t.spot) ss

abbrev pub bad_label : List Standing → Spot → List Spot
bad_label all spot = bad_standings spot (filter (λ (t : Standing). same_spot t.declared spot) all)

abbrev pub bad_labels : List Site → List Spot
bad_labels ss = flat_map (bad_label (flat_map standings_at ss)) (flat_map (λ (x : Site). labels_part x.part) ss)
