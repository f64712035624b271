-- What is shown of worlds that are alike but for the cells of the instances that are left.
use Rattle.std.proofs.Common.{◌≡◌, refl, ap, ◌∙◌, ℕ, ◌+◌, Bool, true, false, List, [], ◌∷◌, ◌++◌}
use Rattle.algol_tree.specs.Blocks.{block_numbered}
use Rattle.algol_tree.specs.Scopes.{Scopes}
use Rattle.algol_meaning.specs.World.{NamedCell, Instance}
use Rattle.algol_laws.specs.Reading.{Outline}
use Rattle.algol_lean.specs.Lean.{IsLean, AreLean}
use Rattle.b67_dump.specs.Snapshots.{unless_left, instance_lines, instances_lines}
use Rattle.b67_dump.specs.Laws.{SnapshotsAreThoseOfLeanWorlds}

-- of an instance of that number: its outline, and the lines of its cells
module _ (sc : Scopes) (number : ℕ) where
  abbrev cells_of : Outline → List NamedCell → List (List ℕ)
  cells_of o cells =
      unless_left o.left (instance_lines number (record { block = o.block; parent = o.parent; process = o.process; cells = cells; left = o.left }) (block_numbered sc.blocks o.block))

  one_lean :
      (x y : Instance) → IsLean x y
      → unless_left y.left (instance_lines number y (block_numbered sc.blocks y.block)) ≡ unless_left x.left (instance_lines number x (block_numbered sc.blocks x.block))
  one_lean x y l = ap (λ (o : Outline). cells_of o y.cells) l.alike ∙ by x.left refl
    where
      by : (b : Bool) → x.left ≡ b
          → unless_left b (instance_lines number (record { block = x.block; parent = x.parent; process = x.process; cells = y.cells; left = x.left }) (block_numbered sc.blocks x.block))
          ≡ unless_left b (instance_lines number x (block_numbered sc.blocks x.block))
      by true e = refl
      by false e =
          ap (λ (cells : List NamedCell).
          instance_lines number (record { block = x.block; parent = x.parent; process = x.process; cells = cells; left = x.left }) (block_numbered sc.blocks x.block))
          (l.cells e)

all_lean : (sc : Scopes) (number : ℕ) (xs ys : List Instance) → AreLean xs ys → instances_lines sc number ys ≡ instances_lines sc number xs
all_lean sc number [] [] l = refl
all_lean sc number [] (y ∷ ys) l = absurd l
all_lean sc number (x ∷ xs) [] l = absurd l
all_lean sc number (x ∷ xs) (y ∷ ys) l =
    ap (λ (lines : List (List ℕ)). lines ++ instances_lines sc (number + 1) ys) (one_lean sc number x y l.0)
    ∙ ap (λ (lines : List (List ℕ)). unless_left x.left (instance_lines number x (block_numbered sc.blocks x.block)) ++ lines) (all_lean sc (number + 1) xs ys l.1)

pub snapshots_lean : SnapshotsAreThoseOfLeanWorlds
snapshots_lean sc w v l = all_lean sc 1 w.instances v.instances l.instances
