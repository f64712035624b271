-- Faults that are noted one list after the other.
use Rattle.std.proofs.Common.{◌≡◌, List, [], ◌∷◌, ◌++◌, Option, refl}
use Rattle.algol_tree.specs.declared.refusal.Fault.{Fault}
use Rattle.algol_tree.specs.Blocks.{Block}
use Rattle.algol_tree.specs.Sites.{Site}
use Rattle.algol_sites.specs.Noting.{noted_at, noted_along}

pub noted_along_append : (blocks : List Block) (first : Option Fault) (xs ys : List Site) →
    noted_along blocks first (xs ++ ys) ≡ noted_along blocks (noted_along blocks first xs) ys
noted_along_append blocks first [] ys = refl
noted_along_append blocks first (x ∷ xs) ys = noted_along_append blocks (noted_at blocks first x) xs ys
