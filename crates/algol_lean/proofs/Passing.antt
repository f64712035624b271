-- The instances that GO TO passes.
use Rattle.std.proofs.Common.{◌≡◌, sym, ap, ◌∙◌, ℕ, List, [], length, take, Option}
use Rattle.algol_meaning.specs.World.{Part}
use Rattle.algol_meaning.specs.Critical.{own_instances}
use Rattle.algol_meaning.specs.Instances.{Cut, cut_at}
use Rattle.algol_perform.specs.Going.{owned, AreLeft}
use Rattle.algol_perform.proofs.Newer.{owned_left}

pub passed_is : (left : List (Option ℕ)) (parts : List Part) (i k : ℕ) → k ≡ i → AreLeft left parts k → owned left ≡ own_instances (cut_at [] parts i).newer
passed_is left parts i k same are =
    owned_left left (take (length left) parts) are.1
    ∙ ap (λ (c : Cut). own_instances c.newer) (sym are.0)
    ∙ ap (λ (j : ℕ). own_instances (cut_at [] parts j).newer) same

pub ruleset passing = passed_is
