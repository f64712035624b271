-- The innermost part of a stack.
use Rattle.std.proofs.Common.{◌≡◌, refl, List, [], ◌∷◌, map, ap, Some, None, slice_get}
use Rattle.algol_tree.specs.Scopes.{Scopes}
use Rattle.algol_meaning.specs.Critical.{is_evaluation}
use Rattle.algol_world.specs.SeenWorld.{part, purpose}
use Rattle.algol_world.specs.Leaving.{is_nothing, innermost_of}
use Rattle.algol_world.specs.declared.world.Part.{Part}

pub no_innermost : (sc : Scopes) (parts : List Part) → None ≡ slice_get parts 0 → None ≡ innermost_of (map (part sc) parts)
no_innermost sc [] e = refl
no_innermost sc (x ∷ parts) e = cc

pub first_part :
    (sc : Scopes) (parts : List Part) (x : Part) → Some x ≡ slice_get parts 0
    → Some (record { instance = x.instance; evaluates = is_evaluation (purpose x.purpose); alone = is_nothing (slice_get parts 1) })
    ≡ innermost_of (map (part sc) parts)
first_part sc [] x e = cc
first_part sc (y ∷ []) x e = let p : x ≡ y = cc in ap (λ (z : Part). innermost_of (part sc z ∷ [])) p
first_part sc (y ∷ z ∷ parts) x e = let p : x ≡ y = cc in ap (λ (u : Part). innermost_of (part sc u ∷ part sc z ∷ map (part sc) parts)) p
