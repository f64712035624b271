-- Laws of a change of one process, and of what its parts come to.
use Rattle.std.proofs.Common.{◌≡◌, refl, ℕ, ◌<◌, List, [], ◌∷◌, length, map, ap, sym, ◌∙◌, Option, Some, None, slice_get, slice_set, get_or, Result, Ok, Err, IfOk}
use Rattle.algol_tree.specs.Scopes.{Scopes}
use Rattle.algol_meaning.specs.World as world
use Rattle.algol_meaning.specs.Rest.{Answer}
use Rattle.algol_cells.specs.SeenStack.{Popped}
use Rattle.b67_list.specs.Numbered.{numbered, set_numbered}
use Rattle.algol_instances.specs.SeenInstance.{place_of_number}
use Rattle.algol_world.specs.SeenWorld.{part, process}
use Rattle.algol_world.specs.Going.{resumed}
use Rattle.algol_world.specs.Leaving.{left_todo}
use Rattle.algol_world.specs.declared.world.Part.{Part}
use Rattle.algol_world.specs.declared.world.Process.{Process}
use Rattle.algol_instances.proofs.Numbering.{get_place, set_place}

pub changed :
    (sc : Scopes) (qs : List Process) (n k : ℕ) (x y : Process) (change : world.Process → world.Process) → Some k ≡ place_of_number n → k < length qs
    → x ≡ get_or qs k x → process sc y ≡ change (process sc x)
    → map (process sc) (slice_set qs k y) ≡ set_numbered (map (process sc) qs) n (change (world.or_no_process (numbered (map (process sc) qs) n)))
changed sc qs n k x y change e within is c =
    set_place qs (process sc) n k y e
    ∙ ap (set_numbered (map (process sc) qs) n)
    (c ∙ ap (λ (q : _). change (world.or_no_process q)) (sym (get_place qs (process sc) n k x e within is)))

-- what holds where a call has succeeded
pub if_ok : {A E : Type 0} {P Q : A → Type 0} (r : Result A E) → ((x : A) → P x → Q x) → IfOk r P → IfOk r Q
if_ok (Ok x) f p = f x p
if_ok (Err e) f p = p

module _ (sc : Scopes) (a : Answer) where
  -- no part is around the innermost one
  pub nothing_left : (parts : List Part) → None ≡ slice_get parts 1 → map (part sc) parts ≡ left_todo sc (map (part sc) parts) a
  nothing_left [] e = refl
  nothing_left (x ∷ []) e = refl
  nothing_left (x ∷ y ∷ parts) e = cc

  -- the part around the innermost one goes on
  pub next_left :
      (parts : List Part) (y : Part) (popped : Option Part) (after : List Part) → Some y ≡ slice_get parts 1 → Popped popped parts after
      → resumed sc (map (part sc) after) a ≡ left_todo sc (map (part sc) parts) a
  next_left [] y popped after e p = cc
  next_left (x ∷ []) y popped after e p = cc
  next_left (x ∷ z ∷ parts) y None after e p = let no : x ∷ z ∷ parts ≡ [] = p.0 in cc
  next_left (x ∷ z ∷ parts) y (Some u) after e p =
      let same : after ≡ z ∷ parts = (let whole : x ∷ z ∷ parts ≡ u ∷ after = p in cc) in
      ap (λ (ps : List Part). resumed sc (map (part sc) ps) a) same
