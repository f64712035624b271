-- The static parents of an instance that stands: they stand, and their blocks are those around its own.
use Rattle.std.proofs.Common.{◌≡◌, sym, ap, ◌∙◌, ℕ, zero, suc, ◌≤◌, List, ◌∷◌, Some, arith}
use Rattle.b67_list.proofs.Numbers.{none_some}
use Rattle.b67_frames.proofs.Prelude.{slice_get, around, Scopes, World, instance_at, ancestor, IsStanding, some_same, Layout, IsComplete, FrameIsPlaced, outermost, inside, ArePlaced}

module _ (sc : Scopes) (w : World) (lay : Layout) where
  -- So many up, where there is a block b around that of the instance, a static parent stands, and is an instance of b. It has made all that its
  -- block declares, if it is another one.
  pub record IsParent (i up b : ℕ) : Type 0 where
    pub stands : IsStanding w (ancestor w up i)
    pub block : (instance_at w (ancestor w up i)).block ≡ b
    pub complete : 1 ≤ up → IsComplete sc w lay (ancestor w up i)

  made_up : (k i : ℕ) → IsComplete sc w lay i → (1 ≤ k → IsComplete sc w lay (ancestor w k i)) → IsComplete sc w lay (ancestor w k i)
  made_up zero i made more = made
  made_up (suc k) i made more = more (omega arith)

  module _ (placed : ArePlaced sc w lay) where
    pub parents : (i : ℕ) → IsStanding w i → (up b : ℕ) → slice_get ((instance_at w i).block ∷ around sc.blocks ((instance_at w i).block)) up ≡ Some b → IsParent i up b
    parents i st zero b e = record { stands = st; block = some_same e; complete = λ far. absurd (omega (arith, far)) }
    parents i st (suc up) b e = by_placed (placed i st) (λ j one h. parents j one up b h)
      where
        by_placed : FrameIsPlaced sc w lay (instance_at w i) →
            ((j : ℕ) → IsStanding w j → slice_get ((instance_at w j).block ∷ around sc.blocks ((instance_at w j).block)) up ≡ Some b → IsParent j up b) → IsParent i (suc up) b
        by_placed (outermost none alone) again = absurd (none_some (ap (λ (bs : List ℕ). slice_get bs up) (sym alone) ∙ e))
        by_placed (inside one_up next made) again =
            let there : IsParent ((instance_at w i).parent) up b = again ((instance_at w i).parent) one_up (ap (λ (bs : List ℕ). slice_get bs up) (sym next) ∙ e) in
            record { stands = there.stands; block = there.block; complete = λ far. made_up up ((instance_at w i).parent) made there.complete }
