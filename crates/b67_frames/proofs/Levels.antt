-- The block of a static parent lies as many levels further out as the parent is up.
use Rattle.std.proofs.Common.{◌≡◌, ap, ℕ, zero, suc, ◌+◌, ◌≤◌, length, arith}
use Rattle.b67_frames.proofs.Prelude.{block_numbered, level_of, Scopes, World, instance_at, ancestor, IsStanding, OUTER_LEVEL, Layout, FrameIsPlaced, outermost, inside, ArePlaced}
use Rattle.b67_frames.proofs.Linked.{level_around}

module _ (sc : Scopes) (w : World) (lay : Layout) (placed : ArePlaced sc w lay) where
  -- the level of an instance's block
  abbrev level : ℕ → ℕ
  level i = level_of (block_numbered sc.blocks ((instance_at w i).block))

  pub level_up : (up i : ℕ) → IsStanding w i → up + OUTER_LEVEL ≤ level_of (block_numbered sc.blocks ((instance_at w i).block)) →
      level_of (block_numbered sc.blocks ((instance_at w (ancestor w up i)).block)) + up ≡ level_of (block_numbered sc.blocks ((instance_at w i).block))
  level_up zero i st far = omega arith
  level_up (suc up) i st far = by_placed (placed i st) (λ j one h. level_up up j one h)
    where
      by_placed : FrameIsPlaced sc w lay (instance_at w i) → ((j : ℕ) → IsStanding w j → up + OUTER_LEVEL ≤ level j → level (ancestor w up j) + up ≡ level j) →
          level (ancestor w up ((instance_at w i).parent)) + suc up ≡ level i
      by_placed (outermost none alone) again = absurd (omega (arith, far, level_around sc.blocks ((instance_at w i).block), ap length alone))
      by_placed (inside one_up next made) again =
          let parent : ℕ = (instance_at w i).parent in
          let one : level i ≡ level parent + 1 =
          omega (arith, level_around sc.blocks ((instance_at w i).block), ap length next, level_around sc.blocks ((instance_at w parent).block)) in
          omega (arith, one, again parent one_up (omega (arith, one, far)))
