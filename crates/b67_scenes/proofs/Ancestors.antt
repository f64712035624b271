-- The static parents of an instance that stands, and the places of their frames, before and after a change of the world.
use Rattle.std.proofs.Common.{◌≡◌, inl, inr, sym, ap, ◌∙◌, ℕ, zero, suc, length, Some, arith}
use Rattle.b67_list.proofs.Lists.{get_within as get_below}
use Rattle.b67_list.proofs.Numbers.{none_some}
use Rattle.b67_scenes.proofs.Prelude.{numbered, Scopes, Instance, World, instance_at, ancestor, IsStanding, Place, HasFacts, IsStandingOrNone, StandOn, Layout}
use Rattle.b67_rows.proofs.Numbers.{get_within}
use Rattle.b67_frames.proofs.Onward.{StandsStill, climbs_still}

-- the frame of each instance that stands has a place
abbrev pub AreLaid : World → Layout → Type 0
AreLaid w lay = (j : ℕ) → IsStanding w j → (f : Place) × (numbered lay.places j ≡ Some f)

-- so it is where there are as many places as instances
pub all_laid : (w : World) (lay : Layout) → HasFacts w → length lay.places ≡ length w.instances → AreLaid w lay
all_laid w lay facts many j st = by_number j (facts.there j st).0 (facts.there j st).1
  where
    by_number : (k : ℕ) (x : Instance) → numbered w.instances k ≡ Some x → (f : Place) × (numbered lay.places k ≡ Some f)
    by_number zero x is = none_some is
    by_number (suc k) x is = get_within lay.places k (omega (arith, get_below w.instances k x is, many))

module _ (sc : Scopes) (w w' : World) (lay lay' : Layout) (on : StandOn sc w w' lay lay') (laid : AreLaid w lay) where
  -- a static parent stands, or there is none
  up_or_none : (up j : ℕ) → IsStandingOrNone w j → IsStandingOrNone w (ancestor w up j)
  up_or_none zero j st = st
  up_or_none (suc up) j (inl none) = up_or_none up ((instance_at w j).parent) (inl (ap (λ (k : ℕ). (instance_at w k).parent) none))
  up_or_none (suc up) j (inr st) = up_or_none up ((instance_at w j).parent) (on.before.parents j st)

  place_stays : (j : ℕ) → IsStandingOrNone w j → numbered lay'.places j ≡ numbered lay.places j
  place_stays j (inl none) = ap (λ (k : ℕ). numbered lay'.places k) none ∙ sym (ap (λ (k : ℕ). numbered lay.places k) none)
  place_stays j (inr st) = on.places j (laid j st).0 (laid j st).1 ∙ sym (laid j st).1

  module _ (h : ℕ) (still : StandsStill sc w w' lay lay' h) where
    -- they are the same
    pub same_ancestor : (up : ℕ) → ancestor w' up h ≡ ancestor w up h
    same_ancestor = (climbs_still sc w w' lay lay' on h still).same

    -- and so are the places of their frames
    pub old_place : (up : ℕ) → numbered lay'.places (ancestor w up h) ≡ numbered lay.places (ancestor w up h)
    old_place up = place_stays (ancestor w up h) (up_or_none up h (inr still.0))

    pub same_place : (up : ℕ) → numbered lay'.places (ancestor w' up h) ≡ numbered lay.places (ancestor w up h)
    same_place up = ap (λ (j : ℕ). numbered lay'.places j) (same_ancestor up) ∙ old_place up
