-- What a change of a world leaves of the instances that stand before and after it.
use Rattle.std.proofs.Common.{◌≡◌, inl, inr, ◌∙◌, subst, sym, ℕ, zero, suc, List, Some}
use Rattle.b67_frames.proofs.Prelude.{numbered, Scopes, referred_in, Cell, Part, World, instance_at, IsInSkeleton, IsStanding, IsOnPath, newest_own, Word, Place, Wanted, Layout, Denotes, IsInReach, home_of}
use Rattle.b67_frames.proofs.Facts.{HasFacts, IsStandingOrNone}
use Rattle.b67_frames.proofs.Knowing.{KeepsArrays, Remain, Climbs, IsInOrNone, climbs_in, denotes_lasts, denotes_so}

module _ (sc : Scopes) (w w' : World) (lay lay' : Layout) where
  -- Both worlds are as worlds are. An instance that stands in both keeps its block, its parent, its arrays and events, and what lies on the path from
  -- it. The frames are where they were.
  pub record StandOn : Type 0 where
    pub before : HasFacts w
    pub after : HasFacts w'
    pub keeps : (j : ℕ) → IsStanding w j → IsStanding w' j → KeepsArrays sc w w' lay lay' j
    pub places : (j : ℕ) (f : Place) → numbered lay.places j ≡ Some f → numbered lay'.places j ≡ Some f
    pub paths : (a b : ℕ) → IsStanding w a → IsStanding w' a → IsOnPath w a b → IsOnPath w' a b

  -- it stands in both
  abbrev pub StandsStill : ℕ → Type 0
  StandsStill j = IsStanding w j × IsStanding w' j

  module _ (on : StandOn) where
    pub still_keeps : (j : ℕ) → StandsStill j → KeepsArrays sc w w' lay lay' j
    still_keeps j still = on.keeps j still.0 still.1

    -- so does its parent, if it has one
    parent_still : (j : ℕ) → StandsStill j → IsInOrNone StandsStill ((instance_at w j).parent)
    parent_still j still = by_both (on.before.parents j still.0) (on.after.parents j still.1)
      where
        same : (instance_at w' j).parent ≡ (instance_at w j).parent
        same = (still_keeps j still).parent

        by_both : IsStandingOrNone w ((instance_at w j).parent) → IsStandingOrNone w' ((instance_at w' j).parent) → IsInOrNone StandsStill ((instance_at w j).parent)
        by_both (inl none) later = inl none
        by_both (inr stands) (inl none) = inl (sym same ∙ none)
        by_both (inr stands) (inr later) = inr (stands, subst (λ (k : ℕ). IsStanding w' k) same later)

    -- and its names lead where they led
    pub climbs_still : (j : ℕ) → StandsStill j → Climbs sc w w' lay lay' j
    climbs_still = climbs_in sc w w' lay lay' StandsStill still_keeps parent_still

    -- what lies on the path from it stands in both, too
    pub path_still : (a b : ℕ) → StandsStill a → IsOnPath w a b → StandsStill b
    path_still a b still path = (on.before.on_path a b still.0 path, on.after.on_path a b still.1 (on.paths a b still.0 still.1 path))

    -- so what is in reach of parts, the newest instance of which stands in both, remains
    pub reach_remains : (parts : List Part) → StandsStill (newest_own parts) → Remain sc w w' lay lay' (IsInReach w parts) (IsInReach w' parts)
    reach_remains parts top =
        record {
          stays = λ j path. on.paths (newest_own parts) j top.0 top.1 path;
          keeps = λ j path. still_keeps j (path_still (newest_own parts) j top path);
          places = λ j f path laid. on.places j f laid;
        }

    -- and so does what a cell stands for that refers only to what stands later
    pub denotes_on : (wanted : Wanted) (c : Cell) (word : Word) → ((r : ℕ) → IsInSkeleton (referred_in c) r → IsStanding w' r) → Denotes sc w lay (IsStanding w) wanted c word →
        Denotes sc w' lay' (IsStanding w') wanted c word
    denotes_on wanted c word later h =
        denotes_lasts sc w w' lay lay' StandsStill (IsStanding w')
        (record { stays = λ j still. still.1; keeps = still_keeps; places = λ j f still laid. on.places j f laid }) wanted c word
        (denotes_so sc w lay (IsStanding w) StandsStill wanted c word (λ j inside stands. (stands, later j inside)) h)

    -- where the static link of a frame leads
    pub home_on : (j : ℕ) (f : Place) → home_of sc w lay j ≡ Some f → home_of sc w' lay' j ≡ Some f
    home_on zero f e = e
    home_on (suc j) f e = on.places (suc j) f e
