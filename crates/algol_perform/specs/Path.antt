-- The path of a process, as it is followed from stack to stack.
use Rattle.std.specs.Prelude.{ℕ, nat_lt, ◌==◌, ◌&&◌, not, if◌then◌else◌, Bool, List, [], ◌∷◌, Option, Some, None}
use Rattle.algol_meaning.specs.World.{World, instance_at}

-- p's critical instance where it is older than that one, else 0
abbrev pub critical_below : Option ℕ → ℕ → ℕ
critical_below None below = 0
critical_below (Some c) below = if nat_lt c below then c else 0

module _ (w : World) (p : ℕ) where
  -- the instance stands in p's stack, and is not left
  abbrev pub is_own : ℕ → Bool
  is_own n = ((instance_at w n).process == p) && not (instance_at w n).left

  module _ (below : ℕ) where
    -- the instance n where it is newer, older than `below` and p's own, else the one before
    abbrev pub newer_own : ℕ → ℕ → ℕ
    newer_own newest n = if (nat_lt newest n && nat_lt n below) && is_own n then n else newest

    -- the newest of these
    abbrev pub newest_own : ℕ → List ℕ → ℕ
    newest_own newest [] = newest
    newest_own newest (n ∷ ns) = newest_own (newer_own newest n) ns
