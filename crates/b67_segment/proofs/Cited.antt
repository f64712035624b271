-- Facts that several crates cite.
use Rattle.std.proofs.Common.{Option, subst, sym, ℕ, ◌≡◌}
use Rattle.std.specs.Prelude.{IsSome}
use Rattle.b67_segment.specs.Building.{Built}

-- the level is set as long as it is the same
pub set_after : (a b : Built) → b.level ≡ a.level → IsSome a.level → IsSome b.level
set_after a b same h = let S : Option ℕ → Type 0 = λ o. IsSome o in subst S (sym same) h
