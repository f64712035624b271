-- The process that may act, where it is the only one.
use Rattle.std.proofs.Common.{◌≡◌, ℕ, ◌<◌, ◌≤◌, true, false, Option, Some, None}
use Rattle.b67_table.specs.Image.{Image}
use Rattle.b67_table.specs.Ending.{may_act}

-- of the processes before this one none may act, or the one that was found
abbrev pub IsOnlyBefore : Image → ℕ → Option ℕ → Type 0
IsOnlyBefore img process None = (q : ℕ) → 1 ≤ q → q < process → may_act img q ≡ false
IsOnlyBefore img process (Some p) = (may_act img p ≡ true) × ((q : ℕ) → 1 ≤ q → q < process → may_act img q ≡ true → q ≡ p)
