-- Counts of faults, and the answers that a fault is the cause of.
use Rattle.std.specs.Prelude.{◌≡◌, ◌⊎◌, ℕ, ◌+◌, ◌<◌, ◌≤◌, ◌^◌, min, Result, Ok, Err, OnErr}

-- the count rose: it is above what it was before, or it stands at its last value
abbrev pub Rose : ℕ → ℕ → Type 0
Rose before now = (before < now) ⊎ (now ≡ 18446744073709551615)

-- the count never falls and stands below 2 ^ 64, and the answer is an error only where the count rose
pub record HasCause {T E : Type 0} (before now : ℕ) (result : Result T E) : Type 0 where
  pub later : before ≤ now
  pub bounded : now < 2 ^ 64
  pub rose : OnErr result (Rose before now)

-- the count after an answer, where exactly the errors are counted: one more after an error, up to its last value
abbrev pub count_after : {T E : Type 0} → ℕ → Result T E → ℕ
count_after before (Ok _) = before
count_after before (Err _) = min (before + 1) 18446744073709551615
