-- Outcomes that are told.
use Rattle.std.specs.Prelude.{◌≡◌, ◌≢◌, ℕ, ◌<◌, ◌≤◌, ◌^◌, List, map, Contains, Some, slice_get}
use Rattle.b67_schedule.specs.declared.reading.Given.{Given}
use Rattle.b67_schedule.specs.declared.reading.Given.TheVariants.{One, Two}
use Rattle.b67_told.specs.declared.Outcome.{Outcome}
use Rattle.b67_told.specs.declared.Told.{Told}

abbrev pub outcomes_in : List Told → List Outcome
outcomes_in told = map (λ (x : Told). x.outcome) told

-- the outcome is told
abbrev pub OutcomeIsTold : List Told → Outcome → Type 0
OutcomeIsTold told o = Contains (outcomes_in told) o

-- none is told twice
abbrev pub AreDifferent : List Told → Type 0
AreDifferent told =
    (j k : ℕ) (x y : Told) → j < k → slice_get told j ≡ Some x → slice_get told k ≡ Some y → x.outcome ≢ y.outcome

-- what is given of a schedule is of version 1: it has no letters
abbrev pub IsOfOne : Given → Type 0
IsOfOne (One old) = Unit {0}
IsOfOne (Two schedule) = ⊥

-- the number of a process is from 1 on, and has 16 bits
abbrev pub IsToldNumber : ℕ → Type 0
IsToldNumber p = (1 ≤ p) × (p < 2 ^ 16)
