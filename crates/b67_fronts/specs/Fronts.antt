-- Runs that go through a schedule.
use Rattle.std.specs.Prelude.{◌≡◌, ◌≢◌, ◌⊎◌, ℕ, ◌+◌, ◌-◌, ◌<◌, ◌≤◌, true, List, [], ◌∷◌, ◌++◌, length, replicate, sum, None}
use Rattle.b67_segment.specs.declared.code.Code.{Code}
use Rattle.b67_table.specs.Image.{Image}
use Rattle.b67_table.specs.Ending.{image_end, may_act}
use Rattle.b67_table.specs.Outcome.{limit}
use Rattle.b67_table.specs.Table.{table}
use Rattle.b67_table.specs.Runs.{TableRun}

-- A run of all these entries has at most so many operators, and comes to an end or leaves some of them.
pub record GoesThrough (code : Code) (schedule : List ℕ) (budget : ℕ) : Type 0 where
  pub image : Image
  pub run : TableRun code schedule [] image
  pub within : sum run.counts ≤ budget
  pub leaves : (image_end image ≢ None) ⊎ (sum run.counts < budget)

-- so many plain operators of this process, and none of the others
abbrev pub tails_next : ℕ → ℕ → List ℕ
tails_next p tail = replicate (p - 1) 0 ++ tail ∷ []

-- The next process may act, comes to no stack limit, and operators are left for its action.
pub record FrontGoesOn (code : Code) (p tail operators budget : ℕ) (image : Image) : Type 0 where
  pub may : tail ≡ 0 → may_act image p ≡ true
  pub free : table code image p ≡ limit → ⊥
  pub left : operators + tail < budget

abbrev pub FrontsGoOn : Type 0
FrontsGoOn =
    (code : Code) (budget : ℕ) (done : List ℕ) (p : ℕ) (left : List ℕ) (tail : ℕ) (image : Image) → GoesThrough code (done ++ p ∷ left) budget
    → (r : TableRun code done (tails_next p tail) image) → FrontGoesOn code p tail (sum r.counts) budget image

-- the first entries have a run
abbrev pub FrontsAreRuns : Type 0
FrontsAreRuns = (code : Code) (budget : ℕ) (done left : List ℕ) → GoesThrough code (done ++ left) budget → (image : Image) × TableRun code done [] image

-- all of them, and at most as many operators
abbrev pub RunsGoThroughAlike : Type 0
RunsGoThroughAlike =
    (code : Code) (budget : ℕ) (schedule : List ℕ) (image : Image) → GoesThrough code schedule budget
    → (r : TableRun code schedule [] image) → ((image_end image ≢ None) ⊎ (sum r.counts < budget)) × (length schedule ≤ budget)
