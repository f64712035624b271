-- Who is able after an action.
use Rattle.std.specs.Prelude.{◌≡◌, ◌≢◌, ℕ, ◌+◌, ◌≤◌, nat_lt, if◌then◌else◌, Bool, true, List, [], ◌∷◌}
use Rattle.b67_list.specs.Numbered.{numbered}
use Rattle.b67_segment.specs.declared.code.Code.{Code}
use Rattle.b67_events.specs.Once.{times_in}
use Rattle.b67_table.specs.Image.{Image, is_able}
use Rattle.b67_table.specs.Outcome.{gives}
use Rattle.b67_table.specs.Table.{table}
use Rattle.b67_table.specs.Valid.{IsValid}
use Rattle.b67_action.specs.Acting.{NextReleases}

-- how often a number stands in a list
abbrev pub number_times : ℕ → List ℕ → ℕ
number_times p list = times_in p list

abbrev pub one_if : Bool → ℕ
one_if b = if b then 1 else 0

abbrev pub able_in : Image → ℕ → Bool
able_in image p = is_able (numbered image.states p)

-- the process that was started, where one was
abbrev pub newly : ℕ → ℕ → List ℕ
newly before after = if nat_lt before after then after ∷ [] else []

-- Who is able after an action of a process: the released and the started are, each of them once and none that was so before, and of all
-- others but the actor those who were. The actor neither releases nor starts itself.
pub record AbleAfter (before after : Image) (p : ℕ) (released : List ℕ) : Type 0 where
  pub others : (q : ℕ) → q ≢ p → one_if (able_in after q) ≡ one_if (able_in before q) + number_times q released + number_times q (newly before.started after.started)
  pub own : number_times p released ≡ 0
  pub own_new : number_times p (newly before.started after.started) ≡ 0
  pub grows : before.started ≤ after.started

-- so it is where the table gives a new image of a valid one, with those whom the operator releases
abbrev pub ActionsMakeAble : Type 0
ActionsMakeAble =
    (code : Code) (img new : Image) (p : ℕ) (released : List ℕ) → IsValid code img → is_able (numbered img.states p) ≡ true → table code img p ≡ gives new
    → NextReleases code img p released → AbleAfter img new p released
