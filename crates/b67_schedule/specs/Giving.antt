-- What is given of a schedule by its text.
use Rattle.std.specs.Prelude.{◌≡◌, ℕ, List}
use Rattle.b67_schedule.specs.declared.reading.Given.{Given}
use Rattle.b67_schedule.specs.declared.reading.Given.TheVariants.{One, Two}
use Rattle.b67_schedule.specs.Schedules.{entries, AreRuns, IsSchedule, OldText, ScheduleText}

-- the text is that of what is given
abbrev pub IsTextOf : Given → List ℕ → Type 0
IsTextOf (One old) text = AreRuns old.runs × (text ≡ OldText old.runs)
IsTextOf (Two schedule) text = IsSchedule schedule.runs schedule.letters × (text ≡ ScheduleText schedule.runs schedule.letters)

-- its runs are such as a text can have
abbrev pub HasRuns : Given → Type 0
HasRuns (One old) = AreRuns old.runs
HasRuns (Two schedule) = IsSchedule schedule.runs schedule.letters

-- the process of each action of it
abbrev pub given_entries : Given → List ℕ
given_entries (One old) = entries old.runs
given_entries (Two schedule) = entries schedule.runs

-- two that differ in the room of their schedules at most
abbrev pub SaySame : Given → Given → Type 0
SaySame (One old) (One other) = old.runs ≡ other.runs
SaySame (Two schedule) (Two other) = (schedule.runs ≡ other.runs) × (schedule.letters ≡ other.letters)
SaySame _ _ = ⊥
