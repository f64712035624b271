-- Schedules and their texts.
use Rattle.std.specs.Prelude.{◌≡◌, ℕ, ◌-◌, ◌<◌, ◌≤◌, ◌≢◌, slice_index_or, List, [], ◌∷◌, ◌++◌, length, replicate, take, drop, codes}
use Rattle.std.specs.List.{All, AllAdjacentBelow, flat_map}
use Rattle.std.specs.Fmt.{decimal}
use Rattle.b67_schedule.specs.declared.TheConstants.{MOST_NUMBER}
use Rattle.b67_schedule.specs.declared.Run.{Run}
use Rattle.b67_deeds.specs.declared.Letter.{Letter}
use Rattle.b67_schedule.specs.Letters.{bytes_of}

-- what contracts see of a schedule: its runs, the letter of each action, and for how many actions there is room
pub record ScheduleModel : Type 0 where
  pub runs : List Run
  pub letters : List Letter
  pub room : ℕ

-- the greatest number in a schedule
abbrev pub most_in_schedule : ℕ
most_in_schedule = MOST_NUMBER

-- the process of each action, in order
abbrev pub entries : List Run → List ℕ
entries runs = flat_map (λ (run : Run). replicate run.times run.process) runs

-- the numbers of a run are from 1 to the greatest
pub record IsRun (run : Run) : Type 0 where
  pub process_least : 1 ≤ run.process
  pub process_greatest : run.process ≤ most_in_schedule
  pub times_least : 1 ≤ run.times
  pub times_greatest : run.times ≤ most_in_schedule

-- the runs have numbers in range, neighbours are of different processes, and there are not too many of them
pub record AreRuns (runs : List Run) : Type 0 where
  pub numbers : All IsRun runs
  pub differ : AllAdjacentBelow (λ (run next : Run). run.process ≢ next.process) runs (length runs)
  pub few : length runs ≤ most_in_schedule

-- a schedule: its runs, and a letter for each of their actions
pub record IsSchedule (runs : List Run) (letters : List Letter) : Type 0 where
  pub runs_are : AreRuns runs
  pub each : length letters ≡ length (entries runs)

-- the last run is of this process
abbrev pub IsLastRun : List Run → ℕ → Type 0
IsLastRun runs process = (0 < length runs) × ((d : Run) → (slice_index_or runs (length runs - 1) d).process ≡ process)

-- ---- version 1, which has no letters

-- the line p*n of n actions of process p
abbrev pub run_line : Run → List ℕ
run_line run = decimal run.process ++ codes "*" ++ decimal run.times ++ codes "\n"

-- the line SCHEDULE 1 with the number of runs, and the lines of the runs
abbrev pub OldText : List Run → List ℕ
OldText runs = codes "SCHEDULE 1 " ++ decimal (length runs) ++ codes "\n" ++ flat_map run_line runs

-- ---- version 2

-- the line of actions of a process: its number, a blank, and the letters
abbrev pub letter_line : ℕ → List Letter → List ℕ
letter_line process letters = decimal process ++ codes " " ++ bytes_of letters ++ codes "\n"

-- the line of each run, with as many of the letters as it has actions
abbrev pub letter_lines : List Run → List Letter → List ℕ
letter_lines [] letters = []
letter_lines (run ∷ runs) letters = letter_line run.process (take run.times letters) ++ letter_lines runs (drop run.times letters)

-- the line SCHEDULE 2 with the number of runs, and the lines of the runs
abbrev pub ScheduleText : List Run → List Letter → List ℕ
ScheduleText runs letters = codes "SCHEDULE 2 " ++ decimal (length runs) ++ codes "\n" ++ letter_lines runs letters
