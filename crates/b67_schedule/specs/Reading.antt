-- The texts of schedules, part by part.
use Rattle.std.specs.Prelude.{◌≡◌, ◌⊎◌, ℕ, ◌<◌, ◌≤◌, Option, List, ◌++◌, length, codes}
use Rattle.b67_text.specs.Texts.{IsRefused, StopsAt, PartStands, HasByte}
use Rattle.b67_text.specs.declared.number.Numbers.{Numbers}
use Rattle.b67_schedule.specs.declared.Run.{Run}
use Rattle.b67_deeds.specs.declared.Letter.{Letter}
use Rattle.b67_schedule.specs.declared.refusal.ReadSchedule.{ReadSchedule}
use Rattle.b67_schedule.specs.declared.refusal.ReadSchedule.TheVariants.{Bad, NoMemory}
use Rattle.b67_deeds.specs.Letters.{byte_of}
use Rattle.b67_schedule.specs.Letters.{bytes_of}
use Rattle.b67_schedule.specs.Lines as lines
use Rattle.b67_schedule.specs.Schedules.{most_in_schedule, IsRun, AreRuns, IsSchedule, run_line, OldText, letter_line, ScheduleText}

-- the text of runs, in version 1
pub record IsOldText (text : List ℕ) : Type 0 where
  pub runs : List Run
  pub are : AreRuns runs
  pub text_is : text ≡ OldText runs

-- the text of a schedule, in version 2
pub record IsScheduleText (text : List ℕ) : Type 0 where
  pub runs : List Run
  pub letters : List Letter
  pub schedule : IsSchedule runs letters
  pub text_is : text ≡ ScheduleText runs letters

-- a text of either version
abbrev pub IsGivenText : List ℕ → Type 0
IsGivenText text = IsOldText text ⊎ IsScheduleText text

-- the numbers of a schedule's text from this one on, without the other
abbrev pub numbers_of_schedule : ℕ → Option ℕ → Numbers
numbers_of_schedule least except = record { least = least; most = most_in_schedule; except = except }

-- ---- version 1

abbrev pub process_of : Run → ℕ
process_of run = run.process

abbrev pub CanFollow : Option ℕ → Run → Type 0
CanFollow before run = lines.CanFollow Run process_of IsRun before run

abbrev pub IsRunLine : Option ℕ → List ℕ → Type 0
IsRunLine before text = lines.IsLine Run process_of IsRun run_line before text

abbrev pub Follow : Option ℕ → List Run → Type 0
Follow before runs = lines.Follow Run process_of IsRun before runs

abbrev pub AreRunLines : Option ℕ → ℕ → List ℕ → Type 0
AreRunLines before count text = lines.AreLines Run process_of IsRun run_line before count text

-- ---- version 2

-- actions of a process, one after another
pub record Lettered : Type 0 where
  pub process : ℕ
  pub letters : List Letter

pub record IsLettered (item : Lettered) : Type 0 where
  pub process_least : 1 ≤ item.process
  pub process_greatest : item.process ≤ most_in_schedule
  pub some : 1 ≤ length item.letters
  pub few : length item.letters ≤ most_in_schedule

abbrev pub process_in : Lettered → ℕ
process_in item = item.process

abbrev pub letters_in : Lettered → List Letter
letters_in item = item.letters

abbrev pub run_in : Lettered → Run
run_in item = record { process = item.process; times = length item.letters }

abbrev pub line_in : Lettered → List ℕ
line_in item = letter_line item.process item.letters

abbrev pub EntryCanStand : Option ℕ → Lettered → Type 0
EntryCanStand before item = lines.CanFollow Lettered process_in IsLettered before item

abbrev pub IsLetterLine : Option ℕ → List ℕ → Type 0
IsLetterLine before text = lines.IsLine Lettered process_in IsLettered line_in before text

abbrev pub Stand : Option ℕ → List Lettered → Type 0
Stand before items = lines.Follow Lettered process_in IsLettered before items

abbrev pub AreLetterLines : Option ℕ → ℕ → List ℕ → Type 0
AreLetterLines before count text = lines.AreLines Lettered process_in IsLettered line_in before count text

-- the letters of actions, and the end of the line
pub record AreLetters (text : List ℕ) : Type 0 where
  pub letters : List Letter
  pub some : 1 ≤ length letters
  pub few : length letters ≤ most_in_schedule
  pub text_is : text ≡ bytes_of letters ++ codes "\n"

-- so many letters stand from a place on to the next and are added to those before, and no more can stand there
pub record AreMost (bytes : List ℕ) (at : ℕ) (before after : List Letter) (times next : ℕ) : Type 0 where
  pub letters : List Letter
  pub added : after ≡ before ++ letters
  pub times_are : times ≡ length letters
  pub few : length letters ≤ most_in_schedule
  pub stand : PartStands (bytes_of letters) bytes at next
  pub longest : (letter : Letter) → HasByte (byte_of letter) bytes next → length letters < most_in_schedule → ⊥

-- ---- refusals

-- a refusal of bytes as one of these texts: at the end of the longest front that begins one, or for want of memory
abbrev pub ScheduleRefuses : (List ℕ → Type 0) → ReadSchedule → List ℕ → Type 0
ScheduleRefuses Is (Bad bad) bytes = IsRefused Is bytes bad.byte
ScheduleRefuses Is NoMemory bytes = Unit {0}

-- the same of a part of a text at a place
abbrev pub RefusesAt : ReadSchedule → (List ℕ → Type 0) → List ℕ → ℕ → Type 0
RefusesAt (Bad bad) Is bytes at = StopsAt Is bytes at bad.byte
RefusesAt NoMemory Is bytes at = Unit {0}
