-- What the command `console` answers: a source with a schedule beside it, and commands after the schedule.
use Rattle.std.specs.Prelude.{◌≡◌, ℕ, ◌++◌, List, codes, Option, Some, None}
use Rattle.std.specs.Fmt.{decimal}
use Rattle.algol_tree.specs.Plain.{PProgram}
use Rattle.b67_limits.specs.declared.TheConstants.{MOST_BUDGET}
use Rattle.b67_parts.specs.Parts.{Parts}
use Rattle.b67_schedule.specs.declared.reading.Given.{Given}
use Rattle.b67_schedule.specs.Giving.{given_entries}
use Rattle.b67_report.specs.declared.Report.{Report}
use Rattle.b67_report.specs.declared.EndWords.{EndWords}
use Rattle.b67_report.specs.declared.EndWords.TheVariants as ends
use Rattle.b67_report.specs.Texts.{ReportText, line_text}
use Rattle.b67_listing.specs.Listings.{ListingText}
use Rattle.b67_segment.specs.declared.code.Code.{Code}
use Rattle.b67_faithful.specs.Faithful.{Faithful}
use Rattle.b67_explain.specs.Explaining.{ExplainsReplay}
use Rattle.b67_commands.specs.declared.command.Command.{Command}
use Rattle.b67_commands.specs.Commands.{AreCommands, IsBadLine}
use Rattle.b67_console.specs.Telling.{ConsoleText}
use Rattle.b67_desk.specs.declared.status.Status.{Status}
use Rattle.b67_desk.specs.declared.status.Status.TheVariants as status
use Rattle.b67_desk.specs.Ends.{status_of}

-- ---- the texts beside the source

-- the schedule in the text beside a source, and the commands after it: what stands before the first record that is exactly %%CONSOLE, and after it
abbrev pub TextsAreApart : Option (List ℕ) → Option (List ℕ) → Option (List ℕ) → Type 0
TextsAreApart None schedule commands = (schedule ≡ None) × (commands ≡ None)
TextsAreApart (Some text) (Some schedule) commands = Parts (codes "%%CONSOLE") text schedule commands
TextsAreApart (Some text) None commands = ⊥

-- What the text beside a source is answered by: by what answers the two texts in it.
pub data InTwo (beside : Option (List ℕ)) (AnswersThem : Option (List ℕ) → Option (List ℕ) → List ℕ → Status → Type 0) : List ℕ → Status → Type 0 where
  in_two : (schedule commands : Option (List ℕ)) (text : List ℕ) (s : Status) → TextsAreApart beside schedule commands → AnswersThem schedule commands text s →
      InTwo beside AnswersThem text s

abbrev pub bad_console_text : ℕ → List ℕ
bad_console_text line = line_text (codes "BAD CONSOLE " ++ decimal line)

-- the first line that is no command, or is one more than the most; where there is no such record, that is said of the first line
abbrev pub IsBadConsole : Option (List ℕ) → ℕ → Type 0
IsBadConsole None line = line ≡ 1
IsBadConsole (Some text) line = IsBadLine text line

-- the commands that a text is
abbrev pub CommandsAreGiven : Option (List ℕ) → List Command → Type 0
CommandsAreGiven None commands = ⊥
CommandsAreGiven (Some text) commands = AreCommands text commands

-- What a text of commands is answered by: a refusal exactly where it is bad, else what answers the commands.
pub data OrBadConsole (text : Option (List ℕ)) (AnswersThem : List Command → List ℕ → Status → Type 0) : List ℕ → Status → Type 0 where
  bad_console : (line : ℕ) → IsBadConsole text line → OrBadConsole text AnswersThem (bad_console_text line) (status.BadConsole line)
  commanded : (commands : List Command) (answer : List ℕ) (s : Status) → CommandsAreGiven text commands → AnswersThem commands answer s → OrBadConsole text AnswersThem answer s

-- ---- the answer to the commands

-- all entries of a schedule are performed, and nothing else ends the run
abbrev pub IsWholeSchedule : EndWords → Type 0
IsWholeSchedule ends.Finished = Unit {0}
IsWholeSchedule (ends.Fault kind process) = Unit {0}
IsWholeSchedule ends.AllWaiting = Unit {0}
IsWholeSchedule ends.ScheduleEnded = Unit {0}
IsWholeSchedule end = ⊥

-- `console`: the schedule is replayed under the greatest budget. Where not all of it is performed, the report of that is the answer; else what the
-- commands show of the source, and of the code that this report lists, which does what the source does.
pub data Consoled (tree : PProgram) (given : Given) (commands : List Command) : List ℕ → Status → Type 0 where
  reported : (report : Report) → ExplainsReplay tree given MOST_BUDGET report → (IsWholeSchedule report.end → ⊥) → Consoled tree given commands (ReportText report) (status_of report.end)
  consoled : (report : Report) → ExplainsReplay tree given MOST_BUDGET report → IsWholeSchedule report.end → (code : Code) (text : List ℕ) → Faithful tree code →
      ListingText code report.listing → ConsoleText tree code (given_entries given) commands text → Consoled tree given commands text status.Finished
