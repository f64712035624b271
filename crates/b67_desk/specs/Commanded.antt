-- What the parts of the top call that answer commands promise one another.
use Rattle.std.specs.Prelude.{◌≡◌, ℕ, List, Option}
use Rattle.algol_tree.specs.Plain.{PProgram}
use Rattle.b67_limits.specs.declared.TheConstants.{MOST_BUDGET}
use Rattle.b67_schedule.specs.declared.reading.Given.{Given}
use Rattle.b67_schedule.specs.Giving.{given_entries}
use Rattle.b67_report.specs.declared.Report.{Report}
use Rattle.b67_listing.specs.Listings.{ListingText}
use Rattle.b67_segment.specs.declared.code.Code.{Code}
use Rattle.b67_explain.specs.Explaining.{ExplainsReplay}
use Rattle.b67_console.specs.Telling.{RunsWhole}
use Rattle.b67_desk.specs.declared.asking.Answer.{Answer}
use Rattle.b67_desk.specs.declared.consoling.Orders.{Orders}
use Rattle.b67_desk.specs.declared.consoling.Orders.TheVariants.{Told, Bad}
use Rattle.b67_desk.specs.declared.consoling.Replay.{Replay}
use Rattle.b67_desk.specs.declared.consoling.Replay.TheVariants.{Whole, Other}
use Rattle.b67_desk.specs.declared.status.Status.TheVariants as status
use Rattle.b67_desk.specs.Calls.{IsReportAnswer}
use Rattle.b67_desk.specs.Consoling.{bad_console_text, IsBadConsole, CommandsAreGiven, IsWholeSchedule}

-- the refusal of a text of commands that is bad at a line
pub record IsBadLineAt (line : ℕ) (a : Answer) : Type 0 where
  pub text : a.text.items ≡ bad_console_text line
  pub status : a.status ≡ status.BadConsole line

-- the commands that a text is; or it is bad, and then this is the refusal
abbrev pub AreOrders : Option (List ℕ) → Orders → Type 0
AreOrders text (Told commands) = CommandsAreGiven text commands
AreOrders text (Bad a) = (line : ℕ) × IsBadConsole text line × IsBadLineAt line a

-- what a replay came to, by its report: all of the schedule is performed; or not, and then this is the answer that is the report
abbrev pub IsToldBy : Report → Replay → Type 0
IsToldBy report Whole = IsWholeSchedule report.end
IsToldBy report (Other a) = (IsWholeSchedule report.end → ⊥) × IsReportAnswer report a

-- all that is given is performed with this code, which the report lists
pub record IsPerformed (code : Code) (given : Given) (report : Report) : Type 0 where
  pub listed : ListingText code report.listing
  pub runs : RunsWhole code (given_entries given)

-- What the replay of all that is given came to, with a code: all of it is performed; or it is reported, and then this is the answer.
abbrev pub IsReplay : PProgram → Code → Given → Replay → Type 0
IsReplay tree code given Whole = (report : Report) × ExplainsReplay tree given MOST_BUDGET report × IsWholeSchedule report.end × IsPerformed code given report
IsReplay tree code given (Other a) = (report : Report) × ExplainsReplay tree given MOST_BUDGET report × (IsWholeSchedule report.end → ⊥) × IsReportAnswer report a
