-- From what is given of a schedule and of commands to the answer.
use Rattle.std.proofs.Common.{◌≡◌, sym, subst, ℕ, List, Option, Some, Result, Ok, Err}
use Rattle.std.specs.Prelude.{IfOk}
use Rattle.std.specs.declared.alloc.AllocError.{AllocError}
use Rattle.algol_tree.specs.Plain.{PProgram}
use Rattle.b67_limits.specs.declared.TheConstants.{MOST_BUDGET}
use Rattle.b67_schedule.specs.declared.reading.Given.{Given}
use Rattle.b67_schedule.specs.Giving.{given_entries}
use Rattle.b67_report.specs.declared.Report.{Report}
use Rattle.b67_report.specs.Texts.{ReportText}
use Rattle.b67_segment.specs.declared.code.Code.{Code}
use Rattle.b67_faithful.specs.Faithful.{Faithful}
use Rattle.b67_explain.specs.Explaining.{ExplainsReplay}
use Rattle.b67_console.specs.Telling.{ConsoleText, RunsWhole}
use Rattle.b67_commands.specs.declared.command.Command.{Command}
use Rattle.b67_commands.specs.Commands.{AreCommands}
use Rattle.b67_desk.specs.declared.asking.Answer.{Answer}
use Rattle.b67_desk.specs.declared.consoling.Orders.TheVariants.{Told, Bad}
use Rattle.b67_desk.specs.declared.consoling.Replay.{Replay}
use Rattle.b67_desk.specs.declared.consoling.Replay.TheVariants.{Whole, Other}
use Rattle.b67_desk.specs.declared.status.Status.{Status}
use Rattle.b67_desk.specs.declared.status.Status.TheVariants as status
use Rattle.b67_desk.specs.Commanded.{IsBadLineAt, AreOrders, IsPerformed, IsReplay, IsToldBy}
use Rattle.b67_desk.specs.Consoling.{TextsAreApart, InTwo, in_two, bad_console_text, IsBadConsole, CommandsAreGiven, OrBadConsole, bad_console, commanded, IsWholeSchedule, Consoled, reported, consoled}

-- ---- the texts beside a source

pub two_is : (beside schedule commands : Option (List ℕ)) (Its : Option (List ℕ) → Option (List ℕ) → List ℕ → Status → Type 0) (a : Answer) → TextsAreApart beside schedule commands →
    Its schedule commands a.text.items a.status → InTwo beside Its a.text.items a.status
two_is beside schedule commands Its a apart is = in_two schedule commands a.text.items a.status apart is

pub two_answered : (beside schedule commands : Option (List ℕ)) (Its : Option (List ℕ) → Option (List ℕ) → List ℕ → Status → Type 0) (result : Result Answer AllocError) →
    TextsAreApart beside schedule commands → IfOk result (λ a. Its schedule commands a.text.items a.status) → IfOk result (λ a. InTwo beside Its a.text.items a.status)
two_answered beside schedule commands Its (Ok a) apart is = two_is beside schedule commands Its a apart is
two_answered beside schedule commands Its (Err e) apart is = is

pub told_orders : (text : Option (List ℕ)) (bytes : List ℕ) (commands : List Command) → text ≡ Some bytes → AreCommands bytes commands → AreOrders text (Told commands)
told_orders text bytes commands same are = subst (λ (o : Option (List ℕ)). AreOrders o (Told commands)) (sym same) are

pub bad_orders : (text kept : Option (List ℕ)) (line : ℕ) (a : Answer) → text ≡ kept → IsBadConsole kept line → IsBadLineAt line a → AreOrders text (Bad a)
bad_orders text kept line a same bad is = (line, subst (λ (o : Option (List ℕ)). IsBadConsole o line) (sym same) bad, is)

module _ (text : Option (List ℕ)) (Its : List Command → List ℕ → Status → Type 0) where
  pub orders_answered : (commands : List Command) (result : Result Answer AllocError) → CommandsAreGiven text commands → IfOk result (λ a. Its commands a.text.items a.status) →
      IfOk result (λ a. OrBadConsole text Its a.text.items a.status)
  orders_answered commands (Ok a) are is = commanded commands a.text.items a.status are is
  orders_answered commands (Err e) are is = is

  pub bad_answered : (a : Answer) → AreOrders text (Bad a) → OrBadConsole text Its a.text.items a.status
  bad_answered a (line, bad, is) =
      subst (λ (t : List ℕ). OrBadConsole text Its t a.status) (sym is.text)
      (subst (λ (s : Status). OrBadConsole text Its (bad_console_text line) s) (sym is.status) (bad_console line bad))

-- ---- what answers the commands

module _ (tree : PProgram) (given : Given) (commands : List Command) where
  pub reported_is : (code : Code) (a : Answer) → IsReplay tree code given (Other a) → Consoled tree given commands a.text.items a.status
  reported_is code a (report, explains, other, is) =
      subst (λ (t : List ℕ). Consoled tree given commands t a.status) (sym is.text)
      (subst (λ (s : Status). Consoled tree given commands (ReportText report) s) (sym is.status) (reported report explains other))

  pub consoled_is : (code : Code) (text : List ℕ) → Faithful tree code → IsReplay tree code given Whole → ConsoleText tree code (given_entries given) commands text →
      Consoled tree given commands text status.Finished
  consoled_is code text faithful (report, explains, whole, performed) is = consoled report explains whole code text faithful performed.listed is

  pub performed_whole : (code : Code) → IsReplay tree code given Whole → RunsWhole code (given_entries given)
  performed_whole code (report, explains, whole, performed) = performed.runs

-- ---- the replay of all that is given

pub replay_is : (tree : PProgram) (code : Code) (given : Given) (report : Report) (result : Result Replay AllocError) → ExplainsReplay tree given MOST_BUDGET report →
    (IsWholeSchedule report.end → IsPerformed code given report) → IfOk result (IsToldBy report) → IfOk result (IsReplay tree code given)
replay_is tree code given report (Ok Whole) explains performed whole = (report, explains, whole, performed whole)
replay_is tree code given report (Ok (Other a)) explains performed (other, is) = (report, explains, other, is)
replay_is tree code given report (Err e) explains performed is = is
