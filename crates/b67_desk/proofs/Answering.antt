-- From what a part of the top call found to the answer.
use Rattle.std.proofs.Common.{◌≡◌, ◌⊎◌, inl, inr, ℕ, ◌<◌, ◌≤◌, List, length, Option, None, Result, Ok, Err, refl, sym, subst}
use Rattle.std.specs.Prelude.{◌≢◌, IfSome, IfOk}
use Rattle.std.specs.declared.alloc.AllocError.{AllocError}
use Rattle.std.specs.Io.KnownBytes.{IsAtEnd}
use Rattle.algol_tree.specs.declared.TheConstants.{MOST_SOURCE_BYTES}
use Rattle.algol_tree.specs.declared.token.Spot.{Spot}
use Rattle.algol_tree.specs.declared.refusal.Code.{Code as SourceCode}
use Rattle.algol_tree.specs.Plain.{PProgram}
use Rattle.b67_io.specs.Faults.{Rose}
use Rattle.b67_io.specs.Writing.{WroteFront}
use Rattle.b67_io.specs.declared.writing.WriteAll.{WriteAll}
use Rattle.b67_io.specs.declared.writing.WriteAll.TheVariants as writes
use Rattle.b67_words.specs.Grammar.{WordsMean, run as run_command, check as check_command, list as list_command, replay as replay_command, judge as judge_command, race as race_command, dump as dump_command, console as console_command, outcomes as outcomes_command, exec as exec_command, trial as trial_command, meant}
use Rattle.b67_limits.specs.declared.TheConstants.{MOST_BUDGET, MOST_PROCESSORS}
use Rattle.b67_words.specs.declared.Rule.{Rule}
use Rattle.b67_words.specs.declared.Task.{Task}
use Rattle.b67_words.specs.declared.Words.{Words}
use Rattle.b67_words.specs.declared.Words.TheVariants.{OnSource, Exec, Trial}
use Rattle.b67_words.specs.declared.BadWords.{BadWords}
use Rattle.b67_report.specs.declared.Report.{Report}
use Rattle.b67_report.specs.Texts.{ReportText}
use Rattle.b67_make.specs.Made.{made}
use Rattle.b67_listing.specs.Listings.{ListingText}
use Rattle.b67_segment.specs.declared.code.Code.{Code}
use Rattle.b67_faithful.specs.Faithful.{Faithful}
use Rattle.b67_explain.specs.Shared.{ExplainsShared}
use Rattle.b67_explain.specs.Alone.{ExplainsAlone}
use Rattle.b67_ready.specs.declared.order.Order.TheVariants as orders
use Rattle.b67_ready.specs.Orders.{order_place_of}
use Rattle.b67_desk.specs.declared.status.Code.TheVariants.{OfSource}
use Rattle.b67_desk.specs.declared.status.Status.{Status}
use Rattle.b67_desk.specs.declared.status.Status.TheVariants as status
use Rattle.b67_desk.specs.declared.asking.Answer.{Answer}
use Rattle.b67_desk.specs.declared.asking.Unanswered.{Unanswered}
use Rattle.b67_desk.specs.declared.asking.Unanswered.TheVariants as why
use Rattle.b67_desk.specs.declared.asking.Job.{Job}
use Rattle.b67_desk.specs.declared.asking.Asked.{Asked}
use Rattle.b67_desk.specs.declared.asking.Asked.TheVariants as asked
use Rattle.b67_desk.specs.declared.asking.Found.TheVariants as found
use Rattle.b67_desk.specs.Answers.{order_of, usage_text, refused_text, listing_text, Workers, by_one, by_all, DeskRuns, ran, Lists, listed, trial_text, Tries, tried, AnswersTree, IsSourceOf, IsRefusedAt, RefusedOr, refused, accepted, IsDivided, AnswersBytes, ReadsInput, AnswersInput, long_part, divided, most_bytes, AnswersSource, too_long, too_long_text, read, Reading, Untouched, AnswersCommand, Answers, usage, answered, ReadsIfAsked, Writing, HasAnswer, write_fault}
use Rattle.b67_desk.specs.Ends.{status_of}
use Rattle.b67_desk.specs.Calls.{IsReported, Asks, settled, InRange, SourceIsFound, SourceAsked, CommandAsked, CallAsked, IsUsage, IsRefusal, IsReportAnswer, IsTrialAnswer, IsRunAnswer, IsTooLong}

-- ---- what is asked for

-- an answer that is there, whoever works
pub settled_asks : (Its : Workers → List ℕ → Status → Type 0) (answer : Result Answer AllocError) (result : Result Asked AllocError) → result ≡ settled answer →
    ((by : Workers) → IfOk answer (λ a. Its by a.text.items a.status)) → IfOk result (Asks Its)
settled_asks Its (Ok a) result is its = subst (λ (r : Result Asked AllocError). IfOk r (Asks Its)) (sym is) its
settled_asks Its (Err e) result is its = subst (λ (r : Result Asked AllocError). IfOk r (Asks Its)) (sym is) (its by_one)

-- what is asked for, seen from further out
module _ (Its Others : Workers → List ℕ → Status → Type 0) (out : (by : Workers) (text : List ℕ) (s : Status) → Its by text s → Others by text s) where
  pub asks_so : (a : Asked) → Asks Its a → Asks Others a
  asks_so (asked.Settled a) asks = λ by. out by a.text.items a.status (asks by)
  asks_so (asked.Run job) asks = (asks.0, λ by report is. out by (ReportText report) (status_of report.end) (asks.1 by report is))

  pub asks_out : (result : Result Asked AllocError) → IfOk result (Asks Its) → IfOk result (Asks Others)
  asks_out (Ok a) asks = asks_so a asks
  asks_out (Err e) asks = asks

-- a run of a source
pub run_asks : (processors budget : ℕ) (rule : Rule) (tree : PProgram) (code : Code) → Faithful tree code → (1 ≤ processors) × (processors ≤ MOST_PROCESSORS) →
    (1 ≤ budget) × (budget ≤ MOST_BUDGET) →
    Asks (λ by. DeskRuns by processors budget rule tree) (asked.Run (record { processors = processors; budget = budget; rule = rule; code = code }))
run_asks processors budget rule tree code faithful some budget_is =
    (record { faithful = (tree, faithful); processors = some; budget = budget_is }, λ by report is. ran report (is tree faithful))

-- ---- trials and listings

-- the run of a source that was made
tried_is : (bytes : ℕ) (tree : PProgram) (report : Report) (a : Answer) → ExplainsAlone tree (order_place_of orders.Fifo) 1 MOST_BUDGET report → IsTrialAnswer bytes report a →
    Tries bytes tree a.text.items a.status
tried_is bytes tree report a explains is =
    subst (λ (t : List ℕ). Tries bytes tree t a.status) (sym is.text)
    (subst (λ (s : Status). Tries bytes tree (trial_text bytes report) s) (sym is.status) (tried report explains))

pub tried_answered : (bytes : ℕ) (tree : PProgram) (report : Report) (result : Result Answer AllocError) → ExplainsAlone tree (order_place_of orders.Fifo) 1 MOST_BUDGET report →
    IfOk result (IsTrialAnswer bytes report) → IfOk result (λ a. Tries bytes tree a.text.items a.status)
tried_answered bytes tree report (Ok a) explains is = tried_is bytes tree report a explains is
tried_answered bytes tree report (Err e) explains is = is

-- a listing
pub listed_is : (tree : PProgram) (code : Code) (lines : List (List ℕ)) (text : List ℕ) → Faithful tree code → ListingText code lines → text ≡ listing_text lines →
    Lists tree text status.Finished
listed_is tree code lines text faithful are is = subst (λ (t : List ℕ). Lists tree t status.Finished) (sym is) (listed code lines faithful are)

-- what a task asks for
pub task_asks : (task other : Task) (beside : Option (List ℕ)) (input : ℕ) (tree : PProgram) (result : Result Asked AllocError) → task ≡ other →
    IfOk result (Asks (λ by. AnswersTree by (OnSource other) beside input tree)) → IfOk result (Asks (λ by. AnswersTree by (OnSource task) beside input tree))
task_asks task other beside input tree result same asks =
    subst (λ (t : Task). IfOk result (Asks (λ by. AnswersTree by (OnSource t) beside input tree))) (sym same) asks

-- ---- what a source is found to be

-- what answers the tree of a source answers the bytes that it is in
pub tree_out : (command : Words) (bytes source : List ℕ) (beside : Option (List ℕ)) (tree : PProgram) → IsDivided command bytes source beside →
    (length source ≤ MOST_SOURCE_BYTES) × IsSourceOf source tree → (by : Workers) (text : List ℕ) (s : Status) →
    AnswersTree by command beside (length bytes) tree text s → AnswersBytes by command bytes text s
tree_out command bytes source beside tree parts is by text s answers = divided source beside text s parts is.0 (accepted tree text s is.1 answers)

-- and so does the refusal of a source
module _ (by : Workers) (command : Words) (bytes source : List ℕ) (beside : Option (List ℕ)) (parts : IsDivided command bytes source beside) where
  long_is : (a : Answer) → MOST_SOURCE_BYTES < length source → IsTooLong a → AnswersBytes by command bytes a.text.items a.status
  long_is a more is =
      subst (λ (t : List ℕ). AnswersBytes by command bytes t a.status) (sym is.text)
      (subst (λ (s : Status). AnswersBytes by command bytes too_long_text s) (sym is.status) (long_part source beside parts more))

  refused_is : (Its : PProgram → List ℕ → Status → Type 0) (place : Spot) (code : SourceCode) (a : Answer) → IsRefusedAt source place code →
      IsRefusal place (OfSource code) a → RefusedOr source Its a.text.items a.status
  refused_is Its place code a at is =
      subst (λ (t : List ℕ). RefusedOr source Its t a.status) (sym is.text)
      (subst (λ (s : Status). RefusedOr source Its (refused_text place (OfSource code)) s) (sym is.status) (refused place code at))

  pub none_out : (a : Answer) → SourceIsFound source (found.Refused a) → AnswersBytes by command bytes a.text.items a.status
  none_out a (inl (more, is)) = long_is a more is
  none_out a (inr (small, place, code, at, is)) =
      divided source beside a.text.items a.status parts small (refused_is (AnswersTree by command beside (length bytes)) place code a at is)

-- the run of a source that was made answers its number
pub trial_out : (by : Workers) (n : ℕ) (source : List ℕ) (tree : PProgram) (result : Result Answer AllocError) → source ≡ made n →
    (length source ≤ MOST_SOURCE_BYTES) × IsSourceOf source tree → IfOk result (λ a. Tries (length source) tree a.text.items a.status) →
    IfOk result (λ a. AnswersBytes by (Trial n) (made n) a.text.items a.status)
trial_out by n source tree (Ok a) same is tries =
    tree_out (Trial n) (made n) source None tree (same, refl) is by a.text.items a.status
    (subst (λ (bytes : List ℕ). Tries (length bytes) tree a.text.items a.status) same tries)
trial_out by n source tree (Err e) same is tries = tries

pub in_range : (words : List (List ℕ)) (command : Words) → WordsMean words (Ok command) → InRange command
in_range words command (meant ws meaning (run_command first second last p b rule f s n)) = (f.least, f.greatest, s.least, s.greatest)
in_range words command (meant ws meaning check_command) = tt
in_range words command (meant ws meaning list_command) = tt
in_range words command (meant ws meaning (replay_command first b f)) = (f.least, f.greatest)
in_range words command (meant ws meaning judge_command) = tt
in_range words command (meant ws meaning race_command) = tt
in_range words command (meant ws meaning (dump_command number k f)) = tt
in_range words command (meant ws meaning console_command) = tt
in_range words command (meant ws meaning (outcomes_command number n f)) = (f.least, f.greatest)
in_range words command (meant ws meaning (exec_command first b f)) = (f.least, f.greatest)
in_range words command (meant ws meaning (trial_command first n f)) = tt

-- ---- what is read

-- what answers the bytes that were read answers the source
pub input_out : (command : Words) (most : ℕ) (left left_after : Option (List ℕ)) (items bytes : List ℕ) → bytes ≡ items → most ≡ most_bytes command →
    (length items ≤ most) × IfSome left (λ all. items ≡ all) × IsAtEnd left_after → (by : Workers) (text : List ℕ) (s : Status) →
    AnswersInput by command bytes text s → AnswersSource by command left left_after text s
input_out command most left left_after items bytes is most_is (small, all, end) by text s a =
    read items text s (subst (λ (n : ℕ). length items ≤ n) most_is small) all end (subst (λ (b : List ℕ). AnswersInput by command b text s) is a)

pub too_long_is : (by : Workers) (command : Words) (most : ℕ) (left left_after : Option (List ℕ)) (a : Answer) → most ≡ most_bytes command → IfSome left (λ bytes. most < length bytes) → IsTooLong a →
    AnswersSource by command left left_after a.text.items a.status
too_long_is by command most left left_after a most_is more is =
    subst (λ (t : List ℕ). AnswersSource by command left left_after t a.status) (sym is.text)
    (subst (λ (s : Status). AnswersSource by command left left_after too_long_text s) (sym is.status)
    (too_long (subst (λ (n : ℕ). IfSome left (λ bytes. n < length bytes)) most_is more)))

-- ---- a command that reads its input, and one that reads nothing

source_out : (command : Words) (r : Reading) → ReadsInput command → (by : Workers) (text : List ℕ) (s : Status) → AnswersSource by command r.left r.left_after text s →
    AnswersCommand by command r text s
source_out (OnSource task) r reads by text s is = is
source_out (Exec budget) r reads by text s is = is
source_out (Trial n) r reads by text s is = absurd reads

pub source_asks : (command : Words) (r : Reading) (result : Result Asked Unanswered) → ReadsInput command → SourceAsked command r result → CommandAsked command r result
source_asks command r (Ok a) reads asks =
    (asks_so (λ by. AnswersSource by command r.left r.left_after) (λ by. AnswersCommand by command r) (source_out command r reads) a asks, inl reads)
source_asks command r (Err why.ReadFault) reads rose = (reads, rose)
source_asks command r (Err why.NoMemory) reads s = inl reads

pub command_is : (command other : Words) (r : Reading) (result : Result Asked Unanswered) → command ≡ other → CommandAsked other r result → CommandAsked command r result
command_is command other r result same asks = subst (λ (w : Words). CommandAsked w r result) (sym same) asks

pub trial_asks : (n : ℕ) (r : Reading) (a : Asked) → Untouched r → Asks (λ by. AnswersBytes by (Trial n) (made n)) a → CommandAsked (Trial n) r (Ok a)
trial_asks n r a still asks =
    (asks_so (λ by. AnswersBytes by (Trial n) (made n)) (λ by. AnswersCommand by (Trial n) r) (λ by text s answers. (still, answers)) a asks, inr still)

reads_asked : (words : List (List ℕ)) (r : Reading) (command : Words) → WordsMean words (Ok command) → ReadsInput command ⊎ Untouched r → ReadsIfAsked words r
reads_asked words r command m (inl reads) = inl (record { command = command; means = m; reads = reads })
reads_asked words r command m (inr still) = inr still

pub command_asks : (words : List (List ℕ)) (r : Reading) (command : Words) (result : Result Asked Unanswered) → WordsMean words (Ok command) →
    CommandAsked command r result → CallAsked words r result
command_asks words r command (Ok a) m asks =
    (asks_so (λ by. AnswersCommand by command r) (λ by. Answers by words r) (λ by text s. answered command text s m) a asks.0, reads_asked words r command m asks.1)
command_asks words r command (Err why.ReadFault) m failed = record { asked = record { command = command; means = m; reads = failed.0 }; rose = failed.1 }
command_asks words r command (Err why.NoMemory) m is = reads_asked words r command m is

pub usage_asks : (words : List (List ℕ)) (r : Reading) (broken : BadWords) (result : Result Asked Unanswered) → Untouched r → WordsMean words (Err broken) →
    IsUsage broken result → CallAsked words r result
usage_asks words r broken (Ok (asked.Settled a)) still m u = (
  λ by.
      subst (λ (t : List ℕ). Answers by words r t a.status) (sym u.3)
      (subst (λ (s : Status). Answers by words r (usage_text u.0 u.1) s) (sym u.4) (usage u.0 u.1 (subst (λ b. WordsMean words (Err b)) u.2 m) still)),
  inr still,
)
usage_asks words r broken (Ok (asked.Run job)) still m u = absurd u
usage_asks words r broken (Err why.ReadFault) still m u = absurd u
usage_asks words r broken (Err why.NoMemory) still m u = inr still

-- ---- a run that is made

-- the answer that tells a report
pub report_answers : (by : Workers) (job : Job) (report : Report) (result : Result Answer AllocError) → IsReported by job report →
    IfOk result (IsReportAnswer report) → IfOk result (IsRunAnswer by job)
report_answers by job report (Ok a) reported told = record { report = report; reported = reported; told = told }
report_answers by job report (Err e) reported told = told

-- a run by one serves, by whomever the work of runs is done
pub one_serves : (by : Workers) (job : Job) (result : Result Answer AllocError) → by job.processors ≡ 1 → IfOk result (IsRunAnswer by_one job) →
    IfOk result (IsRunAnswer by job)
one_serves by job (Ok a) one is = record {
  report = is.report;
  reported = λ tree faithful.
      let x = is.reported tree faithful in
      record { explains = x.explains; alone = λ same. x.alone refl; shared = λ more. absurd (more one) };
  told = is.told;
}
one_serves by job (Err e) one is = is

-- a run by several says nothing of turns, but that it was under the rule
pub several_report : (job : Job) (report : Report) → job.processors ≢ 1 →
    ((tree : PProgram) → Faithful tree job.code → ExplainsShared tree (order_place_of (order_of job.rule)) job.processors job.budget report) → IsReported by_all job report
several_report job report several explains = λ tree faithful.
    let x = explains tree faithful in record { explains = x.explains; alone = λ one. absurd (several one); shared = λ more. x }

pub run_answered : (by : Workers) (words : List (List ℕ)) (r : Reading) (job : Job) (a : Answer) → Asks (λ by. Answers by words r) (asked.Run job) →
    IsRunAnswer by job a → Answers by words r a.text.items a.status
run_answered by words r job a asks is =
    subst (λ (t : List ℕ). Answers by words r t a.status) (sym is.told.text)
    (subst (λ (s : Status). Answers by words r (ReportText is.report) s) (sym is.told.status) (asks.1 by is.report is.reported))

pub not_written : (by : Workers) (words : List (List ℕ)) (r : Reading) (w : Writing) (text : List ℕ) (s : Status) (e : WriteAll) → Answers by words r text s → WroteFront w.written w.written_after text e → Rose w.faults w.faults_after →
    HasAnswer by words r w status.WriteFault
not_written by words r w text s (writes.Failed count) a front rose = write_fault text s count a front.0 front.1 rose
