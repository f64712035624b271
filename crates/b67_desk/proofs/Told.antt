-- From a run of a machine to what its report explains.
use Rattle.std.proofs.Common.{◌≡◌, ℕ, ◌≤◌, List, length, Result, Ok, Err, refl, sym, subst, ◌∙◌}
use Rattle.std.specs.Prelude.{◌≢◌, IfOk}
use Rattle.std.specs.List.{All}
use Rattle.std.specs.declared.alloc.AllocError.{AllocError}
use Rattle.algol_tree.specs.Plain.{PProgram}
use Rattle.b67_listing.specs.Listings.{ListingText, IsListable}
use Rattle.b67_segment.specs.declared.TheConstants.{MOST_SEGMENT_WORDS}
use Rattle.b67_segment.specs.declared.code.Code.{Code}
use Rattle.b67_segment.specs.declared.code.Segment.{Segment}
use Rattle.b67_schedule.specs.declared.reading.Given.{Given}
use Rattle.b67_schedule.specs.Schedules.{entries, IsSchedule, ScheduleModel}
use Rattle.b67_report.specs.declared.Report.{Report}
use Rattle.b67_machine.specs.declared.replay.Replayed.{Replayed}
use Rattle.b67_machine.specs.declared.replay.Replayed.TheVariants.{NoMemory}
use Rattle.b67_table.specs.Sound.{Sound}
use Rattle.b67_machine.specs.Kept.{MachineModel}
use Rattle.b67_machine.specs.Reads.{machine_end}
use Rattle.b67_machine.specs.Replaying.{Replays}
use Rattle.b67_faithful.specs.Faithful.{Faithful}
use Rattle.b67_ready.specs.Orders.{order_place_of}
use Rattle.b67_stands.specs.Picked.{Pick}
use Rattle.b67_stands.specs.Ran.{HasRun, HasRunAlone, HasRunShared}
use Rattle.b67_explain.specs.Alone.{ExplainsAlone}
use Rattle.b67_explain.specs.Explaining.{ExplainsReplay}
use Rattle.b67_explain.specs.Shared.{ExplainsShared}
use Rattle.b67_explain.specs.Telling.{CanBeTold, AreOfFirst, IsReportOf}
use Rattle.b67_explain.proofs.Explained.{replay_explained}
use Rattle.b67_explain.proofs.Ran.{left_can_be_told, left_alone_explained, left_shared_explained}
use Rattle.algol_laws.proofs.Growing.{each_grows}
use Rattle.b67_desk.specs.declared.asking.Job.{Job}
use Rattle.b67_desk.specs.Answers.{by_one, order_of}
use Rattle.b67_desk.specs.Calls.{ReportIsLeft, IsReported}

pub segments_short : (code : Code) → IsListable code → All (λ (segment : Segment). length segment.words ≤ MOST_SEGMENT_WORDS) code.segments
segments_short code listable = λ k first inside. (listable.segments k first inside).1.few

-- the machine's code is sound, and its segments are short
pub kept_short : (code kept : Code) (tree : PProgram) → Faithful tree code → kept ≡ code →
    Sound kept × All (λ (segment : Segment). length segment.words ≤ MOST_SEGMENT_WORDS) kept.segments
kept_short code kept tree faithful same =
    subst (λ (k : Code). Sound k × All (λ (segment : Segment). length segment.words ≤ MOST_SEGMENT_WORDS) k.segments) (sym same)
    (faithful.follows.sound, segments_short code faithful.listable)

-- how a run ended can be told
pub ran_can_be_told : (code kept : Code) (tree : PProgram) → Faithful tree code → (budget : ℕ) (m : MachineModel) (schedule : ScheduleModel) (answer : Replayed) → answer ≢ NoMemory →
    kept ≡ code → HasRun kept budget m schedule answer → CanBeTold answer (machine_end m)
ran_can_be_told code kept tree faithful budget m schedule answer some same run =
    left_can_be_told each_grows tree code faithful budget m schedule answer some (subst (λ (k : Code). HasRun k budget m schedule answer) same run)

pub alone_can_be_told : (code kept : Code) (tree : PProgram) → Faithful tree code → (budget : ℕ) (pick : Pick) (m : MachineModel) (schedule : ScheduleModel) (answer : Replayed) →
    answer ≢ NoMemory → kept ≡ code → HasRunAlone kept budget pick m schedule answer → CanBeTold answer (machine_end m)
alone_can_be_told code kept tree faithful budget pick m schedule answer some same run =
    ran_can_be_told code kept tree faithful budget m schedule answer some same run.has_run

-- what is left of a run is told by its report
pub left_is : (m : MachineModel) (answer : Replayed) (lines : List (List ℕ)) (processors : ℕ) (schedule : ScheduleModel) (result : Result Report AllocError) → answer ≢ NoMemory →
    IsSchedule schedule.runs schedule.letters → IfOk result (IsReportOf m answer lines processors schedule) → IfOk result (ReportIsLeft m answer lines processors schedule)
left_is m answer lines processors schedule (Ok report) some valid is = record { some = some; valid = valid; is = is }
left_is m answer lines processors schedule (Err e) some valid is = is

-- what a report of a run in the caller explains, where there is one
pub run_reported : (job : Job) (m : MachineModel) (answer : Replayed) (schedule : ScheduleModel) → HasRunAlone job.code job.budget (order_place_of (order_of job.rule)) m schedule answer →
    (acts : List ℕ) → AreOfFirst job.processors (length (entries schedule.runs)) acts → (lines : List (List ℕ)) (result : Result Report AllocError) →
    IfOk result (ReportIsLeft m answer lines job.processors schedule) → IfOk result (λ report. report.acts ≡ acts) → ListingText job.code lines → IfOk result (IsReported by_one job)
run_reported job m answer schedule alone acts first lines (Ok report) left same listed = λ tree faithful.
    let x : ExplainsAlone tree (order_place_of (order_of job.rule)) job.processors job.budget report =
    left_alone_explained each_grows tree job.code faithful job.budget m schedule answer left.some job.processors lines report left.is left.valid listed (order_place_of (order_of job.rule)) alone
    (same ∙ first) in
    record { explains = x.explains; alone = λ one. x; shared = λ more. absurd (more refl) }
run_reported job m answer schedule alone acts first lines (Err e) left same listed = left

-- and of one that processors shared
pub share_reported : (job : Job) (m : MachineModel) (answer : Replayed) (schedule : ScheduleModel) (acts : List ℕ) →
    HasRunShared job.code job.budget (order_place_of (order_of job.rule)) job.processors m schedule answer acts → (lines : List (List ℕ)) (result : Result Report AllocError) →
    IfOk result (ReportIsLeft m answer lines job.processors schedule) → IfOk result (λ report. report.acts ≡ acts) → ListingText job.code lines →
    IfOk result (λ report. (tree : PProgram) → Faithful tree job.code → ExplainsShared tree (order_place_of (order_of job.rule)) job.processors job.budget report)
share_reported job m answer schedule acts run lines (Ok report) left same listed = λ tree faithful.
    left_shared_explained each_grows tree job.code faithful job.budget m schedule answer left.some job.processors lines report left.is left.valid listed (order_place_of (order_of job.rule)) acts
    same run
share_reported job m answer schedule acts run lines (Err e) left same listed = left

-- and of a replay
pub replay_answered : (code : Code) (given : Given) (budget : ℕ) (m : MachineModel) (answer : Replayed) (schedule : ScheduleModel) → Replays code given budget schedule m answer →
    (lines : List (List ℕ)) (result : Result Report AllocError) → IfOk result (ReportIsLeft m answer lines 1 schedule) → ListingText code lines →
    IfOk result (λ report. (tree : PProgram) → Faithful tree code → ExplainsReplay tree given budget report)
replay_answered code given budget m answer schedule replays lines (Ok report) left listed =
    λ tree faithful. replay_explained each_grows tree code faithful given budget m answer schedule replays lines report left.is left.valid listed
replay_answered code given budget m answer schedule replays lines (Err e) left listed = left
