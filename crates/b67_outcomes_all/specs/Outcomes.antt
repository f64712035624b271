-- Everything that a source can print: its outcomes, each with a schedule, and when they are all.
use Rattle.std.specs.Prelude.{◌≡◌, ◌⊎◌, ℕ, ◌+◌, ◌<◌, ◌≤◌, Bool, true, false, List, [], ◌∷◌, ◌++◌, length, reverse, All, Contains, Some, slice_get}
use Rattle.b67_limits.specs.declared.TheConstants.{MOST_BUDGET}
use Rattle.b67_list.specs.Numbered.{numbered}
use Rattle.algol_tree.specs.Plain.{PProgram}
use Rattle.algol_meaning.specs.World.{World}
use Rattle.algol_meaning.specs.Run.{run, end_of, End, finished, fault, all_waiting}
use Rattle.b67_segment.specs.declared.code.Code.{Code}
use Rattle.b67_table.specs.Image.{Image}
use Rattle.b67_table.specs.Ending.{may_act}
use Rattle.b67_table.specs.Table.{length_in}
use Rattle.b67_table.specs.Runs.{TableRun}
use Rattle.b67_schedule.specs.declared.reading.Given.{Given}
use Rattle.b67_schedule.specs.Giving.{given_entries}
use Rattle.b67_report.specs.declared.Report.{Report}
use Rattle.b67_report.specs.declared.EndWords.{EndWords}
use Rattle.b67_report.specs.declared.EndWords.TheVariants as ends
use Rattle.b67_faithful.specs.Faithful.{Faithful, ComesToLimit}
use Rattle.b67_explain.specs.Explaining.{ExplainsReplay}
use Rattle.b67_told.specs.declared.TheConstants.{MOST_TEXT_BYTES}
use Rattle.b67_told.specs.declared.Outcome.{Outcome}
use Rattle.b67_told.specs.declared.Told.{Told}
use Rattle.b67_told.specs.Telling.{outcomes_in, AreDifferent, OutcomeIsTold}
use Rattle.b67_told.specs.Texts.{told_text, told_texts, OutcomesText}
use Rattle.b67_outcomes.specs.declared.found.Found.{Found}
use Rattle.b67_settling.specs.Local.{IsLocal}
use Rattle.b67_outcomes.specs.Entering.{Stops}
use Rattle.b67_outcomes.specs.Finding.{AreAll}
use Rattle.b67_outcomes.specs.Kept.{AreKept, AreClosed}
use Rattle.b67_teller.specs.Following.{IsOutcomeEnd, EndsAs, StopsAs}
use Rattle.b67_teller.specs.Books.{GoesAfter, AreTold, IsTooLong}

-- ---- one outcome

-- the report of a replay of the given schedule under the greatest budget has this outcome
pub record IsReplayed (tree : PProgram) (given : Given) (o : Outcome) : Type 0 where
  pub report : Report
  pub explains : ExplainsReplay tree given MOST_BUDGET report
  pub output : report.output ≡ o.output
  pub ends : report.end ≡ o.end

-- and that is the run's own end, or the stack limit
pub record Confirms (tree : PProgram) (given : Given) (o : Outcome) : Type 0 where
  pub replayed : IsReplayed tree given o
  pub own : IsOutcomeEnd o.end

-- ---- all outcomes

abbrev pub shown_end : End → EndWords
shown_end finished = ends.Finished
shown_end (fault kind p) = ends.Fault kind p
shown_end all_waiting = ends.AllWaiting

-- a legal schedule of the source comes to this end
pub record SourceComesTo (tree : PProgram) (schedule : List ℕ) (o : Outcome) : Type 0 where
  pub world : World
  pub legal : run tree schedule ≡ Some world
  pub end : End
  pub ends : end_of world ≡ Some end
  pub output : o.output ≡ world.output
  pub shown : o.end ≡ shown_end end

-- after the entries of a schedule the process comes to the stack limit, before its action is done
pub record ComesToStop (code : Code) (before : List ℕ) (p : ℕ) (o : Outcome) : Type 0 where
  pub image : Image
  pub run : TableRun code before [] image
  pub may : may_act image p ≡ true
  pub quiet : Image
  pub stops : Stops code p image quiet
  pub output : o.output ≡ image.output
  pub shown : o.end ≡ ends.StackLimit p (length_in (numbered quiet.regs p))

-- an entry of the schedule comes to the stack limit after those before it, and that outcome is among these
pub record IsStopTold (code : Code) (os : List Outcome) (schedule : List ℕ) : Type 0 where
  pub before : List ℕ
  pub next : ℕ
  pub later : List ℕ
  pub split : schedule ≡ before ++ next ∷ later
  pub outcome : Outcome
  pub comes : ComesToStop code before next outcome
  pub told : Contains os outcome

-- Each legal schedule that comes to an end has its outcome among these, or that of the stack limit to which it comes before; so has each legal
-- schedule that comes to the stack limit, and each run of the code that does.
pub record AreAllOutcomes (tree : PProgram) (code : Code) (os : List Outcome) : Type 0 where
  pub ends : (schedule : List ℕ) (o : Outcome) → SourceComesTo tree schedule o → Contains os o ⊎ IsStopTold code os schedule
  pub stops : (schedule : List ℕ) (world : World) → run tree schedule ≡ Some world → ComesToLimit code schedule → IsStopTold code os schedule
  pub limits : (before : List ℕ) (p : ℕ) (o : Outcome) → ComesToStop code before p o → Contains os o

-- ---- from states to outcomes

-- where the search found everything, and the outcome of each state that has an end and of each stack limit is told, these are all outcomes
-- of the source
abbrev pub ToldAreAll : Type 0
ToldAreAll =
    (tree : PProgram) (code : Code) (found : Found) (told : List Told) → Faithful tree code → AreAll code found → AreTold code found told
    → AreAllOutcomes tree code (outcomes_in told)

-- ---- what is told

-- the outcomes, each with a schedule that is replayed to it; how many states were kept; and whether some outcomes may be missing
pub record Telling : Type 0 where
  pub told : List Told
  pub states : ℕ
  pub cut : Bool

-- with the other outcome of the schedule the text would be too long
pub record IsFull (tree : PProgram) (told : List Told) (schedule : List ℕ) : Type 0 where
  pub item : Told
  pub schedule_is : given_entries item.schedule ≡ schedule
  pub confirmed : Confirms tree item.schedule item.outcome
  pub other : OutcomeIsTold told item.outcome → ⊥
  pub long : MOST_TEXT_BYTES < length (told_texts told) + length (told_text item)

-- An outcome of one of these histories, or of a process that comes to the stack limit after one, is left out: it is not told, and its schedule is too
-- long for a replay, or the text would be too long with it.
pub record OneIsLeftOut (tree : PProgram) (code : Code) (histories : List (List ℕ)) (told : List Told) : Type 0 where
  pub place : ℕ
  pub history : List ℕ
  pub there : slice_get histories place ≡ Some history
  pub schedule : List ℕ
  pub after : GoesAfter history schedule
  pub left : IsTooLong code told schedule ⊎ IsFull tree told schedule

-- what comes of a history, its last entry first, is told: the outcome of its image, where that has an end, and that of each stack limit to which a process
-- comes after it
pub record IsHistoryTold (code : Code) (told : List Told) (history : List ℕ) : Type 0 where
  pub ended : (o : Outcome) → EndsAs code (reverse history) o → OutcomeIsTold told o
  pub stopped : (p : ℕ) (o : Outcome) → StopsAs code (reverse (p ∷ history)) o → OutcomeIsTold told o

-- These are outcomes of the source, each confirmed by a replay; they differ; their text is not too long. As many states were kept as is said, and at most
-- so many: each has a history, and no two have the same. Each entry after one of them leads to where entries that can be performed at once lead to the
-- image of one again, unless the most states were kept and that is said. What comes of each is told, unless an outcome of one was left out. Where
-- nothing was cut these are all outcomes. Where something was, the most states were kept, or an outcome of one was left out.
pub record AreOutcomes (tree : PProgram) (most : ℕ) (t : Telling) : Type 0 where
  pub code : Code
  pub faithful : Faithful tree code
  pub confirmed : All (λ (x : Told). Confirms tree x.schedule x.outcome) t.told
  pub different : AreDifferent t.told
  pub short : length (told_texts t.told) ≤ MOST_TEXT_BYTES
  pub histories : List (List ℕ)
  pub kept : AreKept code (IsLocal code) histories
  pub states : t.states ≡ length histories
  pub few : t.states ≤ most
  pub closed : ((t.cut ≡ true) × (t.states ≡ most)) ⊎ AreClosed code (IsLocal code) histories
  pub told : All (IsHistoryTold code t.told) histories ⊎ OneIsLeftOut tree code histories t.told
  pub all : t.cut ≡ false → AreAllOutcomes tree code (outcomes_in t.told)
  pub cause : t.cut ≡ true → (t.states ≡ most) ⊎ OneIsLeftOut tree code histories t.told

-- the text that tells outcomes of the source, and whether some may be missing
pub record TellsOutcomes (tree : PProgram) (most : ℕ) (text : List ℕ) (cut : Bool) : Type 0 where
  pub telling : Telling
  pub are : AreOutcomes tree most telling
  pub text_is : text ≡ OutcomesText telling.told telling.cut telling.states
  pub cut_is : cut ≡ telling.cut
