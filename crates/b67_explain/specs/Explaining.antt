-- What the report of a run says: of the source under the printed schedule, and of the printed code under the operator table.
use Rattle.std.specs.Prelude.{◌≡◌, ◌≢◌, ◌⊎◌, ℕ, ◌+◌, ◌*◌, ◌<◌, ◌≤◌, true, false, List, [], ◌∷◌, ◌++◌, length, sum, Some, None}
use Rattle.b67_list.specs.Numbered.{numbered}
use Rattle.b67_limits.specs.declared.TheConstants.{MOST_STRETCH}
use Rattle.algol_tree.specs.Plain.{PProgram}
use Rattle.algol_meaning.specs.World.{World, is_able, process_at}
use Rattle.algol_meaning.specs.Run.{run, may_go, end_of, finished, fault, all_waiting}
use Rattle.b67_deeds.specs.declared.Letter.{Letter}
use Rattle.b67_schedule.specs.declared.reading.Given.{Given}
use Rattle.b67_schedule.specs.declared.reading.Given.TheVariants.{One, Two}
use Rattle.b67_schedule.specs.Giving.{given_entries}
use Rattle.b67_schedule.specs.Schedules.{entries}
use Rattle.b67_report.specs.Reading.{IsReport}
use Rattle.b67_report.specs.declared.Report.{Report}
use Rattle.b67_report.specs.declared.EndWords.{EndWords}
use Rattle.b67_report.specs.declared.EndWords.TheVariants as ends
use Rattle.b67_listing.specs.Listings.{ListingText}
use Rattle.b67_segment.specs.declared.code.Code.{Code}
use Rattle.b67_store.specs.Store.{stack_limit}
use Rattle.b67_table.specs.Image.{Image}
use Rattle.b67_table.specs.Outcome.{limit}
use Rattle.b67_table.specs.Table.{table, length_in}
use Rattle.b67_table.specs.Ending.{image_end}
use Rattle.b67_table.specs.Runs.{TableRun, count_of}
use Rattle.b67_machine.specs.Kept.{operators_counted}
use Rattle.b67_machine.specs.Letters.{AreLetters}
use Rattle.b67_machine.specs.Replaying.{tails_of, DiffersAt}
use Rattle.b67_faithful.specs.Weight.{weight}
use Rattle.b67_faithful.specs.Agreement.{end_as}
use Rattle.b67_faithful.specs.Faithful.{Faithful, longest}

-- ---- the end

-- The process may go on in the world, and its next operator would make its stack too long. It has so many words, and the source has more
-- open in it than a stack has room for.
pub record WorldAtLimit (tree : PProgram) (code : Code) (world : World) (image : Image) (process words : ℕ) : Type 0 where
  pub goes : may_go world process ≡ true
  pub next : table code image process ≡ limit
  pub has : words ≡ length_in (numbered image.regs process)
  pub heavy : stack_limit < weight tree world process

-- The printed end is that of the world, and the operators are at most as many as the budget. Or the world has none, and the operators came
-- to the budget, the stack limit, or the end of the schedule, the latter two before the budget was spent. Or an entry is illegal: there was
-- an end before it, at most at the budget, or its process is not able, and the budget was not spent. Or an entry has another letter than the
-- given one, whatever comes after it.
module _ (tree : PProgram) (code : Code) (world : World) (image : Image) (budget operators : ℕ) where
  abbrev pub EndIs : EndWords → Type 0
  EndIs ends.Finished = (end_of world ≡ Some finished) × (operators ≤ budget)
  EndIs (ends.Fault kind process) = (end_of world ≡ Some (fault kind process)) × (operators ≤ budget)
  EndIs ends.AllWaiting = (end_of world ≡ Some all_waiting) × (operators ≤ budget)
  EndIs ends.BudgetSpent = (end_of world ≡ None) × (budget ≤ operators)
  EndIs (ends.StackLimit process words) = (end_of world ≡ None) × (operators < budget) × WorldAtLimit tree code world image process words
  EndIs ends.ScheduleEnded = (end_of world ≡ None) × (operators < budget)
  EndIs (ends.Illegal entry) = ((end_of world ≢ None) × (operators ≤ budget)) ⊎ (operators < budget)
  EndIs (ends.Differs entry) = operators ≤ budget

-- ---- a report

-- The report is one of a run of this source on so many processors under that budget.
pub record Explains (tree : PProgram) (processors budget : ℕ) (report : Report) : Type 0 where
  -- it is one that its text tells: no line has an LF, each number has its bits, and the printed schedule is one: each of its runs has an
  -- entry at least, and neighbours are of different processes
  pub is_report : IsReport report
  pub world : World
  -- it is legal for the source, and the output is that of the source under it
  pub legal : run tree (entries report.schedule.runs) ≡ Some world
  pub output : report.output ≡ world.output
  -- there is one number of acts for each processor, and they add up to the entries
  pub processors_are : length report.acts ≡ processors
  pub acts : sum report.acts ≡ length (entries report.schedule.runs)
  -- the listing is that of a code that does what the source does for every list of choices
  pub code : Code
  pub listed : ListingText code report.listing
  pub faithful : Faithful tree code
  -- that code, run under the operator table with the printed schedule, has this output and end, and these are the letters of its actions
  pub tails : List ℕ
  pub image : Image
  pub table_run : TableRun code (entries report.schedule.runs) tails image
  pub letters : AreLetters table_run.runs report.schedule.letters
  pub shown : image.output ≡ report.output
  pub same_end : end_of world ≡ end_as (image_end image)
  -- there is one count of operators for each process that there has been: those of its entries, and its tail
  pub processes : length report.operators ≡ image.started
  pub counts : (p : ℕ) → 1 ≤ p → p ≤ image.started → operators_counted report.operators p ≡ count_of p table_run.history table_run.counts + operators_counted tails p
  -- they add up to less than a stretch more than the budget; and, for each entry and for each process after the last one, to at most as
  -- many operators as the longest segment has syllables
  pub few : sum report.operators < budget + MOST_STRETCH
  pub bounded : sum report.operators ≤ (length (entries report.schedule.runs) + length report.operators) * longest code.segments
  pub ended : EndIs tree code world image budget (sum report.operators) report.end

-- ---- without a given schedule

-- a run that follows no given schedule has no end by it
abbrev pub IsOwnEnd : EndWords → Type 0
IsOwnEnd ends.ScheduleEnded = ⊥
IsOwnEnd (ends.Illegal entry) = ⊥
IsOwnEnd (ends.Differs entry) = ⊥
IsOwnEnd end = Unit {0}

-- The report is one of a run of this source. Its end is its own, and only a process that is able in the world has performed operators
-- after its last entry.
pub record ExplainsRun (tree : PProgram) (processors budget : ℕ) (report : Report) : Type 0 where
  pub explains : Explains tree processors budget report
  pub own : IsOwnEnd report.end
  pub able : (p : ℕ) → (operators_counted explains.tails p ≡ 0) ⊎ (is_able ((process_at explains.world p).state) ≡ true)

-- ---- with one

-- its next entry is of this process
abbrev pub NextIs : ℕ → List ℕ → Type 0
NextIs process [] = ⊥
NextIs process (p ∷ left) = p ≡ process

-- the process of its next entry is not able, or there is an end
abbrev pub NextIsIllegal : World → List ℕ → Type 0
NextIsIllegal world [] = ⊥
NextIsIllegal world (p ∷ left) = may_go world p ≡ false

-- the process of its next entry may go on
abbrev pub NextGoes : World → List ℕ → Type 0
NextGoes world [] = ⊥
NextGoes world (p ∷ left) = may_go world p ≡ true

-- what is left of the given schedule after so many entries where a run ends so
abbrev pub ScheduleIsLeft : World → ℕ → EndWords → List ℕ → Type 0
ScheduleIsLeft world performed ends.Finished left = left ≡ []
ScheduleIsLeft world performed (ends.Fault kind process) left = left ≡ []
ScheduleIsLeft world performed ends.AllWaiting left = left ≡ []
ScheduleIsLeft world performed ends.BudgetSpent left = Unit {0}
ScheduleIsLeft world performed (ends.StackLimit process words) left = NextIs process left
ScheduleIsLeft world performed ends.ScheduleEnded left = left ≡ []
ScheduleIsLeft world performed (ends.Illegal entry) left = (entry ≡ performed + 1) × NextIsIllegal world left
ScheduleIsLeft world performed (ends.Differs entry) left = entry ≡ performed

-- only the budget and the stack limit end a run within an entry
abbrev pub IsTail : EndWords → ℕ → Type 0
IsTail ends.BudgetSpent tail = Unit {0}
IsTail (ends.StackLimit process words) tail = Unit {0}
IsTail end tail = tail ≡ 0

-- the letters of what was performed are those that were given, but for the last one where it is said that it differs
abbrev pub AgreeBy : EndWords → List Letter → List Letter → Type 0
AgreeBy (ends.Differs entry) given performed = DiffersAt given entry performed
AgreeBy end given performed = (more : List Letter) × (given ≡ performed ++ more)

-- none differs
abbrev pub NoneDiffers : EndWords → Type 0
NoneDiffers (ends.Differs entry) = ⊥
NoneDiffers end = Unit {0}

-- where letters are given
abbrev pub AgreeAs : EndWords → Given → List Letter → Type 0
AgreeAs end (One old) performed = NoneDiffers end
AgreeAs end (Two schedule) performed = AgreeBy end schedule.letters performed

-- The report is one of a run of this source on one processor that follows the given schedule. Its printed schedule is the part that
-- was performed, with the letters that were given, where some were, up to the first that differs; and after it only the process of the next
-- entry may have performed operators, where it may go on. All of them are at most as many as the budget.
pub record ExplainsReplay (tree : PProgram) (given : Given) (budget : ℕ) (report : Report) : Type 0 where
  pub explains : Explains tree 1 budget report
  pub left : List ℕ
  pub split : given_entries given ≡ entries report.schedule.runs ++ left
  pub agrees : AgreeAs report.end given report.schedule.letters
  pub leaves : ScheduleIsLeft explains.world (length (entries report.schedule.runs)) report.end left
  pub tail : ℕ
  pub tails : explains.tails ≡ tails_of left tail
  pub alone : IsTail report.end tail
  pub goes : (tail ≡ 0) ⊎ NextGoes explains.world left
  pub within : sum report.operators ≤ budget
