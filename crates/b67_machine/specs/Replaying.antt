-- What a replay does.
use Rattle.std.specs.Prelude.{◌≡◌, ◌≢◌, ◌⊎◌, ℕ, ◌+◌, ◌-◌, ◌<◌, ◌≤◌, nat_eq, if◌then◌else◌, Bool, true, false, List, [], ◌∷◌, ◌++◌, length, reverse, replicate, take, drop, slice_get, sum, Option, Some, None, Result, Ok, Err}
use Rattle.b67_list.specs.Numbered.{numbered}
use Rattle.b67_deeds.specs.declared.Letter.{Letter}
use Rattle.b67_schedule.specs.declared.reading.Given.{Given}
use Rattle.b67_schedule.specs.declared.reading.Given.TheVariants.{One, Two}
use Rattle.b67_schedule.specs.Giving.{given_entries}
use Rattle.b67_schedule.specs.Schedules.{entries, ScheduleModel}
use Rattle.b67_segment.specs.declared.code.Code.{Code}
use Rattle.b67_table.specs.Image.{Image, is_able}
use Rattle.b67_table.specs.Ending.{image_end, may_act}
use Rattle.b67_table.specs.Outcome.{limit}
use Rattle.b67_table.specs.Runs.{Runs, TableRun, count_of}
use Rattle.b67_table.specs.Table.{table}
use Rattle.b67_intrinsics.specs.Called.{ImageIsLeft}
use Rattle.b67_action.specs.declared.done.Done.{Done}
use Rattle.b67_action.specs.declared.done.Done.TheVariants as dones
use Rattle.b67_action.specs.Done.{MakesNext}
use Rattle.b67_machine.specs.declared.replay.Replayed.{Replayed}
use Rattle.b67_machine.specs.declared.replay.Replayed.TheVariants.{Ended, Ran, Illegal, BudgetSpent, NoMemory, Differs}
use Rattle.b67_machine.specs.Kept.{MachineModel, operators_counted}
use Rattle.b67_machine.specs.Letters.{AreLetters}
use Rattle.b67_machine.specs.Reads.{machine_end}

-- ---- tails

-- the tail of the process of the next entry, and of no other
abbrev pub tails_of : List ℕ → ℕ → List ℕ
tails_of [] n = []
tails_of (p ∷ left) n = replicate (p - 1) 0 ++ n ∷ []

abbrev pub tail_of : List ℕ → ℕ → ℕ → ℕ
tail_of [] n p = 0
tail_of (q ∷ left) n p = if nat_eq p q then n else 0

-- ---- answers

-- the process of the next entry is able, and the run has no end
abbrev pub MayGo : List ℕ → Image → Type 0
MayGo [] img = ⊥
MayGo (p ∷ left) img = may_act img p ≡ true

-- its next operator comes to the stack limit
abbrev pub ReplayAtLimit : Code → List ℕ → Image → Option ℕ → Type 0
ReplayAtLimit code [] img kept = ⊥
ReplayAtLimit code (p ∷ left) img kept = (table code img p ≡ limit) × (kept ≡ Some p)

-- its next operator calls an intrinsic that makes something
abbrev pub AtMaking : Code → List ℕ → Image → Type 0
AtMaking code [] img = ⊥
AtMaking code (p ∷ left) img = MakesNext code img p

-- the next entry may not be performed
abbrev pub IsIllegal : List ℕ → Image → Type 0
IsIllegal [] img = ⊥
IsIllegal (p ∷ left) img = may_act img p ≡ false

-- why a replay ended so, where these entries are left and the image of its run is this one
abbrev pub ReplayAnswers : Code → ℕ → ℕ → List ℕ → List ℕ → ℕ → Image → MachineModel → Replayed → Type 0
-- an end is looked at before the budget, and the budget before the stack limit
ReplayAnswers code budget spent done left tail img new Ended =
    ((tail ≡ 0) × (left ≡ []) × (image_end img ≢ None) × (new.limit ≡ None))
    ⊎ ((spent < budget) × MayGo left img × ReplayAtLimit code left img new.limit)
ReplayAnswers code budget spent done left tail img new Ran = (tail ≡ 0) × (left ≡ []) × (image_end img ≡ None) × (spent < budget) × (new.limit ≡ None)
ReplayAnswers code budget spent done left tail img new (Illegal number) =
    (tail ≡ 0) × (number ≡ length done + 1) × IsIllegal left img × ((image_end img ≢ None) ⊎ (spent < budget)) × (new.limit ≡ None)
-- an entry whose plain operators are begun may be performed
ReplayAnswers code budget spent done left tail img new BudgetSpent = (image_end img ≡ None) × (spent ≡ budget) × ((tail ≡ 0) ⊎ MayGo left img) × (new.limit ≡ None)
ReplayAnswers code budget spent done left tail img new NoMemory = (spent < budget) × MayGo left img × AtMaking code left img × (new.limit ≡ None)
-- the entry stands, and neither the end nor the budget is looked at after it
ReplayAnswers code budget spent done left tail img new (Differs number) = (tail ≡ 0) × (number ≡ length done) × (new.limit ≡ None)

-- the image of the machine is that of the run; without memory a closed row may have left an empty place
abbrev pub MachineStands : Bool → Image → Image → Type 0
MachineStands false img now = now ≡ img
MachineStands true img now = ImageIsLeft img now

abbrev pub is_lacking : Replayed → Bool
is_lacking NoMemory = true
is_lacking answer = false

-- ---- letters

-- no letter differed
abbrev pub NoneDiffers : Replayed → Type 0
NoneDiffers (Differs number) = ⊥
NoneDiffers answer = Unit {0}

-- the letter of this entry is the first that is another than the given one
pub record DiffersAt (given : List Letter) (number : ℕ) (done : List Letter) : Type 0 where
  pub front : List Letter
  pub here : Letter
  pub there : Letter
  pub more : List Letter
  pub done_is : done ≡ front ++ here ∷ []
  pub given_is : given ≡ front ++ there ∷ more
  pub apart : here ≢ there
  pub number_is : number ≡ length done

-- the letters of what was performed are those that were given, but for the one that differs
abbrev pub AgreeBy : Replayed → List Letter → List Letter → Type 0
AgreeBy (Differs number) given done = DiffersAt given number done
AgreeBy answer given done = (more : List Letter) × (given ≡ done ++ more)

-- where letters are given
abbrev pub AgreeAs : Replayed → Option (List Letter) → List Letter → Type 0
AgreeAs answer None done = NoneDiffers answer
AgreeAs answer (Some given) done = AgreeBy answer given done

-- These entries of the given ones are performed, with these letters, and then so many plain operators of the next one.
pub record ReplaysEntries (code : Code) (given : List ℕ) (budget : ℕ) (done : List ℕ) (noted : List Letter) (new : MachineModel) (answer : Replayed) : Type 0 where
  pub left : List ℕ
  pub tail : ℕ
  pub split : given ≡ done ++ left
  pub image : Image
  pub run : TableRun code done (tails_of left tail) image
  pub letters_are : AreLetters run.runs noted
  pub stands : MachineStands (is_lacking answer) image new.image
  pub counts : (p : ℕ) → operators_counted new.counts p ≡ count_of p run.history run.counts + tail_of left tail p
  pub within : sum run.counts + tail ≤ budget
  pub answers : ReplayAnswers code budget (sum run.counts + tail) done left tail image new answer
  pub lacked : new.lacked ≡ is_lacking answer
  pub same : new.code ≡ code

-- and their letters agree with those that are given, where some are
abbrev pub ReplaysRuns : Code → List ℕ → Option (List Letter) → ℕ → ScheduleModel → MachineModel → Replayed → Type 0
ReplaysRuns code given letters budget performed new answer =
    ReplaysEntries code given budget (entries performed.runs) performed.letters new answer × AgreeAs answer letters performed.letters

-- the letters of what is given, where it is of version 2
abbrev pub letters_of : Given → Option (List Letter)
letters_of (One old) = None
letters_of (Two schedule) = Some schedule.letters

abbrev pub Replays : Code → Given → ℕ → ScheduleModel → MachineModel → Replayed → Type 0
Replays code given budget performed new answer = ReplaysRuns code (given_entries given) (letters_of given) budget performed new answer

-- ---- between entries

-- These entries with these letters are performed, with so many operators, and nothing more.
pub record Between (code : Code) (done : List ℕ) (noted : List Letter) (spent : ℕ) (m : MachineModel) : Type 0 where
  pub history : List ℕ
  pub numbers : List ℕ
  pub order : done ≡ reverse history
  pub runs : Runs code history numbers m.image
  pub letters_are : AreLetters runs noted
  pub spends : sum numbers ≡ spent
  pub counts : (p : ℕ) → operators_counted m.counts p ≡ count_of p history numbers
  pub limit : m.limit ≡ None
  pub lacked : m.lacked ≡ false
  pub same : m.code ≡ code

-- the letters after these are those that are given, where some are
abbrev pub GoOnAs : Option (List Letter) → List Letter → List Letter → Type 0
GoOnAs None before done = Unit {0}
GoOnAs (Some given) before done = done ≡ before ++ given

-- the next letters, and some more after them, where letters are given
abbrev pub and_more : List Letter → Option (List Letter) → List Letter → Option (List Letter)
and_more before None more = None
and_more before (Some given) more = Some (before ++ given ++ more)

-- all of the next entries are performed, or the replay has ended within them, whatever comes after them
abbrev pub Advances : Code → ℕ → List ℕ → List ℕ → ℕ → List ℕ → List Letter → MachineModel → Option Replayed → Type 0
Advances code budget before next spent done noted new None = (done ≡ before ++ next) × Between code done noted spent new × (spent ≤ budget)
Advances code budget before next spent done noted new (Some answer) = (more : List ℕ) → ReplaysEntries code (before ++ next ++ more) budget done noted new answer

-- and the letters after these are those that are given, where some are, up to the end
abbrev pub LettersAgree : Option (List Letter) → List Letter → List Letter → Option Replayed → Type 0
LettersAgree letters before noted None = GoOnAs letters before noted
LettersAgree letters before noted (Some answer) = (more : List Letter) → AgreeAs answer (and_more before letters more) noted

-- so many letters, where letters are given
abbrev pub first_of : ℕ → Option (List Letter) → Option (List Letter)
first_of n None = None
first_of n (Some given) = Some (take n given)

-- and those after them
abbrev pub rest_of : ℕ → Option (List Letter) → Option (List Letter)
rest_of n None = None
rest_of n (Some given) = Some (drop n given)

-- whether another letter is given first than this one
abbrev pub Compares : Option (List Letter) → Letter → Bool → Type 0
Compares None l another = another ≡ false
Compares (Some given) l true = slice_get given 0 ≢ Some l
Compares (Some given) l false = slice_get given 0 ≡ Some l

-- some of so many entries of a process are performed, and one at least, or the replay has ended within them
abbrev pub AdvancesBy : Code → ℕ → List ℕ → ℕ → ℕ → ℕ → List ℕ → List Letter → MachineModel → Result ℕ Replayed → Type 0
AdvancesBy code budget before p times spent done noted new (Ok n) = (1 ≤ n) × (n ≤ times) × Advances code budget before (replicate n p) spent done noted new None
AdvancesBy code budget before p times spent done noted new (Err answer) = Advances code budget before (replicate times p) spent done noted new (Some answer)

-- and so are their letters
abbrev pub AgreesBy : Option (List Letter) → List Letter → List Letter → Result ℕ Replayed → Type 0
AgreesBy letters before noted (Ok n) = GoOnAs (first_of n letters) before noted
AgreesBy letters before noted (Err answer) = LettersAgree letters before noted (Some answer)

-- what ends a replay before an entry: the end of the run is looked at first, then the budget, then the entry
abbrev pub StopsBefore : MachineModel → ℕ → ℕ → ℕ → ℕ → Option Replayed → Type 0
StopsBefore m p budget spent number None = (machine_end m ≡ None) × (spent < budget) × (is_able (numbered m.image.states p) ≡ true)
StopsBefore m p budget spent number (Some (Illegal n)) =
    (n ≡ number) × ((machine_end m ≢ None) ⊎ ((machine_end m ≡ None) × (spent < budget) × (is_able (numbered m.image.states p) ≡ false)))
StopsBefore m p budget spent number (Some BudgetSpent) = (machine_end m ≡ None) × (budget ≤ spent)
StopsBefore m p budget spent number (Some answer) = ⊥

abbrev pub EndsAfter : MachineModel → ℕ → ℕ → Replayed → Type 0
EndsAfter m budget spent Ended = machine_end m ≢ None
EndsAfter m budget spent BudgetSpent = (machine_end m ≡ None) × (budget ≤ spent)
EndsAfter m budget spent Ran = (machine_end m ≡ None) × (spent < budget)
EndsAfter m budget spent answer = ⊥

-- what ends a replay within an entry, by what the operator after its plain ones came to
abbrev pub within_entry : Option Done → Option Replayed
within_entry None = Some BudgetSpent
within_entry (Some dones.StackLimit) = Some Ended
within_entry (Some dones.NoMemory) = Some NoMemory
within_entry (Some d) = None
