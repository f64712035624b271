-- What is told of what a search has found.
use Rattle.std.specs.Prelude.{◌≡◌, ◌⊎◌, ℕ, ◌+◌, ◌<◌, ◌≤◌, Bool, true, false, List, [], ◌∷◌, ◌++◌, length, reverse, All, Option, Some, None, slice_get}
use Rattle.b67_segment.specs.declared.code.Code.{Code}
use Rattle.b67_table.specs.Image.{Image}
use Rattle.b67_table.specs.Ending.{ImageEnd, image_end}
use Rattle.b67_schedule.specs.declared.reading.Given.{Given}
use Rattle.b67_schedule.specs.Giving.{given_entries}
use Rattle.b67_report.specs.declared.EndWords.{EndWords}
use Rattle.b67_told.specs.declared.TheConstants.{MOST_TEXT_BYTES}
use Rattle.b67_told.specs.declared.Outcome.{Outcome}
use Rattle.b67_told.specs.declared.Told.{Told}
use Rattle.b67_told.specs.Telling.{AreDifferent, OutcomeIsTold}
use Rattle.b67_told.specs.Texts.{told_text, told_texts}
use Rattle.b67_outcomes.specs.declared.found.Step.{Step}
use Rattle.b67_outcomes.specs.declared.found.State.{State}
use Rattle.b67_outcomes.specs.declared.found.Limit.{Limit}
use Rattle.b67_outcomes.specs.declared.found.Found.{Found}
use Rattle.b67_outcomes.specs.Entering.{Stops, HistoryLeadsTo}
use Rattle.b67_outcomes.specs.Finding.{History}
use Rattle.b67_teller.specs.declared.book.Book.{Book}
use Rattle.b67_teller.specs.Following.{IsLong, HasOutcome, IsOutcomeEnd, ended_outcome, stopped_outcome}

-- ---- schedules

-- the schedule is that of a history, its last entry first, or has one entry more
abbrev pub GoesAfter : List ℕ → List ℕ → Type 0
GoesAfter history schedule = (schedule ≡ reverse history) ⊎ ((p : ℕ) × (schedule ≡ reverse (p ∷ history)))

-- it is that of a state, or of a process that comes to the stack limit after one
pub record IsScheduleOf (found : Found) (schedule : List ℕ) : Type 0 where
  pub place : ℕ
  pub state : State
  pub there : slice_get found.states.items place ≡ Some state
  pub history : List ℕ
  pub is : History found.steps.items state.number history
  pub after : GoesAfter history schedule

-- ---- what is told

-- the schedule with another outcome has too many operators for a replay
pub record IsTooLong (code : Code) (told : List Told) (schedule : List ℕ) : Type 0 where
  pub outcome : Outcome
  pub has : HasOutcome code schedule outcome
  pub other : OutcomeIsTold told outcome → ⊥
  pub long : IsLong code schedule

module _ (Explained : Code → Given → Outcome → Type 0) (code : Code) where
  -- a replay of its schedule explains it, and it is the run's own end or the stack limit
  pub record IsConfirmed (x : Told) : Type 0 where
    pub explained : Explained code x.schedule x.outcome
    pub own : IsOutcomeEnd x.outcome.end

  -- with the other outcome of the schedule the text would be too long
  pub record IsFull (told : List Told) (schedule : List ℕ) : Type 0 where
    pub item : Told
    pub schedule_is : given_entries item.schedule ≡ schedule
    pub confirmed : IsConfirmed item
    pub other : OutcomeIsTold told item.outcome → ⊥
    pub long : MOST_TEXT_BYTES < length (told_texts told) + length (told_text item)

  -- the outcome of the schedule is left out: it is not told, and the schedule is too long for a replay, or the text would be too long with it
  abbrev pub IsLeftOut : List Told → List ℕ → Type 0
  IsLeftOut told schedule = IsTooLong code told schedule ⊎ IsFull told schedule

  -- Each outcome is confirmed, and told once; the text is theirs, and not too long.
  pub record IsBook (book : Book) : Type 0 where
    pub confirmed : All IsConfirmed book.told.items
    pub different : AreDifferent book.told.items
    pub text : book.text.items ≡ told_texts book.told.items
    pub short : length book.text.items ≤ MOST_TEXT_BYTES

  -- an outcome of what the search has found is left out
  pub record LeavesOut (found : Found) (told : List Told) : Type 0 where
    pub schedule : List ℕ
    pub of_found : IsScheduleOf found schedule
    pub left : IsLeftOut told schedule

  -- so it is where an outcome was left out
  abbrev pub HasCause : Found → Book → Type 0
  HasCause found book = book.cut ≡ true → LeavesOut found book.told.items

-- what was told is so still, and what was cut is
pub record BookGrows (old new : Book) : Type 0 where
  pub more : List Told
  pub told : new.told.items ≡ old.told.items ++ more
  pub cut : new.cut ≡ false → old.cut ≡ false

-- the schedule has an outcome that is not told
pub record HasOther (code : Code) (schedule : List ℕ) (told : List Told) : Type 0 where
  pub outcome : Outcome
  pub has : HasOutcome code schedule outcome
  pub other : OutcomeIsTold told outcome → ⊥

-- the outcome is added with its text, or the text would be too long
abbrev pub IsAdded : List Told → List ℕ → Told → List Told → List ℕ → Bool → Type 0
IsAdded told text item more longer true = (more ≡ told ++ item ∷ []) × (longer ≡ text ++ told_text item) × (length longer ≤ MOST_TEXT_BYTES)
IsAdded told text item more longer false = (more ≡ told) × (longer ≡ text) × (MOST_TEXT_BYTES < length text + length (told_text item))

-- there is no end, or this output with it is told
abbrev pub IsSettled : List Told → List (List ℕ) → Option EndWords → Type 0
IsSettled told output None = Unit {0}
IsSettled told output (Some end) = OutcomeIsTold told (record { output = output; end = end })

-- there is one, and this output with it is not told
abbrev pub IsOpen : List Told → List (List ℕ) → Option EndWords → Type 0
IsOpen told output None = ⊥
IsOpen told output (Some end) = OutcomeIsTold told (record { output = output; end = end }) → ⊥

-- ---- of what a search has found

-- where the image of the state has an end, its outcome is told
abbrev pub IsStateTold : Code → Found → List Told → ℕ → Type 0
IsStateTold code found told number =
    (history : List ℕ) (img : Image) (e : ImageEnd) → History found.steps.items number history → HistoryLeadsTo code history img → image_end img ≡ Some e
    → OutcomeIsTold told (ended_outcome img e)

-- the outcome of the stack limit is told
abbrev pub IsLimitTold : Code → Found → List Told → Limit → Type 0
IsLimitTold code found told l =
    (history : List ℕ) (img quiet : Image) → History found.steps.items l.state history → HistoryLeadsTo code history img → Stops code l.process img quiet
    → OutcomeIsTold told (stopped_outcome img l.process quiet)

-- so it is with those before a place
abbrev pub AreLimitsTold : Code → Found → List Told → ℕ → Type 0
AreLimitsTold code found told to =
    (k : ℕ) (l : Limit) → k < to → slice_get found.limits.items k ≡ Some l → IsLimitTold code found told l

-- the outcome of each state that has an end is told, and that of each stack limit that is noted
pub record AreTold (code : Code) (found : Found) (told : List Told) : Type 0 where
  pub ended : (k : ℕ) (s : State) → slice_get found.states.items k ≡ Some s → IsStateTold code found told s.number
  pub stopped : AreLimitsTold code found told (length found.limits.items)

-- the history of the state, and after it the entry of the process
abbrev pub IsHistoryWith : List Step → Limit → List ℕ → Type 0
IsHistoryWith steps l history = (before : List ℕ) × History steps l.state before × (history ≡ l.process ∷ before)
