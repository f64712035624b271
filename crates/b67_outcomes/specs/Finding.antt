-- What a search for everything to which runs lead has found, and when that is all.
use Rattle.std.specs.Prelude.{◌≡◌, ℕ, zero, suc, ◌+◌, ◌*◌, ◌<◌, ◌≤◌, true, false, List, [], ◌∷◌, ◌++◌, length, map, reverse, Option, None, Some, slice_get}
use Rattle.b67_segment.specs.declared.code.Code.{Code}
use Rattle.b67_table.specs.Image.{Image}
use Rattle.b67_table.specs.Beginning.{first_image}
use Rattle.b67_table.specs.Ending.{ImageEnd, image_end, may_act}
use Rattle.b67_table.specs.Table.{stack_length}
use Rattle.b67_table.specs.Runs.{Runs, RunEntry}
use Rattle.b67_outcomes.specs.declared.found.TheConstants.{MOST_KEPT}
use Rattle.b67_outcomes.specs.declared.follow.TheConstants.{FREE_STEPS, STEPS_OF_STATE, MOST_SETTLED}
use Rattle.b67_outcomes.specs.declared.found.Step.{Step}
use Rattle.b67_outcomes.specs.declared.found.State.{State}
use Rattle.b67_outcomes.specs.declared.found.Limit.{Limit}
use Rattle.b67_outcomes.specs.declared.found.Found.{Found}
use Rattle.b67_outcomes.specs.Entering.{Stops, HistoryLeadsTo}
use Rattle.b67_outcomes.specs.Settling.{ImageSettles}

-- ---- histories

-- The history of a number, the last entry first: 0 is that of the history without entries, and another history ends with an entry after one of a
-- lesser number.
pub data History (steps : List Step) : ℕ → List ℕ → Type 0 where
  first : History steps 0 []
  later : {n : ℕ} {step : Step} {h : List ℕ} → slice_get steps n ≡ Some step → step.before ≤ n → History steps step.before h → History steps (suc n) (step.process ∷ h)

-- there is a history of the number, and it has a run
pub record IsLed (code : Code) (steps : List Step) (number : ℕ) : Type 0 where
  pub history : List ℕ
  pub image : Image
  pub is : History steps number history
  pub leads : HistoryLeadsTo code history image

-- so it is with each
abbrev pub AreLed : Code → List Step → Type 0
AreLed code steps = (number : ℕ) → number ≤ length steps → IsLed code steps number

-- the history of the number leads to the image
pub record NumberIsAt (code : Code) (steps : List Step) (number : ℕ) (img : Image) : Type 0 where
  pub history : List ℕ
  pub is : History steps number history
  pub leads : HistoryLeadsTo code history img

-- a path goes on from the history of the number, its entries in the order in which they are performed, and leads to the image
pub record IsAfter (code : Code) (steps : List Step) (number : ℕ) (path : List ℕ) (img : Image) : Type 0 where
  pub history : List ℕ
  pub is : History steps number history
  pub leads : HistoryLeadsTo code (reverse path ++ history) img

-- ---- states

-- a state has the history of this number
abbrev pub IsState : List State → ℕ → Type 0
IsState states number = (k : ℕ) × (s : State) × (slice_get states k ≡ Some s) × (s.number ≡ number)

-- the history of each state is there
abbrev pub AreStates : List Step → List State → Type 0
AreStates steps states = (k : ℕ) (s : State) → slice_get states k ≡ Some s → s.number ≤ length steps

-- the image is that of a state
pub record IsKept (code : Code) (steps : List Step) (states : List State) (img : Image) : Type 0 where
  pub number : ℕ
  pub history : List ℕ
  pub state : IsState states number
  pub is : History steps number history
  pub leads : HistoryLeadsTo code history img

-- ---- what is kept once

-- no step is kept twice
abbrev pub AreOnce : List Step → Type 0
AreOnce steps = (j k : ℕ) (s : Step) → slice_get steps j ≡ Some s → slice_get steps k ≡ Some s → j ≡ k

-- the numbers of the states grow
abbrev pub AreGrowing : List State → Type 0
AreGrowing states = (j k : ℕ) (s t : State) → j < k → slice_get states j ≡ Some s → slice_get states k ≡ Some t → s.number < t.number

-- the steps after the history of this number are of processes below this one
abbrev pub AreBelow : List Step → ℕ → ℕ → Type 0
AreBelow steps number p = (k : ℕ) (s : Step) → slice_get steps k ≡ Some s → s.before ≡ number → s.process < p

-- ---- the stack limit

-- the process comes to the stack limit after the history
pub record IsStop (code : Code) (steps : List Step) (l : Limit) : Type 0 where
  pub history : List ℕ
  pub image : Image
  pub quiet : Image
  pub is : History steps l.state history
  pub leads : HistoryLeadsTo code history image
  pub may : may_act image l.process ≡ true
  pub stops : Stops code l.process image quiet

-- so it is with each that is noted
abbrev pub AreStops : Code → List Step → List Limit → Type 0
AreStops code steps limits = (k : ℕ) (l : Limit) → slice_get limits k ≡ Some l → IsStop code steps l

-- each that is noted is after a state
abbrev pub AreAfterStates : List State → List Limit → Type 0
AreAfterStates states limits = (k : ℕ) (l : Limit) → slice_get limits k ≡ Some l → IsState states l.state

-- it is noted that the process does so after the history
abbrev pub IsNoted : List Limit → ℕ → ℕ → Type 0
IsNoted limits number p = (k : ℕ) × (l : Limit) × (slice_get limits k ≡ Some l) × (l.state ≡ number) × (l.process ≡ p)

-- so it is with each process that comes to it after a state
abbrev pub AreNoted : Code → Found → Type 0
AreNoted code found =
    (k p : ℕ) (s : State) (history : List ℕ) (img quiet : Image) → slice_get found.states.items k ≡ Some s → History found.steps.items s.number history
    → HistoryLeadsTo code history img → may_act img p ≡ true → Stops code p img quiet → IsNoted found.limits.items s.number p

-- ---- the search

-- so many steps are kept at most with so many states
abbrev pub steps_for : ℕ → ℕ
steps_for states = FREE_STEPS + STEPS_OF_STATE * states + MOST_SETTLED + 1

-- All that is kept comes of runs, and there are at most so many states, and steps for them; a search that was cut has as many.
pub record IsSearched (code : Code) (most : ℕ) (found : Found) : Type 0 where
  pub led : AreLed code found.steps.items
  pub states : AreStates found.steps.items found.states.items
  pub stops : AreStops code found.steps.items found.limits.items
  pub after : AreAfterStates found.states.items found.limits.items
  pub short : length found.steps.items ≤ steps_for (length found.states.items)
  pub few : length found.states.items ≤ most
  pub most_few : most ≤ MOST_KEPT
  pub cause : found.cut ≡ true → length found.states.items ≡ most

-- after which history the step at this place of a path stands, where there were so many steps before the path: the first after that of the number, each
-- other after the one before it
abbrev pub before_of : ℕ → ℕ → ℕ → ℕ
before_of number old zero = number
before_of number old (suc k) = old + suc k

-- so it is with each step of the path
abbrev pub AreChained : ℕ → ℕ → List Step → Type 0
AreChained number old more = (k : ℕ) (s : Step) → slice_get more k ≡ Some s → s.before ≡ before_of number old k

-- the path, which goes on from the history of the number, ends the history of the number `at`; its steps, one for each entry, stand after the others,
-- and each of them comes of a run where the path does
pub record HoldsPath (old : List Step) (number : ℕ) (path : List ℕ) (at : ℕ) (new : List Step) : Type 0 where
  pub more : List Step
  pub steps : new ≡ old ++ more
  pub entries : map (λ (x : Step). x.process) more ≡ path
  pub chained : AreChained number (length old) more
  pub at_is : at ≡ before_of number (length old) (length more)
  pub is : (history : List ℕ) → History old number history → History new at (reverse path ++ history)
  pub led : (code : Code) (history : List ℕ) (img : Image) → History old number history → HistoryLeadsTo code (reverse path ++ history) img → AreLed code old
      → AreLed code new

-- and a state has that history
pub record HoldsState (old : Found) (number : ℕ) (path : List ℕ) (at : ℕ) (new : Found) : Type 0 where
  pub state : State
  pub number_is : state.number ≡ at
  pub path_held : HoldsPath old.steps.items number path at new.steps.items
  pub states : new.states.items ≡ old.states.items ++ state ∷ []
  pub limits : new.limits.items ≡ old.limits.items
  pub cut : new.cut ≡ old.cut

-- what was kept and noted is so still, and a search that was cut is
pub record FoundGrows (old new : Found) : Type 0 where
  pub more : List Step
  pub steps : new.steps.items ≡ old.steps.items ++ more
  pub more_states : List State
  pub states : new.states.items ≡ old.states.items ++ more_states
  pub more_limits : List Limit
  pub limits : new.limits.items ≡ old.limits.items ++ more_limits
  pub cut : new.cut ≡ false → old.cut ≡ false

module _ (code : Code) (Local : Image → ℕ → Type 0) where
  -- an image is kept to which entries that can be performed at once lead from this one
  pub record IsArrived (found : Found) (img : Image) : Type 0 where
    pub image : Image
    pub settled : List ℕ
    pub settles : ImageSettles code Local img settled image
    pub kept : IsKept code found.steps.items found.states.items image

  -- so it is after an entry of the process after the history, where the search is not cut; and where the process comes to the stack limit that is noted
  pub record IsFollowed (found : Found) (number : ℕ) (history : List ℕ) (p : ℕ) : Type 0 where
    pub entries : found.cut ≡ false → (a b : Image) (n : ℕ) → HistoryLeadsTo code history a → RunEntry code p a n b → IsArrived found b
    pub stops : (a quiet : Image) → HistoryLeadsTo code history a → may_act a p ≡ true → Stops code p a quiet → IsNoted found.limits.items number p

  -- so it is with each process
  pub record IsExpanded (found : Found) (number : ℕ) : Type 0 where
    pub history : List ℕ
    pub is : History found.steps.items number history
    pub each : (p : ℕ) → IsFollowed found number history p

  -- the search has come to where the first image settles, and to where each image does to which an entry leads after a state
  pub record IsClosed (found : Found) : Type 0 where
    pub first : IsArrived found first_image
    pub each : (k p n : ℕ) (s : State) (history : List ℕ) (a b : Image) → slice_get found.states.items k ≡ Some s → History found.steps.items s.number history
        → HistoryLeadsTo code history a → RunEntry code p a n b → IsArrived found b

-- the last process that may act, where one may
abbrev pub IsLastAble : Image → Option ℕ → Type 0
IsLastAble img None = (p : ℕ) → may_act img p ≡ false
IsLastAble img (Some last) = (may_act img last ≡ true) × ((p : ℕ) → may_act img p ≡ true → (1 ≤ p) × (p ≤ last))

-- ---- all

-- an image with this output and this end is that of a state
pub record IsEndKept (code : Code) (found : Found) (output : List (List ℕ)) (e : ImageEnd) : Type 0 where
  pub image : Image
  pub kept : IsKept code found.steps.items found.states.items image
  pub output_is : image.output ≡ output
  pub ends : image_end image ≡ Some e

-- it is noted that the process comes to the stack limit, with so many words, after a state with this output
pub record IsStopKept (code : Code) (found : Found) (output : List (List ℕ)) (p words : ℕ) : Type 0 where
  pub image : Image
  pub quiet : Image
  pub kept : IsKept code found.steps.items found.states.items image
  pub output_is : image.output ≡ output
  pub stops : Stops code p image quiet
  pub words_are : stack_length p quiet ≡ words
  pub noted : IsNoted found.limits.items kept.number p

-- the end of each run is that of a state, and each process that comes to the stack limit is noted
pub record AreAll (code : Code) (found : Found) : Type 0 where
  pub ends : (history counts : List ℕ) (img : Image) (e : ImageEnd) → Runs code history counts img → image_end img ≡ Some e
      → IsEndKept code found img.output e
  pub stops : (history counts : List ℕ) (img quiet : Image) (p : ℕ) → Runs code history counts img → may_act img p ≡ true → Stops code p img quiet
      → IsStopKept code found img.output p (stack_length p quiet)
