-- What is answered on a walk over a schedule that stops where commands are given.
use Rattle.std.specs.Prelude.{◌≡◌, ◌≢◌, ℕ, ◌-◌, ◌<◌, ◌≤◌, ◌^◌, List, ◌++◌, length, take, Some, slice_get}
use Rattle.b67_commands.specs.declared.command.Command.{Command}

-- ---- one stop

-- above k, and no position is between
pub record IsNextStop (at : List ℕ) (k next : ℕ) : Type 0 where
  pub above : k < next
  pub least : (place here : ℕ) → slice_get at place ≡ Some here → k < here → next ≤ here

-- The commands that are given at k, after these entries, are answered in their places, and the other places are as before.
pub record AnswersHere (Answers : List ℕ → Command → List ℕ → Type 0) (done : List ℕ) (commands : List Command) (at : List ℕ) (k : ℕ) (old new : List (List ℕ)) : Type 0 where
  pub here : (place : ℕ) (command : Command) → slice_get at place ≡ Some k → slice_get commands place ≡ Some command →
      (text : List ℕ) × (slice_get new place ≡ Some text) × Answers done command text
  pub others : (place there : ℕ) → slice_get at place ≡ Some there → there ≢ k → slice_get new place ≡ slice_get old place
  pub places : length new ≡ length old

-- ---- from stop to stop

-- of these entries, the commands that are given after fewer than n are answered, each in its place
abbrev pub AnsweredBelow : (List ℕ → Command → List ℕ → Type 0) → List ℕ → List Command → List ℕ → ℕ → List (List ℕ) → Type 0
AnsweredBelow Answers given commands at n texts =
    (place here : ℕ) (command : Command) → slice_get at place ≡ Some here → slice_get commands place ≡ Some command → here < n →
    (text : List ℕ) × (slice_get texts place ≡ Some text) × Answers (take here given) command text

-- A walker stands after the first k of the given entries, and these are left; what is given before the next stop is answered.
pub record IsAt
    (Stands : Type 0) (Goes : List ℕ → Type 0) (Answers : List ℕ → Command → List ℕ → Type 0) (done given left : List ℕ) (commands : List Command) (at : List ℕ) (k next : ℕ)
    (texts : List (List ℕ)) : Type 0 where
  pub stands : Stands
  pub goes : Goes given
  pub split : given ≡ done ++ left
  pub is : k ≡ length done
  pub above : k < next
  pub few : length given < 2 ^ 64 - 1
  pub places : length texts ≡ length commands
  pub answered : AnsweredBelow Answers given commands at next texts

-- ---- all

-- each command is answered where it is given
pub record AreAnswers (Answers : List ℕ → Command → List ℕ → Type 0) (given : List ℕ) (commands : List Command) (at : List ℕ) (texts : List (List ℕ)) : Type 0 where
  pub places : length texts ≡ length commands
  pub each : (place here : ℕ) (command : Command) → slice_get at place ≡ Some here → slice_get commands place ≡ Some command →
      (text : List ℕ) × (slice_get texts place ≡ Some text) × Answers (take here given) command text
