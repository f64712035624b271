-- Answers in their places.
use Rattle.std.proofs.Common.{◌≡◌, ◌≢◌, ℕ, ◌<◌, List, length, Some}
use Rattle.std.specs.Prelude.{slice_get}
use Rattle.b67_commands.specs.declared.command.Command.{Command}

-- of the commands that are given at k, those in the first so many places are answered
pub record ToldBefore (Answers : List ℕ → Command → List ℕ → Type 0) (done : List ℕ) (commands : List Command) (at : List ℕ) (k before : ℕ) (old new : List (List ℕ)) : Type 0 where
  pub here : (place : ℕ) (command : Command) → place < before → slice_get at place ≡ Some k → slice_get commands place ≡ Some command →
      (text : List ℕ) × (slice_get new place ≡ Some text) × Answers done command text
  pub others : (place there : ℕ) → slice_get at place ≡ Some there → there ≢ k → slice_get new place ≡ slice_get old place
  pub places : length new ≡ length old
