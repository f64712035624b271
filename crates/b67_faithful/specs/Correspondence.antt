-- What each entry of a history is in the source: its action, whom it releases and whom it starts.
use Rattle.std.specs.Prelude.{ℕ, List, [], ◌∷◌, Option, Some, None, reverse}
use Rattle.algol_tree.specs.Plain.{PProgram}
use Rattle.algol_tree.specs.Scopes.{scopes_of}
use Rattle.algol_meaning.specs.World.{World}
use Rattle.algol_meaning.specs.Choice.{Choice, choice}
use Rattle.algol_meaning.specs.Run.{run}
use Rattle.b67_deeds.specs.declared.Letter.{Letter}

-- what a process of the source does next, by a part of its choice
abbrev pub choice_part : {A : Type 0} → (Choice → A) → A → PProgram → Option World → ℕ → A
choice_part part none tree None p = none
choice_part part none tree (Some w) p = part (choice (scopes_of tree) w p)

abbrev pub action_in : PProgram → Option World → ℕ → Option Letter
action_in tree o p = choice_part (λ (c : Choice). Some c.action) None tree o p

-- whom it releases, in their order
abbrev pub released_in : PProgram → Option World → ℕ → List ℕ
released_in tree o p = choice_part (λ (c : Choice). c.released) [] tree o p

-- whom it starts
abbrev pub started_in : PProgram → Option World → ℕ → Option ℕ
started_in tree o p = choice_part (λ (c : Choice). c.started) None tree o p

-- that of each entry of a history, the newest first
abbrev pub of_entries : {A : Type 0} → (Option World → ℕ → A) → PProgram → List ℕ → List A
of_entries one tree [] = []
of_entries one tree (p ∷ h) = one (run tree (reverse h)) p ∷ of_entries one tree h

abbrev pub source_actions : PProgram → List ℕ → List (Option Letter)
source_actions tree h = of_entries (action_in tree) tree h

abbrev pub source_released : PProgram → List ℕ → List (List ℕ)
source_released tree h = of_entries (released_in tree) tree h

abbrev pub source_started : PProgram → List ℕ → List (Option ℕ)
source_started tree h = of_entries (started_in tree) tree h
