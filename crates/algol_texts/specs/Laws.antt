-- The laws of texts: an accepted program has texts as worlds want them.
use Rattle.std.specs.Prelude.{◌≡◌, ℕ, List, Some}
use Rattle.algol_tree.specs.Accepted.{Accepted}
use Rattle.algol_tree.specs.Ascending.{IsInOrder}
use Rattle.algol_tree.specs.First.{Source}
use Rattle.algol_tree.specs.Plain.{PProgram}
use Rattle.algol_meaning.specs.World.{World}
use Rattle.algol_meaning.specs.Run.{run}
use Rattle.algol_calls.specs.Texts.{HasTexts}
use Rattle.algol_standing.specs.Laws.{WorldStands}

abbrev pub TextsOfAcceptedFit : Type 0
TextsOfAcceptedFit = (p : PProgram) → Accepted p → IsInOrder p → HasTexts p

abbrev pub TextsOfSourcesFit : Type 0
TextsOfSourcesFit = (bytes : List ℕ) (p : PProgram) → Source bytes p → HasTexts p

-- so it is with each that a run comes to, whatever its schedule
abbrev pub WorldsOfAcceptedStand : Type 0
WorldsOfAcceptedStand = (p : PProgram) (h : List ℕ) (w : World) → Accepted p → IsInOrder p → run p h ≡ Some w → WorldStands p w

abbrev pub WorldsOfSourcesStand : Type 0
WorldsOfSourcesStand = (bytes : List ℕ) (p : PProgram) (h : List ℕ) (w : World) → Source bytes p → run p h ≡ Some w → WorldStands p w
