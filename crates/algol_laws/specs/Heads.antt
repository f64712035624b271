-- Every part has a head that asks for an action.
use Rattle.std.specs.Prelude.{◌≡◌, ℕ, Bool, true, false, List, ◌∷◌, Some}
use Rattle.b67_list.specs.Numbered.{numbered}
use Rattle.algol_tree.specs.Plain.{PProgram}
use Rattle.algol_meaning.specs.World.{Part, Process, World}
use Rattle.algol_meaning.specs.Asks as asks
use Rattle.algol_meaning.specs.Asks.{Ask, ask}
use Rattle.algol_meaning.specs.Run.{run}

abbrev pub asks_action : Ask → Bool
asks_action asks.nothing = false
asks_action _ = true

-- No rest is stuck: in the world after a legal schedule the innermost part of each process asks for an action.
abbrev pub EachPartActs : Type 0
EachPartActs =
    (tree : PProgram) (h : List ℕ) (w : World) → run tree h ≡ Some w → (p : ℕ) (q : Process) (part : Part) (outer : List Part) →
    numbered w.processes p ≡ Some q → q.todo ≡ part ∷ outer → asks_action (ask part.rest) ≡ true
