-- The laws of worlds that are alike but for the cells of the instances that are left.
use Rattle.std.specs.Prelude.{◌≡◌, ℕ, List}
use Rattle.algol_tree.specs.Accepted.{Accepted}
use Rattle.algol_tree.specs.Ascending.{IsInOrder}
use Rattle.algol_tree.specs.First.{Source}
use Rattle.algol_tree.specs.Plain.{PProgram}
use Rattle.algol_tree.specs.Scopes.{Scopes, scopes_of}
use Rattle.algol_meaning.specs.World.{World}
use Rattle.algol_meaning.specs.Choice.{Choice, choice}
use Rattle.algol_meaning.specs.Run.{start, end_of, may_go}
use Rattle.algol_seen.specs.Accesses.{done_of}
use Rattle.algol_lean.specs.Lean.{Lean, UsesNoneLeft}
use Rattle.algol_lean.specs.Beside.{KeepsInUse}

-- What is chosen in one world, and in another: the same, and the worlds after it are alike but for the cells of the instances that are left.
pub record GoesAlike (c d : Choice) : Type 0 where
  pub action : d.action ≡ c.action
  pub released : d.released ≡ c.released
  pub started : d.started ≡ c.started
  pub world : Lean c.world d.world

-- Where v is w but for the cells of the instances that are left, it has the same end, and the same processes may go. An action that uses no cell of
-- these is the same in both; and so is what it does with cells and events.
pub record LeanWorldsGoAlike : Type 0 where
  pub ends : (w v : World) → Lean w v → end_of v ≡ end_of w
  pub may : (w v : World) (p : ℕ) → Lean w v → may_go v p ≡ may_go w p
  pub goes : (sc : Scopes) (w v : World) (p : ℕ) → Lean w v → UsesNoneLeft sc w p → GoesAlike (choice sc w p) (choice sc v p)
  pub does : (sc : Scopes) (w v : World) (p : ℕ) → Lean w v → UsesNoneLeft sc w p → done_of sc v p ≡ done_of sc w p

-- No action of an accepted source uses a cell of an instance that is left, whatever the schedule.
abbrev pub SourcesKeepInUse : Type 0
SourcesKeepInUse = (bytes : List ℕ) (tree : PProgram) → Source bytes tree → KeepsInUse (scopes_of tree) (start (scopes_of tree))

-- So it is with each accepted program whose places are in the order of its text.
abbrev pub AcceptedKeepInUse : Type 0
AcceptedKeepInUse = (tree : PProgram) → Accepted tree → IsInOrder tree → KeepsInUse (scopes_of tree) (start (scopes_of tree))
