-- Where a console stands with each of its commands: after so many entries of a schedule. Of each entry it is given under which name it stores, if it does.
use Rattle.std.specs.Prelude.{◌≡◌, ◌⊎◌, ℕ, suc, ◌+◌, ◌<◌, ◌≤◌, min, if◌then◌else◌, Bool, true, false, List, [], ◌∷◌, length, drop, Option, Some, None, slice_get}
use Rattle.algol_tree.specs.Sorts.{same_name}
use Rattle.b67_commands.specs.declared.command.Command.{Command}
use Rattle.b67_commands.specs.declared.command.Command.TheVariants.{Go, Store, Show, Stack, Regs}

abbrev pub Stored : Type 0
Stored = List (Option (List ℕ))

abbrev pub stores_under : List ℕ → Option (List ℕ) → Bool
stores_under name None = false
stores_under name (Some other) = same_name other name

-- how many entries it is to the next that stores under that name, that one counted too, and all where none does
abbrev pub to_store : List ℕ → Stored → ℕ
to_store name [] = 0
to_store name (entry ∷ rest) = if stores_under name entry then 1 else suc (to_store name rest)

-- where a command leads that is given after the first k entries
abbrev pub position_moved : Stored → ℕ → Command → ℕ
position_moved stored k (Go n) = min n (length stored)
position_moved stored k (Store name) = k + to_store name (drop k stored)
position_moved stored k Show = k
position_moved stored k (Stack p) = k
position_moved stored k (Regs p) = k

-- where it stands when it answers each of the commands
abbrev pub positions : Stored → ℕ → List Command → List ℕ
positions stored k [] = []
positions stored k (command ∷ commands) = position_moved stored k command ∷ positions stored (position_moved stored k command) commands

-- ---- what is said of it

-- Entries have numbers from 1: the one with that number stores under that name.
abbrev pub IsStore : Stored → List ℕ → ℕ → Type 0
IsStore stored name number = (before : ℕ) × (number ≡ before + 1) × (other : Option (List ℕ)) × (slice_get stored before ≡ Some other) × (stores_under name other ≡ true)

-- The least entry above k that stores under that name, or all where there is none.
pub record IsNextStore (stored : Stored) (name : List ℕ) (k n : ℕ) : Type 0 where
  pub within : n ≤ length stored
  pub least : (number : ℕ) → k < number → IsStore stored name number → n ≤ number
  pub is : ((k < n) × IsStore stored name n) ⊎ ((n ≡ length stored) × ((number : ℕ) → k < number → IsStore stored name number → ⊥))

abbrev pub StoresLeadToTheNext : Type 0
StoresLeadToTheNext = (stored : Stored) (name : List ℕ) (k : ℕ) → k ≤ length stored → IsNextStore stored name k (position_moved stored k (Store name))

-- No command leads past the last entry.
abbrev pub PositionsAreWithin : Type 0
PositionsAreWithin = (stored : Stored) (k : ℕ) (command : Command) → k ≤ length stored → position_moved stored k command ≤ length stored
