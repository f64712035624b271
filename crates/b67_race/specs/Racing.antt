-- The races of a schedule.
use Rattle.std.specs.Prelude.{◌≡◌, ◌≢◌, ◌⊎◌, ℕ, ◌<◌, ◌≤◌, Bool, true, List, Some}
use Rattle.b67_race.specs.Entries.{CellName, Done, IsNumberedEntry}
use Rattle.b67_race.specs.Orders.{Ordered}

-- Entry k reads or stores that cell.
pub record Touches (ds : List Done) (c : CellName) (k : ℕ) (d : Done) (storing : Bool) : Type 0 where
  pub is : IsNumberedEntry ds k d
  pub access : d.access ≡ Some (record { cell = c; storing = storing })

-- Two entries of two processes, the first before the second, read or store the same cell, one at least stores it, and they are not ordered.
pub record Conflict (ds : List Done) (c : CellName) (k j : ℕ) : Type 0 where
  pub before : k < j
  pub first : Done
  pub second : Done
  pub first_stores : Bool
  pub second_stores : Bool
  pub first_is : Touches ds c k first first_stores
  pub second_is : Touches ds c j second second_stores
  pub processes : first.process ≢ second.process
  pub stores : (first_stores ≡ true) ⊎ (second_stores ≡ true)
  pub apart : Ordered ds k j → ⊥

-- Of a cell with a conflict: the pair with the least second entry, and for that the greatest first one.
pub record IsRace (ds : List Done) (c : CellName) (k j : ℕ) : Type 0 where
  pub conflict : Conflict ds c k j
  pub least : (i l : ℕ) → Conflict ds c i l → j ≤ l
  pub greatest : (i : ℕ) → Conflict ds c i j → i ≤ k
