-- The list of a schedule's races, and the walk that finds it.
use Rattle.std.specs.Prelude.{◌≡◌, ◌⊎◌, ℕ, zero, suc, ◌+◌, ◌<◌, List, [], ◌∷◌, ◌++◌, length, Option, Some, None}
use Rattle.b67_race.specs.Entries.{CellName, Access, Done}
use Rattle.b67_race.specs.Clocks.{Tracks, Notes, clock_joined}
use Rattle.b67_race.specs.Racing.{IsRace}
use Rattle.b67_race.specs.Watching.{Watches}
use Rattle.b67_race.specs.Cells.{Standing, quiet, raced, rival_in, standing_after}

pub record Race : Type 0 where
  pub first : ℕ
  pub second : ℕ
  pub cell : CellName

abbrev pub IsAmongRaces : List Race → Race → Type 0
IsAmongRaces [] r = ⊥
IsAmongRaces (s ∷ rs) r = (s ≡ r) ⊎ IsAmongRaces rs r

-- each second entry is above those of the races before it, and at most the greatest
abbrev pub AreBelow : List Race → ℕ → Type 0
AreBelow rs n = (r : Race) → IsAmongRaces rs r → r.second < n

abbrev pub Rise : List Race → Type 0
Rise [] = Unit {0}
Rise (r ∷ rs) = ((s : Race) → IsAmongRaces rs s → r.second < s.second) × Rise rs

-- These are the races of the entries, by ascending second ones.
pub record AreRaces (ds : List Done) (rs : List Race) : Type 0 where
  pub all : (c : CellName) (k j : ℕ) → IsRace ds c k j → IsAmongRaces rs (record { first = k; second = j; cell = c })
  pub only : (r : Race) → IsAmongRaces rs r → IsRace ds r.cell r.first r.second
  pub rise : Rise rs

-- ---- the walk

-- what is kept of a cell is so
abbrev pub StandsSo : List Done → List Race → CellName → Standing → Type 0
StandsSo ds rs c (quiet w) = Watches ds c w
StandsSo ds rs c raced = (k : ℕ) × (j : ℕ) × IsRace ds c k j × IsAmongRaces rs (record { first = k; second = j; cell = c })

-- Where a walk over these entries stands: clocks, cells and the races found.
pub record RaceWalks (ds : List Done) (of_process : ℕ → ℕ → ℕ) (set_by freed_by : CellName → ℕ → ℕ) (cells : CellName → Standing) (rs : List Race) : Type 0 where
  pub tracks : Tracks ds of_process set_by freed_by
  pub stands : (c : CellName) → StandsSo ds rs c (cells c)
  pub only : (r : Race) → IsAmongRaces rs r → IsRace ds r.cell r.first r.second
  pub below : AreBelow rs (length ds + 1)
  pub rise : Rise rs

-- the race that a rival makes, if there is one
abbrev pub race_by : ℕ → ℕ → CellName → List Race
race_by zero j c = []
race_by (suc k) j c = record { first = suc k; second = j; cell = c } ∷ []

-- The cells and the races after the entry of that number, which does this, where its clock is that one.
abbrev pub RaceFinds : ℕ → ℕ → Option Access → (ℕ → ℕ) → (CellName → Standing) → (CellName → Standing) → List Race → List Race → Type 0
RaceFinds entry p None clock old new rs after = ((c : CellName) → new c ≡ old c) × (after ≡ rs)
RaceFinds entry p (Some a) clock old new rs after =
    (new a.cell ≡ standing_after a.storing clock (record { entry = entry; process = p }) (old a.cell))
    × ((c : CellName) → (c ≡ a.cell) ⊎ ((c ≡ a.cell → ⊥) × (new c ≡ old c)))
    × (after ≡ rs ++ race_by (rival_in a.storing clock (old a.cell)) entry a.cell)

-- ---- the laws

abbrev pub WalksGoOn : Type 0
WalksGoOn =
    (ds : List Done) (d : Done) (of_process : ℕ → ℕ → ℕ) (set_by freed_by : CellName → ℕ → ℕ) (of_process' : ℕ → ℕ → ℕ) (set_by' freed_by' : CellName → ℕ → ℕ)
    (cells cells' : CellName → Standing) (rs rs' : List Race) → RaceWalks ds of_process set_by freed_by cells rs →
    Notes (length ds + 1) d of_process set_by freed_by of_process' set_by' freed_by' →
    RaceFinds (length ds + 1) d.process d.access (clock_joined d of_process set_by freed_by) cells cells' rs rs' →
    RaceWalks (ds ++ d ∷ []) of_process' set_by' freed_by' cells' rs'

abbrev pub WalksFindAll : Type 0
WalksFindAll =
    (ds : List Done) (of_process : ℕ → ℕ → ℕ) (set_by freed_by : CellName → ℕ → ℕ) (cells : CellName → Standing) (rs : List Race) →
    RaceWalks ds of_process set_by freed_by cells rs → AreRaces ds rs
