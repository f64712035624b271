-- The races of entries as a function of what they did: a walk from the first entry to the last. And some schedules with their races.
use Rattle.std.specs.Prelude.{◌≡◌, ℕ, ◌+◌, ◌==◌, Bool, true, false, List, [], ◌∷◌, ◌++◌, if◌then◌else◌, Option, Some, None, codes}
use Rattle.std.specs.Ordering.{nat_cmp, ordering_then, is_eq}
use Rattle.std.specs.Cmp.Lexicographic.{slice_cmp}
use Rattle.b67_race.specs.Entries.{CellName, Signal, nothing, sets, goes_by, frees, takes, Access, Done, touches}
use Rattle.b67_race.specs.Clocks.{own_clock, clock_joined, process_clock}
use Rattle.b67_race.specs.Watching.{none_yet}
use Rattle.b67_race.specs.Cells.{Standing, quiet, element_number_of, rival_in, standing_after}
use Rattle.b67_race.specs.Races.{Race, AreRaces, race_by}

-- the same cell
abbrev pub same_cell : CellName → CellName → Bool
same_cell c d =
    is_eq (ordering_then (nat_cmp c.instance d.instance) (ordering_then (nat_cmp (element_number_of c.at) (element_number_of d.at)) (slice_cmp nat_cmp c.name d.name)))

-- what is so of a cell, where it becomes another thing for one of them
abbrev pub put_at : {A : Type 0} → CellName → A → (CellName → A) → CellName → A
put_at c x f d = if same_cell c d then x else f d

-- clocks and cells after some entries, and the races found
pub record Walk : Type 0 where
  pub of_process : ℕ → ℕ → ℕ
  pub set_by : CellName → ℕ → ℕ
  pub freed_by : CellName → ℕ → ℕ
  pub cells : CellName → Standing
  pub found : List Race

abbrev pub first_walk : Walk
first_walk = record { of_process = λ p q. 0; set_by = λ c q. 0; freed_by = λ c q. 0; cells = λ c. quiet none_yet; found = [] }

abbrev pub set_after : Signal → (ℕ → ℕ) → (CellName → ℕ → ℕ) → CellName → ℕ → ℕ
set_after (sets c) own set_by = put_at c own set_by
set_after s own set_by = set_by

abbrev pub freed_after : Signal → (ℕ → ℕ) → (CellName → ℕ → ℕ) → CellName → ℕ → ℕ
freed_after (frees c) own freed_by = put_at c own freed_by
freed_after s own freed_by = freed_by

abbrev pub cells_after : ℕ → ℕ → (ℕ → ℕ) → Option Access → (CellName → Standing) → CellName → Standing
cells_after n p clock None cells = cells
cells_after n p clock (Some a) cells = put_at a.cell (standing_after a.storing clock (record { entry = n; process = p }) (cells a.cell)) cells

abbrev pub found_after : ℕ → (ℕ → ℕ) → Option Access → (CellName → Standing) → List Race → List Race
found_after n clock None cells rs = rs
found_after n clock (Some a) cells rs = rs ++ race_by (rival_in a.storing clock (cells a.cell)) n a.cell

-- one entry more, of that number
abbrev pub walked : ℕ → Done → Walk → Walk
walked n d s =
    record {
      of_process = λ p. process_clock (d.process == p) (touches d p) (own_clock n d s.of_process s.set_by s.freed_by) (s.of_process p);
      set_by = set_after d.signal (own_clock n d s.of_process s.set_by s.freed_by) s.set_by;
      freed_by = freed_after d.signal (own_clock n d s.of_process s.set_by s.freed_by) s.freed_by;
      cells = cells_after n d.process (clock_joined d s.of_process s.set_by s.freed_by) d.access s.cells;
      found = found_after n (clock_joined d s.of_process s.set_by s.freed_by) d.access s.cells s.found;
    }

abbrev pub walked_from : ℕ → List Done → Walk → Walk
walked_from n [] s = s
walked_from n (d ∷ ds) s = walked_from (n + 1) ds (walked n d s)

abbrev pub races_of : List Done → List Race
races_of ds = (walked_from 1 ds first_walk).found

-- ---- the laws

-- these are the races
abbrev pub RacesAreComputed : Type 0
RacesAreComputed = (ds : List Done) → AreRaces ds (races_of ds)

-- and there are no other ones
abbrev pub RacesAreOneList : Type 0
RacesAreOneList = (ds : List Done) (rs ss : List Race) → AreRaces ds rs → AreRaces ds ss → rs ≡ ss

-- ---- schedules with their races

abbrev pub variable : CellName
variable = record { instance = 1; name = codes "N"; at = None }

abbrev pub event : CellName
event = record { instance = 1; name = codes "E"; at = None }

abbrev pub entry_does : ℕ → Done
entry_does p = record { process = p; access = None; signal = nothing; released = []; started = None }

abbrev pub reads : ℕ → Done
reads p = record (entry_does p) { access = Some (record { cell = variable; storing = false }) }

abbrev pub stores : ℕ → Done
stores p = record (entry_does p) { access = Some (record { cell = variable; storing = true }) }

abbrev pub entry_starts : ℕ → ℕ → Done
entry_starts p q = record (entry_does p) { started = Some q }

abbrev pub signals : ℕ → Signal → Done
signals p s = record (entry_does p) { signal = s }

abbrev pub race : ℕ → ℕ → Race
race k j = record { first = k; second = j; cell = variable }

-- In order: what is stored before a process is started is before all that it does; two stores that nothing orders; a lost update; an event that
-- is caused and waited for; one that had happened already, and is caused again; one that is not caused again; an event that is taken after its
-- LIBERATE; a store, and the later of two reads; a process that is released.
abbrev pub SchedulesWithRaces : Type 0
SchedulesWithRaces =
    (races_of (stores 1 ∷ entry_starts 1 2 ∷ stores 2 ∷ []) ≡ [])
    × (races_of (entry_starts 1 2 ∷ stores 1 ∷ stores 2 ∷ stores 1 ∷ []) ≡ race 2 3 ∷ [])
    × (races_of (entry_starts 1 2 ∷ reads 1 ∷ reads 2 ∷ stores 1 ∷ stores 2 ∷ []) ≡ race 3 4 ∷ [])
    × (races_of (entry_starts 1 2 ∷ stores 1 ∷ signals 1 (sets event) ∷ signals 2 (goes_by event) ∷ reads 2 ∷ []) ≡ [])
    × (races_of (entry_starts 1 2 ∷ signals 1 (sets event) ∷ stores 1 ∷ signals 1 (sets event) ∷ signals 2 (goes_by event) ∷ reads 2 ∷ []) ≡ [])
    × (races_of (entry_starts 1 2 ∷ signals 1 (sets event) ∷ stores 1 ∷ signals 2 (goes_by event) ∷ reads 2 ∷ []) ≡ race 3 5 ∷ [])
    × (races_of (entry_starts 1 2 ∷ signals 1 (takes event) ∷ stores 1 ∷ signals 1 (frees event) ∷ signals 2 (takes event) ∷ stores 2 ∷ []) ≡ [])
    × (races_of (entry_starts 1 2 ∷ entry_starts 1 3 ∷ reads 2 ∷ reads 3 ∷ stores 1 ∷ []) ≡ race 4 5 ∷ [])
    × (races_of (entry_starts 1 2 ∷ entry_does 2 ∷ stores 1 ∷ record (entry_does 1) { released = 2 ∷ [] } ∷ entry_does 2 ∷ reads 2 ∷ []) ≡ [])
