-- What is kept of a cell's accesses: enough to find the greatest one that is not ordered before the next.
use Rattle.std.specs.Prelude.{◌≡◌, ◌≢◌, ◌⊎◌, ℕ, ◌+◌, nat_lt, max, ◌==◌, if◌then◌else◌, Bool, true, false, List, [], ◌∷◌, ◌++◌, length, Some}
use Rattle.b67_race.specs.Entries.{CellName, Done}
use Rattle.b67_race.specs.Orders.{Ordered, UpTo}
use Rattle.b67_race.specs.Clocks.{ClockTells}
use Rattle.b67_race.specs.Racing.{Touches, Conflict, IsRace}
use Rattle.b67_race.specs.declared.cells.Past.{Past}

abbrev pub IsInPast : List Past → Past → Type 0
IsInPast [] x = ⊥
IsInPast (y ∷ ys) x = (y ≡ x) ⊎ IsInPast ys x

-- the last store, where there is one, and of each process its last read since then
pub record Watch : Type 0 where
  pub stores : List Past
  pub reads : List Past

abbrev pub none_yet : Watch
none_yet = record { stores = []; reads = [] }

-- what an access has to be ordered after: a store after all that is kept, a read after the store
abbrev pub rivals : Bool → Watch → List Past
rivals true w = w.stores ++ w.reads
rivals false w = w.stores

-- what a clock does not tell
abbrev pub is_apart : (ℕ → ℕ) → Past → Bool
is_apart clock x = nat_lt (clock x.process) x.entry

-- the greatest entry of those that a clock does not tell, 0 where it tells all
abbrev pub latest : (ℕ → ℕ) → List Past → ℕ
latest clock [] = 0
latest clock (x ∷ xs) = if is_apart clock x then max x.entry (latest clock xs) else latest clock xs

-- a read comes: it takes the place of that of its process, where there is one
abbrev pub read_noted : Past → List Past → List Past
read_noted x [] = x ∷ []
read_noted x (y ∷ ys) = if y.process == x.process then x ∷ ys else y ∷ read_noted x ys

-- what is kept after an access that is ordered after its rivals
abbrev pub watched : Bool → Past → Watch → Watch
watched true x w = record { stores = x ∷ []; reads = [] }
watched false x w = record { stores = w.stores; reads = read_noted x w.reads }

-- It is an access of the cell with which one of that kind may conflict.
pub record IsRival (ds : List Done) (c : CellName) (storing : Bool) (x : Past) : Type 0 where
  pub done : Done
  pub stores : Bool
  pub is : Touches ds c x.entry done stores
  pub process : done.process ≡ x.process
  pub either : (stores ≡ true) ⊎ (storing ≡ true)

-- one of these is that access, or is ordered after it
pub record IsCovered (ds : List Done) (xs : List Past) (i : ℕ) : Type 0 where
  pub past : Past
  pub in_it : IsInPast xs past
  pub up_to : UpTo ds i past.entry

-- These are accesses of the cell with which one of that kind may conflict, and each other one is ordered before one of them.
pub record Covers (ds : List Done) (c : CellName) (storing : Bool) (xs : List Past) : Type 0 where
  pub are : (x : Past) → IsInPast xs x → IsRival ds c storing x
  pub all : (i : ℕ) (d : Done) (b : Bool) → Touches ds c i d b → (b ≡ true) ⊎ (storing ≡ true) → IsCovered ds xs i

-- No two accesses of the cell conflict, and what is kept covers them.
pub record Watches (ds : List Done) (c : CellName) (w : Watch) : Type 0 where
  pub quiet : (i j : ℕ) → Conflict ds c i j → ⊥
  pub covers : (storing : Bool) → Covers ds c storing (rivals storing w)

-- ---- the laws

-- the next entry accesses the cell so
abbrev pub WatchNext : List Done → Done → CellName → Bool → (ℕ → ℕ) → Type 0
WatchNext ds d c storing clock =
    (d.access ≡ Some (record { cell = c; storing = storing })) × ClockTells ds clock (λ k. Ordered (ds ++ d ∷ []) k (length ds + 1))

-- The greatest of its rivals that its clock does not tell makes the race of the cell, and where there is none, no accesses conflict.
abbrev pub LatestMakeRaces : Type 0
LatestMakeRaces =
    (ds : List Done) (d : Done) (c : CellName) (storing : Bool) (clock : ℕ → ℕ) (w : Watch) → Watches ds c w → WatchNext ds d c storing clock →
    latest clock (rivals storing w) ≢ 0 → IsRace (ds ++ d ∷ []) c (latest clock (rivals storing w)) (length ds + 1)

abbrev pub WatchesStay : Type 0
WatchesStay =
    (ds : List Done) (d : Done) (c : CellName) (storing : Bool) (clock : ℕ → ℕ) (w : Watch) → Watches ds c w → WatchNext ds d c storing clock →
    latest clock (rivals storing w) ≡ 0 → Watches (ds ++ d ∷ []) c (watched storing (record { entry = length ds + 1; process = d.process }) w)

-- the entry does not access the cell
abbrev pub Elsewhere : Done → CellName → Type 0
Elsewhere d c = (storing : Bool) → d.access ≡ Some (record { cell = c; storing = storing }) → ⊥

abbrev pub OthersStay : Type 0
OthersStay =
    (ds : List Done) (d : Done) (c : CellName) (w : Watch) → Watches ds c w → Elsewhere d c → Watches (ds ++ d ∷ []) c w

-- a race stays one
abbrev pub RacesStay : Type 0
RacesStay = (ds : List Done) (d : Done) (c : CellName) (k j : ℕ) → IsRace ds c k j → IsRace (ds ++ d ∷ []) c k j

-- a cell has one race
abbrev pub CellsHaveOne : Type 0
CellsHaveOne = (ds : List Done) (c : CellName) (k j i l : ℕ) → IsRace ds c k j → IsRace ds c i l → (k ≡ i) × (j ≡ l)
