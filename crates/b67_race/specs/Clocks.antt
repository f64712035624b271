-- Clocks: for each process the number of its last entry that is known, 0 for none.
use Rattle.std.specs.Prelude.{◌≡◌, ◌⊎◌, ℕ, ◌+◌, ◌≤◌, ◌==◌, max, if◌then◌else◌, Bool, true, false, List, [], ◌∷◌, ◌++◌, length}
use Rattle.b67_race.specs.Entries.{Signal, sets, goes_by, frees, takes, CellName, Done, touches, IsNumberedEntry}
use Rattle.b67_race.specs.Orders.{IsLastSignal, Ordered, UpTo}

-- The entries that come before the next one of a process, unless that goes on by an event or takes one: those of the process, those that
-- started or released it, and those before them.
pub record IsKnown (ds : List Done) (p k : ℕ) : Type 0 where
  pub entry : ℕ
  pub done : Done
  pub is : IsNumberedEntry ds entry done
  pub touches : touches done p ≡ true
  pub up_to : UpTo ds k entry

-- The entries up to the last one that did this with an event.
pub record IsBehind (ds : List Done) (s : Signal) (k : ℕ) : Type 0 where
  pub entry : ℕ
  pub last : IsLastSignal ds s entry (length ds + 1)
  pub up_to : UpTo ds k entry

-- A clock tells which of some entries these are.
pub record ClockTells (ds : List Done) (clock : ℕ → ℕ) (Those : ℕ → Type 0) : Type 0 where
  pub within : (q : ℕ) → clock q ≤ length ds
  pub all : (k : ℕ) (d : Done) → IsNumberedEntry ds k d → Those k → k ≤ clock d.process
  pub only : (k : ℕ) (d : Done) → IsNumberedEntry ds k d → k ≤ clock d.process → Those k

-- The clocks of processes and of events after these entries.
pub record Tracks (ds : List Done) (of_process : ℕ → ℕ → ℕ) (set_by freed_by : CellName → ℕ → ℕ) : Type 0 where
  pub processes : (p : ℕ) → ClockTells ds (of_process p) (IsKnown ds p)
  pub set : (c : CellName) → ClockTells ds (set_by c) (IsBehind ds (sets c))
  pub freed : (c : CellName) → ClockTells ds (freed_by c) (IsBehind ds (frees c))

-- what an event adds to what a process knows
abbrev pub by_signal : Signal → (CellName → ℕ → ℕ) → (CellName → ℕ → ℕ) → ℕ → ℕ
by_signal (goes_by c) set_by freed_by q = set_by c q
by_signal (takes c) set_by freed_by q = freed_by c q
by_signal s set_by freed_by q = 0

-- the entries before the next one, which does this
abbrev pub clock_joined : Done → (ℕ → ℕ → ℕ) → (CellName → ℕ → ℕ) → (CellName → ℕ → ℕ) → ℕ → ℕ
clock_joined d of_process set_by freed_by q = max (of_process d.process q) (by_signal d.signal set_by freed_by q)

-- and it
abbrev pub with_own : ℕ → ℕ → (ℕ → ℕ) → ℕ → ℕ
with_own p entry clock q = if p == q then entry else clock q

-- the clock of the process of an entry right after it
abbrev pub own_clock : ℕ → Done → (ℕ → ℕ → ℕ) → (CellName → ℕ → ℕ) → (CellName → ℕ → ℕ) → ℕ → ℕ
own_clock entry d of_process set_by freed_by q = with_own d.process entry (clock_joined d of_process set_by freed_by) q

-- a clock is that one where this holds, and stays where it does not
abbrev pub Becomes : Type 0 → (ℕ → ℕ) → (ℕ → ℕ) → (ℕ → ℕ) → Type 0
Becomes This old own new = (This × ((q : ℕ) → new q ≡ own q)) ⊎ ((This → ⊥) × ((q : ℕ) → new q ≡ old q))

-- the clock of a process after an entry: of the entry's own process; of one that it starts or releases; of any other
abbrev pub process_clock : Bool → Bool → (ℕ → ℕ) → (ℕ → ℕ) → ℕ → ℕ
process_clock true touched own old q = own q
process_clock false true own old q = max (old q) (own q)
process_clock false false own old q = old q

-- The clocks after the entry of this number, which did this.
pub record Notes (entry : ℕ) (d : Done) (of_process : ℕ → ℕ → ℕ) (set_by freed_by : CellName → ℕ → ℕ)
    (of_process' : ℕ → ℕ → ℕ) (set_by' freed_by' : CellName → ℕ → ℕ) : Type 0 where
  pub processes : (p q : ℕ) →
      of_process' p q ≡ process_clock (d.process == p) (touches d p) (own_clock entry d of_process set_by freed_by) (of_process p) q
  pub set : (c : CellName) → Becomes (d.signal ≡ sets c) (set_by c) (own_clock entry d of_process set_by freed_by) (set_by' c)
  pub freed : (c : CellName) → Becomes (d.signal ≡ frees c) (freed_by c) (own_clock entry d of_process set_by freed_by) (freed_by' c)

-- ---- the laws

-- The entries that are ordered before the next one are those that the clock of its process and of its event tells.
abbrev pub ClocksTell : Type 0
ClocksTell =
    (ds : List Done) (d : Done) (of_process : ℕ → ℕ → ℕ) (set_by freed_by : CellName → ℕ → ℕ) → Tracks ds of_process set_by freed_by →
    ClockTells ds (clock_joined d of_process set_by freed_by) (λ k. Ordered (ds ++ d ∷ []) k (length ds + 1))

-- The clocks stay clocks.
abbrev pub ClocksStay : Type 0
ClocksStay =
    (ds : List Done) (d : Done) (of_process : ℕ → ℕ → ℕ) (set_by freed_by : CellName → ℕ → ℕ) (of_process' : ℕ → ℕ → ℕ) (set_by' freed_by' : CellName → ℕ → ℕ) →
    Tracks ds of_process set_by freed_by → Notes (length ds + 1) d of_process set_by freed_by of_process' set_by' freed_by' →
    Tracks (ds ++ d ∷ []) of_process' set_by' freed_by'
