-- What the entries of a schedule did, as far as their order and their accesses go.
use Rattle.std.specs.Prelude.{◌≡◌, ℕ, ◌==◌, ◌||◌, Bool, false, List, [], ◌∷◌, Option, Some, None}
use Rattle.b67_list.specs.Numbered.{numbered}

-- A cell: its instance, by number from 1, its name, and of an array the number of an element, row by row from 0.
pub record CellName : Type 0 where
  pub instance : ℕ
  pub name : List ℕ
  pub at : Option ℕ

-- What an entry did with an event: it set it happened, where it stays so (CAUSE, also of an event that had happened; the end of a process
-- with a task); it went on by it, which had happened (WAIT); it found it not available and left it available (LIBERATE); or it took it, which
-- was available (PROCURE, FIX). All else is nothing.
pub data Signal : Type 0 where
  nothing : Signal
  sets : CellName → Signal
  goes_by : CellName → Signal
  frees : CellName → Signal
  takes : CellName → Signal

-- The cell that an entry read or stored.
pub record Access : Type 0 where
  pub cell : CellName
  pub storing : Bool

-- What one entry did.
pub record Done : Type 0 where
  pub process : ℕ
  pub access : Option Access
  pub signal : Signal
  pub released : List ℕ
  pub started : Option ℕ

abbrev pub is_this : Option ℕ → ℕ → Bool
is_this None p = false
is_this (Some q) p = q == p

abbrev pub entry_is_one_of : List ℕ → ℕ → Bool
entry_is_one_of [] p = false
entry_is_one_of (q ∷ qs) p = (q == p) || entry_is_one_of qs p

-- whether it is of that process, or starts or releases it
abbrev pub touches : Done → ℕ → Bool
touches d p = (d.process == p) || (is_this d.started p || entry_is_one_of d.released p)

-- Entries are numbered from 1.
abbrev pub IsNumberedEntry : List Done → ℕ → Done → Type 0
IsNumberedEntry ds k d = numbered ds k ≡ Some d
