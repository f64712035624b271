-- The state of an event, and how it can change.
use Rattle.std.specs.Prelude.{ℕ, ◌==◌, Bool, true, false, not, List, [], ◌∷◌, ◌++◌, drop, filter}

-- whether it has happened, whether it is available, and the processes that wait for it to happen and that wait to procure it, in order of
-- arrival
pub record EventState : Type 0 where
  pub happened : Bool
  pub available : Bool
  pub waiters : List ℕ
  pub procurers : List ℕ

-- a fresh event has not happened, is available, and nobody waits for it
abbrev pub fresh_state : EventState
fresh_state = record { happened = false; available = true; waiters = []; procurers = [] }

-- it happens, and nobody waits for that any more
abbrev pub caused : EventState → EventState
caused e = record e { happened = true; waiters = [] }

-- it has not happened, and nobody waits for it any more
abbrev pub let_go : EventState → EventState
let_go e = record e { happened = false; waiters = [] }

-- it has not happened; who was released stays released
abbrev pub cleared : EventState → EventState
cleared e = record e { happened = false }

-- a process joins those who wait for it to happen, as the last
abbrev pub joined : ℕ → EventState → EventState
joined process e = record e { waiters = e.waiters ++ process ∷ [] }

-- a process does not wait for it to happen any more
abbrev pub left_by : ℕ → EventState → EventState
left_by process e = record e { waiters = filter (λ p. not (process == p)) e.waiters }

-- it is taken
abbrev pub taken : EventState → EventState
taken e = record e { available = false }

-- a process joins those who wait to procure it, as the last
abbrev pub queued : ℕ → EventState → EventState
queued process e = record e { procurers = e.procurers ++ process ∷ [] }

-- the first procurer has it; it stays as available as it was
abbrev pub served : EventState → EventState
served e = record e { procurers = drop 1 e.procurers }

-- it is available
abbrev pub freed : EventState → EventState
freed e = record e { available = true }

-- it is given on, while these wait to procure it
abbrev pub passed_on : List ℕ → EventState → EventState
passed_on [] = freed
passed_on (p ∷ ps) = served
