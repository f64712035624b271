-- What is done with an event: one table, a row for each deed, which the meaning of sources and the machine's operators both read.
use Rattle.std.specs.Prelude.{ℕ, Bool, true, false, not, List, [], Option, Some, None, take, if◌then◌else◌}
use Rattle.b67_deeds.specs.declared.EventAct.{EventAct}
use Rattle.b67_deeds.specs.declared.EventAct.TheVariants as act
use Rattle.b67_deeds.specs.declared.EventTest.{EventTest}
use Rattle.b67_deeds.specs.declared.EventTest.TheVariants as test
use Rattle.b67_deeds.specs.declared.Letter.{Letter}
use Rattle.b67_deeds.specs.declared.Letter.TheVariants as letter
use Rattle.b67_deeds.specs.Events.{EventState, caused, let_go, cleared, joined, taken, queued, passed_on}

-- a statement on an event, or what an expression asks of events
pub data EventDeed : Type 0 where
  acts : EventAct → EventDeed
  tests : EventTest → EventDeed

-- what becomes of the process that does it: it goes on, or it waits for the event to happen, or to procure it
pub data Next : Type 0 where
  goes : Next
  waits : Next
  procures : Next

-- How the event changes, if it does; what becomes of the process; what it is answered, if anything; the processes that are able again, in
-- their order; and those of them who wait for no other event any more either.
pub record Deed : Type 0 where
  pub change : Option (EventState → EventState)
  pub next : Next
  pub answer : Option Bool
  pub frees : List ℕ
  pub withdraws : List ℕ

-- what an event in this state answers; where several are asked, whether it lets the process go on
abbrev pub answers : EventTest → EventState → Bool
answers test.Happened e = e.happened
answers test.Available e = e.available
answers test.Fix e = not e.available
answers test.WaitAny e = e.happened

-- What a process does with an event in this state. Where several are named, the last row is of each of them, when none has happened.
abbrev pub deed : EventDeed → ℕ → EventState → Deed
deed (acts act.Cause) p e = record { change = Some caused; next = goes; answer = None; frees = e.waiters; withdraws = e.waiters }
deed (acts act.CauseAndReset) p e = record { change = Some let_go; next = goes; answer = None; frees = e.waiters; withdraws = e.waiters }
deed (acts act.Reset) p e = record { change = Some cleared; next = goes; answer = None; frees = []; withdraws = [] }
deed (acts act.Wait) p e =
    record { change = if e.happened then None else Some (joined p); next = if e.happened then goes else waits; answer = None; frees = []; withdraws = [] }
deed (acts act.Procure) p e =
    record { change = Some (if e.available then taken else queued p); next = if e.available then goes else procures; answer = None; frees = []; withdraws = [] }
deed (acts act.Liberate) p e =
    record { change = Some (passed_on e.procurers); next = goes; answer = None; frees = take 1 e.procurers; withdraws = [] }
deed (tests test.Happened) p e = record { change = None; next = goes; answer = Some (answers test.Happened e); frees = []; withdraws = [] }
deed (tests test.Available) p e = record { change = None; next = goes; answer = Some (answers test.Available e); frees = []; withdraws = [] }
deed (tests test.Fix) p e =
    record { change = if e.available then Some taken else None; next = goes; answer = Some (answers test.Fix e); frees = []; withdraws = [] }
deed (tests test.WaitAny) p e = record { change = Some (joined p); next = waits; answer = None; frees = []; withdraws = [] }

-- whether it is done with several events at once
abbrev pub is_of_several : EventDeed → Bool
is_of_several (acts x) = false
is_of_several (tests test.Happened) = false
is_of_several (tests test.Available) = false
is_of_several (tests test.Fix) = false
is_of_several (tests test.WaitAny) = true

-- the action that it is
abbrev pub letter_of : EventDeed → Letter
letter_of (acts act.Cause) = letter.Cause
letter_of (acts act.CauseAndReset) = letter.CauseAndReset
letter_of (acts act.Reset) = letter.Reset
letter_of (acts act.Wait) = letter.Wait
letter_of (acts act.Procure) = letter.Procure
letter_of (acts act.Liberate) = letter.Liberate
letter_of (tests test.Happened) = letter.Happened
letter_of (tests test.Available) = letter.Available
letter_of (tests test.Fix) = letter.Fix
letter_of (tests test.WaitAny) = letter.WaitAny

-- a state after a change, if there is one
abbrev pub after_change : Option (EventState → EventState) → EventState → EventState
after_change None e = e
after_change (Some change) e = change e
