-- What an action does with cells and events: which cell it reads or stores, and what it does with which event. Both are read off what the
-- head asks for and the world before the action.
use Rattle.std.specs.Prelude.{ℕ, zero, suc, ◌++◌, if◌then◌else◌, Bool, true, false, List, [], ◌∷◌, Option, Some, None, slice_get}
use Rattle.b67_deeds.specs.declared.EventAct.TheVariants as act
use Rattle.b67_deeds.specs.declared.EventTest.TheVariants as test
use Rattle.b67_deeds.specs.declared.Letter.{Letter}
use Rattle.b67_deeds.specs.declared.Letter.TheVariants as letter
use Rattle.b67_deeds.specs.Events.{EventState}
use Rattle.b67_deeds.specs.Deeds.{EventDeed, acts, tests, answers, is_of_several}
use Rattle.algol_tree.specs.Scopes.{Scopes, use_of}
use Rattle.algol_meaning.specs.Value.{whole_of, Reference, ArrayCell, Cell, named, reference}
use Rattle.algol_meaning.specs.Rest.{Place, own, there, element_of}
use Rattle.algol_meaning.specs.World.{Part, World, cell_at, followed, array_in, process_at}
use Rattle.algol_meaning.specs.Arrays.{flat, subscript_place}
use Rattle.algol_meaning.specs.Events.{event_at}
use Rattle.algol_meaning.specs.Asks as asks
use Rattle.algol_meaning.specs.Asks.{Ask, ask}
use Rattle.algol_meaning.specs.Choice.{choice}
use Rattle.algol_effect.specs.Effects.{here_in, followed_in}
use Rattle.b67_race.specs.Entries.{CellName, Signal, nothing, sets, goes_by, frees, takes, Access, Done}

-- ---- cells

abbrev pub whole_cell : Reference → CellName
whole_cell r = record { instance = r.instance; name = r.name; at = None }

-- the number of an element that is there
abbrev pub if_there : {A : Type 0} → Option A → ℕ → Option ℕ
if_there None n = None
if_there (Some x) n = Some n

abbrev pub element_number_in : ArrayCell → List ℕ → Option ℕ
element_number_in a ks = if_there (slice_get a.elements (flat 0 a.bounds ks)) (flat 0 a.bounds ks)

abbrev pub access_at_element : Reference → Option ℕ → Bool → Option Access
access_at_element r None storing = None
access_at_element r (Some n) storing = Some (record { cell = record { instance = r.instance; name = r.name; at = Some n }; storing = storing })

abbrev pub access_reading : Reference → Option Access
access_reading r = Some (record { cell = whole_cell r; storing = false })

abbrev pub storing : Reference → Option Access
storing r = Some (record { cell = whole_cell r; storing = true })

-- the cell that the reading of a name reads: a Reference is followed, and what a parameter by name stands for is evaluated first
abbrev pub read_of : Reference → Cell → Option Access
read_of r (named c) = None
read_of r (reference s) = access_reading s
read_of r c = access_reading r

-- the element that is read with its last subscript, none where that is outside
abbrev pub element_read : ArrayCell → Reference → List ℕ → Option ℕ → Option Access
element_read a r ks None = None
element_read a r ks (Some k) = access_at_element r (element_number_in a (ks ++ k ∷ [])) false

-- ---- events

abbrev pub goes_if : Bool → Reference → Signal
goes_if happened r = if happened then goes_by (whole_cell r) else nothing

abbrev pub takes_if : Bool → Reference → Signal
takes_if available r = if available then takes (whole_cell r) else nothing

-- LIBERATE of an event that is not available and that nobody waits to procure
abbrev pub frees_if : Bool → List ℕ → Reference → Signal
frees_if true procurers r = nothing
frees_if false [] r = frees (whole_cell r)
frees_if false (p ∷ ps) r = nothing

-- what is done with an event in this state, where one is named; of a wait for several it is the row of each
abbrev pub signal_of : EventDeed → Reference → EventState → Signal
signal_of (acts act.Cause) r e = sets (whole_cell r)
signal_of (acts act.CauseAndReset) r e = nothing
signal_of (acts act.Reset) r e = nothing
signal_of (acts act.Wait) r e = goes_if e.happened r
signal_of (acts act.Procure) r e = takes_if e.available r
signal_of (acts act.Liberate) r e = frees_if e.available e.procurers r
signal_of (tests test.Happened) r e = nothing
signal_of (tests test.Available) r e = nothing
signal_of (tests test.Fix) r e = takes_if e.available r
signal_of (tests test.WaitAny) r e = goes_if e.happened r

abbrev pub first_signal : World → EventDeed → List Reference → Signal
first_signal w x [] = nothing
first_signal w x (r ∷ rs) = signal_of x r (event_at w r)

-- a wait for several events goes by the first that has happened
abbrev pub gone_by : World → List Reference → Signal
gone_by w [] = nothing
gone_by w (r ∷ rs) = if answers test.WaitAny (event_at w r) then goes_by (whole_cell r) else gone_by w rs

-- who was released goes on, whatever the events are: the entry that released it is before this one in any case
abbrev pub several_signal : World → ℕ → List Reference → Signal
several_signal w zero rs = gone_by w rs
several_signal w (suc n) rs = nothing

-- ---- by what the head of a part asks for, which is of this instance

module _ (sc : Scopes) (w : World) (at : ℕ) where
  abbrev pub stored_at : Place → Option Access
  stored_at (own n) = storing (here_in sc w at n)
  stored_at (there r) = storing r
  stored_at (element_of r ks) = access_at_element r (element_number_in (array_in (cell_at w r)) ks) true

  -- the cell that the action reads or stores
  abbrev pub access_by : Ask → Option Access
  access_by (asks.reads n) = read_of (here_in sc w at n) (cell_at w (here_in sc w at n))
  access_by (asks.reads_element n ks v) =
      element_read (array_in (cell_at w (followed w (here_in sc w at n)))) (followed w (here_in sc w at n)) ks
      (subscript_place ((use_of sc n).sort) (array_in (cell_at w (followed w (here_in sc w at n)))) ks (whole_of v))
  access_by (asks.reads_result name) = access_reading (record { instance = at; name = name })
  access_by (asks.stores x v) = stored_at x
  access_by _ = None

  -- what a deed on events does with one, by a process with this woken number
  abbrev pub acting_by : ℕ → Ask → Signal
  acting_by woken (asks.event_deed x ns) =
      if is_of_several x then several_signal w woken (followed_in sc w at ns) else first_signal w x (followed_in sc w at ns)
  acting_by woken _ = nothing

-- ---- by process

abbrev pub access_in : Scopes → World → List Part → Option Access
access_in sc w [] = None
access_in sc w (part ∷ outer) = access_by sc w part.instance (ask part.rest)

abbrev pub acting_in : Scopes → World → ℕ → List Part → Signal
acting_in sc w woken [] = nothing
acting_in sc w woken (part ∷ outer) = acting_by sc w part.instance woken (ask part.rest)

-- the end of a process with a task sets the task's event; else it is what a deed does
abbrev pub signal_after : Letter → Option Reference → Signal → Signal
signal_after letter.End (Some r) s = sets (whole_cell r)
signal_after l o s = s

-- the cell that the next action of a process reads or stores
unfoldable pub next_access : Scopes → World → ℕ → Option Access
next_access sc w p = access_in sc w (process_at w p).todo

-- what that action does with an event
unfoldable pub next_signal : Scopes → World → ℕ → Signal
next_signal sc w p =
    signal_after (choice sc w p).action (process_at w p).task (acting_in sc w (process_at w p).woken (process_at w p).todo)

-- what the next action of a process does
abbrev pub done_of : Scopes → World → ℕ → Done
done_of sc w p =
    record {
      process = p;
      access = next_access sc w p;
      signal = next_signal sc w p;
      released = (choice sc w p).released;
      started = (choice sc w p).started;
    }
