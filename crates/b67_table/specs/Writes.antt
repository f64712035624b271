-- What an operator may write into an image. No write can fail.
use Rattle.std.specs.Prelude.{ℕ, ◌+◌, Bool, List, [], ◌∷◌, ◌++◌, Option, Some, None}
use Rattle.b67_list.specs.Numbered.{set_numbered}
use Rattle.b67_word.specs.declared.Place.{Place}
use Rattle.b67_word.specs.Word.{Word}
use Rattle.b67_control.specs.declared.Registers.{Registers}
use Rattle.b67_store.specs.Store.{with_word, with_push, with_cut, opened_at, closed_at, with_row_word, zero_row}
use Rattle.b67_deeds.specs.Deeds.{EventDeed, Deed, Next, goes, waits, procures}
use Rattle.b67_events.specs.Events.{event_opened, closed_from, deed_at, after_deed, unlisted, position_of, joined_all, with_list}
use Rattle.b67_table.specs.declared.ProcessState.{ProcessState}
use Rattle.b67_table.specs.declared.ProcessState.TheVariants.{Able, WaitsFor, WaitsAny, Procures, Ended}
use Rattle.b67_table.specs.Image.{Image, with_stacks, with_rows, with_events, with_states, with_registers}

pub data Write : Type 0 where
  -- a word in place of the one at a place
  save : Place → Word → Write
  -- the stack of this number has at most so many words
  cut : ℕ → ℕ → Write
  push : ℕ → Word → Write
  -- the process's own registers
  registers : Registers → Write
  -- a row of this number, of so many zeros, which count or not
  open_row : ℕ → ℕ → Bool → Write
  write_row : ℕ → ℕ → Word → Write
  -- the row of this number is closed, where it is open
  close_row : ℕ → Write
  open_event : Place → Write
  -- the events of a stack at a displacement and above are closed
  close_events : ℕ → ℕ → Write
  -- what is done with the event at a place
  event_deed : EventDeed → Place → Write
  -- the process waits for the events at these places
  wait_any : List Place → Write
  -- its woken number is 0 again
  go_on : Write
  -- a line of output
  line : List ℕ → Write
  -- the next process, with these registers, and a stack of these words under its number
  start : Registers → List Word → Write
  -- the process has ended, and the stack of this number is closed
  end_process : ℕ → Write

abbrev pub able_again : List ℕ → List ProcessState → List ProcessState
able_again [] states = states
able_again (p ∷ ps) states = able_again ps (set_numbered states p Able)

-- the process goes on, or it waits for the event at a place, or to procure it
abbrev pub waiting : Next → Place → ℕ → List ProcessState → List ProcessState
waiting goes place p states = states
waiting waits place p states = set_numbered states p (WaitsFor place)
waiting procures place p states = set_numbered states p (Procures place)

-- the states of the processes when one has done this with the event at a place
abbrev pub states_after : Deed → Place → ℕ → List ProcessState → List ProcessState
states_after d place p states = able_again d.frees (waiting d.next place p states)

-- whom an event at a place withdraws from several events has its position there for its woken number
abbrev pub with_number : Option ℕ → ℕ → List ℕ → List ℕ
with_number None p numbers = numbers
with_number (Some n) p numbers = set_numbered numbers p n

abbrev pub told_positions : Place → List (List Place) → List ℕ → List ℕ → List ℕ
told_positions place lists [] numbers = numbers
told_positions place lists (p ∷ ps) numbers = told_positions place lists ps (with_number (position_of place lists p) p numbers)

-- what a process makes of an image by a deed with the event at a place
abbrev pub with_deed : Deed → Place → ℕ → Image → Image
with_deed d place p img = record img {
  events = after_deed d place img.events;
  lists = unlisted d.withdraws img.lists;
  states = states_after d place p img.states;
  numbers = told_positions place img.lists d.withdraws img.numbers;
}

-- what a write of a process makes of an image
abbrev pub write_made : ℕ → Write → Image → Image
write_made p (save place w) img = with_stacks img (with_word img.stacks place w)
write_made p (cut stack n) img = with_stacks img (with_cut img.stacks stack n)
write_made p (push stack w) img = with_stacks img (with_push img.stacks stack w)
write_made p (registers r) img = with_registers img p r
write_made p (open_row n count counted) img = with_rows img (opened_at img.rows n (zero_row count counted))
write_made p (write_row n at w) img = with_rows img (with_row_word img.rows n at w)
write_made p (close_row n) img = with_rows img (closed_at img.rows n)
write_made p (open_event place) img = with_events img (event_opened place img.events)
write_made p (close_events stack at) img = with_events img (closed_from stack at img.events)
write_made p (event_deed x place) img = with_deed (deed_at x p place img.events) place p img
write_made p (wait_any places) img = record img {
  events = joined_all places p img.events;
  lists = with_list img.lists p places;
  states = set_numbered img.states p WaitsAny;
}
write_made p go_on img = record img { numbers = set_numbered img.numbers p 0 }
write_made p (line bytes) img = record img { output = img.output ++ bytes ∷ [] }
write_made p (start r words) img = record img {
  stacks = opened_at img.stacks r.stack words;
  regs = img.regs ++ r ∷ [];
  states = img.states ++ Able ∷ [];
  numbers = img.numbers ++ 0 ∷ [];
  started = img.started + 1;
}
write_made p (end_process stack) img = with_states (with_stacks img (closed_at img.stacks stack)) (set_numbered img.states p Ended)
