-- An image: the whole state of the machine, as lists.
use Rattle.std.specs.Prelude.{ℕ, Bool, true, false, List, ◌++◌, take, drop, reverse, Option, Some, None}
use Rattle.b67_list.specs.Numbered.{numbered, set_numbered}
use Rattle.b67_num.specs.declared.FaultKind.{FaultKind}
use Rattle.b67_word.specs.declared.Place.{Place}
use Rattle.b67_control.specs.declared.Registers.{Registers}
use Rattle.b67_store.specs.Store.{Stacks, Rows, words_of, with_stack}
use Rattle.b67_events.specs.Events.{Event}
use Rattle.b67_table.specs.declared.ProcessState.{ProcessState}
use Rattle.b67_table.specs.declared.ProcessState.TheVariants.{Able, Ended}
use Rattle.b67_table.specs.declared.Private.{Private}
use Rattle.b67_table.specs.Effect.{Effect, gives, ◌>>=◌}
use Rattle.b67_table.specs.Private.{floor}

pub record Failure : Type 0 where
  pub kind : FaultKind
  pub process : ℕ

-- Stacks and rows are those of the store, events and lists those of the kernel. Registers, states and woken numbers stand by the processes'
-- numbers from 1: a woken number is the position of the event that released the process among those for which it waited, and 0 where it has
-- gone on since, or did not wait for several.
-- `started` is the number of processes that there have been, `fault` the fault that ended the run.
pub record Image : Type 0 where
  pub stacks : Stacks
  pub rows : Rows
  pub events : List Event
  pub lists : List (List Place)
  pub regs : List Registers
  pub states : List ProcessState
  pub numbers : List ℕ
  pub output : List (List ℕ)
  pub started : ℕ
  pub fault : Option Failure

abbrev pub with_stacks : Image → Stacks → Image
with_stacks img stacks = record img { stacks = stacks }

abbrev pub with_rows : Image → Rows → Image
with_rows img rows = record img { rows = rows }

abbrev pub with_registers : Image → ℕ → Registers → Image
with_registers img p r = record img { regs = set_numbered img.regs p r }

abbrev pub with_events : Image → List Event → Image
with_events img events = record img { events = events }

abbrev pub with_states : Image → List ProcessState → Image
with_states img states = record img { states = states }

-- the woken number of a process
abbrev pub woken_number : List ℕ → ℕ → ℕ
woken_number numbers p = or_zero (numbered numbers p)
  where
    or_zero : Option ℕ → ℕ
    or_zero None = 0
    or_zero (Some n) = n

-- ---- private parts

-- a process's private part
abbrev pub private_of : Image → Registers → Private
private_of img r = record { regs = r; words = reverse (drop (floor r) (words_of img.stacks r.stack)) }

-- a private part from a floor on in place of what was there
abbrev pub with_private : Image → ℕ → ℕ → Private → Image
with_private img p base part =
    with_registers (with_stacks img (with_stack img.stacks part.regs.stack (take base (words_of img.stacks part.regs.stack) ++ reverse part.words))) p part.regs

-- what an effect on a private part does to the image
abbrev pub with_effect : Image → ℕ → ℕ → Effect Private → Effect Image
with_effect img p base e = e >>= (λ (part : Private). gives (with_private img p base part))

-- ---- what is public of a process

abbrev pub is_able : Option ProcessState → Bool
is_able (Some Able) = true
is_able _ = false

abbrev pub is_ended : ProcessState → Bool
is_ended Ended = true
is_ended _ = false

-- the process is there and has not ended
abbrev pub is_live : Option ProcessState → Bool
is_live None = false
is_live (Some Ended) = false
is_live (Some _) = true

abbrev pub critical_in : Option Registers → Option Place
critical_in None = None
critical_in (Some r) = r.critical

-- the critical place of a process
abbrev pub critical_of : List Registers → ℕ → Option Place
critical_of regs p = critical_in (numbered regs p)
