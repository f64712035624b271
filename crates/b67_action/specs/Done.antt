-- What an action comes to, by the operator table.
use Rattle.std.specs.Prelude.{◌≡◌, ◌≤◌, ℕ, Bool, true, false, Option, Some, Ok}
use Rattle.b67_list.specs.Numbered.{numbered}
use Rattle.b67_control.specs.declared.Registers.{Registers}
use Rattle.b67_events.specs.Events.{Events}
use Rattle.b67_ops.specs.declared.intrinsic.Intrinsic.{Intrinsic}
use Rattle.b67_ops.specs.declared.intrinsic.Intrinsic.TheVariants.{Arrays, Event, Start, Write}
use Rattle.b67_ops.specs.declared.Operator.TheVariants.{Plain}
use Rattle.b67_ops.specs.declared.PlainKind.TheVariants.{Entr}
use Rattle.b67_segment.specs.declared.code.Code.{Code}
use Rattle.b67_table.specs.declared.ProcessState.{ProcessState}
use Rattle.b67_table.specs.declared.ProcessState.TheVariants as states
use Rattle.b67_table.specs.Image.{Image, is_able}
use Rattle.b67_table.specs.Limits.{most_processes}
use Rattle.b67_table.specs.Look.{look_seen}
use Rattle.b67_table.specs.Names.{intrinsic_numbered}
use Rattle.b67_table.specs.Outcome as outcomes
use Rattle.b67_table.specs.Table.{table, operator_at}
use Rattle.b67_table.specs.Valid.{waits}
use Rattle.b67_operators.specs.declared.calling.Called.{Called}
use Rattle.b67_operators.specs.Entries.{procedure_called}
use Rattle.b67_intrinsics.specs.declared.hindrance.Hindrance.{Hindrance}
use Rattle.b67_intrinsics.specs.declared.hindrance.Hindrance.TheVariants as hindrances
use Rattle.b67_intrinsics.specs.Called.{ImageIsLeft}
use Rattle.b67_reach.specs.declared.Parts.{Parts}
use Rattle.b67_reach.specs.declared.Stop.TheVariants as stops
use Rattle.b67_reach.specs.Answers.{looked}
use Rattle.b67_reach.specs.Woken.{HasPlaces}
use Rattle.b67_action.specs.declared.done.Done.{Done}
use Rattle.b67_action.specs.declared.done.Done.TheVariants.{Went, Waits, Ended, Fault, Interrupt, StackLimit, NoMemory}

-- ---- from an operator's answer

abbrev pub went : ProcessState → Done
went states.Able = Went
went (states.WaitsFor event) = Waits
went states.WaitsAny = Waits
went (states.Procures event) = Waits
went states.Ended = Ended

abbrev pub hindered_by : Hindrance → Done
hindered_by (hindrances.Stopped (stops.Interrupt kind)) = Interrupt kind
hindered_by (hindrances.Stopped (stops.Fault kind)) = Fault kind
hindered_by (hindrances.Stopped stops.StackLimit) = StackLimit
hindered_by hindrances.NoMemory = NoMemory

-- ---- by the table

-- the intrinsics that make something, for which there may be no memory
abbrev pub makes : Option Intrinsic → Bool
makes (Some Arrays) = true
makes (Some Event) = true
makes (Some Start) = true
makes (Some Write) = true
makes _ = false

-- what a process calls where its next operator is ENTR
pub record CallsNext (code : Code) (img : Image) (p : ℕ) (callee : Called) : Type 0 where
  pub regs : Registers
  pub has : numbered img.regs p ≡ Some regs
  pub next : ℕ
  pub enters : operator_at code regs ≡ Ok (Plain Entr, next)
  pub finds : Ok callee ≡ looked (look_seen img.stacks (procedure_called regs))

-- the process's next operator calls an intrinsic that makes something
pub record MakesNext (code : Code) (img : Image) (p : ℕ) : Type 0 where
  pub callee : Called
  pub calls : CallsNext code img p callee
  pub intrinsic : callee.pcw.intrinsic ≡ true
  pub making : makes (intrinsic_numbered callee.pcw.number) ≡ true

-- What is answered is what the table gives: the image afterwards is the new one, and the answer says the process's state in it; or it is
-- stopped, and the image is as it was. Without memory no row is open that was not, and none is closed.
abbrev pub Came : Code → Image → ℕ → Done → Image → Type 0
Came code old p Went new = (table code old p ≡ outcomes.gives new) × (is_able (numbered new.states p) ≡ true)
Came code old p Waits new = (table code old p ≡ outcomes.gives new) × (waits (numbered new.states p) ≡ true)
Came code old p Ended new = (table code old p ≡ outcomes.gives new) × (numbered new.states p ≡ Some states.Ended)
Came code old p (Fault kind) new = (table code old p ≡ outcomes.faults kind) × (new ≡ old)
Came code old p (Interrupt kind) new = (table code old p ≡ outcomes.interrupts kind) × (new ≡ old)
Came code old p StackLimit new = (table code old p ≡ outcomes.limit) × (new ≡ old)
Came code old p NoMemory new = MakesNext code old p × ImageIsLeft old new

-- the operator was performed
abbrev pub is_performed : Done → Bool
is_performed Went = true
is_performed Waits = true
is_performed Ended = true
is_performed _ = false

-- there is room for the most processes to wait and to be released
pub record KernelHasRoom (kernel : Events) (parts : Parts) : Type 0 where
  pub waiting : most_processes ≤ kernel.room
  pub released : HasPlaces kernel.room parts.woken
