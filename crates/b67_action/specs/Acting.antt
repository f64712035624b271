-- What is performed in a process, and what is asked of it.
use Rattle.std.specs.Prelude.{◌≡◌, ◌+◌, ◌≤◌, IsFalse, ℕ, Bool, true, false, List, [], Option, Some, None, Result, Ok, Err}
use Rattle.b67_list.specs.Numbered.{numbered}
use Rattle.b67_control.specs.declared.Mscw.{Mscw}
use Rattle.b67_control.specs.declared.Registers.{Registers}
use Rattle.b67_events.specs.Events.{Events, is_waiting, is_listed}
use Rattle.b67_ops.specs.declared.intrinsic.Intrinsic.{Intrinsic}
use Rattle.b67_ops.specs.declared.Operator.{Operator}
use Rattle.b67_segment.specs.declared.code.Code.{Code}
use Rattle.b67_store.specs.Store.{Stacks, Rows}
use Rattle.b67_table.specs.Effect.{Effect}
use Rattle.b67_table.specs.Image.{Image}
use Rattle.b67_table.specs.Intrinsics.{select}
use Rattle.b67_table.specs.Look.{look_seen}
use Rattle.b67_table.specs.Names.{intrinsic_numbered}
use Rattle.b67_table.specs.Program.{Program, does}
use Rattle.b67_table.specs.Rows.{exit, return_value, enter}
use Rattle.b67_table.specs.Table.{operator_at}
use Rattle.b67_going.specs.Starts.{HasNext}
use Rattle.b67_intrinsics.specs.declared.hindrance.Hindrance.{Hindrance}
use Rattle.b67_intrinsics.specs.declared.hindrance.Hindrance.TheVariants.{Stopped, NoMemory}
use Rattle.b67_intrinsics.specs.Called.{ImageIsLeft, intrinsic_called}
use Rattle.b67_intrinsics.specs.Names.{Releases}
use Rattle.b67_operators.specs.declared.calling.Called.{Called}
use Rattle.b67_operators.specs.Entries.{CallsProcedure, procedure_called}
use Rattle.b67_operators.specs.Leaves.{IsLinkedIn, program_in, released}
use Rattle.b67_reach.specs.declared.Parts.{Parts}
use Rattle.b67_reach.specs.declared.Stop.{Stop}
use Rattle.b67_reach.specs.Answers.{looked}
use Rattle.b67_reach.specs.Woken.{HasPlaces}
use Rattle.b67_action.specs.declared.rows.Row.{Row}
use Rattle.b67_action.specs.declared.rows.Row.TheVariants as rows
use Rattle.b67_action.specs.Among.{EffectComes}
use Rattle.b67_action.specs.Done.{makes}
use Rattle.b67_action.specs.Own.{own_effect}
use Rattle.b67_private.specs.Actions.{words_program}
use Rattle.b67_action.specs.Rows.{ActionHasRow}

-- ---- what is asked

-- a process that may act: it is linked, waits for nothing, and there is room for all that its operators may do; the next process has its
-- number free
pub record IsActing (stacks : Stacks) (rows : Rows) (kernel : Events) (parts : Parts) (p : ℕ) : Type 0 where
  pub linked : IsLinkedIn stacks rows (numbered parts.regs.items p)
  pub number : 1 ≤ p
  pub within : p ≤ kernel.room
  pub idle : IsFalse (is_waiting p kernel.events)
  pub unlisted : IsFalse (is_listed p kernel.lists)
  pub room : HasPlaces kernel.room parts.woken
  pub next : HasNext stacks parts

-- the word above the mark at F is there
abbrev pub IsEntering : Option Registers → Type 0
IsEntering None = ⊥
IsEntering (Some r) = r.f + 2 ≤ r.s

-- ENTR calls no intrinsic in a process with these registers
abbrev pub EntersPlainly : Stacks → Option Registers → Type 0
EntersPlainly stacks None = ⊥
EntersPlainly stacks (Some r) = CallsProcedure stacks r

-- SELECT's program
abbrev pub selects : Code → Mscw → Registers → ℕ → Program
selects code m r next = intrinsic_called select code r next m

-- a process with these registers calls an intrinsic that makes something
abbrev pub CallsMaker : Stacks → Option Registers → Type 0
CallsMaker stacks None = ⊥
CallsMaker stacks (Some r) = (c : Called) × (Ok c ≡ looked (look_seen stacks (procedure_called r))) × (c.pcw.intrinsic ≡ true) × (makes (intrinsic_numbered c.pcw.number) ≡ true)

-- an answer that no memory hinders
abbrev pub hindered : Result (Unit {0}) Stop → Result (Unit {0}) Hindrance
hindered (Ok u) = Ok u
hindered (Err stop) = Err (Stopped stop)

-- ---- what comes of it

-- the effect of an operator of this row in a process with these registers
abbrev pub row_effect : Row → Code → Operator → ℕ → ℕ → Option Registers → Image → Effect Image
row_effect rows.Own code op next p regs img = own_effect op next p regs img
row_effect (rows.Words kind) code op next p regs img = does p (program_in (words_program kind) regs next) img
row_effect rows.Exit code op next p regs img = does p (program_in exit regs next) img
row_effect rows.ReturnValue code op next p regs img = does p (program_in return_value regs next) img
row_effect rows.Enter code op next p regs img = does p (program_in (enter code) regs next) img

-- an effect comes to what is answered, or there is no memory and no row is open that was not, and none is closed
abbrev pub ComesOrNot : ℕ → Effect Image → Image → Image → Result (Unit {0}) Hindrance → Type 0
ComesOrNot p effect old new (Ok u) = EffectComes {A = Unit {0}} p effect old new (Ok u)
ComesOrNot p effect old new (Err (Stopped stop)) = EffectComes {A = Unit {0}} p effect old new (Err stop)
ComesOrNot p effect old new (Err NoMemory) = ImageIsLeft old new

-- ---- whom an operator releases

-- These are the processes that are released after an operator, where those were before: who waited for the event of CAUSE or CAUSEANDRESET,
-- or of the process's task at EXIT from a base frame, and who is the first to procure the event that LIBERATE frees. Other operators
-- release nobody.
abbrev pub CallReleases : Option Intrinsic → Image → Option Registers → Mscw → List ℕ → List ℕ → Type 0
CallReleases None img regs m before after = after ≡ before
CallReleases (Some name) img regs m before after = Releases name img regs m before after

abbrev pub CalleeReleases : Bool → Called → Image → Option Registers → List ℕ → List ℕ → Type 0
CalleeReleases false c img regs before after = after ≡ before
CalleeReleases true c img regs before after = CallReleases (intrinsic_numbered c.pcw.number) img regs c.mark before after

abbrev pub EnterReleases : Image → Option Registers → List ℕ → List ℕ → Type 0
EnterReleases img None before after = ⊥
EnterReleases img (Some r) before after =
    (c : Called) × (Ok c ≡ looked (look_seen img.stacks (procedure_called r))) × CalleeReleases c.pcw.intrinsic c img (Some r) before after

abbrev pub RowReleases : Row → Image → Option Registers → List ℕ → List ℕ → Type 0
RowReleases rows.Own img regs before after = after ≡ before
RowReleases (rows.Words kind) img regs before after = after ≡ before
RowReleases rows.Exit img regs before after = after ≡ released regs img.events before
RowReleases rows.ReturnValue img regs before after = after ≡ before
RowReleases rows.Enter img regs before after = EnterReleases img regs before after

-- the processes that the next operator of a process releases, where there were none before
pub record NextReleases (code : Code) (img : Image) (p : ℕ) (after : List ℕ) : Type 0 where
  pub regs : Registers
  pub has : numbered img.regs p ≡ Some regs
  pub op : Operator
  pub next : ℕ
  pub stands : operator_at code regs ≡ Ok (op, next)
  pub row : Row
  pub is : ActionHasRow op regs.place row
  pub releases : RowReleases row img (numbered img.regs p) [] after
