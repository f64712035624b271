-- What a machine's reads answer.
use Rattle.std.specs.Prelude.{ℕ, Bool, true, false, not, ◌&&◌, if◌then◌else◌, List, Option, Some, None}
use Rattle.b67_list.specs.Numbered.{numbered}
use Rattle.b67_control.specs.declared.Registers.{Registers}
use Rattle.b67_table.specs.Ending.{ImageEnd, finished, faulted, all_waiting, image_end}
use Rattle.b67_table.specs.Table.{length_in}
use Rattle.b67_table.specs.declared.ProcessState.{ProcessState}
use Rattle.b67_table.specs.declared.ProcessState.TheVariants.{Able, Ended}
use Rattle.b67_machine.specs.declared.reads.End.{End}
use Rattle.b67_machine.specs.declared.reads.End.TheVariants as ends
use Rattle.b67_machine.specs.declared.Failure.{Failure}
use Rattle.b67_machine.specs.Kept.{MachineModel}

abbrev pub is_able_state : ProcessState → Bool
is_able_state Able = true
is_able_state state = false

abbrev pub lives : ProcessState → Bool
lives Ended = false
lives state = true

abbrev pub end_shown : ImageEnd → End
end_shown finished = ends.Finished
end_shown (faulted kind p) = ends.Fault kind p
end_shown all_waiting = ends.AllWaiting

abbrev pub shown_end : Option ImageEnd → Option End
shown_end None = None
shown_end (Some e) = Some (end_shown e)

abbrev pub limit_end : Option ℕ → List Registers → Option End
limit_end None regs = None
limit_end (Some p) regs = Some (ends.StackLimit p (length_in (numbered regs p)))

abbrev pub machine_end_by : Option ImageEnd → MachineModel → Option End
machine_end_by (Some e) m = Some (end_shown e)
machine_end_by None m = limit_end m.limit m.image.regs

-- the end of a machine: its image's, or the stack limit where the last operator that was tried came to it
abbrev pub machine_end : MachineModel → Option End
machine_end m = machine_end_by (image_end m.image) m

-- the end of an image by what it rests on: whether process 1 has ended, the fault, and whether a process is able and one lives
abbrev pub ended_by : Bool → Option Failure → Bool → Bool → Option End
ended_by true f able alive = Some ends.Finished
ended_by false (Some f) able alive = Some (ends.Fault f.kind f.process)
ended_by false None able alive = if alive && not able then Some ends.AllWaiting else None
