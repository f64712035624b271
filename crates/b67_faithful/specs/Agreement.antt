-- What a run of a code has to do with the source: its schedule is legal, and output and end are the source's own.
use Rattle.std.specs.Prelude.{◌≡◌, ℕ, ◌+◌, ◌<◌, ◌≤◌, true, List, length, Option, Some, None}
use Rattle.b67_list.specs.Numbered.{numbered}
use Rattle.algol_tree.specs.Plain.{PProgram}
use Rattle.algol_meaning.specs.World.{World, process_at}
use Rattle.algol_meaning.specs.World.{is_able as meaning_able}
use Rattle.algol_meaning.specs.Run.{run, end_of, End}
use Rattle.algol_meaning.specs.Run as meaning
use Rattle.b67_control.specs.declared.Registers.{Registers}
use Rattle.b67_store.specs.Store.{stack_limit}
use Rattle.b67_segment.specs.declared.code.Code.{Code}
use Rattle.b67_table.specs.declared.InterruptKind.{InterruptKind}
use Rattle.b67_table.specs.Outcome.{interrupts, limit}
use Rattle.b67_table.specs.Image.{Image, is_live}
use Rattle.b67_table.specs.Image.{is_able as image_able}
use Rattle.b67_table.specs.Table.{table}
use Rattle.b67_table.specs.Ending.{ImageEnd, image_end}
use Rattle.b67_table.specs.Ending as machine
use Rattle.b67_faithful.specs.Weight.{weight}

-- the end of an image as an end of a world
abbrev pub end_as : Option ImageEnd → Option End
end_as None = None
end_as (Some machine.finished) = Some meaning.finished
end_as (Some (machine.faulted kind p)) = Some (meaning.fault kind p)
end_as (Some machine.all_waiting) = Some meaning.all_waiting

-- the image has the world's output, end, processes and able processes, and where there is no end no able process is ill-tagged
pub record Shows (code : Code) (w : World) (img : Image) : Type 0 where
  pub output : img.output ≡ w.output
  pub ends : end_of w ≡ end_as (image_end img)
  pub started : img.started ≡ length w.processes
  pub able : (p : ℕ) → meaning_able ((process_at w p).state) ≡ image_able (numbered img.states p)
  pub tagged : (p : ℕ) (kind : InterruptKind) → image_end img ≡ None → image_able (numbered img.states p) ≡ true → table code img p ≡ interrupts kind → ⊥

-- The stack of each live process is at least 3 words shorter than its weight, and only one of a greater weight than a stack has room
-- for comes to the stack limit.
pub record Fits (tree : PProgram) (code : Code) (w : World) (img : Image) : Type 0 where
  pub light : (p : ℕ) (r : Registers) → is_live (numbered img.states p) ≡ true → numbered img.regs p ≡ Some r → r.s + 3 ≤ weight tree w p
  pub heavy : (p : ℕ) → table code img p ≡ limit → stack_limit < weight tree w p

-- the schedule is legal for the source, and the image shows its world and fits it
pub record WorldAgrees (tree : PProgram) (code : Code) (schedule : List ℕ) (img : Image) : Type 0 where
  pub world : World
  pub is : run tree schedule ≡ Some world
  pub shows : Shows code world img
  pub fits : Fits tree code world img
