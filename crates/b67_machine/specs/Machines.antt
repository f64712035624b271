-- What holds of every machine.
use Rattle.std.specs.Prelude.{Option, Some, None}
use Rattle.b67_table.specs.Image.{Image, Failure as Fault}
use Rattle.b67_machine.specs.declared.Failure.{Failure}

abbrev pub failure : Option Failure → Option Fault
failure None = None
failure (Some f) = Some (record { kind = f.kind; process = f.process })

-- the image with the fault that is kept
abbrev pub with_failure : Image → Option Failure → Image
with_failure img kept = record img { fault = failure kept }
