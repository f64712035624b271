-- The machine's image is that of the run.
use Rattle.std.proofs.Common.{◌≡◌, Bool, true, false}
use Rattle.b67_table.specs.Image.{Image}
use Rattle.b67_intrinsics.specs.Called.{ImageIsLeft}
use Rattle.b67_machine.specs.Replaying.{MachineStands}

pub shows_is : (b : Bool) (img now : Image) → b ≡ false → MachineStands b img now → now ≡ img
shows_is false img now e s = s
shows_is true img now e s = cc

pub shows_by : (b : Bool) (img now : Image) → b ≡ false → now ≡ img → MachineStands b img now
shows_by false img now e s = s
shows_by true img now e s = cc

-- without memory a closed row may have left an empty place
pub shows_left : (b : Bool) (img now : Image) → b ≡ true → ImageIsLeft img now → MachineStands b img now
shows_left true img now e s = s
shows_left false img now e s = cc
