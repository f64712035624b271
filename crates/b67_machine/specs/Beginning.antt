-- A machine before its first operator.
use Rattle.std.specs.Prelude.{◌≡◌, ℕ, false, None}
use Rattle.b67_table.specs.Image.{Image}
use Rattle.b67_table.specs.Beginning.{first_image}
use Rattle.b67_machine.specs.Kept.{MachineModel, operators_counted}

-- the machine has this image, and no operator was performed on it, or tried
pub record IsUntried (img : Image) (m : MachineModel) : Type 0 where
  pub image : m.image ≡ img
  pub counts : (p : ℕ) → operators_counted m.counts p ≡ 0
  pub limit : m.limit ≡ None
  pub lacked : m.lacked ≡ false
  pub letter : m.letter ≡ None

-- no operator was performed on the machine, or tried, and its image is the first
abbrev pub IsFresh : MachineModel → Type 0
IsFresh m = IsUntried first_image m
