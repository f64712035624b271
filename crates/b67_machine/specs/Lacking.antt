-- What becomes of a machine whose operator finds no memory.
use Rattle.std.specs.Prelude.{◌≡◌, ℕ, true, false, None}
use Rattle.b67_intrinsics.specs.Called.{ImageIsLeft}
use Rattle.b67_action.specs.declared.done.Done.{Done}
use Rattle.b67_action.specs.declared.done.Done.TheVariants.{NoMemory}
use Rattle.b67_machine.specs.Kept.{MachineModel, operators_counted}
use Rattle.b67_machine.specs.Reads.{machine_end}
use Rattle.b67_machine.specs.Stepping.{Steps}

-- All is as it was, but that nobody is noted as released; that memory lacked is kept, and the run has no end.
pub record HasLacked (old new : MachineModel) : Type 0 where
  pub lacked : new.lacked ≡ true
  pub image : ImageIsLeft old.image new.image
  pub counts : (p : ℕ) → operators_counted new.counts p ≡ operators_counted old.counts p
  pub code : new.code ≡ old.code
  pub end : machine_end new ≡ None

pub record LackingIsKept : Type 0 where
  -- an operator that finds no memory leaves the machine so
  pub lacks : (old : MachineModel) (p : ℕ) (new : MachineModel) → machine_end old ≡ None → old.lacked ≡ false → Steps old p NoMemory new → HasLacked old new
  -- and then every operator does, and changes nothing
  pub stays : (old : MachineModel) (p : ℕ) (done : Done) (new : MachineModel) → old.lacked ≡ true → Steps old p done new → (done ≡ NoMemory) × (new ≡ old)
