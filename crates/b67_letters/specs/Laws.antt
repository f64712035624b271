-- What holds of the letters of all operators.
use Rattle.std.specs.Prelude.{◌≡◌, ℕ, Bool, true, false, [], Some, None}
use Rattle.b67_list.specs.Numbered.{numbered}
use Rattle.b67_control.specs.declared.Registers.{Registers}
use Rattle.b67_segment.specs.declared.code.Code.{Code}
use Rattle.b67_table.specs.Image.{Image}
use Rattle.b67_table.specs.Runs.{ProcessActs}
use Rattle.b67_table.specs.Table.{plain}
use Rattle.b67_deeds.specs.declared.Letter.{Letter}
use Rattle.b67_deeds.specs.declared.Letter.TheVariants.{End, Cause, CauseAndReset, Liberate}
use Rattle.b67_letters.specs.Letters.{letter}
use Rattle.b67_letters.specs.Releases.{releases}

-- the operator of each entry has a letter, and no plain operator has one
pub record ActionsHaveLetters : Type 0 where
  pub acts : (code : Code) (img after : Image) (p : ℕ) → ProcessActs code p img after → (l : Letter) × (letter code img p ≡ Some l)
  pub plains : (code : Code) (img : Image) (p : ℕ) → plain code img p ≡ true → letter code img p ≡ None

-- an action of this letter may make others able
abbrev pub may_release : Letter → Bool
may_release End = true
may_release Cause = true
may_release CauseAndReset = true
may_release Liberate = true
may_release _ = false

-- only such an action releases anyone, and the end of a process only where it has a task
pub record FewOperatorsRelease : Type 0 where
  pub others : (code : Code) (img : Image) (p : ℕ) (l : Letter) → letter code img p ≡ Some l → may_release l ≡ false → releases code img p ≡ []
  pub ends : (code : Code) (img : Image) (p : ℕ) (r : Registers) → letter code img p ≡ Some End → numbered img.regs p ≡ Some r → r.task ≡ None
      → releases code img p ≡ []
