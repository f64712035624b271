-- What a stretch of a private part is to its process.
use Rattle.std.specs.Prelude.{◌≡◌, ℕ, true, Some}
use Rattle.b67_list.specs.Numbered.{numbered}
use Rattle.b67_control.specs.declared.Registers.{Registers}
use Rattle.b67_segment.specs.declared.code.Code.{Code}
use Rattle.b67_table.specs.declared.Private.{Private}
use Rattle.b67_table.specs.Outcome.{gives}
use Rattle.b67_table.specs.Private.{floor}
use Rattle.b67_table.specs.Image.{Image, private_of, with_private, is_live}
use Rattle.b67_table.specs.Privacy.{ProcessStands}
use Rattle.b67_table.specs.Runs.{Plains}
use Rattle.b67_table.specs.Table.{table, plain}
use Rattle.b67_table.specs.Valid.{IsValid}
use Rattle.b67_private.specs.Parts.{IsPrivatePart, own_next, is_plain, PlainParts}

-- the operator that comes next in the private part of a process is the process's own
pub record IsItsOwn (code : Code) (img : Image) (p : ℕ) (r : Registers) : Type 0 where
  -- it is plain for both alike
  pub plain_is : plain code img p ≡ is_plain code (private_of img r)
  -- and then the new image has the new part
  pub new : (part : Private) → own_next code (private_of img r) ≡ gives part → table code img p ≡ gives (with_private img p (floor r) part)

-- so it is with each process that lives
abbrev pub OperatorsAreOwn : Type 0
OperatorsAreOwn = (code : Code) (img : Image) (p : ℕ) (r : Registers) → ProcessStands img p r → IsItsOwn code img p r

-- the private part of a process of a valid image is one that a stretch can begin with
abbrev pub PartsOfValid : Type 0
PartsOfValid =
    (code : Code) (img : Image) (p : ℕ) (r : Registers) → IsValid code img → is_live (numbered img.states p) ≡ true → numbered img.regs p ≡ Some r → IsPrivatePart (private_of img r)

-- after so many plain operators of its private part: the process has performed as many, and the new image has the new part; the operator
-- that comes next is plain for both alike
pub record IsStretch (code : Code) (img : Image) (p : ℕ) (r : Registers) (part : Private) (n : ℕ) : Type 0 where
  pub performed : Plains code p img n (with_private img p (floor r) part)
  pub next : plain code (with_private img p (floor r) part) p ≡ is_plain code part

-- so it is with each process that lives in a valid image
abbrev pub StretchesAreOwn : Type 0
StretchesAreOwn =
    (code : Code) (img : Image) (p : ℕ) (r : Registers) → IsValid code img → is_live (numbered img.states p) ≡ true → numbered img.regs p ≡ Some r
    → (part : Private) (n : ℕ) → PlainParts code (private_of img r) n part → IsStretch code img p r part n
