-- A private part beside a program of another process.
use Rattle.std.specs.Prelude.{◌≡◌, ◌≢◌, ℕ, ◌≤◌, List, length, Some}
use Rattle.b67_word.specs.declared.Place.{Place}
use Rattle.b67_word.specs.Word.{Word}
use Rattle.b67_store.specs.Store.{stack_at}
use Rattle.b67_table.specs.Effect.{Effect, gives, faults, interrupts}
use Rattle.b67_table.specs.declared.Private.{Private}
use Rattle.b67_table.specs.Image.{Image, with_private, critical_of}
use Rattle.b67_table.specs.Program.{Program, does}
use Rattle.b67_table.specs.Touches.{Touches}

-- a private part that can be put from a floor on: its stack is open and reaches that high, and the critical place is the process's
pub record Beneath (img : Image) (q base : ℕ) (part : Private) : Type 0 where
  pub words : List Word
  pub opened : stack_at img.stacks part.regs.stack ≡ Some words
  pub high : base ≤ length words
  pub within : q ≤ length img.regs
  pub critical : critical_of img.regs q ≡ part.regs.critical

-- the program touches no word of the part
abbrev pub IsApart : ℕ → Image → Program → ℕ → Private → Type 0
IsApart p img program base part = (x : Place) → Touches p img program x → x.stack ≡ part.regs.stack → base ≤ x.at → ⊥

-- the effect with the part put into the image that it gives
abbrev pub put_into : ℕ → ℕ → Private → Effect Image → Effect Image
put_into q base part (gives img) = gives (with_private img q base part)
put_into q base part (faults kind) = faults kind
put_into q base part (interrupts kind) = interrupts kind

-- An operator that touches no word of another process's private part does the same whatever stands there.
abbrev pub OthersStayApart : Type 0
OthersStayApart =
    (p q base : ℕ) (part : Private) (program : Program) (img : Image) → p ≢ q → Beneath img q base part → IsApart p img program base part
    → does p program (with_private img q base part) ≡ put_into q base part (does p program img)
