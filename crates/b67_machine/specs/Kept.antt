-- What contracts see of a machine.
use Rattle.std.specs.Prelude.{◌≡◌, ◌≢◌, ℕ, ◌+◌, Bool, List, Option, Some, None}
use Rattle.b67_list.specs.Numbered.{numbered}
use Rattle.b67_deeds.specs.declared.Letter.{Letter}
use Rattle.b67_segment.specs.declared.code.Code.{Code}
use Rattle.b67_table.specs.Image.{Image}

pub record MachineModel : Type 0 where
  pub code : Code
  pub image : Image
  -- how many operators are each process's, by their numbers from 1
  pub counts : List ℕ
  -- whom the last operator released, in their order
  pub released : List ℕ
  -- the process whose operator came to the stack limit, where that was the last that was tried
  pub limit : Option ℕ
  -- whether an operator found no memory
  pub lacked : Bool
  -- the letter of the last action, where there was one
  pub letter : Option Letter

abbrev pub or_none : Option ℕ → ℕ
or_none None = 0
or_none (Some n) = n

-- how many operators are a process's
abbrev pub operators_counted : List ℕ → ℕ → ℕ
operators_counted counts p = or_none (numbered counts p)

-- so many more are a process's, and of every other process as many as before
pub record Counts (before : List ℕ) (p n : ℕ) (after : List ℕ) : Type 0 where
  pub own : operators_counted after p ≡ operators_counted before p + n
  pub others : (q : ℕ) → q ≢ p → operators_counted after q ≡ operators_counted before q
