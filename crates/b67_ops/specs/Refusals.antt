-- When no operator stands at a place of a code: it is cut short, names a level above the present one, or is unknown.
use Rattle.std.specs.Prelude.{◌≡◌, ℕ, ◌<◌, List, ◌++◌, length, drop}
use Rattle.b67_ops.specs.Spelling.{spelling, HasSpelling, level_named}
use Rattle.b67_ops.specs.declared.Operator.{Operator}

-- the code ends before the operator does: with what is missing, an operator is spelled at this place
pub record IsCutShort (bytes : List ℕ) (at level : ℕ) : Type 0 where
  pub op : Operator
  pub missing : List ℕ
  pub spelled : HasSpelling level op
  pub some : 0 < length missing
  pub text : drop at bytes ++ missing ≡ spelling at level op

-- an operator is spelled at this place, and its couple names a level above the current one
pub record NamesLevelAbove (bytes : List ℕ) (at level : ℕ) : Type 0 where
  pub op : Operator
  pub rest : List ℕ
  pub spelled : HasSpelling level op
  pub above : level < level_named op
  pub text : drop at bytes ≡ spelling at level op ++ rest

-- however the code might go on, no operator is spelled at this place
abbrev pub IsUnknown : List ℕ → ℕ → ℕ → Type 0
IsUnknown bytes at level = (op : Operator) (more rest : List ℕ) → HasSpelling level op → drop at bytes ++ more ≡ spelling at level op ++ rest → ⊥
