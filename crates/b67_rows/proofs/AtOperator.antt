-- A process of an image, whose machine stands at an operator.
use Rattle.std.proofs.Common.{◌≡◌, ℕ, Ok}
use Rattle.b67_rows.proofs.Prelude.{Operator, Code, Image, operator_at, Core, HasCore}

-- its core, and where it goes on after the operator: all that the lemmas on a row of the table speak of
pub record AtOperator (code : Code) (op : Operator) : Type 0 where
  pub img : Image
  pub p : ℕ
  pub core : Core
  pub has : HasCore img p core
  pub next : ℕ
  pub there : operator_at code core.registers ≡ Ok (op, next)

abbrev pub at_operator : {code : Code} {op : Operator} {img : Image} {p : ℕ} {core : Core} {next : ℕ} → HasCore img p core → operator_at code core.registers ≡ Ok (op, next) → AtOperator code op
at_operator {img = img} {p = p} {core = core} {next = next} has there = record { img = img; p = p; core = core; has = has; next = next; there = there }
