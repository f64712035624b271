-- The shortest operator that pushes a number.
use Rattle.std.specs.Prelude.{ℕ, ◌^◌, ℤ, pos, negsuc, nat_eq, nat_lt, if◌then◌else◌}
use Rattle.b67_word.specs.Word.{operand}
use Rattle.b67_ops.specs.declared.Operator.{Operator}
use Rattle.b67_ops.specs.declared.Operator.TheVariants as ops
use Rattle.b67_ops.specs.declared.PlainKind.TheVariants as kinds

-- of a number of at most 16 bits
unfoldable pub short_literal : ℕ → Operator
short_literal n =
    if nat_eq n 0 then ops.Plain kinds.Zero
    else (if nat_eq n 1 then ops.Plain kinds.One else (if nat_lt n (2 ^ 8) then ops.Lt8 n else ops.Lt16 n))

-- a number below 0, and one of more than 16 bits, takes a whole word
unfoldable pub literal : ℤ → Operator
literal (pos n) = if nat_lt n (2 ^ 16) then short_literal n else ops.Lt48 (operand (pos n)).bits
literal (negsuc n) = ops.Lt48 (operand (negsuc n)).bits
