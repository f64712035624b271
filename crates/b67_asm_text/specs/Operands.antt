-- The operands of operators, as they are written in a listing; a branch's may also be a label.
use Rattle.std.specs.Prelude.{ℕ, ◌^◌, ◌<◌, ◌==◌, ◌&&◌, nat_le, nat_lt, not, if◌then◌else◌, List, [], ◌∷◌, take, drop, Option, Some, None}
use Rattle.std.specs.List.{prefix_len}
use Rattle.b67_ops.specs.declared.TheConstants.{MOST_LEVEL}
use Rattle.b67_ops.specs.declared.Couple.{Couple}
use Rattle.b67_ops.specs.declared.Operator.{Operator}
use Rattle.b67_ops.specs.declared.Operator.TheVariants as ops
use Rattle.b67_ops.specs.declared.table.OperatorKind.{OperatorKind}
use Rattle.b67_ops.specs.declared.table.OperatorKind.TheVariants as kinds
use Rattle.b67_asm_text.specs.declared.item.Written.{Written}
use Rattle.b67_asm_text.specs.declared.item.Written.TheVariants.{Whole, ToLabel, TooGreat}
use Rattle.b67_asm_text.specs.declared.operand.TheConstants.{MOST_INDEX_BITS}
use Rattle.b67_asm_text.specs.Numbers.{number_in, word_in}
use Rattle.b67_asm_text.specs.Names.{can_name}

-- the operator of an operand, where there is one: none in it is one with too many bits
abbrev pub with_operand : {T : Type 0} → (T → Operator) → Option (Option T) → Option (Option Operator)
with_operand make None = None
with_operand make (Some None) = Some None
with_operand make (Some (Some operand)) = Some (Some (make operand))

abbrev pub with_word : (ℕ → Operator) → Option ℕ → Option (Option Operator)
with_word make None = None
with_word make (Some word) = Some (Some (make word))

-- a number, none where it is not below a limit
abbrev pub operand_below : ℕ → Option ℕ → Option (Option ℕ)
operand_below limit None = None
operand_below limit (Some number) = if nat_lt number limit then Some (Some number) else Some None

abbrev pub number_below : ℕ → List ℕ → Option (Option ℕ)
number_below limit text = operand_below limit (number_in text)

abbrev pub IsBelow : ℕ → Option (Option ℕ) → Type 0
IsBelow limit None = Unit {0}
IsBelow limit (Some None) = Unit {0}
IsBelow limit (Some (Some number)) = number < limit

-- the couple of a level and an index, none where no level has it
abbrev pub couple_of_operand : ℕ → ℕ → Option Couple
couple_of_operand level index =
    if nat_le level MOST_LEVEL && nat_lt index (2 ^ MOST_INDEX_BITS) then Some record { level = level; index = index } else None

abbrev pub couple_from : Option ℕ → Option ℕ → Option (Option Couple)
couple_from None index = None
couple_from (Some level) None = None
couple_from (Some level) (Some index) = Some (couple_of_operand level index)

-- how many bytes stand before the first comma, and what stands after it
abbrev pub comma_place : List ℕ → ℕ
comma_place text = prefix_len (λ (byte : ℕ). not (byte == 44)) text

abbrev pub past_comma : List ℕ → List ℕ
past_comma [] = []
past_comma (comma ∷ rest) = rest

-- a couple: a level, a comma and an index
abbrev pub couple_in : List ℕ → Option (Option Couple)
couple_in text = couple_from (number_in (take (comma_place text) text)) (number_in (past_comma (drop (comma_place text) text)))

-- an operator whose operand is a couple, a number or a word
abbrev pub operator_in : OperatorKind → List ℕ → Option (Option Operator)
operator_in kinds.Valc text = with_operand ops.Valc (couple_in text)
operator_in kinds.Namc text = with_operand ops.Namc (couple_in text)
operator_in kinds.Lt8 text = with_operand ops.Lt8 (number_below (2 ^ 8) text)
operator_in kinds.Lt16 text = with_operand ops.Lt16 (number_below (2 ^ 16) text)
operator_in kinds.Lt48 text = with_word ops.Lt48 (word_in text)
operator_in kinds.Mpcw text = with_word ops.Mpcw (word_in text)
operator_in (kinds.Branch kind) text = with_operand (ops.Branch kind) (number_below (2 ^ 16) text)
operator_in (kinds.Plain kind) text = None

-- a branch to a label
abbrev pub to_label : OperatorKind → List ℕ → Option Written
to_label (kinds.Branch kind) text = if can_name text then Some (ToLabel kind text) else None
to_label kinds.Valc text = None
to_label kinds.Namc text = None
to_label kinds.Lt8 text = None
to_label kinds.Lt16 text = None
to_label kinds.Lt48 text = None
to_label kinds.Mpcw text = None
to_label (kinds.Plain kind) text = None

abbrev pub operand_written : OperatorKind → List ℕ → Option (Option Operator) → Option Written
operand_written kind text (Some (Some operator)) = Some (Whole operator)
operand_written kind text (Some None) = Some (TooGreat kind)
operand_written kind text None = to_label kind text

-- an operator with its operand
unfoldable pub written_in : OperatorKind → List ℕ → Option Written
written_in kind text = operand_written kind text (operator_in kind text)
