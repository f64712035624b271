-- The lines of operators.
use Rattle.std.specs.Prelude.{ℕ, List, [], ◌++◌, codes}
use Rattle.std.specs.Fmt.{decimal}
use Rattle.b67_ops.specs.declared.Couple.{Couple}
use Rattle.b67_ops.specs.declared.Operator.{Operator}
use Rattle.b67_ops.specs.declared.Operator.TheVariants.{Valc, Namc, Lt8, Lt16, Lt48, Mpcw, Branch, Plain}
use Rattle.b67_ops.specs.Codes.{name_of}
use Rattle.b67_ops.specs.Spelling.{kind_of, spelling}
use Rattle.b67_listing.specs.Digits.{last_digits, hexadecimal}

-- an operator at its place in a segment and its level
pub record ListedOperator : Type 0 where
  pub place : ℕ
  pub level : ℕ
  pub operator : Operator

-- a couple, after a blank
abbrev pub couple_text : Couple → List ℕ
couple_text couple = codes " " ++ decimal couple.level ++ codes "," ++ decimal couple.index

-- a number, after a blank
abbrev pub number_text : ℕ → List ℕ
number_text number = codes " " ++ decimal number

-- a word, after a blank
abbrev pub word_text : ℕ → List ℕ
word_text word = codes " " ++ last_digits 16 12 word

-- the operand of an operator, if it has one
abbrev pub operand_text : Operator → List ℕ
operand_text (Valc couple) = couple_text couple
operand_text (Namc couple) = couple_text couple
operand_text (Lt8 number) = number_text number
operand_text (Lt16 number) = number_text number
operand_text (Lt48 word) = word_text word
operand_text (Mpcw word) = word_text word
operand_text (Branch kind place) = number_text place
operand_text (Plain kind) = []

-- the name of an operator, and its operand
abbrev pub operator_text : Operator → List ℕ
operator_text operator = name_of (kind_of operator) ++ operand_text operator

-- the place, the level, the syllables, and the operator
abbrev pub operator_line : ListedOperator → List ℕ
operator_line placed =
    last_digits 10 5 placed.place ++ codes " " ++ last_digits 10 2 placed.level ++ codes " "
    ++ hexadecimal (spelling placed.place placed.level placed.operator) ++ codes " " ++ operator_text placed.operator
