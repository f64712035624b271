-- How operators are spelled in syllables: each has one spelling at a level.
use Rattle.std.specs.Prelude.{◌≡◌, ℕ, ◌+◌, ◌-◌, ◌*◌, ◌%◌, ◌^◌, ◌<◌, ◌≤◌, nat_le, List, [], ◌∷◌, ◌++◌, length, drop, replicate, if◌then◌else◌}
use Rattle.std.specs.Int.{w16, to_be_bytes, bytes_high_first}
use Rattle.b67_ops.specs.Codes.{code_of}
use Rattle.b67_ops.specs.declared.table.OperatorKind.{OperatorKind}
use Rattle.b67_ops.specs.declared.table.OperatorKind.TheVariants as kinds
use Rattle.b67_ops.specs.declared.Couple.{Couple}
use Rattle.b67_ops.specs.declared.Operator.{Operator}
use Rattle.b67_ops.specs.declared.Operator.TheVariants.{Valc, Namc, Lt8, Lt16, Lt48, Mpcw, Branch, Plain}

-- how many bits of a couple name its level, where the current level is this one
unfoldable pub level_bits : ℕ → ℕ
level_bits level =
    if nat_le level 1 then 1
    else (if nat_le level 3 then 2 else (if nat_le level 7 then 3 else (if nat_le level 15 then 4 else 5)))

-- how many of the 14 bits are left for the index
abbrev pub index_bits : ℕ → ℕ
index_bits level = 14 - level_bits level

-- a couple as a number of 14 bits, the level above the index
abbrev pub couple_bits : ℕ → Couple → ℕ
couple_bits level couple = couple.level * 2 ^ index_bits level + couple.index

-- how many syllables are left of the word after the syllable at this place
abbrev pub filling : ℕ → ℕ
filling at = 5 - at % 6

-- an operator without its operand
abbrev pub kind_of : Operator → OperatorKind
kind_of (Valc couple) = kinds.Valc
kind_of (Namc couple) = kinds.Namc
kind_of (Lt8 n) = kinds.Lt8
kind_of (Lt16 n) = kinds.Lt16
kind_of (Lt48 n) = kinds.Lt48
kind_of (Mpcw n) = kinds.Mpcw
kind_of (Branch kind place) = kinds.Branch kind
kind_of (Plain kind) = kinds.Plain kind

-- two syllables: two bits of a code, and then the 14 bits of a couple
abbrev pub couple_spelling : ℕ → ℕ → Couple → List ℕ
couple_spelling code level couple = to_be_bytes w16 (code * 2 ^ 8 + couple_bits level couple)

-- a code, and then two syllables, or the next whole word
abbrev pub place_spelling : ℕ → ℕ → List ℕ
place_spelling code place = code ∷ to_be_bytes w16 place

abbrev pub word_spelling : ℕ → ℕ → ℕ → List ℕ
word_spelling at code word = code ∷ (replicate (filling at) 0 ++ bytes_high_first 6 word)

-- the one spelling of an operator that begins at this place, where the current level is this one
abbrev pub spelling : ℕ → ℕ → Operator → List ℕ
spelling at level (Valc couple) = couple_spelling (code_of kinds.Valc) level couple
spelling at level (Namc couple) = couple_spelling (code_of kinds.Namc) level couple
spelling at level (Lt8 n) = code_of kinds.Lt8 ∷ n ∷ []
spelling at level (Lt16 n) = place_spelling (code_of kinds.Lt16) n
spelling at level (Lt48 n) = word_spelling at (code_of kinds.Lt48) n
spelling at level (Mpcw n) = word_spelling at (code_of kinds.Mpcw) n
spelling at level (Branch kind place) = place_spelling (code_of (kinds.Branch kind)) place
spelling at level (Plain kind) = code_of (kinds.Plain kind) ∷ []

-- a couple that can be spelled at this level, whether or not its own level is above it
pub record IsSpelled (level : ℕ) (couple : Couple) : Type 0 where
  pub level_fits : couple.level < 2 ^ level_bits level
  pub index_fits : couple.index < 2 ^ index_bits level

-- a couple that can stand in a block of this level
pub record CoupleIsSeen (level : ℕ) (couple : Couple) : Type 0 where
  pub level_seen : couple.level ≤ level
  pub index_fits : couple.index < 2 ^ index_bits level

-- an operator whose operand fits its syllables, where the couple is one of these
abbrev pub FitsAs : (Couple → Type 0) → Operator → Type 0
FitsAs P (Valc couple) = P couple
FitsAs P (Namc couple) = P couple
FitsAs P (Lt8 n) = n < 2 ^ 8
FitsAs P (Lt16 n) = n < 2 ^ 16
FitsAs P (Lt48 n) = n < 2 ^ 48
FitsAs P (Mpcw n) = n < 2 ^ 48
FitsAs P (Branch kind place) = place < 2 ^ 16
FitsAs P (Plain kind) = Unit {0}

-- an operator with a spelling: its operand fits its syllables
abbrev pub HasSpelling : ℕ → Operator → Type 0
HasSpelling level op = FitsAs (IsSpelled level) op

-- an operator that may stand in a block of this level: it has a spelling, and its couple names no level above
abbrev pub Fits : ℕ → Operator → Type 0
Fits level op = FitsAs (CoupleIsSeen level) op

-- the level that the operator's couple names, or 0 where it has no couple
abbrev pub level_named : Operator → ℕ
level_named (Valc couple) = couple.level
level_named (Namc couple) = couple.level
level_named (Lt8 n) = 0
level_named (Lt16 n) = 0
level_named (Lt48 n) = 0
level_named (Mpcw n) = 0
level_named (Branch kind place) = 0
level_named (Plain kind) = 0

-- at this place of the code, where the current level is this one, stands this operator, and next is the place after it
pub record OperatorStands (bytes : List ℕ) (at level : ℕ) (op : Operator) (next : ℕ) : Type 0 where
  pub text : drop at bytes ≡ spelling at level op ++ drop next bytes
  pub next_is : next ≡ at + length (spelling at level op)
  pub fits : Fits level op
