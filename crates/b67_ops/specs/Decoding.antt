-- What operator stands at the front of bytes, and why none does.
use Rattle.std.specs.Prelude.{ℕ, ◌+◌, ◌*◌, ◌/◌, ◌%◌, ◌^◌, nat_eq, nat_lt, List, [], ◌∷◌, drop, take, Result, Ok, Err, Option, Some, None, if◌then◌else◌}
use Rattle.std.specs.Int.{w16, w64, from_be_bytes}
use Rattle.std.specs.List.{list_all}
use Rattle.b67_ops.specs.Codes.{kind_with}
use Rattle.b67_ops.specs.declared.table.OperatorKind.{OperatorKind}
use Rattle.b67_ops.specs.declared.table.OperatorKind.TheVariants as kinds
use Rattle.b67_ops.specs.Spelling.{index_bits, filling, level_named}
use Rattle.b67_ops.specs.declared.Couple.{Couple}
use Rattle.b67_ops.specs.declared.BadCode.{BadCode}
use Rattle.b67_ops.specs.declared.BadCode.TheVariants.{Unknown, CutShort, BadLevel}
use Rattle.b67_ops.specs.declared.Operator.{Operator}
use Rattle.b67_ops.specs.declared.Operator.TheVariants.{Valc, Namc, Lt8, Lt16, Lt48, Mpcw, Branch, Plain}

-- one reading after another: the first refusal counts
infixl 10 ◌>>=◌
abbrev pub ◌>>=◌ : {A B : Type 0} → Result A BadCode → (A → Result B BadCode) → Result B BadCode
(Ok x) >>= f = f x
(Err e) >>= f = Err e

-- the couple in the last 14 bits of a number
abbrev pub couple_of : ℕ → ℕ → Couple
couple_of level n = record { level = n % 2 ^ 14 / 2 ^ index_bits level; index = n % 2 ^ index_bits level }

-- the operand of one syllable, of two, and of six
abbrev pub byte_front : List ℕ → Result ℕ BadCode
byte_front [] = Err CutShort
byte_front (n ∷ rest) = Ok n

abbrev pub place_front : List ℕ → Result ℕ BadCode
place_front [] = Err CutShort
place_front (high ∷ []) = Err CutShort
place_front (high ∷ low ∷ rest) = Ok (from_be_bytes w16 (high ∷ low ∷ []))

abbrev pub six_front : List ℕ → Result ℕ BadCode
six_front (a ∷ b ∷ c ∷ d ∷ e ∷ f ∷ rest) = Ok (from_be_bytes w64 (0 ∷ 0 ∷ a ∷ b ∷ c ∷ d ∷ e ∷ f ∷ []))
six_front rest = Err CutShort

-- the next whole word, which only zeros may come before
unfoldable pub word_front : ℕ → List ℕ → Result ℕ BadCode
word_front count rest =
    if list_all (λ n. nat_eq n 0) (take count rest) then six_front (drop count rest) else Err Unknown

-- a couple, in the first syllable of its operator and one after it
unfoldable pub couple_front : ℕ → ℕ → List ℕ → Result Couple BadCode
couple_front level first rest = byte_front rest >>= (λ low. Ok (couple_of level (from_be_bytes w16 (first ∷ low ∷ []))))

-- an operator of this kind, of which this is the first syllable, and how many syllables it is; after the first one come so many
-- until the word is full
abbrev pub operator_front : OperatorKind → ℕ → ℕ → ℕ → List ℕ → Result (Operator × ℕ) BadCode
operator_front kinds.Valc count level first rest = couple_front level first rest >>= (λ couple. Ok (Valc couple, 2))
operator_front kinds.Namc count level first rest = couple_front level first rest >>= (λ couple. Ok (Namc couple, 2))
operator_front kinds.Lt8 count level first rest = byte_front rest >>= (λ n. Ok (Lt8 n, 2))
operator_front kinds.Lt16 count level first rest = place_front rest >>= (λ n. Ok (Lt16 n, 3))
operator_front kinds.Lt48 count level first rest = word_front count rest >>= (λ n. Ok (Lt48 n, 7 + count))
operator_front kinds.Mpcw count level first rest = word_front count rest >>= (λ n. Ok (Mpcw n, 7 + count))
operator_front (kinds.Branch kind) count level first rest = place_front rest >>= (λ place. Ok (Branch kind place, 3))
operator_front (kinds.Plain kind) count level first rest = Ok (Plain kind, 1)

-- the same where the kind may be none
abbrev pub known_front : Option OperatorKind → ℕ → ℕ → ℕ → List ℕ → Result (Operator × ℕ) BadCode
known_front None count level first rest = Err Unknown
known_front (Some kind) count level first rest = operator_front kind count level first rest

-- the code in an operator's first syllable: the first two bits where it begins with a 0 bit, else the whole
abbrev pub code_in : ℕ → ℕ
code_in first = if nat_lt first 0x80 then first / 2 ^ 6 * 2 ^ 6 else first

-- the operator at the front of these syllables, whatever level its couple names
unfoldable pub front : ℕ → ℕ → List ℕ → Result (Operator × ℕ) BadCode
front count level [] = Err CutShort
front count level (first ∷ rest) = known_front (kind_with (code_in first)) count level first rest

-- the operator that stands at this place, and the place after it, or why none does
unfoldable pub decoded : List ℕ → ℕ → ℕ → Result (Operator × ℕ) BadCode
decoded bytes at level = front (filling at) level (drop at bytes) >>= (λ found.
    if nat_lt level (level_named found.0) then Err BadLevel else Ok (found.0, at + found.1))
