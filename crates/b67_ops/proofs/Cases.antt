-- What the first syllable of an operator says.
use Rattle.std.proofs.Common.{◌≡◌, ℕ, ◌+◌, ◌<◌, ◌≤◌, List, Option, Some, None, Result, Ok, Err, refl, sym, ◌∙◌}
use Rattle.b67_ops.specs.declared.Couple.{Couple}
use Rattle.b67_ops.specs.declared.BranchKind.{BranchKind}
use Rattle.b67_ops.specs.declared.PlainKind.{PlainKind}
use Rattle.b67_ops.specs.declared.BadCode.{BadCode}
use Rattle.b67_ops.specs.declared.BadCode.TheVariants.{Unknown}
use Rattle.b67_ops.specs.declared.Operator.{Operator}
use Rattle.b67_ops.specs.declared.Operator.TheVariants.{Valc, Namc, Lt8, Lt16, Lt48, Mpcw, Branch, Plain}
use Rattle.b67_ops.specs.declared.table.OperatorKind.{OperatorKind}
use Rattle.b67_ops.specs.declared.table.OperatorKind.TheVariants as kinds
use Rattle.b67_ops.specs.Codes.{code_of, kind_with}
use Rattle.b67_ops.specs.Decoding.{◌>>=◌, byte_front, place_front, word_front, couple_front, code_in, known_front}
use Rattle.b67_ops.proofs.CodeLemmas.{code_of_with, code_of_valc, code_of_namc, code_of_branch, code_of_plain, code_of_literal, first_is, first_valc, first_namc}

-- what is read after a first syllable: the operand and how many syllables the operator takes
abbrev pub Reader : Type 0
Reader = List ℕ → Result (Operator × ℕ) BadCode

abbrev pub couple_reader : (Couple → Operator) → ℕ → ℕ → Reader
couple_reader make level first = λ rest. couple_front level first rest >>= (λ couple. Ok (make couple, 2))

abbrev pub branch_reader : BranchKind → Reader
branch_reader kind = λ rest. place_front rest >>= (λ place. Ok (Branch kind place, 3))

abbrev pub lt8_reader : Reader
lt8_reader = λ rest. byte_front rest >>= (λ n. Ok (Lt8 n, 2))

abbrev pub lt16_reader : Reader
lt16_reader = λ rest. place_front rest >>= (λ n. Ok (Lt16 n, 3))

abbrev pub word_reader : (ℕ → Operator) → ℕ → Reader
word_reader make count = λ rest. word_front count rest >>= (λ n. Ok (make n, 7 + count))

-- a first syllable, and the reader that it asks for
pub data Case (count level first : ℕ) : Reader → Type 0 where
  valc : first < 64 → Case count level first (couple_reader Valc level first)
  namc : 64 ≤ first → first < 128 → Case count level first (couple_reader Namc level first)
  lt8 : first ≡ code_of kinds.Lt8 → Case count level first lt8_reader
  lt16 : first ≡ code_of kinds.Lt16 → Case count level first lt16_reader
  lt48 : first ≡ code_of kinds.Lt48 → Case count level first (word_reader Lt48 count)
  mpcw : first ≡ code_of kinds.Mpcw → Case count level first (word_reader Mpcw count)
  branch : (kind : BranchKind) → first ≡ code_of (kinds.Branch kind) → Case count level first (branch_reader kind)
  plain : (kind : PlainKind) → first ≡ code_of (kinds.Plain kind) → Case count level first (λ rest. Ok (Plain kind, 1))
  other : Case count level first (λ rest. Err Unknown)

kind_case : (count level first : ℕ) (kind : OperatorKind) → code_of kind ≡ code_in first → Case count level first (λ rest. known_front (Some kind) count level first rest)
kind_case count level first kinds.Valc is = valc (first_valc first (sym code_of_valc ∙ is))
kind_case count level first kinds.Namc is = let within = first_namc first (sym code_of_namc ∙ is) in namc within.0 within.1
kind_case count level first kinds.Lt8 is = lt8 (first_is first (code_of kinds.Lt8) code_of_literal.0 is)
kind_case count level first kinds.Lt16 is = lt16 (first_is first (code_of kinds.Lt16) code_of_literal.1 is)
kind_case count level first kinds.Lt48 is = lt48 (first_is first (code_of kinds.Lt48) code_of_literal.2 is)
kind_case count level first kinds.Mpcw is = mpcw (first_is first (code_of kinds.Mpcw) code_of_literal.3 is)
kind_case count level first (kinds.Branch kind) is = branch kind (first_is first (code_of (kinds.Branch kind)) (code_of_branch kind) is)
kind_case count level first (kinds.Plain kind) is = plain kind (first_is first (code_of (kinds.Plain kind)) (code_of_plain kind) is)

known_case : (count level first : ℕ) (kind : Option OperatorKind) → kind_with (code_in first) ≡ kind → Case count level first (λ rest. known_front kind count level first rest)
known_case count level first None h = other
known_case count level first (Some kind) h = kind_case count level first kind (code_of_with (code_in first) kind h)

pub case_of : (count level first : ℕ) → Case count level first (λ rest. known_front (kind_with (code_in first)) count level first rest)
case_of count level first = known_case count level first (kind_with (code_in first)) refl
