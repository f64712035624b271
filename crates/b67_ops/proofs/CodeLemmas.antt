-- A code belongs to one operator, and an operator has one code.
use Rattle.std.proofs.Common.{◌≡◌, ℕ, ◌*◌, ◌/◌, ◌^◌, ◌<◌, ◌≤◌, eqb, Bool, true, List, [], ◌∷◌, Some, refl, sym, ap, ◌∙◌, inl, inr, arith}
use Rattle.std.specs.List.{list_all}
use Rattle.std.proofs.lemmas.Bool.{eqb-true, cases_Bool, cases_lt, cond-true, cond-false, and_parts, lt-ltb, le-ltb}
use Rattle.b67_ops.specs.declared.PlainKind.{PlainKind}
use Rattle.b67_ops.specs.declared.PlainKind.TheVariants as plains
use Rattle.b67_ops.specs.declared.BranchKind.{BranchKind}
use Rattle.b67_ops.specs.declared.BranchKind.TheVariants as branches
use Rattle.b67_ops.specs.declared.table.OperatorKind.{OperatorKind}
use Rattle.b67_ops.specs.declared.table.OperatorKind.TheVariants.{Valc, Namc, Lt8, Lt16, Lt48, Mpcw, Branch, Plain}
use Rattle.b67_ops.specs.declared.table.TheConstants.{TABLE}
use Rattle.b67_ops.specs.Codes.{CodeRow, code_of, first_with, kind_with}
use Rattle.b67_ops.specs.Decoding.{code_in}

-- each of these rows has its operator's code
abbrev agree : {Name : Type 0} → List (CodeRow Name) → Bool
agree rows = list_all (λ row. eqb (code_of row.0) row.1) rows

-- what is found in such rows has the code that was sought
first_with_code : {Name : Type 0} (code : ℕ) (rows : List (CodeRow Name)) (kind : OperatorKind) → agree rows ≡ true → first_with code rows ≡ Some kind → code_of kind ≡ code
first_with_code code [] kind all h = cc
first_with_code code (row ∷ rows) kind all h =
    let parts = and_parts (eqb (code_of row.0) row.1) (agree rows) all in
    elim (cases_Bool (eqb row.1 code)) [
      | inl found ↦
          let is : Some row.0 ≡ Some kind = sym (cond-true (eqb row.1 code) (Some row.0) (first_with code rows) found) ∙ h in
          let same : row.0 ≡ kind = cc in
          ap code_of (sym same) ∙ eqb-true (code_of row.0) row.1 parts.0 ∙ eqb-true row.1 code found
      | inr other ↦ first_with_code code rows kind parts.1 (sym (cond-false (eqb row.1 code) (Some row.0) (first_with code rows) other) ∙ h)
    ]

table_agrees : agree TABLE ≡ true
unfolding code_of
table_agrees = refl

-- the operator of a code has that code
pub code_of_with : (code : ℕ) (kind : OperatorKind) → kind_with code ≡ Some kind → code_of kind ≡ code
unfolding kind_with
code_of_with code kind h = first_with_code code TABLE kind table_agrees h

-- the code of each operator is that operator's
pub kind_with_code : (kind : OperatorKind) → kind_with (code_of kind) ≡ Some kind
unfolding kind_with code_of
kind_with_code Valc = refl
kind_with_code Namc = refl
kind_with_code Lt8 = refl
kind_with_code Lt16 = refl
kind_with_code Lt48 = refl
kind_with_code Mpcw = refl
kind_with_code (Branch branches.Brfl) = refl
kind_with_code (Branch kind) = refl
kind_with_code (Plain plains.Add) = refl
kind_with_code (Plain kind) = refl

-- the codes of operators with couples, which leave 14 bits for them
pub code_of_valc : code_of Valc ≡ 0
unfolding code_of
code_of_valc = refl

pub code_of_namc : code_of Namc ≡ 64
unfolding code_of
code_of_namc = refl

-- the other codes begin with a 1 bit
pub code_of_branch : (kind : BranchKind) → 128 ≤ code_of (Branch kind)
unfolding code_of
code_of_branch branches.Brfl = omega arith
code_of_branch kind = omega arith

pub code_of_plain : (kind : PlainKind) → 128 ≤ code_of (Plain kind)
unfolding code_of
code_of_plain plains.Add = omega arith
code_of_plain kind = omega arith

pub code_of_literal : (128 ≤ code_of Lt8) × (128 ≤ code_of Lt16) × (128 ≤ code_of Lt48) × (128 ≤ code_of Mpcw)
unfolding code_of
code_of_literal = (omega arith, omega arith, omega arith, omega arith)

-- the code in a first syllable
pub code_in_low : (first : ℕ) → first < 128 → code_in first ≡ first / 2 ^ 6 * 2 ^ 6
code_in_low first h = cond-true _ (first / 2 ^ 6 * 2 ^ 6) first (lt-ltb first 128 h)

pub code_in_high : (first : ℕ) → 128 ≤ first → code_in first ≡ first
code_in_high first h = cond-false _ (first / 2 ^ 6 * 2 ^ 6) first (le-ltb first 128 h)

pub kind_in_valc : (first : ℕ) → first < 64 → kind_with (code_in first) ≡ Some Valc
unfolding kind_with
kind_in_valc first h =
    let is : code_in first ≡ 0 = code_in_low first (omega arith) ∙ omega arith in
    ap (λ code. first_with code TABLE) is

pub kind_in_namc : (first : ℕ) → 64 ≤ first → first < 128 → kind_with (code_in first) ≡ Some Namc
unfolding kind_with
kind_in_namc first low high =
    let is : code_in first ≡ 64 = code_in_low first high ∙ omega arith in
    ap (λ code. first_with code TABLE) is

-- a code that begins with a 1 bit is its operator's whole first syllable
pub kind_in_code : (kind : OperatorKind) → 128 ≤ code_of kind → kind_with (code_in (code_of kind)) ≡ Some kind
kind_in_code kind h = ap kind_with (code_in_high (code_of kind) h) ∙ kind_with_code kind

-- a first syllable with such a code is that code
pub first_is : (first code : ℕ) → 128 ≤ code → code ≡ code_in first → first ≡ code
first_is first code h is =
    elim (cases_lt first 128) [
      | inl low ↦ let e = is ∙ code_in_low first low in absurd (omega arith)
      | inr high ↦ sym (is ∙ code_in_high first high)
    ]

pub first_valc : (first : ℕ) → 0 ≡ code_in first → first < 64
first_valc first is =
    elim (cases_lt first 128) [
      | inl low ↦ let e = is ∙ code_in_low first low in omega arith
      | inr high ↦ let e = is ∙ code_in_high first high in absurd (omega arith)
    ]

pub first_namc : (first : ℕ) → 64 ≡ code_in first → (64 ≤ first) × (first < 128)
first_namc first is =
    elim (cases_lt first 128) [
      | inl low ↦ let e = is ∙ code_in_low first low in (omega arith, low)
      | inr high ↦ let e = is ∙ code_in_high first high in absurd (omega arith)
    ]

-- no two operators have one code
pub code_of_one : (a b : OperatorKind) → code_of a ≡ code_of b → a ≡ b
code_of_one a b h =
    let same : Some a ≡ Some b = sym (kind_with_code a) ∙ ap kind_with h ∙ kind_with_code b in
    cc
