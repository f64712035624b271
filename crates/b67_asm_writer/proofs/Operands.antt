-- Operands, read back as they are written in a listing.
use Rattle.std.proofs.Common.{◌≡◌, ℕ, ◌≤◌, ◌<◌, ◌^◌, ◌&&◌, true, List, [], ◌∷◌, ◌++◌, length, take, drop, Option, Some, None, refl, ap, arith, ◌∙◌, append_assoc, length-append}
use Rattle.std.specs.Prelude.{nat_le, nat_lt}
use Rattle.std.specs.Fmt.{decimal}
use Rattle.std.proofs.lemmas.Bool.{and_from, cond-true, le-leb, lt-ltb}
use Rattle.std.proofs.lemmas.List.{drop_at, take_at}
use Rattle.std.proofs.Math.Pow.{pow_mono}
use Rattle.b67_ops.specs.declared.TheConstants.{MOST_LEVEL}
use Rattle.b67_ops.specs.declared.Couple.{Couple}
use Rattle.b67_ops.specs.declared.Operator.{Operator as Op}
use Rattle.b67_ops.specs.declared.Operator.TheVariants as ops
use Rattle.b67_ops.specs.declared.BranchKind.{BranchKind}
use Rattle.b67_ops.specs.declared.PlainKind.{PlainKind}
use Rattle.b67_ops.specs.Spelling.{Fits, CoupleIsSeen, index_bits, kind_of}
use Rattle.b67_ops.proofs.Couples.{level_bits_within}
use Rattle.b67_listing.specs.Digits.{last_digits}
use Rattle.b67_listing.specs.Operators.{operand_text}
use Rattle.b67_asm_text.specs.declared.operand.TheConstants.{MOST_INDEX_BITS}
use Rattle.b67_asm_text.specs.declared.item.Written.TheVariants.{Whole}
use Rattle.b67_asm_text.specs.Numbers.{number_in}
use Rattle.b67_asm_text.specs.Operands.{operand_below, comma_place, couple_from, couple_in, couple_of_operand, number_below, past_comma, with_operand, with_word, operand_written, written_in}
use Rattle.b67_asm_writer.proofs.Quiet.{are_high, append_high}
use Rattle.b67_asm_writer.proofs.Numbers.{comma_after, decimal_high, decimal_some, digits_of, hex_high, hex_some, number_back, word_back}

-- the operand of an operator, as it is written after its blank
abbrev couple_operand : Couple → List ℕ
couple_operand couple = (decimal couple.level ++ 44 ∷ []) ++ decimal couple.index

-- an operand with its operator
pub record IsOperand (op : Op) (operand : List ℕ) : Type 0 where
  pub text : operand_text op ≡ 32 ∷ operand
  pub some : 1 ≤ length operand
  pub high : are_high operand ≡ true
  pub back : written_in (kind_of op) operand ≡ Some (Whole op)

-- ---- couples

few_bits : (level : ℕ) → index_bits level ≤ 13
few_bits level = omega (arith, level_bits_within level)

index_below : (level index : ℕ) → index < 2 ^ index_bits level → index < 2 ^ 13
index_below level index h = let most : 2 ^ index_bits level ≤ 2 ^ 13 = pow_mono {i = index_bits level} {j = 13} (few_bits level) in omega (arith, h, most)

-- a couple that fits a level
record IsKnown (couple : Couple) : Type 0 where
  level : couple.level ≤ MOST_LEVEL
  index : couple.index < 2 ^ 13

known_couple : (level : ℕ) (couple : Couple) → level ≤ MOST_LEVEL → CoupleIsSeen level couple → IsKnown couple
known_couple level couple most seen = record { level = omega (arith, seen.level_seen); index = index_below level couple.index seen.index_fits }

couple_made : (couple : Couple) → IsKnown couple → couple_of_operand couple.level couple.index ≡ Some couple
couple_made couple known =
    cond-true (nat_le couple.level MOST_LEVEL && nat_lt couple.index (2 ^ MOST_INDEX_BITS)) (Some couple) None
    (and_from (nat_le couple.level MOST_LEVEL) (nat_lt couple.index (2 ^ MOST_INDEX_BITS)) (le-leb couple.level MOST_LEVEL known.level) (lt-ltb couple.index (2 ^ MOST_INDEX_BITS) known.index))

couple_back : (couple : Couple) → IsKnown couple → couple_in (couple_operand couple) ≡ Some (Some couple)
couple_back couple known =
    let level = decimal couple.level in
    let index = decimal couple.index in
    let text = level ++ 44 ∷ index in
    let small : couple.level < 65536 = omega (arith, known.level) in
    let low : couple.index < 65536 = omega (arith, known.index) in
    let comma : comma_place text ≡ length level = comma_after level index (digits_of couple.level small) in
    let first : take (comma_place text) text ≡ level = ap (λ (n : ℕ). take n text) comma ∙ take_at level (44 ∷ index) (length level) refl in
    let second : past_comma (drop (comma_place text) text) ≡ index =
    ap (λ (n : ℕ). past_comma (drop n text)) comma ∙ ap past_comma (drop_at level (44 ∷ index) (length level) refl) in
    ap couple_in (append_assoc level (44 ∷ []) index)
    ∙ ap (λ (t : List ℕ). couple_from (number_in t) (number_in (past_comma (drop (comma_place text) text)))) first
    ∙ ap (λ (t : List ℕ). couple_from (number_in level) (number_in t)) second
    ∙ ap (λ (o : Option ℕ). couple_from o (number_in index)) (number_back couple.level small)
    ∙ ap (λ (o : Option ℕ). couple_from (Some couple.level) o) (number_back couple.index low)
    ∙ ap (λ (o : Option Couple). Some o) (couple_made couple known)

couple_high : (couple : Couple) → IsKnown couple → are_high (couple_operand couple) ≡ true
couple_high couple known =
    let small : couple.level < 65536 = omega (arith, known.level) in
    let low : couple.index < 65536 = omega (arith, known.index) in
    append_high (decimal couple.level ++ 44 ∷ []) (decimal couple.index) (append_high (decimal couple.level) (44 ∷ []) (decimal_high couple.level small) refl) (decimal_high couple.index low)

longer : (xs ys : List ℕ) → 1 ≤ length ((xs ++ 44 ∷ []) ++ ys)
longer xs ys = omega (arith, length-append (xs ++ 44 ∷ []) ys, length-append xs (44 ∷ []))

couple_some : (couple : Couple) → 1 ≤ length (couple_operand couple)
couple_some couple = longer (decimal couple.level) (decimal couple.index)

-- ---- numbers

below_back : (bound n : ℕ) → n < bound → n < 65536 → number_below bound (decimal n) ≡ Some (Some n)
below_back bound n less fits = ap (operand_below bound) (number_back n fits) ∙ cond-true (nat_lt n bound) (Some (Some n)) (Some None) (lt-ltb n bound less)

-- ---- each operator with an operand

valc_operand : (level : ℕ) (couple : Couple) → level ≤ MOST_LEVEL → CoupleIsSeen level couple → IsOperand (ops.Valc couple) (couple_operand couple)
unfolding written_in
valc_operand level couple most seen =
    let known = known_couple level couple most seen in
    record {
      text = refl;
      some = couple_some couple;
      high = couple_high couple known;
      back = ap (λ (o : Option (Option Couple)). operand_written (kind_of (ops.Valc couple)) (couple_operand couple) (with_operand ops.Valc o)) (couple_back couple known);
    }

namc_operand : (level : ℕ) (couple : Couple) → level ≤ MOST_LEVEL → CoupleIsSeen level couple → IsOperand (ops.Namc couple) (couple_operand couple)
unfolding written_in
namc_operand level couple most seen =
    let known = known_couple level couple most seen in
    record {
      text = refl;
      some = couple_some couple;
      high = couple_high couple known;
      back = ap (λ (o : Option (Option Couple)). operand_written (kind_of (ops.Namc couple)) (couple_operand couple) (with_operand ops.Namc o)) (couple_back couple known);
    }

lt8_operand : (n : ℕ) → n < 2 ^ 8 → IsOperand (ops.Lt8 n) (decimal n)
unfolding written_in
lt8_operand n fits =
    let small : n < 65536 = omega (arith, fits) in
    record {
      text = refl;
      some = decimal_some n small;
      high = decimal_high n small;
      back = ap (λ (o : Option (Option ℕ)). operand_written (kind_of (ops.Lt8 n)) (decimal n) (with_operand ops.Lt8 o)) (below_back (2 ^ 8) n fits small);
    }

lt16_operand : (n : ℕ) → n < 2 ^ 16 → IsOperand (ops.Lt16 n) (decimal n)
unfolding written_in
lt16_operand n fits = record {
  text = refl;
  some = decimal_some n fits;
  high = decimal_high n fits;
  back = ap (λ (o : Option (Option ℕ)). operand_written (kind_of (ops.Lt16 n)) (decimal n) (with_operand ops.Lt16 o)) (below_back (2 ^ 16) n fits fits);
}

branch_operand : (kind : BranchKind) (n : ℕ) → n < 2 ^ 16 → IsOperand (ops.Branch kind n) (decimal n)
unfolding written_in
branch_operand kind n fits = record {
  text = refl;
  some = decimal_some n fits;
  high = decimal_high n fits;
  back = ap (λ (o : Option (Option ℕ)). operand_written (kind_of (ops.Branch kind n)) (decimal n) (with_operand (ops.Branch kind) o)) (below_back (2 ^ 16) n fits fits);
}

lt48_operand : (word : ℕ) → word < 2 ^ 48 → IsOperand (ops.Lt48 word) (last_digits 16 12 word)
unfolding written_in
lt48_operand word fits = record {
  text = refl;
  some = hex_some word;
  high = hex_high 12 word;
  back = ap (λ (o : Option ℕ). operand_written (kind_of (ops.Lt48 word)) (last_digits 16 12 word) (with_word ops.Lt48 o)) (word_back word fits);
}

mpcw_operand : (word : ℕ) → word < 2 ^ 48 → IsOperand (ops.Mpcw word) (last_digits 16 12 word)
unfolding written_in
mpcw_operand word fits = record {
  text = refl;
  some = hex_some word;
  high = hex_high 12 word;
  back = ap (λ (o : Option ℕ). operand_written (kind_of (ops.Mpcw word)) (last_digits 16 12 word) (with_word ops.Mpcw o)) (word_back word fits);
}

-- an operator has no operand, or it has one that is read back
pub data HasOperand : Op → Type 0 where
  none : (kind : PlainKind) → HasOperand (ops.Plain kind)
  one : (op : Op) (operand : List ℕ) → IsOperand op operand → HasOperand op

pub operand_of : (level : ℕ) (op : Op) → level ≤ MOST_LEVEL → Fits level op → HasOperand op
operand_of level (ops.Valc couple) most fits = one (ops.Valc couple) (couple_operand couple) (valc_operand level couple most fits)
operand_of level (ops.Namc couple) most fits = one (ops.Namc couple) (couple_operand couple) (namc_operand level couple most fits)
operand_of level (ops.Lt8 n) most fits = one (ops.Lt8 n) (decimal n) (lt8_operand n fits)
operand_of level (ops.Lt16 n) most fits = one (ops.Lt16 n) (decimal n) (lt16_operand n fits)
operand_of level (ops.Lt48 word) most fits = one (ops.Lt48 word) (last_digits 16 12 word) (lt48_operand word fits)
operand_of level (ops.Mpcw word) most fits = one (ops.Mpcw word) (last_digits 16 12 word) (mpcw_operand word fits)
operand_of level (ops.Branch kind n) most fits = one (ops.Branch kind n) (decimal n) (branch_operand kind n fits)
operand_of level (ops.Plain kind) most fits = none kind
