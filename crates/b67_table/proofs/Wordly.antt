-- Words that operators make are words of 48 bits and a tag.
use Rattle.std.proofs.Common.{◌≡◌, sym, subst, ℕ, zero, suc, ◌^◌, ◌<◌, ◌≤◌, ℤ, pos, List, [], ◌∷◌, All, reverse, Some, arith}
use Rattle.std.specs.Prelude.{unsigned_abs, bit_and, bit_or}
use Rattle.std.proofs.lemmas.Nat.{and_le_l, or_lt}
use Rattle.std.proofs.lemmas.List.Elements.{All-nil, All-cons, All-append}
use Rattle.std.proofs.lemmas.Grind.{reverse_onto}
use Rattle.b67_num.specs.Whole as num
use Rattle.b67_word.specs.Word.{Word, IsWord, word, operand, as_whole}
use Rattle.b67_word.proofs.WordLaws.{as_whole_fits, operand_word_is}
use Rattle.b67_ops.specs.Spelling.{level_bits, index_bits}
use Rattle.b67_ops.specs.declared.Couple.{Couple}
use Rattle.b67_control.proofs.ControlLaws.{IsWord_irw_word}
use Rattle.b67_table.specs.PrivateRows.{complement, agreement, reference}

-- ---- lists

pub All_tail : {X : Type 0} (P : X → Type 0) (x : X) (xs : List X) → All P (x ∷ xs) → All P xs
All_tail P x xs p k d h = p (suc k) d (omega (arith, h))

pub All_head : {X : Type 0} (P : X → Type 0) (x : X) (xs : List X) → All P (x ∷ xs) → P x
All_head P x xs p = p zero x (omega arith)

pub All_reverse : {X : Type 0} (P : X → Type 0) (xs : List X) → All P xs → All P (reverse xs)
All_reverse P [] p = All-nil P
All_reverse P (x ∷ xs) p =
    subst (All P) (sym (reverse_onto xs x []))
    (All-append P (reverse xs) (x ∷ []) (All_reverse P xs (All_tail P x xs p)) (All-cons P x [] (All_head P x xs p) (All-nil P)))

-- ---- operands

pub operand_is_word : (z : ℤ) → unsigned_abs z ≤ num.most → IsWord (operand z)
operand_is_word z h = operand_word_is z (omega (arith, h))

pub literal_is_word : (n : ℕ) → n < 2 ^ 16 → IsWord (operand (pos n))
literal_is_word n h = operand_is_word (pos n) (omega (arith, h))

pub whole_is_small : (w : Word) (z : ℤ) → as_whole w ≡ Some z → unsigned_abs z ≤ num.most
whole_is_small w z e = omega (arith, as_whole_fits w z e)

pub tagged_is_word : (tag bits : ℕ) → tag < 2 ^ 3 → bits < 2 ^ 48 → IsWord (word tag bits)
tagged_is_word tag bits t b = record { tag = t; bits = b }

pub and_fits : (a b : ℕ) → a < 2 ^ 48 → b < 2 ^ 48 → bit_and a b < 2 ^ 48
and_fits a b h k = omega (arith, and_le_l a b, h)

pub or_fits : (a b : ℕ) → a < 2 ^ 48 → b < 2 ^ 48 → bit_or a b < 2 ^ 48
or_fits a b h k = or_lt 48 a b h k

pub complement_fits : (a : ℕ) → complement a < 2 ^ 48
complement_fits a = omega arith

pub agreement_fits : (a b : ℕ) → a < 2 ^ 48 → b < 2 ^ 48 → agreement a b < 2 ^ 48
agreement_fits a b h k = complement_fits _

-- ---- references

pub few_index_bits : (level : ℕ) → 2 ^ index_bits level ≤ 2 ^ 14
unfolding level_bits
few_index_bits level = grind (arith)

pub reference_is_word : (level : ℕ) (couple : Couple) → couple.level ≤ level → level < 32 → couple.index < 2 ^ index_bits level → IsWord (reference couple)
reference_is_word level couple l h i =
    IsWord_irw_word (record { level = couple.level; index = couple.index }) (omega (arith, l, h), (omega (arith, i, few_index_bits level), tt))
