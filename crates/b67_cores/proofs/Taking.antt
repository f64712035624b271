-- What the operators of the language do to the words of values.
use Rattle.std.proofs.Common.{◌≡◌, refl, ap, ◌∙◌, ℕ, ◌+◌, ◌-◌, ◌^◌, ◌<◌, Bool, true, false, ℤ, pos, List, ◌∷◌, Some, Result, Ok, arith}
use Rattle.std.specs.Prelude.{not, if◌then◌else◌}
use Rattle.b67_num.specs.declared.NumFault.{NumFault}
use Rattle.b67_num.specs.declared.Calculation.{Calculation}
use Rattle.b67_num.specs.declared.Relation.{Relation}
use Rattle.b67_num.specs.Whole.{calculated, related, negation_of}
use Rattle.b67_num.proofs.WholeLaws.{calculated_fits, negation_of_fits}
use Rattle.b67_word.specs.Word.{Word, word, as_whole}
use Rattle.b67_word.specs.Word as words
use Rattle.b67_word.proofs.WordLaws.{as_whole_operand}
use Rattle.b67_control.specs.declared.Registers.{Registers}
use Rattle.algol_meaning.specs.Value.{Value, number, truth}
use Rattle.b67_table.specs.declared.Private.{Private}
use Rattle.b67_table.specs.Effect.{Effect, gives, ◌>>=◌}
use Rattle.b67_table.specs.Private.{floor}
use Rattle.b67_table.specs.PrivateRows.{arithmetic, relation, negated, logic, complement, complemented, result_or_fault}
use Rattle.b67_table.proofs.Wordly.{complement_fits}
use Rattle.b67_templates.specs.Fragments.{IsWholeNumber}
use Rattle.b67_cores.specs.Slots.{IsNumberWord, ValueIs}
use Rattle.b67_cores.proofs.PartRows.{part, wholes_are, logic_is, negated_is, complemented_is}
use Rattle.b67_cores.proofs.Bits.{Says, truth_is_truth, complement_says}

-- two words of these values are replaced by one of that value
pub record Taken (change : Private → Effect Private) (v w : Word) (result : Value) : Type 0 where
  pub word : Word
  pub is : ValueIs result word
  pub given : (r : Registers) (s : ℕ) (below : List Word) → floor r + 1 < s → change (part r s (w ∷ v ∷ below)) ≡ gives (part r (s - 1 - 1 + 1) (word ∷ below))

abbrev pub Takes : (Private → Effect Private) → Value → Value → Value → Type 0
Takes change a b result = (v w : Word) → ValueIs a v → ValueIs b w → Taken change v w result

-- one word of this value is replaced by one of that value
pub record Turned (change : Private → Effect Private) (w : Word) (result : Value) : Type 0 where
  pub word : Word
  pub is : ValueIs result word
  pub given : (r : Registers) (s : ℕ) (below : List Word) → floor r < s → change (part r s (w ∷ below)) ≡ gives (part r (s - 1 + 1) (word ∷ below))

abbrev pub Turns : (Private → Effect Private) → Value → Value → Type 0
Turns change a result = (w : Word) → ValueIs a w → Turned change w result

-- a word of a number is read as it
pub number_read : (z : ℤ) (w : Word) → IsNumberWord z w → as_whole w ≡ Some z
number_read z w i = ap as_whole i.is ∙ as_whole_operand z (omega (arith, i.whole))

-- ---- numbers

made_of : (r : Result ℤ NumFault) → Effect Word
made_of r = result_or_fault r >>= (λ (z : ℤ). gives (words.operand z))

made : (r : Result ℤ NumFault) (z : ℤ) → r ≡ Ok z → made_of r ≡ gives (words.operand z)
unfolding made_of
made r z e = ap made_of e

pub arithmetic_takes : (c : Calculation) (a b z : ℤ) → calculated c a b ≡ Ok z → Takes (arithmetic (calculated c)) (number a) (number b) (number z)
unfolding made_of
arithmetic_takes c a b z e v w iv iw = record {
  word = words.operand z;
  is = record { is = refl; whole = calculated_fits c a b z e };
  given = λ r s below h.
      wholes_are r (λ (m n : ℤ). made_of (calculated c m n)) s v w (words.operand z) a b below (number_read a v iv) (number_read b w iw) (made (calculated c a b) z e) h;
}

pub relation_takes : (holds : Relation) (a b : ℤ) → Takes (relation (related holds)) (number a) (number b) (truth (related holds a b))
relation_takes holds a b v w iv iw = record {
  word = words.truth (related holds a b);
  is = truth_is_truth (related holds a b);
  given = λ r s below h.
      wholes_are r (λ (m n : ℤ). gives (words.truth (related holds m n))) s v w (words.truth (related holds a b)) a b below (number_read a v iv) (number_read b w iw) refl h;
}

-- a truth value as a number
abbrev pub one_if : Bool → ℤ
one_if b = if b then pos 1 else pos 0

-- the word of a relation is that of a number too
truth_is_number : (b : Bool) → IsNumberWord (one_if b) (words.truth b)
unfolding words.truth words.operand
truth_is_number true = record { is = refl; whole = omega arith }
truth_is_number false = record { is = refl; whole = omega arith }

pub relation_counts : (holds : Relation) (a b : ℤ) → Takes (relation (related holds)) (number a) (number b) (number (one_if (related holds a b)))
unfolding relation_takes
relation_counts holds a b v w iv iw = record {
  word = words.truth (related holds a b);
  is = truth_is_number (related holds a b);
  given = (relation_takes holds a b v w iv iw).given;
}

pub negated_turns : (z : ℤ) → IsWholeNumber z → Turns negated (number z) (number (negation_of z))
negated_turns z h w iw = record {
  word = words.operand (negation_of z);
  is = record { is = refl; whole = negation_of_fits z h };
  given = λ r s below above. negated_is r s w z below (number_read z w iw) above;
}

-- ---- truth values

pub logic_takes : (op : ℕ → ℕ → ℕ) (a b c : Bool) → ((m n : ℕ) → m < 2 ^ 48 → n < 2 ^ 48 → (op m n < 2 ^ 48) × (Says a m → Says b n → Says c (op m n)))
    → Takes (logic op) (truth a) (truth b) (truth c)
logic_takes op a b c law v w iv iw =
    let here = law v.bits w.bits iv.bits iw.bits in
    record {
      word = word 0 (op v.bits w.bits);
      is = record { tag = refl; bits = here.0; lowest = here.1 iv.lowest iw.lowest };
      given = λ r s below h. logic_is r op s v w below iv.tag iw.tag h;
    }

pub complemented_turns : (b : Bool) → Turns complemented (truth b) (truth (not b))
complemented_turns b w iw = record {
  word = word 0 (complement w.bits);
  is = record { tag = refl; bits = complement_fits w.bits; lowest = complement_says b w.bits iw.bits iw.lowest };
  given = λ r s below h. complemented_is r s w below iw.tag h;
}
