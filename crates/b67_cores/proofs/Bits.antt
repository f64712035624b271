-- Truth values in words: what the operators of logic do to bit 0.
use Rattle.std.proofs.Common.{◌≡◌, refl, ap, ◌∙◌, ℕ, ◌%◌, ◌^◌, ◌<◌, Bool, true, false, cond, arith}
use Rattle.std.specs.Prelude.{bit_and, bit_or, bit_xor, not, ◌&&◌, ◌||◌}
use Rattle.std.proofs.lemmas.Nat.{and_mod, or_mod, xor_mod}
use Rattle.algol_meaning.specs.Operators.{same_truth}
use Rattle.b67_word.specs.Word.{truth}
use Rattle.b67_table.specs.PrivateRows.{complement, agreement}
use Rattle.b67_cores.specs.Slots.{IsTruth}

-- bit 0 of a number says this truth value
abbrev pub Says : Bool → ℕ → Type 0
Says b n = n % 2 ≡ cond b 1 0

pub and_says : (a b : Bool) (m n : ℕ) → Says a m → Says b n → Says (a && b) (bit_and m n)
and_says true true m n i j = and_mod m n 1 ∙ ap (λ k. bit_and k (n % 2)) i ∙ ap (λ k. bit_and 1 k) j
and_says true false m n i j = and_mod m n 1 ∙ ap (λ k. bit_and k (n % 2)) i ∙ ap (λ k. bit_and 1 k) j
and_says false true m n i j = and_mod m n 1 ∙ ap (λ k. bit_and k (n % 2)) i ∙ ap (λ k. bit_and 0 k) j
and_says false false m n i j = and_mod m n 1 ∙ ap (λ k. bit_and k (n % 2)) i ∙ ap (λ k. bit_and 0 k) j

pub or_says : (a b : Bool) (m n : ℕ) → Says a m → Says b n → Says (a || b) (bit_or m n)
or_says true true m n i j = or_mod m n 1 ∙ ap (λ k. bit_or k (n % 2)) i ∙ ap (λ k. bit_or 1 k) j
or_says true false m n i j = or_mod m n 1 ∙ ap (λ k. bit_or k (n % 2)) i ∙ ap (λ k. bit_or 1 k) j
or_says false true m n i j = or_mod m n 1 ∙ ap (λ k. bit_or k (n % 2)) i ∙ ap (λ k. bit_or 0 k) j
or_says false false m n i j = or_mod m n 1 ∙ ap (λ k. bit_or k (n % 2)) i ∙ ap (λ k. bit_or 0 k) j

xor_says : (a b : Bool) (m n : ℕ) → Says a m → Says b n → Says (not (same_truth a b)) (bit_xor m n)
xor_says true true m n i j = xor_mod m n 1 ∙ ap (λ k. bit_xor k (n % 2)) i ∙ ap (λ k. bit_xor 1 k) j
xor_says true false m n i j = xor_mod m n 1 ∙ ap (λ k. bit_xor k (n % 2)) i ∙ ap (λ k. bit_xor 1 k) j
xor_says false true m n i j = xor_mod m n 1 ∙ ap (λ k. bit_xor k (n % 2)) i ∙ ap (λ k. bit_xor 0 k) j
xor_says false false m n i j = xor_mod m n 1 ∙ ap (λ k. bit_xor k (n % 2)) i ∙ ap (λ k. bit_xor 0 k) j

pub complement_says : (b : Bool) (n : ℕ) → n < 2 ^ 48 → Says b n → Says (not b) (complement n)
complement_says true n h i = omega (arith, i)
complement_says false n h i = omega (arith, i)

twice_not : (b : Bool) → not (not b) ≡ b
twice_not true = refl
twice_not false = refl

pub agreement_says : (a b : Bool) (m n : ℕ) → bit_xor m n < 2 ^ 48 → Says a m → Says b n → Says (same_truth a b) (agreement m n)
agreement_says a b m n h i j =
    complement_says (not (same_truth a b)) (bit_xor m n) h (xor_says a b m n i j) ∙ ap (λ c. cond c 1 0) (twice_not (same_truth a b))

-- the word of a truth value says it
pub truth_is_truth : (b : Bool) → IsTruth b (truth b)
unfolding truth
truth_is_truth true = record { tag = refl; bits = omega arith; lowest = refl }
truth_is_truth false = record { tag = refl; bits = omega arith; lowest = refl }
