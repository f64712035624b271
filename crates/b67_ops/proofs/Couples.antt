-- Couples and the 14 bits that spell them.
use Rattle.std.proofs.Common.{◌≡◌, ℕ, ◌+◌, ◌*◌, ◌/◌, ◌%◌, ◌^◌, ◌<◌, ◌≤◌, refl, sym, ap, ◌∙◌, arith}
use Rattle.std.proofs.lemmas.Bool.Decides.{nat_tests}
use Rattle.std.proofs.lemmas.Nat.{pow_pos, pow-add, mul-add-lt, shr_below, div-mul-add, mod-mul-add, div-add-mod', mod_below}
use Rattle.std.proofs.Math.Pow.{mod-mod-pow}
use Rattle.b67_ops.specs.declared.TheConstants.{MOST_LEVEL}
use Rattle.b67_ops.specs.declared.Couple.{Couple}
use Rattle.b67_ops.specs.Spelling.{level_bits, index_bits, couple_bits, IsSpelled, CoupleIsSeen}
use Rattle.b67_ops.specs.Decoding.{couple_of}

-- a level takes one bit to five
pub level_bits_within : (level : ℕ) → (1 ≤ level_bits level) × (level_bits level ≤ 5)
unfolding level_bits
level_bits_within level = grind (arith, nat_tests)

-- each level up to the current one has a number of that many bits
pub level_below : (level : ℕ) → level ≤ MOST_LEVEL → level < 2 ^ level_bits level
unfolding level_bits
level_below level h = grind (arith, nat_tests)

sum_of_bits : (level : ℕ) → level_bits level + index_bits level ≡ 14
sum_of_bits level = omega (arith, level_bits_within level)

-- the bits of the level and those of the index are 14
pub all_bits : (level : ℕ) → 2 ^ index_bits level * 2 ^ level_bits level ≡ 2 ^ 14
all_bits level = omega (arith, pow-add 2 (level_bits level) (index_bits level), ap (λ k. 2 ^ k) (sum_of_bits level))

pub couple_bits_below : (level : ℕ) (couple : Couple) → IsSpelled level couple → couple_bits level couple < 2 ^ 14
couple_bits_below level couple h =
    rw all_bits at (mul-add-lt couple.level (2 ^ index_bits level) couple.index (2 ^ level_bits level) h.level_fits h.index_fits)

-- a couple that can be seen at a level has a spelling there
pub IsSpelled_from_seen : (level : ℕ) (couple : Couple) → level ≤ MOST_LEVEL → CoupleIsSeen level couple → IsSpelled level couple
IsSpelled_from_seen level couple most h = record {
  level_fits = omega (arith, level_below level most, h.level_seen);
  index_fits = h.index_fits;
}

-- what the 14 bits of a couple spell is that couple, whatever stands before them
pub couple_of_bits : (level first : ℕ) (couple : Couple) → IsSpelled level couple
    → couple_of level (first * 2 ^ 14 + couple_bits level couple) ≡ couple
couple_of_bits level first couple h =
    let x = 2 ^ index_bits level in
    let bits = couple_bits level couple in
    let last : (first * 2 ^ 14 + bits) % 2 ^ 14 ≡ bits = mod-mul-add first (2 ^ 14) bits (couple_bits_below level couple h) in
    let above : (first * 2 ^ 14 + bits) % 2 ^ 14 / x ≡ couple.level =
    ap (λ n. n / x) last ∙ div-mul-add couple.level x couple.index h.index_fits in
    let regrouped : first * 2 ^ 14 + bits ≡ (first * 2 ^ level_bits level + couple.level) * x + couple.index =
    omega (arith, ap (λ k. first * k) (all_bits level)) in
    let below : (first * 2 ^ 14 + bits) % x ≡ couple.index =
    ap (λ n. n % x) regrouped ∙ mod-mul-add (first * 2 ^ level_bits level + couple.level) x couple.index h.index_fits in
    rw (above, below) refl

-- the couple in a number has a spelling, which is the last 14 bits of the number
pub couple_of_spelled : (level n : ℕ) → IsSpelled level (couple_of level n)
couple_of_spelled level n = record {
  level_fits = shr_below (n % 2 ^ 14) (level_bits level) (index_bits level)
      (omega (arith, mod_below n (2 ^ 14) (omega arith), ap (λ k. 2 ^ k) (sum_of_bits level)));
  index_fits = mod_below n (2 ^ index_bits level) (pow_pos (index_bits level));
}

pub bits_couple_of : (level n : ℕ) → couple_bits level (couple_of level n) ≡ n % 2 ^ 14
bits_couple_of level n =
    let x = 2 ^ index_bits level in
    let same : n % 2 ^ 14 % x ≡ n % x = rw sum_of_bits at (mod-mod-pow n (level_bits level) (index_bits level)) in
    ap (λ k. n % 2 ^ 14 / x * x + k) (sym same) ∙ div-add-mod' (n % 2 ^ 14) x
