-- Fields of a number that stand side by side.
use Rattle.std.proofs.Common.{◌≡◌, ℕ, ◌+◌, ◌-◌, ◌*◌, ◌/◌, ◌%◌, ◌^◌, ◌<◌, ◌≤◌, refl, arith}
use Rattle.std.proofs.lemmas.Nat.{mul-add-lt, pow-add, pow_pos, shr_below, mod_below}
use Rattle.b67_word.specs.Word.{set_field}

-- j bits and then k bits are j + k bits
pub side_by_side : (a b j k w : ℕ) → a < 2 ^ j → b < 2 ^ k → j + k ≡ w → a * 2 ^ k + b < 2 ^ w
side_by_side a b j k w p q e = rw (← e) (omega (arith, mul-add-lt a (2 ^ k) b (2 ^ j) p q, pow-add 2 j k))

-- the bits above bit s, and then n bits
pub above_fits : (s n value bits : ℕ) → s ≤ 47 → value < 2 ^ n → bits < 2 ^ 48 → bits / 2 ^ (s + 1) * 2 ^ n + value < 2 ^ (47 - s + n)
above_fits s n value bits p q r =
    let e : (47 - s) + (s + 1) ≡ 48 = omega arith in
    let b : bits < 2 ^ ((47 - s) + (s + 1)) = rw e r in
    side_by_side (bits / 2 ^ (s + 1)) value (47 - s) n (47 - s + n) (shr_below bits (47 - s) (s + 1) b) q refl

pub set_field_fits : (s n value bits : ℕ) → s ≤ 47 → n ≤ s + 1 → value < 2 ^ n → bits < 2 ^ 48 → set_field s n value bits < 2 ^ 48
unfolding set_field
set_field_fits s n value bits p q r t =
    side_by_side (bits / 2 ^ (s + 1) * 2 ^ n + value) (bits % 2 ^ (s + 1 - n)) (47 - s + n) (s + 1 - n) 48
    (above_fits s n value bits p r t) (mod_below bits (2 ^ (s + 1 - n)) (pow_pos (s + 1 - n))) (omega arith)
