use Rattle.std.proofs.Common.{ℕ, ◌+◌, ◌/◌, ◌^◌, ◌<◌, ◌≤◌, arith, rules}
use Rattle.std.proofs.lemmas.Nat.{shr_below}
use Rattle.std.proofs.Math.Pow.{pow_mono}
use Rattle.b67_ops.proofs.couple_in.Goals as goal

-- 14 bits without nine of them are below 256
below : (n bits : ℕ) → n < 2 ^ 14 → 9 ≤ bits → n / 2 ^ bits < 2 ^ 8
below n bits h least = shr_below n 8 bits (omega (arith, pow_mono {i = 14} {j = 8 + bits} (omega arith)))

pub overflow_cast-result : goal.overflow_cast-result
overflow_cast-result c = search (rules, below c.low_bits.result c.index_bits-bits.result (omega arith) c.index_bits-bits.ensures.least)
