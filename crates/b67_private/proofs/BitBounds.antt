-- What is made of 48 bits has 48 bits.
use Rattle.std.proofs.Common.{ℕ, ◌^◌, ◌<◌}
use Rattle.std.specs.Prelude.{bit_xor}
use Rattle.std.proofs.lemmas.Nat.{xor_lt}
use Rattle.b67_table.proofs.Wordly.{or_fits}

pub unlike_fits : (a b : ℕ) → a < 2 ^ 48 → b < 2 ^ 48 → bit_xor a b < 2 ^ 48
unlike_fits a b h k = xor_lt 48 a b h k

pub ruleset bits_fit = (or_fits, unlike_fits)
