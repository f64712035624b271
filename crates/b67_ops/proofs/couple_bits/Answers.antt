use Rattle.std.proofs.Common.{◌≡◌, ℕ, ◌*◌, ◌%◌, ◌^◌, ◌<◌, bit_or, arith}
use Rattle.std.proofs.lemmas.Nat.{or_shifted}
use Rattle.std.proofs.Math.Nat.{mod-eq_of_lt}
use Rattle.b67_ops.specs.Spelling.{index_bits, couple_bits, IsSpelled}
use Rattle.b67_ops.specs.declared.Couple.{Couple}
use Rattle.b67_ops.proofs.Couples.{couple_bits_below, IsSpelled_from_seen}
use Rattle.b67_ops.proofs.couple_bits.Goals as goal

-- the level above the index, as the code puts them together
joined : (level : ℕ) (couple : Couple) → IsSpelled level couple
    → bit_or (couple.level * 2 ^ index_bits level % 65536) couple.index ≡ couple_bits level couple
joined level couple h =
    let below : couple.level * 2 ^ index_bits level < 65536 = omega (arith, couple_bits_below level couple h) in
    rw (mod-eq_of_lt below) (or_shifted couple.level (index_bits level) couple.index h.index_fits)

pub returns-clause-value : goal.returns-clause-value
returns-clause-value c =
    let spelled = IsSpelled_from_seen c.args.level c.args.couple c.requires.level c.requires.seen in
    rw (c.from.ensures, c.index_bits.ensures.value) (joined c.args.level c.args.couple spelled)

pub returns-clause-most : goal.returns-clause-most
returns-clause-most c =
    let spelled = IsSpelled_from_seen c.args.level c.args.couple c.requires.level c.requires.seen in
    rw (c.from.ensures, c.index_bits.ensures.value, joined c.args.level c.args.couple spelled)
    (couple_bits_below c.args.level c.args.couple spelled)
