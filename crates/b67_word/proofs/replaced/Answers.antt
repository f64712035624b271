use Rattle.std.proofs.Common.{◌+◌, ◌-◌, ◌≤◌, arith}
use Rattle.std.proofs.Math.Pow.{pow_mono}
use Rattle.b67_word.specs.Word.{set_field}
use Rattle.b67_word.proofs.Fields.{above_fits, set_field_fits}
use Rattle.b67_word.proofs.replaced.Goals as goal

pub joined-high-requires-clause-fits : goal.joined-high-requires-clause-fits
joined-high-requires-clause-fits c =
    let h = above_fits c.args.s c.args.n c.args.value c.args.bits c.requires.place c.requires.value c.requires.bits in
    let w : 47 - c.args.s + c.args.n ≤ 48 = omega arith in
    omega (arith, h, pow_mono {i = 47 - c.args.s + c.args.n} {j = 48} w)

pub joined-requires-clause-fits : goal.joined-requires-clause-fits
unfolding set_field
joined-requires-clause-fits c =
    let h = set_field_fits c.args.s c.args.n c.args.value c.args.bits c.requires.place c.requires.width c.requires.value c.requires.bits in
    rw (c.joined-high.ensures, c.low_bits.ensures.value) (omega (arith, h))

pub returns-clause-bound : goal.returns-clause-bound
unfolding set_field
returns-clause-bound c =
    rw (c.joined.ensures, c.joined-high.ensures, c.low_bits.ensures.value)
    (set_field_fits c.args.s c.args.n c.args.value c.args.bits c.requires.place c.requires.width c.requires.value c.requires.bits)

pub returns-clause-value : goal.returns-clause-value
unfolding set_field
returns-clause-value c = rw (c.joined.ensures, c.joined-high.ensures, c.low_bits.ensures.value)
