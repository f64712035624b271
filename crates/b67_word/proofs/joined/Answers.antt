use Rattle.std.proofs.Common.{◌*◌, ◌^◌, ◌<◌, arith}
use Rattle.std.proofs.lemmas.Nat.{or_shifted}
use Rattle.std.proofs.Math.Nat.{mod-eq_of_lt}
use Rattle.b67_word.proofs.joined.Goals as goal

pub returns : goal.returns
returns c =
    let small : c.args.high * 2 ^ c.args.count < 2 ^ 64 = omega (arith, c.requires.fits) in
    rw (mod-eq_of_lt small) (or_shifted c.args.high c.args.count c.args.low c.requires.low)
