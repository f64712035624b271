use Rattle.std.proofs.Common.{◌≡◌, arith}
use Rattle.std.specs.Prelude.{neg_ℤ}
use Rattle.std.proofs.lemmas.Int.{ints, to_z-of_z}
use Rattle.std.proofs.lemmas.Result.{on_ok_weaker}
use Rattle.b67_emitter.proofs.Moves.{far_part}
use Rattle.b67_emitter.proofs.moving.append_far.Goals as goal

pub returns-clause-code : goal.returns-clause-code
returns-clause-code c =
    let same : c.fitting.result ≡ neg_ℤ c.args.low = grind (arith, ints, to_z-of_z, c.fitting.ensures, c.ranges.low.sfits, c.requires.whole) in
    on_ok_weaker c.append_plain.result
    (far_part c.args.low c.fitting.result c.args.out.now c.append_all.new.out c.append_number.new.out c.append_plain.new.out same
    c.in_ok-append_all.ensures.level c.in_ok-append_number.ensures.level c.in_ok-append_all.ensures.code c.in_ok-append_number.ensures.code)
    c.append_plain.ensures.code
