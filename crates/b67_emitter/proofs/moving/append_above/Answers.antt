use Rattle.std.proofs.Common.{◌≡◌, arith}
use Rattle.std.proofs.lemmas.Int.{ints, to_z-of_z}
use Rattle.std.proofs.lemmas.Result.{on_ok_weaker}
use Rattle.b67_emitter.proofs.Moves.{above_part}
use Rattle.b67_emitter.proofs.moving.append_above.Goals as goal

pub returns-clause-code : goal.returns-clause-code
returns-clause-code c =
    let same : c.fitting.result ≡ c.args.low = grind (arith, ints, to_z-of_z, c.fitting.ensures, c.ranges.low.sfits) in
    on_ok_weaker c.append_plain.result
    (above_part c.args.low c.fitting.result c.args.out.now c.append_all.new.out c.append_times.new.out c.append_plain.new.out same
    c.in_ok-append_all.ensures.level c.in_ok-append_times.ensures.level c.in_ok-append_all.ensures.code c.in_ok-append_times.ensures.code)
    c.append_plain.ensures.code
