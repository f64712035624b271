use Rattle.std.proofs.Common.{◌≢◌, pos, refl, arith}
use Rattle.std.proofs.lemmas.Int.{ints, to_z-of_z}
use Rattle.std.proofs.lemmas.Result.{on_ok_weaker}
use Rattle.b67_emitter.proofs.Moves.{times_part}
use Rattle.b67_emitter.proofs.moving.append_times.Goals as goal

pub returns-in_ok-append_number-clause-code : goal.returns-in_ok-append_number-clause-code
returns-in_ok-append_number-clause-code c =
    let other : c.args.factor ≢ pos 1 = grind (arith, ints, to_z-of_z, c.number.ensures, c.if-number-eq1.false) in
    on_ok_weaker c.append_plain.result
    (times_part c.args.factor c.args.factor c.args.out.now c.append_number.new.out c.append_plain.new.out refl other c.in_ok-append_number.ensures.level
    c.in_ok-append_number.ensures.code)
    c.append_plain.ensures.code
