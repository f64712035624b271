use Rattle.std.proofs.Common.{◌≡◌, pos, to_z, of_z, w64, true, false, arith}
use Rattle.std.specs.Prelude.{int_lt, int_le, neg_ℤ}
use Rattle.std.proofs.lemmas.Int.{ints, to_z-of_z}
use Rattle.std.proofs.lemmas.Result.{on_ok_weaker}
use Rattle.b67_templates.specs.Fragments.{near}
use Rattle.b67_emitter.proofs.Bounds.{is_near}
use Rattle.b67_emitter.proofs.Moves.{moved_part}
use Rattle.b67_emitter.proofs.moving.append_moved.Goals as goal

pub returns-then-low-clause-code : goal.returns-then-low-clause-code
returns-then-low-clause-code c =
    let low = c.args.low in
    let same : to_z w64 (of_z w64 low) ≡ low = grind (arith, ints, to_z-of_z, c.ranges.low.sfits) in
    let not_above : int_lt (pos 0) low ≡ false = grind (arith, ints, same, c.if-low-gt0.false) in
    let not_zero : int_le (pos 0) low ≡ false = grind (arith, ints, same, c.if-low-gt0.false, c.if-low-eq0.false) in
    let within : int_lt (neg_ℤ (pos 1048576)) low ≡ true = grind (arith, ints, same, c.if-low.true) in
    on_ok_weaker c.append_near.result
    (moved_part low (to_z w64 (of_z w64 low)) near c.args.out.now c.append_near.new.out same (is_near low not_above not_zero within)) c.append_near.ensures.code
