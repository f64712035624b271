use Rattle.std.proofs.Common.{◌≡◌, pos, arith, rules}
use Rattle.b67_word.specs.Word.{operand}
use Rattle.b67_flat.proofs.Opening.{zero_step}
use Rattle.b67_flat.proofs.memory.zero.Goals as goal

pub zeroing-preserved : goal.zeroing-preserved
zeroing-preserved c =
    let z : c.operand-zero.result ≡ operand (pos 0) = search rules in (
      omega (arith, c.zeroing.invariant.0),
      omega (arith, c.zeroing-test.true),
      rw z (zero_step c.zeroing.words.items c.args.words.now.items c.args.place c.zeroing.at (operand (pos 0)) c.zeroing.invariant.0 (omega (arith, c.zeroing-test.true, c.requires, c.args.words.now.ok)) c.zeroing.invariant.2),
    )
