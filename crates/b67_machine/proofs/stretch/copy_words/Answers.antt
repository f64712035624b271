use Rattle.std.proofs.Common.{◌≡◌, ◌<◌, sym, ◌∙◌, length, slice_get, Some, arith}
use Rattle.std.proofs.lemmas.List.{length-set}
use Rattle.b67_store.specs.Store.{words_of}
use Rattle.b67_machine.proofs.Copying.{one_copied}
use Rattle.b67_machine.proofs.stretch.copy_words.Goals as goal

pub copying-preserved : goal.copying-preserved
copying-preserved g c =
    let ws = words_of (g.C.Core.stacks c.args.core.now) c.args.regs.now.stack in
    let there : slice_get ws c.copying.at ≡ Some c.unwrap.result = sym c.read.ensures ∙ c.unwrap.ensures in
    let within : c.copying.at < length c.copying.room = omega (arith, c.copying-test.true, c.requires.linked.room, c.copying.invariant.size) in
    record {
      low = omega (arith, c.copying-test.true);
      size = length-set c.copying.room c.copying.at c.unwrap.result ∙ c.copying.invariant.size;
      words = one_copied c.copying.room ws c.copying.at c.unwrap.result within c.copying.invariant.words there;
    }
