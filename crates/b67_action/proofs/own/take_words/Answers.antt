use Rattle.std.proofs.Common.{◌≡◌, sym, ap, ◌∙◌, ◌+◌, take, drop, reverse, slice_get, List, Some, ◌∷◌, arith}
use Rattle.b67_word.specs.Word.{Word}
use Rattle.b67_store.specs.Store.{words_of}
use Rattle.b67_action.proofs.OwnWords.{next_taken}
use Rattle.b67_action.proofs.own.take_words.Goals as goal

pub taking-preserved : goal.taking-preserved
taking-preserved g c =
    let ws = words_of (g.C.Core.stacks c.args.core.now) c.args.regs.now.stack in
    let there : slice_get ws c.taking.at ≡ Some c.unwrap.result = sym c.read.ensures ∙ c.unwrap.ensures in
    let more : c.push.new.self ≡ reverse (drop c.args.base (take (c.taking.at + 1) ws)) =
    c.push.ensures ∙ ap (λ (z : List Word). c.unwrap.result ∷ z) c.taking.invariant.words
    ∙ sym (next_taken ws c.args.base c.taking.at c.unwrap.result c.taking.invariant.low there) in
    record {
      low = omega (arith, c.taking.invariant.low);
      high = omega (arith, c.taking-test.true);
      words = more;
    }
