use Rattle.std.proofs.Common.{arith, ◌∙◌, sym}
use Rattle.b67_store.specs.Store.{words_of}
use Rattle.b67_midway.proofs.Showing.{word_more}
use Rattle.b67_midway.proofs.telling.words_of.Goals as goal

pub words-preserved : goal.words-preserved
words-preserved g c =
    word_more (words_of c.args.machine.now.image.stacks c.args.regs.now.stack) c.words.at _ c.in-Some.word c.words.words.items c.push.new.self.items
    (omega (arith, c.words-test.true, c.in_ok-size.ensures.room)) (sym c.word_at.ensures ∙ c.in-Some.is) c.words.invariant c.in_ok-push-in-Some.ensures.items
