use Rattle.std.proofs.Common.{◌^◌, ◌<◌}
use Rattle.std.proofs.lemmas.List.Elements.{All-push}
use Rattle.b67_segment.proofs.Filling.{words_more}
use Rattle.b67_segment.proofs.builder.words_of.Goals as goal

pub loop-index-preserved : goal.loop-index-preserved
loop-index-preserved c =
    let words = c.loop-index.words.items in
    rw c.in_ok-push.ensures.items (record {
      code = words_more words c.word.result c.loop-index.index c.args.code.now c.loop-index.invariant.code c.word.ensures.code;
      small = All-push (λ word. word < 2 ^ 48) words c.word.result c.loop-index.invariant.small c.word.ensures.small;
    })
