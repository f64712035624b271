use Rattle.std.proofs.Common.{ap, ◌∙◌, map}
use Rattle.std.proofs.lemmas.List.{take_all}
use Rattle.algol_world.specs.SeenWorld.{part}
use Rattle.algol_world.proofs.Copies.{one_more, stacked}
use Rattle.algol_world.proofs.saving.copy_parts.Goals as goal

pub loop-part-preserved : goal.loop-part-preserved
loop-part-preserved c = λ sc.
    ap (map (part sc)) c.in_ok-push.ensures.items
    ∙ one_more (part sc) c.loop-part.copies.items c.oldest_first-from.result.now c.loop-part.part-index c.in_ok-copy_part.field-0 c.part-item.result
    c.loop-part-test.true (c.loop-part.invariant sc) (c.in_ok-copy_part.ensures sc ∙ ap (part sc) c.part-item.is)

pub returns : goal.returns
returns c = λ sc.
    let from = c.oldest_first-from.result.now in
    ap (map (part sc)) c.of.ensures
    ∙ stacked (part sc) c.loop-part.copies.items from
    (c.loop-part.invariant sc ∙ ap (map (part sc)) (take_all c.loop-part.part-index from c.loop-part-test.false))
    ∙ ap (map (part sc)) c.oldest_first-from.ensures
