use Rattle.std.proofs.Common.{length, ap, ◌∙◌}
use Rattle.b67_emit_expr.proofs.Elements.{some_in, none_in}
use Rattle.b67_emit_expr.proofs.Routines.{alone_placed, subscripts_placed}
use Rattle.b67_emit_expr.proofs.placing.element_of.Goals as goal

pub returns-then-is_empty : goal.returns-then-is_empty
returns-then-is_empty c =
    let v = c.args.v.now in
    alone_placed v (none_in c.is_empty.result c.items.result.now.len v.subs c.is_empty.ensures (c.items.result.now.ok.0 ∙ ap length c.items.ensures) c.if-is_empty.true)

pub returns-else-is_empty : goal.returns-else-is_empty
returns-else-is_empty c =
    let v = c.args.v.now in
    subscripts_placed v (some_in c.is_empty.result c.items.result.now.len v.subs c.is_empty.ensures (c.items.result.now.ok.0 ∙ ap length c.items.ensures) c.if-is_empty.false)
