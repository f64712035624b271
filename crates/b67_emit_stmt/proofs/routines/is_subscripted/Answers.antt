use Rattle.std.proofs.Common.{length, ap, ◌∙◌}
use Rattle.b67_emit_stmt.proofs.Gathered.{subscripted}
use Rattle.b67_emit_stmt.proofs.routines.is_subscripted.Goals as goal

pub returns : goal.returns
returns c = subscripted c.args.v.now c.is_empty.result c.items.result.now.len c.is_empty.ensures (c.items.result.now.ok.0 ∙ ap length c.items.ensures)
