use Rattle.b67_explorer.proofs.Performed.{may_then, may_else}
use Rattle.b67_explorer.proofs.explorer.ExplorerWalker.may_act.Goals as goal

pub returns-then-is_none : goal.returns-then-is_none
returns-then-is_none g c =
    may_then c.args.self.now.machine.image c.args.process c.image_end.result c.is_none.result c.is_able.result c.is_none.ensures c.if-is_none.true c.image_end.ensures
    c.is_able.ensures

pub returns-else-is_none : goal.returns-else-is_none
returns-else-is_none g c = may_else c.args.self.now.machine.image c.args.process c.image_end.result c.is_none.result c.is_none.ensures c.if-is_none.false c.image_end.ensures
