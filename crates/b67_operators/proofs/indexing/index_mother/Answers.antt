use Rattle.b67_reach.specs.Images.{own_of_image}
use Rattle.b67_operators.proofs.Subscripts.{copy_row, copy_row_stops}
use Rattle.b67_operators.proofs.indexing.index_mother.Goals as goal

pub returns-in_err-word : goal.returns-in_err-word
returns-in_err-word g c =
    copy_row_stops (own_of_image (g.C.Core.stacks c.args.core.now) (g.C.Core.rows c.args.core.now) c.args.regs.now) c.args.next c.from_residual.result
    c.in_err-word.field-0.0 c.in_err-word.ensures.value c.from_residual.ensures.1

pub returns : goal.returns
returns g c =
    copy_row (own_of_image (g.C.Core.stacks c.args.core.now) (g.C.Core.rows c.args.core.now) c.args.regs.now) c.args.next c.copy_replaces.result
    (own_of_image (g.C.Core.stacks c.copy_replaces.new.core) (g.C.Core.rows c.copy_replaces.new.core) c.copy_replaces.new.regs) c.in_ok-word.word c.in_ok-word.ensures.value
    c.copy_replaces.ensures
