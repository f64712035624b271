use Rattle.b67_reach.specs.Images.{own_of_image}
use Rattle.b67_operators.proofs.Subscripts.{load_element, load_element_stops}
use Rattle.b67_operators.proofs.indexing.index_and_load.Goals as goal

pub returns-in_err-word : goal.returns-in_err-word
returns-in_err-word g c =
    load_element_stops (own_of_image (g.C.Core.stacks c.args.core.now) (g.C.Core.rows c.args.core.now) c.args.regs.now) c.args.next c.from_residual.result
    c.in_err-word.field-0.0 c.in_err-word.ensures.value c.from_residual.ensures.1

pub returns : goal.returns
returns g c =
    load_element (own_of_image (g.C.Core.stacks c.args.core.now) (g.C.Core.rows c.args.core.now) c.args.regs.now) c.args.next c.operand_replaces.result
    (own_of_image (g.C.Core.stacks c.operand_replaces.new.core) (g.C.Core.rows c.operand_replaces.new.core) c.operand_replaces.new.regs) c.in_ok-word.word c.in_ok-word.ensures.value
    c.operand_replaces.ensures
