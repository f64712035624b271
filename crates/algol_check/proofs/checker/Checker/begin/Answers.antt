use Rattle.std.proofs.Common.{◌∙◌, ap, sym}
use Rattle.algol_tree.specs.Blocks.{spot_of}
use Rattle.algol_tree.specs.Image.{body}
use Rattle.algol_tree.proofs.Images.{body_is}
use Rattle.algol_check.specs.Walking.{begin_as}
use Rattle.algol_check.proofs.Bodied.{enters_block, enters_none}
use Rattle.algol_check.proofs.checker.Checker.begin.Goals as goal

pub returns-in_ok-open-clause-enters : goal.returns-in_ok-open-clause-enters
returns-in_ok-open-clause-enters c =
    enters_block c.args.self.now.place c.open.new.self (body c.args.b.now) (begin_as c.args.begin) c.args.b.now.spot (sym c.if-opened.true ∙ c.begins_block-opened.ensures)
    (sym (ap spot_of (body_is c.args.b.now))) c.in_ok-open.ensures.block c.in_ok-open.ensures.around c.in_ok-open.ensures.placed

pub returns-else-opened-clause-enters : goal.returns-else-opened-clause-enters
returns-else-opened-clause-enters c =
    enters_none c.args.self.now.place (body c.args.b.now) (begin_as c.args.begin) (sym c.if-opened.false ∙ c.begins_block-opened.ensures)
