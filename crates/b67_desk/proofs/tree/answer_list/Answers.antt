use Rattle.algol_tree.specs.Image.{program as plain}
use Rattle.b67_desk.proofs.Answering.{listed_is}
use Rattle.b67_desk.proofs.tree.answer_list.Goals as goal

pub returns : goal.returns
returns c =
    listed_is (plain c.args.checked.now.program) c.in_ok-code.code c.in_ok-lines.lines c.in_ok-listing_lines.field-0.items c.in_ok-code.ensures.faithful c.in_ok-lines.ensures
    c.in_ok-listing_lines.ensures
