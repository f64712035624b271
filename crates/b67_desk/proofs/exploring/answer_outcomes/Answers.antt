use Rattle.std.proofs.Common.{sym, subst, arith}
use Rattle.algol_tree.specs.Image.{program as plain}
use Rattle.b67_desk.specs.declared.status.Status.{Status}
use Rattle.b67_desk.specs.Exploring.{Explores, explored}
use Rattle.b67_desk.proofs.exploring.answer_outcomes.Goals as goal

pub outcomes-requires-clause-faithful : goal.outcomes-requires-clause-faithful
outcomes-requires-clause-faithful c = (plain c.args.checked.now.program, c.in_ok-code.ensures.faithful)

pub outcomes-requires-clause-few : goal.outcomes-requires-clause-few
outcomes-requires-clause-few c = omega (arith, c.requires.1)

pub returns : goal.returns
returns c =
    let tree = plain c.args.checked.now.program in
    let e = c.in_ok-explored.explored in
    subst (λ (s : Status). Explores c.args.most tree e.text.items s) (sym c.cut_status.ensures)
    (explored e.text.items e.cut (c.in_ok-explored.ensures tree c.in_ok-code.ensures.faithful))
