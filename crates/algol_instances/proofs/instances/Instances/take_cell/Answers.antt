use Rattle.std.proofs.Common.{map, ap, ◌∙◌}
use Rattle.algol_cells.specs.SeenCell.{reference}
use Rattle.algol_instances.specs.SeenInstance.{instance, holding}
use Rattle.algol_instances.specs.Counting.{displaced_at}
use Rattle.algol_instances.proofs.Counting.{taken_zero}
use Rattle.algol_instances.proofs.instances.Instances.take_cell.Goals as goal

pub returns-clause-value : goal.returns-clause-value
returns-clause-value c =
    let w = holding (map instance c.args.self.now) in
    c.set_cell.ensures.displaced ∙ ap (displaced_at w (reference c.args.r)) c.zero.ensures ∙ taken_zero w (reference c.args.r)
