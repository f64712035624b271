use Rattle.std.proofs.Common.{map, sym, ◌∙◌}
use Rattle.algol_cells.specs.SeenCell as seen
use Rattle.algol_cells.specs.SeenCell.{reference}
use Rattle.algol_instances.specs.SeenInstance.{instance}
use Rattle.algol_instances.proofs.Counting.{left_counts, set_adjusts}
use Rattle.algol_instances.proofs.instances.Instances.set_cell.Goals as goal

pub invariant_of-self : goal.invariant_of-self
invariant_of-self c =
    left_counts (map instance c.self.inside.list) (map instance c.set_cell.new.instances) (reference c.args.r) (seen.cell c.args.cell)
    c.self.inside.live_elements (sym c.is_left.ensures ∙ c.if-is_left.true) c.set_cell.ensures.after c.self.invariant

pub adjusted-self-inside-requires : goal.adjusted-self-inside-requires
adjusted-self-inside-requires c =
    set_adjusts (map instance c.self.inside.list) (map instance c.set_cell-displaced.new.instances) (reference c.args.r) (seen.cell c.args.cell)
    (seen.cell c.set_cell-displaced.result) c.self.inside.live_elements c.size_of_cell-gone.result c.size_of_cell-come.result
    (sym c.is_left.ensures ∙ c.if-is_left.false) c.set_cell-displaced.ensures.after c.set_cell-displaced.ensures.displaced c.self.invariant
    c.size_of_cell-gone.ensures c.size_of_cell-come.ensures
