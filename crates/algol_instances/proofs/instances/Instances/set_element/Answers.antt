use Rattle.std.proofs.Common.{map, ap, sym, ◌∙◌}
use Rattle.algol_cells.specs.SeenValue.{value}
use Rattle.algol_cells.specs.SeenCell as seen
use Rattle.algol_cells.specs.SeenCell.{reference}
use Rattle.algol_instances.specs.SeenInstance.{instance}
use Rattle.algol_instances.specs.Counting.{cell_is_array}
use Rattle.algol_instances.proofs.Counting.{taken_cell, put_again, element_counts}
use Rattle.algol_instances.proofs.instances.Instances.set_element.Goals as goal

pub invariant_of-self-else-not-is_array : goal.invariant_of-self-else-not-is_array
invariant_of-self-else-not-is_array c =
    let xs = map instance c.self.inside.list in
    let r = reference c.args.r in
    let cell = seen.cell c.set_cell-cell.result in
    let ks = c.args.subscripts.now in
    let v = value c.args.v in
    let after = map instance c.set_cell.new.instances in
    element_counts xs after r ks v c.self.inside.live_elements
    (ap cell_is_array (sym (taken_cell xs r (seen.cell c.zero.result) cell c.zero.ensures c.set_cell-cell.ensures.displaced))
    ∙ sym c.is_array-is_array.ensures ∙ c.if-not-is_array.false)
    (put_again xs (map instance c.set_cell-cell.new.instances) after r (seen.cell c.zero.result) cell (seen.cell c.with_element.result) ks v
    c.zero.ensures c.set_cell-cell.ensures.after c.set_cell-cell.ensures.displaced c.with_element.ensures c.set_cell.ensures.after)
    c.self.invariant

pub returns-then-not-is_array : goal.returns-then-not-is_array
returns-then-not-is_array c =
    rw (← c.self.view_is)
    (put_again (map instance c.self.inside.list) (map instance c.set_cell-cell.new.instances) (map instance c.set_cell.new.instances)
    (reference c.args.r) (seen.cell c.zero.result) (seen.cell c.set_cell-cell.result) (seen.cell c.with_element.result) c.args.subscripts.now
    (value c.args.v) c.zero.ensures c.set_cell-cell.ensures.after c.set_cell-cell.ensures.displaced c.with_element.ensures
    c.set_cell.ensures.after)

pub returns-else-not-is_array : goal.returns-else-not-is_array
returns-else-not-is_array c =
    rw (← c.self.view_is)
    (put_again (map instance c.self.inside.list) (map instance c.set_cell-cell.new.instances) (map instance c.set_cell.new.instances)
    (reference c.args.r) (seen.cell c.zero.result) (seen.cell c.set_cell-cell.result) (seen.cell c.with_element.result) c.args.subscripts.now
    (value c.args.v) c.zero.ensures c.set_cell-cell.ensures.after c.set_cell-cell.ensures.displaced c.with_element.ensures
    c.set_cell.ensures.after)
