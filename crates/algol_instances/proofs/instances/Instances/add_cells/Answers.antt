use Rattle.std.proofs.Common.{map, ap, ◌∙◌, List}
use Rattle.algol_meaning.specs.World.{instance_at}
use Rattle.algol_meaning.specs.Arrays.{size_unless, size_of_cells}
use Rattle.algol_instances.specs.SeenArray.{capped}
use Rattle.algol_instances.specs.SeenInstance.{named_cells, instance, holding}
use Rattle.algol_instances.specs.declared.instance.NamedCell.{NamedCell}
use Rattle.algol_instances.proofs.Counting.{cells_added}
use Rattle.algol_instances.proofs.instances.Instances.add_cells.Goals as goal

pub invariant_of-self-2 : goal.invariant_of-self-2
invariant_of-self-2 c =
    let xs = map instance c.self.inside.list in
    c.saturating_add-self-inside.ensures
    ∙ cells_added xs (map instance c.add_cells.new.instances) c.args.number (named_cells c.args.cells.items) c.self.inside.live_elements
    c.live_among-more.result c.in_ok-add_cells.ensures.added c.self.invariant
    (c.live_among-more.ensures
    ∙ ap (λ (cells : List NamedCell). capped (size_unless ((instance_at (holding xs) c.args.number).left) (size_of_cells (named_cells cells))))
    c.as_slice.ensures.value)
