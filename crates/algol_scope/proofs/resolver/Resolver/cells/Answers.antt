use Rattle.std.proofs.Common.{refl, ◌∙◌}
use Rattle.b67_list.proofs.Answered.{on_ok}
use Rattle.algol_scope.proofs.Faults.{makes_cells}
use Rattle.algol_scope.proofs.resolver.Resolver.cells.Goals as goal

pub returns : goal.returns
returns c =
    on_ok c.cells_at.result
    (λ h sort d held stands told.
    makes_cells c.args.self.now c.names.new.self _ sort d c.args.ns.now c.as_slice.result.now held (c.as_slice.ensures.value ∙ c.items.ensures)
    (c.in_ok-names.ensures sort d stands) (h held told) refl refl)
    c.cells_at.ensures
