use Rattle.std.proofs.Common.{refl, ◌∙◌}
use Rattle.b67_list.proofs.Answered.{on_ok}
use Rattle.algol_scope.proofs.Faults.{makes_names}
use Rattle.algol_scope.proofs.resolver.Resolver.names.Goals as goal

pub returns : goal.returns
returns c =
    on_ok c.known_all.result
    (λ k sort d stands.
    makes_names c.args.self.now c.note_here.new.self _ _ sort d c.args.ns.now c.as_slice-ns.result.now (c.as_slice-ns.ensures.value ∙ c.items.ensures)
    c.in_ok-note_here.ensures (c.in_ok-declare_all.ensures sort d stands) refl refl k refl refl)
    c.known_all.ensures
