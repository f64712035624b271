use Rattle.b67_list.proofs.Answered.{on_ok}
use Rattle.algol_scope.proofs.Faults.{forward_faults}
use Rattle.algol_scope.proofs.resolver.Resolver.check_forward.Goals as goal

pub returns : goal.returns
returns c =
    on_ok c.twice_in_heading.result
    (λ h later has.
    forward_faults c.args.self.now _ c.args.h.now later c.args.has_body has c.note_name.ensures.around c.note_name.ensures.blocks
    c.note_name.ensures.cells c.note_name.ensures.uses c.note_if.new.faults.first
    c.unknown_in_heading.new.faults.first c.note_name.new.self.findings.faults.first c.note_if.ensures c.in_ok-unknown_in_heading.ensures
    c.note_name.ensures.faults h)
    c.twice_in_heading.ensures
