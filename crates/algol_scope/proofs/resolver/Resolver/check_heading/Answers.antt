use Rattle.algol_tree.specs.Image.{stmt}
use Rattle.algol_scope.proofs.Faults.{heading_faults}
use Rattle.algol_scope.proofs.resolver.Resolver.check_heading.Goals as goal

pub returns : goal.returns
returns c =
    λ later.
    heading_faults c.args.self.now _ c.args.h.now (stmt c.args.s.now) later c.note_long.ensures.around c.note_long.ensures.blocks c.note_long.ensures.cells
    c.note_long.ensures.uses c.unknown_in_heading.new.faults.first c.note_if.new.faults.first c.twice_in_heading.new.faults.first c.is_again.result
    c.in_ok-unknown_in_heading.ensures c.is_again.ensures c.note_if.ensures c.in_ok-twice_in_heading.ensures c.note_long.ensures.faults
