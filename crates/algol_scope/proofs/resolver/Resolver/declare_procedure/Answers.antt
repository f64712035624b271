use Rattle.std.proofs.Common.{refl}
use Rattle.algol_tree.specs.Image.{stmt}
use Rattle.algol_scope.proofs.Faults.{procedure_made}
use Rattle.algol_scope.proofs.resolver.Resolver.declare_procedure.Goals as goal

pub returns : goal.returns
returns c =
    λ later of.
    procedure_made c.args.self.now c.check_heading.new.self c.declare_heading.new.self _ c.args.h.now (stmt c.args.s.now) later c.args.ahead c.block.result of
    (c.in_ok-check_heading.ensures later) c.in_ok-declare_heading.ensures c.block.ensures refl refl refl refl c.in_ok-push.ensures.items
