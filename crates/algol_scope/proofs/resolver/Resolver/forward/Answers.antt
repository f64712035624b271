use Rattle.b67_list.proofs.Answered.{on_ok}
use Rattle.algol_scope.proofs.Faults.{forward_made}
use Rattle.algol_scope.proofs.resolver.Resolver.forward.Goals as goal

pub returns : goal.returns
returns c =
    on_ok c.declare_heading.result
    (λ h later ahead.
    forward_made c.args.self.now c.check_forward.new.self c.declare_heading.new.self c.args.h.now later c.args.ahead ahead
    (c.in_ok-check_forward.ensures later ahead.1) h)
    c.declare_heading.ensures
