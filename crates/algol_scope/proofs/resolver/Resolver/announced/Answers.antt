use Rattle.std.proofs.Common.{sym, ◌∙◌, ap}
use Rattle.algol_known.specs.Naming.{sort_named}
use Rattle.algol_scope.proofs.Walking.{if_ok}
use Rattle.algol_scope.proofs.Looking.{ahead_found, ahead_missing}
use Rattle.algol_scope.proofs.resolver.Resolver.announced.Goals as goal

pub returns-in-Some-clause-ahead : goal.returns-in-Some-clause-ahead
returns-in-Some-clause-ahead c =
    λ later b.
    ahead_found c.args.self.now.around.procedures.items c.args.bodies.now c.args.h.now later c.in-Some.ahead b
    (ap (sort_named c.args.bodies.now) (sym c.bytes.ensures) ∙ sym c.found_body.ensures ∙ c.in-Some.is)

pub returns-in-None-clause-ahead : goal.returns-in-None-clause-ahead
returns-in-None-clause-ahead c =
    if_ok c.heading_ahead.result
    (λ x h later b.
    ahead_missing c.args.self.now.around.procedures.items c.heading_ahead.new.self.around.procedures.items c.args.bodies.now c.args.h.now later x b
    (ap (sort_named c.args.bodies.now) (sym c.bytes.ensures) ∙ sym c.found_body.ensures ∙ c.in-None.is) h.0 h.1)
    c.heading_ahead.ensures.ahead
