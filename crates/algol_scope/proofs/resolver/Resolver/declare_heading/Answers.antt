use Rattle.std.proofs.Common.{refl}
use Rattle.b67_list.proofs.Answered.{on_ok}
use Rattle.algol_scope.proofs.Faults.{makes_heading}
use Rattle.algol_scope.proofs.resolver.Resolver.declare_heading.Goals as goal

pub returns : goal.returns
returns c =
    on_ok c.known.result
    (λ k h of named.
    makes_heading c.args.self.now _ _ h c.args.n.now c.args.ahead c.bytes.result.now c.entry-entry.result of named c.bytes.ensures c.entry-entry.ensures
    c.in_ok-declare.ensures.known c.declare.ensures.outer c.declare.ensures.procedures c.declare.ensures.typed c.declare.ensures.before refl refl k refl refl)
    c.known.ensures
