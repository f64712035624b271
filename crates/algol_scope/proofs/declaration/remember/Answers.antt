use Rattle.std.proofs.Common.{Some}
use Rattle.algol_sorts.proofs.Keys.{updates_key}
use Rattle.algol_scope.proofs.declaration.remember.Goals as goal

pub returns : goal.returns
returns c =
    λ q. updates_key c.args.name c.of.result c.args.bodies.now c.insert.new.self (Some c.args.ahead) c.of.ensures c.in_ok-insert.ensures.updates q
