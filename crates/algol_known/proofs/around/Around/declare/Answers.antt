use Rattle.b67_list.proofs.Answered.{on_ok}
use Rattle.algol_known.proofs.Declaring.{declares}
use Rattle.algol_known.proofs.around.Around.declare.Goals as goal

pub returns-clause-known : goal.returns-clause-known
returns-clause-known c =
    on_ok c.declare.result
    (λ p. declares c.args.self.now c.declare.new.self c.args.name.now c.args.entry p c.declare.ensures.parameters c.declare.ensures.block) c.declare.ensures.puts
