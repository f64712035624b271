use Rattle.b67_list.proofs.Answered.{on_ok}
use Rattle.algol_known.proofs.Declaring.{introduces}
use Rattle.algol_known.proofs.around.Around.declare_parameter.Goals as goal

pub returns-clause-known : goal.returns-clause-known
returns-clause-known c =
    on_ok c.declare_parameter.result
    (λ p. introduces c.args.self.now c.declare_parameter.new.self c.args.name.now c.args.entry p c.declare_parameter.ensures.declared c.declare_parameter.ensures.block)
    c.declare_parameter.ensures.puts
