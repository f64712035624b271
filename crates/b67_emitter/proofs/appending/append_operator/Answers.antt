use Rattle.b67_emitter.proofs.Appends.{emitted_as}
use Rattle.b67_emitter.proofs.appending.append_operator.Goals as goal

pub returns-clause-code : goal.returns-clause-code
returns-clause-code c = emitted_as c.args.out.now c.args.op.now c.append.new.self c.in_ok-append.ensures.ok
