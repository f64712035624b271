use Rattle.b67_operators.proofs.Lettering.{performs_ok, performs_err}
use Rattle.b67_operators.proofs.letters.lettered.Goals as goal

pub returns-in-Ok-clause-performs : goal.returns-in-Ok-clause-performs
returns-in-Ok-clause-performs c = λ program old new p. performs_ok program old new c.args.answer _ c.args.letter c.in-Ok.is p

pub returns-in-Err-clause-performs : goal.returns-in-Err-clause-performs
returns-in-Err-clause-performs c = λ program old new p. performs_err program old new c.args.answer c.in-Err.stop c.in-Err.is p
