use Rattle.b67_action.proofs.Coming.{comes_ok, comes_err}
use Rattle.b67_action.proofs.acting.plainly.Goals as goal

pub returns-in-Ok : goal.returns-in-Ok
returns-in-Ok c = record { comes = λ p effect old new k. comes_ok p effect old new c.args.answer _ tt c.in-Ok.is k }

pub returns-in-Err : goal.returns-in-Err
returns-in-Err c = record { comes = λ p effect old new k. comes_err p effect old new c.args.answer c.in-Err.stop c.in-Err.is k }
