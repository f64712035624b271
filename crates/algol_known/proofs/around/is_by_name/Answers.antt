use Rattle.algol_known.proofs.Plain.{none_given, some_given}
use Rattle.algol_known.proofs.around.is_by_name.Goals as goal

pub returns-in-None : goal.returns-in-None
returns-in-None c = λ f e. none_given c.args.mode f c.in-None.is e

pub returns-in-Some : goal.returns-in-Some
returns-in-Some c = λ f e. some_given c.args.mode c.in-Some.sort f c.is_by_name.result c.in-Some.is c.is_by_name.ensures e
