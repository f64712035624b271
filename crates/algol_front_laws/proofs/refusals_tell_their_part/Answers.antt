use Rattle.algol_front_laws.proofs.Phases.{parts_told, answers_told}
use Rattle.algol_front_laws.proofs.refusals_tell_their_part.Goals as goal

pub returns : goal.returns
returns c = record { first = parts_told; answered = answers_told }
