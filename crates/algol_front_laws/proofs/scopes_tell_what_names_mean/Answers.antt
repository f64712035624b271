use Rattle.algol_front_laws.proofs.Meanings.{names_are_told}
use Rattle.algol_front_laws.proofs.scopes_tell_what_names_mean.Goals as goal

pub returns : goal.returns
returns c = names_are_told
