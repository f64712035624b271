-- The law is the lemma of that name.
use Rattle.algol_standing.proofs.Worlds.{choices_keep_worlds as choices_keep_worlds_lem}
use Rattle.algol_standing.proofs.choices_keep_worlds.Goals as goal

pub returns : goal.returns
returns c = choices_keep_worlds_lem
