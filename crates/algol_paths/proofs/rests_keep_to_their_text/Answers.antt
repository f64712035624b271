use Rattle.algol_paths.proofs.Rests.{rests_keep_to_their_text as rests_keep_to_their_text_lem}
use Rattle.algol_paths.proofs.rests_keep_to_their_text.Goals as goal

pub returns : goal.returns
returns c = rests_keep_to_their_text_lem
