use Rattle.algol_paths.proofs.Jumps.{jumps_keep_to_their_text as jumps_keep_to_their_text_lem}
use Rattle.algol_paths.proofs.jumps_keep_to_their_text.Goals as goal

pub returns : goal.returns
returns c = jumps_keep_to_their_text_lem
