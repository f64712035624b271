use Rattle.b67_asm.proofs.PhrasesFound.{formats_are_listed}
use Rattle.b67_asm.proofs.formats_are_listed.Goals as goal

pub returns : goal.returns
returns c = formats_are_listed
