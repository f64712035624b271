use Rattle.b67_word.proofs.WordLaws.{operands}
use Rattle.b67_word.proofs.operands_are_read_back.Goals as goal

pub returns : goal.returns
returns c = operands
