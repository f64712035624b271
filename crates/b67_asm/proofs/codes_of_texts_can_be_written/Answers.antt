use Rattle.b67_asm.proofs.Writable.{is_writable}
use Rattle.b67_asm.proofs.codes_of_texts_can_be_written.Goals as goal

pub returns : goal.returns
returns c = is_writable
