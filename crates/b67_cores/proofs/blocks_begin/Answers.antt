use Rattle.b67_cores.proofs.Beginnings.{blocks_begin}
use Rattle.b67_cores.proofs.blocks_begin.Goals as goal

pub returns : goal.returns
returns c = blocks_begin
