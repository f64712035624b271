use Rattle.algol_laws.proofs.Reading.{each_reads}
use Rattle.algol_laws.proofs.each_action_reads.Goals as goal

pub returns : goal.returns
returns c = each_reads
