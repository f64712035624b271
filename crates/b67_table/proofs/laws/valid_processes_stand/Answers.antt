use Rattle.b67_table.proofs.FirstValid.{valid_stands}
use Rattle.b67_table.proofs.laws.valid_processes_stand.Goals as goal

pub returns : goal.returns
returns c = valid_stands
