use Rattle.b67_cores.proofs.Faulting.{faults_are_performed}
use Rattle.b67_cores.proofs.faults_are_performed.Goals as goal

pub returns : goal.returns
returns c = faults_are_performed
