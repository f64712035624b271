use Rattle.b67_settling.proofs.Leaving.{others_leave_stacks}
use Rattle.b67_settling.proofs.others_leave_stacks.Goals as goal

pub returns : goal.returns
returns c = others_leave_stacks
