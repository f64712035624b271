use Rattle.b67_console.proofs.Alike.{of_one_history}
use Rattle.b67_console.proofs.moments_are_of_one_history.Goals as goal

pub returns : goal.returns
returns c = of_one_history
