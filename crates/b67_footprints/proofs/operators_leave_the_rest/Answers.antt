use Rattle.b67_footprints.proofs.Rest.{operators_leave_the_rest}
use Rattle.b67_footprints.proofs.operators_leave_the_rest.Goals as goal

pub returns : goal.returns
returns c = operators_leave_the_rest
