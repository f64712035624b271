use Rattle.b67_parts.proofs.inputs_have_one_division.Goals as goal
use Rattle.b67_parts.proofs.OneDivision.{one_division}

pub returns : goal.returns
returns c = one_division
