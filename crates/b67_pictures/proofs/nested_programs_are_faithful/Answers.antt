use Rattle.b67_pictures.proofs.Concluding.{nested_programs_are_faithful as nested_programs_are_faithful_lem}
use Rattle.b67_pictures.proofs.nested_programs_are_faithful.Goals as goal

pub returns : goal.returns
returns c = nested_programs_are_faithful_lem
