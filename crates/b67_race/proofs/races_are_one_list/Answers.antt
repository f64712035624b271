use Rattle.std.proofs.Common.{refl}
use Rattle.b67_race.proofs.Found as found
use Rattle.b67_race.proofs.races_are_one_list.Goals as goal

pub returns-clause-computed : goal.returns-clause-computed
returns-clause-computed c = found.races_are_computed

pub returns-clause-one : goal.returns-clause-one
returns-clause-one c = found.races_are_one_list

pub returns-clause-shown : goal.returns-clause-shown
returns-clause-shown c = (refl, refl, refl, refl, refl, refl, refl, refl, refl)
