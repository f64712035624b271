use Rattle.b67_standing.proofs.Routines.{routines_give_values, routines_give_places}
use Rattle.b67_standing.proofs.routines_start.Goals as goal

pub returns-clause-values : goal.returns-clause-values
returns-clause-values c = routines_give_values

pub returns-clause-places : goal.returns-clause-places
returns-clause-places c = routines_give_places
