-- What a step of the code did, as a choice.
use Rattle.algol_meaning.specs.World.{World}
use Rattle.algol_meaning.specs.Choice.{Choice}
use Rattle.algol_world.specs.declared.acted.Acted.{Acted}

abbrev pub acted_choice : Acted → World → Choice
acted_choice a after = record { action = a.action; world = after; released = a.released; started = a.started }
