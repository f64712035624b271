use Rattle.std.proofs.Common.{◌≡◌, map, take}
use Rattle.b67_race.specs.Noted as noted
use Rattle.b67_races.specs.Told.{race_of}
use Rattle.b67_races.proofs.telling.all_own.Given as goal

abbrev pub invariant-owning : goal.invariant-owning
invariant-owning l = map race_of l.all.items ≡ map noted.race_of (take l.race-index l.found)
