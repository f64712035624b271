-- The races that the code tells.
use Rattle.b67_race.specs.Races as races
use Rattle.b67_races.specs.declared.telling.Race.{Race}

abbrev pub race_of : Race → races.Race
race_of r = record { first = r.first; second = r.second; cell = record { instance = r.cell.instance; name = r.cell.name; at = r.cell.at } }
