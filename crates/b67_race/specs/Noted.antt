-- A walk over the entries of a schedule, as the code keeps it.
use Rattle.std.specs.Prelude.{◌≡◌, List, length, map, Option, Some, None}
use Rattle.b67_race.specs.Entries.{Access, Done}
use Rattle.b67_race.specs.Timed.{event_time, signal_of, time_in}
use Rattle.b67_race.specs.Cells.{cell_at_key, standing_in}
use Rattle.b67_race.specs.Races as races
use Rattle.b67_race.specs.Races.{RaceWalks}
use Rattle.b67_race.specs.declared.walk.Access as code
use Rattle.b67_race.specs.declared.walk.Race.{Race}
use Rattle.b67_race.specs.declared.walk.Entry.{Entry}
use Rattle.b67_race.specs.declared.walk.Walk.{Walk}

abbrev pub access_of : Option code.Access → Option Access
access_of None = None
access_of (Some a) = Some (record { cell = cell_at_key a.cell; storing = a.storing })

abbrev pub done_of : Entry → Done
done_of d = record { process = d.process; access = access_of d.access; signal = signal_of d.event; released = d.released.items; started = d.started }

abbrev pub race_of : Race → races.Race
race_of r = record { first = r.first; second = r.second; cell = cell_at_key r.cell }

-- the walk stands after these entries
pub record StandsAfter (ds : List Done) (w : Walk) : Type 0 where
  pub entries : w.entries ≡ length ds
  pub walks : RaceWalks ds (time_in w.timing.processes.items) (event_time w.timing.set) (event_time w.timing.freed) (standing_in w.cells) (map race_of w.found.items)
