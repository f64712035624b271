-- Critical places of processes.
use Rattle.std.specs.Prelude.{Bool, false, Option, Some, None, not, ◌&&◌}
use Rattle.b67_word.specs.declared.Place.{Place}
use Rattle.b67_events.specs.Events.{same_place}
use Rattle.b67_table.specs.declared.ProcessState.{ProcessState}
use Rattle.b67_table.specs.Image.{is_ended}

abbrev pub is_place : Place → Option Place → Bool
is_place frame None = false
is_place frame (Some place) = same_place frame place

-- the process lives and has this frame as its critical place
abbrev pub has_critical : ProcessState → Option Place → Place → Bool
has_critical state critical frame = not (is_ended state) && is_place frame critical
