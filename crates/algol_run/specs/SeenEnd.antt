-- The ends of the code.
use Rattle.std.specs.Prelude.{Option, Some, None}
use Rattle.algol_meaning.specs.Run as runs
use Rattle.algol_run.specs.declared.ending.End.{End}
use Rattle.algol_run.specs.declared.ending.End.TheVariants as ends

abbrev pub seen_end : Option End → Option runs.End
seen_end None = None
seen_end (Some ends.Finished) = Some runs.finished
seen_end (Some (ends.Fault kind process)) = Some (runs.fault kind process)
seen_end (Some ends.AllWaiting) = Some runs.all_waiting
