use Rattle.std.specs.Prelude.{option_copied}
use Rattle.std.proofs.Common.{◌-◌, ◌≡◌, ◌≤◌, ◌++◌, length, replicate}
use Rattle.b67_schedule.specs.Schedules.{entries}
use Rattle.b67_machine.specs.declared.replay.TheConstants.{NOTES}
use Rattle.b67_machine.specs.Replaying.{Between, GoOnAs, first_of, rest_of}
use Rattle.b67_machine.proofs.Machine.replay_run.Given as goal

-- so many of the run's entries are performed, and their letters are those that are given
abbrev pub invariant-times : goal.invariant-times
invariant-times g l = record {
  few : l.times ≤ l.run.times;
  added : entries l.done.runs ≡ entries l.initial.done.runs ++ replicate l.times l.run.process;
  between : Between l.initial.self.code (entries l.done.runs) l.done.letters l.spent l.self;
  within : l.spent ≤ l.budget;
  room : l.initial.done.room ≤ l.done.room;
  notes : length l.notes ≡ NOTES;
  letters : GoOnAs (first_of l.times (option_copied l.letters)) l.initial.done.letters l.done.letters;
  left : option_copied l.left ≡ rest_of l.times (option_copied l.letters);
}

abbrev pub decreases-times : goal.decreases-times
decreases-times g l = l.run.times - l.times
