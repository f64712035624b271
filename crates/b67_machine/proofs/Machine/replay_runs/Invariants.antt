use Rattle.std.specs.Prelude.{option_copied}
use Rattle.std.proofs.Common.{◌≡◌, ◌≤◌, [], length, take}
use Rattle.b67_schedule.specs.Schedules.{entries}
use Rattle.b67_machine.specs.declared.replay.TheConstants.{NOTES}
use Rattle.b67_machine.specs.Replaying.{Between, GoOnAs, first_of, rest_of}
use Rattle.b67_machine.proofs.Machine.replay_runs.Given as goal

-- the entries of so many runs are performed, and their letters are those that are given
abbrev pub invariant-runs : goal.invariant-runs
invariant-runs g l = record {
  performed : entries l.done.runs ≡ entries (take l.run-index l.runs);
  between : Between l.fn.self.code (entries l.done.runs) l.done.letters l.spent l.self;
  within : l.spent ≤ l.budget;
  room : l.fn.done.room ≤ l.done.room;
  notes : length l.notes ≡ NOTES;
  letters : GoOnAs (first_of (length l.done.letters) (option_copied l.letters)) [] l.done.letters;
  left : option_copied l.left ≡ rest_of (length l.done.letters) (option_copied l.letters);
}
