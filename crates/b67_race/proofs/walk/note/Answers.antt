use Rattle.std.proofs.Common.{◌≡◌, map, ℕ, ◌+◌, List}
use Rattle.std.specs.BTreeMap.{BTreeMap}
use Rattle.b67_race.specs.Clocks.{Notes, clock_joined}
use Rattle.b67_race.specs.Times.{time_of}
use Rattle.b67_race.specs.Timed.{event_time, time_in}
use Rattle.b67_race.specs.Noted.{done_of, race_of}
use Rattle.b67_race.specs.declared.cells.Key.{Key}
use Rattle.b67_race.proofs.Noting.{goes_on_so, entries_so, notes_before}
use Rattle.b67_race.proofs.walk.note.Goals as goal

pub returns-clause-noted : goal.returns-clause-noted
returns-clause-noted c = λ ds s.
    record {
      entries = entries_so ds (done_of c.args.done.now) c.args.walk.now.entries s.entries;
      walks = goes_on_so ds (done_of c.args.done.now) c.args.walk.now.entries (time_of c.in_ok-clock.clock)
          (time_in c.args.walk.now.timing.processes.items) (event_time c.args.walk.now.timing.set) (event_time c.args.walk.now.timing.freed)
          (time_in c.note_clocks.new.timing.processes.items) (event_time c.note_clocks.new.timing.set) (event_time c.note_clocks.new.timing.freed)
          c.args.walk.now.cells c.note_race.new.cells (map race_of c.args.walk.now.found.items) (map race_of c.note_race.new.found.items)
          s.entries s.walks c.in_ok-clock.ensures.clock
          (notes_before (λ (set freed : BTreeMap Key (List ℕ)). ((q : ℕ) → time_of c.in_ok-clock.clock q ≡
          clock_joined (done_of c.args.done.now) (time_in c.args.walk.now.timing.processes.items) (event_time set) (event_time freed) q)
          → Notes (c.args.walk.now.entries + 1) (done_of c.args.done.now) (time_in c.args.walk.now.timing.processes.items) (event_time set) (event_time freed)
          (time_in c.note_clocks.new.timing.processes.items) (event_time c.note_clocks.new.timing.set) (event_time c.note_clocks.new.timing.freed))
          c.args.walk.now.timing.set c.clock_before.new.timing.set c.args.walk.now.timing.freed c.clock_before.new.timing.freed c.in_ok-clock.ensures.set c.in_ok-clock.ensures.freed
          (c.in_ok-note_clocks.ensures (time_in c.args.walk.now.timing.processes.items) c.in_ok-clock.ensures.others))
          c.in_ok-note_race.ensures;
    }
