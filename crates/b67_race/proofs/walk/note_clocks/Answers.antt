use Rattle.std.proofs.Common.{◌≡◌, ℕ, ◌==◌, ◌||◌, ◌∙◌, subst, List}
use Rattle.b67_race.specs.Entries.{is_this, entry_is_one_of, touches}
use Rattle.b67_race.specs.Clocks.{process_clock}
use Rattle.b67_race.specs.Times.{time_of}
use Rattle.b67_race.specs.Timed.{event_time, time_in}
use Rattle.b67_race.specs.Noted.{done_of}
use Rattle.b67_race.proofs.Noting.{notes_so, process_same}
use Rattle.b67_race.proofs.walk.note_clocks.Goals as goal

pub returns : goal.returns
returns c = λ of_process others h.
    notes_so c.args.entry (done_of c.args.done.now) of_process (event_time c.args.timing.now.set) (event_time c.args.timing.now.freed)
    (time_in c.note_processes.new.clocks.items) (event_time c.note_event.new.set) (event_time c.note_event.new.freed) (time_of c.set.new.self) (time_of c.args.clock) h
    c.in_ok-set.ensures
    (λ p q.
    subst (λ (rs : List ℕ). (p q : ℕ) → time_in c.note_processes.new.clocks.items p q ≡
    process_clock (c.args.done.now.process == p) ((c.args.done.now.process == p) || (is_this c.args.done.now.started p || entry_is_one_of rs p)) (time_of c.set.new.self)
    (time_in c.args.timing.now.processes.items p) q)
    c.as_slice.ensures.value c.in_ok-note_processes.ensures p q
    ∙ process_same (c.args.done.now.process == p) (touches (done_of c.args.done.now) p) (time_of c.set.new.self) (time_in c.args.timing.now.processes.items p) (of_process p)
    (λ e r. others p r e) q)
    c.in_ok-note_event.ensures.set c.in_ok-note_event.ensures.freed
