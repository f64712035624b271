use Rattle.std.proofs.Common.{rules, ◌≡◌, ℕ, ap, sym, ◌∙◌, subst, List, if◌then◌else◌}
use Rattle.b67_race.specs.Entries.{Signal, sets, frees}
use Rattle.b67_race.specs.Clocks.{Becomes}
use Rattle.b67_race.specs.Times.{time_of}
use Rattle.b67_race.specs.Cells.{is_cell}
use Rattle.b67_race.specs.Timed.{event_time, signal_of}
use Rattle.b67_race.specs.declared.timing.Event.TheVariants as events
use Rattle.b67_race.proofs.Keys.{sets_become, sets_same, frees_same}
use Rattle.b67_race.proofs.timing.note_event.Goals as goal

pub returns-in_ok-put_event-in-Sets-clause-set : goal.returns-in_ok-put_event-in-Sets-clause-set
returns-in_ok-put_event-in-Sets-clause-set c = λ x.
    let is : c.args.event ≡ events.Sets c.in-Sets.key = search rules in
    subst (λ (s : Signal). Becomes (s ≡ sets x) (event_time c.args.set.now x) (time_of c.args.own.now) (event_time c.put_event.new.events x)) (sym (ap signal_of is))
    (sets_become c.in-Sets.key c.args.set.now c.put_event.new.events c.args.own.now
    (λ d q. c.in_ok-put_event-in-Sets.ensures d q ∙ ap (λ (clock : List ℕ). if is_cell c.in-Sets.key d then time_of clock q else event_time c.args.set.now d q) c.in_ok-clock-in-Sets.ensures)
    sets sets_same x)

pub returns-in_ok-put_event-in-Frees-clause-freed : goal.returns-in_ok-put_event-in-Frees-clause-freed
returns-in_ok-put_event-in-Frees-clause-freed c = λ x.
    let is : c.args.event ≡ events.Frees c.in-Frees.key = search rules in
    subst (λ (s : Signal). Becomes (s ≡ frees x) (event_time c.args.freed.now x) (time_of c.args.own.now) (event_time c.put_event-in-Frees.new.events x)) (sym (ap signal_of is))
    (sets_become c.in-Frees.key c.args.freed.now c.put_event-in-Frees.new.events c.args.own.now
    (λ d q. c.in_ok-put_event-in-Frees.ensures d q ∙ ap (λ (clock : List ℕ). if is_cell c.in-Frees.key d then time_of clock q else event_time c.args.freed.now d q) c.in_ok-clock-in-Frees.ensures)
    frees frees_same x)
