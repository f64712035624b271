use Rattle.std.proofs.Common.{take}
use Rattle.b67_emitter.proofs.OnEvents.{Referred}
use Rattle.b67_emitter.proofs.events.append_on_events.Given as goal

abbrev pub invariant-events : goal.invariant-events
invariant-events l = Referred l.names (take l.event-index l.events) l.initial.out l.out
