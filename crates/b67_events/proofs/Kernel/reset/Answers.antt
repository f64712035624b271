use Rattle.std.proofs.Common.{refl, false, ap, vec_capacity}
use Rattle.b67_deeds.specs.Events.{cleared}
use Rattle.b67_events.specs.Events.{with_state}
use Rattle.b67_events.specs.Kept.{with_happened}
use Rattle.b67_events.proofs.Shown.{events_flags}
use Rattle.b67_events.proofs.Steps.{held, kept_set}
use Rattle.b67_events.proofs.Kernel.reset.Goals as goal

pub invariant_of-self : goal.invariant_of-self
invariant_of-self c =
    let k = c.self.inside in (
      rw c.set_happened.ensures
          (kept_set c.args.at (with_happened false) k.events.entries k.waiting.items k.processes (vec_capacity k.waiting) c.self.invariant.0),
      c.self.invariant.1,
      c.self.invariant.2,
    )

pub returns : goal.returns
returns c =
    let k = c.self.inside in
    rw (← c.self.view_is, c.set_happened.ensures)
    (ap (λ es. held es k.lists.items k.processes) (events_flags c.args.at (with_happened false) (with_state cleared) k.waiting.items (λ x. refl) k.events.entries))
