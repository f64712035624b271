use Rattle.std.proofs.Common.{◌≡◌, true, false, not, ap, sym, ◌∙◌, vec_capacity}
use Rattle.b67_events.specs.Events.{available_at}
use Rattle.b67_events.specs.Kept.{events_of, with_available}
use Rattle.b67_events.proofs.Shown.{available_shown}
use Rattle.b67_events.proofs.Steps.{held, kept_set, fix_takes, fix_leaves}
use Rattle.b67_events.proofs.Kernel.fix.Goals as goal

there : (c : goal.After-set_available) → available_at c.args.at (events_of c.self.inside.events.entries c.self.inside.waiting.items) ≡ true
there c = let k = c.self.inside in available_shown c.args.at k.events.entries k.waiting.items ∙ sym c.is_available.ensures ∙ c.if-is_available.true

gone : (c : goal.Else-is_available) → available_at c.args.at (events_of c.self.inside.events.entries c.self.inside.waiting.items) ≡ false
gone c = let k = c.self.inside in available_shown c.args.at k.events.entries k.waiting.items ∙ sym c.is_available.ensures ∙ c.if-is_available.false

pub invariant_of-self : goal.invariant_of-self
invariant_of-self c =
    let k = c.self.inside in (
      rw c.set_available.ensures
          (kept_set c.args.at (with_available false) k.events.entries k.waiting.items k.processes (vec_capacity k.waiting) c.self.invariant.0),
      c.self.invariant.1,
      c.self.invariant.2,
    )

pub returns-then-is_available-clause-answer : goal.returns-then-is_available-clause-answer
returns-then-is_available-clause-answer c = rw (← c.self.view_is) (sym (ap not (there c)))

pub returns-then-is_available-clause-after : goal.returns-then-is_available-clause-after
returns-then-is_available-clause-after c =
    let k = c.self.inside in
    rw (← c.self.view_is, c.set_available.ensures) (ap (λ es. held es k.lists.items k.processes) (fix_takes c.args.at k.events.entries k.waiting.items (there c)))

pub returns-clause-answer : goal.returns-clause-answer
returns-clause-answer c = rw (← c.self.view_is) (sym (ap not (gone c)))

pub returns-clause-after : goal.returns-clause-after
returns-clause-after c =
    let k = c.self.inside in
    rw (← c.self.view_is) (ap (λ es. held es k.lists.items k.processes) (fix_leaves c.args.at (events_of k.events.entries k.waiting.items) (gone c)))
