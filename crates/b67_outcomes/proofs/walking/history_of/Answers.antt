use Rattle.b67_outcomes.proofs.Histories.{history_within, last_step, step_less, walk_begun, walk_next, walk_ended}
use Rattle.b67_outcomes.proofs.walking.history_of.Goals as goal

pub back-init : goal.back-init
back-init c =
    let h = c.requires.found in
    (h.0, h.1, walk_begun c.args.steps.now c.args.number h.0 c.in_ok-history.history.items c.in_ok-history.ensures.items h.1)

pub step_at-step-requires-clause-within : goal.step_at-step-requires-clause-within
step_at-step-requires-clause-within c = let i = c.back.invariant in history_within c.args.steps.now c.back.at i.0 i.1

pub back-preserved : goal.back-preserved
back-preserved c =
    let i = c.back.invariant in
    walk_next c.args.steps.now c.args.number c.back.at c.back.history.items i.0 (last_step c.args.steps.now c.back.at i.0 c.back-test.true i.1)
    c.step_at-step.result c.step_at-step.ensures.there c.push.new.self.items c.in_ok-push.ensures.items i.2

pub back-smaller : goal.back-smaller
back-smaller c = let i = c.back.invariant in step_less c.args.steps.now c.back.at i.0 c.step_at-step.result c.back-test.true i.1 c.step_at-step.ensures.there

pub returns : goal.returns
returns c =
    let i = c.back.invariant in
    walk_ended c.args.steps.now c.args.number c.back.at c.back.history.items i.0 c.back-test.false i.1 i.2
