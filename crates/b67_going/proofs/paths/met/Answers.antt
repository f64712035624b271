use Rattle.std.proofs.Common.{sym, ap, ◌∙◌, ◌+◌, Ok, arith}
use Rattle.b67_table.specs.declared.InterruptKind.TheVariants.{BrokenChain}
use Rattle.b67_table.specs.Look.{look_seen}
use Rattle.b67_table.specs.Chains.{frame_below}
use Rattle.b67_reach.specs.Answers.{looked}
use Rattle.b67_reach.proofs.Looking.{looked_ok}
use Rattle.b67_going.specs.Paths.{met, needed}
use Rattle.b67_going.proofs.Steps.{met_here, met_nowhere, met_below, met_stops, no_steps, refusal}
use Rattle.b67_going.proofs.paths.met.Goals as goal

pub returns-then-is_needed : goal.returns-then-is_needed
returns-then-is_needed g c =
    let st = g.C.Core.stacks c.args.core.now in
    sym (ap looked (c.down.invariant.rest
    ∙ met_here st (needed st c.args.needs.now) c.down.frame c.down.steps c.down-test.true (sym c.is_needed.ensures ∙ c.if-is_needed.true)))

pub returns-then-frame-eq0 : goal.returns-then-frame-eq0
returns-then-frame-eq0 g c =
    let st = g.C.Core.stacks c.args.core.now in
    sym (ap looked (c.down.invariant.rest
    ∙ met_nowhere st (needed st c.args.needs.now) c.down.frame c.down.steps c.down-test.true (sym c.is_needed.ensures ∙ c.if-is_needed.false) c.if-frame-eq0.true))

pub returns-in-Err : goal.returns-in-Err
returns-in-Err g c =
    let st = g.C.Core.stacks c.args.core.now in
    met_stops st (needed st c.args.needs.now) c.down.frame c.down.steps c.in-Err.stop c.down-test.true (sym c.is_needed.ensures ∙ c.if-is_needed.false) c.if-frame-eq0.false
    (sym c.in-Err.is ∙ c.frame_below.ensures)
    ∙ sym (ap looked c.down.invariant.rest)

pub down-preserved : goal.down-preserved
down-preserved g c =
    let st = g.C.Core.stacks c.args.core.now in
    record {
      rest = c.down.invariant.rest
          ∙ met_below st (needed st c.args.needs.now) c.down.frame c.down.steps (Ok c.in-Ok.lower) c.down-test.true (sym c.is_needed.ensures ∙ c.if-is_needed.false)
          c.if-frame-eq0.false (looked_ok (look_seen st (frame_below c.down.frame)) c.in-Ok.lower (sym c.in-Ok.is ∙ c.frame_below.ensures));
    }

pub returns : goal.returns
returns g c =
    let st = g.C.Core.stacks c.args.core.now in
    refusal c.broken.result (look_seen st (met (c.args.from.at + 1) (needed st c.args.needs.now) c.args.from)) BrokenChain c.broken.ensures
    (c.down.invariant.rest ∙ no_steps st (needed st c.args.needs.now) c.down.frame c.down.steps (omega (arith, c.down-test.false)))
