use Rattle.std.proofs.Common.{◌≡◌, sym, ap, ◌∙◌, ◌+◌, ◌-◌, ◌<◌, ℕ, false, arith}
use Rattle.b67_table.specs.declared.InterruptKind.TheVariants.{BrokenChain}
use Rattle.b67_table.specs.Look.{look_seen, found, ◌>->◌}
use Rattle.b67_table.specs.GoingTo.{Passing, passing}
use Rattle.b67_table.specs.GoingTo as going
use Rattle.b67_table.specs.Linkage.{is_critical}
use Rattle.b67_table.specs.GoingTo.{passed_frames}
use Rattle.b67_table.specs.Questions.{live_criticals}
use Rattle.b67_display.specs.Found.{chain_shown}
use Rattle.b67_reach.specs.Answers.{looked}
use Rattle.b67_linkage.proofs.Passed.{steps_down, stops_there, is_met, is_missed}
use Rattle.b67_going.specs.Leaves.{passes_critical}
use Rattle.b67_going.proofs.Left.{either, same_found, one_more, none_yet}
use Rattle.b67_going.proofs.Steps.{refusal}
use Rattle.b67_going.proofs.leaves.passes_critical.Goals as goal

pub down-init : goal.down-init
down-init g c =
    let places = live_criticals c.args.states.now c.args.regs.now in
    record {
      rest = same_found (g.C.Core.stacks c.args.core.now) (passing (c.args.from.at + 1) c.args.from.stack c.args.target (record { frame = c.args.from.at; cells = c.args.cells }))
          (λ (p : Passing). is_critical c.args.from.stack (passed_frames p.frames) places) (λ (p : Passing). either c.args.from.stack places false p)
          (λ (p : Passing). none_yet c.args.from.stack places p)
          ∙ ap (λ (n : ℕ). look_seen (g.C.Core.stacks c.args.core.now) (passing (n + 1) c.args.from.stack c.args.target (record { frame = c.args.from.at; cells = c.args.cells })
          >-> (λ (p : Passing). found (either c.args.from.stack places false p)))) (sym c.from-steps.ensures);
    }

pub returns-then-at-target : goal.returns-then-at-target
returns-then-at-target g c =
    let st = g.C.Core.stacks c.args.core.now in
    let places = live_criticals c.args.states.now c.args.regs.now in
    sym (ap looked (c.down.invariant.rest
    ∙ is_met st c.args.from.stack c.args.target c.down.at c.down.count (λ (p : Passing). either c.args.from.stack places c.down.critical p) c.down.steps c.down-test.true c.if-at-target.true))

pub returns-then-at-target-2 : goal.returns-then-at-target-2
returns-then-at-target-2 g c =
    let st = g.C.Core.stacks c.args.core.now in
    let places = live_criticals c.args.states.now c.args.regs.now in
    refusal c.broken.result (look_seen st (passes_critical places c.args.from c.args.cells c.args.target)) BrokenChain c.broken.ensures (c.down.invariant.rest
    ∙ is_missed st c.args.from.stack c.args.target c.down.at c.down.count (λ (p : Passing). either c.args.from.stack places c.down.critical p) c.down.steps c.down-test.true c.if-at-target-2.true)

pub returns-in-Err : goal.returns-in-Err
returns-in-Err g c =
    let st = g.C.Core.stacks c.args.core.now in
    let places = live_criticals c.args.states.now c.args.regs.now in
    let above : c.args.target < c.down.at = omega (arith, c.if-at-target.false, c.if-at-target-2.false) in
    refusal c.broken-in-Err.result (look_seen st (passes_critical places c.args.from c.args.cells c.args.target)) BrokenChain c.broken-in-Err.ensures (c.down.invariant.rest
    ∙ stops_there st c.args.from.stack c.args.target c.down.at c.down.count (λ (p : Passing). either c.args.from.stack places c.down.critical p) c.down.steps BrokenChain
    c.down-test.true above (sym c.left_to.ensures.value ∙ ap chain_shown c.in-Err.is))

pub down-preserved : goal.down-preserved
down-preserved g c =
    let st = g.C.Core.stacks c.args.core.now in
    let places = live_criticals c.args.states.now c.args.regs.now in
    let above : c.args.target < c.down.at = omega (arith, c.if-at-target.false, c.if-at-target-2.false) in
    record {
      rest = c.down.invariant.rest
          ∙ steps_down st c.args.from.stack c.args.target c.down.at c.down.count (λ (p : Passing). either c.args.from.stack places c.down.critical p) c.down.steps c.in-Ok.below
          c.down-test.true above (sym c.left_to.ensures.value ∙ ap chain_shown c.in-Ok.is)
          ∙ same_found st (passing (c.down.steps - 1) c.args.from.stack c.args.target (record { frame = c.in-Ok.below.frame; cells = c.in-Ok.below.control.caller_cells }))
          (λ (p : Passing). either c.args.from.stack places c.down.critical (going.passing_after (record { frame = c.down.at; cells = c.down.count }) p))
          (λ (p : Passing). either c.args.from.stack places c.is_so-critical.result p)
          (one_more c.args.from.stack c.down.at c.down.count places c.down.critical c.is_so-critical.result c.is_so-critical.ensures);
    }

pub returns : goal.returns
returns g c =
    let st = g.C.Core.stacks c.args.core.now in
    let places = live_criticals c.args.states.now c.args.regs.now in
    let no_steps : c.down.steps ≡ 0 = omega (arith, c.down-test.false) in
    refusal c.broken-2.result (look_seen st (passes_critical places c.args.from c.args.cells c.args.target)) BrokenChain c.broken-2.ensures (c.down.invariant.rest
    ∙ ap (λ (n : ℕ). look_seen st (passing n c.args.from.stack c.args.target (record { frame = c.down.at; cells = c.down.count })
    >-> (λ (p : Passing). found (either c.args.from.stack places c.down.critical p)))) no_steps)
