use Rattle.std.proofs.Common.{◌≡◌, sym, ap, ◌∙◌, ℕ, ◌+◌, ◌<◌, Ok, Err, arith}
use Rattle.b67_table.specs.declared.InterruptKind.TheVariants.{BrokenChain}
use Rattle.b67_table.specs.GoingTo.{Passing}
use Rattle.b67_display.specs.Found.{chain_shown}
use Rattle.b67_linkage.proofs.Passed.{steps_down, stops_there}
use Rattle.b67_linkage.proofs.cuts.target_cells.Goals as goal

pub returns-in-Err-clause-value : goal.returns-in-Err-clause-value
returns-in-Err-clause-value g c =
    let above : c.args.target < c.down.at = omega (arith, c.if-at-target.false, c.if-at-target-2.false) in
    sym (c.down.invariant.rest
    ∙ stops_there (g.C.Core.stacks c.args.core.now) c.args.from.stack c.args.target c.down.at c.down.count (λ (p : Passing). p.cells) c.down.steps BrokenChain
    c.down-test.true above (sym c.left_to.ensures.value ∙ ap chain_shown c.in-Err.is))

pub down-preserved : goal.down-preserved
down-preserved g c =
    let above : c.args.target < c.down.at = omega (arith, c.if-at-target.false, c.if-at-target-2.false) in
    record {
      within = omega (arith, c.in-Ok.ensures.apart, c.down.invariant.within);
      rest = c.down.invariant.rest
          ∙ steps_down (g.C.Core.stacks c.args.core.now) c.args.from.stack c.args.target c.down.at c.down.count (λ (p : Passing). p.cells) c.down.steps c.in-Ok.below
          c.down-test.true above (sym c.left_to.ensures.value ∙ ap chain_shown c.in-Ok.is);
    }
