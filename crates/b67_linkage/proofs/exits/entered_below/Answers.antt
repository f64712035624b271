use Rattle.std.proofs.Common.{◌≡◌, sym, ap, ◌∙◌, ℕ, ◌-◌, Ok, arith}
use Rattle.b67_table.specs.Look.{look_seen}
use Rattle.b67_table.specs.Chains.{place, mark_at, entered_from}
use Rattle.b67_display.specs.Found.{chain_shown}
use Rattle.b67_linkage.proofs.Downwards.{entered_step, goes_down, stands_still, goes_out}
use Rattle.b67_linkage.proofs.exits.entered_below.Goals as goal

pub returns-then-mark-eq0 : goal.returns-then-mark-eq0
returns-then-mark-eq0 g c =
    let st = g.C.Core.stacks c.args.core.now in
    let marked : look_seen st (mark_at (place c.args.stack c.down.here)) ≡ Ok c.in-Ok.mark = sym c.mark_at.ensures.value ∙ ap chain_shown c.in-Ok.is in
    sym (c.down.invariant.rest ∙ entered_step st c.args.stack c.down.steps c.down.here c.in-Ok.mark c.down-test.true marked c.if-mark.false
    ∙ stands_still st c.down.here c.in-Ok.mark.df (λ (lower : ℕ). entered_from (c.down.steps - 1) c.args.stack lower) c.if-mark-eq0.true)

pub returns-then-here-mark : goal.returns-then-here-mark
returns-then-here-mark g c =
    let st = g.C.Core.stacks c.args.core.now in
    let marked : look_seen st (mark_at (place c.args.stack c.down.here)) ≡ Ok c.in-Ok.mark = sym c.mark_at.ensures.value ∙ ap chain_shown c.in-Ok.is in
    sym (c.down.invariant.rest ∙ entered_step st c.args.stack c.down.steps c.down.here c.in-Ok.mark c.down-test.true marked c.if-mark.false
    ∙ goes_out st c.down.here c.in-Ok.mark.df (λ (lower : ℕ). entered_from (c.down.steps - 1) c.args.stack lower) c.if-here-mark.true)

pub down-preserved : goal.down-preserved
down-preserved g c =
    let st = g.C.Core.stacks c.args.core.now in
    let marked : look_seen st (mark_at (place c.args.stack c.down.here)) ≡ Ok c.in-Ok.mark = sym c.mark_at.ensures.value ∙ ap chain_shown c.in-Ok.is in
    record {
      rest = c.down.invariant.rest ∙ entered_step st c.args.stack c.down.steps c.down.here c.in-Ok.mark c.down-test.true marked c.if-mark.false
          ∙ goes_down st c.down.here c.in-Ok.mark.df (λ (lower : ℕ). entered_from (c.down.steps - 1) c.args.stack lower) (omega (arith, c.if-mark-eq0.false)) c.if-here-mark.false;
    }
