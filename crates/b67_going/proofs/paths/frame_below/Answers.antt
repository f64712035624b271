use Rattle.std.proofs.Common.{sym, ap, ◌∙◌, Ok, Err, arith}
use Rattle.b67_table.specs.declared.InterruptKind.TheVariants.{BrokenChain}
use Rattle.b67_table.specs.Look.{look_seen}
use Rattle.b67_table.specs.Chains.{frame_below}
use Rattle.b67_display.specs.Found.{chain_shown}
use Rattle.b67_reach.specs.Answers.{looked}
use Rattle.b67_going.proofs.Steps.{no_mark, mark_stays, mark_leaves, mark_leads, refusal}
use Rattle.b67_going.proofs.paths.frame_below.Goals as goal

pub returns-in-Err : goal.returns-in-Err
returns-in-Err g c =
    let st = g.C.Core.stacks c.args.core.now in
    refusal c.broken.result (look_seen st (frame_below c.args.frame)) BrokenChain c.broken.ensures
    (no_mark st c.args.frame BrokenChain (sym c.mark_at.ensures.value ∙ ap chain_shown c.in-Err.is))

pub returns-then-mark-eq0 : goal.returns-then-mark-eq0
returns-then-mark-eq0 g c =
    let st = g.C.Core.stacks c.args.core.now in
    refusal c.broken-then-mark-eq0.result (look_seen st (frame_below c.args.frame)) BrokenChain c.broken-then-mark-eq0.ensures
    (mark_stays st c.args.frame c.in-Ok.mark (sym c.mark_at.ensures.value ∙ ap chain_shown c.in-Ok.is) c.if-mark-eq0.true)

pub returns-then-frame-mark : goal.returns-then-frame-mark
returns-then-frame-mark g c =
    let st = g.C.Core.stacks c.args.core.now in
    refusal c.broken-then-frame-mark.result (look_seen st (frame_below c.args.frame)) BrokenChain c.broken-then-frame-mark.ensures
    (mark_leaves st c.args.frame c.in-Ok.mark (sym c.mark_at.ensures.value ∙ ap chain_shown c.in-Ok.is) c.if-frame-mark.true)

pub returns-in-Ok-entered_below : goal.returns-in-Ok-entered_below
returns-in-Ok-entered_below g c =
    let st = g.C.Core.stacks c.args.core.now in
    sym (ap looked (mark_leads st c.args.frame c.in-Ok.mark (Ok c.in-Ok-entered_below.at) (sym c.mark_at.ensures.value ∙ ap chain_shown c.in-Ok.is) (omega (arith, c.if-mark-eq0.false))
    c.if-frame-mark.false (sym c.entered_below.ensures ∙ ap chain_shown c.in-Ok-entered_below.is)))

pub returns-in-Err-entered_below : goal.returns-in-Err-entered_below
returns-in-Err-entered_below g c =
    let st = g.C.Core.stacks c.args.core.now in
    refusal c.broken-in-Err-entered_below.result (look_seen st (frame_below c.args.frame)) BrokenChain c.broken-in-Err-entered_below.ensures
    (mark_leads st c.args.frame c.in-Ok.mark (Err BrokenChain) (sym c.mark_at.ensures.value ∙ ap chain_shown c.in-Ok.is) (omega (arith, c.if-mark-eq0.false))
    c.if-frame-mark.false (sym c.entered_below.ensures ∙ ap chain_shown c.in-Err-entered_below.is))
