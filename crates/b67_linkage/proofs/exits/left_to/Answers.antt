use Rattle.std.proofs.Common.{◌≡◌, sym, ap, ◌∙◌, ℕ, ◌+◌, ◌-◌, Result, Ok, Err, arith}
use Rattle.b67_control.specs.declared.Mscw.{Mscw}
use Rattle.b67_control.specs.declared.Rcw.{Rcw}
use Rattle.b67_table.specs.declared.InterruptKind.{InterruptKind}
use Rattle.b67_table.specs.declared.InterruptKind.TheVariants.{BrokenChain}
use Rattle.b67_table.specs.Look.{look_seen}
use Rattle.b67_table.specs.Chains.{place, mark_at, control_at, entered_below}
use Rattle.b67_display.specs.Found.{chain_shown}
use Rattle.b67_display.proofs.Linking.{after}
use Rattle.b67_linkage.proofs.Downwards.{left_nowhere, left_lower, apart, is_apart, is_not_apart}
use Rattle.b67_linkage.proofs.exits.left_to.Goals as goal

pub returns-in-Err-clause-value : goal.returns-in-Err-clause-value
returns-in-Err-clause-value g c =
    let st = g.C.Core.stacks c.args.core.now in
    let m = c.in_ok-mark.mark in
    let k = c.in_ok-control.control in
    let f = c.args.frame in
    let marked : look_seen st (mark_at f) ≡ Ok m = sym c.mark_at.ensures.value ∙ ap chain_shown c.in_ok-mark.was in
    let controlled : look_seen st (control_at f) ≡ Ok k = sym c.control_at.ensures.value ∙ ap chain_shown c.in_ok-control.was in
    sym (left_nowhere st f m k BrokenChain marked controlled c.if-frame-mark.false (sym c.entered_below.ensures ∙ ap chain_shown c.in-Err.is))

pub returns-in-Err-control_at-clause-value : goal.returns-in-Err-control_at-clause-value
returns-in-Err-control_at-clause-value g c =
    let st = g.C.Core.stacks c.args.core.now in
    let m = c.in_ok-mark.mark in
    let k = c.in_ok-control.control in
    let f = c.args.frame in
    let marked : look_seen st (mark_at f) ≡ Ok m = sym c.mark_at.ensures.value ∙ ap chain_shown c.in_ok-mark.was in
    let controlled : look_seen st (control_at f) ≡ Ok k = sym c.control_at.ensures.value ∙ ap chain_shown c.in_ok-control.was in
    let lower : look_seen st (entered_below f.stack (f.at - m.df)) ≡ Ok c.in-Ok.lower = sym c.entered_below.ensures ∙ ap chain_shown c.in-Ok.is in
    sym (left_lower st f m k c.in-Ok.lower marked controlled c.if-frame-mark.false lower
    ∙ ap (λ (x : Result Rcw InterruptKind). after x (apart st f m k c.in-Ok.lower)) (sym c.control_at-2.ensures.value ∙ ap chain_shown c.in-Err-control_at.is))

pub returns-then-from-clause-value : goal.returns-then-from-clause-value
returns-then-from-clause-value g c =
    let st = g.C.Core.stacks c.args.core.now in
    let m = c.in_ok-mark.mark in
    let k = c.in_ok-control.control in
    let f = c.args.frame in
    let marked : look_seen st (mark_at f) ≡ Ok m = sym c.mark_at.ensures.value ∙ ap chain_shown c.in_ok-mark.was in
    let controlled : look_seen st (control_at f) ≡ Ok k = sym c.control_at.ensures.value ∙ ap chain_shown c.in_ok-control.was in
    let lower : look_seen st (entered_below f.stack (f.at - m.df)) ≡ Ok c.in-Ok.lower = sym c.entered_below.ensures ∙ ap chain_shown c.in-Ok.is in
    let above : look_seen st (control_at (place f.stack c.in-Ok.lower)) ≡ Ok c.in-Ok-control_at.field-0 = sym c.control_at-2.ensures.value ∙ ap chain_shown c.in-Ok-control_at.is in
    let to_lower = left_lower st f m k c.in-Ok.lower marked controlled c.if-frame-mark.false lower ∙ ap (λ (x : Result Rcw InterruptKind). after x (apart st f m k c.in-Ok.lower)) above in
    sym (to_lower ∙ is_not_apart st f.at (record { mark = f.at - m.df; frame = c.in-Ok.lower; control = k }) (omega (arith, c.if-from.true, c.from-3.ensures, c.from-2.ensures, c.from.ensures)))

pub returns-clause-value : goal.returns-clause-value
returns-clause-value g c =
    let st = g.C.Core.stacks c.args.core.now in
    let m = c.in_ok-mark.mark in
    let k = c.in_ok-control.control in
    let f = c.args.frame in
    let marked : look_seen st (mark_at f) ≡ Ok m = sym c.mark_at.ensures.value ∙ ap chain_shown c.in_ok-mark.was in
    let controlled : look_seen st (control_at f) ≡ Ok k = sym c.control_at.ensures.value ∙ ap chain_shown c.in_ok-control.was in
    let lower : look_seen st (entered_below f.stack (f.at - m.df)) ≡ Ok c.in-Ok.lower = sym c.entered_below.ensures ∙ ap chain_shown c.in-Ok.is in
    let above : look_seen st (control_at (place f.stack c.in-Ok.lower)) ≡ Ok c.in-Ok-control_at.field-0 = sym c.control_at-2.ensures.value ∙ ap chain_shown c.in-Ok-control_at.is in
    let to_lower = left_lower st f m k c.in-Ok.lower marked controlled c.if-frame-mark.false lower ∙ ap (λ (x : Result Rcw InterruptKind). after x (apart st f m k c.in-Ok.lower)) above in
    sym (to_lower ∙ is_apart st f.at (record { mark = f.at - m.df; frame = c.in-Ok.lower; control = k }) (omega (arith, c.if-from.false, c.from-3.ensures, c.from-2.ensures, c.from.ensures)))
