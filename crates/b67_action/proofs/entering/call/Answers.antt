use Rattle.std.proofs.Common.{◌≡◌, true, sym, ap, subst, ◌∙◌, Some, Result, OnOk}
use Rattle.b67_list.specs.Numbered.{numbered}
use Rattle.b67_list.proofs.Answered.{when_ok}
use Rattle.b67_events.specs.declared.Woken.{Woken}
use Rattle.b67_table.specs.Names.{intrinsic_numbered}
use Rattle.b67_intrinsics.specs.declared.hindrance.Hindrance.{Hindrance}
use Rattle.b67_reach.specs.Images.{image_of}
use Rattle.b67_action.specs.Acting.{CallReleases}
use Rattle.b67_action.specs.Done.{makes}
use Rattle.b67_action.proofs.Releasing.{on_hindered, called_made, called_named}
use Rattle.b67_action.proofs.entering.call.Goals as goal

pub returns-then-makes-clause-woken : goal.returns-then-makes-clause-woken
returns-then-makes-clause-woken g c =
    let img = image_of (g.C.Core.stacks c.args.core.now) (g.C.Core.rows c.args.core.now) c.args.kernel.now c.args.parts.now in
    let e : intrinsic_numbered c.args.number ≡ Some c.in-Some.name = sym c.intrinsic_numbered.ensures ∙ c.in-Some.is in
    let k : makes (Some c.in-Some.name) ≡ true = sym c.makes.ensures ∙ c.if-makes.true in
    when_ok c.call_making.result _
    (called_made img (numbered c.args.parts.now.regs.items c.args.process) c.args.mark.now c.args.parts.now.woken.processes.items c.call_making.new.parts.woken.processes.items
    (intrinsic_numbered c.args.number) c.in-Some.name e k (ap (λ (w : Woken). w.processes.items) c.call_making.ensures.woken))

pub returns-else-makes-clause-woken : goal.returns-else-makes-clause-woken
returns-else-makes-clause-woken g c =
    let img = image_of (g.C.Core.stacks c.args.core.now) (g.C.Core.rows c.args.core.now) c.args.kernel.now c.args.parts.now in
    let before = c.args.parts.now.woken.processes.items in
    let after = c.call_plainly.new.parts.woken.processes.items in
    let e : intrinsic_numbered c.args.number ≡ Some c.in-Some.name = sym c.intrinsic_numbered.ensures ∙ c.in-Some.is in
    subst (λ (res : Result (Unit {0}) Hindrance). OnOk res (CallReleases (intrinsic_numbered c.args.number) img (numbered c.args.parts.now.regs.items c.args.process) c.args.mark.now before after))
    (sym c.hindered.ensures)
    (on_hindered c.call_plainly.result _ _
    (called_named img (numbered c.args.parts.now.regs.items c.args.process) c.args.mark.now before after (intrinsic_numbered c.args.number) c.in-Some.name e)
    c.call_plainly.ensures.woken)
