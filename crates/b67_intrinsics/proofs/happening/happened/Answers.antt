use Rattle.std.proofs.Common.{refl}
use Rattle.b67_list.specs.Numbered.{numbered}
use Rattle.b67_deeds.specs.declared.EventTest.TheVariants as test
use Rattle.b67_reach.specs.Images.{image_of}
use Rattle.b67_intrinsics.specs.Called.{ended}
use Rattle.b67_intrinsics.proofs.Acting.{tell_stops, tell_goes}
use Rattle.b67_intrinsics.proofs.happening.happened.Goals as goal

pub returns-in_err-place-clause-acts : goal.returns-in_err-place-clause-acts
returns-in_err-place-clause-acts g c =
    let img = image_of (g.C.Core.stacks c.args.core.now) (g.C.Core.rows c.args.core.now) c.args.kernel.now c.args.parts.now in
    tell_stops test.Happened c.args.parts.now.code c.args.next c.args.mark.now c.args.process img
    (numbered c.args.parts.now.regs.items c.args.process) c.in_err-place.field-0.0 c.from_residual.result (c.in_err-place.ensures.leads img refl refl) c.from_residual.ensures.1

pub returns-clause-acts : goal.returns-clause-acts
returns-clause-acts g c =
    let img = image_of (g.C.Core.stacks c.args.core.now) (g.C.Core.rows c.args.core.now) c.args.kernel.now c.args.parts.now in
    tell_goes test.Happened c.args.parts.now.code c.args.next c.args.mark.now c.args.process img
    (numbered c.args.parts.now.regs.items c.args.process) c.in_ok-place.place c.happened-happened.result c.truth.result img
    (ended (g.C.Core.stacks c.end_with.new.core) (g.C.Core.rows c.end_with.new.core) c.end_with.new.all.items img)
    c.happened-happened.ensures c.truth.ensures refl (c.in_ok-place.ensures.leads img refl refl) (c.end_with.ensures.acts img refl refl refl)
