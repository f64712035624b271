use Rattle.b67_ops.specs.declared.PlainKind.TheVariants.{Add}
use Rattle.b67_emitter.proofs.Appends.{several_first, several_more}
use Rattle.b67_emitter.proofs.appending.append_all.Goals as goal

pub kinds-init : goal.kinds-init
kinds-init c = several_first c.args.out.now

pub kinds-preserved : goal.kinds-preserved
kinds-preserved c =
    several_more c.args.kinds.now c.kinds.kind-index Add c.args.out.now c.kinds.out c.append_plain.new.out c.kinds-test.true c.kinds.invariant
    c.in_ok-append_plain.ensures.code c.in_ok-append_plain.ensures.level c.in_ok-append_plain.ensures.size
