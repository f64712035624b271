use Rattle.b67_emitter.proofs.Entries.{controls_first, controls_more}
use Rattle.b67_emitter.proofs.entering.append_controls.Goals as goal

pub segments-init : goal.segments-init
segments-init c = controls_first c.args.out.now

pub segments-preserved : goal.segments-preserved
segments-preserved c =
    controls_more c.args.segments.now c.segments.segment-index c.args.out.now c.segments.out c.append_control.new.out c.segments-test.true c.segments.invariant
    c.in_ok-append_control.ensures.code c.in_ok-append_control.ensures.level c.in_ok-append_control.ensures.size
