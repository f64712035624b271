use Rattle.std.proofs.Common.{get_or, refl}
use Rattle.b67_emitter.proofs.Patching.{midway_more}
use Rattle.b67_emitter.proofs.aiming.aim.Goals as goal

pub branches-preserved : goal.branches-preserved
branches-preserved c = record {
  midway = midway_more c.args.branches.now c.branches.branch-index (get_or c.args.branches.now c.branches.branch-index 0) c.args.out.now c.branches.out
      c.branches-test.true refl c.branches.invariant.midway c.patch.new.self c.place-target.result
      c.branches.invariant.target c.patch.ensures;
  target = c.branches.invariant.target;
}
