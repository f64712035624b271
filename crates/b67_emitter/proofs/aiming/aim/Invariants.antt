use Rattle.std.proofs.Common.{◌≡◌, take, drop}
use Rattle.b67_segment.specs.Operators.{size}
use Rattle.b67_emitter.proofs.Patching.{Midway}
use Rattle.b67_emitter.proofs.aiming.aim.Given as goal

abbrev pub invariant-branches : goal.invariant-branches
invariant-branches l = record {
  midway : Midway (take l.branch-index l.branches) (drop l.branch-index l.branches) l.fn.out l.out;
  target : l.target ≡ size l.fn.out.operators;
}
