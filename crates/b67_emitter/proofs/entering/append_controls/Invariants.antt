use Rattle.std.proofs.Common.{take}
use Rattle.b67_emitter.proofs.Entries.{Controls}
use Rattle.b67_emitter.proofs.entering.append_controls.Given as goal

abbrev pub invariant-segments : goal.invariant-segments
invariant-segments l = Controls (take l.segment-index l.segments) l.fn.out l.out
