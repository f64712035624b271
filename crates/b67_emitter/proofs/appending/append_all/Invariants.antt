use Rattle.std.proofs.Common.{take}
use Rattle.b67_emitter.proofs.Appends.{Several}
use Rattle.b67_emitter.proofs.appending.append_all.Given as goal

abbrev pub invariant-kinds : goal.invariant-kinds
invariant-kinds l = Several (take l.kind-index l.kinds) l.fn.out l.out
