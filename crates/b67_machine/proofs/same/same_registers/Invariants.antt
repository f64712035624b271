use Rattle.std.proofs.Common.{◌≡◌, take}
use Rattle.b67_machine.proofs.same.same_registers.Given as goal

abbrev pub invariant-processes : goal.invariant-processes
invariant-processes l = take l.index l.ours ≡ take l.index l.theirs
