use Rattle.std.proofs.Common.{◌≡◌, take}
use Rattle.b67_machine.proofs.same.same_lines.Given as goal

abbrev pub invariant-lines : goal.invariant-lines
invariant-lines l = take l.index l.ours ≡ take l.index l.theirs
