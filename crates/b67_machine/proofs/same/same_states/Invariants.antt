use Rattle.std.proofs.Common.{◌≡◌, take}
use Rattle.b67_machine.proofs.same.same_states.Given as goal

abbrev pub invariant-states : goal.invariant-states
invariant-states l = take l.index l.ours ≡ take l.index l.theirs
