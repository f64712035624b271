use Rattle.std.proofs.Common.{◌≡◌, take}
use Rattle.b67_events.proofs.again.same_lists.Given as goal

abbrev pub invariant-lists : goal.invariant-lists
invariant-lists l = take l.index l.ours.items ≡ take l.index l.theirs.items
