use Rattle.std.proofs.Common.{◌≡◌, ◌+◌, ◌-◌, ◌≤◌, ◌++◌, take, drop, replicate, pos}
use Rattle.b67_word.specs.Word.{operand}
use Rattle.b67_flat.proofs.memory.zero.Given as goal

abbrev pub invariant-zeroing : goal.invariant-zeroing
invariant-zeroing l =
    (l.fn.place ≤ l.at) × (l.at ≤ l.fn.place + l.fn.count)
    × (l.words.items ≡ take l.fn.place l.initial.words.items ++ (replicate (l.at - l.fn.place) (operand (pos 0)) ++ drop l.at l.initial.words.items))

abbrev pub decreases-zeroing : goal.decreases-zeroing
decreases-zeroing l = l.fn.place + l.fn.count - l.at
