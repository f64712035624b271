use Rattle.std.proofs.Common.{◌≡◌, ◌-◌, ◌≤◌, length}
use Rattle.b67_race.proofs.Rivals.{AreOthers}
use Rattle.b67_race.proofs.cells.keep.Given as goal

abbrev pub invariant-seeking : goal.invariant-seeking
invariant-seeking l = (l.at ≤ length l.reads.items) × AreOthers l.now l.at l.reads.items × (l.reads ≡ l.initial.reads)

abbrev pub decreases-seeking : goal.decreases-seeking
decreases-seeking l = length l.reads.items - l.at
