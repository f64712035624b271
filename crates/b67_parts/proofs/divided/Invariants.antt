use Rattle.std.proofs.Common.{◌-◌, ◌≤◌, length, take}
use Rattle.b67_parts.specs.Parts.{AreRecords, HasNoneBefore}
use Rattle.b67_parts.proofs.divided.Given as goal

abbrev pub invariant-records : goal.invariant-records
invariant-records l = (l.from ≤ length l.bytes) × AreRecords (take l.from l.bytes) × HasNoneBefore l.mark l.bytes l.from

abbrev pub decreases-records : goal.decreases-records
decreases-records l = length l.bytes - l.from
