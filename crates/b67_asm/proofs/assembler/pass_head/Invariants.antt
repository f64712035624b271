use Rattle.std.proofs.Common.{◌≡◌, ◌+◌, ◌-◌, ◌≤◌, drop, length}
use Rattle.b67_asm.specs.Rules.{first_before}
use Rattle.b67_asm.specs.Assembling.{segments_from}
use Rattle.b67_asm.proofs.assembler.pass_head.Given as goal

abbrev pub invariant-lines : goal.invariant-lines
invariant-lines l = record {
  within : l.at ≤ length l.lines;
  same : first_before 1 l.lines ≡ first_before (l.at + 1) (drop l.at l.lines);
  segments : segments_from 1 l.lines ≡ segments_from (l.at + 1) (drop l.at l.lines);
}

abbrev pub decreases-lines : goal.decreases-lines
decreases-lines l = length l.lines - l.at
