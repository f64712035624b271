use Rattle.std.proofs.Common.{◌-◌, vec_len}
use Rattle.b67_asm_writer.proofs.Written.{Written}
use Rattle.b67_asm_writer.proofs.segment.push_segment.Given as goal

abbrev pub invariant-operators : goal.invariant-operators
invariant-operators l = Written l.segment l.bytes.items l.at l.passed l.level l.initial.text.items l.text.items

abbrev pub decreases-operators : goal.decreases-operators
decreases-operators l = vec_len l.bytes - l.at
