-- The numbers of the rules, as they are printed. Their letter is A.
use Rattle.std.specs.Prelude.{ℕ}
use Rattle.b67_asm.specs.declared.refusal.Rule.{Rule}
use Rattle.b67_asm.specs.declared.refusal.Rule.TheVariants.{BadLine, UnknownLabel, DoubleLabel, Range, SegmentTooLong, NoSegment, EmptySegment}

abbrev pub rule_number_of : Rule → ℕ
rule_number_of BadLine = 1
rule_number_of UnknownLabel = 2
rule_number_of DoubleLabel = 3
rule_number_of Range = 4
rule_number_of SegmentTooLong = 5
rule_number_of NoSegment = 6
rule_number_of EmptySegment = 7
