use Rattle.std.proofs.Common.{◌-◌, length}
use Rattle.b67_text.specs.Texts.{PartStands}
use Rattle.b67_text.specs.Numerals.{IsSmallNumber, spelled, BeginsOne}
use Rattle.b67_text.proofs.number.read_digits.Given as goal

abbrev pub invariant-digits : goal.invariant-digits
invariant-digits l = record { small : IsSmallNumber l.number; stand : PartStands (spelled l.number) l.bytes l.at l.next; begin : BeginsOne l.numbers (spelled l.number) }

abbrev pub decreases-digits : goal.decreases-digits
decreases-digits l = length l.bytes - l.next
