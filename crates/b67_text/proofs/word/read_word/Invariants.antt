use Rattle.std.proofs.Common.{take}
use Rattle.b67_text.specs.Texts.{PartStands}
use Rattle.b67_text.proofs.word.read_word.Given as goal

abbrev pub invariant-word : goal.invariant-word
invariant-word l = PartStands (take l.wanted-index l.word) l.bytes l.at l.next
