use Rattle.std.proofs.Common.{◌≡◌, drop}
use Rattle.b67_asm_text.specs.Names.{name_is_among}
use Rattle.b67_asm_text.proofs.name.is_among.Given as goal

abbrev pub invariant-words : goal.invariant-words
invariant-words l = name_is_among l.fn.words l.bytes ≡ name_is_among (drop l.word-index l.fn.words) l.bytes
