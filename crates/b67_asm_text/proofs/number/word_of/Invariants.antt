use Rattle.std.proofs.Common.{◌≡◌, ◌≤◌, drop}
use Rattle.b67_asm_text.specs.Numbers.{word_after}
use Rattle.b67_asm_text.specs.declared.number.TheConstants.{GREATEST_WORD}
use Rattle.b67_asm_text.proofs.number.word_of.Given as goal

abbrev pub invariant-digits : goal.invariant-digits
invariant-digits l = record {
  rest : word_after l.word (drop l.digit-index l.fn.digits) ≡ word_after 0 l.fn.digits;
  most : l.word ≤ GREATEST_WORD;
}
