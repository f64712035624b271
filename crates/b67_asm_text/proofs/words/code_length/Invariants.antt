use Rattle.std.proofs.Common.{◌≡◌, ◌+◌, drop, false}
use Rattle.b67_asm_text.specs.Records.{code_length}
use Rattle.b67_asm_text.proofs.words.code_length.Given as goal

abbrev pub invariant-bytes : goal.invariant-bytes
invariant-bytes l = record {
  counted : code_length false l.fn.line ≡ l.length + code_length l.quoted (drop l.byte-index l.fn.line);
  place : l.length ≡ l.byte-index;
}
