use Rattle.std.proofs.Common.{◌≡◌, drop}
use Rattle.b67_asm_text.specs.Phrases.{read_from, phrases_seen, reader_start}
use Rattle.b67_asm_text.proofs.phrase.read_phrases.Given as goal

abbrev pub invariant-bytes : goal.invariant-bytes
invariant-bytes l = read_from (phrases_seen l.reader) (drop l.byte-index l.fn.text) ≡ read_from reader_start l.fn.text
