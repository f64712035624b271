use Rattle.std.proofs.Common.{◌≡◌, drop}
use Rattle.algol_lexer.specs.Words.{reserved_word_in}
use Rattle.algol_lexer.proofs.words.first_written.Given as goal

abbrev pub invariant-rows : goal.invariant-rows
invariant-rows l = reserved_word_in l.fn.rows l.bytes ≡ reserved_word_in (drop l.row-index l.fn.rows) l.bytes
