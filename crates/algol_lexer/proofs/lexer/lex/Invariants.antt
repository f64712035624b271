use Rattle.std.proofs.Common.{◌≡◌, ◌+◌, ◌≤◌, length}
use Rattle.algol_lexer.specs.Shown.{mode_of}
use Rattle.algol_lexer.proofs.LexTexts.{Text}
use Rattle.algol_lexer.proofs.lexer.lex.Given as goal

-- the tokens so far, and what is left
abbrev pub invariant-records : goal.invariant-records
invariant-records l = record {
  text : Text l.bytes l.rest l.line l.from (mode_of l.mode) l.tokens.items;
  left : l.from + length l.rest ≡ length l.bytes;
  line : l.line ≤ l.from + 1;
  many : length l.tokens.items ≤ l.from;
}

abbrev pub decreases-records : goal.decreases-records
decreases-records l = length l.rest
