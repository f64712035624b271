use Rattle.std.proofs.Common.{◌+◌, ◌-◌, ◌≤◌, length}
use Rattle.algol_lexer.specs.Records.{record_of}
use Rattle.algol_lexer.specs.Shown.{mode_of}
use Rattle.algol_lexer.proofs.LexReach.{Reaches}
use Rattle.algol_lexer.proofs.lexer.read_record.Given as goal

-- the tokens of the columns so far stand after those before
abbrev pub invariant-reading : goal.invariant-reading
invariant-reading l = record {
  reached : Reaches (record_of l.card) (mode_of l.fn.mode) (mode_of l.mode) l.at l.fn.tokens.items l.tokens.items;
  within : l.at ≤ length l.columns;
  many : length l.tokens.items ≤ length l.fn.tokens.items + l.at;
}

abbrev pub decreases-reading : goal.decreases-reading
decreases-reading l = length l.columns - l.at
