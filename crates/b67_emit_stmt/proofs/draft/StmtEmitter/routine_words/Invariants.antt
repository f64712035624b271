use Rattle.std.proofs.Common.{◌≡◌, ◌+◌, ◌*◌, ◌≤◌}
use Rattle.b67_segment.specs.Operators.{size}
use Rattle.b67_emit_stmt.proofs.Worded.{WordsLeft}
use Rattle.b67_emit_stmt.proofs.draft.StmtEmitter.routine_words.Given as goal

abbrev pub invariant-words : goal.invariant-words
invariant-words g l = record {
  level : l.out.level ≡ l.fn.out.level;
  short : size l.out.operators ≤ size l.fn.out.operators + 12 * l.number;
  code : WordsLeft l.self.known.now l.self.level l.actuals l.places l.number l.fn.out l.out;
}
