use Rattle.std.proofs.Common.{◌≡◌, ℕ, ◌+◌, ◌<◌, ◌≤◌, length, drop}
use Rattle.std.specs.List.{All}
use Rattle.b67_segment.specs.declared.TheConstants.{MOST_SEGMENT_SYLLABLES}
use Rattle.b67_segment.specs.Operators.{size}
use Rattle.b67_emit_stmt.specs.Actuals.{images}
use Rattle.b67_emit_stmt.specs.Lengths.{routines_syllables}
use Rattle.b67_emit_stmt.proofs.Coded.{CodesLeft}
use Rattle.b67_emit_stmt.proofs.draft.StmtEmitter.codes.Given as goal

abbrev pub invariant-actuals : goal.invariant-actuals
invariant-actuals g l = record {
  level : l.out.level ≡ l.fn.out.level;
  many : length l.places.items ≡ l.actual-index;
  places : All (λ (at : ℕ). at < MOST_SEGMENT_SYLLABLES) l.places.items;
  short : size l.out.operators + routines_syllables l.self.known.now (images (drop l.actual-index l.actuals)) ≤ size l.fn.out.operators + routines_syllables l.self.known.now (images l.actuals);
  code : CodesLeft l.self.known.now l.self.level l.actuals l.actual-index l.fn.out l.out l.places.items;
}
