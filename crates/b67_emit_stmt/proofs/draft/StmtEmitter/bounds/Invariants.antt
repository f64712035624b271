use Rattle.std.proofs.Common.{◌≡◌, ◌+◌, ◌≤◌, drop}
use Rattle.algol_tree.specs.Image.{pairs}
use Rattle.b67_segment.specs.Operators.{size}
use Rattle.b67_segment.specs.Building.{level_set}
use Rattle.b67_templates.specs.Emitting.{Emitted}
use Rattle.b67_emit_stmt.specs.Lengths.{bounds_syllables}
use Rattle.b67_emit_stmt.specs.Fits.{BoundsFit}
use Rattle.b67_emit_stmt.specs.Places.{Later, Place}
use Rattle.b67_emit_stmt.proofs.Bounds.{BoundsLeft}
use Rattle.b67_emit_stmt.proofs.draft.StmtEmitter.bounds.Given as goal

abbrev pub invariant-pairs : goal.invariant-pairs
invariant-pairs g l = record {
  level : l.out.level ≡ l.fn.out.level;
  short : size l.out.operators + bounds_syllables l.self.known.now (pairs (drop l.pair-index l.pairs)) ≤ size l.fn.out.operators + bounds_syllables l.self.known.now (pairs l.pairs);
  code : (sc : Place) (later : Later) → BoundsFit sc l.self.known.now (level_set l.fn.out) (pairs l.pairs) →
      Emitted l.fn.out l.out (BoundsLeft sc later (level_set l.fn.out) l.pairs (drop l.pair-index l.pairs) l.fn.out l.out);
}
