use Rattle.std.proofs.Common.{◌≡◌, ◌+◌, ◌≤◌, take}
use Rattle.algol_tree.specs.Image.{exprs}
use Rattle.b67_emit_stmt.specs.Lengths.{items_syllables}
use Rattle.b67_emit_stmt.specs.Places.{Later, Place, LineAt}
use Rattle.b67_segment.specs.Operators.{size}
use Rattle.b67_segment.specs.Building.{level_set}
use Rattle.b67_emit_stmt.specs.Fits.{LineFits}
use Rattle.b67_templates.specs.Emitting.{Emitted}
use Rattle.b67_emit_stmt.proofs.draft.StmtEmitter.items.Given as goal

abbrev pub invariant-items : goal.invariant-items
invariant-items g l = record {
  level : l.out.level ≡ l.fn.out.level;
  short : size l.out.operators ≤ size l.fn.out.operators + items_syllables l.self.known.now (exprs (take l.item-index l.items));
  code : (sc : Place) (later : Later) → LineFits sc l.self.known.now (level_set l.fn.out) (exprs l.items) →
      Emitted l.fn.out l.out (λ qs. LineAt sc later qs (level_set l.fn.out) (exprs (take l.item-index l.items)) (size l.fn.out.operators) (size l.out.operators));
}
