use Rattle.std.proofs.Common.{◌≡◌, ◌+◌, ◌*◌, ◌-◌, length, take}
use Rattle.algol_tree.specs.Image.{stmts}
use Rattle.b67_emit_stmt.specs.Places.{Place}
use Rattle.b67_segment.specs.Operators.{size}
use Rattle.b67_segment.specs.Building.{level_set}
use Rattle.b67_emit_stmt.specs.Fits.{EmittedStmtsFit}
use Rattle.b67_emit_stmt.specs.Drafts.{AddsStmts, Emits}
use Rattle.b67_emit_stmt.specs.Lengths.{stmts_syllables}
use Rattle.b67_emit_stmt.proofs.Cases.{Midcase}
use Rattle.b67_emit_stmt.proofs.Listed.{StandTogether}
use Rattle.b67_emit_stmt.proofs.draft.StmtEmitter.+statements.Given as goal

-- the statements that are done
abbrev pub invariant-stmts-statements : goal.invariant-stmts-statements
invariant-stmts-statements g l = record {
  code : (sc : Place) → EmittedStmtsFit sc l.self.known.now (level_set l.fn.to.out) (stmts l.ss) →
      Emits (stmts_syllables l.self.known.now (stmts (take l.s-index l.ss))) l.fn.to l.to (StandTogether sc (level_set l.fn.to.out) (take l.s-index l.ss) l.fn.to l.to);
  lines : AddsStmts l.fn.to l.to (stmts (take l.s-index l.ss));
}

-- the next branch of the table, and the statements that are done
abbrev pub invariant-cases-statements : goal.invariant-cases-statements
invariant-cases-statements g l = record {
  entry : l.entry ≡ size l.fn.to.out.operators + 3 * l.s-index;
  code : (sc : Place) → EmittedStmtsFit sc l.self.known.now (level_set l.fn.to.out) (stmts l.ss) →
      Midcase l.self.known.now sc (level_set l.fn.to.out) (take l.s-index l.ss) (length l.ss - l.s-index) l.fn.to l.initial.to l.to;
  lines : AddsStmts l.fn.to l.to (stmts (take l.s-index l.ss));
}
