use Rattle.std.proofs.Common.{drop}
use Rattle.b67_segment.specs.Building.{level_set}
use Rattle.b67_emit_stmt.proofs.Made.{MadeKept}
use Rattle.b67_emit_stmt.proofs.draft.StmtEmitter.make_all.Given as goal

abbrev pub invariant-decls : goal.invariant-decls
invariant-decls g l = MadeKept l.self.known.now l.fn.out l.out l.ds (drop l.d-index l.ds) (level_set l.fn.out)
