use Rattle.b67_table.specs.Starting.{on_path}
use Rattle.b67_going.specs.Paths.{needed}
use Rattle.b67_going.proofs.Leading.{SameTest}
use Rattle.b67_going.proofs.paths.on_path.Given as goal

abbrev pub invariant-stacks : goal.invariant-stacks
invariant-stacks g l = record {
  rest : SameTest (on_path l.initial.left (needed (g.C.Core.stacks l.fn.core) l.fn.needs) l.fn.from) (on_path l.left (needed (g.C.Core.stacks l.fn.core) l.fn.needs) l.frame) (g.C.Core.stacks l.fn.core) l.fn.regs;
}

abbrev pub decreases-stacks : goal.decreases-stacks
decreases-stacks g l = l.left
