use Rattle.std.proofs.Common.{◌≡◌, ◌+◌}
use Rattle.b67_table.specs.Look.{look_seen}
use Rattle.b67_going.specs.Paths.{met, needed}
use Rattle.b67_going.proofs.paths.met.Given as goal

abbrev pub invariant-down : goal.invariant-down
invariant-down g l = record {
  rest : look_seen (g.C.Core.stacks l.fn.core) (met (l.fn.from.at + 1) (needed (g.C.Core.stacks l.fn.core) l.fn.needs) l.fn.from) ≡ look_seen (g.C.Core.stacks l.fn.core) (met l.steps (needed (g.C.Core.stacks l.fn.core) l.fn.needs) l.frame);
}

abbrev pub decreases-down : goal.decreases-down
decreases-down g l = l.steps
