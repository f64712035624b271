use Rattle.std.proofs.Common.{◌≡◌}
use Rattle.b67_table.specs.Look.{look_seen}
use Rattle.b67_table.specs.Chains.{entered_below, entered_from}
use Rattle.b67_linkage.proofs.exits.entered_below.Given as goal

abbrev pub invariant-down : goal.invariant-down
invariant-down g l = record {
  rest : look_seen (g.C.Core.stacks l.fn.core) (entered_below l.fn.stack l.fn.start) ≡ look_seen (g.C.Core.stacks l.fn.core) (entered_from l.steps l.fn.stack l.here);
}

abbrev pub decreases-down : goal.decreases-down
decreases-down g l = l.steps
