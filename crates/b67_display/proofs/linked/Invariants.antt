use Rattle.std.proofs.Common.{◌-◌, ◌≡◌, ◌+◌, ◌≤◌, None, length, replicate, ◌++◌, drop}
use Rattle.b67_table.specs.Look.{look_seen}
use Rattle.b67_table.specs.Chains.{links, linked}
use Rattle.b67_display.proofs.linked.Given as goal

abbrev pub invariant-linking : goal.invariant-linking
invariant-linking g l = record {
  from : 1 ≤ l.below;
  to : l.below ≤ 30;
  len : length l.display ≡ 32;
  unknown : l.display ≡ replicate (l.below + 1) None ++ drop (l.below + 1) l.display;
  rest : look_seen (g.C.Core.stacks l.fn.core) (linked l.fn.top l.initial.link l.fn.level) ≡ look_seen (g.C.Core.stacks l.fn.core) (links (l.below - 1) l.link (drop (l.below + 1) l.display));
}

abbrev pub decreases-linking : goal.decreases-linking
decreases-linking g l = l.below - 1
