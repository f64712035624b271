use Rattle.std.proofs.Common.{◌-◌, ◌≡◌, ◌≤◌, ◌+◌, drop}
use Rattle.b67_word.specs.declared.Place.{Place}
use Rattle.b67_table.specs.Look.{look_seen}
use Rattle.b67_table.specs.Chains.{links, linked}
use Rattle.b67_display.specs.Shown.{shown_at}
use Rattle.b67_display.proofs.showing.links_as.Given as goal

abbrev pub invariant-comparing : goal.invariant-comparing
invariant-comparing g l = record {
  from : 1 ≤ l.below;
  to : l.below + 1 ≤ l.fn.level;
  rest : (top : Place) → look_seen (g.C.Core.stacks l.fn.core) (linked top l.initial.link l.fn.level) ≡ look_seen (g.C.Core.stacks l.fn.core) (links (l.below - 1) l.link (drop (l.below + 1) (shown_at l.fn.display top l.fn.level)));
}

abbrev pub decreases-comparing : goal.decreases-comparing
decreases-comparing g l = l.below - 1
