use Rattle.std.proofs.Common.{◌≡◌, ◌+◌, ◌-◌, ◌≤◌}
use Rattle.b67_table.specs.Starting.{is_among, named_frames}
use Rattle.b67_going.specs.Paths.{some_words}
use Rattle.b67_going.proofs.paths.parameter_names.Given as goal

abbrev pub invariant-parameters : goal.invariant-parameters
invariant-parameters g l = record {
  within : l.index ≤ l.fn.needs.count;
  rest : is_among (named_frames (some_words (g.C.Core.stacks l.fn.core) l.fn.needs.stack l.fn.needs.first l.fn.needs.count)) l.fn.frame ≡ is_among (named_frames (some_words (g.C.Core.stacks l.fn.core) l.fn.needs.stack (l.fn.needs.first + l.index) (l.fn.needs.count - l.index))) l.fn.frame;
}

abbrev pub decreases-parameters : goal.decreases-parameters
decreases-parameters g l = l.fn.needs.count - l.index
