use Rattle.std.proofs.Common.{◌≡◌, ◌-◌, ◌≤◌, ◌++◌}
use Rattle.b67_store.specs.Store.{words_of, with_stack}
use Rattle.b67_going.specs.Paths.{some_words}
use Rattle.b67_going.proofs.opens.push_parameters.Given as goal

abbrev pub invariant-parameters : goal.invariant-parameters
invariant-parameters g l = record {
  within : l.index ≤ l.fn.needs.count;
  stacks : g.C.Core.stacks l.core ≡ with_stack (g.C.Core.stacks l.initial.core) l.fn.number (words_of (g.C.Core.stacks l.initial.core) l.fn.number ++ some_words (g.C.Core.stacks l.initial.core) l.fn.needs.stack l.fn.needs.first l.index);
  rows : g.C.Core.rows l.core ≡ g.C.Core.rows l.initial.core;
}

abbrev pub decreases-parameters : goal.decreases-parameters
decreases-parameters g l = l.fn.needs.count - l.index
