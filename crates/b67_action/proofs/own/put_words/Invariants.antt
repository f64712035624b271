use Rattle.std.proofs.Common.{◌≡◌, ◌≤◌, ◌++◌, length, drop, take, reverse}
use Rattle.b67_store.specs.Store.{words_of, with_stack}
use Rattle.b67_action.proofs.own.put_words.Given as goal

abbrev pub invariant-putting : goal.invariant-putting
invariant-putting g l = record {
  some : l.count ≤ length l.fn.words;
  stacks : g.C.Core.stacks l.core ≡ with_stack (g.C.Core.stacks l.fn.core) l.fn.stack (take l.fn.base (words_of (g.C.Core.stacks l.fn.core) l.fn.stack) ++ reverse (drop l.count l.fn.words));
  rows : g.C.Core.rows l.core ≡ g.C.Core.rows l.fn.core;
}

abbrev pub decreases-putting : goal.decreases-putting
decreases-putting g l = l.count
