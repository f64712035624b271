use Rattle.std.proofs.Common.{◌≡◌, ◌-◌, ◌≤◌, take, length}
use Rattle.b67_store.specs.Store.{opened_at}
use Rattle.b67_load.proofs.opening.open_with.Given as goal

abbrev pub invariant-words : goal.invariant-words
invariant-words g l = record {
  within : l.index ≤ length l.fn.words;
  stacks : g.C.Core.stacks l.core ≡ opened_at (g.C.Core.stacks l.fn.core) l.fn.stack (take l.index l.fn.words);
  rows : g.C.Core.rows l.core ≡ g.C.Core.rows l.initial.core;
}

abbrev pub decreases-words : goal.decreases-words
decreases-words g l = length l.fn.words - l.index
