use Rattle.std.proofs.Common.{◌≡◌, ◌≤◌, ◌-◌, drop, take, reverse}
use Rattle.b67_store.specs.Store.{words_of}
use Rattle.b67_action.proofs.own.take_words.Given as goal

abbrev pub invariant-taking : goal.invariant-taking
invariant-taking g l = record {
  low : l.fn.base ≤ l.at;
  high : l.at ≤ l.fn.regs.s;
  words : l.words ≡ reverse (drop l.fn.base (take l.at (words_of (g.C.Core.stacks l.fn.core) l.fn.regs.stack)));
}

abbrev pub decreases-taking : goal.decreases-taking
decreases-taking g l = l.fn.regs.s - l.at
