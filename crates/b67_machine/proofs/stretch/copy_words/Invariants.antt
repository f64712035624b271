use Rattle.std.proofs.Common.{◌≡◌, ◌≤◌, ◌-◌, length, take}
use Rattle.b67_store.specs.Store.{stack_limit, words_of}
use Rattle.b67_machine.proofs.stretch.copy_words.Given as goal

abbrev pub invariant-copying : goal.invariant-copying
invariant-copying g l = record {
  low : l.at ≤ l.fn.regs.s;
  size : length l.room ≡ stack_limit;
  words : take l.at l.room ≡ take l.at (words_of (g.C.Core.stacks l.fn.core) l.fn.regs.stack);
}

abbrev pub decreases-copying : goal.decreases-copying
decreases-copying g l = l.fn.regs.s - l.at
