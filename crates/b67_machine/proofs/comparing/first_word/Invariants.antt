use Rattle.std.proofs.Common.{◌≡◌, ◌-◌, ◌≤◌, length, drop, take, reverse}
use Rattle.b67_store.specs.Store.{words_of}
use Rattle.b67_machine.proofs.comparing.first_word.Given as goal

abbrev pub invariant-words : goal.invariant-words
invariant-words g l = record {
  within : l.position ≤ length l.fn.given;
  before : take l.position (reverse (drop (l.fn.regs.s - length l.fn.given) (words_of (g.C.Core.stacks l.fn.core) l.fn.regs.stack))) ≡ take l.position l.fn.given;
}
