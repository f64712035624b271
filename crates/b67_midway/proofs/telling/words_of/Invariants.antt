use Rattle.std.proofs.Common.{◌≡◌, take}
use Rattle.b67_store.specs.Store.{words_of}
use Rattle.b67_midway.proofs.telling.words_of.Given as goal

abbrev pub invariant-words : goal.invariant-words
invariant-words g l = l.words.items ≡ take l.at (words_of l.machine.image.stacks l.regs.stack)
