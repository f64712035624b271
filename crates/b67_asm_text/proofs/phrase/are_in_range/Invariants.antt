use Rattle.std.proofs.Common.{◌≡◌, drop}
use Rattle.b67_asm_text.specs.Phrases.{are_in_range, fit_in}
use Rattle.b67_asm_text.proofs.phrase.are_in_range.Given as goal

abbrev pub invariant-phrases : goal.invariant-phrases
invariant-phrases l = fit_in l.left (drop l.phrase-index l.fn.phrases) ≡ are_in_range l.fn.phrases
