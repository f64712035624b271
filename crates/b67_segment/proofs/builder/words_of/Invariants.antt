use Rattle.std.proofs.Common.{◌≡◌, ◌*◌, ◌^◌, ◌<◌, take, All}
use Rattle.b67_segment.specs.Syllables.{syllables}
use Rattle.b67_segment.proofs.builder.words_of.Given as goal

abbrev pub invariant-loop-index : goal.invariant-loop-index
invariant-loop-index l = record {
  code : syllables l.words.items ≡ take (6 * l.index) l.code;
  small : All (λ word. word < 2 ^ 48) l.words.items;
}
