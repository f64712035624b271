use Rattle.std.proofs.Common.{◌≡◌, ℕ, List, take}
use Rattle.std.specs.List.{flat_map}
use Rattle.b67_console.proofs.texts.joined.Given as goal

abbrev pub invariant-texts : goal.invariant-texts
invariant-texts l = l.text.items ≡ flat_map (λ (one : List ℕ). one) (take l.one-index l.texts)
