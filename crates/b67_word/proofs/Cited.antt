-- Facts that several crates cite.
use Rattle.std.proofs.Common.{List, [], arith, length, refl, ◌++◌, ◌+◌, ◌∷◌, ◌≡◌}
use Rattle.b67_word.specs.Word.{Word}

pub one_longer : (made : List Word) (w : Word) → length (made ++ w ∷ []) ≡ length made + 1
one_longer [] w = refl
one_longer (v ∷ made) w = omega (arith, one_longer made w)
