-- Who is in a list of processes.
use Rattle.std.specs.Prelude.{◌≡◌, ◌⊎◌, ℕ, List, [], ◌∷◌}

abbrev pub IsListed : List ℕ → ℕ → Type 0
IsListed [] p = ⊥
IsListed (x ∷ xs) p = (x ≡ p) ⊎ IsListed xs p

-- each of them stands there once
abbrev pub AreOnce : List ℕ → Type 0
AreOnce [] = Unit {0}
AreOnce (x ∷ xs) = (IsListed xs x → ⊥) × AreOnce xs
