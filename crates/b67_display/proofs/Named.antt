-- A display in which a frame is named at a level, and nothing above.
use Rattle.std.proofs.Common.{◌≡◌, refl, sym, ap, ◌∙◌, ℕ, zero, suc, ◌+◌, ◌-◌, ◌≤◌, List, [], ◌∷◌, ◌++◌, length, take, drop, replicate, set, Option, Some, None, arith}
use Rattle.std.proofs.lemmas.List.{set_split, drop-replicate}
use Rattle.b67_word.specs.declared.Place.{Place}
use Rattle.b67_display.specs.Shown.{shown_at}

dropped_twice : (n m : ℕ) (d : List (Option Place)) → drop (n + m) d ≡ drop m (drop n d)
dropped_twice zero m d = ap (λ (k : ℕ). drop k d) (omega arith)
dropped_twice (suc n) m [] =
    let n_is : suc n + m ≡ suc (n + m) = omega arith in ap (λ (k : ℕ). drop {A = Option Place} k []) n_is ∙ sym (nothing m)
  where
    nothing : (k : ℕ) → ◌≡◌ {A = List (Option Place)} (drop k []) []
    nothing zero = refl
    nothing (suc k) = refl
dropped_twice (suc n) m (x ∷ d) =
    let n_is : suc n + m ≡ suc (n + m) = omega arith in ap (λ (k : ℕ). drop k (x ∷ d)) n_is ∙ dropped_twice n m d

-- nothing is named above a higher level, and so above this one
none_above : (d : List (Option Place)) (level at : ℕ) → at ≤ level → level ≤ 31 → drop (at + 1) d ≡ replicate (32 - (at + 1)) None
    → drop (suc level) d ≡ replicate (32 - (level + 1)) None
none_above d level at h k e =
    let n_is : suc level ≡ at + 1 + (level - at) = omega (arith, h) in
    let m_is : 32 - (at + 1) - (level - at) ≡ 32 - (level + 1) = omega (arith, h, k) in
    ap (λ (n : ℕ). drop n d) n_is ∙ dropped_twice (at + 1) (level - at) d ∙ ap (λ (z : List (Option Place)). drop (level - at) z) e
    ∙ drop-replicate (level - at) (32 - (at + 1)) None ∙ ap (λ (n : ℕ). replicate {A = Option Place} n None) m_is

pub shown_there : (d old : List (Option Place)) (top : Place) (level at : ℕ) → at ≤ level → level ≤ 31 → length d ≡ 32 → take level d ≡ take level old
    → drop (at + 1) d ≡ replicate (32 - (at + 1)) None → set d level (Some top) ≡ shown_at old top level
shown_there d old top level at h k size front ends =
    set_split d level (Some top) (omega (arith, size, k))
    ∙ ap (λ (z : List (Option Place)). z ++ Some top ∷ drop (suc level) d) front
    ∙ ap (λ (z : List (Option Place)). take level old ++ Some top ∷ z) (none_above d level at h k ends)
