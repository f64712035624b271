-- The uses of names that are found one after the other.
use Rattle.std.proofs.Common.{arith, ◌≡◌, ℕ, suc, ◌+◌, ◌<◌, List, ◌∷◌, ◌++◌, length, drop, get_or, drop-cons, sym, ap, ◌∙◌, append_assoc}
use Rattle.std.specs.List.{flat_map}
use Rattle.algol_tree.specs.Scopes.{Use}
use Rattle.algol_names.specs.declared.found.Found.{Found}

-- one more name
pub uses_step : (told : Found → List Use) (fs : List Found) (i : ℕ) (f : Found) (old new : List Use) → i < length fs → f ≡ get_or fs i f → new ≡ old ++ told f →
    new ++ flat_map told (drop (i + 1) fs) ≡ old ++ flat_map told (drop i fs)
uses_step told fs i f old new h e n =
    let next : suc i ≡ i + 1 = omega arith in
    let split : drop i fs ≡ f ∷ drop (i + 1) fs = drop-cons fs i f h ∙ ap (λ (g : Found). g ∷ drop (suc i) fs) (sym e) ∙ ap (λ (k : ℕ). f ∷ drop k fs) next in
    ap (λ (z : List Use). z ++ flat_map told (drop (i + 1) fs)) n ∙ append_assoc old (told f) (flat_map told (drop (i + 1) fs))
    ∙ ap (λ (gs : List Found). old ++ flat_map told gs) (sym split)
