-- A map from places to numbers after one more place before the others.
use Rattle.std.proofs.Common.{◌≡◌, ℕ, ◌+◌, ◌-◌, ◌<◌, ◌≤◌, cond, ◌&&◌, eqb, List, ◌∷◌, length, drop, get_or, Some, ap, sym, ◌∙◌, subst, suc, arith, drop-cons}
use Rattle.std.specs.BTreeMap.{BTreeMap, UpdatesBy, get_by, is_at}
use Rattle.std.specs.Ordering.{nat_cmp, ordering_then, is_eq}
use Rattle.std.proofs.lemmas.Bool.Decides.{nat_tests}
use Rattle.algol_tree.specs.declared.token.Spot.{Spot}
use Rattle.algol_tree.specs.Blocks.{same_spot}
use Rattle.algol_places.specs.Numbered.{place_order, PlaceNumbers}

equal_answer : (a b c d : ℕ) → is_eq (ordering_then (nat_cmp a b) (nat_cmp c d)) ≡ (eqb c d && eqb a b)
equal_answer a b c d = grind (arith, nat_tests)

order_same : (p q : Spot) → is_at (place_order p) q ≡ same_spot p q
order_same p q = equal_answer p.line q.line p.column q.column

put_before : (m n : BTreeMap Spot ℕ) (k : ℕ) (p : Spot) (ps : List Spot) → PlaceNumbers m (k + 1) ps → UpdatesBy place_order (place_order p) m n (Some k) → PlaceNumbers n k (p ∷ ps)
put_before m n k p ps told u spot =
    u.0 spot ∙ ap (λ b. cond b (Some k) (get_by (place_order spot) m)) (order_same p spot) ∙ ap (λ o. cond (same_spot p spot) (Some k) o) (told spot)

-- the place before those that are numbered is numbered
pub numbered_before : (m n : BTreeMap Spot ℕ) (ps : List Spot) (i : ℕ) (d : Spot) → 0 < i → i ≤ length ps → PlaceNumbers m i (drop i ps) →
    UpdatesBy place_order (place_order (get_or ps (i - 1) d)) m n (Some (i - 1)) → PlaceNumbers n (i - 1) (drop (i - 1) ps)
numbered_before m n ps i d low high told u =
    let k = i - 1 in
    let next : i ≡ suc k = omega (arith, low) in
    let again : i ≡ k + 1 = omega (arith, low) in
    let h : k < length ps = omega (arith, low, high) in
    let P : ℕ → Type 0 = λ j. PlaceNumbers m i (drop j ps) in
    let R : ℕ → Type 0 = λ j. PlaceNumbers m j (drop (suc k) ps) in
    let Q : List Spot → Type 0 = λ zs. PlaceNumbers n k zs in
    let moved : PlaceNumbers m (k + 1) (drop (suc k) ps) = subst R again (subst P next told) in
    subst Q (sym (drop-cons ps k d h)) (put_before m n k (get_or ps k d) (drop (suc k) ps) moved u)
