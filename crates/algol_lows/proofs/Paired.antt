-- The lower bounds of an array, one after the other.
use Rattle.std.proofs.Common.{arith, ◌≡◌, ℕ, ℤ, suc, ◌+◌, ◌<◌, ◌≤◌, List, [], ◌∷◌, ◌++◌, false, length, drop, get_or, drop-cons, append_assoc, append-nil, sym, ap, ◌∙◌}
use Rattle.std.proofs.lemmas.List.{drop_all}
use Rattle.algol_tree.specs.declared.tree.Pair.{Pair}
use Rattle.algol_tree.specs.Image.{pairs}
use Rattle.algol_paths.specs.Arrays.{Lows, lows_of}
use Rattle.algol_lows.specs.Lows.{own_lows}

-- one more
pub pairs_step : (ps : List Pair) (i : ℕ) (p : Pair) (old new all : List ℤ) → i < length ps → p ≡ get_or ps i p → new ≡ old ++ p.low ∷ [] →
    old ++ lows_of (pairs (drop i ps)) ≡ all → new ++ lows_of (pairs (drop (i + 1) ps)) ≡ all
pairs_step ps i p old new all h e m w =
    let next : suc i ≡ i + 1 = omega arith in
    let split : drop i ps ≡ p ∷ drop (i + 1) ps = drop-cons ps i p h ∙ ap (λ (q : Pair). q ∷ drop (suc i) ps) (sym e) ∙ ap (λ (j : ℕ). p ∷ drop j ps) next in
    ap (λ (z : List ℤ). z ++ lows_of (pairs (drop (i + 1) ps))) m ∙ append_assoc old (p.low ∷ []) (lows_of (pairs (drop (i + 1) ps)))
    ∙ ap (λ (qs : List Pair). old ++ lows_of (pairs qs)) (sym split) ∙ w

-- all of them
pub all_paired : (ps : List Pair) (i : ℕ) (found list : List ℤ) → length ps ≤ i → found ++ lows_of (pairs (drop i ps)) ≡ lows_of (pairs ps) → list ≡ found →
    record { list = list; formal = false } ≡ own_lows (pairs ps)
all_paired ps i found list h w e =
    let made : List ℤ → Lows = λ z. record { list = z; formal = false } in
    ap made (e ∙ sym (append-nil found) ∙ ap (λ (qs : List Pair). found ++ lows_of (pairs qs)) (sym (drop_all i ps h)) ∙ w)
