use Rattle.std.proofs.Common.{◌≡◌, refl, ℕ, ◌+◌, ◌<◌, List, [], ◌∷◌, ◌++◌, length, map, drop, get_or, append_assoc, append-nil, sym, ap, ◌∙◌, arith}
use Rattle.algol_tree.specs.declared.tree.Pair.{Pair}
use Rattle.algol_tree.specs.Plain.{PPair}
use Rattle.algol_meaning.specs.Value as plain
use Rattle.algol_meaning.specs.Arrays as arrays
use Rattle.algol_meaning.specs.SeenTree.{pair, pairs}
use Rattle.algol_cells.specs.SeenValue.{value}
use Rattle.algol_cells.specs.SeenCell as seen
use Rattle.algol_cells.specs.declared.value.Value.{Value}
use Rattle.b67_list.proofs.Lists.{drop_read}
use Rattle.algol_step.proofs.making.push_all_bounds.Goals as goal

bounds_next :
    (done new : List plain.Bounds) (ps : List Pair) (i : ℕ) (p : Pair) (left rest : List Value) (v : Value) (all : List plain.Bounds)
    → i < length ps → p ≡ get_or ps i p → left ≡ v ∷ rest
    → new ≡ done ++ record { low = (pair p).low; high = plain.whole_of (value v) } ∷ []
    → done ++ arrays.bounds_of (pairs (drop i ps)) (map value left) ≡ all
    → new ++ arrays.bounds_of (pairs (drop (i + 1) ps)) (map value rest) ≡ all
bounds_next done new ps i p left rest v all h is e pushed inv =
    let r : List plain.Bounds = arrays.bounds_of (pairs (drop (i + 1) ps)) (map value rest) in
    let b : plain.Bounds = record { low = (pair p).low; high = plain.whole_of (value v) } in
    ap (λ (xs : List plain.Bounds). xs ++ r) pushed
    ∙ append_assoc done (b ∷ []) r
    ∙ ap (λ (qs : List Pair). done ++ arrays.bounds_of (pairs qs) (map value (v ∷ rest))) (sym (drop_read ps i p h is))
    ∙ ap (λ (vs : List Value). done ++ arrays.bounds_of (pairs (drop i ps)) (map value vs)) (sym e)
    ∙ inv

-- where no value is left
none_left : (qs : List PPair) → arrays.bounds_of qs [] ≡ []
none_left [] = refl
none_left (q ∷ qs) = refl

ended : (done : List plain.Bounds) (qs : List PPair) (left : List Value) (all : List plain.Bounds) → length left ≡ 0 → done ++ arrays.bounds_of qs (map value left) ≡ all → done ≡ all
ended done qs [] all e inv = sym (append-nil done) ∙ ap (λ (bs : List plain.Bounds). done ++ bs) (sym (none_left qs)) ∙ inv
ended done qs (v ∷ left) all e inv = absurd (omega arith)

pub pairing-preserved : goal.pairing-preserved
pairing-preserved c =
    bounds_next (map seen.bounds c.pairing.bounds.items) _ c.args.pairs.now c.pairing.pair-index c.pair-item.result
    c.pairing.left.now c.in-Some.further.now c.in-Some.high.now _ c.pairing-test.true c.pair-item.is c.in-Some.ensures.cases.0
    c.in_ok-push_bounds-in-Some.ensures c.pairing.invariant

pub returns-in-None : goal.returns-in-None
returns-in-None c = ended (map seen.bounds c.pairing.bounds.items) (pairs (drop c.pairing.pair-index c.args.pairs.now)) c.pairing.left.now _ c.in-None.ensures.cases c.pairing.invariant
