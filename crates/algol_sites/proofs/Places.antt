-- The faults of labels, as they are noted.
use Rattle.std.proofs.Common.{◌≡◌, ℕ, ◌+◌, ◌<◌, ◌≤◌, List, ◌∷◌, length, drop, get_or, Option, ap, sym, ◌∙◌, arith, drop-cons, suc}
use Rattle.std.specs.declared.alloc.Global.{Global}
use Rattle.std.specs.declared.vec.Vec.{Vec}
use Rattle.std.specs.BTreeMap.{BTreeMap}
use Rattle.algol_tree.specs.declared.token.Spot.{Spot}
use Rattle.algol_tree.specs.declared.refusal.Fault.{Fault}
use Rattle.algol_tree.specs.Accepted.{noted_all}
use Rattle.algol_rules.proofs.Order.{noted_all_append}
use Rattle.b67_list.proofs.Lists.{drop_past}
use Rattle.algol_sites.specs.declared.label.Standing.{Standing}
use Rattle.algol_sites.specs.Labelling.{places_in, those_of, away, label_again, bad_at, bad_in}

-- all places of a label were looked at
pub standings_done : (spot : Spot) (ss : List Standing) (s : Standing) (rest : List Standing) (i : ℕ) (f g h : Option Fault) → ss ≡ s ∷ rest → g ≡ noted_all f (away ss) →
    length rest ≤ i → noted_all h (label_again (drop i rest)) ≡ noted_all g (label_again rest) → h ≡ noted_all f (bad_at spot ss)
standings_done spot ss s rest i f g h e p l q =
    sym (ap (λ xs. noted_all h (label_again xs)) (drop_past rest i l)) ∙ q ∙ ap (λ o. noted_all o (label_again rest)) (p ∙ ap (λ xs. noted_all f (away xs)) e)
    ∙ sym (noted_all_append f (away (s ∷ rest)) (label_again rest)) ∙ sym (ap (λ xs. noted_all f (bad_at spot xs)) e)

-- one more label
pub labels_step : (all : List Standing) (ls : List Spot) (i : ℕ) (d : Spot) (table : BTreeMap Spot (Vec Standing Global)) (f g : Option Fault) → i < length ls →
    ((spot : Spot) → places_in table spot ≡ those_of all spot) → g ≡ noted_all f (bad_at (get_or ls i d) (places_in table (get_or ls i d))) →
    noted_all g (bad_in all (drop (i + 1) ls)) ≡ noted_all f (bad_in all (drop i ls))
labels_step all ls i d table f g h told q =
    let l = get_or ls i d in
    let next : suc i ≡ i + 1 = omega arith in
    ap (λ o. noted_all o (bad_in all (drop (i + 1) ls))) (q ∙ ap (λ zs. noted_all f (bad_at l zs)) (told l))
    ∙ sym (noted_all_append f (bad_at l (those_of all l)) (bad_in all (drop (i + 1) ls)))
    ∙ sym (ap (λ zs. noted_all f (bad_in all zs)) (drop-cons ls i d h ∙ ap (λ n. l ∷ drop n ls) next))
