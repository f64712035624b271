-- Places that are noted item by item.
use Rattle.std.proofs.Common.{◌≡◌, ℕ, ◌+◌, ◌<◌, List, [], ◌∷◌, ◌++◌, length, drop, get_or, drop-cons, Option, ap, sym, ◌∙◌, suc, add-one}
use Rattle.std.specs.List.{flat_map}
use Rattle.std.proofs.lemmas.List.{map-append}
use Rattle.algol_tree.specs.declared.token.Spot.{Spot}
use Rattle.algol_tree.specs.declared.refusal.Code.{Code}
use Rattle.algol_tree.specs.declared.refusal.Fault.{Fault}
use Rattle.algol_tree.specs.Accepted.{broken, noted_all}
use Rattle.algol_rules.proofs.Order.{noted_all_append}

pub broken_append : (code : Code) (xs ys : List Spot) → broken code (xs ++ ys) ≡ broken code xs ++ broken code ys
broken_append code xs ys = map-append (λ (spot : Spot). record { spot = spot; code = code }) xs ys

pub noted_broken : (first : Option Fault) (code : Code) (xs ys : List Spot) →
    noted_all first (broken code (xs ++ ys)) ≡ noted_all (noted_all first (broken code xs)) (broken code ys)
noted_broken first code xs ys = ap (noted_all first) (broken_append code xs ys) ∙ noted_all_append first (broken code xs) (broken code ys)

-- one more item of a list of which each has places
pub note_item : {A : Type 0} (code : Code) (f : A → List Spot) (xs : List A) (i : ℕ) (x : A) (now new all : Option Fault) → i < length xs → x ≡ get_or xs i x →
    new ≡ noted_all now (broken code (f x)) → noted_all now (broken code (flat_map f (drop i xs))) ≡ all →
    noted_all new (broken code (flat_map f (drop (i + 1) xs))) ≡ all
note_item code f xs i x now new all h same k inv =
    rw add-one
    (let at : drop i xs ≡ x ∷ drop (suc i) xs = drop-cons xs i x h ∙ ap (λ z. z ∷ drop (suc i) xs) (sym same) in
    ap (λ z. noted_all z (broken code (flat_map f (drop (suc i) xs)))) k ∙ sym (noted_broken now code (f x) (flat_map f (drop (suc i) xs)))
    ∙ ap (λ z. noted_all now (broken code (flat_map f z))) (sym at) ∙ inv)

pub note_end : {A : Type 0} (code : Code) (f : A → List Spot) (xs : List A) (now all : Option Fault) → xs ≡ [] →
    noted_all now (broken code (flat_map f xs)) ≡ all → now ≡ all
note_end code f xs now all h inv = sym (ap (λ z. noted_all now (broken code (flat_map f z))) h) ∙ inv
