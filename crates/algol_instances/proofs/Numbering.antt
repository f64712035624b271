-- Laws of lists whose items are numbered from 1.
use Rattle.std.proofs.Common.{arith, ◌≡◌, refl, ℕ, zero, suc, ◌<◌, ◌≤◌, List, [], ◌∷◌, length, map, ap, sym, ◌∙◌, Some, None, slice_get, slice_set, get_or, option_map}
use Rattle.std.proofs.lemmas.List.{map-set}
use Rattle.std.proofs.lemmas.Option.{slice_get-map, slice_get-get_or, slice_get_past}
use Rattle.b67_list.specs.Numbered.{numbered, set_numbered}
use Rattle.algol_instances.specs.SeenInstance.{place_of_number}

module _ {A B : Type 0} where
  pub get_place :
      (xs : List A) (f : A → B) (n k : ℕ) (x : A) → Some k ≡ place_of_number n → k < length xs → x ≡ get_or xs k x
      → numbered (map f xs) n ≡ Some (f x)
  get_place xs f zero k x e within is = cc
  get_place xs f (suc j) k x e within is =
      let same : k ≡ j = cc in
      slice_get-map f xs j ∙ ap (λ (i : ℕ). option_map f (slice_get xs i)) (sym same)
      ∙ ap (option_map f) (slice_get-get_or xs k x within) ∙ ap (λ (y : A). Some (f y)) (sym is)

  pub set_place :
      (xs : List A) (f : A → B) (n k : ℕ) (x : A) → Some k ≡ place_of_number n → map f (slice_set xs k x) ≡ set_numbered (map f xs) n (f x)
  set_place xs f zero k x e = cc
  set_place xs f (suc j) k x e =
      let same : k ≡ j = cc in
      map-set f xs k x ∙ ap (λ (i : ℕ). slice_set (map f xs) i (f x)) same

pub set_none : {A : Type 0} (xs : List A) (n : ℕ) (x : A) → numbered xs n ≡ None → set_numbered xs n x ≡ xs
set_none [] zero x e = refl
set_none [] (suc k) x e = refl
set_none (y ∷ xs) zero x e = refl
set_none (y ∷ xs) (suc zero) x e = cc
set_none (y ∷ xs) (suc (suc k)) x e = ap (λ (z : _). y ∷ z) (set_none xs (suc k) x e)

-- ---- maps

pub map_get_none : {A B : Type 0} (f : A → B) (xs : List A) (k : ℕ) → None ≡ slice_get xs k → None ≡ slice_get (map f xs) k
map_get_none f xs k e = ap (option_map f) e ∙ sym (slice_get-map f xs k)

pub map_get_some :
    {A B : Type 0} (f : A → B) (xs : List A) (k : ℕ) (x : A) → Some x ≡ slice_get xs k → Some (f x) ≡ slice_get (map f xs) k
map_get_some f xs k x e = ap (option_map f) e ∙ sym (slice_get-map f xs k)

pub ruleset mapping = (map_get_none, map_get_some)

-- ---- no item of that number

pub unchanged :
    {A B : Type 0} (xs : List A) (f : A → B) (n k : ℕ) (y : B) → Some k ≡ place_of_number n → length xs ≤ k
    → map f xs ≡ set_numbered (map f xs) n y
unchanged xs f zero k y e past = cc
unchanged xs f (suc j) k y e past =
    let same : k ≡ j = cc in
    let more : length xs ≤ j = omega arith in
    sym (set_none (map f xs) (suc j) y (slice_get-map f xs j ∙ ap (option_map f) (slice_get_past xs j more)))

-- ---- the item of a number

pub numbered_none : {A : Type 0} (xs : List A) (n : ℕ) → None ≡ place_of_number n → None ≡ numbered xs n
numbered_none xs zero e = refl
numbered_none xs (suc k) e = cc

pub numbered_at : {A : Type 0} (xs : List A) (n k : ℕ) → Some k ≡ place_of_number n → slice_get xs k ≡ numbered xs n
numbered_at xs zero k e = cc
numbered_at xs (suc j) k e = let same : k ≡ j = cc in ap (slice_get xs) same

pub ruleset numbers = (numbered_none, numbered_at, map_get_none, map_get_some)
