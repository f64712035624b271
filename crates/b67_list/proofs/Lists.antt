-- Lists: what stands at a place, what a write changes, and parts.
use Rattle.std.proofs.Common.{List, None, Some, [], ap, arith, drop, drop-cons, get_or, inl, inr, length, map, refl, set, subst, suc, sym, take, zero, ℕ, ◌++◌, ◌+◌, ◌-◌, ◌<◌, ◌∙◌, ◌∷◌, ◌≡◌, ◌≢◌, ◌≤◌, ◌⊎◌}
use Rattle.std.proofs.Math.Seq.{take-append_seam}
use Rattle.std.proofs.lemmas.Option.{none-some, same_Some}
use Rattle.std.specs.List.{AllByRecursion}
use Rattle.std.specs.Prelude.{slice_get, slice_set}

pub drop_read : {A : Type 0} (xs : List A) (i : ℕ) (x : A) → i < length xs → x ≡ get_or xs i x → drop i xs ≡ x ∷ drop (i + 1) xs
drop_read xs i x h e =
    let next : suc i ≡ i + 1 = omega arith in
    drop-cons xs i x h ∙ ap (λ y. y ∷ drop (suc i) xs) (sym e) ∙ ap (λ n. x ∷ drop n xs) next

pub drop_past : {A : Type 0} (xs : List A) (i : ℕ) → length xs ≤ i → drop i xs ≡ []
drop_past [] zero h = refl
drop_past [] (suc i) h = refl
drop_past (x ∷ xs) zero h = absurd (omega arith)
drop_past (x ∷ xs) (suc i) h = drop_past xs i (omega arith)

pub get_front : {A : Type 0} (xs ys : List A) (k : ℕ) (x : A) → slice_get xs k ≡ Some x → slice_get (xs ++ ys) k ≡ Some x
get_front [] ys k x e = cc
get_front (z ∷ xs) ys zero x e = e
get_front (z ∷ xs) ys (suc k) x e = get_front xs ys k x e

pub get_set_other : {X : Type 0} (xs : List X) (n k : ℕ) (x : X) → k ≢ n → slice_get (set xs n x) k ≡ slice_get xs k
get_set_other [] n k x h = refl
get_set_other (y ∷ ys) zero zero x h = absurd (h refl)
get_set_other (y ∷ ys) zero (suc k) x h = refl
get_set_other (y ∷ ys) (suc n) zero x h = refl
get_set_other (y ∷ ys) (suc n) (suc k) x h = get_set_other ys n k x (λ (e : k ≡ n). h (ap suc e))

pub drop_read_or : {A : Type 0} (xs : List A) (i : ℕ) (x : A) → i < length xs → drop i xs ≡ get_or xs i x ∷ drop (i + 1) xs
drop_read_or xs i x h = let next : suc i ≡ i + 1 = omega arith in drop-cons xs i x h ∙ ap (λ n. get_or xs i x ∷ drop n xs) next

pub length_set : {A : Type 0} (xs : List A) (k : ℕ) (x : A) → length (slice_set xs k x) ≡ length xs
length_set [] k x = refl
length_set (y ∷ xs) zero x = refl
length_set (y ∷ xs) (suc k) x = ap suc (length_set xs k x)

pub get_within : {X : Type 0} (xs : List X) (n : ℕ) (x : X) → slice_get xs n ≡ Some x → n < length xs
get_within [] n x e = let h : None ≡ Some x = e in absurd cc
get_within (y ∷ xs) zero x e = omega arith
get_within (y ∷ xs) (suc n) x e = omega (arith, get_within xs n x e)

pub empty_if_none : {X : Type 0} (xs : List X) → length xs ≡ 0 → xs ≡ []
empty_if_none [] e = refl
empty_if_none (x ∷ xs) e = absurd (omega (arith, e))

pub same_head : (a b : ℕ) (xs ys : List ℕ) → a ∷ xs ≡ b ∷ ys → a ≡ b
same_head a b xs ys e = cc

pub drop_next : (h : List ℕ) (i p : ℕ) → slice_get h i ≡ Some p → drop i h ≡ p ∷ drop (suc i) h
drop_next [] i p e = absurd (none-some p e)
drop_next (q ∷ h) zero p e = ap (λ (z : ℕ). z ∷ h) (same_Some q p e)
drop_next (q ∷ h) (suc i) p e = drop_next h i p e

pub append_none_left : {X : Type 0} (xs ys : List X) → xs ++ ys ≡ [] → xs ≡ []
append_none_left [] ys h = refl
append_none_left (x ∷ xs) ys h = absurd (let clash : x ∷ (xs ++ ys) ≡ [] = h in cc)

pub append_none_right : {X : Type 0} (xs ys : List X) → xs ++ ys ≡ [] → ys ≡ []
append_none_right [] ys h = h
append_none_right (x ∷ xs) ys h = absurd (let clash : x ∷ (xs ++ ys) ≡ [] = h in cc)

pub no_longer : {X : Type 0} (xs : List X) (k : ℕ) → slice_get xs k ≡ None → length xs ≤ k
no_longer [] k h = omega arith
no_longer (x ∷ xs) zero h = absurd (let clash : Some x ≡ None = h in cc)
no_longer (x ∷ xs) (suc k) h = omega (arith, no_longer xs k h)

pub each_both : {X : Type 0} (P : X → Type 0) (xs ys : List X) → AllByRecursion P xs → AllByRecursion P ys → AllByRecursion P (xs ++ ys)
each_both {X} P [] ys h k = k
each_both {X} P (x ∷ xs) ys h k = (h.0, each_both P xs ys h.1 k)

pub each_front : {X : Type 0} (P : X → Type 0) (xs ys : List X) → AllByRecursion P (xs ++ ys) → AllByRecursion P xs
each_front {X} P [] ys h = tt
each_front {X} P (x ∷ xs) ys h = (h.0, each_front P xs ys h.1)

pub each_back : {X : Type 0} (P : X → Type 0) (xs ys : List X) → AllByRecursion P (xs ++ ys) → AllByRecursion P ys
each_back {X} P [] ys h = h
each_back {X} P (x ∷ xs) ys h = each_back P xs ys h.1

pub each_at : {X : Type 0} (P : X → Type 0) (xs : List X) (i : ℕ) (x : X) → AllByRecursion P xs → slice_get xs i ≡ Some x → P x
each_at P [] i x h e = absurd (let clash : None ≡ Some x = e in cc)
each_at P (y ∷ xs) zero x h e = let same : y ≡ x = cc in subst P same h.0
each_at P (y ∷ xs) (suc i) x h e = each_at P xs i x h.1 e

pub map_last : {A B : Type 0} (f : A → B) (xs : List A) (x : A) → map f (xs ++ x ∷ []) ≡ map f xs ++ f x ∷ []
map_last f [] x = refl
map_last f (y ∷ xs) x = ap (λ (ys : _). f y ∷ ys) (map_last f xs x)

pub length_map : {A B : Type 0} (f : A → B) (xs : List A) → length (map f xs) ≡ length xs
length_map f [] = refl
length_map f (x ∷ xs) = ap (λ (n : ℕ). suc n) (length_map f xs)

pub take_append_ge : (xs ys : List ℕ) (n : ℕ) → length xs ≤ n → take n (xs ++ ys) ≡ xs ++ take (n - length xs) ys
take_append_ge [] ys n h = ap (λ k. take k ys) (omega arith)
take_append_ge (x ∷ xs) ys zero h = absurd (omega arith)
take_append_ge (x ∷ xs) ys (suc n) h =
    let less : n - length xs ≡ suc n - suc (length xs) = omega arith in
    ap (λ zs. x ∷ zs) (take_append_ge xs ys n (omega arith)) ∙ ap (λ k. x ∷ xs ++ take k ys) less

pub take_front : {A : Type 0} (front more : List A) (n : ℕ) → n ≡ length front → take n (front ++ more) ≡ front
take_front front more n e = ap (λ (k : ℕ). take k (front ++ more)) e ∙ take-append_seam front more

pub slice_either : {X : Type 0} (xs ys : List X) (i : ℕ) (x : X) → slice_get (xs ++ ys) i ≡ Some x → (slice_get xs i ≡ Some x) ⊎ ((m : ℕ) × (i ≡ length xs + m) × (slice_get ys m ≡ Some x))
slice_either [] ys i x h = let same : i ≡ 0 + i = omega arith in inr (i, same, h)
slice_either (z ∷ xs) ys zero x h = inl h
slice_either (z ∷ xs) ys (suc i) x h = later (slice_either xs ys i x h)
  where
    later : (slice_get xs i ≡ Some x) ⊎ ((m : ℕ) × (i ≡ length xs + m) × (slice_get ys m ≡ Some x)) →
        (slice_get (z ∷ xs) (suc i) ≡ Some x) ⊎ ((m : ℕ) × (suc i ≡ length (z ∷ xs) + m) × (slice_get ys m ≡ Some x))
    later (inl g) = inl g
    later (inr (m, e, g)) = inr (m, omega (arith, e), g)

pub first_same : {A : Type 0} (x y : A) (xs ys : List A) → x ∷ xs ≡ y ∷ ys → x ≡ y
first_same x y xs ys e = cc

pub set_set_here : {A : Type 0} (xs : List A) (k : ℕ) (x y : A) → slice_set (slice_set xs k x) k y ≡ slice_set xs k y
set_set_here [] k x y = refl
set_set_here (z ∷ xs) ℕ.zero x y = refl
set_set_here (z ∷ xs) (ℕ.suc k) x y = ap (λ zs. z ∷ zs) (set_set_here xs k x y)

pub whole_list : {X : Type 0} (xs : List X) → take (length xs) xs ≡ xs
whole_list [] = refl
whole_list (x ∷ xs) = ap (λ (ys : List _). x ∷ ys) (whole_list xs)

pub drop_map : {X Y : Type 0} (f : X → Y) (xs : List X) (i : ℕ) → map f (drop i xs) ≡ drop i (map f xs)
drop_map {X} {Y} f xs zero = refl
drop_map {X} {Y} f [] (suc i) = refl
drop_map {X} {Y} f (x ∷ xs) (suc i) = drop_map f xs i

pub none_mapped : {X Y : Type 0} (f : X → Y) (xs : List X) → map f xs ≡ [] → xs ≡ []
none_mapped f [] h = refl
none_mapped f (x ∷ xs) h = absurd (let clash : f x ∷ map f xs ≡ [] = h in cc)

pub each_map : {X Y : Type 0} (P : Y → Type 0) (f : X → Y) (xs : List X) → AllByRecursion (λ (x : X). P (f x)) xs → AllByRecursion P (map f xs)
each_map P f [] h = tt
each_map P f (x ∷ xs) h = (h.0, each_map P f xs h.1)
