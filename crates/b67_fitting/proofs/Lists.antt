-- What holds of each element of lists that are joined, and lists that are empty.
use Rattle.std.proofs.Common.{◌≡◌, ◌&&◌, not, Bool, true, false, cond, List, [], ◌∷◌, map, filter, refl, ap, ◌∙◌}
use Rattle.std.specs.List.{flat_map, AllByRecursion}
use Rattle.b67_list.proofs.Lists.{append_none_left, append_none_right}

pub each_of : {X : Type 0} (P Q : X → Type 0) (xs : List X) → ((x : X) → P x → Q x) → AllByRecursion P xs → AllByRecursion Q xs
each_of P Q [] f h = tt
each_of P Q (x ∷ xs) f h = (f x h.0, each_of P Q xs f h.1)

-- nothing is found at any of them
pub nil_each : {X Y : Type 0} (f : X → List Y) (xs : List X) → flat_map f xs ≡ [] → AllByRecursion (λ x. f x ≡ []) xs
nil_each f [] h = tt
nil_each f (x ∷ xs) h = (append_none_left (f x) (flat_map f xs) h, nil_each f xs (append_none_right (f x) (flat_map f xs) h))

-- both tests say yes
pub second_so : (b c : Bool) → not (b && c) ≡ false → c ≡ true
second_so true true h = refl
second_so true false h = absurd (let clash : true ≡ false = h in cc)
second_so false c h = absurd (let clash : true ≡ false = h in cc)

pub map_none : {X Y : Type 0} (f : X → Y) (xs : List X) → xs ≡ [] → map f xs ≡ []
map_none f xs h = ap (map f) h

pub filter_none : {X : Type 0} (test : X → Bool) (xs : List X) → AllByRecursion (λ x. test x ≡ false) xs → filter test xs ≡ []
filter_none test [] h = refl
filter_none test (x ∷ xs) h = ap (λ (b : Bool). cond b (x ∷ filter test xs) (filter test xs)) h.0 ∙ filter_none test xs h.1

pub filter_every : {X : Type 0} (test : X → Bool) (xs : List X) → AllByRecursion (λ x. test x ≡ true) xs → filter test xs ≡ xs
filter_every test [] h = refl
filter_every test (x ∷ xs) h = ap (λ (b : Bool). cond b (x ∷ filter test xs) (filter test xs)) h.0 ∙ ap (λ z. x ∷ z) (filter_every test xs h.1)
