-- What holds of each element of a list.
use Rattle.std.proofs.Common.{◌≡◌, ◌⊎◌, inl, inr, true, false, List, [], ◌∷◌, ◌++◌, refl, subst}
use Rattle.std.proofs.lemmas.List.Elements.{All-contains, All-from_recursion, Contains-append_left, Contains-append_right, Contains-push}
use Rattle.std.specs.List.{AllByRecursion, Contains, flat_map}
use Rattle.b67_list.proofs.Lists.{append_none_left, append_none_right}

pub false_not_true : false ≡ true → ⊥
false_not_true h = cc

-- what all give together is nothing, so each gives nothing
pub none_of : {X Y : Type 0} (f : X → List Y) (xs : List X) → flat_map f xs ≡ [] → AllByRecursion (λ x. f x ≡ []) xs
none_of f [] h = tt
none_of f (x ∷ xs) h = (append_none_left (f x) (flat_map f xs) h, none_of f xs (append_none_right (f x) (flat_map f xs) h))

pub contains_first : {X : Type 0} (x : X) (xs : List X) → Contains (x ∷ xs) x
contains_first x xs = Contains-append_left (x ∷ []) xs x (Contains-push [] x)

pub contains_later : {X : Type 0} (y : X) (xs : List X) (x : X) → Contains xs x → Contains (y ∷ xs) x
contains_later y xs x c = Contains-append_right (y ∷ []) xs x c

module _ {X : Type 0} (P : X → Type 0) where
  pub all_append : (xs ys : List X) → AllByRecursion P xs → AllByRecursion P ys → AllByRecursion P (xs ++ ys)
  all_append [] ys h k = k
  all_append (x ∷ xs) ys h k = (h.0, all_append xs ys h.1 k)

  pub all_left : (xs ys : List X) → AllByRecursion P (xs ++ ys) → AllByRecursion P xs
  all_left [] ys h = tt
  all_left (x ∷ xs) ys h = (h.0, all_left xs ys h.1)

  pub all_right : (xs ys : List X) → AllByRecursion P (xs ++ ys) → AllByRecursion P ys
  all_right [] ys h = h
  all_right (x ∷ xs) ys h = all_right xs ys h.1

  pub of_contained : (xs : List X) (x : X) → AllByRecursion P xs → Contains xs x → P x
  of_contained xs x h c = All-contains P xs x (All-from_recursion P xs h) c

module _ {X : Type 0} (P Q : X → Type 0) where
  pub all_weaker : ((x : X) → P x → Q x) → (xs : List X) → AllByRecursion P xs → AllByRecursion Q xs
  all_weaker f [] h = tt
  all_weaker f (x ∷ xs) h = (f x h.0, all_weaker f xs h.1)

module _ {X : Type 0} (P Q R : X → Type 0) where
  pub all_both : ((x : X) → P x → Q x → R x) → (xs : List X) → AllByRecursion P xs → AllByRecursion Q xs → AllByRecursion R xs
  all_both f [] h k = tt
  all_both f (x ∷ xs) h k = (f x h.0 k.0, all_both f xs h.1 k.1)

-- ---- what stands in a list

abbrev pub IsIn : {X : Type 0} → List X → X → Type 0
IsIn [] x = ⊥
IsIn (y ∷ ys) x = (y ≡ x) ⊎ IsIn ys x

pub in_left : {X : Type 0} (us vs : List X) (x : X) → IsIn us x → IsIn (us ++ vs) x
in_left [] vs x h = absurd h
in_left (u ∷ us) vs x (inl h) = inl h
in_left (u ∷ us) vs x (inr h) = inr (in_left us vs x h)

pub in_right : {X : Type 0} (us vs : List X) (x : X) → IsIn vs x → IsIn (us ++ vs) x
in_right [] vs x h = h
in_right (u ∷ us) vs x h = inr (in_right us vs x h)

pub of_in : {X : Type 0} (P : X → Type 0) (us : List X) (x : X) → AllByRecursion P us → IsIn us x → P x
of_in P [] x h k = absurd k
of_in P (u ∷ us) x h (inl k) = subst P k h.0
of_in P (u ∷ us) x h (inr k) = of_in P us x h.1 k

pub all_in : {X : Type 0} (xs : List X) → AllByRecursion (IsIn xs) xs
all_in [] = tt
all_in (x ∷ xs) = (inl refl, all_weaker (IsIn xs) (IsIn (x ∷ xs)) (λ y h. inr h) xs (all_in xs))

-- what holds of each of all that they give together
pub each_of : {X Y : Type 0} (P : Y → Type 0) (f : X → List Y) (xs : List X) → AllByRecursion P (flat_map f xs) → AllByRecursion (λ (x : X). AllByRecursion P (f x)) xs
each_of P f [] h = tt
each_of P f (x ∷ xs) h = (all_left P (f x) (flat_map f xs) h, each_of P f xs (all_right P (f x) (flat_map f xs) h))

pub of_each : {X Y : Type 0} (P : Y → Type 0) (f : X → List Y) (xs : List X) → AllByRecursion (λ (x : X). AllByRecursion P (f x)) xs → AllByRecursion P (flat_map f xs)
of_each P f [] h = tt
of_each P f (x ∷ xs) h = all_append P (f x) (flat_map f xs) h.0 (of_each P f xs h.1)
