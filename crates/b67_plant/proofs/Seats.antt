-- The seats of processors in the order of their places, and the numbers of their marks.
use Rattle.std.proofs.Common.{◌≡◌, refl, sym, ap, ◌∙◌, ℕ, zero, suc, ◌+◌, ◌<◌, ◌≤◌, List, [], ◌∷◌, ◌++◌, length, length-append, map, get_or, drop, replicate, Some, append-nil, append_assoc, arith}
use Rattle.std.specs.Prelude.{slice_get, sum}
use Rattle.std.proofs.Common.{⊎_elim, eq-or-lt_of_le}
use Rattle.std.proofs.Math.ListN.{get_or-append}
use Rattle.std.proofs.Math.Seq.{get_or-append_seam}
use Rattle.std.specs.List.{sum_by}
use Rattle.std.proofs.lemmas.List.{map-append, get_or-map, length-map}
use Rattle.std.proofs.lemmas.List.Sums.{sum_by-cons, sum_by-le-sum_by, sum-map}
use Rattle.b67_list.proofs.Lists.{drop_next}
use Rattle.b67_plant.specs.Places.{in_order}

-- ---- places

length_in_order : (n : ℕ) → length (in_order n) ≡ n
length_in_order zero = refl
length_in_order (suc n) = let rest = length_in_order n in omega (arith, length-append (in_order n) (n ∷ []), rest)

-- the last of a list, and what is before it
snoc_inj : (xs ys : List ℕ) (x y : ℕ) → length xs ≡ length ys → xs ++ x ∷ [] ≡ ys ++ y ∷ [] → (xs ≡ ys) × (x ≡ y)
snoc_inj [] [] x y same e = let is : x ≡ y = cc in (refl, is)
snoc_inj [] (z ∷ ys) x y same e = absurd (omega (arith, same))
snoc_inj (w ∷ xs) [] x y same e = absurd (omega (arith, same))
snoc_inj (w ∷ xs) (z ∷ ys) x y same e =
    let first : w ≡ z = cc in
    let others : xs ++ x ∷ [] ≡ ys ++ y ∷ [] = cc in
    let rest = snoc_inj xs ys x y (omega (arith, same)) others in
    (ap (λ (k : ℕ). k ∷ xs) first ∙ ap (λ (zs : List ℕ). z ∷ zs) rest.0, rest.1)

in_order_at : (n k : ℕ) → k < n → get_or (in_order n) k 0 ≡ k
in_order_at zero k within = absurd (omega (arith, within))
in_order_at (suc n) k within =
    ⊎_elim at_end (λ (less : k < n). get_or-append (in_order n) (n ∷ []) 0 k (omega (arith, less, length_in_order n)) ∙ in_order_at n k less) (eq-or-lt_of_le (omega (arith, within)))
  where
    at_end : k ≡ n → get_or (in_order n ++ n ∷ []) k 0 ≡ k
    at_end is = ap (λ (j : ℕ). get_or (in_order n ++ n ∷ []) j 0) (is ∙ sym (length_in_order n)) ∙ get_or-append_seam (in_order n) n [] 0 ∙ sym is

module _ {X : Type 0} (place : X → ℕ) where
  -- one more
  pub place_added : (xs : List X) (x : X) → map place xs ≡ in_order (length xs) → place x ≡ length xs → map place (xs ++ x ∷ []) ≡ in_order (length (xs ++ x ∷ []))
  place_added xs x are is =
      let longer : length (xs ++ x ∷ []) ≡ suc (length xs) = omega (arith, length-append xs (x ∷ [])) in
      map-append place xs (x ∷ []) ∙ ap (λ (ps : List ℕ). ps ++ place x ∷ []) are ∙ ap (λ (p : ℕ). in_order (length xs) ++ p ∷ []) is ∙ sym (ap in_order longer)

  -- one less
  pub place_left : (xs left : List X) (x : X) → xs ≡ left ++ x ∷ [] → map place xs ≡ in_order (length xs) → (map place left ≡ in_order (length left)) × (place x ≡ length left)
  place_left xs left x is are =
      let longer : length xs ≡ suc (length left) = omega (arith, ap length is, length-append left (x ∷ [])) in
      snoc_inj (map place left) (in_order (length left)) (place x) (length left) (length-map left place ∙ sym (length_in_order (length left)))
      (sym (map-append place left (x ∷ [])) ∙ sym (ap (map place) is) ∙ are ∙ ap in_order longer)

  -- each
  pub place_at : (xs : List X) (n k : ℕ) (d : X) → map place xs ≡ in_order n → k < length xs → place (get_or xs k d) ≡ k
  place_at xs n k d are within =
      let many : length xs ≡ n = sym (length-map xs place) ∙ ap length are ∙ length_in_order n in
      sym (get_or-map place xs k d 0 within) ∙ ap (λ (ps : List ℕ). get_or ps k 0) are ∙ in_order_at n k (omega (arith, within, many))

-- the same of each
pub same_of_each : {X : Type 0} (f : X → ℕ) (xs ys : List X) → length ys ≡ length xs → ((k : ℕ) (d : X) → k < length xs → f (get_or ys k d) ≡ f (get_or xs k d)) → map f ys ≡ map f xs
same_of_each f [] [] same each = refl
same_of_each f [] (y ∷ ys) same each = absurd (omega (arith, same))
same_of_each f (x ∷ xs) [] same each = absurd (omega (arith, same))
same_of_each f (x ∷ xs) (y ∷ ys) same each =
    ap (λ (n : ℕ). n ∷ map f ys) (each 0 x (omega arith))
    ∙ ap (λ (ns : List ℕ). f x ∷ ns) (same_of_each f xs ys (omega (arith, same)) (λ k d within. each (suc k) d (omega (arith, within))))

-- ---- numbers

drop_all : (numbers : List ℕ) (k : ℕ) → length numbers ≡ k → drop k numbers ≡ []
drop_all [] zero e = refl
drop_all [] (suc k) e = refl
drop_all (m ∷ numbers) zero e = absurd (omega (arith, e))
drop_all (m ∷ numbers) (suc k) e = drop_all numbers k (omega (arith, e))

module _ {X : Type 0} (number : X → ℕ) (numbers : List ℕ) where
  -- the numbers of some, and those of a tally after them
  abbrev pub known : List X → List ℕ
  known xs = map number xs ++ drop (length xs) numbers

  pub known_first : (xs : List X) → length numbers ≡ length xs → known xs ≡ map number xs
  known_first xs same = ap (λ (ns : List ℕ). map number xs ++ ns) (drop_all numbers (length xs) same) ∙ append-nil (map number xs)

  -- one less, whose number is the tally's at its place
  pub known_less : (xs left : List X) (x : X) → xs ≡ left ++ x ∷ [] → slice_get numbers (length left) ≡ Some (number x) → known left ≡ known xs
  known_less xs left x is found =
      let longer : length xs ≡ suc (length left) = omega (arith, ap length is, length-append left (x ∷ [])) in
      ap (λ (ns : List ℕ). map number left ++ ns) (drop_next numbers (length left) (number x) found)
      ∙ sym (append_assoc (map number left) (number x ∷ []) (drop (suc (length left)) numbers))
      ∙ ap (λ (ns : List ℕ). ns ++ drop (suc (length left)) numbers) (sym (map-append number left (x ∷ [])))
      ∙ ap (λ (zs : List X). map number zs ++ drop (suc (length left)) numbers) (sym is)
      ∙ ap (λ (k : ℕ). map number xs ++ drop k numbers) (sym longer)

  pub known_last : (xs : List X) → length xs ≡ 0 → known xs ≡ numbers
  known_last [] none = refl
  known_last (x ∷ xs) none = absurd (omega (arith, none))

-- where none is greater than another number of its own, and the sums are the same, they are the same
pub same_by_sum : {X : Type 0} (f g : X → ℕ) (xs : List X) → ((x : X) → g x ≤ f x) → sum_by f xs ≡ sum_by g xs → map f xs ≡ map g xs
same_by_sum f g [] few same = refl
same_by_sum f g (x ∷ xs) few same =
    let here = few x in
    let others = sum_by-le-sum_by g f xs few in
    let sums : f x + sum_by f xs ≡ g x + sum_by g xs = omega (arith, same, sum_by-cons f x xs, sum_by-cons g x xs) in
    let is : f x ≡ g x = omega (arith, here, others, sums) in
    let rest = same_by_sum f g xs few (omega (arith, here, others, sums)) in
    ap (λ (n : ℕ). n ∷ map f xs) is ∙ ap (λ (ns : List ℕ). g x ∷ ns) rest

-- so the numbers of the tally are their own
pub own_numbers : {X : Type 0} (f g : X → ℕ) (xs : List X) (numbers : List ℕ) → ((x : X) → g x ≤ f x) → numbers ≡ map g xs → sum_by f xs ≡ sum numbers → map f xs ≡ numbers
own_numbers f g xs numbers few are same = same_by_sum f g xs few (same ∙ ap sum are ∙ sum-map g xs) ∙ sym are

pub one_more_zero : (n : ℕ) → ◌++◌ {A = ℕ} (replicate n 0) (0 ∷ []) ≡ replicate (suc n) 0
one_more_zero zero = refl
one_more_zero (suc n) = ap (λ (ns : List ℕ). 0 ∷ ns) (one_more_zero n)

pub none_in_all : {X : Type 0} (f : X → ℕ) (xs : List X) → length xs ≡ 0 → sum_by f xs ≡ 0
none_in_all f [] none = refl
none_in_all f (x ∷ xs) none = absurd (omega (arith, none))
