-- Where no place stands twice in a list, what is found at a place of the list is what stands there: of the uses of names the use, and of
-- the blocks the number of the block.
use Rattle.std.proofs.Common.{arith, ◌≡◌, ℕ, ◌+◌, ◌≤◌, Bool, true, false, List, [], ◌∷◌, ◌++◌, Some, None, refl, ap, ◌∙◌, subst, if◌then◌else◌, zero, suc, slice_get, add-one}
use Rattle.std.proofs.lemmas.Bool.Decides.{nat_tests}
use Rattle.std.specs.List.{AllByRecursion}
use Rattle.algol_tree.specs.declared.token.Spot.{Spot}
use Rattle.algol_tree.specs.Accepted.{is_before}
use Rattle.algol_tree.specs.Ascending.{Ascends}
use Rattle.algol_tree.specs.Blocks.{Block, same_spot, number_at}
use Rattle.algol_tree.specs.Scopes.{Use, declared_in}
use Rattle.algol_tree.proofs.Spots.{before_apart, before_on, same_spot_itself}
use Rattle.b67_list.proofs.Lists.{each_at}

-- ---- how often a place stands in a list

one : Bool → ℕ
one true = 1
one false = 0

-- once or not at all
pub here : Spot → Spot → ℕ
here s t = one (same_spot s t)

abbrev pub times : {X : Type 0} → (X → Spot) → Spot → List X → ℕ
times place s [] = 0
times place s (x ∷ xs) = here s (place x) + times place s xs

-- among places
abbrev pub places : Spot → List Spot → ℕ
places s spots = times (λ (t : Spot). t) s spots

pub times_both : {X : Type 0} (place : X → Spot) (s : Spot) (xs ys : List X) → times place s (xs ++ ys) ≡ times place s xs + times place s ys
times_both place s [] ys = omega arith
times_both place s (x ∷ xs) ys = omega (arith, times_both place s xs ys)

pub places_both : (s : Spot) (xs ys : List Spot) → places s (xs ++ ys) ≡ places s xs + places s ys
places_both s xs ys = times_both (λ (t : Spot). t) s xs ys

-- ---- places that ascend

same_before : (a b c : Spot) → same_spot a b ≡ true → is_before b c ≡ true → is_before a c ≡ true
same_before a b c p q = grind (arith, nat_tests)

not_here : (s t : Spot) → same_spot s t ≡ false → here s t ≡ 0
unfolding here one
not_here s t h = ap one h

is_here : (s t : Spot) → same_spot s t ≡ true → here s t ≡ 1
unfolding here one
is_here s t h = ap one h

apart_here : (s t : Spot) → here s t ≡ 0 → same_spot s t ≡ false
unfolding here one
apart_here s t h = by (same_spot s t) refl h
  where
    by : (b : Bool) → same_spot s t ≡ b → one b ≡ 0 → b ≡ false
    by true e k = absurd (omega (arith, k))
    by false e k = refl

-- a place before all of these is none of them
none_ahead : (s t : Spot) (spots : List Spot) → is_before s t ≡ true → Ascends (t ∷ spots) → places s (t ∷ spots) ≡ 0
none_ahead s t [] h o = omega (arith, not_here s t (before_apart s t h))
none_ahead s t (u ∷ spots) h o =
    omega (arith, not_here s t (before_apart s t h), none_ahead s u spots (before_on s t u h o.0) o.1)

pub once : (spots : List Spot) → Ascends spots → (s : Spot) → places s spots ≤ 1
once [] o s = omega arith
once (t ∷ spots) o s = by (same_spot s t) refl (once spots o.1 s)
  where
    none_more : same_spot s t ≡ true → (us : List Spot) → Ascends (t ∷ us) → places s us ≡ 0
    none_more e [] p = omega arith
    none_more e (u ∷ us) p = none_ahead s u us (same_before s t u e p.0) p.1

    by : (b : Bool) → same_spot s t ≡ b → places s spots ≤ 1 → here s t + places s spots ≤ 1
    by true e later = omega (arith, is_here s t e, none_more e spots o)
    by false e later = omega (arith, not_here s t e, later)

-- ---- lists in which no place stands twice

module _ {X : Type 0} (place : X → Spot) where
  abbrev pub Apart : List X → Type 0
  Apart [] = Unit {0}
  Apart (x ∷ xs) = AllByRecursion (λ y. same_spot (place x) (place y) ≡ false) xs × Apart xs

  none_there : (s : Spot) (xs : List X) → times place s xs ≡ 0 → AllByRecursion (λ y. same_spot s (place y) ≡ false) xs
  none_there s [] h = tt
  none_there s (x ∷ xs) h = (apart_here s (place x) (omega (arith, h)), none_there s xs (omega (arith, h)))

  pub once_apart : (xs : List X) → ((s : Spot) → times place s xs ≤ 1) → Apart xs
  once_apart [] h = tt
  once_apart (x ∷ xs) h =
      (none_there (place x) xs (omega (arith, h (place x), is_here (place x) (place x) (same_spot_itself (place x)))), once_apart xs (λ s. omega (arith, h s)))

-- ---- uses

abbrev pub use_place : Use → Spot
use_place u = u.spot

abbrev pub IsThere : List Use → Use → Type 0
IsThere us u = declared_in us u.spot ≡ Some u

there_later : (u : Use) (us vs : List Use) → AllByRecursion (λ v. same_spot u.spot v.spot ≡ false) vs → AllByRecursion (IsThere us) vs → AllByRecursion (IsThere (u ∷ us)) vs
there_later u us [] h t = tt
there_later u us (v ∷ vs) h t = (ap (λ (b : Bool). if b then Some u else declared_in us v.spot) h.0 ∙ t.0, there_later u us vs h.1 t.1)

pub all_there : (us : List Use) → Apart use_place us → AllByRecursion (IsThere us) us
all_there [] h = tt
all_there (u ∷ us) h =
    (ap (λ (b : Bool). if b then Some u else declared_in us u.spot) (same_spot_itself u.spot), there_later u us us h.0 (all_there us h.1))

-- ---- blocks

abbrev pub block_place : Block → Spot
block_place b = b.spot

-- the block's number is that by its place
abbrev pub IsNumbered : List Block → Block → Type 0
IsNumbered bs b = slice_get bs (number_at bs b.spot) ≡ Some b

number_later : (b : Block) (bs : List Block) (spot : Spot) → same_spot b.spot spot ≡ false → number_at (b ∷ bs) spot ≡ suc (number_at bs spot)
number_later b bs spot h = ap (λ (t : Bool). if t then 0 else number_at bs spot + 1) h ∙ add-one (number_at bs spot)

numbered_later : (b : Block) (bs cs : List Block) → AllByRecursion (λ c. same_spot b.spot c.spot ≡ false) cs → AllByRecursion (IsNumbered bs) cs → AllByRecursion (IsNumbered (b ∷ bs)) cs
numbered_later b bs [] h t = tt
numbered_later b bs (c ∷ cs) h t = (ap (slice_get (b ∷ bs)) (number_later b bs c.spot h.0) ∙ t.0, numbered_later b bs cs h.1 t.1)

pub number_first : (b : Block) (bs : List Block) → number_at (b ∷ bs) b.spot ≡ 0
number_first b bs = ap (λ (t : Bool). if t then 0 else number_at bs b.spot + 1) (same_spot_itself b.spot)

pub all_numbered : (bs : List Block) → Apart block_place bs → AllByRecursion (IsNumbered bs) bs
all_numbered [] h = tt
all_numbered (b ∷ bs) h = (ap (slice_get (b ∷ bs)) (number_first b bs), numbered_later b bs bs h.0 (all_numbered bs h.1))

-- the block with a number has that number by its place
pub number_is : (bs : List Block) (i : ℕ) (b : Block) → Apart block_place bs → slice_get bs i ≡ Some b → number_at bs b.spot ≡ i
number_is [] i b h e = absurd (let clash : None ≡ Some b = e in cc)
number_is (c ∷ bs) zero b h e = let same : c ≡ b = cc in subst (λ (z : Block). number_at (c ∷ bs) z.spot ≡ 0) same (number_first c bs)
number_is (c ∷ bs) (suc i) b h e =
    number_later c bs b.spot (each_at (λ z. same_spot c.spot z.spot ≡ false) bs i b h.0 e) ∙ ap suc (number_is bs i b h.1 e)
