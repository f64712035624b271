-- A subscript that is moved by the lower bound is the index of the place that the meaning gives it.
use Rattle.std.proofs.Common.{◌≡◌, refl, sym, ap, ◌∙◌, subst, ℕ, ◌+◌, ◌<◌, ◌≤◌, List, [], ◌∷◌, length, Option, Some, None, Bool, true, false, ℤ, arith}
use Rattle.b67_cores.proofs.Lows.{is_least as is_most, is_less, not_less}
use Rattle.b67_list.proofs.Truths.{and_false}
use Rattle.b67_frames.proofs.Prelude.{nat_tests, ints, map, slice_get, pos, negsuc, ◌-ℤ◌, int_lt, int_le, nat_abs, nat_lt, ◌&&◌, if◌then◌else◌, size_of, Bounds, ArrayCell, AreSized}
use Rattle.std.specs.Prelude.{neg_ℤ, ◌+ℤ◌, ◌<ℤ◌, ◌≤ℤ◌}
use Rattle.algol_tree.specs.Sorts.{Sort, array, formal_array}
use Rattle.algol_meaning.specs.Arrays.{placed, placed_in, moved_to, moved, subscript_place}
use Rattle.b67_table.specs.Arrays.{index_in}
use Rattle.b67_templates.specs.Fragments.{Low, zero, above, near, far, moved_number, moved_by}
use Rattle.b67_frames.proofs.FewElements.{OneSized, one_sized, TwoSized, two_sized}

-- ---- tests of whole numbers

is_more : (x y : ℤ) → int_le x y ≡ false → y <ℤ x
is_more x y h = grind (arith, ints)

at_most : (x y : ℤ) → x ≤ℤ y → int_le x y ≡ true
at_most x y h = grind (arith, ints)

not_most : (x y : ℤ) → y <ℤ x → int_le x y ≡ false
not_most x y h = grind (arith, ints)

-- what holds whichever way a test goes
on_test : {A : Type 0} (P : A → Type 0) (b : Bool) (x y : A) → (b ≡ true → P x) → (b ≡ false → P y) → P (if b then x else y)
on_test P true x y f g = f refl
on_test P false x y f g = g refl

-- ---- no index

below_none : (y : ℤ) (m : ℕ) → y <ℤ pos 0 → index_in y m ≡ None
below_none (pos n) m h = absurd (omega (arith, ints))
below_none (negsuc n) m h = refl

beyond_none : (y : ℤ) (m : ℕ) → pos m ≤ℤ y → index_in y m ≡ None
beyond_none (pos n) m h =
    let past : nat_lt n m ≡ false = let high : m ≤ n = omega (arith, ints) in grind (arith, nat_tests) in
    ap (λ (t : Bool). if t then Some n else None) past
beyond_none (negsuc n) m h = refl

-- ---- bounds

-- how far the upper bound is from the lower one
record Span (b : Bounds) : Type 0 where
  far : ℕ
  size : size_of b ≡ far + 1
  high : b.high ≡ b.low +ℤ pos far

span : (b : Bounds) → 1 ≤ size_of b → Span b
span b some = by_test (int_le b.low b.high) refl
  where
    by_test : (t : Bool) → int_le b.low b.high ≡ t → Span b
    by_test true e =
        record {
          far = nat_abs (b.high -ℤ b.low);
          size = ap (λ (t : Bool). if t then nat_abs (b.high -ℤ b.low) + 1 else 0) e;
          high = by_difference (b.high -ℤ b.low) refl;
        }
      where
        order : b.low ≤ℤ b.high
        order = is_most b.low b.high e

        by_difference : (d : ℤ) → b.high -ℤ b.low ≡ d → b.high ≡ b.low +ℤ pos (nat_abs d)
        by_difference (pos n) same = omega (arith, ints)
        by_difference (negsuc n) same = absurd (omega (arith, ints))
    by_test false e = absurd (let none : size_of b ≡ 0 = ap (λ (t : Bool). if t then nat_abs (b.high -ℤ b.low) + 1 else 0) e in omega (arith, none))

-- a subscript outside the bounds has no place
lower_none : (b : Bounds) (z : ℤ) → z <ℤ b.low → placed b z ≡ None
lower_none b z h = ap (λ (t : Bool). if t && int_le z b.high then Some (nat_abs (z -ℤ b.low)) else None) (not_most b.low z h)

higher_none : (b : Bounds) (z : ℤ) → b.high <ℤ z → placed b z ≡ None
higher_none b z h =
    ap (λ (t : Bool). if int_le b.low z && t then Some (nat_abs (z -ℤ b.low)) else None) (not_most z b.high h)
    ∙ ap (λ (t : Bool). if t then Some (nat_abs (z -ℤ b.low)) else None) (and_false (int_le b.low z))

inside_some : (b : Bounds) (z : ℤ) → b.low ≤ℤ z → z ≤ℤ b.high → placed b z ≡ Some (nat_abs (z -ℤ b.low))
inside_some b z h k =
    ap (λ (t : Bool). if t && int_le z b.high then Some (nat_abs (z -ℤ b.low)) else None) (at_most b.low z h)
    ∙ ap (λ (t : Bool). if t then Some (nat_abs (z -ℤ b.low)) else None) (at_most z b.high k)

module _ (b : Bounds) (s : Span b) where
  -- the difference from the lower bound is the index
  difference_placed : (z : ℤ) → index_in (z -ℤ b.low) (size_of b) ≡ placed b z
  difference_placed z = by_difference (z -ℤ b.low) refl
    where
      by_difference : (d : ℤ) → z -ℤ b.low ≡ d → index_in d (size_of b) ≡ placed b z
      by_difference (pos n) same = by_test (nat_lt n (size_of b)) refl
        where
          by_test : (t : Bool) → nat_lt n (size_of b) ≡ t → (if t then Some n else None) ≡ placed b z
          by_test true e =
              let short : n < size_of b = grind (arith, nat_tests) in
              let low : b.low ≤ℤ z = omega (arith, ints) in
              let high : z ≤ℤ b.high = omega (arith, ints, s.size, s.high) in
              sym (inside_some b z low high ∙ ap (λ (d : ℤ). Some (nat_abs d)) same)
          by_test false e =
              let long : size_of b ≤ n = grind (arith, nat_tests) in
              let past : b.high <ℤ z = omega (arith, ints, s.size, s.high) in
              sym (higher_none b z past)
      by_difference (negsuc n) same =
          let under : z <ℤ b.low = omega (arith, ints) in
          sym (lower_none b z under)

  module _ (few : size_of b ≤ 1048576) where
    short : s.far < 1048576
    short = omega (arith, s.size)

    abbrev Leads : ℤ → ℤ → Type 0
    Leads z y = index_in y (size_of b) ≡ placed b z

    at_zero : int_lt (pos 0) b.low ≡ false → int_le (pos 0) b.low ≡ true → (z : ℤ) → Leads z z
    at_zero e f z =
        let high : b.low ≤ℤ pos 0 = not_less (pos 0) b.low e in
        let low : pos 0 ≤ℤ b.low = is_most (pos 0) b.low f in
        let same : z -ℤ b.low ≡ z = omega (arith, ints) in
        subst (Leads z) same (difference_placed z)

    from_above : int_lt (pos 0) b.low ≡ true → (z : ℤ) → Leads z (if int_le (pos 0) z then z -ℤ b.low else z)
    from_above e z =
        on_test (Leads z) (int_le (pos 0) z) (z -ℤ b.low) z (λ _. difference_placed z)
        (λ f.
        let low : pos 0 <ℤ b.low = is_less (pos 0) b.low e in
        let under : z <ℤ pos 0 = is_more (pos 0) z f in
        let outside : z <ℤ b.low = omega (arith, ints) in
        below_none z (size_of b) under ∙ sym (lower_none b z outside))

    from_near : int_le (pos 0) b.low ≡ false → (z : ℤ) → Leads z (if int_le z (pos 4294836225) then z -ℤ b.low else z)
    from_near e z =
        on_test (Leads z) (int_le z (pos 4294836225)) (z -ℤ b.low) z (λ _. difference_placed z)
        (λ f.
        let low : b.low <ℤ pos 0 = is_more (pos 0) b.low e in
        let past : pos 4294836225 <ℤ z = is_more z (pos 4294836225) f in
        let outside : b.high <ℤ z = omega (arith, ints, s.high, short) in
        let long : pos (size_of b) ≤ℤ z = omega (arith, ints) in
        beyond_none z (size_of b) long ∙ sym (higher_none b z outside))

    from_far : int_lt (neg_ℤ (pos 1048576)) b.low ≡ false → (z : ℤ) → Leads z (if int_lt z (pos 0) then z -ℤ b.low else neg_ℤ b.low)
    from_far e z =
        on_test (Leads z) (int_lt z (pos 0)) (z -ℤ b.low) (neg_ℤ b.low) (λ _. difference_placed z)
        (λ f.
        let low : b.low ≤ℤ neg_ℤ (pos 1048576) = not_less (neg_ℤ (pos 1048576)) b.low e in
        let some : pos 0 ≤ℤ z = not_less z (pos 0) f in
        let outside : b.high <ℤ z = omega (arith, ints, s.high, short) in
        let long : pos (size_of b) ≤ℤ neg_ℤ b.low = omega (arith, ints) in
        beyond_none (neg_ℤ b.low) (size_of b) long ∙ sym (higher_none b z outside))

    moved_placed : (z : ℤ) → Leads z (moved_number b.low z)
    moved_placed z =
        on_test P (int_lt (pos 0) b.low) above _ (λ e. from_above e z)
        (λ e.
        on_test P (int_le (pos 0) b.low) zero _ (λ f. at_zero e f z)
        (λ f. on_test P (int_lt (neg_ℤ (pos 1048576)) b.low) near far (λ g. from_near f z) (λ g. from_far g z)))
      where
        P : Low → Type 0
        P low = Leads z (moved_by low b.low z)

pub index_placed : (b : Bounds) (low z : ℤ) → b.low ≡ low → 1 ≤ size_of b → size_of b ≤ 1048576 → index_in (moved_number low z) (size_of b) ≡ placed b z
index_placed b low z is some few = subst (λ (l : ℤ). index_in (moved_number l z) (size_of b) ≡ placed b z) is (moved_placed b (span b some) few z)

-- ---- other lower bounds

-- The same bounds by another lower one: a subscript of them is one of the first that is moved by the difference.
abbrev shifted : Bounds → ℤ → Bounds
shifted b low = record { low = low; high = low +ℤ (b.high -ℤ b.low) }

same_size : (b : Bounds) (low : ℤ) → 1 ≤ size_of b → size_of (shifted b low) ≡ size_of b
same_size b low some =
    let s : Span b = span b some in
    let far : b.high -ℤ b.low ≡ pos s.far = let high : b.high ≡ b.low +ℤ pos s.far = s.high in omega (arith, ints) in
    let order : low ≤ℤ (low +ℤ (b.high -ℤ b.low)) = omega (arith, ints) in
    let beyond : (low +ℤ (b.high -ℤ b.low)) -ℤ low ≡ pos s.far = omega (arith, ints) in
    ap (λ (t : Bool). if t then nat_abs ((low +ℤ (b.high -ℤ b.low)) -ℤ low) + 1 else 0) (at_most low (low +ℤ (b.high -ℤ b.low)) order)
    ∙ ap (λ (d : ℤ). nat_abs d + 1) beyond
    ∙ sym s.size

shifted_placed : (b : Bounds) (low z : ℤ) → 1 ≤ size_of b → size_of b ≤ 1048576 → index_in (moved_number low z) (size_of b) ≡ placed b (z +ℤ (b.low -ℤ low))
shifted_placed b low z some few =
    let same : size_of (shifted b low) ≡ size_of b = same_size b low some in
    let some' : 1 ≤ size_of (shifted b low) = omega (arith, same, some) in
    let few' : size_of (shifted b low) ≤ 1048576 = omega (arith, same, few) in
    let there : (z +ℤ (b.low -ℤ low)) -ℤ b.low ≡ z -ℤ low = omega (arith, ints) in
    ap (λ (n : ℕ). index_in (moved_number low z) n) (sym same)
    ∙ index_placed (shifted b low) low z refl some' few'
    ∙ sym (difference_placed (shifted b low) (span (shifted b low) some') z)
    ∙ ap (λ (n : ℕ). index_in (z -ℤ low) n) same
    ∙ ap (λ (d : ℤ). index_in d (size_of b)) (sym there)
    ∙ difference_placed b (span b some) (z +ℤ (b.low -ℤ low))

-- ---- the lower bounds by which a name counts

-- those of an array that is declared are its own; those of a parameter are as many
pub data CountsBy (s : Sort) (bounds : List Bounds) (lows : List ℤ) : Type 0 where
  by_own : s ≡ array → map (λ (b : Bounds). b.low) bounds ≡ lows → CountsBy s bounds lows
  by_others : s ≡ formal_array lows → length bounds ≡ length lows → CountsBy s bounds lows

-- so there are as many bounds
pub one_bound : (s : Sort) (bs : List Bounds) (low : ℤ) → CountsBy s bs (low ∷ []) → (b : Bounds) × (bs ≡ b ∷ [])
one_bound s [] low (by_own is e) = absurd (let clash : [] ≡ low ∷ [] = e in cc)
one_bound s [] low (by_others is e) = absurd (omega (arith, e))
one_bound s (b ∷ []) low c = (b, refl)
one_bound s (b ∷ c ∷ bs) low (by_own is e) = absurd (let clash : b.low ∷ c.low ∷ map (λ (b : Bounds). b.low) bs ≡ low ∷ [] = e in cc)
one_bound s (b ∷ c ∷ bs) low (by_others is e) = absurd (omega (arith, e))

pub two_bounds : (s : Sort) (bs : List Bounds) (low second : ℤ) → CountsBy s bs (low ∷ second ∷ []) → (b : Bounds) × (c : Bounds) × (bs ≡ b ∷ c ∷ [])
two_bounds s [] low second (by_own is e) = absurd (let clash : [] ≡ low ∷ second ∷ [] = e in cc)
two_bounds s [] low second (by_others is e) = absurd (omega (arith, e))
two_bounds s (b ∷ []) low second (by_own is e) = absurd (let clash : b.low ∷ [] ≡ low ∷ second ∷ [] = e in cc)
two_bounds s (b ∷ []) low second (by_others is e) = absurd (omega (arith, e))
two_bounds s (b ∷ c ∷ []) low second counts = (b, c, refl)
two_bounds s (b ∷ c ∷ d ∷ bs) low second (by_own is e) =
    absurd (let clash : b.low ∷ c.low ∷ d.low ∷ map (λ (b : Bounds). b.low) bs ≡ low ∷ second ∷ [] = e in cc)
two_bounds s (b ∷ c ∷ d ∷ bs) low second (by_others is e) = absurd (omega (arith, e))

-- ---- the index of a subscript

-- in one dimension, whose bounds are these, where the subscript counts from there
in_own : (s : Sort) → s ≡ array → (b : Bounds) (low : ℤ) (dimension : ℕ) (z : ℤ) → b.low ≡ low → 1 ≤ size_of b → size_of b ≤ 1048576 →
    index_in (moved_number low z) (size_of b) ≡ placed b (moved s (Some b) dimension z)
in_own s is b low dimension z same some few = index_placed b low z same some few ∙ sym (ap (λ (t : Sort). placed b (moved t (Some b) dimension z)) is)

in_others : (s : Sort) (lows : List ℤ) → s ≡ formal_array lows → (b : Bounds) (low : ℤ) (dimension : ℕ) (z : ℤ) → slice_get lows dimension ≡ Some low → 1 ≤ size_of b → size_of b ≤ 1048576 →
    index_in (moved_number low z) (size_of b) ≡ placed b (moved s (Some b) dimension z)
in_others s lows is b low dimension z there some few =
    shifted_placed b low z some few
    ∙ sym (ap (λ (t : Sort). placed b (moved t (Some b) dimension z)) is ∙ ap (λ (o : Option ℤ). placed b (moved_to (Some b) o z)) there)

module _ (s : Sort) (cell : ArrayCell) (sized : AreSized cell.bounds) where
  -- the place of a subscript after so many
  abbrev At : List Bounds → List ℕ → ℤ → Option ℕ
  At bs ks z = placed_in (slice_get bs (length ks)) (moved s (slice_get bs (length ks)) (length ks) z)

  pub only_index : (b : Bounds) (low z : ℤ) → CountsBy s cell.bounds (low ∷ []) → cell.bounds ≡ b ∷ [] → index_in (moved_number low z) (size_of b) ≡ subscript_place s cell [] z
  only_index b low z counts is = by_lows (subst (λ (bs : List Bounds). CountsBy s bs (low ∷ [])) is counts) ∙ sym (ap (λ (bs : List Bounds). At bs [] z) is)
    where
      one : OneSized b
      one = one_sized b (subst AreSized is sized)

      by_lows : CountsBy s (b ∷ []) (low ∷ []) → index_in (moved_number low z) (size_of b) ≡ At (b ∷ []) [] z
      by_lows (by_own array_is e) = in_own s array_is b low 0 z (let same : b.low ∷ [] ≡ low ∷ [] = e in cc) one.some one.few
      by_lows (by_others formal_is e) = in_others s (low ∷ []) formal_is b low 0 z refl one.some one.few

  module _ (b c : Bounds) (low second : ℤ) (counts : CountsBy s cell.bounds (low ∷ second ∷ [])) (is : cell.bounds ≡ b ∷ c ∷ []) where
    two : TwoSized b c
    two = two_sized b c (subst AreSized is sized)

    both : CountsBy s (b ∷ c ∷ []) (low ∷ second ∷ [])
    both = subst (λ (bs : List Bounds). CountsBy s bs (low ∷ second ∷ [])) is counts

    pub first_index : (z : ℤ) → index_in (moved_number low z) (size_of b) ≡ subscript_place s cell [] z
    first_index z = by_lows both ∙ sym (ap (λ (bs : List Bounds). At bs [] z) is)
      where
        by_lows : CountsBy s (b ∷ c ∷ []) (low ∷ second ∷ []) → index_in (moved_number low z) (size_of b) ≡ At (b ∷ c ∷ []) [] z
        by_lows (by_own array_is e) = in_own s array_is b low 0 z (let same : b.low ∷ c.low ∷ [] ≡ low ∷ second ∷ [] = e in cc) two.first.some two.first.few
        by_lows (by_others formal_is e) = in_others s (low ∷ second ∷ []) formal_is b low 0 z refl two.first.some two.first.few

    pub second_index : (k : ℕ) (z : ℤ) → index_in (moved_number second z) (size_of c) ≡ subscript_place s cell (k ∷ []) z
    second_index k z = by_lows both ∙ sym (ap (λ (bs : List Bounds). At bs (k ∷ []) z) is)
      where
        by_lows : CountsBy s (b ∷ c ∷ []) (low ∷ second ∷ []) → index_in (moved_number second z) (size_of c) ≡ At (b ∷ c ∷ []) (k ∷ []) z
        by_lows (by_own array_is e) = in_own s array_is c second 1 z (let same : b.low ∷ c.low ∷ [] ≡ low ∷ second ∷ [] = e in cc) two.second.some two.second.few
        by_lows (by_others formal_is e) = in_others s (low ∷ second ∷ []) formal_is c second 1 z refl two.second.some two.second.few
