-- The sizes of arrays: when the machine finds them wrong, or has no room for them.
use Rattle.std.proofs.Common.{◌≡◌, refl, sym, ap, ◌∙◌, ℕ, ◌+◌, ◌*◌, ◌≤◌, List, [], ◌∷◌, length, Bool, true, false, ℤ, arith}
use Rattle.b67_frames.proofs.Prelude.{nat_tests, ints, if◌then◌else◌, nat_le, nat_lt, int_le, int_lt, nat_abs, pos, negsuc, ◌-ℤ◌, map, ArraySize, CoreFull, PPair, Named, size_of, elements_of, live_elements, bounds_of, has_wrong_size, has_no_room, Value, Bounds, World, MOST_ELEMENTS, lows_of, counted_words, Extents, one, two, if_held, faults, Image, extents, Test, answer, fault, asked, ◌>>=◌, AreDimensions, AreSized, rows_of_bounds}
use Rattle.std.specs.Prelude.{◌||◌}
use Rattle.b67_store.specs.Store.{count_limit}
use Rattle.b67_table.specs.Arrays.{elements, extent_in, extent, if_small}

-- ---- bounds and extents

-- one dimension or two
abbrev pub HasDimensions : List Bounds → Type 0
HasDimensions (b ∷ []) = Unit {0}
HasDimensions (b ∷ c ∷ []) = Unit {0}
HasDimensions _ = ⊥

-- bounds in the order in which they stand on the stack
abbrev pub bound_numbers : List Bounds → List ℤ
bound_numbers [] = []
bound_numbers (b ∷ bs) = b.low ∷ b.high ∷ bound_numbers bs

abbrev pub extents_of : List Bounds → Extents
extents_of (b ∷ []) = one (size_of b)
extents_of (b ∷ c ∷ []) = two (size_of b) (size_of c)
extents_of _ = one 0

pub has_dimensions : (pairs : List PPair) (bs : List Bounds) → AreDimensions pairs → map (λ (b : Bounds). b.low) bs ≡ lows_of pairs → HasDimensions bs
has_dimensions [] bs are same = absurd are
has_dimensions (p ∷ []) [] are same = absurd (let clash : [] ≡ p.low ∷ [] = same in cc)
has_dimensions (p ∷ []) (b ∷ []) are same = tt
has_dimensions (p ∷ []) (b ∷ c ∷ bs) are same = absurd (let clash : b.low ∷ c.low ∷ map (λ (b : Bounds). b.low) bs ≡ p.low ∷ [] = same in cc)
has_dimensions (p ∷ q ∷ []) [] are same = absurd (let clash : [] ≡ p.low ∷ q.low ∷ [] = same in cc)
has_dimensions (p ∷ q ∷ []) (b ∷ []) are same = absurd (let clash : b.low ∷ [] ≡ p.low ∷ q.low ∷ [] = same in cc)
has_dimensions (p ∷ q ∷ []) (b ∷ c ∷ []) are same = tt
has_dimensions (p ∷ q ∷ []) (b ∷ c ∷ d ∷ bs) are same =
    absurd (let clash : b.low ∷ c.low ∷ d.low ∷ map (λ (b : Bounds). b.low) bs ≡ p.low ∷ q.low ∷ [] = same in cc)
has_dimensions (p ∷ q ∷ r ∷ pairs) bs are same = absurd are

-- bounds keep the lower bounds of their declaration
pub bounds_lows : (pairs : List PPair) (vs : List Value) → length vs ≡ length pairs → map (λ (b : Bounds). b.low) (bounds_of pairs vs) ≡ lows_of pairs
bounds_lows [] vs each = refl
bounds_lows (p ∷ pairs) [] each = absurd (omega (arith, each))
bounds_lows (p ∷ pairs) (v ∷ vs) each = let rest : length vs ≡ length pairs = omega (arith, each) in ap (λ (zs : List ℤ). p.low ∷ zs) (bounds_lows pairs vs rest)

-- an array has as many elements as its extents say
pub elements_are : (bs : List Bounds) → HasDimensions bs → elements (extents_of bs) ≡ elements_of bs
elements_are [] has = absurd has
elements_are (b ∷ []) has = omega arith
elements_are (b ∷ c ∷ []) has = ap (λ (n : ℕ). size_of b * n) (let one_more : size_of c ≡ size_of c * 1 = omega arith in one_more)
elements_are (b ∷ c ∷ d ∷ bs) has = absurd has

-- ---- an extent

not_lower : (low high : ℤ) (n : ℕ) → high -ℤ low ≡ pos n → int_lt high low ≡ false
not_lower low high n e = grind (arith, ints)

at_most : (low high : ℤ) (n : ℕ) → high -ℤ low ≡ pos n → int_le low high ≡ true
at_most low high n e = grind (arith, ints)

lower : (low high : ℤ) (n : ℕ) → high -ℤ low ≡ negsuc n → int_lt high low ≡ true
lower low high n e = grind (arith, ints)

-- no subscript lies within bounds, and the machine finds a fault, or it finds their number
data Extended (b : Bounds) : Type 0 where
  empty : int_lt b.high b.low ≡ true → extent b.low b.high ≡ fault ArraySize → Extended b
  filled : int_lt b.high b.low ≡ false → extent b.low b.high ≡ answer (size_of b) → 1 ≤ size_of b → Extended b

extent_of : (b : Bounds) → Extended b
extent_of b = by_difference (b.high -ℤ b.low) refl
  where
    by_difference : (d : ℤ) → b.high -ℤ b.low ≡ d → Extended b
    by_difference (pos n) e =
        let size : size_of b ≡ n + 1 =
        ap (λ (t : Bool). if t then nat_abs (b.high -ℤ b.low) + 1 else 0) (at_most b.low b.high n e) ∙ ap (λ (z : ℤ). nat_abs z + 1) e in
        filled (not_lower b.low b.high n e) (ap extent_in e ∙ ap (λ (k : ℕ). answer k) (sym size)) (omega (arith, size))
    by_difference (negsuc n) e = empty (lower b.low b.high n e) (ap extent_in e)

too_many : (m n : ℕ) → m ≡ n → nat_lt MOST_ELEMENTS m ≡ true → nat_le n count_limit ≡ false
too_many m n e h = grind (arith, nat_tests)

not_too_many : (m n : ℕ) → m ≡ n → nat_lt MOST_ELEMENTS m ≡ false → nat_le n count_limit ≡ true
not_too_many m n e h = grind (arith, nat_tests)

small : (e : Extents) (m : ℕ) → m ≡ elements e → nat_lt MOST_ELEMENTS m ≡ false → if_small e ≡ answer e
small e m same h = ap (λ (t : Bool). if t then answer e else fault ArraySize) (not_too_many m (elements e) same h)

large : (e : Extents) (m : ℕ) → m ≡ elements e → nat_lt MOST_ELEMENTS m ≡ true → if_small e ≡ fault ArraySize
large e m same h = ap (λ (t : Bool). if t then answer e else fault ArraySize) (too_many m (elements e) same h)

-- ---- the tests

-- what the machine finds of bounds
pub data Tested (bs : List Bounds) : Type 0 where
  wrong : has_wrong_size bs ≡ true → extents (bound_numbers bs) ≡ fault ArraySize → Tested bs
  right : has_wrong_size bs ≡ false → extents (bound_numbers bs) ≡ answer (extents_of bs) → AreSized bs → Tested bs

-- where no dimension is empty, the number of elements decides
by_number : (bs : List Bounds) → HasDimensions bs → has_wrong_size bs ≡ nat_lt MOST_ELEMENTS (elements_of bs) → extents (bound_numbers bs) ≡ if_small (extents_of bs) →
    ((elements_of bs ≤ MOST_ELEMENTS) → AreSized bs) → Tested bs
by_number bs has says goes sized = cases (nat_lt MOST_ELEMENTS (elements_of bs)) refl
  where
    cases : (t : Bool) → nat_lt MOST_ELEMENTS (elements_of bs) ≡ t → Tested bs
    cases true e = wrong (says ∙ e) (goes ∙ large (extents_of bs) (elements_of bs) (sym (elements_are bs has)) e)
    cases false e =
        right (says ∙ e) (goes ∙ small (extents_of bs) (elements_of bs) (sym (elements_are bs has)) e) (sized (let few : elements_of bs ≤ MOST_ELEMENTS = grind (arith, nat_tests) in few))

abbrev many : Bounds → Bounds → Bool
many b c = nat_lt MOST_ELEMENTS (elements_of (b ∷ c ∷ []))

abbrev then_second : Bounds → ℕ → Test Extents
then_second c m = extent c.low c.high >>= (λ (n : ℕ). if_small (two m n))

pub test_of : (bs : List Bounds) → HasDimensions bs → Tested bs
test_of [] has = absurd has
test_of (b ∷ []) has = first (extent_of b)
  where
    first : Extended b → Tested (b ∷ [])
    first (empty is stops) =
        wrong (ap (λ (t : Bool). (t || false) || nat_lt MOST_ELEMENTS (elements_of (b ∷ []))) is)
        (ap (λ (t : Test ℕ). t >>= (λ (n : ℕ). if_small (one n))) stops)
    first (filled is answers some) =
        by_number (b ∷ []) tt (ap (λ (t : Bool). (t || false) || nat_lt MOST_ELEMENTS (elements_of (b ∷ []))) is)
        (ap (λ (t : Test ℕ). t >>= (λ (n : ℕ). if_small (one n))) answers) (λ few. ((some, tt), few))
test_of (b ∷ c ∷ []) has = first (extent_of b)
  where
    first : Extended b → Tested (b ∷ c ∷ [])
    first (empty is stops) =
        wrong (ap (λ (t : Bool). (t || (int_lt c.high c.low || false)) || many b c) is) (ap (λ (t : Test ℕ). t >>= then_second c) stops)
    first (filled is answers some) = second (extent_of c)
      where
        second : Extended c → Tested (b ∷ c ∷ [])
        second (empty is' stops') =
            wrong
            (ap (λ (t : Bool). (t || (int_lt c.high c.low || false)) || many b c) is ∙ ap (λ (t : Bool). (t || false) || many b c) is')
            (ap (λ (t : Test ℕ). t >>= then_second c) answers ∙ ap (λ (t : Test ℕ). t >>= (λ (n : ℕ). if_small (two (size_of b) n))) stops')
        second (filled is' answers' some') =
            by_number (b ∷ c ∷ []) tt
            (ap (λ (t : Bool). (t || (int_lt c.high c.low || false)) || many b c) is ∙ ap (λ (t : Bool). (t || false) || many b c) is')
            (ap (λ (t : Test ℕ). t >>= then_second c) answers ∙ ap (λ (t : Test ℕ). t >>= (λ (n : ℕ). if_small (two (size_of b) n))) answers')
            (λ few. ((some, (some', tt)), few))
test_of (b ∷ c ∷ d ∷ bs) has = absurd has

-- a dimension without elements, or too many elements
pub extents_wrong : (bs : List Bounds) → HasDimensions bs → has_wrong_size bs ≡ true → extents (bound_numbers bs) ≡ fault ArraySize
extents_wrong bs has h = by_test (test_of bs has)
  where
    by_test : Tested bs → extents (bound_numbers bs) ≡ fault ArraySize
    by_test (wrong says goes) = goes
    by_test (right says goes sized) = absurd (let clash : true ≡ false = sym h ∙ says in cc)

pub extents_right : (bs : List Bounds) → HasDimensions bs → has_wrong_size bs ≡ false → extents (bound_numbers bs) ≡ answer (extents_of bs)
extents_right bs has h = by_test (test_of bs has)
  where
    by_test : Tested bs → extents (bound_numbers bs) ≡ answer (extents_of bs)
    by_test (wrong says goes) = absurd (let clash : true ≡ false = sym says ∙ h in cc)
    by_test (right says goes sized) = goes

pub are_sized : (bs : List Bounds) → HasDimensions bs → has_wrong_size bs ≡ false → AreSized bs
are_sized bs has h = by_test (test_of bs has)
  where
    by_test : Tested bs → AreSized bs
    by_test (wrong says goes) = absurd (let clash : true ≡ false = sym says ∙ h in cc)
    by_test (right says goes sized) = sized

-- ---- room

module _ (img : Image) (w : World) (bs : List Bounds) (has : HasDimensions bs) (ns : List Named) (counted : counted_words img.rows ≡ live_elements w.instances) where
  -- what the machine asks
  asks : counted_words img.rows + length ns * elements (extents_of bs) ≡ live_elements w.instances + elements_of bs * length ns
  asks = omega (arith, counted, ap (λ (n : ℕ). length ns * n) (elements_are bs has))

  -- all arrays together would have too many elements
  pub held_full : {A : Type 0} (next : Extents → Test A) → has_no_room w bs ns ≡ true → asked img (if_held (length ns) (extents_of bs) >>= next) ≡ faults CoreFull
  held_full next h =
      ap (λ (t : Bool). asked img ((if t then answer (extents_of bs) else fault CoreFull) >>= next))
      (too_many (live_elements w.instances + elements_of bs * length ns) (counted_words img.rows + length ns * elements (extents_of bs)) (sym asks) h)

  pub held_fits : {A : Type 0} (next : Extents → Test A) → has_no_room w bs ns ≡ false → asked img (if_held (length ns) (extents_of bs) >>= next) ≡ asked img (next (extents_of bs))
  held_fits next h =
      ap (λ (t : Bool). asked img ((if t then answer (extents_of bs) else fault CoreFull) >>= next))
      (not_too_many (live_elements w.instances + elements_of bs * length ns) (counted_words img.rows + length ns * elements (extents_of bs)) (sym asks) h)

-- ---- rows

-- an array has at most two rows for each element
pub rows_few : (bs : List Bounds) → HasDimensions bs → AreSized bs → rows_of_bounds bs ≤ 2 * elements_of bs
rows_few [] has sized = absurd has
rows_few (b ∷ []) has sized = let some : 1 ≤ size_of b = sized.0.0 in omega arith
rows_few (b ∷ c ∷ []) has sized =
    let some : 1 ≤ size_of b = sized.0.0 in
    let more : size_of b * 1 ≤ size_of b * (size_of c * 1) = product (size_of b) 1 (size_of c * 1) (omega (arith, sized.0.1.0)) in
    omega (arith, more)
  where
    product : (k m n : ℕ) → m ≤ n → k * m ≤ k * n
    product k m n h = grind arith
rows_few (b ∷ c ∷ d ∷ bs) has sized = absurd has
