-- Arrays are made one after another, each among the rows that the one before leaves.
use Rattle.std.proofs.Common.{◌≡◌, refl, sym, ap, ◌∙◌, ℕ, zero, suc, ◌+◌, ◌*◌, ◌≤◌, List, [], ◌∷◌, ◌++◌, length, Option, Some, None, arith}
use Rattle.b67_list.proofs.Numbers.{none_some}
use Rattle.b67_frames.proofs.Prelude.{length-replicate, map, slice_get, PPair, Kind, Named, elements_of, new_arrays, initial_value, Bounds, NamedCell, Made, lows_of, made_in, Word, Row, Rows, row_at, row_limit, counted_words, some_same, Allotted, row_numbers_of, AreSized, AreMade, HoldElements, open_rows, rows_of_bounds}
use Rattle.b67_frames.proofs.ArraySizes.{HasDimensions, extents_of}
use Rattle.b67_frames.proofs.ArrayRows.{array_rows, arrays_rows, arrays_allotted, arrays_descriptors}
use Rattle.b67_frames.proofs.MotherRows.{open_apart}
use Rattle.b67_frames.proofs.OneArray.{new_cell, IsAdded, array_added, hold_still, holds_open}

-- ---- arrays that are made, in the order of their declarations

pub made_long : (ds : List Made) (cells : List NamedCell) (as' : List Allotted) (ws : List Word) → AreMade ds cells as' ws → (length cells ≡ length ds) × (length as' ≡ length ds) × (length ws ≡ length ds)
made_long [] [] [] [] made = (refl, refl, refl)
made_long [] [] [] (w ∷ ws) made = absurd made
made_long [] [] (a ∷ as') ws made = absurd made
made_long [] (c ∷ cells) as' ws made = absurd made
made_long (d ∷ ds) [] as' ws made = absurd made
made_long (d ∷ ds) (c ∷ cells) [] ws made = absurd made
made_long (d ∷ ds) (c ∷ cells) (a ∷ as') [] made = absurd made
made_long (d ∷ ds) (c ∷ cells) (a ∷ as') (w ∷ ws) made =
    let rest = made_long ds cells as' ws made.1 in
    (ap suc rest.0, ap suc rest.1, ap suc rest.2)

-- arrays after others
pub made_both : (ds : List Made) (cells : List NamedCell) (as' : List Allotted) (ws : List Word) (es : List Made) (more : List NamedCell) (bs : List Allotted) (vs : List Word) → AreMade ds cells as' ws → AreMade es more bs vs →
    AreMade (ds ++ es) (cells ++ more) (as' ++ bs) (ws ++ vs)
made_both [] [] [] [] es more bs vs made others = others
made_both [] [] [] (w ∷ ws) es more bs vs made others = absurd made
made_both [] [] (a ∷ as') ws es more bs vs made others = absurd made
made_both [] (c ∷ cells) as' ws es more bs vs made others = absurd made
made_both (d ∷ ds) [] as' ws es more bs vs made others = absurd made
made_both (d ∷ ds) (c ∷ cells) [] ws es more bs vs made others = absurd made
made_both (d ∷ ds) (c ∷ cells) (a ∷ as') [] es more bs vs made others = absurd made
made_both (d ∷ ds) (c ∷ cells) (a ∷ as') (w ∷ ws) es more bs vs made others = (made.0, made_both ds cells as' ws es more bs vs made.1 others)

-- ---- so many arrays

-- Between these rows and those so many arrays are made, and rows that were open stay as they are.
pub record AreAdded (kind : Kind) (bs : List Bounds) (rows after : Rows) (as' : List Allotted) : Type 0 where
  pub kept : (n : ℕ) (row : Row) → row_at rows n ≡ Some row → row_at after n ≡ Some row
  pub free : (j l n : ℕ) (a : Allotted) → slice_get as' j ≡ Some a → slice_get (row_numbers_of a) l ≡ Some n → row_at rows n ≡ None
  pub apart : (i j k l n : ℕ) (a b : Allotted) → slice_get as' i ≡ Some a → slice_get as' j ≡ Some b → slice_get (row_numbers_of a) k ≡ Some n → slice_get (row_numbers_of b) l ≡ Some n → (i ≡ j) × (k ≡ l)
  pub holds : (j : ℕ) (a : Allotted) → slice_get as' j ≡ Some a → HoldElements after kind (new_cell kind bs) a
  pub counted : counted_words after ≡ counted_words rows + length as' * elements_of bs
  pub opened : open_rows after ≡ open_rows rows + length as' * rows_of_bounds bs

module _ (kind : Kind) (bs : List Bounds) (rows between after : Rows) (a : Allotted) (as' : List Allotted) (word : Word) (one : IsAdded kind (new_cell kind bs) rows between a word) (rest : AreAdded kind bs between after as') where
  -- a row of the first is open between, and one of the others is free there
  first_apart : (j k l n : ℕ) (b : Allotted) → slice_get as' j ≡ Some b → slice_get (row_numbers_of a) k ≡ Some n → slice_get (row_numbers_of b) l ≡ Some n → ⊥
  first_apart j k l n b here there other =
      let o = holds_open between kind (new_cell kind bs) a one.holds k n there in
      open_apart between n n o.0 o.1 (rest.free j l n b here other) refl

  kept_all : (n : ℕ) (row : Row) → row_at rows n ≡ Some row → row_at after n ≡ Some row
  kept_all n row there = rest.kept n row (one.kept n row there)

  -- what is free between was free before
  free_before : (n : ℕ) (o : Option Row) → row_at rows n ≡ o → row_at between n ≡ None → o ≡ None
  free_before n None is free = refl
  free_before n (Some row) is free = none_some (sym free ∙ one.kept n row is)

  free_all : (j l n : ℕ) (b : Allotted) → slice_get (a ∷ as') j ≡ Some b → slice_get (row_numbers_of b) l ≡ Some n → row_at rows n ≡ None
  free_all zero l n b here there = one.free l n (ap (λ (x : Allotted). slice_get (row_numbers_of x) l) (some_same here) ∙ there)
  free_all (suc j) l n b here there = free_before n (row_at rows n) refl (rest.free j l n b here there)

  apart_all : (i j k l n : ℕ) (b c : Allotted) → slice_get (a ∷ as') i ≡ Some b → slice_get (a ∷ as') j ≡ Some c → slice_get (row_numbers_of b) k ≡ Some n → slice_get (row_numbers_of c) l ≡ Some n → (i ≡ j) × (k ≡ l)
  apart_all zero zero k l n b c e f there other = (
    refl,
    one.apart k l n (ap (λ (x : Allotted). slice_get (row_numbers_of x) k) (some_same e) ∙ there) (ap (λ (x : Allotted). slice_get (row_numbers_of x) l) (some_same f) ∙ other),
  )
  apart_all zero (suc j) k l n b c e f there other =
      absurd (first_apart j k l n c f (ap (λ (x : Allotted). slice_get (row_numbers_of x) k) (some_same e) ∙ there) other)
  apart_all (suc i) zero k l n b c e f there other =
      absurd (first_apart i l k n b e (ap (λ (x : Allotted). slice_get (row_numbers_of x) l) (some_same f) ∙ other) there)
  apart_all (suc i) (suc j) k l n b c e f there other =
      let same = rest.apart i j k l n b c e f there other in
      (ap suc same.0, same.1)

  holds_all : (j : ℕ) (b : Allotted) → slice_get (a ∷ as') j ≡ Some b → HoldElements after kind (new_cell kind bs) b
  holds_all zero b here = rw (← some_same here) (hold_still between after kind (new_cell kind bs) a rest.kept one.holds)
  holds_all (suc j) b here = rest.holds j b here

  array_more : AreAdded kind bs rows after (a ∷ as')
  array_more =
      record {
        kept = kept_all;
        free = free_all;
        apart = apart_all;
        holds = holds_all;
        counted = omega (arith, rest.counted, one.counted);
        opened = omega (arith, rest.opened, one.opened);
      }

pub arrays_added : (kind : Kind) (bs : List Bounds) → HasDimensions bs → (k : ℕ) (rows : Rows) → open_rows rows + k * rows_of_bounds bs ≤ row_limit →
    AreAdded kind bs rows (arrays_rows k (extents_of bs) rows) (arrays_allotted k (extents_of bs) rows)
arrays_added kind bs has zero rows few =
    record {
      kept = λ n row there. there;
      free = λ j l n a here there. none_some here;
      apart = λ i j k l n a b here other there also. none_some here;
      holds = λ j a here. none_some here;
      counted = omega arith;
      opened = omega arith;
    }
arrays_added kind bs has (suc k) rows few =
    let one = array_added kind bs has rows (omega (arith, few)) in
    array_more kind bs rows (array_rows (extents_of bs) rows) _ _ _ _ one
    (arrays_added kind bs has k (array_rows (extents_of bs) rows) (omega (arith, few, one.opened)))

pub allotted_many : (k : ℕ) (bs : List Bounds) (rows : Rows) → length (arrays_allotted k (extents_of bs) rows) ≡ k
allotted_many zero bs rows = refl
allotted_many (suc k) bs rows = ap suc (allotted_many k bs (array_rows (extents_of bs) rows))

-- each is made as it is declared
pub arrays_are_made : (kind : Kind) (pairs : List PPair) (bs : List Bounds) → HasDimensions bs → AreSized bs → map (λ (b : Bounds). b.low) bs ≡ lows_of pairs → (ns : List Named) (rows : Rows) →
    open_rows rows + length ns * rows_of_bounds bs ≤ row_limit →
    AreMade (made_in kind ns pairs) (new_arrays kind bs ns) (arrays_allotted (length ns) (extents_of bs) rows) (arrays_descriptors (length ns) (extents_of bs) rows)
arrays_are_made kind pairs bs has sized lows [] rows few = tt
arrays_are_made kind pairs bs has sized lows (n ∷ ns) rows few =
    let one = array_added kind bs has rows (omega (arith, few)) in (
      record {
        named = refl;
        cell = new_cell kind bs;
        is = refl;
        lows = lows;
        sized = sized;
        whole = length-replicate (elements_of bs) (initial_value kind);
        descriptor = one.names;
      },
      arrays_are_made kind pairs bs has sized lows ns (array_rows (extents_of bs) rows) (omega (arith, few, one.opened)),
    )
