-- The rows of an image hold the arrays of a world in which an instance has made more of them.
use Rattle.std.proofs.Common.{◌≡◌, ◌≢◌, ◌⊎◌, inl, inr, refl, sym, ap, ◌∙◌, ℕ, zero, suc, ◌+◌, ◌-◌, ◌*◌, ◌<◌, ◌≤◌, List, [], ◌∷◌, ◌++◌, length, Some, Bool, false, arith, length-append}
use Rattle.b67_list.proofs.Lists.{get_within}
use Rattle.b67_list.proofs.Numbered.{numbered_set}
use Rattle.b67_list.proofs.Numbers.{none_some}
use Rattle.b67_table.proofs.Stacks.{get_append}
use Rattle.b67_frames.proofs.Prelude.{map, slice_get, numbered, set_numbered, block_numbered, PPair, Scopes, Kind, Named, elements_of, size_of_cells, size_unless, live_elements, new_arrays, has_wrong_size, has_no_room, Bounds, ArrayCell, array, NamedCell, Instance, World, DeclaredArray, Made, lows_of, made_in, an_array, an_event, Word, Rows, row_limit, simple_cells, made_of, AreDimensions, some_same, same_or_not, most_or_more, numbered_other, Allotted, Layout, row_numbers_of, AreSized, AreMade, HoldElements, open_rows, rows_of_bounds, rows_of_cells, live_rows, HasArray, ArraysAre}
use Rattle.std.proofs.lemmas.List.{length-map}
use Rattle.algol_meaning.specs.Arrays.{new_array}
use Rattle.algol_meaning.proofs.Cited.{elements_behind}
use Rattle.algol_paths.specs.Arrays.{arrays_in}
use Rattle.b67_frames.proofs.ArraySizes.{HasDimensions, extents_of, has_dimensions, are_sized, rows_few}
use Rattle.b67_frames.proofs.ArrayRows.{arrays_rows, arrays_allotted, arrays_descriptors}
use Rattle.b67_frames.proofs.MotherRows.{open_apart}
use Rattle.b67_frames.proofs.OneArray.{new_cell, hold_still, holds_open}
use Rattle.b67_frames.proofs.ArraysInTurn.{made_long, AreAdded, arrays_added, allotted_many, arrays_are_made}
use Rattle.b67_frames.proofs.ArrayTotals.{rows_behind, elements_new, rows_new, elements_grow, rows_grow, numbers_left, still_few}

-- ---- lists by number

get_behind : {A : Type 0} (xs ys : List A) (k l : ℕ) → k ≡ length xs + l → slice_get (xs ++ ys) k ≡ slice_get ys l
get_behind [] ys k l e = ap (slice_get ys) (let same : k ≡ l = omega (arith, e) in same)
get_behind (x ∷ xs) ys zero l e = absurd (omega (arith, e))
get_behind (x ∷ xs) ys (suc k) l e = get_behind xs ys k l (omega (arith, e))

-- ---- new arrays by number

module _ (kind : Kind) (bs : List Bounds) where
  got_cell : (ns : List Named) (l : ℕ) (c : NamedCell) → slice_get (new_arrays kind bs ns) l ≡ Some c → c.cell ≡ new_array kind bs
  got_cell [] l c e = none_some e
  got_cell (n ∷ ns) zero c e = ap (λ (x : NamedCell). x.cell) (sym (some_same e))
  got_cell (n ∷ ns) (suc l) c e = got_cell ns l c e

-- the kind of the elements of an array, where it is one
abbrev kind_made : Kind → Made → Kind
kind_made kind (an_array d) = d.kind
kind_made kind (an_event name) = kind

got_kind : (kind : Kind) (pairs : List PPair) (ns : List Named) (l : ℕ) (d : DeclaredArray) → slice_get (made_in kind ns pairs) l ≡ Some (an_array d) → d.kind ≡ kind
got_kind kind pairs [] l d e = none_some e
got_kind kind pairs (n ∷ ns) zero d e = ap (kind_made kind) (sym (some_same e))
got_kind kind pairs (n ∷ ns) (suc l) d e = got_kind kind pairs ns l d e

-- ---- the world after

-- An instance makes arrays of these names, which its block declares after those that the instance has made: their sizes are right, and
-- there is room for their elements.
pub record Makes (sc : Scopes) (w : World) (lay : Layout) (i : ℕ) (kind : Kind) (ns : List Named) (pairs : List PPair) (bs : List Bounds) : Type 0 where
  pub instance : Instance
  pub is : numbered w.instances i ≡ Some instance
  pub stands : instance.left ≡ false
  pub simple : List NamedCell
  pub arrays : List NamedCell
  pub has : instance.cells ≡ simple ++ arrays
  pub many : length simple ≡ length (simple_cells sc (block_numbered sc.blocks instance.block))
  pub declared : List Made
  pub later : List Made
  pub order : made_of (block_numbered sc.blocks instance.block).decls ≡ declared ++ (made_in kind ns pairs ++ later)
  pub descriptors : List Word
  pub made : AreMade declared arrays (lay.rows i) descriptors
  pub dimensions : AreDimensions pairs
  pub lows : map (λ (b : Bounds). b.low) bs ≡ lows_of pairs
  pub right : has_wrong_size bs ≡ false
  pub room : has_no_room w bs ns ≡ false

-- what is allotted to new arrays after these rows, and their descriptors
abbrev pub allotted_new : List Named → List Bounds → Rows → List Allotted
allotted_new ns bs rows = arrays_allotted (length ns) (extents_of bs) rows

abbrev pub descriptors_new : List Named → List Bounds → Rows → List Word
descriptors_new ns bs rows = arrays_descriptors (length ns) (extents_of bs) rows

abbrev pub rows_after : List Named → List Bounds → Rows → Rows
rows_after ns bs rows = arrays_rows (length ns) (extents_of bs) rows

module _ (sc : Scopes) (w : World) (lay : Layout) (rows : Rows) (are : ArraysAre sc w lay rows) (i : ℕ) (kind : Kind) (ns : List Named) (pairs : List PPair) (bs : List Bounds) (m : Makes sc w lay i kind ns pairs bs) where
  dimensional : HasDimensions bs
  dimensional = has_dimensions pairs bs m.dimensions m.lows

  sized : AreSized bs
  sized = are_sized bs dimensional m.right

  enough : open_rows rows + length ns * rows_of_bounds bs ≤ row_limit
  enough = omega (arith, are.opened, numbers_left w bs ns are.few (rows_few bs dimensional sized) m.room)

  -- the new ones are made as they are declared
  pub new_made : AreMade (made_in kind ns pairs) (new_arrays kind bs ns) (allotted_new ns bs rows) (descriptors_new ns bs rows)
  new_made = arrays_are_made kind pairs bs dimensional sized m.lows ns rows enough

  added : AreAdded kind bs rows (rows_after ns bs rows) (allotted_new ns bs rows)
  added = arrays_added kind bs dimensional (length ns) rows enough

  many_new : length (allotted_new ns bs rows) ≡ length ns
  many_new = allotted_many (length ns) bs rows

  abbrev grown : Instance
  grown = record m.instance { cells = m.instance.cells ++ new_arrays kind bs ns }

  -- A world and a layout in which the instance has the arrays.
  pub record WithArrays : Type 0 where
    pub world : World
    pub layout : Layout
    pub after : world.instances ≡ set_numbered w.instances i grown
    pub here : layout.rows i ≡ lay.rows i ++ allotted_new ns bs rows
    pub others : (j : ℕ) → i ≢ j → layout.rows j ≡ lay.rows j

  module _ (with_arrays : WithArrays) where
    open with_arrays use {world as w', layout as lay', after, here, others}

    -- an array of the world after was one before, or it is one of those that are made
    data Came (j number : ℕ) (d : DeclaredArray) (cell : ArrayCell) (a : Allotted) : Type 0 where
      before : HasArray sc w lay j number d cell a → Came j number d cell a
      fresh : (l : ℕ) → i ≡ j → number ≡ length m.declared + l → slice_get (allotted_new ns bs rows) l ≡ Some a → d.kind ≡ kind → cell ≡ new_cell kind bs → Came j number d cell a

    -- An array that is there then.
    pub record OneArray : Type 0 where
      pub instance : ℕ
      pub number : ℕ
      pub declared : DeclaredArray
      pub cell : ArrayCell
      pub allotted : Allotted
      pub has : HasArray sc w' lay' instance number declared cell allotted

    module _ (one : OneArray) where
      open one use {instance as j, number, declared as d, cell, allotted as a, has as h}

      set_there : numbered (set_numbered w.instances i grown) j ≡ Some h.instance
      set_there = ap (λ (xs : List Instance). numbered xs j) (sym after) ∙ h.is

      came_elsewhere : i ≢ j → HasArray sc w lay j number d cell a
      came_elsewhere other =
          record {
            instance = h.instance;
            is = sym (numbered_other w.instances i j grown other) ∙ set_there;
            stands = h.stands;
            declares = h.declares;
            has = h.has;
            allotted = ap (λ (as' : List Allotted). slice_get as' number) (sym (others j other)) ∙ h.allotted;
          }

      module _ (same : i ≡ j) where
        abbrev front : ℕ
        front = length (simple_cells sc (block_numbered sc.blocks m.instance.block))

        it_is : grown ≡ h.instance
        it_is = some_same (sym (numbered_set w.instances i m.instance grown m.is) ∙ ap (λ (k : ℕ). numbered (set_numbered w.instances i grown) k) same ∙ set_there)

        declares_it : slice_get (m.declared ++ (made_in kind ns pairs ++ m.later)) number ≡ Some (an_array d)
        declares_it =
            ap (λ (ds : List Made). slice_get ds number) (sym m.order)
            ∙ ap (λ (z : Instance). slice_get (made_of (block_numbered sc.blocks z.block).decls) number) it_is
            ∙ h.declares

        has_it : slice_get (m.instance.cells ++ new_arrays kind bs ns) (front + number) ≡ Some (record { name = d.name; cell = array cell })
        has_it = ap (λ (z : Instance). slice_get z.cells (length (simple_cells sc (block_numbered sc.blocks z.block)) + number)) it_is ∙ h.has

        allotted_it : slice_get (lay.rows i ++ allotted_new ns bs rows) number ≡ Some a
        allotted_it = ap (λ (as' : List Allotted). slice_get as' number) (sym here) ∙ ap (λ (k : ℕ). slice_get (lay'.rows k) number) same ∙ h.allotted

        long : length m.instance.cells ≡ front + length m.declared
        long = ap length m.has ∙ length-append m.simple m.arrays ∙ omega (arith, m.many, (made_long m.declared m.arrays (lay.rows i) m.descriptors m.made).0)

        long_rows : length (lay.rows i) ≡ length m.declared
        long_rows = (made_long m.declared m.arrays (lay.rows i) m.descriptors m.made).1

        came_before : number < length m.declared → HasArray sc w lay j number d cell a
        came_before low =
            record {
              instance = m.instance;
              is = ap (λ (k : ℕ). numbered w.instances k) (sym same) ∙ m.is;
              stands = m.stands;
              declares = ap (λ (ds : List Made). slice_get ds number) m.order ∙ declares_it;
              has = sym (get_append m.instance.cells (new_arrays kind bs ns) (front + number) (omega (arith, low, long))) ∙ has_it;
              allotted =
                  ap (λ (k : ℕ). slice_get (lay.rows k) number) (sym same)
                  ∙ sym (get_append (lay.rows i) (allotted_new ns bs rows) number (omega (arith, low, long_rows)))
                  ∙ allotted_it;
            }

        came_fresh : (l : ℕ) → number ≡ length m.declared + l → Came j number d cell a
        came_fresh l place = fresh l same place given kind_is cell_is
          where
            given : slice_get (allotted_new ns bs rows) l ≡ Some a
            given = sym (get_behind (lay.rows i) (allotted_new ns bs rows) number l (omega (arith, place, long_rows))) ∙ allotted_it

            within : l < length (made_in kind ns pairs)
            within = omega (arith, get_within (allotted_new ns bs rows) l a given, many_new, length-map (arrays_in kind ns pairs) an_array, length-map {B = DeclaredArray} ns (λ (n : Named). record { name = n.name; kind = kind; pairs = pairs }))

            kind_is : d.kind ≡ kind
            kind_is =
                got_kind kind pairs ns l d
                (sym (get_append (made_in kind ns pairs) m.later l within)
                ∙ sym (get_behind m.declared (made_in kind ns pairs ++ m.later) number l place)
                ∙ declares_it)

            cell_is : cell ≡ new_cell kind bs
            cell_is =
                let clear : array cell ≡ array (new_cell kind bs) =
                got_cell kind bs ns l (record { name = d.name; cell = array cell }) (sym (get_behind m.instance.cells (new_arrays kind bs ns) (front + number) l (omega (arith, place, long))) ∙ has_it) in
                cc

      origin : Came j number d cell a
      origin = by_instance (same_or_not i j)
        where
          by_number : i ≡ j → (length m.declared ≤ number) ⊎ (number < length m.declared) → Came j number d cell a
          by_number same (inl high) = came_fresh same (number - length m.declared) (omega (arith, high))
          by_number same (inr low) = before (came_before same low)

          by_instance : (i ≡ j) ⊎ (i ≢ j) → Came j number d cell a
          by_instance (inl same) = by_number same (most_or_more (length m.declared) number)
          by_instance (inr other) = before (came_elsewhere other)

    -- ---- the parts of what is said of the rows

    held_after : (j number : ℕ) (d : DeclaredArray) (cell : ArrayCell) (a : Allotted) → Came j number d cell a → HoldElements (rows_after ns bs rows) d.kind cell a
    held_after j number d cell a (before h) = hold_still rows (rows_after ns bs rows) d.kind cell a added.kept (are.held j number d cell a h)
    held_after j number d cell a (fresh l same place given kind_is cell_is) = rw (kind_is, cell_is) (added.holds l a given)

    -- a row of an array before is no row of one that is made
    old_new : (j number k n l q : ℕ) (d : DeclaredArray) (cell : ArrayCell) (a b : Allotted) → HasArray sc w lay j number d cell a → slice_get (row_numbers_of a) k ≡ Some n → slice_get (allotted_new ns bs rows) l ≡ Some b → slice_get (row_numbers_of b) q ≡ Some n → ⊥
    old_new j number k n l q d cell a b h there given also =
        let o = holds_open rows d.kind cell a (are.held j number d cell a h) k n there in
        open_apart rows n n o.0 o.1 (added.free l q n b given also) refl

    apart_after : (j j' number other k l n : ℕ) (d e : DeclaredArray) (cell cell' : ArrayCell) (a b : Allotted) → Came j number d cell a → Came j' other e cell' b → slice_get (row_numbers_of a) k ≡ Some n → slice_get (row_numbers_of b) l ≡ Some n →
        (j ≡ j') × (number ≡ other) × (k ≡ l)
    apart_after j j' number other k l n d e cell cell' a b (before h) (before g) there also =
        are.apart j j' number other k l n (record { declared = d; cell = cell; allotted = a; array = h; there = there }) (record { declared = e; cell = cell'; allotted = b; array = g; there = also })
    apart_after j j' number other k l n d e cell cell' a b (before h) (fresh q same place given kind_is cell_is) there also =
        absurd (old_new j number k n q l d cell a b h there given also)
    apart_after j j' number other k l n d e cell cell' a b (fresh q same place given kind_is cell_is) (before g) there also =
        absurd (old_new j' other l n q k e cell' b a g also given there)
    apart_after j j' number other k l n d e cell cell' a b (fresh q same place given kind_is cell_is) (fresh q' same' place' given' kind_is' cell_is') there also =
        let one = added.apart q q' k l n a b given given' there also in
        (sym same ∙ same', place ∙ ap (λ (n : ℕ). length m.declared + n) one.0 ∙ sym place', one.1)

    few_after : (j : ℕ) (y : Instance) → numbered w'.instances j ≡ Some y → y.left ≡ false → rows_of_cells y.cells ≤ 2 * size_of_cells y.cells
    few_after j y there stays = by_instance (same_or_not i j)
      where
        set_there : numbered (set_numbered w.instances i grown) j ≡ Some y
        set_there = ap (λ (xs : List Instance). numbered xs j) (sym after) ∙ there

        by_instance : (i ≡ j) ⊎ (i ≢ j) → rows_of_cells y.cells ≤ 2 * size_of_cells y.cells
        by_instance (inl same) =
            let it_is : grown ≡ y = some_same (sym (numbered_set w.instances i m.instance grown m.is) ∙ ap (λ (k : ℕ). numbered (set_numbered w.instances i grown) k) same ∙ set_there) in
            let small = still_few kind bs ns m.instance.cells (are.few i m.instance m.is m.stands) (rows_few bs dimensional sized) in
            rw (← it_is) small
        by_instance (inr other) = are.few j y (sym (numbered_other w.instances i j grown other) ∙ set_there) stays

    more_elements : live_elements w'.instances ≡ live_elements w.instances + length ns * elements_of bs
    more_elements =
        ap live_elements after
        ∙ elements_grow w.instances i m.instance grown (length ns * elements_of bs) m.is
        (ap (λ (b : Bool). size_unless b (size_of_cells grown.cells)) m.stands
        ∙ elements_behind m.instance.cells (new_arrays kind bs ns)
        ∙ ap (λ (n : ℕ). size_of_cells m.instance.cells + n) (elements_new kind bs ns)
        ∙ ap (λ (b : Bool). size_unless b (size_of_cells m.instance.cells) + length ns * elements_of bs) (sym m.stands))

    more_rows : live_rows w'.instances ≡ live_rows w.instances + length ns * rows_of_bounds bs
    more_rows =
        ap live_rows after
        ∙ rows_grow w.instances i m.instance grown (length ns * rows_of_bounds bs) m.is
        (ap (λ (b : Bool). size_unless b (rows_of_cells grown.cells)) m.stands
        ∙ rows_behind m.instance.cells (new_arrays kind bs ns)
        ∙ ap (λ (n : ℕ). rows_of_cells m.instance.cells + n) (rows_new kind bs ns)
        ∙ ap (λ (b : Bool). size_unless b (rows_of_cells m.instance.cells) + length ns * rows_of_bounds bs) (sym m.stands))

    -- The rows hold the arrays of a world that has the new arrays as cells of the instance, where the layout allots them these rows.
    pub arrays_after : ArraysAre sc w' lay' (rows_after ns bs rows)
    arrays_after =
        record {
          held = λ j number d cell a h. held_after j number d cell a (origin (record { instance = j; number = number; declared = d; cell = cell; allotted = a; has = h }));
          apart = λ j j' number other k l n h g.
              apart_after j j' number other k l n h.declared g.declared h.cell g.cell h.allotted g.allotted (origin (record {
                instance = j;
                number = number;
                declared = h.declared;
                cell = h.cell;
                allotted = h.allotted;
                has = h.array;
              })) (origin (record { instance = j'; number = other; declared = g.declared; cell = g.cell; allotted = g.allotted; has = g.array })) h.there g.there;
          counted = added.counted ∙ omega (arith, are.counted, more_elements, ap (λ (n : ℕ). n * elements_of bs) many_new);
          opened = added.opened ∙ omega (arith, are.opened, more_rows, ap (λ (n : ℕ). n * rows_of_bounds bs) many_new);
          few = few_after;
        }
