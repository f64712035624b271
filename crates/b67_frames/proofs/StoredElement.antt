-- An element is stored, in the world and in its row.
use Rattle.std.proofs.Common.{◌≡◌, ◌≢◌, ◌⊎◌, inl, inr, refl, sym, ap, ◌∙◌, subst, ℕ, ◌+◌, ◌*◌, ◌≤◌, List, ◌++◌, length, Option, Some, false, arith}
use Rattle.b67_list.proofs.Lists.{get_set_other, length_set}
use Rattle.b67_list.proofs.Numbered.{numbered_set}
use Rattle.b67_frames.proofs.Prelude.{slice_get, slice_set, numbered, set_numbered, block_numbered, Scopes, size_of_cells, size_unless, live_elements, flat, with_element, Value, ArrayCell, Cell, event, array, NamedCell, Instance, World, instance_at, or_no_instance, cell_in, cells_with, by_cell, DeclaredArray, an_array, Word, counts, Rows, with_row_word, simple_cells, made_of, HasKind, ValueIs, some_same, same_or_not, numbered_other, get_set, get_behind, Allotted, row_numbers_of, Layout, HoldElements, rows_of_cells, live_rows, HasArray, ArrayHasRow, ArraysAre, IsArrayOf, ElementIsIn}
use Rattle.algol_meaning.specs.World.{set_cell}
use Rattle.b67_frames.proofs.ArraysKept.{elements_numbered, rows_numbered}
use Rattle.b67_frames.proofs.ClosedRows.{AreApart}
use Rattle.b67_frames.proofs.Knowing.{KeepsArrays, IsNoReference, keeps_same, other_stays, names_stay}
use Rattle.b67_frames.proofs.OneClosed.{part_number, holds_same}
use Rattle.b67_frames.proofs.OwnCells.{OwnCells, OwnArray, known_array, known_has}
use Rattle.b67_frames.proofs.StoredCells.{IsAlike, size_stays, rows_stay, StillArray, array_still}
use Rattle.b67_frames.proofs.StoredRows.{written_open, written_other, holds_stored}
use Rattle.b67_frames.proofs.Zeros.{cells_length}

-- an array by its number is the same in a later world, or it is the one with the element
data Before (sc : Scopes) (w : World) (lay : Layout) (i number : ℕ) (declared : DeclaredArray) (later : ArrayCell) (a : Allotted) (j other : ℕ) (d : DeclaredArray) (c : ArrayCell) (b : Allotted) : Type 0 where
  same : HasArray sc w lay j other d c b → (i ≡ j → number ≡ other → ⊥) → Before sc w lay i number declared later a j other d c b
  stored : i ≡ j → number ≡ other → declared ≡ d → later ≡ c → a ≡ b → Before sc w lay i number declared later a j other d c b

-- The array, its element, and the value that is stored into it.
pub record StoresElement (sc : Scopes) (w : World) (lay : Layout) (i : ℕ) : Type 0 where
  pub name : List ℕ
  pub declared : DeclaredArray
  pub cell : ArrayCell
  pub allotted : Allotted
  pub of : IsArrayOf sc w lay i name declared cell allotted
  pub subscripts : List ℕ
  pub index : ℕ
  pub at : ℕ
  pub number : ℕ
  pub within : ElementIsIn sc w lay cell.bounds subscripts index at
  pub part : slice_get allotted.parts index ≡ Some number
  pub value : Value
  pub word : Word
  pub fits : HasKind declared.kind value
  pub is : ValueIs value word

module _ (sc : Scopes) (w : World) (lay : Layout) (rows : Rows) (are : ArraysAre sc w lay rows) (i : ℕ) (x : Instance) (own : OwnCells sc w lay i x) (stores : StoresElement sc w lay i) where
  open stores use {name, declared, cell, allotted as a, of, subscripts as ks, index, at, number, within, part, value as v, word, fits, is}

  abbrev later : ArrayCell
  later = with_element cell ks v

  alike : IsAlike cell later
  alike = record { bounds = refl; many = length_set cell.elements (flat 0 cell.bounds ks) v }

  abbrev pub element_world : World
  element_world = set_cell w (record { instance = i; name = name }) (array (with_element cell ks v))

  abbrev pub element_instance : Instance
  element_instance = record x { cells = cells_with x.cells name (array (with_element cell ks v)) }

  here : instance_at w i ≡ x
  here = ap or_no_instance own.is

  -- one instance changes
  pub element_instances : element_world.instances ≡ set_numbered w.instances i element_instance
  element_instances =
      ap (λ (y : Instance). set_numbered w.instances i (record y { cells = cells_with y.cells name (array (with_element cell ks v)) })) here

  pub element_there : numbered element_world.instances i ≡ Some element_instance
  element_there = ap (λ (xs : List Instance). numbered xs i) element_instances ∙ numbered_set w.instances i x element_instance own.is

  others_there : (j : ℕ) → i ≢ j → numbered element_world.instances j ≡ numbered w.instances j
  others_there j other = ap (λ (xs : List Instance). numbered xs j) element_instances ∙ numbered_other w.instances i j element_instance other

  -- ---- the array

  known : (found : OwnArray sc w lay i x own name of.number declared) × (found.cell ≡ cell) × (found.allotted ≡ a)
  known = known_array sc w lay i x own name declared cell a of

  abbrev found : OwnArray sc w lay i x own name of.number declared
  found = known.0

  cell_is : found.cell ≡ cell
  cell_is = known.1

  has : HasArray sc w lay i of.number declared cell a
  has = known_has sc w lay i x own name declared cell a of

  there : slice_get own.arrays of.number ≡ Some (record { name = declared.name; cell = array cell })
  there = found.there ∙ ap (λ (c : ArrayCell). Some (record { name = declared.name; cell = array c })) cell_is

  means : cell_in x.cells name ≡ array cell
  means = ap (λ (y : Instance). cell_in y.cells name) (sym here) ∙ of.is

  row : (k n : ℕ) → slice_get (row_numbers_of a) k ≡ Some n → ArrayHasRow sc w lay i of.number k n
  row k n e = record { declared = declared; cell = cell; allotted = a; array = has; there = e }

  apart : AreApart (row_numbers_of a)
  apart k l n e f = (are.apart i i of.number of.number k l n (row k n e) (row l n f)).2

  -- ---- the cells of the instance

  pub cells_still : cells_with x.cells name (array (with_element cell ks v)) ≡ own.simple ++ cells_with own.arrays name (array (with_element cell ks v))
  cells_still = found.changed_behind (array later)

  -- ---- the arrays of the world

  abbrev first : ℕ
  first = length (simple_cells sc (block_numbered sc.blocks x.block))

  simple_many : length own.simple ≡ first
  simple_many = cells_length (simple_cells sc (block_numbered sc.blocks x.block)) own.simple own.values own.simple_are

  has_declared : slice_get (made_of (block_numbered sc.blocks x.block).decls) of.number ≡ Some (an_array declared)
  has_declared =
      ap (λ (y : Instance). slice_get (made_of (block_numbered sc.blocks y.block).decls) of.number) (some_same (sym own.is ∙ has.is)) ∙ has.declares

  abbrev Was : (j other : ℕ) (d : DeclaredArray) (c : ArrayCell) (b : Allotted) → Type 0
  Was j other d c b = Before sc w lay i of.number declared later a j other d c b

  before : (j other : ℕ) (d : DeclaredArray) (c : ArrayCell) (b : Allotted) → HasArray sc element_world lay j other d c b → Was j other d c b
  before j other d c b h = by_instance (same_or_not i j)
    where
      by_instance : (i ≡ j) ⊎ (i ≢ j) → Was j other d c b
      by_instance (inl own_is) = by_number (same_or_not of.number other)
        where
          instance_is : element_instance ≡ h.instance
          instance_is = some_same (sym element_there ∙ ap (λ (k : ℕ). numbered element_world.instances k) own_is ∙ h.is)

          declares : slice_get (made_of (block_numbered sc.blocks x.block).decls) other ≡ Some (an_array d)
          declares = ap (λ (y : Instance). slice_get (made_of (block_numbered sc.blocks y.block).decls) other) instance_is ∙ h.declares

          lies : slice_get (slice_set own.arrays of.number (record { name = declared.name; cell = array later })) other ≡ Some (record { name = d.name; cell = array c })
          lies =
              sym (get_behind own.simple (slice_set own.arrays of.number (record { name = declared.name; cell = array later })) other (first + other)
              (ap (λ (n : ℕ). n + other) (sym simple_many)))
              ∙ ap (λ (cells : List NamedCell). slice_get cells (first + other)) (sym (cells_still ∙ ap (λ (cells : List NamedCell). own.simple ++ cells) (found.changed (array later))))
              ∙ ap (λ (y : Instance). slice_get y.cells (length (simple_cells sc (block_numbered sc.blocks y.block)) + other)) instance_is
              ∙ h.has

          by_number : (of.number ≡ other) ⊎ (of.number ≢ other) → Was j other d c b
          by_number (inl number_is) =
              let cells_are : array later ≡ array c =
              ap (λ (y : NamedCell). y.cell)
              (some_same (sym (get_set own.arrays of.number (record { name = declared.name; cell = array cell }) (record { name = declared.name; cell = array later }) there)
              ∙ ap (λ (n : ℕ). slice_get (slice_set own.arrays of.number (record { name = declared.name; cell = array later })) n) number_is
              ∙ lies)) in
              stored own_is number_is
              (cc (some_same (sym has_declared ∙ ap (λ (n : ℕ). slice_get (made_of (block_numbered sc.blocks x.block).decls) n) number_is ∙ declares))) (cc)
              (some_same (sym has.allotted ∙ ap (λ (n : ℕ). slice_get (lay.rows i) n) number_is ∙ ap (λ (k : ℕ). slice_get (lay.rows k) other) own_is ∙ h.allotted))
          by_number (inr apart_is) =
              same
              (record {
                instance = x;
                is = ap (λ (k : ℕ). numbered w.instances k) (sym own_is) ∙ own.is;
                stands = own.stands;
                declares = declares;
                has =
                    ap (λ (cells : List NamedCell). slice_get cells (first + other)) own.has
                    ∙ get_behind own.simple own.arrays other (first + other) (ap (λ (n : ℕ). n + other) (sym simple_many))
                    ∙ sym (get_set_other own.arrays of.number other (record { name = declared.name; cell = array later }) (λ e. apart_is (sym e)))
                    ∙ lies;
                allotted = h.allotted;
              }) (λ _ number_is. apart_is number_is)
      by_instance (inr other_is) =
          same
          (record {
            instance = h.instance;
            is = sym (others_there j other_is) ∙ h.is;
            stands = h.stands;
            declares = h.declares;
            has = h.has;
            allotted = h.allotted;
          }) (λ own_is _. other_is own_is)

  row_before : (j other k n : ℕ) → ArrayHasRow sc element_world lay j other k n → ArrayHasRow sc w lay j other k n
  row_before j other k n h = by_before (before j other h.declared h.cell h.allotted h.array)
    where
      by_before : Was j other h.declared h.cell h.allotted → ArrayHasRow sc w lay j other k n
      by_before (same had apart_is) = record { declared = h.declared; cell = h.cell; allotted = h.allotted; array = had; there = h.there }
      by_before (stored own_is number_is declared_is cell_is' rows_is) =
          subst (λ (l : ℕ). ArrayHasRow sc w lay l other k n) own_is
          (subst (λ (l : ℕ). ArrayHasRow sc w lay i l k n) number_is (row k n (ap (λ (b : Allotted). slice_get (row_numbers_of b) k) rows_is ∙ h.there)))

  held_after : (j other : ℕ) (d : DeclaredArray) (c : ArrayCell) (b : Allotted) → HasArray sc element_world lay j other d c b → HoldElements (with_row_word rows number at word) d.kind c b
  held_after j other d c b h = by_before (before j other d c b h)
    where
      by_before : Was j other d c b → HoldElements (with_row_word rows number at word) d.kind c b
      by_before (same had apart_is) =
          holds_same rows (with_row_word rows number at word) d.kind c b
          (λ k n e.
          written_other rows number at word n
          (λ number_is.
          let mine = part_number a index number part in
          let clash = are.apart i j of.number other mine.0 k number (row mine.0 number mine.1)
          (record { declared = d; cell = c; allotted = b; array = had; there = e ∙ ap (λ (m : ℕ). Some m) number_is }) in
          apart_is clash.0 clash.1))
          (are.held j other d c b had)
      by_before (stored own_is number_is declared_is cell_is' rows_is) =
          subst (λ (b : Allotted). HoldElements (with_row_word rows number at word) d.kind c b) rows_is
          (subst (λ (c : ArrayCell). HoldElements (with_row_word rows number at word) d.kind c a) cell_is'
          (subst (λ (d : DeclaredArray). HoldElements (with_row_word rows number at word) d.kind later a) declared_is
          (holds_stored sc w lay rows declared.kind cell a (are.held i of.number declared cell a has) apart (record {
            subscripts = ks;
            index = index;
            at = at;
            number = number;
            within = within;
            part = part;
            value = v;
            word = word;
            fits = fits;
            is = is;
          }))))

  few_after : (j : ℕ) (y : Instance) → numbered element_world.instances j ≡ Some y → y.left ≡ false → rows_of_cells y.cells ≤ 2 * size_of_cells y.cells
  few_after j y there_is stands = by_instance (same_or_not i j)
    where
      by_instance : (i ≡ j) ⊎ (i ≢ j) → rows_of_cells y.cells ≤ 2 * size_of_cells y.cells
      by_instance (inl own_is) =
          let instance_is : element_instance ≡ y = some_same (sym element_there ∙ ap (λ (k : ℕ). numbered element_world.instances k) own_is ∙ there_is) in
          let size : size_of_cells y.cells ≡ size_of_cells x.cells =
          ap (λ (z : Instance). size_of_cells z.cells) (sym instance_is) ∙ size_stays name cell later alike x.cells means in
          let many : rows_of_cells y.cells ≡ rows_of_cells x.cells =
          ap (λ (z : Instance). rows_of_cells z.cells) (sym instance_is) ∙ rows_stay name cell later alike x.cells means in
          omega (arith, are.few i x own.is own.stands, size, many)
      by_instance (inr other_is) = are.few j y (sym (others_there j other_is) ∙ there_is) stands

  pub element_stored : ArraysAre sc element_world lay (with_row_word rows number at word)
  element_stored =
      record {
        held = held_after;
        apart = λ j l other more k m n h o. are.apart j l other more k m n (row_before j other k n h) (row_before l more m n o);
        counted =
            counts.written rows number at word
            ∙ are.counted
            ∙ sym (ap live_elements element_instances ∙ elements_numbered w.instances i x element_instance own.is (ap (size_unless x.left) (size_stays name cell later alike x.cells means)));
        opened =
            written_open rows number at word
            ∙ are.opened
            ∙ sym (ap live_rows element_instances ∙ rows_numbered w.instances i x element_instance own.is (ap (size_unless x.left) (rows_stay name cell later alike x.cells means)));
        few = few_after;
      }

  -- ---- what is known of descriptors

  -- each instance keeps its arrays and their bounds
  pub element_keeps : (j : ℕ) → KeepsArrays sc w element_world lay lay j
  element_keeps j = by_instance (same_or_not i j)
    where
      mine : KeepsArrays sc w element_world lay lay i
      mine =
          record {
            block = ap (λ (o : Option Instance). (or_no_instance o).block) element_there ∙ ap (λ (y : Instance). y.block) (sym here);
            arrays = λ other c e.
                let still : StillArray name cell later alike x.cells other c =
                array_still name cell later alike x.cells other c means (ap (λ (y : Instance). cell_in y.cells other) (sym here) ∙ e) in
                record { later = still.now; is = ap (λ (o : Option Instance). cell_in ((or_no_instance o).cells) other) element_there ∙ still.is; bounds = still.bounds };
            parent = ap (λ (o : Option Instance). (or_no_instance o).parent) element_there ∙ ap (λ (y : Instance). y.parent) (sym here);
            events = λ other e is_there. (
              e,
              ap (λ (o : Option Instance). cell_in ((or_no_instance o).cells) other) element_there
                  ∙ other_stays x.cells name other (array cell) (array later) (event e) means (λ (clash : array cell ≡ event e). cc) (ap (λ (y : Instance). cell_in y.cells other) (sym here) ∙ is_there),
            );
            leads = λ other r.
                ap (λ (o : Option Instance). by_cell (cell_in ((or_no_instance o).cells) other) r) element_there
                ∙ names_stay x.cells name other (array later) r (subst (λ (c : Cell). IsNoReference c) (sym means) tt) tt
                ∙ ap (λ (y : Instance). by_cell (cell_in y.cells other) r) (sym here);
            rows = λ other b e. e;
          }

      by_instance : (i ≡ j) ⊎ (i ≢ j) → KeepsArrays sc w element_world lay lay j
      by_instance (inl own_is) = subst (λ (k : ℕ). KeepsArrays sc w element_world lay lay k) own_is mine
      by_instance (inr other_is) = keeps_same sc w element_world lay lay j (ap or_no_instance (others_there j other_is)) refl
