-- The rows of an image hold the arrays of a later world as well, where what changes has no array.
use Rattle.std.proofs.Common.{◌≡◌, ◌≢◌, ◌⊎◌, inl, inr, refl, sym, ap, ◌∙◌, subst, ℕ, zero, suc, ◌+◌, ◌*◌, ◌≤◌, List, [], ◌∷◌, ◌++◌, length, Some, Bool, true, false, arith}
use Rattle.b67_list.proofs.Numbered.{numbered_set}
use Rattle.b67_list.proofs.Numbers.{none_some, number_different, number_told}
use Rattle.b67_frames.proofs.Prelude.{if◌then◌else◌, ◌==◌, slice_get, slice_set, numbered, set_numbered, block_numbered, Scopes, same_name, size_of_cell, size_of_cells, size_unless, live_elements, Value, ArrayCell, Cell, simple, event, array, named, reference, NamedCell, Instance, World, cell_in, cells_with, DeclaredArray, Word, Rows, Simple, simple_cells, Wanted, made_of, some_same, numbered_last, same_or_not, numbered_other, Allotted, Layout, rows_of_cell, rows_of_cells, live_rows, HasArray, ArrayHasRow, ArraysAre, CellIs, CellsAre}
use Rattle.b67_templates.specs.Cells as wants

-- ---- the rows of instances

-- with others for one instance
abbrev pub rows_but : (ℕ → List Allotted) → ℕ → List Allotted → ℕ → List Allotted
rows_but rows n as' i = if i == n then as' else rows i

pub rows_there : (rows : ℕ → List Allotted) (n : ℕ) (as' : List Allotted) (i : ℕ) → i ≡ n → rows_but rows n as' i ≡ as'
rows_there rows n as' i same = ap (λ (b : Bool). if b then as' else rows i) (number_told i n same)

pub rows_other : (rows : ℕ → List Allotted) (n : ℕ) (as' : List Allotted) (i : ℕ) → i ≢ n → rows_but rows n as' i ≡ rows i
rows_other rows n as' i other = ap (λ (b : Bool). if b then as' else rows i) (number_different i n other)

-- ---- arrays that are the same

module _ (sc : Scopes) (w w' : World) (lay lay' : Layout) where
  -- Each array of the later world was one before, with the same elements and the same rows, and there are no more.
  pub arrays_by : ((i number : ℕ) (declared : DeclaredArray) (cell : ArrayCell) (a : Allotted) → HasArray sc w' lay' i number declared cell a → HasArray sc w lay i number declared cell a) →
      live_elements w'.instances ≡ live_elements w.instances → live_rows w'.instances ≡ live_rows w.instances →
      ((i : ℕ) (x : Instance) → numbered w'.instances i ≡ Some x → x.left ≡ false → rows_of_cells x.cells ≤ 2 * size_of_cells x.cells) → (rows : Rows) → ArraysAre sc w lay rows → ArraysAre sc w' lay' rows
  arrays_by before elements many few rows are =
      record {
        held = λ i number declared cell a h. are.held i number declared cell a (before i number declared cell a h);
        apart = λ i j number other k l n h o. are.apart i j number other k l n (row_before i number k n h) (row_before j other l n o);
        counted = are.counted ∙ sym elements;
        opened = are.opened ∙ sym many;
        few = few;
      }
    where
      row_before : (i number k n : ℕ) → ArrayHasRow sc w' lay' i number k n → ArrayHasRow sc w lay i number k n
      row_before i number k n h = record { declared = h.declared; cell = h.cell; allotted = h.allotted; array = before i number h.declared h.cell h.allotted h.array; there = h.there }

-- where no instance changes
pub arrays_unchanged : (sc : Scopes) (w w' : World) (lay : Layout) (rows : Rows) → w'.instances ≡ w.instances → ArraysAre sc w lay rows → ArraysAre sc w' lay rows
arrays_unchanged sc w w' lay rows same are =
    arrays_by sc w w' lay lay
    (λ i number declared cell a h. record {
      instance = h.instance;
      is = ap (λ (xs : List Instance). numbered xs i) (sym same) ∙ h.is;
      stands = h.stands;
      declares = h.declares;
      has = h.has;
      allotted = h.allotted;
    }) (ap live_elements same) (ap live_rows same) (λ i x there stands. are.few i x (ap (λ (xs : List Instance). numbered xs i) (sym same) ∙ there) stands) rows are

-- ---- sums over instances

-- where one instance has as much as before, so have all
elements_set : (xs : List Instance) (k : ℕ) (x y : Instance) → slice_get xs k ≡ Some x → size_unless y.left (size_of_cells y.cells) ≡ size_unless x.left (size_of_cells x.cells) →
    live_elements (slice_set xs k y) ≡ live_elements xs
elements_set [] k x y there same = cc
elements_set (z ∷ zs) zero x y there same =
    let here : z ≡ x = some_same there in
    ap (λ (n : ℕ). n + live_elements zs) (same ∙ ap (λ (v : Instance). size_unless v.left (size_of_cells v.cells)) (sym here))
elements_set (z ∷ zs) (suc k) x y there same = ap (λ (n : ℕ). size_unless z.left (size_of_cells z.cells) + n) (elements_set zs k x y there same)

rows_set : (xs : List Instance) (k : ℕ) (x y : Instance) → slice_get xs k ≡ Some x → size_unless y.left (rows_of_cells y.cells) ≡ size_unless x.left (rows_of_cells x.cells) →
    live_rows (slice_set xs k y) ≡ live_rows xs
rows_set [] k x y there same = cc
rows_set (z ∷ zs) zero x y there same =
    let here : z ≡ x = some_same there in
    ap (λ (n : ℕ). n + live_rows zs) (same ∙ ap (λ (v : Instance). size_unless v.left (rows_of_cells v.cells)) (sym here))
rows_set (z ∷ zs) (suc k) x y there same = ap (λ (n : ℕ). size_unless z.left (rows_of_cells z.cells) + n) (rows_set zs k x y there same)

pub elements_numbered : (xs : List Instance) (i : ℕ) (x y : Instance) → numbered xs i ≡ Some x → size_unless y.left (size_of_cells y.cells) ≡ size_unless x.left (size_of_cells x.cells) →
    live_elements (set_numbered xs i y) ≡ live_elements xs
elements_numbered xs zero x y there same = none_some there
elements_numbered xs (suc k) x y there same = elements_set xs k x y there same

pub rows_numbered : (xs : List Instance) (i : ℕ) (x y : Instance) → numbered xs i ≡ Some x → size_unless y.left (rows_of_cells y.cells) ≡ size_unless x.left (rows_of_cells x.cells) →
    live_rows (set_numbered xs i y) ≡ live_rows xs
rows_numbered xs zero x y there same = none_some there
rows_numbered xs (suc k) x y there same = rows_set xs k x y there same

pub elements_more : (xs ys : List Instance) → live_elements (xs ++ ys) ≡ live_elements xs + live_elements ys
elements_more [] ys = omega arith
elements_more (x ∷ xs) ys = omega (arith, elements_more xs ys)

pub rows_more : (xs ys : List Instance) → live_rows (xs ++ ys) ≡ live_rows xs + live_rows ys
rows_more [] ys = omega arith
rows_more (x ∷ xs) ys = omega (arith, rows_more xs ys)

-- ---- a simple cell changes

-- the cells with another value in the first one of a name, by whether the first cell has it
abbrev with_value : Bool → NamedCell → List NamedCell → List ℕ → Value → List NamedCell
with_value b c cells name v = if b then record c { cell = simple v } ∷ cells else c ∷ cells_with cells name (simple v)

elements_stored : (cells : List NamedCell) (name : List ℕ) (u v : Value) → cell_in cells name ≡ simple u → size_of_cells (cells_with cells name (simple v)) ≡ size_of_cells cells
elements_stored [] name u v is = refl
elements_stored (c ∷ cells) name u v is = by_name (elements_stored cells name u v) (same_name c.name name) refl is
  where
    by_name : (cell_in cells name ≡ simple u → size_of_cells (cells_with cells name (simple v)) ≡ size_of_cells cells) → (b : Bool) → same_name c.name name ≡ b →
        (if same_name c.name name then c.cell else cell_in cells name) ≡ simple u → size_of_cells (with_value (same_name c.name name) c cells name v) ≡ size_of_cells (c ∷ cells)
    by_name rest true e is =
        let here : c.cell ≡ simple u = ap (λ (b : Bool). if b then c.cell else cell_in cells name) (sym e) ∙ is in
        ap (λ (b : Bool). size_of_cells (with_value b c cells name v)) e ∙ ap (λ (k : Cell). size_of_cell k + size_of_cells cells) (sym here)
    by_name rest false e is =
        ap (λ (b : Bool). size_of_cells (with_value b c cells name v)) e
        ∙ ap (λ (n : ℕ). size_of_cell c.cell + n) (rest (ap (λ (b : Bool). if b then c.cell else cell_in cells name) (sym e) ∙ is))

rows_stored : (cells : List NamedCell) (name : List ℕ) (u v : Value) → cell_in cells name ≡ simple u → rows_of_cells (cells_with cells name (simple v)) ≡ rows_of_cells cells
rows_stored [] name u v is = refl
rows_stored (c ∷ cells) name u v is = by_name (rows_stored cells name u v) (same_name c.name name) refl is
  where
    by_name : (cell_in cells name ≡ simple u → rows_of_cells (cells_with cells name (simple v)) ≡ rows_of_cells cells) → (b : Bool) → same_name c.name name ≡ b →
        (if same_name c.name name then c.cell else cell_in cells name) ≡ simple u → rows_of_cells (with_value (same_name c.name name) c cells name v) ≡ rows_of_cells (c ∷ cells)
    by_name rest true e is =
        let here : c.cell ≡ simple u = ap (λ (b : Bool). if b then c.cell else cell_in cells name) (sym e) ∙ is in
        ap (λ (b : Bool). rows_of_cells (with_value b c cells name v)) e ∙ ap (λ (k : Cell). rows_of_cell k + rows_of_cells cells) (sym here)
    by_name rest false e is =
        ap (λ (b : Bool). rows_of_cells (with_value b c cells name v)) e
        ∙ ap (λ (n : ℕ). rows_of_cell c.cell + n) (rest (ap (λ (b : Bool). if b then c.cell else cell_in cells name) (sym e) ∙ is))

-- what is an array among the cells was one before
array_before : (cells : List NamedCell) (name : List ℕ) (v : Value) (k : ℕ) (other : List ℕ) (a : ArrayCell) → slice_get (cells_with cells name (simple v)) k ≡ Some (record { name = other; cell = array a }) →
    slice_get cells k ≡ Some (record { name = other; cell = array a })
array_before [] name v k other a is = is
array_before (c ∷ cells) name v k other a is = by_name (array_before cells name v) (same_name c.name name) refl k is
  where
    by_name : ((k : ℕ) (other : List ℕ) (a : ArrayCell) → slice_get (cells_with cells name (simple v)) k ≡ Some (record { name = other; cell = array a }) → slice_get cells k ≡ Some (record { name = other; cell = array a })) →
        (b : Bool) → same_name c.name name ≡ b → (k : ℕ) → slice_get (with_value (same_name c.name name) c cells name v) k ≡ Some (record { name = other; cell = array a }) → slice_get (c ∷ cells) k ≡ Some (record { name = other; cell = array a })
    by_name rest true e zero is =
        let here : record c { cell = simple v } ≡ record { name = other; cell = array a } = some_same (ap (λ (b : Bool). slice_get (with_value b c cells name v) 0) (sym e) ∙ is) in
        absurd (let clash : simple v ≡ array a = ap (λ (x : NamedCell). x.cell) here in cc)
    by_name rest true e (suc k) is = ap (λ (b : Bool). slice_get (with_value b c cells name v) (suc k)) (sym e) ∙ is
    by_name rest false e zero is = ap (λ (b : Bool). slice_get (with_value b c cells name v) 0) (sym e) ∙ is
    by_name rest false e (suc k) is = rest k other a (ap (λ (b : Bool). slice_get (with_value b c cells name v) (suc k)) (sym e) ∙ is)

module _ (sc : Scopes) (w w' : World) (lay : Layout) (i : ℕ) (x : Instance) (there : numbered w.instances i ≡ Some x) (name : List ℕ) (u v : Value) (is : cell_in x.cells name ≡ simple u)
    (changed : w'.instances ≡ set_numbered w.instances i (record x { cells = cells_with x.cells name (simple v) })) where
  abbrev y : Instance
  y = record x { cells = cells_with x.cells name (simple v) }

  array_was : (j number : ℕ) (declared : DeclaredArray) (cell : ArrayCell) (a : Allotted) → HasArray sc w' lay j number declared cell a → HasArray sc w lay j number declared cell a
  array_was j number declared cell a h = by_number (same_or_not i j)
    where
      set_there : numbered (set_numbered w.instances i y) j ≡ Some h.instance
      set_there = ap (λ (xs : List Instance). numbered xs j) (sym changed) ∙ h.is

      by_number : (i ≡ j) ⊎ (i ≢ j) → HasArray sc w lay j number declared cell a
      by_number (inl same) =
          let here : y ≡ h.instance = some_same (sym (numbered_set w.instances i x y there) ∙ ap (λ (k : ℕ). numbered (set_numbered w.instances i y) k) same ∙ set_there) in
          record {
            instance = x;
            is = ap (λ (k : ℕ). numbered w.instances k) (sym same) ∙ there;
            stands = ap (λ (z : Instance). z.left) here ∙ h.stands;
            declares = ap (λ (z : Instance). slice_get (made_of (block_numbered sc.blocks z.block).decls) number) here ∙ h.declares;
            has =
                ap (λ (b : ℕ). slice_get x.cells (length (simple_cells sc (block_numbered sc.blocks b)) + number)) (ap (λ (z : Instance). z.block) here)
                ∙ array_before x.cells name v (length (simple_cells sc (block_numbered sc.blocks h.instance.block)) + number) declared.name cell
                (ap (λ (z : Instance). slice_get z.cells (length (simple_cells sc (block_numbered sc.blocks h.instance.block)) + number)) here ∙ h.has);
            allotted = h.allotted;
          }
      by_number (inr other) =
          record {
            instance = h.instance;
            is = sym (numbered_other w.instances i j y other) ∙ set_there;
            stands = h.stands;
            declares = h.declares;
            has = h.has;
            allotted = h.allotted;
          }

  few_stored : ((j : ℕ) (z : Instance) → numbered w.instances j ≡ Some z → z.left ≡ false → rows_of_cells z.cells ≤ 2 * size_of_cells z.cells) →
      (j : ℕ) (z : Instance) → numbered w'.instances j ≡ Some z → z.left ≡ false → rows_of_cells z.cells ≤ 2 * size_of_cells z.cells
  few_stored few j z there' stands = by_number (same_or_not i j)
    where
      set_there : numbered (set_numbered w.instances i y) j ≡ Some z
      set_there = ap (λ (xs : List Instance). numbered xs j) (sym changed) ∙ there'

      by_number : (i ≡ j) ⊎ (i ≢ j) → rows_of_cells z.cells ≤ 2 * size_of_cells z.cells
      by_number (inl same) =
          let here : y ≡ z = some_same (sym (numbered_set w.instances i x y there) ∙ ap (λ (k : ℕ). numbered (set_numbered w.instances i y) k) same ∙ set_there) in
          subst (λ (v : Instance). rows_of_cells v.cells ≤ 2 * size_of_cells v.cells) here
          (omega (arith, few i x there (ap (λ (v : Instance). v.left) here ∙ stands), rows_stored x.cells name u v is, elements_stored x.cells name u v is))
      by_number (inr other) = few j z (sym (numbered_other w.instances i j y other) ∙ set_there) stands

  pub arrays_stored : (rows : Rows) → ArraysAre sc w lay rows → ArraysAre sc w' lay rows
  arrays_stored rows are =
      arrays_by sc w w' lay lay array_was
      (ap live_elements changed ∙ elements_numbered w.instances i x y there (ap (size_unless x.left) (elements_stored x.cells name u v is)))
      (ap live_rows changed ∙ rows_numbered w.instances i x y there (ap (size_unless x.left) (rows_stored x.cells name u v is))) (few_stored are.few) rows are

-- ---- an instance more, without arrays

-- simple cells are no arrays
pub no_elements : (ss : List Simple) (cells : List NamedCell) (ws : List Word) → CellsAre ss cells ws → size_of_cells cells ≡ 0
no_elements [] [] ws are = refl
no_elements [] (c ∷ cells) ws are = absurd are
no_elements (s ∷ ss) [] ws are = refl
no_elements (s ∷ ss) (c ∷ cells) [] are = absurd are
no_elements (s ∷ ss) (c ∷ cells) (w ∷ ws) are = omega (arith, one s.wanted c.cell are.1, no_elements ss cells ws are.2)
  where
    one : (o : Wanted) (k : Cell) → CellIs o k w → size_of_cell k ≡ 0
    one o (simple v) is = refl
    one (wants.value kind) (array a) is = absurd is
    one (wants.array shape) (array a) is = absurd is
    one (wants.by_name kind) (array a) is = absurd is
    one _ (array a) is = absurd is
    one o (event e) is = refl
    one o (named n) is = refl
    one o (reference r) is = refl

pub no_rows : (ss : List Simple) (cells : List NamedCell) (ws : List Word) → CellsAre ss cells ws → rows_of_cells cells ≡ 0
no_rows [] [] ws are = refl
no_rows [] (c ∷ cells) ws are = absurd are
no_rows (s ∷ ss) [] ws are = refl
no_rows (s ∷ ss) (c ∷ cells) [] are = absurd are
no_rows (s ∷ ss) (c ∷ cells) (w ∷ ws) are = omega (arith, one s.wanted c.cell are.1, no_rows ss cells ws are.2)
  where
    one : (o : Wanted) (k : Cell) → CellIs o k w → rows_of_cell k ≡ 0
    one o (simple v) is = refl
    one (wants.value kind) (array a) is = absurd is
    one (wants.array shape) (array a) is = absurd is
    one (wants.by_name kind) (array a) is = absurd is
    one _ (array a) is = absurd is
    one o (event e) is = refl
    one o (named n) is = refl
    one o (reference r) is = refl

module _ (sc : Scopes) (w w' : World) (lay lay' : Layout) (x : Instance) (one_more : w'.instances ≡ w.instances ++ x ∷ []) (elements : size_of_cells x.cells ≡ 0) (many : rows_of_cells x.cells ≡ 0)
    (allots : (i : ℕ) → lay'.rows i ≡ rows_but lay.rows (length w.instances + 1) [] i) where
  was_there : (j : ℕ) (y : Instance) → numbered w'.instances j ≡ Some y → j ≢ length w.instances + 1 → numbered w.instances j ≡ Some y
  was_there zero y there other = none_some there
  was_there (suc k) y there other = before w.instances k (λ e. other (omega (arith, e))) (ap (λ (xs : List Instance). slice_get xs k) (sym one_more) ∙ there)
    where
      before : (xs : List Instance) (k : ℕ) → k ≢ length xs → slice_get (xs ++ x ∷ []) k ≡ Some y → slice_get xs k ≡ Some y
      before [] zero apart e = absurd (apart refl)
      before [] (suc k) apart e = e
      before (z ∷ zs) zero apart e = e
      before (z ∷ zs) (suc k) apart e = before zs k (λ s. apart (ap suc s)) e

  array_was_there : (j number : ℕ) (declared : DeclaredArray) (cell : ArrayCell) (a : Allotted) → HasArray sc w' lay' j number declared cell a → HasArray sc w lay j number declared cell a
  array_was_there j number declared cell a h = by_number (same_or_not j (length w.instances + 1))
    where
      by_number : (j ≡ length w.instances + 1) ⊎ (j ≢ length w.instances + 1) → HasArray sc w lay j number declared cell a
      by_number (inl same) =
          absurd (none_some (ap (λ (as' : List Allotted). slice_get as' number) (sym (allots j ∙ rows_there lay.rows (length w.instances + 1) [] j same)) ∙ h.allotted))
      by_number (inr other) =
          record {
            instance = h.instance;
            is = was_there j h.instance h.is other;
            stands = h.stands;
            declares = h.declares;
            has = h.has;
            allotted = ap (λ (as' : List Allotted). slice_get as' number) (sym (allots j ∙ rows_other lay.rows (length w.instances + 1) [] j other)) ∙ h.allotted;
          }

  few_joined : ((j : ℕ) (z : Instance) → numbered w.instances j ≡ Some z → z.left ≡ false → rows_of_cells z.cells ≤ 2 * size_of_cells z.cells) →
      (j : ℕ) (z : Instance) → numbered w'.instances j ≡ Some z → z.left ≡ false → rows_of_cells z.cells ≤ 2 * size_of_cells z.cells
  few_joined few j z there' stands = by_number (same_or_not j (length w.instances + 1))
    where
      by_number : (j ≡ length w.instances + 1) ⊎ (j ≢ length w.instances + 1) → rows_of_cells z.cells ≤ 2 * size_of_cells z.cells
      by_number (inl same) =
          let here : x ≡ z = some_same (sym (numbered_last w.instances x j same) ∙ ap (λ (xs : List Instance). numbered xs j) (sym one_more) ∙ there') in
          subst (λ (v : Instance). rows_of_cells v.cells ≤ 2 * size_of_cells v.cells) here (omega (arith, many))
      by_number (inr other) = few j z (was_there j z there' other) stands

  pub arrays_joined : (rows : Rows) → ArraysAre sc w lay rows → ArraysAre sc w' lay' rows
  arrays_joined rows are =
      arrays_by sc w w' lay lay' array_was_there
      (ap live_elements one_more ∙ elements_more w.instances (x ∷ []) ∙ omega (arith, none x.left (size_of_cells x.cells) elements))
      (ap live_rows one_more ∙ rows_more w.instances (x ∷ []) ∙ omega (arith, none x.left (rows_of_cells x.cells) many)) (few_joined are.few) rows are
    where
      none : (b : Bool) (n : ℕ) → n ≡ 0 → size_unless b n ≡ 0
      none true n e = refl
      none false n e = e
