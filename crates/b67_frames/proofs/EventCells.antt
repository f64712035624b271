-- The arrays of a world in which an instance has made an event, or in which an event has changed, are those that they were.
use Rattle.std.proofs.Common.{◌≡◌, ◌≢◌, ◌⊎◌, inl, inr, refl, sym, ap, ◌∙◌, subst, ℕ, zero, suc, ◌+◌, ◌*◌, ◌≤◌, List, [], ◌∷◌, ◌++◌, length, Some, Bool, true, false, arith}
use Rattle.b67_list.proofs.Lists.{get_set_other}
use Rattle.b67_list.proofs.Numbered.{numbered_set}
use Rattle.b67_list.proofs.Numbers.{none_some}
use Rattle.b67_frames.proofs.Prelude.{if◌then◌else◌, slice_get, slice_set, numbered, set_numbered, EventState, block_numbered, Scopes, same_name, size_of_cell, size_of_cells, size_unless, live_elements, ArrayCell, Cell, event, array, NamedCell, Instance, World, instance_at, cell_in, cells_with, by_cell, DeclaredArray, Made, an_array, an_event, Word, Rows, simple_cells, made_of, some_same, same_or_not, numbered_other, Allotted, Layout, IsMadeSo, AreMade, rows_of_cell, rows_of_cells, live_rows, HasArray, ArraysAre}
use Rattle.b67_frames.proofs.ArraysKept.{arrays_by, elements_numbered, rows_numbered}
use Rattle.b67_frames.proofs.Knowing.{KeepsArrays, IsNoReference, changed_or_not, other_stays, names_stay}

-- ---- one instance changes

-- It stays one of its block, with as many elements and rows, and each array among its cells was there before, with its rows.
-- The cells of the instance are others, with the same arrays.
pub record ChangesCells (sc : Scopes) (w : World) (w' : World) (lay : Layout) (lay' : Layout) (i : ℕ) : Type 0 where
  pub x : Instance
  pub y : Instance
  pub there : numbered w.instances i ≡ Some x
  pub now : w'.instances ≡ set_numbered w.instances i y
  pub left : y.left ≡ x.left
  pub block : y.block ≡ x.block
  pub elements : size_of_cells y.cells ≡ size_of_cells x.cells
  pub many : rows_of_cells y.cells ≡ rows_of_cells x.cells
  pub was : (number : ℕ) (name : List ℕ) (c : ArrayCell) (a : Allotted) → slice_get y.cells (length (simple_cells sc (block_numbered sc.blocks x.block)) + number) ≡ Some (record { name = name; cell = array c }) → slice_get (lay'.rows i) number ≡ Some a → (slice_get x.cells (length (simple_cells sc (block_numbered sc.blocks x.block)) + number) ≡ Some (record { name = name; cell = array c })) × (slice_get (lay.rows i) number ≡ Some a)
  pub others : (j : ℕ) → i ≢ j → lay'.rows j ≡ lay.rows j

module _ (sc : Scopes) (w w' : World) (lay lay' : Layout) (i : ℕ) (changes : ChangesCells sc w w' lay lay' i) where
  open changes use {x, y, there, now, left, block, elements, many, was, others}

  array_was : (j number : ℕ) (declared : DeclaredArray) (cell : ArrayCell) (a : Allotted) → HasArray sc w' lay' j number declared cell a → HasArray sc w lay j number declared cell a
  array_was j number declared cell a h = by_number (same_or_not i j)
    where
      set_there : numbered (set_numbered w.instances i y) j ≡ Some h.instance
      set_there = ap (λ (xs : List Instance). numbered xs j) (sym now) ∙ h.is

      itself : i ≡ j → y ≡ h.instance → HasArray sc w lay j number declared cell a
      itself same here =
          let block_is : x.block ≡ h.instance.block = sym block ∙ ap (λ (z : Instance). z.block) here in
          let before =
          was number declared.name cell a
          (ap (λ (b : ℕ). slice_get y.cells (length (simple_cells sc (block_numbered sc.blocks b)) + number)) block_is
          ∙ ap (λ (z : Instance). slice_get z.cells (length (simple_cells sc (block_numbered sc.blocks h.instance.block)) + number)) here
          ∙ h.has) (ap (λ (k : ℕ). slice_get (lay'.rows k) number) same ∙ h.allotted) in
          record {
            instance = x;
            is = ap (λ (k : ℕ). numbered w.instances k) (sym same) ∙ there;
            stands = sym left ∙ ap (λ (z : Instance). z.left) here ∙ h.stands;
            declares = ap (λ (b : ℕ). slice_get (made_of (block_numbered sc.blocks b).decls) number) block_is ∙ h.declares;
            has = before.0;
            allotted = ap (λ (k : ℕ). slice_get (lay.rows k) number) (sym same) ∙ before.1;
          }

      by_number : (i ≡ j) ⊎ (i ≢ j) → HasArray sc w lay j number declared cell a
      by_number (inl same) = itself same (some_same (sym (numbered_set w.instances i x y there) ∙ ap (λ (k : ℕ). numbered (set_numbered w.instances i y) k) same ∙ set_there))
      by_number (inr other) =
          record {
            instance = h.instance;
            is = sym (numbered_other w.instances i j y other) ∙ set_there;
            stands = h.stands;
            declares = h.declares;
            has = h.has;
            allotted = ap (λ (as' : List Allotted). slice_get as' number) (sym (others j other)) ∙ h.allotted;
          }

  few_still : ((j : ℕ) (z : Instance) → numbered w.instances j ≡ Some z → z.left ≡ false → rows_of_cells z.cells ≤ 2 * size_of_cells z.cells) →
      (j : ℕ) (z : Instance) → numbered w'.instances j ≡ Some z → z.left ≡ false → rows_of_cells z.cells ≤ 2 * size_of_cells z.cells
  few_still few j z is stands = by_number (same_or_not i j)
    where
      set_there : numbered (set_numbered w.instances i y) j ≡ Some z
      set_there = ap (λ (xs : List Instance). numbered xs j) (sym now) ∙ is

      by_number : (i ≡ j) ⊎ (i ≢ j) → rows_of_cells z.cells ≤ 2 * size_of_cells z.cells
      by_number (inl same) =
          let here : y ≡ z = some_same (sym (numbered_set w.instances i x y there) ∙ ap (λ (k : ℕ). numbered (set_numbered w.instances i y) k) same ∙ set_there) in
          subst (λ (v : Instance). rows_of_cells v.cells ≤ 2 * size_of_cells v.cells) here
          (omega (arith, few i x there (sym left ∙ ap (λ (v : Instance). v.left) here ∙ stands), many, elements))
      by_number (inr other) = few j z (sym (numbered_other w.instances i j y other) ∙ set_there) stands

  pub arrays_still : (rows : Rows) → ArraysAre sc w lay rows → ArraysAre sc w' lay' rows
  arrays_still rows are =
      arrays_by sc w w' lay lay' array_was (ap live_elements now ∙ elements_numbered w.instances i x y there (both left elements))
      (ap live_rows now ∙ rows_numbered w.instances i x y there (both left many)) (few_still are.few) rows are
    where
      both : {b c : Bool} {m n : ℕ} → b ≡ c → m ≡ n → size_unless b m ≡ size_unless c n
      both {b} {c} {m} {n} e f = ap (λ (t : Bool). size_unless t m) e ∙ ap (size_unless c) f

-- ---- an event more

-- one has no elements and no rows
pub event_has_none : (cells : List NamedCell) (name : List ℕ) (e : EventState) →
    (size_of_cells (cells ++ record { name = name; cell = event e } ∷ []) ≡ size_of_cells cells) × (rows_of_cells (cells ++ record { name = name; cell = event e } ∷ []) ≡ rows_of_cells cells)
event_has_none [] name e = (refl, refl)
event_has_none (c ∷ cells) name e =
    let rest = event_has_none cells name e in (ap (λ (n : ℕ). size_of_cell c.cell + n) rest.0, ap (λ (n : ℕ). rows_of_cell c.cell + n) rest.1)

-- an array among these cells and an event more is one of these
pub array_in_front : (cells : List NamedCell) (name : List ℕ) (e : EventState) (k : ℕ) (other : List ℕ) (c : ArrayCell) →
    slice_get (cells ++ record { name = name; cell = event e } ∷ []) k ≡ Some (record { name = other; cell = array c }) → slice_get cells k ≡ Some (record { name = other; cell = array c })
array_in_front [] name e zero other c is = absurd (let clash : event e ≡ array c = ap (λ (x : NamedCell). x.cell) (some_same is) in cc)
array_in_front [] name e (suc k) other c is = none_some is
array_in_front (d ∷ cells) name e zero other c is = is
array_in_front (d ∷ cells) name e (suc k) other c is = array_in_front cells name e k other c is

-- ---- an event changes

module _ (name : List ℕ) (later : EventState) where
  abbrev with_later : Bool → NamedCell → List NamedCell → List NamedCell
  with_later b c cells = if b then record c { cell = event later } ∷ cells else c ∷ cells_with cells name (event later)

  abbrev first_cell : Bool → NamedCell → List NamedCell → Cell
  first_cell b c cells = if b then c.cell else cell_in cells name

  -- as many elements and rows
  pub event_keeps_none : (cells : List NamedCell) (e : EventState) → cell_in cells name ≡ event e →
      (size_of_cells (cells_with cells name (event later)) ≡ size_of_cells cells) × (rows_of_cells (cells_with cells name (event later)) ≡ rows_of_cells cells)
  event_keeps_none [] e is = (refl, refl)
  event_keeps_none (c ∷ cells) e is = by_name (event_keeps_none cells e) (same_name c.name name) refl is
    where
      by_name : (cell_in cells name ≡ event e → (size_of_cells (cells_with cells name (event later)) ≡ size_of_cells cells) × (rows_of_cells (cells_with cells name (event later)) ≡ rows_of_cells cells)) → (b : Bool) → same_name c.name name ≡ b →
          first_cell (same_name c.name name) c cells ≡ event e →
          (size_of_cells (with_later (same_name c.name name) c cells) ≡ size_of_cells (c ∷ cells)) × (rows_of_cells (with_later (same_name c.name name) c cells) ≡ rows_of_cells (c ∷ cells))
      by_name rest true t is =
          let here : c.cell ≡ event e = ap (λ (b : Bool). first_cell b c cells) (sym t) ∙ is in (
            ap (λ (b : Bool). size_of_cells (with_later b c cells)) t ∙ ap (λ (k : Cell). size_of_cell k + size_of_cells cells) (sym here),
            ap (λ (b : Bool). rows_of_cells (with_later b c cells)) t ∙ ap (λ (k : Cell). rows_of_cell k + rows_of_cells cells) (sym here),
          )
      by_name rest false t is =
          let r = rest (ap (λ (b : Bool). first_cell b c cells) (sym t) ∙ is) in (
            ap (λ (b : Bool). size_of_cells (with_later b c cells)) t ∙ ap (λ (n : ℕ). size_of_cell c.cell + n) r.0,
            ap (λ (b : Bool). rows_of_cells (with_later b c cells)) t ∙ ap (λ (n : ℕ). rows_of_cell c.cell + n) r.1,
          )

  -- what is an array among the cells was one before
  pub array_beside : (cells : List NamedCell) (k : ℕ) (other : List ℕ) (a : ArrayCell) → slice_get (cells_with cells name (event later)) k ≡ Some (record { name = other; cell = array a }) →
      slice_get cells k ≡ Some (record { name = other; cell = array a })
  array_beside [] k other a is = is
  array_beside (c ∷ cells) k other a is = by_name (array_beside cells) (same_name c.name name) refl k is
    where
      by_name : ((k : ℕ) (other : List ℕ) (a : ArrayCell) → slice_get (cells_with cells name (event later)) k ≡ Some (record { name = other; cell = array a }) → slice_get cells k ≡ Some (record { name = other; cell = array a })) →
          (b : Bool) → same_name c.name name ≡ b → (k : ℕ) → slice_get (with_later (same_name c.name name) c cells) k ≡ Some (record { name = other; cell = array a }) → slice_get (c ∷ cells) k ≡ Some (record { name = other; cell = array a })
      by_name rest true t zero is =
          let here : record c { cell = event later } ≡ record { name = other; cell = array a } = some_same (ap (λ (b : Bool). slice_get (with_later b c cells) 0) (sym t) ∙ is) in
          absurd (let clash : event later ≡ array a = ap (λ (x : NamedCell). x.cell) here in cc)
      by_name rest true t (suc k) is = ap (λ (b : Bool). slice_get (with_later b c cells) (suc k)) (sym t) ∙ is
      by_name rest false t zero is = ap (λ (b : Bool). slice_get (with_later b c cells) 0) (sym t) ∙ is
      by_name rest false t (suc k) is = rest k other a (ap (λ (b : Bool). slice_get (with_later b c cells) (suc k)) (sym t) ∙ is)

  made_so_changes : (m : Made) (c : NamedCell) (a : Allotted) (w : Word) (e : EventState) → IsMadeSo m c a w → c.cell ≡ event e → IsMadeSo m (record c { cell = event later }) a w
  made_so_changes (an_array d) c a w e made is = absurd (let clash : array made.cell ≡ event e = sym made.is ∙ is in cc)
  made_so_changes (an_event n) c a w e made is = record { named = made.named; cell = later; is = refl; none = made.none; word_is = made.word_is }

  -- what is made keeps its words
  pub made_changes : (ds : List Made) (cells : List NamedCell) (as' : List Allotted) (ws : List Word) (e : EventState) → cell_in cells name ≡ event e → AreMade ds cells as' ws → AreMade ds (cells_with cells name (event later)) as' ws
  made_changes [] [] [] [] e is made = made
  made_changes [] [] [] (w ∷ ws) e is made = absurd made
  made_changes [] [] (a ∷ as') ws e is made = absurd made
  made_changes [] (c ∷ cells) as' ws e is made = absurd made
  made_changes (d ∷ ds) [] as' ws e is made = absurd made
  made_changes (d ∷ ds) (c ∷ cells) [] ws e is made = absurd made
  made_changes (d ∷ ds) (c ∷ cells) (a ∷ as') [] e is made = absurd made
  made_changes (d ∷ ds) (c ∷ cells) (a ∷ as') (w ∷ ws) e is made = by_name (λ h. made_changes ds cells as' ws e h made.1) (same_name c.name name) refl
    where
      by_name : (cell_in cells name ≡ event e → AreMade ds (cells_with cells name (event later)) as' ws) → (b : Bool) → same_name c.name name ≡ b → AreMade (d ∷ ds) (with_later (same_name c.name name) c cells) (a ∷ as') (w ∷ ws)
      by_name rest true t =
          subst (λ (b : Bool). AreMade (d ∷ ds) (with_later b c cells) (a ∷ as') (w ∷ ws)) (sym t)
          (made_so_changes d c a w e made.0 (ap (λ (b : Bool). first_cell b c cells) (sym t) ∙ is), made.1)
      by_name rest false t =
          subst (λ (b : Bool). AreMade (d ∷ ds) (with_later b c cells) (a ∷ as') (w ∷ ws)) (sym t) (made.0, rest (ap (λ (b : Bool). first_cell b c cells) (sym t) ∙ is))

-- an instance keeps its arrays and its events
pub keeps_event : (sc : Scopes) (w w' : World) (lay : Layout) (j : ℕ) (name : List ℕ) (e later : EventState) → cell_in ((instance_at w j).cells) name ≡ event e →
    instance_at w' j ≡ record (instance_at w j) { cells = cells_with ((instance_at w j).cells) name (event later) } → KeepsArrays sc w w' lay lay j
keeps_event sc w w' lay j name e later before same =
    record {
      block = ap (λ (x : Instance). x.block) same;
      parent = ap (λ (x : Instance). x.parent) same;
      arrays = λ other cell is. record {
        later = cell;
        is = ap (λ (x : Instance). cell_in x.cells other) same ∙ other_stays ((instance_at w j).cells) name other (event e) (event later) (array cell) before (λ (clash : event e ≡ array cell). cc) is;
        bounds = refl;
      };
      events = λ other f is. by_either other f is (changed_or_not ((instance_at w j).cells) name other (event later));
      leads = λ other r.
          ap (λ (x : Instance). by_cell (cell_in x.cells other) r) same
          ∙ names_stay ((instance_at w j).cells) name other (event later) r (subst (λ (c : Cell). IsNoReference c) (sym before) tt) tt;
      rows = λ number a there. there;
    }
  where
    by_either : (other : List ℕ) (f : EventState) → cell_in ((instance_at w j).cells) other ≡ event f →
        ((cell_in (cells_with ((instance_at w j).cells) name (event later)) other ≡ event later) × (cell_in ((instance_at w j).cells) other ≡ cell_in ((instance_at w j).cells) name))
        ⊎ (cell_in (cells_with ((instance_at w j).cells) name (event later)) other ≡ cell_in ((instance_at w j).cells) other) → (g : EventState) × (cell_in ((instance_at w' j).cells) other ≡ event g)
    by_either other f is (inl h) = (later, ap (λ (x : Instance). cell_in x.cells other) same ∙ h.0)
    by_either other f is (inr h) = (f, ap (λ (x : Instance). cell_in x.cells other) same ∙ h ∙ is)

-- beside an item that is set all stay
pub beside_set : {A : Type 0} (front items : List A) (number : ℕ) (v : A) (k : ℕ) → k ≢ length front + number → slice_get (front ++ slice_set items number v) k ≡ slice_get (front ++ items) k
beside_set [] items number v k other = get_set_other items number k v (λ (e : k ≡ number). other (omega (arith, e)))
beside_set (x ∷ front) items number v zero other = refl
beside_set (x ∷ front) items number v (suc k) other = beside_set front items number v k (λ (e : k ≡ length front + number). other (omega (arith, e)))
