-- Cells among which an array has another element: it keeps its bounds, and all others are as they were.
use Rattle.std.proofs.Common.{◌≡◌, refl, sym, ap, ◌∙◌, subst, ℕ, ◌+◌, List, [], ◌∷◌, length, Bool, true, false}
use Rattle.b67_frames.proofs.Prelude.{if◌then◌else◌, map, same_name, elements_of, size_of_cell, size_of_cells, Bounds, ArrayCell, Cell, event, array, NamedCell, cell_in, cells_with, DeclaredArray, Made, lows_of, an_array, an_event, Word, Allotted, DescriptorIs, AreSized, CellIsMade, AreMade, rows_of_bounds, rows_of_cell, rows_of_cells, IsMadeSo}

-- the same array with other elements
pub record IsAlike (cell later : ArrayCell) : Type 0 where
  pub bounds : later.bounds ≡ cell.bounds
  pub many : length later.elements ≡ length cell.elements

-- the cells with another one in the place of the first of a name, by whether the first cell has it
abbrev with_cell : Bool → NamedCell → List NamedCell → List ℕ → Cell → List NamedCell
with_cell b c cells name d = if b then record c { cell = d } ∷ cells else c ∷ cells_with cells name d

abbrev first_cell : Bool → NamedCell → List NamedCell → List ℕ → Cell
first_cell b c cells name = if b then c.cell else cell_in cells name

module _ (name : List ℕ) (cell later : ArrayCell) (alike : IsAlike cell later) where
  -- ---- sums

  pub size_stays : (cells : List NamedCell) → cell_in cells name ≡ array cell → size_of_cells (cells_with cells name (array later)) ≡ size_of_cells cells
  size_stays [] is = refl
  size_stays (c ∷ cells) is = by_name (size_stays cells) (same_name c.name name) refl
    where
      by_name : (cell_in cells name ≡ array cell → size_of_cells (cells_with cells name (array later)) ≡ size_of_cells cells) → (b : Bool) → same_name c.name name ≡ b →
          size_of_cells (with_cell (same_name c.name name) c cells name (array later)) ≡ size_of_cells (c ∷ cells)
      by_name rest true e =
          let here : c.cell ≡ array cell = ap (λ (b : Bool). first_cell b c cells name) (sym e) ∙ is in
          ap (λ (b : Bool). size_of_cells (with_cell b c cells name (array later))) e
          ∙ ap (λ (bs : List Bounds). elements_of bs + size_of_cells cells) alike.bounds
          ∙ ap (λ (k : Cell). size_of_cell k + size_of_cells cells) (sym here)
      by_name rest false e =
          ap (λ (b : Bool). size_of_cells (with_cell b c cells name (array later))) e
          ∙ ap (λ (n : ℕ). size_of_cell c.cell + n) (rest (ap (λ (b : Bool). first_cell b c cells name) (sym e) ∙ is))

  pub rows_stay : (cells : List NamedCell) → cell_in cells name ≡ array cell → rows_of_cells (cells_with cells name (array later)) ≡ rows_of_cells cells
  rows_stay [] is = refl
  rows_stay (c ∷ cells) is = by_name (rows_stay cells) (same_name c.name name) refl
    where
      by_name : (cell_in cells name ≡ array cell → rows_of_cells (cells_with cells name (array later)) ≡ rows_of_cells cells) → (b : Bool) → same_name c.name name ≡ b →
          rows_of_cells (with_cell (same_name c.name name) c cells name (array later)) ≡ rows_of_cells (c ∷ cells)
      by_name rest true e =
          let here : c.cell ≡ array cell = ap (λ (b : Bool). first_cell b c cells name) (sym e) ∙ is in
          ap (λ (b : Bool). rows_of_cells (with_cell b c cells name (array later))) e
          ∙ ap (λ (bs : List Bounds). rows_of_bounds bs + rows_of_cells cells) alike.bounds
          ∙ ap (λ (k : Cell). rows_of_cell k + rows_of_cells cells) (sym here)
      by_name rest false e =
          ap (λ (b : Bool). rows_of_cells (with_cell b c cells name (array later))) e
          ∙ ap (λ (n : ℕ). rows_of_cell c.cell + n) (rest (ap (λ (b : Bool). first_cell b c cells name) (sym e) ∙ is))

  -- ---- arrays

  -- an array is made as it was
  made_alike : (d : DeclaredArray) (c : NamedCell) (a : Allotted) (w : Word) → CellIsMade d c a w → c.cell ≡ array cell → CellIsMade d (record c { cell = array later }) a w
  made_alike d c a w made here =
      let same : made.cell ≡ cell = let arrays : array made.cell ≡ array cell = sym made.is ∙ here in cc in
      let bounds : made.cell.bounds ≡ later.bounds = ap (λ (x : ArrayCell). x.bounds) same ∙ sym alike.bounds in
      record {
        named = made.named;
        cell = later;
        is = refl;
        lows = subst (λ (bs : List Bounds). map (λ (b : Bounds). b.low) bs ≡ lows_of d.pairs) bounds made.lows;
        sized = subst AreSized bounds made.sized;
        whole = alike.many ∙ ap (λ (x : ArrayCell). length x.elements) (sym same) ∙ made.whole ∙ ap elements_of bounds;
        descriptor = subst (λ (bs : List Bounds). DescriptorIs bs a w) bounds made.descriptor;
      }

  made_so_stays : (m : Made) (c : NamedCell) (a : Allotted) (w : Word) → IsMadeSo m c a w → c.cell ≡ array cell → IsMadeSo m (record c { cell = array later }) a w
  made_so_stays (an_array d) c a w made is = made_alike d c a w made is
  made_so_stays (an_event n) c a w made is = absurd (let clash : event made.cell ≡ array cell = sym made.is ∙ is in cc)

  -- and so are all
  pub made_stays : (ds : List Made) (cells : List NamedCell) (as' : List Allotted) (ws : List Word) → cell_in cells name ≡ array cell → AreMade ds cells as' ws →
      AreMade ds (cells_with cells name (array later)) as' ws
  made_stays [] [] [] [] is made = tt
  made_stays [] [] [] (w ∷ ws) is made = absurd made
  made_stays [] [] (a ∷ as') ws is made = absurd made
  made_stays [] (c ∷ cells) as' ws is made = absurd made
  made_stays (d ∷ ds) [] as' ws is made = absurd made
  made_stays (d ∷ ds) (c ∷ cells) [] ws is made = absurd made
  made_stays (d ∷ ds) (c ∷ cells) (a ∷ as') [] is made = absurd made
  made_stays (d ∷ ds) (c ∷ cells) (a ∷ as') (w ∷ ws) is made =
      by_name (λ there. made_stays ds cells as' ws there made.1) (same_name c.name name) refl
    where
      by_name : (cell_in cells name ≡ array cell → AreMade ds (cells_with cells name (array later)) as' ws) → (b : Bool) → same_name c.name name ≡ b →
          AreMade (d ∷ ds) (with_cell (same_name c.name name) c cells name (array later)) (a ∷ as') (w ∷ ws)
      by_name rest true e =
          subst (λ (b : Bool). AreMade (d ∷ ds) (with_cell b c cells name (array later)) (a ∷ as') (w ∷ ws)) (sym e)
          (made_so_stays d c a w made.0 (ap (λ (b : Bool). first_cell b c cells name) (sym e) ∙ is), made.1)
      by_name rest false e =
          subst (λ (b : Bool). AreMade (d ∷ ds) (with_cell b c cells name (array later)) (a ∷ as') (w ∷ ws)) (sym e)
          (made.0, rest (ap (λ (b : Bool). first_cell b c cells name) (sym e) ∙ is))

  -- what a name means that meant an array
  pub record StillArray (cells : List NamedCell) (other : List ℕ) (c : ArrayCell) : Type 0 where
    pub now : ArrayCell
    pub is : cell_in (cells_with cells name (array later)) other ≡ array now
    pub bounds : now.bounds ≡ c.bounds

  pub array_still : (cells : List NamedCell) (other : List ℕ) (c : ArrayCell) → cell_in cells name ≡ array cell → cell_in cells other ≡ array c → StillArray cells other c
  array_still [] other c is there = absurd (let clash : cell_in [] name ≡ array cell = is in cc)
  array_still (x ∷ cells) other c is there = by_names (array_still cells other c) (same_name x.name name) (same_name x.name other) refl refl
    where
      by_names : (cell_in cells name ≡ array cell → cell_in cells other ≡ array c → StillArray cells other c) → (b d : Bool) → same_name x.name name ≡ b → same_name x.name other ≡ d →
          StillArray (x ∷ cells) other c
      by_names rest true true e f =
          let one : array cell ≡ array c =
          sym (ap (λ (b : Bool). first_cell b x cells name) (sym e) ∙ is) ∙ ap (λ (b : Bool). first_cell b x cells other) (sym f) ∙ there in
          let same : cell ≡ c = cc in
          record {
            now = later;
            is = ap (λ (b : Bool). cell_in (with_cell b x cells name (array later)) other) e ∙ ap (λ (b : Bool). if b then array later else cell_in cells other) f;
            bounds = alike.bounds ∙ ap (λ (y : ArrayCell). y.bounds) same;
          }
      by_names rest true false e f =
          record {
            now = c;
            is =
                ap (λ (b : Bool). cell_in (with_cell b x cells name (array later)) other) e
                ∙ ap (λ (b : Bool). if b then array later else cell_in cells other) f
                ∙ ap (λ (b : Bool). first_cell b x cells other) (sym f)
                ∙ there;
            bounds = refl;
          }
      by_names rest false true e f =
          record {
            now = c;
            is =
                ap (λ (b : Bool). cell_in (with_cell b x cells name (array later)) other) e
                ∙ ap (λ (b : Bool). if b then x.cell else cell_in (cells_with cells name (array later)) other) f
                ∙ ap (λ (b : Bool). first_cell b x cells other) (sym f)
                ∙ there;
            bounds = refl;
          }
      by_names rest false false e f =
          let r : StillArray cells other c =
          rest (ap (λ (b : Bool). first_cell b x cells name) (sym e) ∙ is) (ap (λ (b : Bool). first_cell b x cells other) (sym f) ∙ there) in
          record {
            now = r.now;
            is =
                ap (λ (b : Bool). cell_in (with_cell b x cells name (array later)) other) e
                ∙ ap (λ (b : Bool). if b then x.cell else cell_in (cells_with cells name (array later)) other) f
                ∙ r.is;
            bounds = r.bounds;
          }
