-- The arrays of an instance are closed when its frame is left.
use Rattle.std.proofs.Common.{◌≡◌, ◌≢◌, ◌⊎◌, inl, inr, refl, sym, ap, ◌∙◌, subst, ℕ, zero, suc, ◌+◌, ◌*◌, ◌<◌, ◌≤◌, List, [], ◌∷◌, ◌++◌, length, Option, Some, Bool, true, false, arith}
use Rattle.algol_meaning.proofs.Cited.{elements_behind}
use Rattle.b67_list.proofs.Lists.{get_front}
use Rattle.b67_list.proofs.Numbered.{numbered_set}
use Rattle.b67_list.proofs.Numbers.{none_some}
use Rattle.b67_frames.proofs.Prelude.{slice_get, slice_set, numbered, set_numbered, block_numbered, Scopes, size_of_cell, size_of_cells, size_unless, live_elements, leave, ArrayCell, Cell, array, NamedCell, Instance, World, instance_at, DeclaredArray, Made, an_array, an_event, Word, as_descriptor, Descriptor, Pcw, Rows, row_at, Image, with_rows, closed_by, array_closed, arrays_closed, Change, changed, simple_cells, made_of, control_words, some_same, same_or_not, numbered_other, get_behind, Allotted, row_numbers_of, Layout, CellIsMade, AreMade, HoldElements, rows_of_cell, rows_of_cells, live_rows, HasArray, ArrayHasRow, ArraysAre, block_controls}
use Rattle.b67_rows.proofs.Words.{event_describes_nothing}
use Rattle.b67_frames.specs.Arrays.{IsEventMade}
use Rattle.b67_frames.proofs.ArraysKept.{no_elements, no_rows}
use Rattle.b67_frames.proofs.ClosedRows.{Fewer, fewer_again}
use Rattle.b67_frames.proofs.Closing.{IsClosed, FramesClose}
use Rattle.b67_frames.proofs.ExitRow.{DescribeNothing, cells_describe_nothing, controls_describe_nothing}
use Rattle.b67_frames.proofs.MadeArrays.{same_cell}
use Rattle.b67_frames.proofs.OneClosed.{holds_same, without_array, array_keeps, OneClosed, one_closes}
use Rattle.b67_frames.proofs.OwnCells.{OwnCells, framed_cells}
use Rattle.b67_frames.proofs.Zeros.{cells_length}
use Rattle.b67_frames.proofs.ArrayTotals.{rows_behind}

-- ---- sums

-- an instance has left: the elements of its arrays live no longer
elements_gone : (xs : List Instance) (k : ℕ) (x y : Instance) → slice_get xs k ≡ Some x → x.left ≡ false → y.left ≡ true → live_elements (slice_set xs k y) + size_of_cells x.cells ≡ live_elements xs
elements_gone [] k x y there stands gone = none_some there
elements_gone (z ∷ zs) zero x y there stands gone =
    let here : size_unless z.left (size_of_cells z.cells) ≡ size_of_cells x.cells =
    ap (λ (v : Instance). size_unless v.left (size_of_cells v.cells)) (some_same there) ∙ ap (λ (b : Bool). size_unless b (size_of_cells x.cells)) stands in
    let none : size_unless y.left (size_of_cells y.cells) ≡ 0 = ap (λ (b : Bool). size_unless b (size_of_cells y.cells)) gone in
    omega (arith, here, none)
elements_gone (z ∷ zs) (suc k) x y there stands gone = omega (arith, elements_gone zs k x y there stands gone)

elements_left : (xs : List Instance) (i : ℕ) (x y : Instance) → numbered xs i ≡ Some x → x.left ≡ false → y.left ≡ true → live_elements (set_numbered xs i y) + size_of_cells x.cells ≡ live_elements xs
elements_left xs zero x y there stands gone = none_some there
elements_left xs (suc k) x y there stands gone = elements_gone xs k x y there stands gone

rows_gone : (xs : List Instance) (k : ℕ) (x y : Instance) → slice_get xs k ≡ Some x → x.left ≡ false → y.left ≡ true → live_rows (slice_set xs k y) + rows_of_cells x.cells ≡ live_rows xs
rows_gone [] k x y there stands gone = none_some there
rows_gone (z ∷ zs) zero x y there stands gone =
    let here : size_unless z.left (rows_of_cells z.cells) ≡ rows_of_cells x.cells =
    ap (λ (v : Instance). size_unless v.left (rows_of_cells v.cells)) (some_same there) ∙ ap (λ (b : Bool). size_unless b (rows_of_cells x.cells)) stands in
    let none : size_unless y.left (rows_of_cells y.cells) ≡ 0 = ap (λ (b : Bool). size_unless b (rows_of_cells y.cells)) gone in
    omega (arith, here, none)
rows_gone (z ∷ zs) (suc k) x y there stands gone = omega (arith, rows_gone zs k x y there stands gone)

rows_left : (xs : List Instance) (i : ℕ) (x y : Instance) → numbered xs i ≡ Some x → x.left ≡ false → y.left ≡ true → live_rows (set_numbered xs i y) + rows_of_cells x.cells ≡ live_rows xs
rows_left xs zero x y there stands gone = none_some there
rows_left xs (suc k) x y there stands gone = rows_gone xs k x y there stands gone

-- ---- all arrays of an instance

-- words that describe nothing close nothing
skipped : (words more : List Word) (next : Change) → DescribeNothing words → arrays_closed (words ++ more) next ≡ arrays_closed more next
skipped [] more next none = refl
skipped (w ∷ words) more next none =
    ap (λ (d : Option Descriptor). closed_by d array_closed (arrays_closed (words ++ more) next)) none.0 ∙ skipped words more next none.1

module _ (sc : Scopes) (w : World) (lay : Layout) (img : Image) (are : ArraysAre sc w lay img.rows) (i : ℕ) (x : Instance) (own : OwnCells sc w lay i x) where
  -- no array of the instance with a number below this one has the row
  abbrev IsNone : ℕ → ℕ → Type 0
  IsNone k n = (number j : ℕ) → number < k → ArrayHasRow sc w lay i number j n → ⊥

  -- what the closing of the arrays from that number on leaves
  record Closes (rows : Rows) (cells : List NamedCell) (words : List Word) : Type 0 where
    after : Rows
    changes : (p : ℕ) (next : Change) (now : Image) → now.rows ≡ rows → changed p (arrays_closed words next) now ≡ changed p next (with_rows now after)
    fewer : Fewer rows after (rows_of_cells cells) (size_of_cells cells)
    keeps : (n : ℕ) → ((number j : ℕ) → ArrayHasRow sc w lay i number j n → ⊥) → row_at after n ≡ row_at img.rows n

  -- one array, and then those after it
  one_more : (d : DeclaredArray) (c : NamedCell) (a : Allotted) (word : Word) (cells : List NamedCell) (words : List Word) (k : ℕ) (rows : Rows) (made : CellIsMade d c a word) →
      ((n : ℕ) → IsNone k n → row_at rows n ≡ row_at img.rows n) → HasArray sc w lay i k d made.cell a →
      (((n : ℕ) → IsNone (k + 1) n → row_at (without_array rows a) n ≡ row_at img.rows n) → Closes (without_array rows a) cells words) → Closes rows (c ∷ cells) (word ∷ words)
  one_more d c a word cells words k rows made keeps has next =
      record {
        after = rest.after;
        changes = λ p next now same. one.changes p (arrays_closed words next) now same ∙ rest.changes p next (with_rows now (without_array rows a)) refl;
        fewer =
            let first : Fewer rows (without_array rows a) (rows_of_cell c.cell) (size_of_cell c.cell) =
            subst (λ (z : Cell). Fewer rows (without_array rows a) (rows_of_cell z) (size_of_cell z)) (sym made.is) one.fewer in
            fewer_again rows (without_array rows a) rest.after (rows_of_cell c.cell) (rows_of_cells cells) (size_of_cell c.cell) (size_of_cells cells) first rest.fewer;
        keeps = rest.keeps;
      }
    where
      row : (j n : ℕ) → slice_get (row_numbers_of a) j ≡ Some n → ArrayHasRow sc w lay i k j n
      row j n e = record { declared = d; cell = made.cell; allotted = a; array = has; there = e }

      holds : HoldElements rows d.kind made.cell a
      holds =
          holds_same img.rows rows d.kind made.cell a
          (λ j n e. keeps n (λ number l low r. let same : number ≡ k = (are.apart i i number k l j n r (row j n e)).1 in absurd (omega (arith, low, same))))
          (are.held i k d made.cell a has)

      one : OneClosed rows a (array made.cell) word
      one =
          one_closes rows d.kind made.cell a word made.cell.bounds holds (λ j l n e f. (are.apart i i k k j l n (row j n e) (row l n f)).2) refl made.sized made.descriptor

      rest : Closes (without_array rows a) cells words
      rest =
          next (λ n none. array_keeps rows a n (λ j e. none k j (omega arith) (row j n e)) ∙ keeps n (λ number j low r. none number j (omega (arith, low)) r))

  -- an event has no rows
  none_more : (name : List ℕ) (c : NamedCell) (a : Allotted) (word : Word) (cells : List NamedCell) (words : List Word) (rows : Rows) → IsEventMade name c a word → Closes rows cells words → Closes rows (c ∷ cells) (word ∷ words)
  none_more name c a word cells words rows made rest =
      record {
        after = rest.after;
        changes = λ p next now same.
            ap (λ (d : Option Descriptor). changed p (closed_by d array_closed (arrays_closed words next)) now) (ap as_descriptor made.word_is ∙ event_describes_nothing) ∙ rest.changes p next now same;
        fewer = record {
          counted = omega (arith, rest.fewer.counted, ap size_of_cell made.is);
          opened = omega (arith, rest.fewer.opened, ap rows_of_cell made.is);
        };
        keeps = rest.keeps;
      }

  closes_from : (ds : List Made) (cells : List NamedCell) (as' : List Allotted) (words : List Word) (k : ℕ) (rows : Rows) → AreMade ds cells as' words →
      ((n : ℕ) → IsNone k n → row_at rows n ≡ row_at img.rows n) →
      ((n m : ℕ) (d : DeclaredArray) → m ≡ k + n → slice_get ds n ≡ Some (an_array d) → slice_get (made_of (block_numbered sc.blocks x.block).decls) m ≡ Some (an_array d)) →
      ((n m : ℕ) (c : NamedCell) → m ≡ k + n → slice_get cells n ≡ Some c → slice_get x.cells (length (simple_cells sc (block_numbered sc.blocks x.block)) + m) ≡ Some c) →
      ((n m : ℕ) (a : Allotted) → m ≡ k + n → slice_get as' n ≡ Some a → slice_get (lay.rows i) m ≡ Some a) → Closes rows cells words
  closes_from [] [] [] [] k rows made keeps declares lie allots =
      record {
        after = rows;
        changes = λ p next now same. ap (λ (rs : Rows). changed p next (with_rows now rs)) same;
        fewer = record { counted = omega arith; opened = omega arith };
        keeps = λ n none. keeps n (λ number j low row. none number j row);
      }
  closes_from [] [] [] (word ∷ words) k rows made keeps declares lie allots = absurd made
  closes_from [] [] (a ∷ as') words k rows made keeps declares lie allots = absurd made
  closes_from [] (c ∷ cells) as' words k rows made keeps declares lie allots = absurd made
  closes_from (d ∷ ds) [] as' words k rows made keeps declares lie allots = absurd made
  closes_from (d ∷ ds) (c ∷ cells) [] words k rows made keeps declares lie allots = absurd made
  closes_from (d ∷ ds) (c ∷ cells) (a ∷ as') [] k rows made keeps declares lie allots = absurd made
  closes_from (an_event name ∷ ds) (c ∷ cells) (a ∷ as') (word ∷ words) k rows made keeps declares lie allots =
      none_more name c a word cells words rows made.0
      (closes_from ds cells as' words (k + 1) rows made.1 (λ n none. keeps n (λ number j low r. none number j (omega (arith, low)) r)) (λ n m e far there. declares (suc n) m e (omega (arith, far)) there)
      (λ n m e far there. lie (suc n) m e (omega (arith, far)) there) (λ n m e far there. allots (suc n) m e (omega (arith, far)) there))
  closes_from (an_array d ∷ ds) (c ∷ cells) (a ∷ as') (word ∷ words) k rows made keeps declares lie allots =
      one_more d c a word cells words k rows made.0 keeps
      (record {
        instance = x;
        is = own.is;
        stands = own.stands;
        declares = declares 0 k d (omega arith) refl;
        has = lie 0 k c (omega arith) refl ∙ ap (λ (z : NamedCell). Some z) (same_cell c d.name (array made.0.cell) made.0.named made.0.is);
        allotted = allots 0 k a (omega arith) refl;
      })
      (λ later.
      closes_from ds cells as' words (k + 1) (without_array rows a) made.1 later (λ n m e far there. declares (suc n) m e (omega (arith, far)) there)
      (λ n m e far there. lie (suc n) m e (omega (arith, far)) there) (λ n m e far there. allots (suc n) m e (omega (arith, far)) there))

  closed : Closes img.rows own.arrays own.descriptors
  closed =
      closes_from own.declared own.arrays (lay.rows i) own.descriptors 0 img.rows own.made (λ n none. refl)
      (λ n m d far there.
      let same : m ≡ n = omega (arith, far) in
      ap (λ (ds : List Made). slice_get ds m) own.order ∙ ap (λ (j : ℕ). slice_get (own.declared ++ own.later) j) same ∙ get_front own.declared own.later n (an_array d) there)
      (λ n m c far there.
      let same : m ≡ n = omega (arith, far) in
      ap (λ (cells : List NamedCell). slice_get cells (length (simple_cells sc (block_numbered sc.blocks x.block)) + m)) own.has
      ∙ get_behind own.simple own.arrays n (length (simple_cells sc (block_numbered sc.blocks x.block)) + m)
      (omega (arith, far, cells_length (simple_cells sc (block_numbered sc.blocks x.block)) own.simple own.values own.simple_are))
      ∙ there)
      (λ n m a far there. let same : m ≡ n = omega (arith, far) in ap (λ (j : ℕ). slice_get (lay.rows i) j) same ∙ there)

  -- ---- the world after it

  abbrev gone : Instance
  gone = record (instance_at w i) { left = true }

  abbrev w' : World
  w' = leave w (i ∷ [])

  before : (j number : ℕ) (d : DeclaredArray) (cell : ArrayCell) (a : Allotted) → HasArray sc w' lay j number d cell a → HasArray sc w lay j number d cell a × (i ≢ j)
  before j number d cell a h = by_number (same_or_not i j)
    where
      by_number : (i ≡ j) ⊎ (i ≢ j) → HasArray sc w lay j number d cell a × (i ≢ j)
      by_number (inl same) =
          absurd
          (let here : gone ≡ h.instance =
          some_same (sym (numbered_set w.instances i x gone own.is) ∙ ap (λ (k : ℕ). numbered w'.instances k) same ∙ h.is) in
          let clash : true ≡ false = ap (λ (y : Instance). y.left) here ∙ h.stands in
          cc)
      by_number (inr other) = (
        record {
          instance = h.instance;
          is = sym (numbered_other w.instances i j gone other) ∙ h.is;
          stands = h.stands;
          declares = h.declares;
          has = h.has;
          allotted = h.allotted;
        },
        other,
      )

  row_before : (j number k n : ℕ) → ArrayHasRow sc w' lay j number k n → ArrayHasRow sc w lay j number k n
  row_before j number k n h = record { declared = h.declared; cell = h.cell; allotted = h.allotted; array = (before j number h.declared h.cell h.allotted h.array).0; there = h.there }

  no_size : size_of_cells x.cells ≡ size_of_cells own.arrays
  no_size =
      ap size_of_cells own.has
      ∙ elements_behind own.simple own.arrays
      ∙ omega (arith, no_elements (simple_cells sc (block_numbered sc.blocks x.block)) own.simple own.values own.simple_are)

  no_rows_more : rows_of_cells x.cells ≡ rows_of_cells own.arrays
  no_rows_more =
      ap rows_of_cells own.has
      ∙ rows_behind own.simple own.arrays
      ∙ omega (arith, no_rows (simple_cells sc (block_numbered sc.blocks x.block)) own.simple own.values own.simple_are)

  arrays_left : ArraysAre sc w' lay closed.after
  arrays_left =
      record {
        held = λ j number d cell a h.
            let b = before j number d cell a h in
            holds_same img.rows closed.after d.kind cell a
            (λ k n e.
            closed.keeps n
            (λ other l row. b.1 ((are.apart i j other number l k n row (record { declared = d; cell = cell; allotted = a; array = b.0; there = e })).0)))
            (are.held j number d cell a b.0);
        apart = λ j l number other k m n h o. are.apart j l number other k m n (row_before j number k n h) (row_before l other m n o);
        counted = omega (arith, closed.fewer.counted, are.counted, no_size, elements_left w.instances i x gone own.is own.stands refl);
        opened = omega (arith, closed.fewer.opened, are.opened, no_rows_more, rows_left w.instances i x gone own.is own.stands refl);
        few = λ j y there stands. few_still j y there stands (same_or_not i j);
      }
    where
      few_still : (j : ℕ) (y : Instance) → numbered w'.instances j ≡ Some y → y.left ≡ false → (i ≡ j) ⊎ (i ≢ j) → rows_of_cells y.cells ≤ 2 * size_of_cells y.cells
      few_still j y there stands (inl same) =
          absurd
          (let here : gone ≡ y = some_same (sym (numbered_set w.instances i x gone own.is) ∙ ap (λ (k : ℕ). numbered w'.instances k) same ∙ there) in
          let clash : true ≡ false = ap (λ (y : Instance). y.left) here ∙ stands in
          cc)
      few_still j y there stands (inr other) = are.few j y (sym (numbered_other w.instances i j gone other) ∙ there) stands

  pub arrays_close : (pcws : List Pcw) → IsClosed sc w lay img i (own.values ++ (control_words pcws ++ own.descriptors))
  arrays_close pcws =
      record {
        rows = closed.after;
        changes = λ p next.
            ap (λ (c : Change). changed p c img)
            (skipped own.values (control_words pcws ++ own.descriptors) next
            (cells_describe_nothing (simple_cells sc (block_numbered sc.blocks x.block)) own.simple own.values own.simple_are)
            ∙ skipped (control_words pcws) own.descriptors next (controls_describe_nothing pcws))
            ∙ closed.changes p next img refl;
        are = arrays_left;
      }

-- the cells of a frame
pub frames_close : FramesClose
frames_close sc w lay img are p i outer at mark control cells f =
    subst (IsClosed sc w lay img i) (sym f.cells_is)
    (arrays_close sc w lay img are i f.instance (framed_cells sc w lay f) (block_controls sc f.instance.block f.ats))
