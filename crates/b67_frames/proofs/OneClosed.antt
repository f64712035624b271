-- One array is closed: its rows.
use Rattle.std.proofs.Common.{◌≡◌, refl, sym, ap, ◌∙◌, subst, ℕ, zero, suc, ◌+◌, ◌*◌, ◌<◌, ◌≤◌, List, [], ◌∷◌, length, Option, Some, None, true, false, arith}
use Rattle.b67_frames.proofs.Prelude.{slice_get, map, Kind, size_of, elements_of, size_of_cell, Bounds, ArrayCell, Cell, array, Word, as_descriptor, Descriptor, closed_at, Row, Rows, row_at, row_limit, array_word, Image, with_rows, closed_by, rows_closed, array_closed, Change, changed, close_row, Allotted, row_numbers_of, row_length, DescriptorIs, AreSized, HoldElements, rows_of_bounds, rows_of_cell}
use Rattle.b67_store.specs.Store.{row_words_or}
use Rattle.b67_frames.proofs.ClosedRows.{rows_without, without_keeps, Fewer, one_fewer, AreApart, rows_fewer, rows_close}
use Rattle.b67_frames.proofs.ElementRows.{array_read}
use Rattle.b67_frames.proofs.FewElements.{OneSized, one_sized, TwoSized, two_sized}

-- a part is one of the numbers of its array
pub part_number : (a : Allotted) (j n : ℕ) → slice_get a.parts j ≡ Some n → (k : ℕ) × (slice_get (row_numbers_of a) k ≡ Some n)
part_number a j n part = by_mother a.mother
  where
    by_mother : (o : Option ℕ) → (k : ℕ) × (slice_get (row_numbers_of (record { mother = o; parts = a.parts })) k ≡ Some n)
    by_mother None = (j, part)
    by_mother (Some m) = (suc j, part)

-- rows hold an array where its own rows are the same
pub holds_same : (rows rows' : Rows) (kind : Kind) (cell : ArrayCell) (a : Allotted) → ((k n : ℕ) → slice_get (row_numbers_of a) k ≡ Some n → row_at rows' n ≡ row_at rows n) →
    HoldElements rows kind cell a → HoldElements rows' kind cell a
holds_same rows rows' kind cell a same holds =
    record {
      opened = λ j n part.
          let opened = holds.opened j n part in
          (opened.0, (opened.1.0, part_same j n part ∙ opened.1.1, opened.1.2));
      elements = λ j k n words part low there. holds.elements j k n words part low (sym (part_same j n part) ∙ there);
      mother = λ m is. mother_same m is ∙ holds.mother m is;
    }
  where
    part_same : (j n : ℕ) → slice_get a.parts j ≡ Some n → row_at rows' n ≡ row_at rows n
    part_same j n part = let k = part_number a j n part in same k.0 n k.1

    mother_same : (m : ℕ) → a.mother ≡ Some m → row_at rows' m ≡ row_at rows m
    mother_same m is = same 0 m (ap (λ (o : Option ℕ). slice_get (row_numbers_of (record { mother = o; parts = a.parts })) 0) is)

-- the rows without those of an array
abbrev mother_numbers : Option ℕ → List ℕ
mother_numbers None = []
mother_numbers (Some m) = m ∷ []

abbrev pub without_array : Rows → Allotted → Rows
without_array rows a = rows_without (rows_without rows a.parts) (mother_numbers a.mother)

-- all others stay
pub array_keeps : (rows : Rows) (a : Allotted) (n : ℕ) → ((k : ℕ) → slice_get (row_numbers_of a) k ≡ Some n → ⊥) → row_at (without_array rows a) n ≡ row_at rows n
array_keeps rows a n apart = by_mother a.mother a.parts apart
  where
    by_mother : (o : Option ℕ) (parts : List ℕ) → ((k : ℕ) → slice_get (row_numbers_of (record { mother = o; parts = parts })) k ≡ Some n → ⊥) →
        row_at (rows_without (rows_without rows parts) (mother_numbers o)) n ≡ row_at rows n
    by_mother None parts apart = without_keeps parts rows n apart
    by_mother (Some m) parts apart =
        without_keeps (m ∷ []) (rows_without rows parts) n (λ k e. mother_apart k e) ∙ without_keeps parts rows n (λ k e. apart (suc k) e)
      where
        mother_apart : (k : ℕ) → slice_get (m ∷ []) k ≡ Some n → ⊥
        mother_apart zero e = apart 0 e
        mother_apart (suc k) e = absurd (let clash : None ≡ Some n = e in cc)

-- an array is closed
pub record OneClosed (rows : Rows) (a : Allotted) (c : Cell) (w : Word) : Type 0 where
  pub changes : (p : ℕ) (next : Change) (img : Image) → img.rows ≡ rows → changed p (closed_by (as_descriptor w) array_closed next) img ≡ changed p next (with_rows img (without_array rows a))
  pub fewer : Fewer rows (without_array rows a) (rows_of_cell c) (size_of_cell c)

module _ (rows : Rows) (kind : Kind) (cell : ArrayCell) where
  -- the row of an array of one dimension
  one_row : (b : Bounds) (n : ℕ) (w : Word) → cell.bounds ≡ b ∷ [] → size_of b ≤ 1048576 → n < row_limit → w ≡ array_word false (size_of b) n →
      HoldElements rows kind cell (record { mother = None; parts = n ∷ [] }) → OneClosed rows (record { mother = None; parts = n ∷ [] }) (array cell) w
  one_row b n w is few low word holds =
      let opened = holds.opened 0 n refl in
      let row : Row = record { words = opened.1.0; counted = true } in
      let less : Fewer rows (closed_at rows n) 1 (length opened.1.0) = one_fewer rows n row opened.1.1 in
      let one : rows_of_bounds cell.bounds ≡ 1 = ap rows_of_bounds is in
      let many : elements_of cell.bounds ≡ size_of b * 1 = ap elements_of is in
      let words : length opened.1.0 ≡ size_of b = opened.1.2 ∙ ap row_length is in
      record {
        changes = λ p next img same.
            ap (λ (o : Option Descriptor). changed p (closed_by o array_closed next) img) (ap as_descriptor word ∙ array_read false (size_of b) n few low)
            ∙ ap (λ (rs : Rows). changed p next (with_rows img (closed_at rs n))) same;
        fewer = record { counted = omega (arith, less.counted, many, words); opened = omega (arith, less.opened, one) };
      }

  -- the rows of an array of two dimensions
  two_rows : (b c : Bounds) (m : ℕ) (parts : List ℕ) (w : Word) → cell.bounds ≡ b ∷ c ∷ [] → size_of b ≤ 1048576 → size_of c ≤ 1048576 → m < row_limit → length parts ≡ size_of b →
      w ≡ array_word true (size_of b) m → AreApart (m ∷ parts) → HoldElements rows kind cell (record { mother = Some m; parts = parts }) →
      OneClosed rows (record { mother = Some m; parts = parts }) (array cell) w
  two_rows b c m parts w is few few' low long word apart holds =
      record {
        changes = λ p next img same.
            ap (λ (o : Option Descriptor). changed p (closed_by o array_closed next) img) (ap as_descriptor word ∙ array_read true (size_of b) m few low)
            ∙ ap (λ (o : Option Row). changed p (rows_closed (row_words_or o) (close_row m next)) img) (ap (λ (rs : Rows). row_at rs m) same ∙ mother_is)
            ∙ rows_close p (size_of c) parts (close_row m next) img few' (λ k n e. (holds.opened k n e).0)
            ∙ ap (λ (rs : Rows). changed p next (with_rows img (closed_at (rows_without rs parts) m))) same;
        fewer = record { counted = omega (arith, first.counted, second.counted, elements, product); opened = omega (arith, first.opened, second.opened, rows_are, long) };
      }
    where
      mother_row : Row
      mother_row = record { words = map (λ (n : ℕ). array_word false (size_of c) n) parts; counted = false }

      mother_is : row_at rows m ≡ Some mother_row
      mother_is =
          holds.mother m refl ∙ ap (λ (bs : List Bounds). Some (record { words = map (λ (n : ℕ). array_word false (row_length bs) n) parts; counted = false })) is

      first : Fewer rows (rows_without rows parts) (length parts) (length parts * size_of c)
      first =
          rows_fewer parts rows (size_of c) (λ k l n e f. let next : suc k ≡ suc l = apart (suc k) (suc l) n e f in omega (arith, next))
          (λ k n e.
          let opened = holds.opened k n e in
          record { words = opened.1.0; is = opened.1.1; many = opened.1.2 ∙ ap row_length is })

      second : Fewer (rows_without rows parts) (closed_at (rows_without rows parts) m) 1 0
      second =
          one_fewer (rows_without rows parts) m mother_row
          (without_keeps parts rows m (λ k e. absurd (let clash : suc k ≡ 0 = apart (suc k) 0 m e refl in omega (arith, clash))) ∙ mother_is)

      rows_are : rows_of_bounds cell.bounds ≡ 1 + size_of b
      rows_are = ap rows_of_bounds is

      elements : elements_of cell.bounds ≡ size_of b * (size_of c * 1)
      elements = ap elements_of is

      product : length parts * size_of c ≡ size_of b * size_of c
      product = ap (λ (n : ℕ). n * size_of c) long

  pub one_closes : (a : Allotted) (w : Word) (bs : List Bounds) → HoldElements rows kind cell a → AreApart (row_numbers_of a) → cell.bounds ≡ bs → AreSized bs → DescriptorIs bs a w →
      OneClosed rows a (array cell) w
  one_closes a w [] holds apart is sized descriptor = absurd descriptor
  one_closes a w (b ∷ []) holds apart is sized descriptor =
      let one : OneSized b = one_sized b sized in
      subst (λ (x : Allotted). OneClosed rows x (array cell) w) (sym descriptor.2)
      (one_row b descriptor.0 w is one.few descriptor.1 descriptor.3 (subst (HoldElements rows kind cell) descriptor.2 holds))
  one_closes a w (b ∷ c ∷ []) holds apart is sized descriptor =
      let two : TwoSized b c = two_sized b c sized in
      let rows_are : a ≡ record { mother = Some descriptor.0; parts = a.parts } = ap (λ (o : Option ℕ). record { mother = o; parts = a.parts }) descriptor.2 in
      subst (λ (x : Allotted). OneClosed rows x (array cell) w) (sym rows_are)
      (two_rows b c descriptor.0 a.parts w is two.first.few two.second.few descriptor.1 descriptor.3 descriptor.4 (subst (λ (x : Allotted). AreApart (row_numbers_of x)) rows_are apart)
      (subst (HoldElements rows kind cell) rows_are holds))
  one_closes a w (b ∷ c ∷ d ∷ bs) holds apart is sized descriptor = absurd descriptor
