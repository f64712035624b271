-- Rows that are closed one after another: what stays, and how much less there is.
use Rattle.std.proofs.Common.{◌≡◌, ◌≢◌, refl, sym, ap, ◌∙◌, ℕ, zero, suc, ◌+◌, ◌*◌, ◌<◌, ◌≤◌, List, [], ◌∷◌, length, Option, Some, None, true, false, arith}
use Rattle.b67_frames.proofs.Prelude.{slice_get, map, Word, Descriptor, changed_others, counts, closed_at, Row, Rows, row_at, row_limit, live_words, counted_words, array_word, Image, with_rows, closed_by, rows_closed, Change, changed, close_row, open_rows}
use Rattle.b67_frames.proofs.ElementRows.{array_read}

-- the rows after those of these numbers are closed
abbrev pub rows_without : Rows → List ℕ → Rows
rows_without rows [] = rows
rows_without rows (n ∷ ns) = rows_without (closed_at rows n) ns

-- all others stay
pub without_keeps : (ns : List ℕ) (rows : Rows) (n : ℕ) → ((k : ℕ) → slice_get ns k ≡ Some n → ⊥) → row_at (rows_without rows ns) n ≡ row_at rows n
without_keeps [] rows n apart = refl
without_keeps (m ∷ ns) rows n apart =
    without_keeps ns (closed_at rows m) n (λ k e. apart (suc k) e) ∙ changed_others rows m n None (λ same. apart 0 (ap (λ (j : ℕ). Some j) (sym same)))

-- ---- sizes

-- there are so many rows less, and so many words that count
pub record Fewer (before after : Rows) (many words : ℕ) : Type 0 where
  pub counted : counted_words after + words ≡ counted_words before
  pub opened : open_rows after + many ≡ open_rows before

fewer_open : (rows : Rows) (n : ℕ) (row : Row) → row_at rows n ≡ Some row → open_rows (closed_at rows n) + 1 ≡ open_rows rows
fewer_open [] n row there = absurd (let clash : None ≡ Some row = there in cc)
fewer_open (None ∷ rows) zero row there = absurd (let clash : None ≡ Some row = there in cc)
fewer_open (Some r ∷ rows) zero row there = omega arith
fewer_open (None ∷ rows) (suc n) row there = fewer_open rows n row there
fewer_open (Some r ∷ rows) (suc n) row there = omega (arith, fewer_open rows n row there)

-- a row is closed
pub one_fewer : (rows : Rows) (n : ℕ) (row : Row) → row_at rows n ≡ Some row → Fewer rows (closed_at rows n) 1 (live_words (Some row))
one_fewer rows n row there =
    record {
      counted = ap (λ (o : Option Row). counted_words (closed_at rows n) + live_words o) (sym there) ∙ counts.closed rows n;
      opened = fewer_open rows n row there;
    }

pub fewer_again : (first second third : Rows) (m n a b : ℕ) → Fewer first second m a → Fewer second third n b → Fewer first third (m + n) (a + b)
fewer_again first second third m n a b f g = record { counted = omega (arith, f.counted, g.counted); opened = omega (arith, f.opened, g.opened) }

-- numbers that stand once
abbrev pub AreApart : List ℕ → Type 0
AreApart ns = (k l n : ℕ) → slice_get ns k ≡ Some n → slice_get ns l ≡ Some n → k ≡ l

-- the row of this number holds so many elements
pub record HoldsMany (rows : Rows) (n size : ℕ) : Type 0 where
  pub words : List Word
  pub is : row_at rows n ≡ Some (record { words = words; counted = true })
  pub many : length words ≡ size

-- rows of one size
pub rows_fewer : (ns : List ℕ) (rows : Rows) (size : ℕ) → AreApart ns → ((k n : ℕ) → slice_get ns k ≡ Some n → HoldsMany rows n size) → Fewer rows (rows_without rows ns) (length ns) (length ns * size)
rows_fewer [] rows size apart hold = record { counted = omega arith; opened = omega arith }
rows_fewer (m ∷ ns) rows size apart hold =
    let h : HoldsMany rows m size = hold 0 m refl in
    let first : Fewer rows (closed_at rows m) 1 (length h.words) = one_fewer rows m (record { words = h.words; counted = true }) h.is in
    let rest : Fewer (closed_at rows m) (rows_without (closed_at rows m) ns) (length ns) (length ns * size) =
    rows_fewer ns (closed_at rows m) size (λ k l n e f. let next : suc k ≡ suc l = apart (suc k) (suc l) n e f in omega (arith, next)) later in
    record { counted = omega (arith, first.counted, rest.counted, h.many); opened = omega (arith, first.opened, rest.opened) }
  where
    later : (k n : ℕ) → slice_get ns k ≡ Some n → HoldsMany (closed_at rows m) n size
    later k n e =
        let h : HoldsMany rows n size = hold (suc k) n e in
        let other : n ≢ m = (λ same. absurd (let clash : suc k ≡ 0 = apart (suc k) 0 n e (ap (λ (j : ℕ). Some j) (sym same)) in omega (arith, clash))) in
        record { words = h.words; is = changed_others rows m n None other ∙ h.is; many = h.many }

-- ---- changes

-- the rows of the descriptors of a mother's row
pub rows_close : (p size : ℕ) (ns : List ℕ) (next : Change) (img : Image) → size ≤ 1048576 → ((k n : ℕ) → slice_get ns k ≡ Some n → n < row_limit) →
    changed p (rows_closed (map (λ (n : ℕ). array_word false size n) ns) next) img ≡ changed p next (with_rows img (rows_without img.rows ns))
rows_close p size [] next img few low = refl
rows_close p size (n ∷ ns) next img few low =
    ap (λ (o : Option Descriptor). changed p (closed_by o (λ (d : Descriptor) (more : Change). close_row d.address more) (rows_closed (map (λ (n : ℕ). array_word false size n) ns) next)) img)
    (array_read false size n few (low 0 n refl))
    ∙ rows_close p size ns next (with_rows img (closed_at img.rows n)) few (λ k m e. low (suc k) m e)
