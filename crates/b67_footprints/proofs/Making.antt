-- ARRAYS keeps to what it reaches: its rows are new ones.
use Rattle.std.proofs.Common.{◌≡◌, refl, sym, ap, ◌∙◌, ℕ, zero, suc, ◌+◌, ◌*◌, ◌-ℤ◌, ℤ, pos, negsuc, List, [], ◌∷◌, ◌++◌, Some, None, Bool, true, false}
use Rattle.std.specs.Prelude.{nat_le}
use Rattle.std.proofs.Math.Decide.{ℕ_discrete}
use Rattle.b67_word.specs.Word.{Word}
use Rattle.b67_control.specs.declared.Registers.{Registers}
use Rattle.b67_control.specs.declared.Mscw.{Mscw}
use Rattle.b67_ops.specs.declared.Operator.{Operator}
use Rattle.b67_segment.specs.declared.code.Code.{Code}
use Rattle.b67_store.specs.Store.{Row, Rows, row_at, with_row_word, opened_at, least_free, zero_row, counted_words, count_limit}
use Rattle.b67_store.proofs.StoreLaws.{opened_here, opened_others, free_here}
use Rattle.b67_table.specs.declared.InterruptKind.TheVariants.{InvalidOperand}
use Rattle.b67_table.specs.Image.{Image}
use Rattle.b67_table.specs.Look.{valid, ◌>->◌}
use Rattle.b67_table.specs.Writes.{write_made}
use Rattle.b67_table.specs.Writes as writes
use Rattle.b67_table.specs.Program.{Change, answer, fault, open_row, write_row}
use Rattle.b67_table.specs.Arguments.{wholes, finished_at}
use Rattle.b67_table.specs.Arrays.{Extents, one, two, elements, extent_in, extent, if_small, if_held, array_word, rows_made, array_made, arrays_made}
use Rattle.b67_table.specs.Intrinsics.{count_in, wanted_with, intrinsic_wanted, extents, arrays}
use Rattle.b67_footprints.specs.Reaching.{ReachesRow, free}
use Rattle.b67_footprints.specs.Keeping.{TestKeeps, ChangeKeeps, ProgramKeeps}
use Rattle.b67_footprints.proofs.Going.{Any, LookKeeps, look_then, see_then, test_then, test_by, look_there}
use Rattle.b67_footprints.proofs.Changes.{Keeps, finished_kept}
use Rattle.b67_footprints.proofs.Calls.{chained_kept, wholes_then}

-- a row that is not open stays so where a word is written into a row
written_free : (rows : Rows) (n k at : ℕ) (w : Word) → row_at (with_row_word rows n at w) k ≡ None → row_at rows k ≡ None
written_free [] n k at w e = e
written_free (None ∷ rows) zero zero at w e = refl
written_free (Some x ∷ rows) zero zero at w e = cc
written_free (y ∷ rows) zero (suc k) at w e = e
written_free (y ∷ rows) (suc n) zero at w e = e
written_free (y ∷ rows) (suc n) (suc k) at w e = written_free rows n k at w e

module _ (img : Image) (op : Operator) (r : Registers) (p : ℕ) where
  abbrev E : Change → Type 0
  E change = ChangeKeeps img op r p change img

  -- ---- rows that are opened

  -- each row that is not open was not open
  abbrev More : Image → Type 0
  More now = (n : ℕ) → row_at now.rows n ≡ None → row_at img.rows n ≡ None

  -- the change may follow, whatever was opened
  abbrev Comes : Change → Type 0
  Comes next = (now : Image) → More now → Keeps img op r p next now

  opened_free : (rows : Rows) (n k : ℕ) (row : Row) → row_at (opened_at rows n row) k ≡ None → row_at rows k ≡ None
  opened_free rows n k row e = by_number (ℕ_discrete k n)
    where
      by_number : Dec (k ≡ n) → row_at rows k ≡ None
      by_number (yes f) =
          let there : row_at (opened_at rows n row) n ≡ Some row = opened_here rows n row in
          let none_there : row_at (opened_at rows n row) n ≡ None = ap (λ (m : ℕ). row_at (opened_at rows n row) m) (sym f) ∙ e in cc
      by_number (no h) = sym (opened_others rows n k row h) ∙ e

  open_comes : (count : ℕ) (counts : Bool) (more : ℕ → Change) → ((n : ℕ) → ReachesRow img op r n → Comes (more n)) → Comes (open_row count counts more)
  open_comes count counts more k now i =
      let n : ℕ = least_free now.rows in
      let was_free : row_at img.rows (least_free now.rows) ≡ None = i (least_free now.rows) (free_here now.rows) in (
        tt,
        (
          was_free,
          k (least_free now.rows) (free was_free) (write_made p (writes.open_row (least_free now.rows) count counts) now)
              (λ m e. i m (opened_free now.rows (least_free now.rows) m (zero_row count counts) e)),
        ),
      )

  row_comes : (n at : ℕ) (w : Word) (next : Change) → ReachesRow img op r n → Comes next → Comes (write_row n at w next)
  row_comes n at w next j k now i = (j, k (write_made p (writes.write_row n at w) now) (λ m e. i m (written_free now.rows n m at w e)))

  rows_come : (k mother at n : ℕ) (next : Change) → ReachesRow img op r mother → Comes next → Comes (rows_made k mother at n next)
  rows_come zero mother at n next j c = c
  rows_come (suc k) mother at n next j c =
      open_comes n true (λ (address : ℕ). write_row mother at (array_word false n address) (rows_made k mother (at + 1) n next)) (λ address u.
      row_comes mother at (array_word false n address) (rows_made k mother (at + 1) n next) j (rows_come k mother (at + 1) n next j c))

  array_comes : (e : Extents) (next : Word → Change) → ((w : Word) → Comes (next w)) → Comes (array_made e next)
  array_comes (one n) next c = open_comes n true (λ (address : ℕ). next (array_word false n address)) (λ address u. c (array_word false n address))
  array_comes (two m n) next c =
      open_comes m false (λ (address : ℕ). rows_made m address 0 n (next (array_word true m address))) (λ address j.
      rows_come m address 0 n (next (array_word true m address)) j (c (array_word true m address)))

  arrays_come : (k : ℕ) (e : Extents) (made : List Word) (next : List Word → Change) → ((ws : List Word) → Comes (next ws)) → Comes (arrays_made k e made next)
  arrays_come zero e made next c = c made
  arrays_come (suc k) e made next c = array_comes e (λ (w : Word). arrays_made k e (made ++ w ∷ []) next) (λ w. arrays_come k e (made ++ w ∷ []) next c)

  -- ---- tests of bounds

  small_kept : (e : Extents) → TestKeeps img op r Any (if_small e)
  small_kept e = test_by img op r Any (nat_le (elements e) count_limit) (answer e) (fault _) tt tt

  held_kept : (k : ℕ) (e : Extents) → TestKeeps img op r Any (if_held k e)
  held_kept k e = (tt, test_by img op r Any (nat_le (counted_words img.rows + k * elements e) count_limit) (answer e) (fault _) tt tt)

  extent_kept : (low high : ℤ) → TestKeeps img op r Any (extent low high)
  extent_kept low high = by_size (high -ℤ low)
    where
      by_size : (z : ℤ) → TestKeeps img op r Any (extent_in z)
      by_size (pos n) = tt
      by_size (negsuc n) = tt

  extents_kept : (zs : List ℤ) → TestKeeps img op r Any (extents zs)
  extents_kept [] = tt
  extents_kept (low ∷ []) = tt
  extents_kept (low ∷ high ∷ []) = test_then img op r Any Any (extent low high) _ (extent_kept low high) (λ n t. small_kept (one n))
  extents_kept (low ∷ high ∷ low2 ∷ []) = tt
  extents_kept (low ∷ high ∷ low2 ∷ high2 ∷ []) =
      test_then img op r Any Any (extent low high) _ (extent_kept low high) (λ m t.
      test_then img op r Any Any (extent low2 high2) _ (extent_kept low2 high2) (λ n u. small_kept (two m n)))
  extents_kept (low ∷ high ∷ low2 ∷ high2 ∷ z ∷ zs) = tt

  with_kept : (k : ℤ) (bounds : List ℤ) → LookKeeps img op r Any (wanted_with k bounds)
  with_kept k bounds = look_then img op r Any Any (valid (count_in k)) _ (look_there img op r Any InvalidOperand (count_in k) (λ n e. tt)) (λ n t. tt)

  wanted_kept : (zs : List ℤ) → LookKeeps img op r Any (intrinsic_wanted zs)
  wanted_kept [] = tt
  wanted_kept (k ∷ []) = tt
  wanted_kept (k ∷ low ∷ []) = tt
  wanted_kept (k ∷ low ∷ high ∷ []) = with_kept k (low ∷ high ∷ [])
  wanted_kept (k ∷ low ∷ high ∷ low2 ∷ []) = tt
  wanted_kept (k ∷ low ∷ high ∷ low2 ∷ high2 ∷ []) = with_kept k (low ∷ high ∷ low2 ∷ high2 ∷ [])
  wanted_kept (k ∷ low ∷ high ∷ low2 ∷ high2 ∷ z ∷ zs) = tt

  -- ---- the row

  pub arrays_kept : (code : Code) (next : ℕ) (m : Mscw) (words : List Word) → ProgramKeeps img op r p (arrays code r next m words)
  arrays_kept code next m words =
      see_then img op r Any E (wholes words >-> intrinsic_wanted) _ (wholes_then img op r p Any words intrinsic_wanted wanted_kept) (λ w t.
      chained_kept img op r p m _
      (test_then img op r Any E (extents w.bounds) _ (extents_kept w.bounds) (λ e u.
      test_then img op r Any E (if_held w.count e) _ (held_kept w.count e) (λ held v.
      arrays_come w.count held [] (λ (made : List Word). finished_at r m made next) (λ made now i. finished_kept img op r p m made next now) img (λ n e. e)))))
