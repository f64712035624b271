-- Rows that are closed, in whatever order.
use Rattle.std.proofs.Common.{◌≡◌, refl, sym, ap, ◌∙◌, ℕ, zero, suc, ◌+◌, ◌-◌, ◌≤◌, ◌≢◌, List, [], ◌∷◌, ◌++◌, take, drop, Option, Some, None, Bool, true, false, cond, arith}
use Rattle.std.specs.Prelude.{slice_get}
use Rattle.std.proofs.Math.Seq.{drop-nil, take-nil}
use Rattle.b67_word.specs.Word.{Word}
use Rattle.b67_control.specs.declared.Descriptor.{Descriptor}
use Rattle.b67_control.specs.Control.{as_descriptor}
use Rattle.b67_store.specs.Store.{Row, Rows, closed_at, row_words, row_words_or}
use Rattle.b67_store.proofs.StoreLaws.{changed_others}
use Rattle.b67_linkage.specs.Closing.{rows_without_word, without_row, without_rows, without_array, without_arrays}

-- ---- the words of a list one after another

pub drop_at : {X : Type 0} (xs : List X) (n : ℕ) (x : X) → slice_get xs n ≡ Some x → drop n xs ≡ x ∷ drop (n + 1) xs
drop_at [] n x e = cc
drop_at (y ∷ xs) zero x e = let h : Some y ≡ Some x = e in cc
drop_at (y ∷ xs) (suc n) x e = let k_is : suc (n + 1) ≡ suc n + 1 = omega arith in drop_at xs n x e ∙ ap (λ (k : ℕ). x ∷ drop k (y ∷ xs)) k_is

pub drop_past : {X : Type 0} (xs : List X) (n : ℕ) → slice_get xs n ≡ None → drop n xs ≡ []
drop_past [] n e = drop-nil n
drop_past (y ∷ xs) zero e = let h : Some y ≡ None = e in absurd cc
drop_past (y ∷ xs) (suc n) e = drop_past xs n e

-- ---- two rows

pub closed_swap : (rows : Rows) (m n : ℕ) → closed_at (closed_at rows m) n ≡ closed_at (closed_at rows n) m
closed_swap [] m n = closed_none m n ∙ sym (closed_none n m)
  where
    closed_none : (i j : ℕ) → closed_at (closed_at {X = Row} [] i) j ≡ []
    closed_none zero zero = refl
    closed_none zero (suc j) = refl
    closed_none (suc i) zero = refl
    closed_none (suc i) (suc j) = refl
closed_swap (x ∷ rows) zero zero = refl
closed_swap (x ∷ rows) zero (suc n) = refl
closed_swap (x ∷ rows) (suc m) zero = refl
closed_swap (x ∷ rows) (suc m) (suc n) = ap (λ (z : Rows). x ∷ z) (closed_swap rows m n)

pub closed_twice : (rows : Rows) (n : ℕ) → closed_at (closed_at rows n) n ≡ closed_at rows n
closed_twice [] zero = refl
closed_twice [] (suc n) = refl
closed_twice (x ∷ rows) zero = refl
closed_twice (x ∷ rows) (suc n) = ap (λ (z : Rows). x ∷ z) (closed_twice rows n)

-- ---- a mother's row is closed before or after the rows that its words describe

without_swap : (d : Option Descriptor) (rows : Rows) (a : ℕ) → closed_at (rows_without_word without_row d rows) a ≡ rows_without_word without_row d (closed_at rows a)
without_swap None rows a = refl
without_swap (Some d) rows a = by_copy d.copy
  where
    by_copy : (b : Bool) → closed_at (cond b rows (closed_at rows d.address)) a ≡ cond b (closed_at rows a) (closed_at (closed_at rows a) d.address)
    by_copy true = refl
    by_copy false = closed_swap rows d.address a

rows_swap : (words : List Word) (rows : Rows) (a : ℕ) → closed_at (without_rows words rows) a ≡ without_rows words (closed_at rows a)
rows_swap [] rows a = refl
rows_swap (w ∷ words) rows a =
    rows_swap words (rows_without_word without_row (as_descriptor w) rows) a ∙ ap (λ (z : Rows). without_rows words z) (without_swap (as_descriptor w) rows a)

-- rows that agree once a mother's is closed agree after the rows of words are closed too
pub rows_alike : (words : List Word) (r q : Rows) (a : ℕ) → closed_at r a ≡ closed_at q a → closed_at (without_rows words r) a ≡ closed_at (without_rows words q) a
rows_alike words r q a e = rows_swap words r a ∙ ap (λ (z : Rows). without_rows words z) e ∙ sym (rows_swap words q a)

-- the rows of words in another order
two_swap : (o p : Option Descriptor) (rows : Rows) → rows_without_word without_row p (rows_without_word without_row o rows) ≡ rows_without_word without_row o (rows_without_word without_row p rows)
two_swap None p rows = refl
two_swap (Some d) p rows = by_copy d.copy
  where
    by_copy : (b : Bool) → rows_without_word without_row p (cond b rows (closed_at rows d.address)) ≡ cond b (rows_without_word without_row p rows) (closed_at (rows_without_word without_row p rows) d.address)
    by_copy true = refl
    by_copy false = sym (without_swap p rows d.address)

rows_later : (words : List Word) (o : Option Descriptor) (rows : Rows) → without_rows words (rows_without_word without_row o rows) ≡ rows_without_word without_row o (without_rows words rows)
rows_later [] o rows = refl
rows_later (w ∷ words) o rows =
    ap (λ (z : Rows). without_rows words z) (two_swap o (as_descriptor w) rows) ∙ rows_later words o (rows_without_word without_row (as_descriptor w) rows)

rows_push : (words : List Word) (w : Word) (rows : Rows) → without_rows (words ++ w ∷ []) rows ≡ rows_without_word without_row (as_descriptor w) (without_rows words rows)
rows_push [] w rows = refl
rows_push (x ∷ words) w rows = rows_push words w (rows_without_word without_row (as_descriptor x) rows)

take_at : {X : Type 0} (xs : List X) (n : ℕ) (x : X) → slice_get xs n ≡ Some x → take (n + 1) xs ≡ take n xs ++ x ∷ []
take_at [] n x e = cc
take_at (y ∷ xs) zero x e = let h : Some y ≡ Some x = e in cc
take_at (y ∷ xs) (suc n) x e = let k_is : suc n + 1 ≡ suc (n + 1) = omega arith in ap (λ (k : ℕ). take k (y ∷ xs)) k_is ∙ ap (λ zs. y ∷ zs) (take_at xs n x e)

-- one word of a mother's row, the last before those that went
pub next_daughter : (words : List Word) (at before : ℕ) (w : Word) (old new : Rows) (a : ℕ) → slice_get words at ≡ Some w → before ≡ at + 1
    → closed_at new a ≡ closed_at (rows_without_word without_row (as_descriptor w) old) a
    → closed_at (without_rows (take at words) new) a ≡ closed_at (without_rows (take before words) old) a
next_daughter words at before w old new a e f c =
    rows_alike (take at words) new (rows_without_word without_row (as_descriptor w) old) a c
    ∙ ap (λ (z : Rows). closed_at z a) (rows_later (take at words) (as_descriptor w) old ∙ sym (rows_push (take at words) w old))
    ∙ ap (λ (z : List Word). closed_at (without_rows z old) a) (sym (take_at words at w e) ∙ ap (λ (k : ℕ). take k words) (sym f))

-- to close another row leaves a row's words
pub words_stay : (rows : Rows) (n k : ℕ) → k ≢ n → row_words (closed_at rows n) k ≡ row_words rows k
words_stay rows n k h = ap row_words_or (changed_others rows n k None h)

-- ---- the cells of a frame

pub next_cell : (words : List Word) (at most : ℕ) (w : Word) (old new : Rows) → 1 ≤ most → slice_get words at ≡ Some w → new ≡ rows_without_word without_array (as_descriptor w) old
    → without_arrays (take (most - 1) (drop (at + 1) words)) new ≡ without_arrays (take most (drop at words)) old
next_cell words at most w old new h e c =
    let j_is : most ≡ suc (most - 1) = omega (arith, h) in
    ap (λ (z : Rows). without_arrays (take (most - 1) (drop (at + 1) words)) z) c
    ∙ ap (λ (z : List Word). without_arrays z old) (sym (ap (λ (j : ℕ). take j (drop at words)) j_is ∙ ap (λ (z : List Word). take (suc (most - 1)) z) (drop_at words at w e)))

pub no_cell : (words : List Word) (at most : ℕ) (old : Rows) → slice_get words at ≡ None → without_arrays (take most (drop at words)) old ≡ old
no_cell words at most old e = ap (λ (z : List Word). without_arrays (take most z) old) (drop_past words at e) ∙ ap (λ (z : List Word). without_arrays z old) (take-nil most)

-- a word of a mother's row that describes that row itself
pub own_daughter : (rows : Rows) (o : Option Descriptor) (d : Descriptor) (a : ℕ) → o ≡ Some d → d.copy ≡ false → d.address ≡ a
    → closed_at rows a ≡ closed_at (rows_without_word without_row o rows) a
own_daughter rows o d a o_is c e =
    sym (ap (λ (x : Option Descriptor). closed_at (rows_without_word without_row x rows) a) o_is
    ∙ ap (λ (b : Bool). closed_at (cond b rows (closed_at rows d.address)) a) c
    ∙ ap (λ (k : ℕ). closed_at (closed_at rows k) a) e ∙ closed_twice rows a)
