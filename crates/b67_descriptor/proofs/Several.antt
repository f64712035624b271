-- Arrays that are made one after another, and closed again.
use Rattle.std.proofs.Common.{◌≡◌, refl, sym, ap, subst, ◌∙◌, ℕ, zero, suc, ◌+◌, ◌-◌, ◌<◌, ◌≤◌, List, [], ◌∷◌, ◌++◌, length, Option, Some, arith}
use Rattle.std.specs.Prelude.{slice_get, map}
use Rattle.b67_word.specs.Word.{Word}
use Rattle.b67_control.specs.declared.Descriptor.{Descriptor}
use Rattle.b67_control.specs.Control.{descriptor_word}
use Rattle.b67_store.specs.Store.{Row, Rows, row_words_or}
use Rattle.b67_table.specs.Image.{Image, with_rows}
use Rattle.b67_table.specs.Program.{Change, changed}
use Rattle.b67_table.specs.Look.{read_as}
use Rattle.b67_control.specs.Control.{as_descriptor}
use Rattle.b67_table.specs.Arrays.{Extents, arrays_made}
use Rattle.b67_descriptor.specs.Arrays.{address_in, child, HasMore, SameRows, described, HasArray, HaveArrays, Makes}

-- ---- the same rows

same_child : (rows other : Rows) (mother at : ℕ) → SameRows rows other → child other mother at ≡ child rows mother at
same_child rows other mother at same = ap (λ (o : Option Row). address_in (read_as as_descriptor (slice_get (row_words_or o) at))) (same mother)

pub same_more : (before rows other : Rows) (mother from to : ℕ) → SameRows rows other → HasMore before rows mother from to → HasMore before other mother from to
same_more before rows other mother from to same more = record {
  fresh = more.fresh;
  children = λ at low high. let c = more.children at low high in
      record { address = c.address; described = same_child rows other mother at same ∙ c.described; fresh = c.fresh; apart = c.apart };
  others = λ x h none. same x ∙ more.others x h (λ at low high e. none at low high (same_child rows other mother at same ∙ e));
}

pub same_arrays : (before : Rows) (arrays : List Descriptor) (n : ℕ) (rows other : Rows) → SameRows rows other → HaveArrays before arrays n rows → HaveArrays before arrays n other
same_arrays before arrays zero rows other same have = λ x. same x ∙ have x
same_arrays before arrays (suc n) rows other same have =
    (have.0, have.1, λ d e. same_more have.0 rows other d.address 0 (described d) same (have.2 d e))

-- ---- one array less

pub one_less : (before : Rows) (arrays : List Descriptor) (n : ℕ) (d : Descriptor) (rows other : Rows) → 0 < n → slice_get arrays (n - 1) ≡ Some d
    → ((mid : Rows) → HasArray mid rows d → SameRows mid other) → HaveArrays before arrays n rows → HaveArrays before arrays (n - 1) other
one_less before arrays zero d rows other some e closed have = absurd (omega (arith, some))
one_less before arrays (suc n) d rows other some e closed have =
    let here : suc n - 1 ≡ n = omega arith in
    let there : slice_get arrays n ≡ Some d = ap (λ (k : ℕ). slice_get arrays k) (sym here) ∙ e in
    subst (λ (k : ℕ). HaveArrays before arrays k other) (sym here)
    (same_arrays before arrays n have.0 other (closed have.0 (have.2 d there)) have.1)

-- ---- one array more

get_before : (xs : List Descriptor) (d : Descriptor) (n : ℕ) → n < length xs → slice_get (xs ++ d ∷ []) n ≡ slice_get xs n
get_before [] d n h = absurd (omega (arith, h))
get_before (x ∷ xs) d zero h = refl
get_before (x ∷ xs) d (suc n) h = get_before xs d n (omega (arith, h))

get_last : (xs : List Descriptor) (d : Descriptor) → slice_get (xs ++ d ∷ []) (length xs) ≡ Some d
get_last [] d = refl
get_last (x ∷ xs) d = get_last xs d

kept_arrays : (before : Rows) (arrays : List Descriptor) (d : Descriptor) (n : ℕ) (rows : Rows) → n ≤ length arrays → HaveArrays before arrays n rows
    → HaveArrays before (arrays ++ d ∷ []) n rows
kept_arrays before arrays d zero rows h have = have
kept_arrays before arrays d (suc n) rows h have =
    (have.0, kept_arrays before arrays d n have.0 (omega (arith, h)) have.1, λ x e. have.2 x (sym (get_before arrays d n (omega (arith, h))) ∙ e))

pub one_more : (before : Rows) (arrays : List Descriptor) (d : Descriptor) (n : ℕ) (rows other : Rows) → length arrays ≡ n → HasArray rows other d
    → HaveArrays before arrays n rows → HaveArrays before (arrays ++ d ∷ []) (n + 1) other
one_more before arrays d n rows other size has have =
    let last : slice_get (arrays ++ d ∷ []) n ≡ Some d = ap (λ (k : ℕ). slice_get (arrays ++ d ∷ []) k) (sym size) ∙ get_last arrays d in
    let next : suc n ≡ n + 1 = omega arith in
    subst (λ (k : ℕ). HaveArrays before (arrays ++ d ∷ []) k other) next (
      rows,
      kept_arrays before arrays d n rows (omega (arith, size)) have,
      λ x e. subst (λ (y : Descriptor). HasArray rows other y) (some_same d x (sym last ∙ e)) has,
    )
  where
    some_same : (a b : Descriptor) → Some a ≡ Some b → a ≡ b
    some_same a b e = cc

-- ---- as the table makes them

-- the first arrays of so many are made as the table makes them: what is left to be made is the rest
abbrev pub MakesSome : ℕ → Extents → Rows → Rows → List Descriptor → ℕ → Type 0
MakesSome k e before rows arrays left =
    (p : ℕ) (img : Image) (next : List Word → Change) → img.rows ≡ before
    → changed p (arrays_made k e [] next) img ≡ changed p (arrays_made left e (map descriptor_word arrays) next) (with_rows img rows)

pub makes_none : (k : ℕ) (e : Extents) (before : Rows) → MakesSome k e before before [] (k - 0)
makes_none k e before p img next same =
    let all : k ≡ k - 0 = omega arith in
    ap (λ (n : ℕ). changed p (arrays_made n e [] next) img) all ∙ ap (λ (r : Rows). changed p (arrays_made (k - 0) e [] next) (with_rows img r)) same

map_last : (xs : List Descriptor) (d : Descriptor) → map descriptor_word (xs ++ d ∷ []) ≡ map descriptor_word xs ++ descriptor_word d ∷ []
map_last [] d = refl
map_last (x ∷ xs) d = ap (λ (ws : List Word). descriptor_word x ∷ ws) (map_last xs d)

pub makes_more : (k : ℕ) (e : Extents) (before rows other : Rows) (arrays : List Descriptor) (d : Descriptor) (n : ℕ) → n < k → Makes e rows other d
    → MakesSome k e before rows arrays (k - n) → MakesSome k e before other (arrays ++ d ∷ []) (k - (n + 1))
makes_more k e before rows other arrays d n h makes some p img next same =
    let left : k - n ≡ suc (k - (n + 1)) = omega (arith, h) in
    some p img next same
    ∙ ap (λ (j : ℕ). changed p (arrays_made j e (map descriptor_word arrays) next) (with_rows img rows)) left
    ∙ makes p (with_rows img rows) (λ (w : Word). arrays_made (k - (n + 1)) e (map descriptor_word arrays ++ w ∷ []) next) refl
    ∙ ap (λ (ws : List Word). changed p (arrays_made (k - (n + 1)) e ws next) (with_rows img other)) (sym (map_last arrays d))

pub length_last : (xs : List Descriptor) (d : Descriptor) → length (xs ++ d ∷ []) ≡ length xs + 1
length_last [] d = refl
length_last (x ∷ xs) d = omega (arith, length_last xs d)
