-- Numbers line by line and column by column, where a line or a number comes to them, and the declarations that have these numbers.
use Rattle.std.proofs.Common.{◌≡◌, ◌≢◌, ◌≤◌, ◌+◌, ℕ, zero, suc, Bool, true, false, List, [], ◌∷◌, ◌++◌, length, Option, Some, None, refl, ap, sym, ◌∙◌, arith, length-append, add-one}
use Rattle.std.specs.Prelude.{◌==◌, ◌&&◌, if◌then◌else◌, is_some, slice_get, slice_set}
use Rattle.std.specs.Option.{option_or}
use Rattle.std.specs.declared.alloc.Global.{Global}
use Rattle.std.specs.declared.vec.Vec.{Vec}
use Rattle.std.proofs.lemmas.Bool.Decides.{nat_tests}
use Rattle.b67_list.specs.Numbered.{numbered}
use Rattle.b67_list.proofs.Numbers.{number_different, number_told}
use Rattle.b67_list.proofs.Truths.{and_false}
use Rattle.algol_tree.specs.declared.token.Spot.{Spot}
use Rattle.algol_tree.specs.Blocks.{same_spot}
use Rattle.algol_frames.specs.declared.scopes.Declared.{Declared}
use Rattle.algol_frames.specs.ByLine.{line_items, number_in_column, number_at_place}

-- ---- a line without numbers that comes after the others

-- ---- a line with another number in a column, in place of the line before

always : (b : Bool) → (b && true) ≡ b
always true = refl
always false = refl

apart : (a b : Spot) → a.line ≢ b.line → same_spot a b ≡ false
apart a b n = rw (number_different a.line b.line n) (and_false (a.column == b.column))

beside : (a b : Spot) → a.line ≡ b.line → same_spot a b ≡ (a.column == b.column)
beside a b e = rw (number_told a.line b.line e) (always (a.column == b.column))

changed : (lines : List (Vec ℕ Global)) (n k c number : ℕ) (old new : Vec ℕ Global) (b : Bool) → slice_get lines n ≡ Some old → (n ≢ k → b ≡ false) →
    (n ≡ k → number_in_column new.items c ≡ (if b then number else number_in_column old.items c)) →
    number_in_column (line_items (slice_get (slice_set lines n new) k)) c ≡ (if b then number else number_in_column (line_items (slice_get lines k)) c)
changed [] n k c number old new b there other more = cc
changed (l ∷ ls) zero zero c number old new b there other more =
    let same : l ≡ old = cc in
    more refl ∙ ap (λ (v : Vec ℕ Global). if b then number else number_in_column v.items c) (sym same)
changed (l ∷ ls) zero (suc k) c number old new b there other more =
    ap (λ z. if z then number else number_in_column (line_items (slice_get ls k)) c) (sym (other (λ e. absurd (omega (arith, e)))))
changed (l ∷ ls) (suc n) zero c number old new b there other more =
    ap (λ z. if z then number else number_in_column l.items c) (sym (other (λ e. absurd (omega (arith, e)))))
changed (l ∷ ls) (suc n) (suc k) c number old new b there other more =
    changed ls n k c number old new b there (λ e. other (λ f. e (omega (arith, f)))) (λ e. more (ap suc e))

pub line_changed : (lines : List (Vec ℕ Global)) (old new : Vec ℕ Global) (spot q : Spot) (number : ℕ) → slice_get lines spot.line ≡ Some old →
    number_in_column new.items q.column ≡ (if spot.column == q.column then number else number_in_column old.items q.column) →
    number_at_place (slice_set lines spot.line new) q ≡ (if same_spot spot q then number else number_at_place lines q)
line_changed lines old new spot q number there more =
    changed lines spot.line q.line q.column number old new (same_spot spot q) there (apart spot q)
    (λ e. more ∙ ap (λ z. if z then number else number_in_column old.items q.column) (sym (beside spot q e)))

-- ---- one more declaration, which has the next number

none_more : {A : Type 0} (x : Option A) → option_or x None ≡ x
none_more None = refl
none_more (Some d) = refl

last : (ds : List Declared) (d : Declared) → slice_get (ds ++ d ∷ []) (length ds) ≡ Some d
last [] d = refl
last (e ∷ ds) d = last ds d

before : (ds : List Declared) (d : Declared) (k : ℕ) → suc k ≤ length ds → slice_get (ds ++ d ∷ []) k ≡ slice_get ds k
before [] d k l = absurd (omega (arith, l))
before (e ∷ ds) d zero l = refl
before (e ∷ ds) d (suc k) l = before ds d k (omega (arith, l))

found_more : (ds : List Declared) (d : Declared) (k : ℕ) (b : Bool) → k ≤ length ds → (b ≡ true → numbered ds k ≡ None) →
    numbered (ds ++ d ∷ []) (if b then suc (length ds) else k) ≡ option_or (numbered ds k) (if b then Some d else None)
found_more ds d k true l none = last ds d ∙ ap (λ z. option_or z (Some d)) (sym (none refl))
found_more ds d zero false l none = refl
found_more ds d (suc k) false l none = before ds d k l ∙ sym (none_more (slice_get ds k))

-- places that are the same have the same number
column_and : (a b : ℕ) (c : Bool) → ((a == b) && c) ≡ true → a ≡ b
column_and a b c h = grind (arith, nat_tests, h)

line_and : (a b : ℕ) (c : Bool) → (c && (a == b)) ≡ true → a ≡ b
line_and a b true h = grind (arith, nat_tests, h)
line_and a b false h = cc

pub same_number : (lines : List (Vec ℕ Global)) (a b : Spot) → same_spot a b ≡ true → number_at_place lines b ≡ number_at_place lines a
same_number lines a b h =
    ap (λ n. number_in_column (line_items (slice_get lines n)) b.column) (sym (line_and a.line b.line (a.column == b.column) h))
    ∙ ap (λ n. number_in_column (line_items (slice_get lines a.line)) n) (sym (column_and a.column b.column (a.line == b.line) h))

pub placed_more : (ds all : List Declared) (d : Declared) (now next : List (Vec ℕ Global)) (spot q : Spot) (number : ℕ) → all ≡ ds ++ d ∷ [] → number ≡ length ds + 1 →
    number_at_place now q ≤ length ds → numbered ds (number_at_place now spot) ≡ None →
    number_at_place next q ≡ (if same_spot spot q then number else number_at_place now q) →
    numbered all (number_at_place next q) ≡ option_or (numbered ds (number_at_place now q)) (if same_spot spot q then Some d else None)
placed_more ds all d now next spot q number more is l none put =
    let next_one : number ≡ suc (length ds) = is ∙ add-one (length ds) in
    ap (λ z. numbered z (number_at_place next q)) more
    ∙ ap (numbered (ds ++ d ∷ [])) (put ∙ ap (λ z. if same_spot spot q then z else number_at_place now q) next_one)
    ∙ found_more ds d (number_at_place now q) (same_spot spot q) l (λ h. ap (numbered ds) (same_number now spot q h) ∙ none)

within : (ds : List Declared) (d : Declared) (k number : ℕ) (b : Bool) → number ≡ length ds + 1 → k ≤ length ds → (if b then number else k) ≤ length (ds ++ d ∷ [])
within ds d k number true is l = omega (arith, is, length-append ds (d ∷ []))
within ds d k number false is l = omega (arith, l, length-append ds (d ∷ []))

pub numbers_within : (ds all : List Declared) (d : Declared) (now next : List (Vec ℕ Global)) (spot q : Spot) (number : ℕ) → all ≡ ds ++ d ∷ [] →
    number ≡ length ds + 1 → number_at_place now q ≤ length ds →
    number_at_place next q ≡ (if same_spot spot q then number else number_at_place now q) → number_at_place next q ≤ length all
numbers_within ds all d now next spot q number more is l put = rw (more, put) (within ds d (number_at_place now q) number (same_spot spot q) is l)

-- where one stands there already
none_there : (d : Declared) → false ≡ true → None ≡ Some d
none_there d h = cc

there_already : (x : Option Declared) (d : Declared) (b : Bool) → (b ≡ true → is_some x ≡ true) → x ≡ option_or x (if b then Some d else None)
there_already None d true h = none_there d (h refl)
there_already None d false h = refl
there_already (Some e) d b h = refl

pub placed_already : (ds : List Declared) (d : Declared) (lines : List (Vec ℕ Global)) (spot q : Spot) → is_some (numbered ds (number_at_place lines spot)) ≡ true →
    numbered ds (number_at_place lines q) ≡ option_or (numbered ds (number_at_place lines q)) (if same_spot spot q then Some d else None)
placed_already ds d lines spot q some =
    there_already (numbered ds (number_at_place lines q)) d (same_spot spot q) (λ h. ap (λ n. is_some (numbered ds n)) (same_number lines spot q h) ∙ some)
