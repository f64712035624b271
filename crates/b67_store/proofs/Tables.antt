-- What opening and closing rows does to what is kept beside them.
use Rattle.std.proofs.Common.{◌≡◌, ◌≢◌, ℕ, zero, suc, ◌+◌, ◌<◌, ◌≤◌, cond, pos, Bool, true, false, if◌then◌else◌, List, [], ◌∷◌, ◌++◌, length, get_or, set, Option, Some, None, refl, ap, sym, ◌∙◌, arith, rules}
use Rattle.std.specs.Prelude.{nat_lt}
use Rattle.std.specs.List.{sum_by, count_by}
use Rattle.std.specs.List.Sorted.{IsPermutation}
use Rattle.std.proofs.lemmas.List.{length-set, length_push, length-replicate}
use Rattle.std.proofs.lemmas.List.Sorted.{sum_by_pushed, sum_by_popped}
use Rattle.std.proofs.lemmas.List.Sums.{sum_by-cons, sum_by_push, sum_by-set}
use Rattle.std.proofs.lemmas.Bool.Decides.{nat_tests}
use Rattle.b67_word.specs.Word.{Word, operand}
use Rattle.b67_store.proofs.Lists.{at_read, left_there, opened_within, opened_next}
use Rattle.b67_store.specs.Numbers.{Numbers}
use Rattle.b67_store.specs.Store.{at_number, opened_at, least_free, row_with, Row, Rows, live_words, counted_words, count_limit, row_limit, exceeds, zero_row}
use Rattle.b67_store.specs.Table.{weight_of_free, IsTable}

-- ---- what stands at a number

pub at_within : {X : Type 0} (xs : List (Option X)) (n : ℕ) (x : X) → at_number xs n ≡ Some x → n < length xs
at_within [] n x h = absurd (search rules)
at_within (y ∷ ys) zero x h = omega arith
at_within (y ∷ ys) (suc n) x h = omega (arith, at_within ys n x h)

pub get_at : {X : Type 0} (xs : List (Option X)) (n : ℕ) → get_or xs n None ≡ at_number xs n
get_at [] zero = refl
get_at [] (suc n) = refl
get_at (y ∷ ys) zero = refl
get_at (y ∷ ys) (suc n) = get_at ys n

least_is_free : {X : Type 0} (xs : List (Option X)) → least_free xs < length xs → at_number xs (least_free xs) ≡ None
least_is_free [] h = refl
least_is_free (None ∷ xs) h = refl
least_is_free (Some x ∷ xs) h = least_is_free xs (omega arith)

-- ---- weights

ones : (xs : List ℕ) → sum_by (λ k. 1) xs ≡ length xs
ones [] = refl
ones (x ∷ xs) = sum_by-cons (λ k. 1) x xs ∙ omega (arith, ones xs)

weight_closed : {X : Type 0} (f : ℕ → ℕ) (k n m : ℕ) (xs : List (Option X)) (x : X) → m ≡ k + n → at_number xs n ≡ Some x → weight_of_free f k (set xs n None) ≡ f m + weight_of_free f k xs
weight_closed f k n m [] x e h = absurd (search rules)
weight_closed f k zero m (None ∷ xs) x e h = absurd (search rules)
weight_closed f k zero m (Some y ∷ xs) x e h = let a : m ≡ k = omega arith in rw a refl
weight_closed f k (suc n) m (None ∷ xs) x e h = omega (arith, weight_closed f (suc k) n m xs x (omega arith) h)
weight_closed f k (suc n) m (Some y ∷ xs) x e h = weight_closed f (suc k) n m xs x (omega arith) h

weight_opened : {X : Type 0} (f : ℕ → ℕ) (k n m : ℕ) (xs : List (Option X)) (x : X) → m ≡ k + n → n < length xs → at_number xs n ≡ None → f m + weight_of_free f k (set xs n (Some x)) ≡ weight_of_free f k xs
weight_opened f k n m [] x e p h = absurd (omega arith)
weight_opened f k zero m (None ∷ xs) x e p h = let a : m ≡ k = omega arith in rw a refl
weight_opened f k zero m (Some y ∷ xs) x e p h = absurd (search rules)
weight_opened f k (suc n) m (None ∷ xs) x e p h = omega (arith, weight_opened f (suc k) n m xs x (omega arith) (omega arith) h)
weight_opened f k (suc n) m (Some y ∷ xs) x e p h = weight_opened f (suc k) n m xs x (omega arith) (omega arith) h

weight_stays : {X : Type 0} (f : ℕ → ℕ) (k n : ℕ) (xs : List (Option X)) (x y : X) → at_number xs n ≡ Some y → weight_of_free f k (set xs n (Some x)) ≡ weight_of_free f k xs
weight_stays f k n [] x y h = absurd (search rules)
weight_stays f k zero (None ∷ xs) x y h = absurd (search rules)
weight_stays f k zero (Some z ∷ xs) x y h = refl
weight_stays f k (suc n) (None ∷ xs) x y h = ap (λ w. f k + w) (weight_stays f (suc k) n xs x y h)
weight_stays f k (suc n) (Some z ∷ xs) x y h = weight_stays f (suc k) n xs x y h

weight_pushed : {X : Type 0} (f : ℕ → ℕ) (k : ℕ) (xs : List (Option X)) (x : X) → weight_of_free f k (xs ++ Some x ∷ []) ≡ weight_of_free f k xs
weight_pushed f k [] x = refl
weight_pushed f k (None ∷ xs) x = ap (λ w. f k + w) (weight_pushed f (suc k) xs x)
weight_pushed f k (Some y ∷ xs) x = weight_pushed f (suc k) xs x

ones_within : {X : Type 0} (k : ℕ) (xs : List (Option X)) → weight_of_free (λ j. 1) k xs ≤ length xs
ones_within k [] = omega arith
ones_within k (None ∷ xs) = omega (arith, ones_within (suc k) xs)
ones_within k (Some x ∷ xs) = omega (arith, ones_within (suc k) xs)

least_within : {X : Type 0} (k : ℕ) (xs : List (Option X)) → 0 < weight_of_free (λ j. 1) k xs → least_free xs < length xs
least_within k [] h = h
least_within k (None ∷ xs) h = omega arith
least_within k (Some x ∷ xs) h = omega (arith, least_within (suc k) xs h)

least_past : {X : Type 0} (k : ℕ) (xs : List (Option X)) → weight_of_free (λ j. 1) k xs ≡ 0 → least_free xs ≡ length xs
least_past k [] h = refl
least_past k (None ∷ xs) h = absurd (omega arith)
least_past k (Some x ∷ xs) h = ap suc (least_past (suc k) xs h)

weight_below : {X : Type 0} (f : ℕ → ℕ) (k : ℕ) (xs : List (Option X)) → ((j : ℕ) → k + least_free xs ≤ j → f j ≡ 0) → weight_of_free f k xs ≡ 0
weight_below f k [] h = refl
weight_below f k (None ∷ xs) h = omega (arith, h k (omega arith), weight_below f (suc k) xs (λ j p. h j (omega arith)))
weight_below f k (Some x ∷ xs) h = weight_below f (suc k) xs (λ j p. h j (omega arith))

-- 1 for the numbers below n
abbrev below : ℕ → ℕ → ℕ
below n j = cond (nat_lt j n) 1 0

below_zero : (j n : ℕ) → below n j ≡ 0 → n ≤ j
below_zero j n h = grind (arith, nat_tests)

zero_below : (j n : ℕ) → n ≤ j → below n j ≡ 0
zero_below j n h = grind (arith, nat_tests)

-- ---- the table

-- a number of which none at hand is below is the least that is not open
least_taken : {X : Type 0} (rows : List (Option X)) (numbers rest : List ℕ) (n : ℕ) (x : X) → ((weight : ℕ → ℕ) → sum_by weight numbers ≡ weight_of_free weight 0 rows) → IsPermutation numbers (n ∷ rest) → count_by (λ k. nat_lt k n) numbers ≡ 0 → (least_free rows < length rows) × (n ≡ least_free rows)
least_taken rows numbers rest n x same moved none =
    let some : least_free rows < length rows =
    least_within 0 rows (omega (arith, same (λ j. 1), sum_by_popped (λ j. 1) n numbers rest moved)) in
    let low : n ≤ least_free rows =
    below_zero (least_free rows) n (omega (arith, none, same (below n), weight_opened (below n) 0 (least_free rows) (least_free rows) rows x (omega arith) some (least_is_free rows some))) in
    let high : least_free rows ≤ n =
    below_zero n (least_free rows) (omega (arith, same (below (least_free rows)), weight_below (below (least_free rows)) 0 rows (λ j p. zero_below j (least_free rows) (omega arith)), sum_by_popped (below (least_free rows)) n numbers rest moved)) in
    (some, omega arith)

-- opening a row at the least number at hand
pub reused : (rows : Rows) (free after : Numbers) (counted n more : ℕ) (row : Row) → IsTable rows free counted → IsPermutation free.numbers (n ∷ after.numbers) → count_by (λ k. nat_lt k n) free.numbers ≡ 0 → after.room ≡ free.room → more ≡ live_words (Some row) → counted + more ≤ count_limit → (n < length rows) × (n ≡ least_free rows) × IsTable (set rows n (Some row)) after (counted + more)
reused rows free after counted n more row t moved none room live few =
    let l = least_taken rows free.numbers after.numbers n row t.free_numbers moved none in
    let within : n < length rows = omega (arith, l.0, l.1) in
    let here : at_number rows n ≡ None = rw l.1 (least_is_free rows l.0) in
    let size = length-set rows n (Some row) in
    let words = sum_by-set live_words rows n (Some row) None within in
    let gone : live_words (get_or rows n None) ≡ 0 = ap live_words (get_at rows n ∙ here) in (
      within,
      l.1,
      record {
        counted_is = omega (arith, words, gone, live, t.counted_is);
        few_words = few;
        few_rows = omega (arith, size, t.few_rows);
        room = omega (arith, size, room, t.room);
        free_numbers = λ w. omega (arith, sum_by_popped w n free.numbers after.numbers moved, t.free_numbers w, weight_opened w 0 n n rows row (omega arith) within here);
      },
    )

-- opening a row at the end, where no number is at hand
pub appended : (rows : Rows) (free after : Numbers) (counted more : ℕ) (row : Row) → IsTable rows free counted → free.numbers ≡ [] → after.numbers ≡ [] → length rows + 1 ≤ after.room → length rows < row_limit → more ≡ live_words (Some row) → counted + more ≤ count_limit → (least_free rows ≡ length rows) × IsTable (rows ++ Some row ∷ []) after (counted + more)
appended rows free after counted more row t empty still room short live few =
    let size = length_push rows (Some row) in
    let none : (w : ℕ → ℕ) → weight_of_free w 0 rows ≡ 0 = λ w. sym (t.free_numbers w) ∙ ap (λ ns. sum_by w ns) empty in (
      least_past 0 rows (none (λ j. 1)),
      record {
        counted_is = omega (arith, sum_by_push live_words rows (Some row), live, t.counted_is);
        few_words = few;
        few_rows = omega (arith, size);
        room = omega (arith, size, room);
        free_numbers = λ w. ap (λ ns. sum_by w ns) still ∙ sym (none w) ∙ sym (weight_pushed w 0 rows row);
      },
    )

-- a row that is open has a number for which there is room
pub has_room : (rows : Rows) (free : Numbers) (counted n : ℕ) (row : Row) → IsTable rows free counted → at_number rows n ≡ Some row → length free.numbers < free.room
has_room rows free counted n row t here =
    omega (arith, t.room, ones free.numbers, t.free_numbers (λ j. 1), weight_closed (λ j. 1) 0 n n rows row (omega arith) here, ones_within 0 (set rows n None), length-set rows n None)

-- closing a row
pub freed : (rows : Rows) (free after : Numbers) (counted n less : ℕ) (row : Row) → IsTable rows free counted → at_number rows n ≡ Some row → IsPermutation (n ∷ free.numbers) after.numbers → free.room ≤ after.room → less + live_words (Some row) ≡ counted → IsTable (set rows n None) after less
freed rows free after counted n less row t here moved room live =
    let size = length-set rows n None in
    let within = at_within rows n row here in
    let words = sum_by-set live_words rows n None None within in
    let gone : live_words (get_or rows n None) ≡ live_words (Some row) = ap live_words (get_at rows n ∙ here) in
    record {
      counted_is = omega (arith, words, gone, live, t.counted_is);
      few_words = omega (arith, live, t.few_words);
      few_rows = omega (arith, size, t.few_rows);
      room = omega (arith, size, room, t.room);
      free_numbers = λ w. omega (arith, sum_by_pushed w n free.numbers after.numbers moved, t.free_numbers w, weight_closed w 0 n n rows row (omega arith) here);
    }

-- the words of an open row count among all
pub live_within : (rows : Rows) (free : Numbers) (counted n : ℕ) (row : Row) → IsTable rows free counted → at_number rows n ≡ Some row → live_words (Some row) ≤ counted
live_within rows free counted n row t here =
    let words = sum_by-set live_words rows n None None (at_within rows n row here) in
    let gone : live_words (get_or rows n None) ≡ live_words (Some row) = ap live_words (get_at rows n ∙ here) in
    omega (arith, words, gone, t.counted_is)

pub same_live : (counted : Bool) (words : List Word) (at : ℕ) (word : Word) → (if counted then length (set words at word) else 0) ≡ (if counted then length words else 0)
same_live true words at word = length-set words at word
same_live false words at word = refl

-- writing a word of a row
pub rewritten : (rows : Rows) (free : Numbers) (counted n : ℕ) (row new : Row) → IsTable rows free counted → at_number rows n ≡ Some row → live_words (Some new) ≡ live_words (Some row) → IsTable (set rows n (Some new)) free counted
rewritten rows free counted n row new t here live =
    let size = length-set rows n (Some new) in
    let words = sum_by-set live_words rows n (Some new) None (at_within rows n row here) in
    let there : live_words (get_or rows n None) ≡ live_words (Some row) = ap live_words (get_at rows n ∙ here) in
    record {
      counted_is = omega (arith, words, there, live, t.counted_is);
      few_words = t.few_words;
      few_rows = omega (arith, size, t.few_rows);
      room = omega (arith, size, t.room);
      free_numbers = λ w. t.free_numbers w ∙ sym (weight_stays w 0 n rows new row here);
    }

-- a call that may write a word of what is at a number, which the table reaches
pub written : (rows : Rows) (free : Numbers) (counted n at : ℕ) (word : Word) (x y : Option Row) (b : Bool) → IsTable rows free counted → n < length rows → x ≡ get_or rows n x → y ≡ (if b then row_with x at word else x) → IsTable (set rows n y) free counted
written rows free counted n at word x y false t p q e =
    let a : set rows n y ≡ rows = ap (λ z. set rows n z) e ∙ left_there rows n x q in
    rw a t
written rows free counted n at word None y true t p q e =
    let a : set rows n y ≡ rows = ap (λ z. set rows n z) e ∙ left_there rows n None q in
    rw a t
written rows free counted n at word (Some row) y true t p q e =
    rw e (rewritten rows free counted n row (record row { words = set row.words at word }) t (at_read rows n (Some row) p q) (same_live row.counted row.words at word))

pub empty_table : (free : Numbers) → free.numbers ≡ [] → IsTable [] free 0
empty_table free e = record { counted_is = refl; few_words = omega arith; few_rows = omega arith; room = omega arith; free_numbers = λ w. ap (λ ns. sum_by w ns) e }

-- where the numbers at hand stay
pub same_table : (rows : Rows) (free after : Numbers) (counted : ℕ) → IsTable rows free counted → after.numbers ≡ free.numbers → free.room ≤ after.room → IsTable rows after counted
same_table rows free after counted t e p =
    record { counted_is = t.counted_is; few_words = t.few_words; few_rows = t.few_rows; room = omega (arith, t.room, p); free_numbers = λ w. ap (λ ns. sum_by w ns) e ∙ t.free_numbers w }

-- a request that does not exceed the limit
pub fits : (rows : Rows) (count : ℕ) (counted : Bool) → exceeds rows count counted ≡ false → counted_words rows ≤ count_limit → counted_words rows + live_words (Some (zero_row count counted)) ≤ count_limit
fits rows count true h p =
    let e : length (zero_row count true).words ≡ count = length-replicate count (operand (pos 0)) in
    grind (arith, nat_tests)
fits rows count false h p = omega arith

pub ruleset requests = fits

pub ruleset placing = (same_table, opened_within, opened_next)

-- placing a row at a number at hand, by what the table is seen as
pub placed_again : (rows seen : Rows) (free after : Numbers) (counted n more : ℕ) (row : Row) → rows ≡ seen → IsTable rows free counted → IsPermutation free.numbers (n ∷ after.numbers) → count_by (λ k. nat_lt k n) free.numbers ≡ 0 → after.room ≡ free.room → more ≡ live_words (Some row) → counted_words seen + live_words (Some row) ≤ count_limit → (n < length rows) × (n ≡ least_free seen) × (n < row_limit) × (set rows n (Some row) ≡ opened_at seen n row) × IsTable (set rows n (Some row)) after (counted + more)
placed_again rows seen free after counted n more row same t moved none room live few =
    let f : counted + more ≤ count_limit = omega (arith, ap counted_words same, live, t.counted_is, few) in
    let r = reused rows free after counted n more row t moved none room live f in
    (r.0, r.1 ∙ ap least_free same, omega (arith, r.0, t.few_rows), sym (opened_within rows n row r.0) ∙ ap (λ xs. opened_at xs n row) same, r.2)

-- and at the end
pub placed_last : (rows seen : Rows) (free after : Numbers) (counted n more : ℕ) (row : Row) → rows ≡ seen → IsTable rows free counted → free.numbers ≡ [] → after.numbers ≡ [] → n ≡ length rows → n + 1 ≤ after.room → n ≢ row_limit → more ≡ live_words (Some row) → counted_words seen + live_words (Some row) ≤ count_limit → (n ≡ least_free seen) × (n < row_limit) × IsTable (rows ++ Some row ∷ []) after (counted + more)
placed_last rows seen free after counted n more row same t empty still size room other live few =
    let f : counted + more ≤ count_limit = omega (arith, ap counted_words same, live, t.counted_is, few) in
    let short : n < row_limit = omega (arith, size, t.few_rows, other) in
    let r = appended rows free after counted more row t empty still (omega (arith, size, room)) (omega (arith, size, short)) live f in
    (size ∙ sym r.0 ∙ ap least_free same, short, r.1)
