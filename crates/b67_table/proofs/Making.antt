-- ARRAYS keeps an image valid.
use Rattle.std.proofs.Common.{◌≡◌, refl, sym, ap, subst, ◌∙◌, ℕ, zero, suc, ◌+◌, ◌*◌, ◌<◌, ◌≤◌, ◌^◌, Bool, true, false, ℤ, pos, negsuc, ◌-ℤ◌, List, [], ◌∷◌, ◌++◌, length, All, replicate, Option, Some, None, arith}
use Rattle.std.specs.Prelude.{nat_le}
use Rattle.std.proofs.lemmas.Bool.{leb-true}
use Rattle.std.proofs.lemmas.List.{length-set, length-replicate}
use Rattle.std.proofs.lemmas.List.Elements.{All-nil, All-cons, All-append}
use Rattle.std.proofs.Math.Decide.{ℕ_discrete}
use Rattle.b67_list.specs.Numbered.{numbered}
use Rattle.b67_word.specs.Word.{Word, IsWord, operand}
use Rattle.b67_control.specs.declared.Registers.{Registers}
use Rattle.b67_control.specs.declared.Mscw.{Mscw}
use Rattle.b67_control.specs.Control.{as_descriptor, Fits_descriptor}
use Rattle.b67_control.proofs.ControlLaws.{IsWord_descriptor_word, as_descriptor_descriptor_word}
use Rattle.b67_segment.specs.declared.code.Code.{Code}
use Rattle.b67_store.specs.Store.{Row, Rows, row_at, row_with, row_words, row_words_or, opened_at, least_free, with_row_word, zero_row, live_words, counted_words, count_limit, row_limit}
use Rattle.b67_store.proofs.StoreLaws.{opened_here, opened_others, free_here, counts}
use Rattle.b67_table.specs.Private.{floor}
use Rattle.b67_table.specs.Image.{Image, with_rows, is_live}
use Rattle.b67_table.specs.Questions.{told}
use Rattle.b67_table.specs.Writes.{Write, write_made}
use Rattle.b67_table.specs.Writes as writes
use Rattle.b67_table.specs.Program.{asked, Change, done, look_up, write, changed, open_row, write_row}
use Rattle.b67_table.specs.Look.{◌>->◌, look_seen}
use Rattle.b67_table.specs.Arrays.{extent_in, extent, Extents, one, two, elements, if_small, if_held, array_word, rows_made, array_made, arrays_made}
use Rattle.b67_table.specs.Arguments.{wholes, finished_at}
use Rattle.b67_table.specs.Intrinsics.{Wanted, intrinsic_wanted, extents, arrays}
use Rattle.b67_table.specs.Valid.{IsValid, is_no_mother}
use Rattle.b67_table.proofs.Keeping.{Gives}
use Rattle.b67_table.proofs.Finding.{see_then, test_then, gives_by, anything_found}
use Rattle.b67_table.proofs.Simple.{Ends, finished_ends}
use Rattle.b67_table.proofs.Saving.{rows_valid, write_valid, operand_is_no_mother}
use Rattle.b67_table.proofs.Wordly.{literal_is_word}
use Rattle.b67_table.proofs.Closing.{Same, same_self}
use Rattle.b67_table.proofs.Calls.{chained_kept}

-- ---- rows never become fewer

opened_more : (rows : Rows) (n : ℕ) (row : Row) → (length rows ≤ length (opened_at rows n row)) × (n < length (opened_at rows n row))
opened_more [] zero row = (omega arith, omega arith)
opened_more [] (suc n) row = let k = opened_more [] n row in (omega arith, omega (arith, k.1))
opened_more (x ∷ xs) zero row = (omega arith, omega arith)
opened_more (x ∷ xs) (suc n) row = let k = opened_more xs n row in (omega (arith, k.0), omega (arith, k.1))

written_more : (p : ℕ) (w : Write) (img : Image) → length img.rows ≤ length (write_made p w img).rows
written_more p (writes.save x w) img = omega arith
written_more p (writes.cut stack n) img = omega arith
written_more p (writes.push stack w) img = omega arith
written_more p (writes.registers r) img = omega arith
written_more p (writes.open_row n count counted) img = (opened_more img.rows n (zero_row count counted)).0
written_more p (writes.write_row n at w) img = omega (arith, length-set img.rows n (row_with (row_at img.rows n) at w))
written_more p (writes.close_row n) img = omega (arith, length-set img.rows n None)
written_more p (writes.open_event x) img = omega arith
written_more p (writes.close_events stack at) img = omega arith
written_more p (writes.event_deed d x) img = omega arith
written_more p (writes.wait_any places) img = omega arith
written_more p writes.go_on img = omega arith
written_more p (writes.line bytes) img = omega arith
written_more p (writes.start r words) img = omega arith
written_more p (writes.end_process stack) img = omega arith

changed_more : (p : ℕ) (c : Change) (img : Image) → length img.rows ≤ length (changed p c img).rows
changed_more p done img = omega arith
changed_more p (look_up q more) img = changed_more p (more (told img q)) img
changed_more p (write w next) img = omega (arith, written_more p w img, changed_more p next (write_made p w img))

-- ---- a row is opened

zero_words : (count : ℕ) (counted : Bool) → All IsWord (zero_row count counted).words
zero_words zero counted = All-nil IsWord
zero_words (suc k) counted = All-cons IsWord (operand (pos 0)) (replicate k (operand (pos 0))) (literal_is_word 0 (omega arith)) (zero_words k counted)

zero_tag : (operand (pos 0)).tag ≡ 0
unfolding operand
zero_tag = refl

zero_shallow : (count : ℕ) (counted : Bool) → All (λ (w : Word). is_no_mother (as_descriptor w) ≡ true) (zero_row count counted).words
zero_shallow zero counted = All-nil (λ (w : Word). is_no_mother (as_descriptor w) ≡ true)
zero_shallow (suc k) counted =
    All-cons (λ (w : Word). is_no_mother (as_descriptor w) ≡ true) (operand (pos 0)) (replicate k (operand (pos 0)))
    (operand_is_no_mother (operand (pos 0)) zero_tag) (zero_shallow k counted)

abbrev weight : Bool → ℕ → ℕ
weight true count = count
weight false count = 0

live_zero : (count : ℕ) (counted : Bool) → live_words (Some (zero_row count counted)) ≡ weight counted count
live_zero count true = length-replicate count (operand (pos 0))
live_zero count false = refl

module _ (code : Code) (i : Image) (v : IsValid code i) (count : ℕ) (counted : Bool) where
  n : ℕ
  n = least_free i.rows

  counted_more : counted_words (opened_at i.rows (least_free i.rows) (zero_row count counted)) ≡ counted_words i.rows + weight counted count
  counted_more =
      counts.opened i.rows (least_free i.rows) (zero_row count counted) (free_here i.rows) ∙ ap (λ (k : ℕ). counted_words i.rows + k) (live_zero count counted)

  each_by : (Q : List Word → Type 0) (k : ℕ) → Q (zero_row count counted).words → ((m : ℕ) → Q (row_words i.rows m)) → Dec (k ≡ least_free i.rows)
      → Q (row_words (opened_at i.rows (least_free i.rows) (zero_row count counted)) k)
  each_by Q k a b (yes e) =
      subst (λ (m : ℕ). Q (row_words (opened_at i.rows (least_free i.rows) (zero_row count counted)) m)) (sym e)
      (subst (λ (o : Option Row). Q (row_words_or o)) (sym (opened_here i.rows (least_free i.rows) (zero_row count counted))) a)
  each_by Q k a b (no h) =
      subst (λ (o : Option Row). Q (row_words_or o)) (sym (opened_others i.rows (least_free i.rows) k (zero_row count counted) h)) (b k)

  open_valid : count ≤ count_limit → counted_words i.rows + weight counted count ≤ count_limit
      → length (opened_at i.rows (least_free i.rows) (zero_row count counted)) ≤ row_limit
      → IsValid code (with_rows i (opened_at i.rows (least_free i.rows) (zero_row count counted)))
  open_valid most room few =
      rows_valid code i v (opened_at i.rows (least_free i.rows) (zero_row count counted)) (record {
        few = few;
        room = omega (arith, counted_more, room);
        short = λ k. each_by (λ (ws : List Word). length ws ≤ count_limit) k (omega (arith, length-replicate count (operand (pos 0)), most)) v.rows.short
            (ℕ_discrete k (least_free i.rows));
        words = λ k. each_by (All IsWord) k (zero_words count counted) v.rows.words (ℕ_discrete k (least_free i.rows));
        shallow = λ k. each_by (All (λ (w : Word). is_no_mother (as_descriptor w) ≡ true)) k (zero_shallow count counted) v.rows.shallow (ℕ_discrete k (least_free i.rows));
      })

-- ---- descriptors of arrays

array_fits : (mother : Bool) (n address : ℕ) → n < 2 ^ 22 → address < row_limit
    → Fits_descriptor (record { presence = true; copy = false; indexed = false; mother = mother; length = n; address = address })
array_fits mother n address h a = (h, (omega (arith, a), tt))

array_is_word : (mother : Bool) (n address : ℕ) → n < 2 ^ 22 → address < row_limit → IsWord (array_word mother n address)
array_is_word mother n address h a = IsWord_descriptor_word _ (array_fits mother n address h a)

array_is_shallow : (n address : ℕ) → n < 2 ^ 22 → address < row_limit → is_no_mother (as_descriptor (array_word false n address)) ≡ true
array_is_shallow n address h a = ap is_no_mother (as_descriptor_descriptor_word _ (array_fits false n address h a))

-- ---- arrays are made

module _ (code : Code) (img : Image) (p : ℕ) where
  -- with so many words still to be counted, the change keeps each such image valid
  Goes : ℕ → Change → Type 0
  Goes left next = (i : Image) → IsValid code i → Same img i → counted_words i.rows + left ≤ count_limit → Ends code i p next

  open_goes : (count left : ℕ) (counted : Bool) (next : ℕ → Change) → count ≤ count_limit → ((address : ℕ) → address < row_limit → Goes left (next address))
      → Goes (weight counted count + left) (open_row count counted next)
  unfolding Goes Ends
  open_goes count left counted next most k i v s room small few =
      let j : Image = with_rows i (opened_at i.rows (least_free i.rows) (zero_row count counted)) in
      let more = changed_more p (next (least_free i.rows)) (with_rows i (opened_at i.rows (least_free i.rows) (zero_row count counted))) in
      let there = (opened_more i.rows (least_free i.rows) (zero_row count counted)).1 in
      k (least_free i.rows) (omega (arith, there, more, few)) (with_rows i (opened_at i.rows (least_free i.rows) (zero_row count counted)))
      (open_valid code i v count counted most (omega (arith, room)) (omega (arith, more, few))) (record { stacks = s.stacks; regs = s.regs; states = s.states })
      (omega (arith, room, counted_more code i v count counted)) small few

  write_goes : (left n at : ℕ) (w : Word) (next : Change) → IsWord w → is_no_mother (as_descriptor w) ≡ true → Goes left next → Goes left (write_row n at w next)
  unfolding Goes Ends
  write_goes left n at w next is shallow k i v s room =
      k (with_rows i (with_row_word i.rows n at w)) (write_valid code i v n at w is shallow) (record { stacks = s.stacks; regs = s.regs; states = s.states })
      (omega (arith, room, counts.written i.rows n at w))

  fewer : (a b : ℕ) (next : Change) → b ≤ a → Goes b next → Goes a next
  unfolding Goes
  fewer a b next h k i v s room = k i v s (omega (arith, room, h))

  rows_go : (k mother at n left : ℕ) (next : Change) → n ≤ count_limit → Goes left next → Goes (k * n + left) (rows_made k mother at n next)
  rows_go zero mother at n left next h g = fewer (0 * n + left) left next (omega arith) g
  rows_go (suc k) mother at n left next h g =
      fewer (suc k * n + left) (n + (k * n + left)) _ (products k n left)
      (open_goes n (k * n + left) true _ h (λ address a.
      write_goes (k * n + left) mother at (array_word false n address) (rows_made k mother (at + 1) n next) (array_is_word false n address (omega (arith, h)) a)
      (array_is_shallow n address (omega (arith, h)) a) (rows_go k mother (at + 1) n left next h g)))
    where
      products : (a b c : ℕ) → b + (a * b + c) ≤ suc a * b + c
      products a b c = omega (arith, products_are a b)
        where
          products_are : (x y : ℕ) → suc x * y ≡ x * y + y
          products_are x y = grind (arith)

  -- how an array of these extents is described: its row has no more words than can count, and so have those of a mother
  unfoldable pub Described : Extents → Type 0
  Described (one n) = n ≤ count_limit
  Described (two m n) = (m ≤ count_limit) × (n ≤ count_limit)

  array_goes : (e : Extents) (left : ℕ) (next : Word → Change) → Described e → ((w : Word) → IsWord w → Goes left (next w)) → Goes (elements e + left) (array_made e next)
  unfolding Described
  array_goes (one n) left next d k = open_goes n left true _ d (λ address a. k (array_word false n address) (array_is_word false n address (omega (arith, d)) a))
  array_goes (two m n) left next d k =
      fewer (m * n + left) (0 + (m * n + left)) _ (omega arith)
      (open_goes m (m * n + left) false _ d.0 (λ address a.
      rows_go m address 0 n left (next (array_word true m address)) d.1 (k (array_word true m address) (array_is_word true m address (omega (arith, d.0)) a))))

  arrays_go : (k : ℕ) (e : Extents) (made : List Word) (next : List Word → Change) → Described e → All IsWord made
      → ((ws : List Word) → All IsWord ws → Goes 0 (next ws)) → Goes (k * elements e) (arrays_made k e made next)
  arrays_go zero e made next d a g = fewer (0 * elements e) 0 (next made) (omega arith) (g made a)
  arrays_go (suc k) e made next d a g =
      fewer (suc k * elements e) (elements e + k * elements e) _ (products k (elements e))
      (array_goes e (k * elements e) (λ (w : Word). arrays_made k e (made ++ w ∷ []) next) d (λ w i.
      arrays_go k e (made ++ w ∷ []) next d (All-append IsWord made (w ∷ []) a (All-cons IsWord w [] i (All-nil IsWord))) g))
    where
      products : (x y : ℕ) → y + x * y ≤ suc x * y
      products x y = grind (arith)

-- ---- extents

Positive : ℕ → Type 0
Positive n = 1 ≤ n

extent_given : (img : Image) (z : ℤ) → Gives Positive (asked img (extent_in z))
unfolding Positive
extent_given img (pos n) = omega arith
extent_given img (negsuc n) = tt

-- an array of one dimension or two that is not too large
abbrev Two : Extents → Type 0
Two (one n) = 1 ≤ n
Two (two m n) = (1 ≤ m) × (1 ≤ n)

record IsSmall (e : Extents) : Type 0 where
  few : elements e ≤ count_limit
  has : Two e

small_given : (img : Image) (e : Extents) → Two e → Gives IsSmall (asked img (if_small e))
small_given img e t =
    gives_by img IsSmall (nat_le (elements e) count_limit) _ _ (λ b. record { few = leb-true (elements e) count_limit b; has = t }) (λ b. tt)

extents_given : (img : Image) (zs : List ℤ) → Gives IsSmall (asked img (extents zs))
unfolding Positive
extents_given img [] = tt
extents_given img (a ∷ []) = tt
extents_given img (a ∷ b ∷ []) =
    test_then img Positive IsSmall (extent a b) _ (extent_given img (b -ℤ a)) (λ n h. small_given img (one n) h)
extents_given img (a ∷ b ∷ c ∷ []) = tt
extents_given img (a ∷ b ∷ c ∷ d ∷ []) =
    test_then img Positive IsSmall (extent a b) _ (extent_given img (b -ℤ a)) (λ m h.
    test_then img Positive IsSmall (extent c d) _ (extent_given img (d -ℤ c)) (λ n i. small_given img (two m n) (h, i)))
extents_given img (a ∷ b ∷ c ∷ d ∷ e ∷ zs) = tt

at_most_product : (m n most : ℕ) → 1 ≤ m → 1 ≤ n → m * n ≤ most → (m ≤ most) × (n ≤ most)
at_most_product m n most h i k = (grind (arith), grind (arith))

described : (code : Code) (img : Image) (p : ℕ) (e : Extents) → IsSmall e → Described code img p e
unfolding Described
described code img p (one n) k = omega (arith, k.few)
described code img p (two m n) k =
    at_most_product m n count_limit k.has.0 k.has.1 k.few

module _ (code : Code) (img : Image) (p : ℕ) (r : Registers) (v : IsValid code img) (live : is_live (numbered img.states p) ≡ true)
    (has : numbered img.regs p ≡ Some r) (next : ℕ) (small : next < 2 ^ 16) (m : Mscw) (low : floor r ≤ r.f) (high : r.f + 1 < r.s) where
  finish_goes : (ws : List Word) → All IsWord ws → Goes code img p 0 (finished_at r m ws next)
  unfolding Goes
  finish_goes ws a i vi s room =
      finished_ends code i p r vi (ap (λ (xs : List _). is_live (numbered xs p)) s.states ∙ live) (ap (λ (rs : List Registers). numbered rs p) s.regs ∙ has) m ws next low
      (omega (arith, high)) a small

  record Held (k : ℕ) (e : Extents) : Type 0 where
    small_is : IsSmall e
    room : counted_words img.rows + k * elements e ≤ count_limit

  held_given : (k : ℕ) (e : Extents) → IsSmall e → Gives (Held k) (asked img (if_held k e))
  held_given k e s =
      gives_by img (Held k) (nat_le (counted_words img.rows + k * elements e) count_limit) _ _
      (λ b. record { small_is = s; room = leb-true (counted_words img.rows + k * elements e) count_limit b }) (λ b. tt)

  pub arrays_kept : (words : List Word) → Gives (Ends code img p) (asked img (arrays code r next m words))
  unfolding Goes
  arrays_kept words =
      see_then img (λ (w : Wanted). Unit {0}) (Ends code img p) (wholes words >-> intrinsic_wanted) _ (anything_found (look_seen img.stacks (wholes words >-> intrinsic_wanted))) (λ w u.
      chained_kept code img p r v live has next small m low high _ (
      test_then img IsSmall (Ends code img p) (extents w.bounds) _ (extents_given img w.bounds) (λ e s.
      test_then img (Held w.count) (Ends code img p) (if_held w.count e) _ (held_given w.count e s) (λ x h.
      arrays_go code img p w.count x [] (λ (made : List Word). finished_at r m made next) (described code img p x h.small_is) (All-nil IsWord) finish_goes
      img v (same_self img) h.room))))
