-- A word stored over an operand, and what is done to rows, keep an image valid.
use Rattle.std.proofs.Common.{◌≡◌, ◌≢◌, refl, sym, ap, subst, ◌∙◌, ℕ, zero, suc, ◌+◌, ◌<◌, ◌≤◌, ◌&&◌, Bool, true, List, [], ◌∷◌, length, All, set, Option, Some, None, arith}
use Rattle.std.specs.Prelude.{is_some, slice_get, nat_le}
use Rattle.std.proofs.Math.Decide.{ℕ_discrete, dec_le}
use Rattle.std.proofs.Math.Nat.{lt_of_not-le}
use Rattle.std.proofs.lemmas.Bool.{leb-true}
use Rattle.std.proofs.lemmas.List.{length-set}
use Rattle.std.proofs.lemmas.List.Elements.{All-nil, All-set}
use Rattle.b67_word.specs.declared.Place.{Place}
use Rattle.b67_word.specs.Word.{Word, IsWord}
use Rattle.b67_control.specs.declared.Registers.{Registers}
use Rattle.b67_control.specs.declared.Mscw.{Mscw}
use Rattle.b67_control.specs.declared.Rcw.{Rcw}
use Rattle.b67_control.specs.declared.Descriptor.{Descriptor}
use Rattle.b67_control.specs.Control.{as_mscw, mscw_word, as_rcw, rcw_word, pcw_word, as_descriptor, descriptor_word}
use Rattle.b67_control.proofs.ControlLaws.{mscw_word_as_mscw, rcw_word_as_rcw, descriptor_word_as_descriptor}
use Rattle.b67_segment.specs.declared.code.Code.{Code}
use Rattle.b67_store.specs.Store.{Row, Rows, stack_at, words_of, words_or, word_at, with_word, row_at, row_words, row_words_or, row_with, with_row_word, closed_at, counted_words, count_limit}
use Rattle.b67_store.proofs.StoreLaws.{changed_others, counts}
use Rattle.b67_list.proofs.Lists.{get_set_other}
use Rattle.b67_table.specs.Look.{read_as}
use Rattle.b67_table.specs.Chains.{place}
use Rattle.b67_table.specs.Image.{Image, with_stacks, with_rows}
use Rattle.b67_table.specs.Beginning.{system_stack}
use Rattle.b67_table.specs.Valid.{IsFrame, IsProcess, IsValid, AreRows, is_no_mother}
use Rattle.b67_table.proofs.Stacks.{set_here}
use Rattle.b67_table.proofs.FirstValid.{both}
use Rattle.b67_table.proofs.Finding.{read_is}
use Rattle.b67_table.proofs.OwnValid.{process_stays}

-- ---- words that are no operands

mark_tag : (w : Word) (m : Mscw) → as_mscw w ≡ Some m → w.tag ≡ 3
unfolding mscw_word
mark_tag w m e = ap (λ (x : Word). x.tag) (mscw_word_as_mscw w e)

control_tag : (w : Word) (c : Rcw) → as_rcw w ≡ Some c → w.tag ≡ 3
unfolding rcw_word
control_tag w c e = ap (λ (x : Word). x.tag) (rcw_word_as_rcw w e)

descriptor_tag : (w : Word) (d : Descriptor) → as_descriptor w ≡ Some d → w.tag ≡ 5
unfolding descriptor_word
descriptor_tag w d e = ap (λ (x : Word). x.tag) (descriptor_word_as_descriptor w e)

-- an operand describes no mother
operand_by : (w : Word) (o : Option Descriptor) → as_descriptor w ≡ o → w.tag ≡ 0 → is_no_mother o ≡ true
operand_by w None e t = refl
operand_by w (Some d) e t = absurd (omega (arith, descriptor_tag w d e, t))

pub operand_is_no_mother : (w : Word) → w.tag ≡ 0 → is_no_mother (as_descriptor w) ≡ true
operand_is_no_mother w t = operand_by w (as_descriptor w) refl t

is_control : Word → Bool
is_control w = nat_le 1 w.tag

are_control : List Word → Bool
are_control [] = true
are_control (w ∷ ws) = is_control w && are_control ws

system_is_control : are_control system_stack ≡ true
unfolding are_control is_control mscw_word rcw_word pcw_word
system_is_control = refl

control_there : (ws : List Word) (n : ℕ) (w : Word) → are_control ws ≡ true → slice_get ws n ≡ Some w → w.tag ≡ 0 → ⊥
unfolding are_control is_control
control_there [] n w e i t = cc
control_there (x ∷ xs) zero w e i t =
    let same : x ≡ w = cc in
    let h = leb-true 1 x.tag (both (nat_le 1 x.tag) (are_control xs) e).0 in omega (arith, h, t, ap (λ (y : Word). y.tag) same)
control_there (x ∷ xs) (suc n) w e i t = control_there xs n w (both (nat_le 1 x.tag) (are_control xs) e).1 i t

-- ---- a word in place of an operand

open_by : (o : Option (List Word)) (n : ℕ) (w : Word) → slice_get (words_or o) n ≡ Some w → o ≡ Some (words_or o)
open_by None n w e = cc
open_by (Some words) n w e = refl

module _ (code : Code) (img : Image) (v : IsValid code img) (x : Place) (old new : Word) (there : word_at img.stacks x ≡ Some old) (tag : old.tag ≡ 0)
    (is : IsWord new) where
  opened : stack_at img.stacks x.stack ≡ Some (words_of img.stacks x.stack)
  opened = open_by (stack_at img.stacks x.stack) x.at old there

  here : words_of (with_word img.stacks x new) x.stack ≡ set (words_of img.stacks x.stack) x.at new
  here = ap words_or (set_here img.stacks x.stack (words_of img.stacks x.stack) (set (words_of img.stacks x.stack) x.at new) opened)

  elsewhere : (n : ℕ) → n ≢ x.stack → words_of (with_word img.stacks x new) n ≡ words_of img.stacks n
  elsewhere n h = ap words_or (changed_others img.stacks x.stack n (Some (set (words_of img.stacks x.stack) x.at new)) h)

  words_by : (n : ℕ) → Dec (n ≡ x.stack) → All IsWord (words_of (with_word img.stacks x new) n)
  words_by n (yes e) =
      subst (λ (m : ℕ). All IsWord (words_of (with_word img.stacks x new) m)) (sym e)
      (subst (All IsWord) (sym here) (All-set IsWord (words_of img.stacks x.stack) x.at new is (v.words x.stack)))
  words_by n (no h) = subst (All IsWord) (sym (elsewhere n h)) (v.words n)

  length_by : (n : ℕ) → Dec (n ≡ x.stack) → length (words_of (with_word img.stacks x new) n) ≡ length (words_of img.stacks n)
  length_by n (yes e) =
      subst (λ (m : ℕ). length (words_of (with_word img.stacks x new) m) ≡ length (words_of img.stacks m)) (sym e)
      (ap length here ∙ length-set (words_of img.stacks x.stack) x.at new)
  length_by n (no h) = ap length (elsewhere n h)

  stack_by : (n : ℕ) → Dec (n ≡ x.stack) → is_some (stack_at (with_word img.stacks x new) n) ≡ is_some (stack_at img.stacks n)
  stack_by n (yes e) =
      subst (λ (m : ℕ). is_some (stack_at (with_word img.stacks x new) m) ≡ is_some (stack_at img.stacks m)) (sym e)
      (ap is_some (set_here img.stacks x.stack (words_of img.stacks x.stack) (set (words_of img.stacks x.stack) x.at new) opened) ∙ sym (ap is_some opened))
  stack_by n (no h) = ap is_some (changed_others img.stacks x.stack n (Some (set (words_of img.stacks x.stack) x.at new)) h)

  -- a word that is no operand stays
  word_by : (stack at : ℕ) (w : Word) → slice_get (words_of img.stacks stack) at ≡ Some w → (w.tag ≡ 0 → ⊥) → Dec (stack ≡ x.stack) → Dec (at ≡ x.at)
      → slice_get (words_of (with_word img.stacks x new) stack) at ≡ Some w
  word_by stack at w e h (no i) d = ap (λ (ws : List Word). slice_get ws at) (elsewhere stack i) ∙ e
  word_by stack at w e h (yes i) (no j) =
      subst (λ (m : ℕ). slice_get (words_of (with_word img.stacks x new) m) at ≡ Some w) (sym i)
      (ap (λ (ws : List Word). slice_get ws at) here ∙ get_set_other (words_of img.stacks x.stack) x.at at new j
      ∙ subst (λ (m : ℕ). slice_get (words_of img.stacks m) at ≡ Some w) i e)
  word_by stack at w e h (yes i) (yes j) =
      let same : Some w ≡ Some old =
      sym (subst (λ (m : ℕ). slice_get (words_of img.stacks x.stack) m ≡ Some w) j (subst (λ (m : ℕ). slice_get (words_of img.stacks m) at ≡ Some w) i e)) ∙ there in
      let equal : w ≡ old = cc in
      absurd (h (ap (λ (y : Word). y.tag) equal ∙ tag))

  kept : {A : Type 0} (kind : Word → Option A) (stack at : ℕ) (a : A) → ((w : Word) → kind w ≡ Some a → w.tag ≡ 0 → ⊥)
      → read_as kind (slice_get (words_of img.stacks stack) at) ≡ Some a → read_as kind (slice_get (words_of (with_word img.stacks x new) stack) at) ≡ Some a
  kept kind stack at a h e =
      let k = read_is kind (slice_get (words_of img.stacks stack) at) a e in
      ap (read_as kind) (word_by stack at k.word k.there (h k.word k.is) (ℕ_discrete stack x.stack) (ℕ_discrete at x.at)) ∙ k.is

  frame_kept : (f : Place) → IsFrame img f → IsFrame (with_stacks img (with_word img.stacks x new)) f
  frame_kept f k = record {
    mark = k.mark;
    marked = kept as_mscw f.stack f.at k.mark (λ w e t. omega (arith, mark_tag w k.mark e, t)) k.marked;
    entered = k.entered;
    control = k.control;
    controlled = kept as_rcw f.stack (f.at + 1) k.control (λ w e t. omega (arith, control_tag w k.control e, t)) k.controlled;
  }

  not_system : x.stack ≢ 0
  not_system e =
      control_there system_stack x.at old system_is_control
      (sym (ap (λ (o : Option (List Word)). slice_get (words_or o) x.at) v.system) ∙ subst (λ (m : ℕ). slice_get (words_of img.stacks m) x.at ≡ Some old) e there) tag

  process_kept : (q : ℕ) (r : Registers) → IsProcess img q r → IsProcess (with_stacks img (with_word img.stacks x new)) q r
  process_kept q r k = record {
    stack = k.stack;
    size = k.size ∙ sym (length_by q (ℕ_discrete q x.stack));
    room = k.room;
    display = k.display;
    frame = k.frame;
    own = k.own;
    is_frame = frame_kept (place q k.frame) k.is_frame;
    above = k.above;
    mark = k.mark;
    cells = k.cells;
    segment = k.segment;
    pointer = k.pointer;
  }

  pub save_valid : IsValid code (with_stacks img (with_word img.stacks x new))
  save_valid = record {
    segments = v.segments;
    words = λ n. words_by n (ℕ_discrete n x.stack);
    registers = v.registers;
    states = v.states;
    numbers = v.numbers;
    positions = v.positions;
    some = v.some;
    most = v.most;
    system = changed_others img.stacks x.stack 0 (Some (set (words_of img.stacks x.stack) x.at new)) (λ e. not_system (sym e)) ∙ v.system;
    stacks = λ q one. stack_by q (ℕ_discrete q x.stack) ∙ v.stacks q one;
    processes = λ q r l i. process_kept q r (v.processes q r l i);
    earlier = v.earlier;
    rows = record { few = v.rows.few; room = v.rows.room; short = v.rows.short; words = v.rows.words; shallow = v.rows.shallow };
    events = v.events;
  }

-- ---- rows

module _ (code : Code) (img : Image) (v : IsValid code img) where
  -- an image with other rows
  pub rows_valid : (rows : Rows) → AreRows (with_rows img rows) → IsValid code (with_rows img rows)
  rows_valid rows a = record {
    segments = v.segments;
    words = v.words;
    registers = v.registers;
    states = v.states;
    numbers = v.numbers;
    positions = v.positions;
    some = v.some;
    most = v.most;
    system = v.system;
    stacks = v.stacks;
    processes = λ q r l i. process_stays img (with_rows img rows) q r refl (v.processes q r l i);
    earlier = v.earlier;
    rows = a;
    events = v.events;
  }

  each_by : (Q : List Word → Type 0) (n k : ℕ) (o : Option Row) → Q (row_words_or o) → ((m : ℕ) → Q (row_words img.rows m)) → Dec (k ≡ n)
      → n < length img.rows → Q (row_words (set img.rows n o) k)
  each_by Q n k o a b (yes e) h =
      subst (λ (m : ℕ). Q (row_words (set img.rows n o) m)) (sym e) (subst (λ (x : Option Row). Q (row_words_or x)) (sym (there img.rows n o h)) a)
    where
      there : (xs : Rows) (m : ℕ) (x : Option Row) → m < length xs → row_at (set xs m x) m ≡ x
      there [] m x l = absurd (omega (arith, l))
      there (y ∷ ys) zero x l = refl
      there (y ∷ ys) (suc m) x l = there ys m x (omega (arith, l))
  each_by Q n k o a b (no i) h = subst (λ (x : Option Row). Q (row_words_or x)) (sym (changed_others img.rows n k o i)) (b k)

  beyond : (xs : Rows) (n : ℕ) (o : Option Row) → length xs ≤ n → set xs n o ≡ xs
  beyond [] n o h = refl
  beyond (x ∷ xs) zero o h = absurd (omega (arith, h))
  beyond (x ∷ xs) (suc n) o h = ap (λ (ys : Rows). x ∷ ys) (beyond xs n o (omega (arith, h)))

  set_rows : (n : ℕ) (o : Option Row) → All IsWord (row_words_or o) → All (λ (w : Word). is_no_mother (as_descriptor w) ≡ true) (row_words_or o)
      → length (row_words_or o) ≤ count_limit → counted_words (set img.rows n o) ≤ count_limit → Dec (length img.rows ≤ n) → AreRows (with_rows img (set img.rows n o))
  set_rows n o a b l c (yes h) =
      let same : img.rows ≡ set img.rows n o = sym (beyond img.rows n o h) in
      record {
        few = omega (arith, length-set img.rows n o, v.rows.few);
        room = c;
        short = λ k. subst (λ (rs : Rows). length (row_words rs k) ≤ count_limit) same (v.rows.short k);
        words = λ k. subst (λ (rs : Rows). All IsWord (row_words rs k)) same (v.rows.words k);
        shallow = λ k. subst (λ (rs : Rows). All (λ (w : Word). is_no_mother (as_descriptor w) ≡ true) (row_words rs k)) same (v.rows.shallow k);
      }
  set_rows n o a b l c (no h) = record {
    few = omega (arith, length-set img.rows n o, v.rows.few);
    room = c;
    short = λ k. each_by (λ (ws : List Word). length ws ≤ count_limit) n k o l v.rows.short (ℕ_discrete k n) (lt_of_not-le h);
    words = λ k. each_by (All IsWord) n k o a v.rows.words (ℕ_discrete k n) (lt_of_not-le h);
    shallow = λ k. each_by (All (λ (w : Word). is_no_mother (as_descriptor w) ≡ true)) n k o b v.rows.shallow (ℕ_discrete k n) (lt_of_not-le h);
  }

  pub close_valid : (n : ℕ) → IsValid code (with_rows img (closed_at img.rows n))
  close_valid n =
      rows_valid (closed_at img.rows n)
      (set_rows n None (All-nil IsWord) (All-nil (λ (w : Word). is_no_mother (as_descriptor w) ≡ true))
      (omega arith) (omega (arith, counts.closed img.rows n, v.rows.room)) (dec_le (length img.rows) n))

  row_set : (P : Word → Type 0) (o : Option Row) (at : ℕ) (w : Word) → P w → All P (row_words_or o) → All P (row_words_or (row_with o at w))
  row_set P None at w p a = All-nil P
  row_set P (Some r) at w p a = All-set P r.words at w p a

  row_length : (o : Option Row) (at : ℕ) (w : Word) → length (row_words_or (row_with o at w)) ≡ length (row_words_or o)
  row_length None at w = refl
  row_length (Some r) at w = length-set r.words at w

  pub write_valid : (n at : ℕ) (w : Word) → IsWord w → is_no_mother (as_descriptor w) ≡ true → IsValid code (with_rows img (with_row_word img.rows n at w))
  write_valid n at w i s =
      rows_valid (with_row_word img.rows n at w)
      (set_rows n (row_with (row_at img.rows n) at w) (row_set IsWord (row_at img.rows n) at w i (v.rows.words n))
      (row_set (λ (u : Word). is_no_mother (as_descriptor u) ≡ true) (row_at img.rows n) at w s (v.rows.shallow n))
      (omega (arith, row_length (row_at img.rows n) at w, v.rows.short n)) (omega (arith, counts.written img.rows n at w, v.rows.room)) (dec_le (length img.rows) n))
