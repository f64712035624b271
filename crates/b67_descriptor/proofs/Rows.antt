-- Rows that are opened for a mother's row, and closed again.
use Rattle.std.proofs.Common.{◌≡◌, ◌≢◌, refl, sym, ap, subst, ◌∙◌, ℕ, zero, suc, ◌+◌, ◌<◌, ◌≤◌, List, [], ◌∷◌, length, set, Result, Ok, Err, Option, Some, None, Bool, true, false, cond, ⊎_elim, arith}
use Rattle.std.specs.Prelude.{slice_get, is_some, IsSome, is_err, OnOk}
use Rattle.b67_list.proofs.Lists.{get_set_other, length_set}
use Rattle.b67_list.proofs.Numbers.{one_target}
use Rattle.b67_descriptor.specs.declared.DescriptorFault.{DescriptorFault}
use Rattle.b67_table.specs.Arrays.{array_word}
use Rattle.std.proofs.lemmas.Bool.{cases_eq}
use Rattle.std.proofs.Math.Nat.{eq-or-lt_of_le}
use Rattle.b67_word.specs.Word.{Word}
use Rattle.b67_control.specs.declared.Descriptor.{Descriptor}
use Rattle.b67_control.specs.Control.{as_descriptor}
use Rattle.b67_store.specs.Store.{Row, Rows, row_at, row_words, row_words_or, row_with, with_row_word, opened_at, closed_at, least_free, zero_row}
use Rattle.b67_store.proofs.StoreLaws.{opened_here, opened_others, changed_here, changed_others, closed_here, free_here}
use Rattle.b67_table.specs.Look.{read_as}
use Rattle.b67_table.proofs.Lists.{get_set}
use Rattle.b67_descriptor.specs.Arrays.{address_in, child, IsChild, HasMore, AreOpen, SameRows, row_added}

-- ---- a word of a row

written_by : (rows : Rows) (n at : ℕ) (w : Word) (o : Option Row) → row_at rows n ≡ o → row_words (set rows n (row_with o at w)) n ≡ set (row_words_or o) at w
written_by rows n at w None e = none_set rows n e
  where
    none_set : (rows : Rows) (n : ℕ) → row_at rows n ≡ None → row_words (set rows n None) n ≡ []
    none_set rows n e = ap row_words_or (closed_here rows n)
written_by rows n at w (Some r) e =
    ap row_words_or (changed_here rows n (record r { words = set r.words at w }) (subst IsSome (sym e) (is_there r)))
  where
    is_there : (r : Row) → IsSome (Some r)
    is_there r = refl

-- the words of a row after a word was put in it
pub written_words : (rows : Rows) (n at : ℕ) (w : Word) → row_words (with_row_word rows n at w) n ≡ set (row_words rows n) at w
written_words rows n at w = written_by rows n at w (row_at rows n) refl

-- ---- what a mother's row describes

-- it is told by the mother's row
child_same : (rows other : Rows) (mother at : ℕ) → row_at other mother ≡ row_at rows mother → child other mother at ≡ child rows mother at
child_same rows other mother at e = ap (λ (o : Option Row). address_in (read_as as_descriptor (slice_get (row_words_or o) at))) e

-- ---- one row more

module _ (before rows : Rows) (mother at : ℕ) (row : Row) (w : Word) (d : Descriptor)
    (here : is_some (row_at rows mother) ≡ true) (within : at < length (row_words rows mother))
    (reads : as_descriptor w ≡ Some d) (names : d.address ≡ least_free rows) where
  abbrev pub address : ℕ
  address = least_free rows

  abbrev pub mid : Rows
  mid = opened_at rows address row

  abbrev pub after : Rows
  after = with_row_word mid mother at w

  free : row_at rows address ≡ None
  free = free_here rows

  apart : address ≢ mother
  apart e = not_there (row_at rows mother) here (ap (λ (n : ℕ). row_at rows n) (sym e) ∙ free)
    where
      not_there : (o : Option Row) → is_some o ≡ true → o ≡ None → ⊥
      not_there None h k = cc
      not_there (Some r) h k = cc

  mother_mid : row_at mid mother ≡ row_at rows mother
  mother_mid = opened_others rows address mother row (λ (e : mother ≡ address). apart (sym e))

  words_after : row_words after mother ≡ set (row_words rows mother) at w
  words_after = written_words mid mother at w ∙ ap (λ (o : Option Row). set (row_words_or o) at w) mother_mid

  at_other : (x : ℕ) → x ≢ mother → row_at after x ≡ row_at mid x
  at_other x h = changed_others mid mother x (row_with (row_at mid mother) at w) h

  new_row : row_at after address ≡ Some row
  new_row = at_other address apart ∙ opened_here rows address row

  old_row : (x : ℕ) → x ≢ mother → x ≢ address → row_at after x ≡ row_at rows x
  old_row x h k = at_other x h ∙ opened_others rows address x row k

  new_child : child after mother at ≡ Some address
  new_child =
      ap (λ (ws : List Word). address_in (read_as as_descriptor (slice_get ws at))) words_after
      ∙ ap (λ (o : Option Word). address_in (read_as as_descriptor o)) (get_set (row_words rows mother) at w within)
      ∙ ap address_in reads ∙ ap Some names

  old_child : (k : ℕ) → k ≢ at → child after mother k ≡ child rows mother k
  old_child k h =
      ap (λ (ws : List Word). address_in (read_as as_descriptor (slice_get ws k))) words_after
      ∙ ap (λ (o : Option Word). address_in (read_as as_descriptor o)) (get_set_other (row_words rows mother) at k w h)

  below : (k : ℕ) → k < at → k ≢ at
  below k h e = omega (arith, h, e)

  pub same_length : length (row_words after mother) ≡ length (row_words rows mother)
  same_length = ap length words_after ∙ length_set (row_words rows mother) at w

  pub still_there : is_some (row_at after mother) ≡ true
  still_there = has_words (row_at after mother) (omega (arith, same_length, within))
    where
      has_words : (o : Option Row) → 1 ≤ length (row_words_or o) → is_some o ≡ true
      has_words None h = absurd (omega (arith, h))
      has_words (Some r) h = refl

  module _ (more : HasMore before rows mother 0 at) (opens : AreOpen rows mother at) where
    -- the new row is none of those before
    fresh_address : row_at before address ≡ None
    fresh_address = sym (more.others address apart no_child) ∙ free
      where
        no_child : (k : ℕ) → 0 ≤ k → k < at → child rows mother k ≡ Some address → ⊥
        no_child k low h e = there_not (row_at rows address) (opens k address h e) free
          where
            there_not : (o : Option Row) → is_some o ≡ true → o ≡ None → ⊥
            there_not None i j = cc
            there_not (Some r) i j = cc

    children_after : (k : ℕ) → 0 ≤ k → k < at + 1 → IsChild before after mother k
    children_after k low h =
        ⊎_elim
        (λ (e : k ≡ at). subst (λ (n : ℕ). IsChild before after mother n) (sym e) (record { address = address; described = new_child; fresh = fresh_address; apart = apart }))
        (λ (l : k < at).
        let c = more.children k low l in
        record { address = c.address; described = old_child k (below k l) ∙ c.described; fresh = c.fresh; apart = c.apart })
        (eq-or-lt_of_le (up_to k h))
      where
        up_to : (k : ℕ) → k < at + 1 → k ≤ at
        up_to k h = omega (arith, h)

    others_after : (x : ℕ) → x ≢ mother → ((k : ℕ) → 0 ≤ k → k < at + 1 → child after mother k ≡ Some x → ⊥) → row_at after x ≡ row_at before x
    others_after x h none =
        old_row x h not_new
        ∙ more.others x h (λ (k : ℕ) (low : 0 ≤ k) (l : k < at) (e : child rows mother k ≡ Some x). none k low (later k l) (old_child k (below k l) ∙ e))
      where
        later : (k : ℕ) → k < at → k < at + 1
        later k l = omega (arith, l)

        not_new : x ≢ address
        not_new e = none at (omega arith) (omega arith) (new_child ∙ ap Some (sym e))

    pub has_one_more : HasMore before after mother 0 (at + 1)
    has_one_more = record { fresh = more.fresh; children = children_after; others = others_after }

    pub open_one_more : AreOpen after mother (at + 1)
    open_one_more k x h e =
        ⊎_elim
        (λ (i : k ≡ at).
        let same : address ≡ x = one_target address x (sym new_child ∙ ap (λ (n : ℕ). child after mother n) (sym i) ∙ e) in
        subst (λ (n : ℕ). is_some (row_at after n) ≡ true) same (ap is_some new_row))
        (λ (l : k < at).
        let was : child rows mother k ≡ Some x = sym (old_child k (below k l)) ∙ e in
        let c = more.children k (omega arith) l in
        let is_x : c.address ≡ x = one_target c.address x (sym c.described ∙ was) in
        let not_mother : x ≢ mother = λ (j : x ≡ mother). c.apart (is_x ∙ j) in
        let there : is_some (row_at rows x) ≡ true = opens k x l was in
        ap is_some (old_row x not_mother (λ (j : x ≡ address). gone x j there)) ∙ there)
        (eq-or-lt_of_le (up_to k h))
      where
        up_to : (k : ℕ) → k < at + 1 → k ≤ at
        up_to k h = omega (arith, h)

        none_some : (o : Option Row) → o ≡ None → is_some o ≡ true → ⊥
        none_some None i j = cc
        none_some (Some r) i j = cc

        gone : (x : ℕ) → x ≡ address → is_some (row_at rows x) ≡ true → ⊥
        gone x j there = none_some (row_at rows x) (ap (λ (n : ℕ). row_at rows n) j ∙ free) there

-- ---- one row less

module _ (before rows after : Rows) (mother at to : ℕ) (more : HasMore before rows mother at to) (within : at < to)
    (closed : (a : ℕ) → child rows mother at ≡ Some a → row_at after a ≡ None)
    (kept : (x : ℕ) → (child rows mother at ≡ Some x → ⊥) → row_at after x ≡ row_at rows x) where
  this : IsChild before rows mother at
  this = more.children at (omega arith) within

  mother_kept : row_at after mother ≡ row_at rows mother
  mother_kept = kept mother (λ (e : child rows mother at ≡ Some mother). this.apart (one_target this.address mother (sym this.described ∙ e)))

  same_child : (k : ℕ) → child after mother k ≡ child rows mother k
  same_child k = child_same rows after mother k mother_kept

  earlier : (k : ℕ) → at + 1 ≤ k → at ≤ k
  earlier k h = omega (arith, h)

  others_less : (x : ℕ) → x ≢ mother → ((k : ℕ) → at + 1 ≤ k → k < to → child after mother k ≡ Some x → ⊥) → row_at after x ≡ row_at before x
  others_less x h none =
      ⊎_elim
      (λ (e : x ≡ this.address).
      ap (λ (n : ℕ). row_at after n) e ∙ closed this.address this.described ∙ sym this.fresh ∙ ap (λ (n : ℕ). row_at before n) (sym e))
      (λ (ne : x ≢ this.address).
      kept x (λ (e : child rows mother at ≡ Some x). ne (sym (one_target this.address x (sym this.described ∙ e)))) ∙ more.others x h (absent ne))
      (cases_eq x this.address)
    where
      absent : x ≢ this.address → (k : ℕ) → at ≤ k → k < to → child rows mother k ≡ Some x → ⊥
      absent ne k low l e =
          ⊎_elim
          (λ (i : at ≡ k). ne (sym (one_target this.address x (sym this.described ∙ ap (λ (n : ℕ). child rows mother n) i ∙ e))))
          (λ (m : at < k). none k (omega (arith, m)) l (same_child k ∙ e))
          (eq-or-lt_of_le low)

  pub has_one_less : HasMore before after mother (at + 1) to
  has_one_less = record {
    fresh = more.fresh;
    children = λ k low l. let c = more.children k (earlier k low) l in record { address = c.address; described = same_child k ∙ c.described; fresh = c.fresh; apart = c.apart };
    others = others_less;
  }

-- at last the mother's row goes
pub has_no_more : (before rows after : Rows) (mother to : ℕ) → HasMore before rows mother to to → row_at after mother ≡ None
    → ((x : ℕ) → x ≢ mother → row_at after x ≡ row_at rows x) → SameRows before after
has_no_more before rows after mother to more gone kept x =
    ⊎_elim
    (λ (e : x ≡ mother). ap (λ (n : ℕ). row_at after n) e ∙ gone ∙ sym more.fresh ∙ ap (λ (n : ℕ). row_at before n) (sym e))
    (λ (ne : x ≢ mother). kept x ne ∙ more.others x ne (λ k low l. absurd (omega (arith, low, l))))
    (cases_eq x mother)

-- the mother's row only
pub has_mother : (before : Rows) (mother : ℕ) (row : Row) → mother ≡ least_free before → HasMore before (opened_at before mother row) mother 0 0
has_mother before mother row e = record {
  fresh = ap (λ (n : ℕ). row_at before n) e ∙ free_here before;
  children = λ k low l. absurd (omega (arith, low, l));
  others = λ x h none. opened_others before mother x row h;
}

-- ---- by the store's calls

pub closed_mother : (rows new : Rows) (mother : ℕ) (b : Bool) → b ≡ is_some (row_at rows mother) → new ≡ cond b (closed_at rows mother) rows
    → (row_at new mother ≡ None) × ((x : ℕ) → x ≢ mother → row_at new x ≡ row_at rows x)
closed_mother rows new mother true e f =
    (ap (λ (r : Rows). row_at r mother) f ∙ closed_here rows mother, λ x h. ap (λ (r : Rows). row_at r x) f ∙ changed_others rows mother x None h)
closed_mother rows new mother false e f =
    (ap (λ (r : Rows). row_at r mother) f ∙ no_row (row_at rows mother) (sym e), λ x h. ap (λ (r : Rows). row_at r x) f)
  where
    no_row : (o : Option Row) → is_some o ≡ false → o ≡ None
    no_row None h = refl
    no_row (Some r) h = cc

there_within : (ws : List Word) (n : ℕ) → n < length ws → is_some (slice_get ws n) ≡ true
there_within [] n h = absurd (omega (arith, h))
there_within (w ∷ ws) zero h = refl
there_within (w ∷ ws) (suc n) h = there_within ws n (omega (arith, h))

pub added_is : (rows opened new : Rows) (mother at n number : ℕ) (w : Word) (b : Bool) → is_some (row_at rows mother) ≡ true → at < length (row_words rows mother)
    → number ≡ least_free rows → opened ≡ opened_at rows number (zero_row n true) → w ≡ array_word false n number → b ≡ is_some (slice_get (row_words opened mother) at)
    → new ≡ cond b (with_row_word opened mother at w) opened → new ≡ row_added rows mother at n
added_is rows opened new mother at n number w b here within e f g h i =
    i ∙ ap (λ (c : Bool). cond c (with_row_word opened mother at w) opened) (h ∙ there)
    ∙ rw (f, g, e) refl
  where
    not_none : (o : Option Row) → is_some o ≡ true → o ≡ None → ⊥
    not_none None k l = cc
    not_none (Some r) k l = cc

    other : mother ≢ number
    other k = not_none (row_at rows mother) here (ap (λ (m : ℕ). row_at rows m) (k ∙ e) ∙ free_here rows)

    same_words : row_words opened mother ≡ row_words rows mother
    same_words =
        ap (λ (r : Rows). row_words r mother) f ∙ ap row_words_or (opened_others rows number mother (zero_row n true) other)

    there : is_some (slice_get (row_words opened mother) at) ≡ true
    there = ap (λ (ws : List Word). is_some (slice_get ws at)) same_words ∙ there_within (row_words rows mother) at within

pub of_ok : {P : Type 0} (r : Result (Unit {0}) DescriptorFault) → is_err r ≡ false → OnOk r P → P
of_ok (Ok u) h p = p
of_ok (Err e) h p = cc
