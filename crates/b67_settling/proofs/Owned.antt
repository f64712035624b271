-- An action that asks and writes only words that are its process's own from a base on: what it makes of them, in whatever image they stand.
use Rattle.std.proofs.Common.{◌≡◌, refl, sym, ap, ◌∙◌, ℕ, zero, suc, ◌-◌, ◌≤◌, List, [], ◌∷◌, ◌++◌, length, take, drop, reverse, set, Some, arith, append_assoc}
use Rattle.std.specs.Prelude.{slice_get}
use Rattle.std.proofs.lemmas.List.{reverse-reverse}
use Rattle.b67_list.specs.Numbered.{set_numbered}
use Rattle.b67_list.proofs.Lists.{set_set_here}
use Rattle.b67_list.proofs.Numbered.{numbered_twice}
use Rattle.b67_word.specs.Word.{Word}
use Rattle.b67_control.specs.declared.Registers.{Registers}
use Rattle.b67_store.specs.Store.{Stacks, words_or, words_of, with_stack}
use Rattle.b67_table.specs.declared.Private.{Private}
use Rattle.b67_table.specs.Effect.{gives}
use Rattle.b67_table.specs.Image.{Image, with_private}
use Rattle.b67_table.specs.Questions.{Question, AnswerTo, told}
use Rattle.b67_table.specs.Questions as questions
use Rattle.b67_table.specs.Writes.{Write, write_made}
use Rattle.b67_table.specs.Writes as writes
use Rattle.b67_table.specs.Program.{Test, answer, interrupt, fault, ask, asked, Change, done, look_up, write, changed, effect_of, does}
use Rattle.b67_table.proofs.Stacks.{set_here}
use Rattle.b67_settling.specs.Own.{StackReaches, own_of, Stay, AsksOwn, ChangeIsOwn, TestIsOwn}
use Rattle.b67_settling.proofs.Own.{high, unchanged, nothing_off, less_each, drop_drop, reversed_same}

-- ---- lists

get_above : {X : Type 0} (base at : ℕ) (xs : List X) → base ≤ at → slice_get xs at ≡ slice_get (drop base xs) (at - base)
get_above {X = X} zero at xs l = ap (λ (n : ℕ). slice_get xs n) (sym (nothing_off at))
get_above (suc base) zero xs l = absurd (omega (arith, l))
get_above {X = X} (suc base) (suc at) [] l = refl
get_above {X = X} (suc base) (suc at) (x ∷ xs) l =
    get_above base at xs (omega (arith, l)) ∙ ap (λ (n : ℕ). slice_get (drop base xs) n) (sym (less_each at base))

set_above : {X : Type 0} (base at : ℕ) (w : X) (xs us : List X) → base ≤ at → base ≤ length xs
    → set (take base xs ++ us) at w ≡ take base xs ++ set us (at - base) w
set_above {X = X} zero at w xs us l h = ap (λ (n : ℕ). set us n w) (sym (nothing_off at))
set_above (suc base) zero w xs us l h = absurd (omega (arith, l))
set_above (suc base) (suc at) w [] us l h = absurd (omega (arith, h))
set_above {X = X} (suc base) (suc at) w (x ∷ xs) us l h =
    ap (λ (zs : List X). x ∷ zs) (set_above base at w xs us (omega (arith, l)) (omega (arith, h))) ∙ ap (λ (n : ℕ). x ∷ take base xs ++ set us n w) (sym (less_each at base))

take_above : {X : Type 0} (base n : ℕ) (xs us : List X) → base ≤ n → base ≤ length xs → take n (take base xs ++ us) ≡ take base xs ++ take (n - base) us
take_above {X = X} zero n xs us l h = ap (λ (m : ℕ). take m us) (sym (nothing_off n))
take_above (suc base) zero xs us l h = absurd (omega (arith, l))
take_above (suc base) (suc n) [] us l h = absurd (omega (arith, h))
take_above {X = X} (suc base) (suc n) (x ∷ xs) us l h =
    ap (λ (zs : List X). x ∷ zs) (take_above base n xs us (omega (arith, l)) (omega (arith, h))) ∙ ap (λ (m : ℕ). x ∷ take base xs ++ take m us) (sym (less_each n base))

-- ---- what is asked

module _ (p : ℕ) (r : Registers) (base : ℕ) (x y : Image) (same : drop base (words_of x.stacks r.stack) ≡ drop base (words_of y.stacks r.stack)) where
  told_same : (q : Question) → AsksOwn r.stack base q → told x q ≡ told y q
  told_same (questions.word at) own =
      ap (λ (n : ℕ). slice_get (words_of x.stacks n) at.at) own.0
      ∙ get_above base at.at (words_of x.stacks r.stack) own.1
      ∙ ap (λ (us : List Word). slice_get us (at.at - base)) same
      ∙ sym (get_above base at.at (words_of y.stacks r.stack) own.1)
      ∙ ap (λ (n : ℕ). slice_get (words_of y.stacks n) at.at) (sym own.0)
  told_same (questions.words at n) own =
      ap (λ (m : ℕ). take n (drop at.at (words_of x.stacks m))) own.0
      ∙ ap (take n) (drop_drop base at.at (words_of x.stacks r.stack) own.1)
      ∙ ap (λ (us : List Word). take n (drop (at.at - base) us)) same
      ∙ ap (take n) (sym (drop_drop base at.at (words_of y.stacks r.stack) own.1))
      ∙ ap (λ (m : ℕ). take n (drop at.at (words_of y.stacks m))) (sym own.0)
  told_same (questions.row n) own = absurd own
  told_same questions.free_row own = absurd own
  told_same questions.counted own = absurd own
  told_same (questions.is_event place) own = absurd own
  told_same (questions.event_answer t place) own = absurd own
  told_same (questions.first_happened places) own = absurd own
  told_same (questions.woken p) own = absurd own
  told_same questions.criticals own = absurd own
  told_same (questions.critical p) own = absurd own
  told_same questions.started own = absurd own

  -- the change that the test answers with in both
  record Answers (t : Test Change) : Type 0 where
    change : Change
    own : ChangeIsOwn r base change
    here : asked x t ≡ gives change
    there : asked y t ≡ gives change

  answers : (new : Image) (t : Test Change) → TestIsOwn x r base t → does p t x ≡ gives new → Answers t
  answers new (answer c) own e = record { change = c; own = own; here = refl; there = refl }
  answers new (interrupt kind) own e = cc
  answers new (fault kind) own e = cc
  answers new (ask q more) own e =
      let s : Answers (more (told x q)) = answers new (more (told x q)) own.1 e in
      record {
        change = s.change;
        own = s.own;
        here = s.here;
        there = ap (λ (a : AnswerTo q). asked y (more a)) (sym (told_same q own.0)) ∙ s.there;
      }

-- ---- what is written

-- the words from the base on after a change, and the registers
abbrev pub after_words : ℕ → Change → List Word → List Word
after_words base done us = us
after_words base (look_up q more) us = us
after_words base (write (writes.save x w) next) us = after_words base next (set us (x.at - base) w)
after_words base (write (writes.cut stack n) next) us = after_words base next (take (n - base) us)
after_words base (write (writes.push stack w) next) us = after_words base next (us ++ w ∷ [])
after_words base (write _ next) us = after_words base next us

abbrev pub after_regs : Change → Registers → Registers
after_regs done s = s
after_regs (look_up q more) s = s
after_regs (write (writes.registers new) next) s = after_regs next new
after_regs (write _ next) s = after_regs next s

regs_stay : (r : Registers) (base : ℕ) (c : Change) (s : Registers) → ChangeIsOwn r base c → Stay r s → Stay r (after_regs c s)
regs_stay r base done s own k = k
regs_stay r base (look_up q more) s own k = absurd own
regs_stay r base (write (writes.save x w) next) s own k = regs_stay r base next s own.1 k
regs_stay r base (write (writes.cut stack n) next) s own k = regs_stay r base next s own.1 k
regs_stay r base (write (writes.push stack w) next) s own k = regs_stay r base next s own.1 k
regs_stay r base (write (writes.registers new) next) s own k = regs_stay r base next new own.1 own.0
regs_stay r base (write (writes.open_row n count counted) next) s own k = absurd own.0
regs_stay r base (write (writes.write_row n at w) next) s own k = absurd own.0
regs_stay r base (write (writes.close_row n) next) s own k = absurd own.0
regs_stay r base (write (writes.open_event x) next) s own k = absurd own.0
regs_stay r base (write (writes.close_events stack at) next) s own k = absurd own.0
regs_stay r base (write (writes.event_deed d x) next) s own k = absurd own.0
regs_stay r base (write (writes.wait_any places) next) s own k = absurd own.0
regs_stay r base (write writes.go_on next) s own k = absurd own.0
regs_stay r base (write (writes.line bytes) next) s own k = absurd own.0
regs_stay r base (write (writes.start q words) next) s own k = absurd own.0
regs_stay r base (write (writes.end_process stack) next) s own k = absurd own.0

module _ (img : Image) (p : ℕ) (r : Registers) (base : ℕ) (at : StackReaches img p r base) where
  abbrev old : List Word
  old = words_of img.stacks r.stack

  -- the image with these words from the base on, and these registers
  put_in : List Word → Registers → Image
  put_in us s = record img { stacks = with_stack img.stacks r.stack (take base (words_of img.stacks r.stack) ++ us); regs = set_numbered img.regs p s }

  words_in : (us : List Word) (s : Registers) → words_of (put_in us s).stacks r.stack ≡ take base (words_of img.stacks r.stack) ++ us
  unfolding put_in
  words_in us s = ap words_or (set_here img.stacks r.stack at.words (take base (words_of img.stacks r.stack) ++ us) at.opened)

  -- other words in their place
  over_in : (us vs ws : List Word) (s : Registers) (n : ℕ) → n ≡ r.stack → ws ≡ take base (words_of img.stacks r.stack) ++ vs
      → record (put_in us s) { stacks = with_stack (put_in us s).stacks n ws } ≡ put_in vs s
  unfolding put_in
  over_in us vs ws s n k e =
      ap (λ (m : ℕ). record (put_in us s) { stacks = set (put_in us s).stacks m (Some ws) }) k
      ∙ ap (λ (zs : List Word). record (put_in us s) { stacks = set (put_in us s).stacks r.stack (Some zs) }) e
      ∙ ap (λ (st : Stacks). record img { stacks = st; regs = set_numbered img.regs p s })
      (set_set_here img.stacks r.stack (Some (take base (words_of img.stacks r.stack) ++ us)) (Some (take base (words_of img.stacks r.stack) ++ vs)))

  there : (us : List Word) (s : Registers) (n : ℕ) → n ≡ r.stack → words_of (put_in us s).stacks n ≡ take base (words_of img.stacks r.stack) ++ us
  there us s n k = ap (λ (m : ℕ). words_of (put_in us s).stacks m) k ∙ words_in us s

  registers_in : (us : List Word) (s new : Registers) → write_made p (writes.registers new) (put_in us s) ≡ put_in us new
  unfolding put_in
  registers_in us s new =
      ap (λ (rs : List Registers). record img { stacks = with_stack img.stacks r.stack (take base (words_of img.stacks r.stack) ++ us); regs = rs }) (numbered_twice img.regs p s new)

  changed_in : (c : Change) (us : List Word) (s : Registers) → ChangeIsOwn r base c → changed p c (put_in us s) ≡ put_in (after_words base c us) (after_regs c s)
  changed_in done us s own = refl
  changed_in (look_up q more) us s own = absurd own
  changed_in (write (writes.save x w) next) us s own =
      ap (changed p next)
      (over_in us (set us (x.at - base) w) (set (words_of (put_in us s).stacks x.stack) x.at w) s x.stack own.0.0
      (ap (λ (zs : List Word). set zs x.at w) (there us s x.stack own.0.0) ∙ set_above base x.at w old us own.0.1 (high img p r base at)))
      ∙ changed_in next (set us (x.at - base) w) s own.1
  changed_in (write (writes.cut stack n) next) us s own =
      ap (changed p next)
      (over_in us (take (n - base) us) (take n (words_of (put_in us s).stacks stack)) s stack own.0.0
      (ap (take n) (there us s stack own.0.0) ∙ take_above base n old us own.0.1 (high img p r base at)))
      ∙ changed_in next (take (n - base) us) s own.1
  changed_in (write (writes.push stack w) next) us s own =
      ap (changed p next)
      (over_in us (us ++ w ∷ []) (words_of (put_in us s).stacks stack ++ w ∷ []) s stack own.0
      (ap (λ (zs : List Word). zs ++ w ∷ []) (there us s stack own.0) ∙ append_assoc (take base old) us (w ∷ [])))
      ∙ changed_in next (us ++ w ∷ []) s own.1
  changed_in (write (writes.registers new) next) us s own =
      ap (changed p next) (registers_in us s new) ∙ changed_in next us new own.1
  changed_in (write (writes.open_row n count counted) next) us s own = absurd own.0
  changed_in (write (writes.write_row n at w) next) us s own = absurd own.0
  changed_in (write (writes.close_row n) next) us s own = absurd own.0
  changed_in (write (writes.open_event x) next) us s own = absurd own.0
  changed_in (write (writes.close_events stack at) next) us s own = absurd own.0
  changed_in (write (writes.event_deed d x) next) us s own = absurd own.0
  changed_in (write (writes.wait_any places) next) us s own = absurd own.0
  changed_in (write writes.go_on next) us s own = absurd own.0
  changed_in (write (writes.line bytes) next) us s own = absurd own.0
  changed_in (write (writes.start q words) next) us s own = absurd own.0
  changed_in (write (writes.end_process stack) next) us s own = absurd own.0

  put_is : (us : List Word) (s : Registers) → s.stack ≡ r.stack → put_in us s ≡ with_private img p base (record { regs = s; words = reverse us })
  unfolding put_in
  put_is us s k =
      ap (λ (n : ℕ). record img { stacks = with_stack img.stacks n (take base (words_of img.stacks n) ++ us); regs = set_numbered img.regs p s }) (sym k)
      ∙ ap (λ (vs : List Word). record img { stacks = with_stack img.stacks s.stack (take base (words_of img.stacks s.stack) ++ vs); regs = set_numbered img.regs p s })
      (sym (reverse-reverse us))

  begins : put_in (drop base (words_of img.stacks r.stack)) r ≡ img
  begins = put_is (drop base (words_of img.stacks r.stack)) r refl ∙ unchanged img p r base at

  -- the image after the change
  pub own_changed : (c : Change) → ChangeIsOwn r base c
      → changed p c img ≡ with_private img p base (record { regs = after_regs c r; words = reverse (after_words base c (drop base (words_of img.stacks r.stack))) })
  own_changed c own =
      ap (changed p c) (sym begins) ∙ changed_in c (drop base (words_of img.stacks r.stack)) r own
      ∙ put_is (after_words base c (drop base (words_of img.stacks r.stack))) (after_regs c r) (regs_stay r base c r own (refl, refl)).0

-- ---- all together

-- what the test does wherever the same words stand from the base on
pub record DoesAlike (p : ℕ) (r : Registers) (base : ℕ) (x : Image) (t : Test Change) : Type 0 where
  pub part : Private
  pub stay : Stay r part.regs
  pub alike : (y : Image) → StackReaches y p r base → own_of y r base ≡ own_of x r base → does p t y ≡ gives (with_private y p base part)

pub does_alike : (p : ℕ) (r : Registers) (base : ℕ) (x new : Image) (t : Test Change) → TestIsOwn x r base t → does p t x ≡ gives new → DoesAlike p r base x t
does_alike p r base x new t own g =
    let first : Answers p r base x x refl t = answers p r base x x refl new t own g in
    record {
      part = record { regs = after_regs first.change r; words = reverse (after_words base first.change (drop base (words_of x.stacks r.stack))) };
      stay = regs_stay r base first.change r first.own (refl, refl);
      alike = λ y at e.
          let same : drop base (words_of x.stacks r.stack) ≡ drop base (words_of y.stacks r.stack) = sym (reversed_same _ _ (ap (λ (m : Private). m.words) e)) in
          let s : Answers p r base x y same t = answers p r base x y same new t own g in
          let one : s.change ≡ first.change = given s.change first.change (sym s.here ∙ first.here) in
          ap (effect_of p y) s.there ∙ ap gives (own_changed y p r base at s.change s.own)
          ∙ ap (λ (c : Change). gives (with_private y p base (record { regs = after_regs c r; words = reverse (after_words base c (drop base (words_of y.stacks r.stack))) }))) one
          ∙ ap (λ (us : List Word). gives (with_private y p base (record { regs = after_regs first.change r; words = reverse (after_words base first.change us) }))) (sym same);
    }
  where
    given : (c d : Change) → gives c ≡ gives d → c ≡ d
    given c d e = cc
