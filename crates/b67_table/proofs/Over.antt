-- Critical places where a process's registers change, and stacks of which one has other words from a place on.
use Rattle.std.proofs.Common.{◌≡◌, ◌≢◌, refl, sym, ap, subst, ◌∙◌, ℕ, zero, suc, ◌+◌, ◌<◌, ◌≤◌, List, [], ◌∷◌, ◌++◌, length, take, drop, set, Option, Some, arith}
use Rattle.std.specs.Prelude.{slice_get}
use Rattle.b67_list.specs.Numbered.{set_numbered}
use Rattle.b67_list.proofs.Lists.{set_set_here}
use Rattle.b67_word.specs.declared.Place.{Place}
use Rattle.b67_word.specs.Word.{Word}
use Rattle.b67_control.specs.declared.Registers.{Registers}
use Rattle.b67_store.specs.Store.{Stacks, stack_at, words_or, words_of, with_stack, with_word, opened_at}
use Rattle.b67_store.proofs.StoreLaws.{changed_others, opened_others}
use Rattle.b67_table.specs.declared.ProcessState.{ProcessState}
use Rattle.b67_table.specs.Image.{is_ended, critical_in, critical_of}
use Rattle.b67_table.specs.Questions.{live_criticals, with_critical, unless}
use Rattle.b67_table.proofs.Stacks.{set_here, set_set_other, open_set_other, get_numbered_other, below_word, below_words, save_below}
use Rattle.b67_table.proofs.Lists.{get_set}

-- ---- critical places

pub criticals_set : (states : List ProcessState) (rs : List Registers) (k : ℕ) (r : Registers) → k < length rs → critical_in (slice_get rs k) ≡ r.critical
    → live_criticals states (set rs k r) ≡ live_criticals states rs
criticals_set [] rs k r h e = refl
criticals_set (state ∷ states) [] k r h e = absurd (omega (arith, h))
criticals_set (state ∷ states) (x ∷ rs) zero r h e =
    ap (λ (c : Option Place). unless (is_ended state) (with_critical c (live_criticals states rs)) (live_criticals states rs)) (sym e)
criticals_set (state ∷ states) (x ∷ rs) (suc k) r h e =
    ap (λ (ps : List Place). unless (is_ended state) (with_critical x.critical ps) ps) (criticals_set states rs k r (omega (arith, h)) e)

pub criticals_same : (states : List ProcessState) (rs : List Registers) (q : ℕ) (r : Registers) → q ≤ length rs → critical_of rs q ≡ r.critical
    → live_criticals states (set_numbered rs q r) ≡ live_criticals states rs
criticals_same states rs zero r h e = refl
criticals_same states rs (suc k) r h e = criticals_set states rs k r (omega (arith, h)) e

pub critical_here : (rs : List Registers) (q : ℕ) (r : Registers) → q ≤ length rs → critical_of rs q ≡ r.critical
    → critical_of (set_numbered rs q r) q ≡ critical_of rs q
critical_here rs zero r h e = refl
critical_here rs (suc k) r h e = ap critical_in (get_set rs k r (omega (arith, h))) ∙ sym e

pub critical_same : (rs : List Registers) (q n : ℕ) (r : Registers) → Dec (n ≡ q) → q ≤ length rs → critical_of rs q ≡ r.critical
    → critical_of (set_numbered rs q r) n ≡ critical_of rs n
critical_same rs q n r (no h) l e = ap critical_in (get_numbered_other rs q n r h)
critical_same rs q n r (yes i) l e = subst (λ (m : ℕ). critical_of (set_numbered rs q r) m ≡ critical_of rs m) (sym i) (critical_here rs q r l e)

-- ---- words of stacks of which one has other words from a place on

module _ (s base : ℕ) (top : List Word) where
  unfoldable pub over : Stacks → Stacks
  over st = with_stack st s (take base (words_of st s) ++ top)

  pub over_here : (st : Stacks) (ws : List Word) → stack_at st s ≡ Some ws → words_of (over st) s ≡ take base (words_of st s) ++ top
  unfolding over
  over_here st ws e = ap words_or (set_here st s ws (take base (words_of st s) ++ top) e)

  pub over_other : (st : Stacks) (n : ℕ) → n ≢ s → words_of (over st) n ≡ words_of st n
  unfolding over
  over_other st n h = ap words_or (changed_others st s n (Some (take base (words_of st s) ++ top)) h)

  pub high_words : (st : Stacks) (ws : List Word) → stack_at st s ≡ Some ws → base ≤ length ws → base ≤ length (words_of st s)
  high_words st ws e h = subst (λ (us : List Word). base ≤ length us) (sym (ap words_or e)) h

  pub word_same : (st : Stacks) (ws : List Word) (n at : ℕ) → stack_at st s ≡ Some ws → base ≤ length ws → Dec (n ≡ s) → (n ≡ s → at < base)
      → slice_get (words_of (over st) n) at ≡ slice_get (words_of st n) at
  word_same st ws n at e h (no i) low = ap (λ (us : List Word). slice_get us at) (over_other st n i)
  word_same st ws n at e h (yes i) low =
      subst (λ (m : ℕ). slice_get (words_of (over st) m) at ≡ slice_get (words_of st m) at) (sym i)
      (ap (λ (us : List Word). slice_get us at) (over_here st ws e) ∙ below_word (words_of st s) top base at (low i) (high_words st ws e h))

  pub words_same : (st : Stacks) (ws : List Word) (n at count : ℕ) → stack_at st s ≡ Some ws → base ≤ length ws → Dec (n ≡ s) → (n ≡ s → at + count ≤ base)
      → take count (drop at (words_of (over st) n)) ≡ take count (drop at (words_of st n))
  words_same st ws n at count e h (no i) low = ap (λ (us : List Word). take count (drop at us)) (over_other st n i)
  words_same st ws n at count e h (yes i) low =
      subst (λ (m : ℕ). take count (drop at (words_of (over st) m)) ≡ take count (drop at (words_of st m))) (sym i)
      (ap (λ (us : List Word). take count (drop at us)) (over_here st ws e) ∙ below_words (words_of st s) top base at count (low i) (high_words st ws e h))

  pub elsewhere : (st : Stacks) (n : ℕ) (f : List Word → Option (List Word)) → n ≢ s
      → set (over st) n (f (words_of (over st) n)) ≡ over (set st n (f (words_of st n)))
  unfolding over
  elsewhere st n f h =
      ap (λ (us : List Word). set (over st) n (f us)) (over_other st n h)
      ∙ set_set_other st s n (Some (take base (words_of st s) ++ top)) (f (words_of st n)) (λ i. h (sym i))
      ∙ ap (λ (us : List Word). set (set st n (f (words_of st n))) s (Some (take base us ++ top)))
      (sym (ap words_or (changed_others st n s (f (words_of st n)) (λ i. h (sym i)))))

  pub opened_elsewhere : (st : Stacks) (ws us : List Word) (n : ℕ) → stack_at st s ≡ Some ws → n ≢ s → opened_at (over st) n us ≡ over (opened_at st n us)
  unfolding over
  opened_elsewhere st ws us n e h =
      open_set_other st s n ws us (Some (take base (words_of st s) ++ top)) h e
      ∙ ap (λ (vs : List Word). set (opened_at st n us) s (Some (take base vs ++ top))) (sym (ap words_or (opened_others st n s us (λ i. h (sym i)))))

  pub saved_here : (st : Stacks) (ws : List Word) (at : ℕ) (w : Word) → stack_at st s ≡ Some ws → base ≤ length ws → at < base
      → with_stack (over st) s (set (words_of (over st) s) at w) ≡ over (with_stack st s (set (words_of st s) at w))
  unfolding over
  saved_here st ws at w e h low =
      set_set_here st s (Some (take base (words_of st s) ++ top)) (Some (set (words_of (over st) s) at w))
      ∙ ap (λ (us : List Word). set st s (Some us))
      (ap (λ (us : List Word). set us at w) (over_here st ws e)
      ∙ save_below (words_of st s) top base at w low (high_words st ws e h)
      ∙ ap (λ (us : List Word). take base us ++ top) (sym (ap words_or (set_here st s ws (set (words_of st s) at w) e))))
      ∙ sym (set_set_here st s (Some (set (words_of st s) at w))
      (Some (take base (words_of (with_stack st s (set (words_of st s) at w)) s) ++ top)))

  pub saved : (st : Stacks) (ws : List Word) (x : Place) (w : Word) → stack_at st s ≡ Some ws → base ≤ length ws → Dec (x.stack ≡ s) → (x.stack ≡ s → x.at < base)
      → with_word (over st) x w ≡ over (with_word st x w)
  saved st ws x w e h (no i) low = elsewhere st x.stack (λ (us : List Word). Some (set us x.at w)) i
  saved st ws x w e h (yes i) low =
      subst (λ (m : ℕ). with_stack (over st) m (set (words_of (over st) m) x.at w) ≡ over (with_stack st m (set (words_of st m) x.at w))) (sym i)
      (saved_here st ws x.at w e h (low i))
