-- The stack of a new process, word by word.
use Rattle.std.proofs.Common.{◌≡◌, ◌≢◌, refl, sym, ap, subst, ◌∙◌, ℕ, zero, suc, ◌+◌, ◌<◌, ◌≤◌, List, [], ◌∷◌, ◌++◌, length, take, drop, set, slice_get, Option, Some, None, IsSome, is_some, arith}
use Rattle.b67_word.specs.Word.{Word}
use Rattle.b67_store.specs.Store.{Stacks, stack_at, words_of, words_or, with_stack, with_push, opened_at}
use Rattle.b67_store.proofs.Cited.{put_there}
use Rattle.b67_store.proofs.StoreLaws.{changed_others, opened_others as opened_other}
use Rattle.b67_table.proofs.Stacks.{set_here}
use Rattle.b67_list.proofs.Lists.{set_set_here}

append_none : (xs : List Word) → xs ++ [] ≡ xs
append_none [] = refl
append_none (x ∷ xs) = ap (λ (z : List Word). x ∷ z) (append_none xs)

pub append_twice : (xs ys zs : List Word) → (xs ++ ys) ++ zs ≡ xs ++ (ys ++ zs)
append_twice [] ys zs = refl
append_twice (x ∷ xs) ys zs = ap (λ (z : List Word). x ∷ z) (append_twice xs ys zs)

pub one_taken : (ws : List Word) (i : ℕ) (w : Word) → slice_get ws i ≡ Some w → take i ws ++ w ∷ [] ≡ take (suc i) ws
one_taken [] zero w e = cc
one_taken [] (suc i) w e = cc
one_taken (x ∷ ws) zero w e = cc
one_taken (x ∷ ws) (suc i) w e = ap (λ (z : List Word). x ∷ z) (one_taken ws i w e)

get_past : (ws : List Word) (first i : ℕ) (w : Word) → slice_get ws (first + i) ≡ Some w → slice_get (drop first ws) i ≡ Some w
get_past ws zero i w e = let n_is : zero + i ≡ i = omega arith in sym (ap (λ (n : ℕ). slice_get ws n) n_is) ∙ e
get_past [] (suc first) i w e = absurd (none_there (suc first + i) e)
  where
    none_there : (n : ℕ) → slice_get [] n ≡ Some w → ⊥
    none_there zero e = cc
    none_there (suc n) e = cc
get_past (x ∷ ws) (suc first) i w e =
    let n_is : suc first + i ≡ suc (first + i) = omega arith in get_past ws first i w (sym (ap (λ (n : ℕ). slice_get (x ∷ ws) n) n_is) ∙ e)

module _ (st : Stacks) (n : ℕ) where
  words_there : (o : Option (List Word)) → IsSome o → o ≡ Some (words_or o)
  words_there None s = absurd cc
  words_there (Some ws) s = refl

  is_there : IsSome (stack_at st n) → stack_at st n ≡ Some (words_of st n)
  is_there s = words_there (stack_at st n) s

  -- nothing is pushed yet
  pub none_pushed : IsSome (stack_at st n) → st ≡ with_stack st n (words_of st n ++ [])
  none_pushed s = sym (ap (λ (z : List Word). with_stack st n z) (append_none (words_of st n)) ∙ put_there st n (words_of st n) (is_there s))

  pub own_words : (ws : List Word) → IsSome (stack_at st n) → stack_at (with_stack st n ws) n ≡ Some ws
  own_words ws s = set_here st n (words_of st n) ws (is_there s)

  pub other_words : (ws : List Word) (k : ℕ) → k ≢ n → words_of (with_stack st n ws) k ≡ words_of st k
  other_words ws k h = ap words_or (changed_others st n k (Some ws) h)

  pub one_pushed : (ws params : List Word) (first i : ℕ) (w : Word) → IsSome (stack_at st n) → slice_get params (first + i) ≡ Some w
      → with_push (with_stack st n (ws ++ take i (drop first params))) n w ≡ with_stack st n (ws ++ take (i + 1) (drop first params))
  one_pushed ws params first i w s e =
      let i_is : suc i ≡ i + 1 = omega arith in
      let now = ws ++ take i (drop first params) in
      ap (λ (o : Option (List Word)). with_stack (with_stack st n now) n (words_or o ++ w ∷ [])) (own_words now s)
      ∙ set_set_here st n (Some now) (Some (now ++ w ∷ []))
      ∙ ap (λ (z : List Word). with_stack st n z)
      (append_twice ws (take i (drop first params)) (w ∷ []) ∙ ap (λ (z : List Word). ws ++ z) (one_taken (drop first params) i w (get_past params first i w e)
      ∙ ap (λ (k : ℕ). take k (drop first params)) i_is))

  pub open_still : (ws : List Word) → IsSome (stack_at st n) → IsSome (stack_at (with_stack st n ws) n)
  open_still ws s = ap is_some (own_words ws s)

  -- the length of the stack, and what lies in another
  pub long : (ws params : List Word) (first i : ℕ) → IsSome (stack_at st n) → length (words_of (with_stack st n (ws ++ take i (drop first params))) n) ≤ length ws + i
  long ws params first i s =
      subst (λ (z : List Word). length z ≤ length ws + i) (sym (ap words_or (own_words (ws ++ take i (drop first params)) s))) (short ws (drop first params) i)
    where
      taken : (xs : List Word) (i : ℕ) → length (take i xs) ≤ i
      taken xs zero = omega arith
      taken [] (suc i) = omega arith
      taken (x ∷ xs) (suc i) = omega (arith, taken xs i)

      short : (ws xs : List Word) (i : ℕ) → length (ws ++ take i xs) ≤ length ws + i
      short [] xs i = omega (arith, taken xs i)
      short (w ∷ ws) xs i = omega (arith, short ws xs i)

  pub word_there : (ws : List Word) (k at : ℕ) → k ≢ n → at < length (words_of st k) → IsSome (slice_get (words_of (with_stack st n ws) k) at)
  word_there ws k at h e = subst (λ (z : List Word). IsSome (slice_get z at)) (sym (other_words ws k h)) (within (words_of st k) at e)
    where
      within : (xs : List Word) (i : ℕ) → i < length xs → IsSome (slice_get xs i)
      within [] i e = absurd (omega (arith, e))
      within (x ∷ xs) zero e = refl
      within (x ∷ xs) (suc i) e = within xs i (omega (arith, e))

-- ---- a stack that was opened

module _ (n : ℕ) where
  pub opened_again : (st : Stacks) (ws more : List Word) → with_stack (opened_at st n ws) n more ≡ opened_at st n more
  opened_again st ws more = go st n
    where
      go : (st : Stacks) (n : ℕ) → set (opened_at st n ws) n (Some more) ≡ opened_at st n more
      go [] zero = refl
      go [] (suc k) = ap (λ (z : Stacks). None ∷ z) (go [] k)
      go (x ∷ xs) zero = refl
      go (x ∷ xs) (suc k) = ap (λ (z : Stacks). x ∷ z) (go xs k)

  pub opened_words : (st : Stacks) (ws : List Word) → stack_at (opened_at st n ws) n ≡ Some ws
  opened_words st ws = go st n
    where
      go : (st : Stacks) (n : ℕ) → stack_at (opened_at st n ws) n ≡ Some ws
      go [] zero = refl
      go [] (suc k) = go [] k
      go (x ∷ xs) zero = refl
      go (x ∷ xs) (suc k) = go xs k

  pub opened_is : (st new : Stacks) (ws : List Word) → new ≡ opened_at st n ws → IsSome (stack_at new n)
  opened_is st new ws e = ap (λ (z : Stacks). is_some (stack_at z n)) e ∙ ap is_some (opened_words st ws)

  pub opened_length : (st new : Stacks) (ws : List Word) → new ≡ opened_at st n ws → length (words_of new n) ≡ length ws
  opened_length st new ws e = ap (λ (z : Stacks). length (words_of z n)) e ∙ ap (λ (o : Option (List Word)). length (words_or o)) (opened_words st ws)

  pub opened_push : (st new newer : Stacks) (ws : List Word) (w : Word) → new ≡ opened_at st n ws → newer ≡ with_push new n w → newer ≡ opened_at st n (ws ++ w ∷ [])
  opened_push st new newer ws w e f =
      f ∙ ap (λ (z : Stacks). with_push z n w) e
      ∙ ap (λ (o : Option (List Word)). with_stack (opened_at st n ws) n (words_or o ++ w ∷ [])) (opened_words st ws)
      ∙ opened_again st ws (ws ++ w ∷ [])

  pub opened_others : (st new : Stacks) (ws : List Word) (k : ℕ) → k ≢ n → new ≡ opened_at st n ws → words_of new k ≡ words_of st k
  opened_others st new ws k h e = ap (λ (z : Stacks). words_of z k) e ∙ ap words_or (opened_other st n k ws h)

  -- the parameters stand above the first two words
  pub opened_all : (st new newer : Stacks) (ws : List Word) (k first count : ℕ) → k ≢ n → new ≡ opened_at st n ws
      → newer ≡ with_stack new n (words_of new n ++ take count (drop first (words_of new k)))
      → newer ≡ opened_at st n (ws ++ take count (drop first (words_of st k)))
  opened_all st new newer ws k first count h e f =
      let more = take count (drop first (words_of st k)) in
      f ∙ ap (λ (z : List Word). with_stack new n (words_of new n ++ take count (drop first z))) (opened_others st new ws k h e)
      ∙ ap (λ (z : Stacks). with_stack z n (words_of z n ++ more)) e
      ∙ ap (λ (o : Option (List Word)). with_stack (opened_at st n ws) n (words_or o ++ more)) (opened_words st ws)
      ∙ opened_again st ws (ws ++ more)
