-- A private part is taken out of the stacks and put back, and what its operator makes of an image.
use Rattle.std.proofs.Common.{◌≡◌, refl, sym, ap, ◌∙◌, ℕ, zero, suc, ◌+◌, ◌-◌, ◌<◌, ◌≤◌, List, [], ◌∷◌, ◌++◌, length, take, drop, reverse, slice_get, Option, Some, None, IsSome, arith}
use Rattle.std.proofs.lemmas.List.{reverse-append, drop-append-le, length-drop, length-append, length-reverse, append-nil}
use Rattle.std.proofs.Math.Seq.{drop-length}
use Rattle.std.proofs.lemmas.Option.{slice_get_within}
use Rattle.b67_word.specs.Word.{Word}
use Rattle.b67_store.specs.Store.{Stacks, stack_at, words_of, words_or, with_stack, with_push}
use Rattle.b67_table.proofs.Stacks.{set_here}
use Rattle.b67_going.proofs.Opened.{append_twice, one_taken}
use Rattle.b67_intrinsics.proofs.Calling.{drop_at}
use Rattle.b67_list.proofs.Lists.{set_set_here}

-- ---- words that are taken

step_suc : (n : ℕ) → n + 1 ≡ suc n
step_suc n = omega arith

long_taken : (ws : List Word) (i : ℕ) → i ≤ length ws → i ≤ length (take i ws)
long_taken ws zero h = omega arith
long_taken [] (suc i) h = h
long_taken (x ∷ ws) (suc i) h = omega (arith, long_taken ws i (omega (arith, h)))

pub next_taken : (ws : List Word) (base at : ℕ) (w : Word) → base ≤ at → slice_get ws at ≡ Some w → reverse (drop base (take (at + 1) ws)) ≡ w ∷ reverse (drop base (take at ws))
next_taken ws base at w h e =
    let long : base ≤ length (take at ws) = omega (arith, h, long_taken ws at (omega (arith, slice_get_within ws at w e))) in
    ap (λ (n : ℕ). reverse (drop base (take n ws))) (step_suc at)
    ∙ ap (λ (z : List Word). reverse (drop base z)) (sym (one_taken ws at w e))
    ∙ ap reverse (drop-append-le base (take at ws) (w ∷ []) long)
    ∙ reverse-append (drop base (take at ws)) (w ∷ [])

-- ---- words that are put back

pub none_put : (under words : List Word) (n : ℕ) → n ≡ length words → under ++ reverse (drop n words) ≡ under
none_put under words n e =
    ap (λ (k : ℕ). under ++ reverse (drop k words)) e ∙ ap (λ (z : List Word). under ++ reverse z) (drop-length words) ∙ append-nil under

pub next_put : (under words : List Word) (n : ℕ) (w : Word) → slice_get words n ≡ Some w → (under ++ reverse (drop (suc n) words)) ++ w ∷ [] ≡ under ++ reverse (drop n words)
next_put under words n w e =
    append_twice under (reverse (drop (suc n) words)) (w ∷ [])
    ∙ ap (λ (z : List Word). under ++ z) (sym (ap reverse (drop_at words n w e) ∙ reverse-append (w ∷ []) (drop (suc n) words)))

module _ (st : Stacks) (n : ℕ) (there : IsSome (stack_at st n)) where
  words_there : (o : Option (List Word)) → IsSome o → o ≡ Some (words_or o)
  words_there None s = absurd cc
  words_there (Some ws) s = refl

  pub own_words : (ws : List Word) → stack_at (with_stack st n ws) n ≡ Some ws
  own_words ws = set_here st n (words_of st n) ws (words_there (stack_at st n) there)

  pub one_pushed : (ws : List Word) (w : Word) → with_push (with_stack st n ws) n w ≡ with_stack st n (ws ++ w ∷ [])
  one_pushed ws w =
      ap (λ (o : Option (List Word)). with_stack (with_stack st n ws) n (words_or o ++ w ∷ [])) (own_words ws) ∙ set_set_here st n (Some ws) (Some (ws ++ w ∷ []))

pub is_there : (ws : List Word) (n : ℕ) → n < length ws → IsSome (slice_get ws n)
is_there [] n h = absurd (omega (arith, h))
is_there (x ∷ ws) zero h = refl
is_there (x ∷ ws) (suc n) h = is_there ws n (omega (arith, h))

pub put_long : (under words : List Word) (base n : ℕ) → length (take base under ++ reverse (drop n words)) ≤ base + (length words - n)
put_long under words base n =
    omega (arith, length-append (take base under) (reverse (drop n words)), short under base, length-reverse (drop n words), length-drop n words)
  where
    short : (ws : List Word) (k : ℕ) → length (take k ws) ≤ k
    short ws zero = omega arith
    short [] (suc k) = omega arith
    short (x ∷ ws) (suc k) = omega (arith, short ws k)
