-- The word on top of a core's stack, and another one in its place; words that are pushed.
use Rattle.std.proofs.Common.{◌≡◌, sym, ap, ◌∙◌, ℕ, ◌+◌, ◌-◌, List, [], ◌∷◌, ◌++◌, length, take, Some, arith, append_assoc, append-nil}
use Rattle.b67_rows.proofs.Prelude.{slice_get, reverse, Word, Registers, Stacks, stack_at, words_of, word_at, with_stack, with_push, with_cut, Image, with_stacks, pushed, Change, changed, Core, HasCore, stack_of, reverse_cons}
use Rattle.b67_rows.proofs.Rows.{words_are}
use Rattle.b67_rows.proofs.StackWords.{word_over, cut_stack, words_set, set_set}

-- ---- words that are pushed

module _ (p : ℕ) (img : Image) (stack : ℕ) (words : List Word) (there : stack_at img.stacks stack ≡ Some words) where
  push_one : (front : List Word) (w : Word) → with_push (with_stack img.stacks stack front) stack w ≡ with_stack img.stacks stack (front ++ w ∷ [])
  push_one front w =
      ap (λ (ws : List Word). with_stack (with_stack img.stacks stack front) stack (ws ++ w ∷ [])) (words_set img.stacks stack words front there)
      ∙ set_set img.stacks stack front (front ++ w ∷ [])

  pub pushed_do : (ws front : List Word) (next : Change) →
      changed p (pushed stack ws next) (with_stacks img (with_stack img.stacks stack front)) ≡ changed p next (with_stacks img (with_stack img.stacks stack (front ++ ws)))
  pushed_do [] front next = ap (λ (us : List Word). changed p next (with_stacks img (with_stack img.stacks stack us))) (sym (append-nil front))
  pushed_do (w ∷ ws) front next =
      ap (λ (ss : Stacks). changed p (pushed stack ws next) (with_stacks img ss)) (push_one front w)
      ∙ pushed_do ws (front ++ w ∷ []) next
      ∙ ap (λ (us : List Word). changed p next (with_stacks img (with_stack img.stacks stack us))) (append_assoc front (w ∷ []) ws)

-- ---- the word on top

-- the core with another word in place of the one on top
abbrev pub with_other : Core → Word → List Word → ℕ → Core
with_other core w words next = record core { words = w ∷ words; registers = record core.registers { s = core.registers.s - 1 + 1; place = next } }

module _ (img : Image) (p : ℕ) (core : Core) (has : HasCore img p core) (x : Word) (words : List Word) (top : core.words ≡ x ∷ words) where
  abbrev r : Registers
  r = core.registers

  whole : words_of img.stacks r.stack ≡ core.below ++ reverse (x ∷ words)
  whole = words_are img p core has ∙ ap (λ (ws : List Word). core.below ++ reverse ws) top

  pub one_long : r.s ≡ length core.below + length words + 1
  one_long = omega (arith, has.is.top, ap length top)

  pub word_on_top : word_at img.stacks (record { stack = r.stack; at = r.s - 1 }) ≡ Some x
  word_on_top = ap (λ (ws : List Word). slice_get ws (r.s - 1)) whole ∙ word_over core.below x words (r.s - 1) (omega (arith, one_long))

  -- the stack without the word on top
  pub top_cut : with_cut img.stacks r.stack (r.s - 1) ≡ with_stack img.stacks r.stack (core.below ++ reverse words)
  top_cut =
      ap (λ (ws : List Word). with_stack img.stacks r.stack (take (r.s - 1) ws)) whole
      ∙ ap (λ (ws : List Word). with_stack img.stacks r.stack ws) (cut_stack core.below (x ∷ []) words (r.s - 1) (omega (arith, one_long)))

  -- .. with another one in its place
  pub top_replaced : (w : Word) → with_push (with_cut img.stacks r.stack (r.s - 1)) r.stack w ≡ with_stack img.stacks r.stack (core.below ++ reverse (w ∷ words))
  top_replaced w =
      ap (λ (ss : Stacks). with_stack ss r.stack (words_of ss r.stack ++ w ∷ [])) top_cut
      ∙ ap (λ (ws : List Word). with_stack (with_stack img.stacks r.stack (core.below ++ reverse words)) r.stack (ws ++ w ∷ []))
      (words_set img.stacks r.stack (stack_of core) (core.below ++ reverse words) has.stack)
      ∙ set_set img.stacks r.stack (core.below ++ reverse words) ((core.below ++ reverse words) ++ w ∷ [])
      ∙ ap (λ (ws : List Word). with_stack img.stacks r.stack ws) (append_assoc core.below (reverse words) (w ∷ []) ∙ ap (λ (ws : List Word). core.below ++ ws) (sym (reverse_cons w words)))
