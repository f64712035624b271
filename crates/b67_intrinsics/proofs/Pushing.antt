-- Words that are pushed one after another.
use Rattle.std.proofs.Common.{◌≡◌, refl, sym, ap, subst, ◌∙◌, ℕ, zero, suc, ◌+◌, ◌-◌, ◌≤◌, List, [], ◌∷◌, ◌++◌, length, drop, Option, Some, IsSome, Ok, slice_get, nat_le, Bool, set, arith}
use Rattle.std.specs.Prelude.{map, if◌then◌else◌}
use Rattle.std.proofs.lemmas.Bool.{le-leb}
use Rattle.b67_list.specs.Numbered.{numbered, set_numbered}
use Rattle.b67_word.specs.Word.{Word}
use Rattle.b67_control.specs.declared.Descriptor.{Descriptor}
use Rattle.b67_control.specs.declared.Mscw.{Mscw}
use Rattle.b67_control.specs.declared.Registers.{Registers}
use Rattle.b67_control.specs.Control.{descriptor_word}
use Rattle.b67_store.specs.Store.{Stacks, Rows, stack_at, words_of, words_or, with_push, with_cut, stack_limit}
use Rattle.b67_store.proofs.StoreLaws.{changed_here}
use Rattle.b67_table.specs.Arguments.{finished_at}
use Rattle.b67_table.specs.Image.{Image, with_stacks}
use Rattle.b67_table.specs.Effect as effects
use Rattle.b67_table.specs.Moves.{pushed}
use Rattle.b67_table.specs.Outcome.{gives, limit, limited}
use Rattle.b67_table.specs.Program.{Change, answer, changed, registers, done}
use Rattle.b67_table.specs.Table.{length_in, stack_length}
use Rattle.b67_reach.specs.Images.{own_of_image}
use Rattle.b67_reach.specs.Answers.{ProgramPerforms}
use Rattle.b67_intrinsics.specs.Arrays.{pushed_on}

-- ---- one word

pub pushed_words : (st : Stacks) (n : ℕ) (w : Word) → IsSome (stack_at st n) → words_of (with_push st n w) n ≡ words_of st n ++ w ∷ []
pushed_words st n w opened = ap words_or (changed_here st n (words_of st n ++ w ∷ []) opened)

pub still_open : (st : Stacks) (n : ℕ) (w : Word) → IsSome (stack_at st n) → IsSome (stack_at (with_push st n w) n)
still_open st n w opened = subst (λ (o : Option (List Word)). IsSome o) (sym (changed_here st n (words_of st n ++ w ∷ []) opened)) refl

-- ---- the words that are left

pub left_at : (xs : List Descriptor) (n : ℕ) (x : Descriptor) → slice_get xs n ≡ Some x → drop n xs ≡ x ∷ drop (n + 1) xs
left_at [] n x e = cc
left_at (y ∷ ys) zero x e = let p : y ≡ x = cc in ap (λ (z : Descriptor). z ∷ ys) p
left_at (y ∷ ys) (suc n) x e =
    let next : suc (n + 1) ≡ suc n + 1 = omega arith in
    left_at ys n x e ∙ ap (λ (k : ℕ). x ∷ drop k (y ∷ ys)) next

pub none_left : (xs : List Descriptor) (n : ℕ) → length xs ≤ n → drop n xs ≡ []
none_left [] zero h = refl
none_left [] (suc n) h = refl
none_left (x ∷ xs) zero h = absurd (omega (arith, h))
none_left (x ∷ xs) (suc n) h = none_left xs n (omega (arith, h))

-- what is pushed so far, and what is left, are all of them
abbrev pub ArePushed : Stacks → Stacks → ℕ → List Descriptor → ℕ → Type 0
ArePushed first now n xs at = pushed_on now n (map descriptor_word (drop at xs)) ≡ pushed_on first n (map descriptor_word xs)

pub pushed_more : (first now : Stacks) (n : ℕ) (xs : List Descriptor) (at : ℕ) (x : Descriptor) → slice_get xs at ≡ Some x → ArePushed first now n xs at
    → ArePushed first (with_push now n (descriptor_word x)) n xs (at + 1)
pushed_more first now n xs at x e so = ap (λ (ys : List Descriptor). pushed_on now n (map descriptor_word ys)) (sym (left_at xs at x e)) ∙ so

pub pushed_all : (first now : Stacks) (n : ℕ) (xs : List Descriptor) (at : ℕ) → length xs ≤ at → ArePushed first now n xs at → now ≡ pushed_on first n (map descriptor_word xs)
pushed_all first now n xs at h so = ap (λ (ys : List Descriptor). pushed_on now n (map descriptor_word ys)) (sym (none_left xs at h)) ∙ so

-- ---- as the table pushes them

pub pushed_is : (p : ℕ) (n : ℕ) (ws : List Word) (next : Change) (img : Image) → changed p (pushed n ws next) img ≡ changed p next (with_stacks img (pushed_on img.stacks n ws))
pushed_is p n [] next img = refl
pushed_is p n (w ∷ ws) next img = pushed_is p n ws next (with_stacks img (with_push img.stacks n w))

pub set_there : (xs : List Registers) (k : ℕ) (x y : Registers) → slice_get xs k ≡ Some x → slice_get (set xs k y) k ≡ Some y
set_there [] k x y e = cc
set_there (z ∷ zs) zero x y e = refl
set_there (z ∷ zs) (suc k) x y e = set_there zs k x y e

pub numbered_set : (xs : List Registers) (p : ℕ) (x y : Registers) → numbered xs p ≡ Some x → numbered (set_numbered xs p y) p ≡ Some y
numbered_set xs zero x y e = cc
numbered_set xs (suc k) x y e = set_there xs k x y e

-- the registers with which an intrinsic ends
abbrev pub ends : Registers → Mscw → ℕ → ℕ → Registers
ends r m count pointer = record r { s = r.f + count; f = r.f - m.df; place = pointer }

pub finished_all : (r : Registers) (m : Mscw) (ws : List Word) (pointer : ℕ) (st new : Stacks) (rows : Rows) → r.f + length ws ≤ stack_limit
    → new ≡ pushed_on (with_cut st r.stack r.f) r.stack ws
    → ProgramPerforms {A = Unit {0}} (answer (finished_at r m ws pointer)) (own_of_image st rows r) (own_of_image new rows (ends r m (length ws) pointer)) (Ok tt)
finished_all r m ws pointer st new rows room e = record {
  outcome = λ p img s t u.
      let last = ends r m (length ws) pointer in
      let regs = set_numbered img.regs p last in
      let after : Image = record img { stacks = pushed_on (with_cut img.stacks r.stack r.f) r.stack ws; regs = regs } in
      ap (λ (i : Image). limited (stack_length p) (effects.gives i)) (pushed_is p r.stack ws (registers last done) (with_stacks img (with_cut img.stacks r.stack r.f)))
      ∙ ap (λ (n : ℕ). if nat_le n stack_limit then gives after else limit) (ap length_in (numbered_set img.regs p r last u))
      ∙ ap (λ (b : Bool). if b then gives after else limit) (le-leb (r.f + length ws) stack_limit room)
      ∙ ap (λ (z : Stacks). gives (record img { stacks = pushed_on (with_cut z r.stack r.f) r.stack ws; regs = regs })) s
      ∙ ap (λ (z : Stacks). gives (record img { stacks = z; regs = regs })) (sym e)
      ∙ ap (λ (z : Rows). gives (record img { stacks = new; rows = z; regs = regs })) t;
  stays = tt;
}
