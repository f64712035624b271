-- An image with another word at a place of the stack of a process: that process has it in its core, and the others have their cores.
use Rattle.std.proofs.Common.{◌≡◌, ◌≢◌, refl, sym, ap, ◌∙◌, ℕ, ◌<◌, List, length, Option, Some, None, arith}
use Rattle.b67_pictures.proofs.Prelude.{slice_set, reverse, numbered, Word, Place, stack_at, words_or, with_word, place, Image, with_stacks, is_live, Core, over, HasCore, stack_other, IsStored, put, length_put}
use Rattle.b67_cores.specs.Cores.{stack_of}
use Rattle.b67_rows.proofs.Cored.{stack_set}
use Rattle.b67_scenes.proofs.StoringFrames.{put_first}

-- the image with the word there, if there is one
abbrev pub put_word : Option Word → Image → Place → Image
put_word None img at = img
put_word (Some x) img at = with_stacks img (with_word img.stacks at x)

-- the stacks are the only change
pub record IsOnlyStored (img later : Image) : Type 0 where
  pub rows : later.rows ≡ img.rows
  pub events : later.events ≡ img.events
  pub lists : later.lists ≡ img.lists
  pub numbers : later.numbers ≡ img.numbers
  pub states : later.states ≡ img.states
  pub registers : later.regs ≡ img.regs
  pub output : later.output ≡ img.output
  pub fault : later.fault ≡ img.fault
  pub started : later.started ≡ img.started

module _ (img : Image) (n k : ℕ) where
  -- the stack has it
  stack_put : (word : Option Word) (ws : List Word) → stack_at img.stacks n ≡ Some ws → stack_at (put_word word img (place n k)).stacks n ≡ Some (put word ws k)
  stack_put None ws is = is
  stack_put (Some x) ws is =
      stack_set img.stacks n ws (slice_set (words_or (stack_at img.stacks n)) k x) is ∙ ap (λ (o : Option (List Word)). Some (slice_set (words_or o) k x)) is

  -- and each other stack is as it was
  pub stacks_beside : (word : Option Word) (m : ℕ) → n ≢ m → stack_at (put_word word img (place n k)).stacks m ≡ stack_at img.stacks m
  stacks_beside None m apart = refl
  stacks_beside (Some x) m apart = stack_other img.stacks n m (slice_set (words_or (stack_at img.stacks n)) k x) apart

  pub put_only : (word : Option Word) → IsOnlyStored img (put_word word img (place n k))
  put_only None = record { rows = refl; events = refl; lists = refl; numbers = refl; states = refl; registers = refl; output = refl; fault = refl; started = refl }
  put_only (Some x) = record { rows = refl; events = refl; lists = refl; numbers = refl; states = refl; registers = refl; output = refl; fault = refl; started = refl }

  pub core_beside : (word : Option Word) (m : ℕ) (core : Core) → m ≢ n → HasCore img m core → HasCore (put_word word img (place n k)) m core
  core_beside word m core apart has =
      record {
        live = ap (λ ss. is_live (numbered ss m)) (put_only word).states ∙ has.live;
        registers = ap (λ rs. numbered rs m) (put_only word).registers ∙ has.registers;
        own = has.own;
        stack = stacks_beside word core.registers.stack (λ (e : n ≡ core.registers.stack). apart (sym has.own ∙ sym e)) ∙ has.stack;
        is = has.is;
      }

  pub core_put : (word : Option Word) (core : Core) → (IsStored word → k < length core.below) → HasCore img n core → HasCore (put_word word img (place n k)) n (over (put word core.below k) core)
  core_put word core low has =
      record {
        live = ap (λ ss. is_live (numbered ss n)) (put_only word).states ∙ has.live;
        registers = ap (λ rs. numbered rs n) (put_only word).registers ∙ has.registers;
        own = has.own;
        stack = ap (λ (m : ℕ). stack_at (put_word word img (place n k)).stacks m) has.own
            ∙ stack_put word (stack_of core) (ap (λ (m : ℕ). stack_at img.stacks m) (sym has.own) ∙ has.stack)
            ∙ ap (λ (ws : List Word). Some ws) (put_first word core.below (reverse core.words) k low);
        is = record { bottom = length_put word core.below k ∙ has.is.bottom; top = omega (arith, has.is.top, length_put word core.below k) };
      }
