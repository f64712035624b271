-- An image with a process more: what it has, and that all others have what they had.
use Rattle.std.proofs.Common.{◌≡◌, ◌≢◌, refl, sym, ap, ◌∙◌, ℕ, zero, suc, ◌+◌, ◌≤◌, List, [], ◌∷◌, ◌++◌, length, Some, arith, append-nil}
use Rattle.b67_list.proofs.Lists.{get_within}
use Rattle.b67_rows.proofs.Prelude.{numbered, set_numbered, Word, Registers, opened_others, Stacks, stack_at, Image, Core, IsCore, HasCore, stack_of, with_core}
use Rattle.b67_store.specs.Store.{opened_at}
use Rattle.b67_store.proofs.StoreLaws.{opened_here}
use Rattle.b67_table.specs.Image.{is_live}
use Rattle.b67_table.specs.declared.ProcessState.TheVariants.{Able}
use Rattle.b67_table.proofs.Stacks.{open_set_other}
use Rattle.b67_table.proofs.EventKept.{within_of}
use Rattle.b67_table.proofs.Begun.{others_are}
use Rattle.b67_rows.proofs.Growing.{numbered_last}
use Rattle.b67_rows.proofs.StackWords.{set_front}

-- ---- one more at the end of a list

pub numbered_else : {A : Type 0} (xs : List A) (x : A) (n : ℕ) → n ≢ length xs + 1 → numbered (xs ++ x ∷ []) n ≡ numbered xs n
numbered_else xs x zero h = refl
numbered_else xs x (suc k) h = others_are xs x k (λ e. h (omega (arith, e)))

pub numbered_few : {A : Type 0} (xs : List A) (n : ℕ) (x : A) → numbered xs n ≡ Some x → (1 ≤ n) × (n ≤ length xs)
numbered_few xs zero x e = cc
numbered_few xs (suc k) x e = (omega arith, let low = get_within xs k x e in omega (arith, low))

pub set_numbered_front : {A : Type 0} (xs ys : List A) (n : ℕ) (x y : A) → numbered xs n ≡ Some y → set_numbered (xs ++ ys) n x ≡ set_numbered xs n x ++ ys
set_numbered_front xs ys zero x y e = cc
set_numbered_front xs ys (suc k) x y e = set_front xs ys k x y e

-- ---- the image

-- a process with these registers, and with these words for its stack, is able, and has the next number
abbrev pub with_process : Image → Registers → List Word → Image
with_process img r words =
    record img { stacks = opened_at img.stacks r.stack words; regs = img.regs ++ r ∷ []; states = img.states ++ Able ∷ []; numbers = img.numbers ++ 0 ∷ []; started = img.started + 1 }

-- it is the same whether another process has another core before or after that
pub core_beside : (img : Image) (r : Registers) (words : List Word) (p : ℕ) (core : Core) (old : List Word) (o : Registers) → stack_at img.stacks core.registers.stack ≡ Some old → numbered img.regs p ≡ Some o →
    r.stack ≢ core.registers.stack → with_core (with_process img r words) p core ≡ with_process (with_core img p core) r words
core_beside img r words p core old o there has apart =
    ap (λ (ss : Stacks). record (with_core (with_process img r words) p core) { stacks = ss })
    (sym (open_set_other img.stacks core.registers.stack r.stack old words (Some (stack_of core)) apart there))
    ∙ ap (λ (rs : List Registers). record (with_process (with_core img p core) r words) { regs = rs }) (set_numbered_front img.regs (r ∷ []) p core.registers o has)

-- its core: nothing lies above its cells
abbrev pub core_of : Registers → List Word → Core
core_of r words = record { below = words; words = []; registers = r }

module _ (img : Image) (r : Registers) (words : List Word) (next : r.stack ≡ length img.states + 1) (many : length img.regs ≡ length img.states) where
  regs_next : r.stack ≡ length img.regs + 1
  regs_next = omega (arith, next, many)

  pub begun_state : numbered (with_process img r words).states r.stack ≡ Some Able
  begun_state = numbered_last img.states Able r.stack next

  pub begun_has : IsCore (core_of r words) → HasCore (with_process img r words) r.stack (core_of r words)
  begun_has is =
      record {
        live = ap is_live begun_state;
        registers = numbered_last img.regs r r.stack regs_next;
        own = refl;
        stack = opened_here img.stacks r.stack words ∙ ap (λ (ws : List Word). Some ws) (sym (append-nil words));
        is = is;
      }

  -- the stacks of others are as they were
  pub other_stack : (n : ℕ) → n ≢ r.stack → stack_at (with_process img r words).stacks n ≡ stack_at img.stacks n
  other_stack n h = opened_others img.stacks r.stack n words h

  pub other_state : (q : ℕ) → q ≢ r.stack → numbered (with_process img r words).states q ≡ numbered img.states q
  other_state q h = numbered_else img.states Able q (λ e. h (e ∙ sym next))

  -- so is the core of each process that lives
  pub others_stay : (q : ℕ) (core : Core) → HasCore img q core → HasCore (with_process img r words) q core
  others_stay q core has =
      record {
        live = ap is_live (other_state q apart) ∙ has.live;
        registers = numbered_else img.regs r q (λ e. apart (e ∙ sym regs_next)) ∙ has.registers;
        own = has.own;
        stack = other_stack core.registers.stack (λ e. apart (sym has.own ∙ e)) ∙ has.stack;
        is = has.is;
      }
    where
      apart : q ≢ r.stack
      apart e = absurd (omega (arith, e, next, (within_of img.states q has.live).1))

  -- and the system's stack
  pub system_kept : stack_at (with_process img r words).stacks 0 ≡ stack_at img.stacks 0
  system_kept = other_stack 0 (λ e. absurd (omega (arith, e, next)))
