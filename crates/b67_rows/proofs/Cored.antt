-- An image with another core of a process.
use Rattle.std.proofs.Common.{◌≡◌, ◌≢◌, refl, sym, ap, ◌∙◌, ℕ, zero, suc, List, [], ◌∷◌, Some}
use Rattle.b67_list.proofs.Numbered.{numbered_set}
use Rattle.b67_list.proofs.Numbers.{none_some}
use Rattle.b67_rows.proofs.Prelude.{numbered, Process, World, Word, Stacks, stack_at, with_stack, Image, Core, IsCore, HasCore, with_core, stack_of}
use Rattle.b67_rows.proofs.Numbers.{numbered_other}

pub stack_set : (stacks : Stacks) (n : ℕ) (ws vs : List Word) → stack_at stacks n ≡ Some ws → stack_at (with_stack stacks n vs) n ≡ Some vs
stack_set [] n ws vs e = cc
stack_set (z ∷ zs) zero ws vs e = refl
stack_set (z ∷ zs) (suc n) ws vs e = stack_set zs n ws vs e

pub stack_other : (stacks : Stacks) (n m : ℕ) (vs : List Word) → n ≢ m → stack_at (with_stack stacks n vs) m ≡ stack_at stacks m
stack_other [] n m vs h = refl
stack_other (z ∷ zs) zero zero vs h = absurd (h refl)
stack_other (z ∷ zs) zero (suc m) vs h = refl
stack_other (z ∷ zs) (suc n) zero vs h = refl
stack_other (z ∷ zs) (suc n) (suc m) vs h = stack_other zs n m vs (λ e. h (ap suc e))

module _ (img : Image) (p : ℕ) (core new : Core) (has : HasCore img p core) (same : new.registers.stack ≡ core.registers.stack) where
  pub registers_now : numbered (with_core img p new).regs p ≡ Some new.registers
  registers_now = numbered_set img.regs p core.registers new.registers has.registers

  -- the process has it
  pub has_now : IsCore new → HasCore (with_core img p new) p new
  has_now is =
      record {
        live = has.live;
        registers = registers_now;
        own = same ∙ has.own;
        stack = stack_set img.stacks new.registers.stack (stack_of core) (stack_of new) (ap (λ (n : ℕ). stack_at img.stacks n) same ∙ has.stack);
        is = is;
      }

  -- each other process has the core that it had
  pub others_have : (q : ℕ) (other : Core) → q ≢ p → HasCore img q other → HasCore (with_core img p new) q other
  others_have q other apart h =
      record {
        live = h.live;
        registers = numbered_other img.regs p q new.registers (λ e. apart (sym e)) ∙ h.registers;
        own = h.own;
        stack = stack_other img.stacks new.registers.stack other.registers.stack (stack_of new) (λ e. apart (sym h.own ∙ sym e ∙ same ∙ has.own)) ∙ h.stack;
        is = h.is;
      }

  -- the system's stack stays
  pub system_stays : (q : Process) (w : World) → numbered w.processes p ≡ Some q → stack_at (with_core img p new).stacks 0 ≡ stack_at img.stacks 0
  system_stays q w at =
      stack_other img.stacks new.registers.stack 0 (stack_of new) (λ (e : new.registers.stack ≡ 0). none_some (ap (λ (n : ℕ). numbered w.processes n) (sym e ∙ same ∙ has.own) ∙ at))
