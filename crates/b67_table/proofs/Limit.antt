-- The stack limit comes after all else.
use Rattle.std.proofs.Common.{◌≡◌, refl, ap, subst, ◌∙◌, ℕ, ◌<◌, ◌≤◌, Bool, true, false, cond}
use Rattle.std.specs.Prelude.{nat_le}
use Rattle.std.proofs.lemmas.Bool.{leb-true, leb-false, le-leb, lt-leb}
use Rattle.b67_num.specs.declared.FaultKind.{FaultKind}
use Rattle.b67_store.specs.Store.{stack_limit}
use Rattle.b67_table.specs.declared.InterruptKind.{InterruptKind}
use Rattle.b67_table.specs.Effect.{Effect, gives, faults, interrupts}
use Rattle.b67_table.specs.Outcome.{Outcome, limited}
use Rattle.b67_table.specs.Outcome as outcomes
use Rattle.b67_table.specs.Image.{Image}
use Rattle.b67_table.specs.Table.{raw, table, stack_length}
use Rattle.b67_table.specs.Laws.{LimitComesLast}

module _ (size : Image → ℕ) where
  by_size : Bool → Image → Outcome Image
  by_size b a = cond b (outcomes.gives a) outcomes.limit

  -- a new image whose stack is not too long is given
  pub fits : (a : Image) → size a ≤ stack_limit → limited size (gives a) ≡ outcomes.gives a
  unfolding by_size
  fits a h = ap (λ (b : Bool). by_size b a) (le-leb (size a) stack_limit h)

  exceeds : (a : Image) → stack_limit < size a → limited size (gives a) ≡ outcomes.limit
  unfolding by_size
  exceeds a h = ap (λ (b : Bool). by_size b a) (lt-leb (size a) stack_limit h)

  new_by : (a new : Image) (b : Bool) → nat_le (size a) stack_limit ≡ b → by_size b a ≡ outcomes.gives new → (gives a ≡ gives new) × (size new ≤ stack_limit)
  unfolding by_size
  new_by a new true i e =
      let same : a ≡ new = cc in (ap gives same, subst (λ (x : Image). size x ≤ stack_limit) same (leb-true (size a) stack_limit i))
  new_by a new false i e = cc

  pub new_of : (e : Effect Image) (new : Image) → limited size e ≡ outcomes.gives new → (e ≡ gives new) × (size new ≤ stack_limit)
  unfolding by_size
  new_of (gives a) new e = new_by a new (nat_le (size a) stack_limit) refl e
  new_of (faults kind) new e = cc
  new_of (interrupts kind) new e = cc

  limit_by : (a : Image) (b : Bool) → nat_le (size a) stack_limit ≡ b → by_size b a ≡ outcomes.limit
      → (new : Image) × (gives a ≡ gives new) × (stack_limit < size new)
  unfolding by_size
  limit_by a true i e = cc
  limit_by a false i e = (a, refl, leb-false (size a) stack_limit i)

  limit_of : (e : Effect Image) → limited size e ≡ outcomes.limit → (new : Image) × (e ≡ gives new) × (stack_limit < size new)
  unfolding by_size
  limit_of (gives a) e = limit_by a (nat_le (size a) stack_limit) refl e
  limit_of (faults kind) e = cc
  limit_of (interrupts kind) e = cc

  fault_by : (a : Image) (b : Bool) (kind : FaultKind) → by_size b a ≡ outcomes.faults kind → ⊥
  unfolding by_size
  fault_by a true kind e = cc
  fault_by a false kind e = cc

  fault_of : (e : Effect Image) (kind : FaultKind) → limited size e ≡ outcomes.faults kind → e ≡ faults kind
  unfolding by_size
  fault_of (gives a) kind e = absurd (fault_by a (nat_le (size a) stack_limit) kind e)
  fault_of (faults k) kind e = let same : k ≡ kind = cc in ap faults same
  fault_of (interrupts k) kind e = cc

  interrupt_by : (a : Image) (b : Bool) (kind : InterruptKind) → by_size b a ≡ outcomes.interrupts kind → ⊥
  unfolding by_size
  interrupt_by a true kind e = cc
  interrupt_by a false kind e = cc

  interrupt_of : (e : Effect Image) (kind : InterruptKind) → limited size e ≡ outcomes.interrupts kind → e ≡ interrupts kind
  unfolding by_size
  interrupt_of (gives a) kind e = absurd (interrupt_by a (nat_le (size a) stack_limit) kind e)
  interrupt_of (faults k) kind e = cc
  interrupt_of (interrupts k) kind e = let same : k ≡ kind = cc in ap interrupts same

pub limit_comes_last : LimitComesLast
unfolding table
limit_comes_last = record {
  new = λ code img new p.
      (new_of (stack_length p) (raw code img p) new, λ t. ap (limited (stack_length p)) t.0 ∙ fits (stack_length p) new t.1);
  fault = λ code img p kind. (fault_of (stack_length p) (raw code img p) kind, λ e. ap (limited (stack_length p)) e);
  interrupt = λ code img p kind. (interrupt_of (stack_length p) (raw code img p) kind, λ e. ap (limited (stack_length p)) e);
  limit = λ code img p.
      (limit_of (stack_length p) (raw code img p), λ t. ap (limited (stack_length p)) t.1 ∙ exceeds (stack_length p) t.0 t.2);
}
