-- What the table gives for an operator: exactly one of a new value, a fault, an interrupt, or the stack limit. The limit comes last: a
-- row knows nothing of it, and a new value whose stack would be too long is the limit.
use Rattle.std.specs.Prelude.{ℕ, nat_le, if◌then◌else◌}
use Rattle.b67_num.specs.declared.FaultKind.{FaultKind}
use Rattle.b67_store.specs.Store.{stack_limit}
use Rattle.b67_table.specs.declared.InterruptKind.{InterruptKind}
use Rattle.b67_table.specs.Effect.{Effect}
use Rattle.b67_table.specs.Effect as effects

pub data Outcome (A : Type 0) : Type 0 where
  gives : A → Outcome A
  faults : FaultKind → Outcome A
  interrupts : InterruptKind → Outcome A
  limit : Outcome A

-- the effect, or the stack limit in place of a new value whose stack has more words than a stack can have
abbrev pub limited : {A : Type 0} → (A → ℕ) → Effect A → Outcome A
limited length_of (effects.gives a) = if nat_le (length_of a) stack_limit then gives a else limit
limited length_of (effects.faults kind) = faults kind
limited length_of (effects.interrupts kind) = interrupts kind
