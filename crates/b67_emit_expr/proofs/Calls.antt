-- A call: its beginning, what lies on it, and the entry.
use Rattle.std.proofs.Common.{◌≡◌, ℕ, List, refl, subst, arith}
use Rattle.algol_tree.specs.declared.tree.Named.{Named}
use Rattle.algol_tree.specs.Scopes.{Scopes}
use Rattle.b67_ops.specs.declared.Operator.TheVariants as ops
use Rattle.b67_ops.specs.declared.PlainKind.TheVariants as kinds
use Rattle.b67_segment.specs.Operators.{Placed, size}
use Rattle.b67_segment.specs.Building.{Built, level_set}
use Rattle.b67_templates.specs.Contexts.{Context}
use Rattle.b67_templates.specs.Code.{BegunAt, CallAt}
use Rattle.b67_templates.specs.Fragments.{Has}
use Rattle.b67_templates.specs.Emitting.{Emitted}
use Rattle.b67_emitter.proofs.Appends.{same_level}
use Rattle.b67_emitter.proofs.Composing.{then, weaker}

-- nothing was appended
pub emitted_none : (a : Built) (P : List Placed → Type 0) → ((qs : List Placed) → P qs) → Emitted a a P
emitted_none a P h = record { level = refl; grown = omega arith; kept = λ at level next op lo hi s. s; claimed = λ qs k. h qs }

pub call_part : (scopes : Scopes) (context : Context) (n : Named) (callee : ℕ) (a b c d : Built) (On : List Placed → ℕ → ℕ → Type 0) → c.level ≡ a.level →
    Emitted a b (λ qs. BegunAt scopes context qs (level_set a) n callee (size a.operators) (size b.operators)) →
    Emitted b c (λ qs. On qs (size b.operators) (size c.operators)) →
    Emitted c d (λ qs. Has qs (level_set c) (size c.operators) (ops.Plain kinds.Entr) (size d.operators)) →
    Emitted a d (λ qs. CallAt scopes context qs (level_set a) n callee (On qs) (size a.operators) (size d.operators))
call_part scopes context n callee a b c d On same begun on enter =
    let E : ℕ → Type 0 = λ l. Emitted c d (λ qs. Has qs l (size c.operators) (ops.Plain kinds.Entr) (size d.operators)) in
    weaker (λ qs. CallAt scopes context qs (level_set a) n callee (On qs) (size a.operators) (size d.operators))
    (then begun (then on (subst E (same_level a c same) enter)))
    (λ qs p. (size b.operators, size c.operators, p.0, p.1.0, p.1.1))

-- the same where the entry was appended with what lies on it
pub call_filled : (scopes : Scopes) (context : Context) (n : Named) (callee : ℕ) (a b d : Built) (On : List Placed → ℕ → ℕ → Type 0) →
    Emitted a b (λ qs. BegunAt scopes context qs (level_set a) n callee (size a.operators) (size b.operators)) →
    Emitted b d (λ qs. (m : ℕ) × On qs (size b.operators) m × Has qs (level_set a) m (ops.Plain kinds.Entr) (size d.operators)) →
    Emitted a d (λ qs. CallAt scopes context qs (level_set a) n callee (On qs) (size a.operators) (size d.operators))
call_filled scopes context n callee a b d On begun on =
    weaker (λ qs. CallAt scopes context qs (level_set a) n callee (On qs) (size a.operators) (size d.operators)) (then begun on)
    (λ qs p. (size b.operators, p.1.0, p.0, p.1.1, p.1.2))
