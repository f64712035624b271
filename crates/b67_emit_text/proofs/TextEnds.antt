-- The end of a text: EXIT, or its result is read and given back.
use Rattle.std.proofs.Common.{◌≡◌, ℕ, Option, Some, None, sym, subst, ◌∙◌, arith}
use Rattle.b67_ops.specs.declared.Operator.TheVariants as ops
use Rattle.b67_ops.specs.declared.PlainKind.TheVariants as kinds
use Rattle.b67_ops.specs.Spelling.{CoupleIsSeen}
use Rattle.b67_segment.specs.Operators.{size}
use Rattle.b67_segment.specs.Building.{Built, level_set}
use Rattle.b67_templates.specs.Fragments.{Has}
use Rattle.b67_templates.specs.Emitting.{Emitted}
use Rattle.b67_emitter.proofs.Composing.{then, weaker}
use Rattle.b67_emitter.proofs.Appends.{same_level}
use Rattle.b67_emit_text.specs.Codes.{EndingAt, IsNear, result_couple}
use Rattle.b67_emit_stmt.proofs.Names.{seen}
use Rattle.b67_emit_stmt.proofs.Parts.{leveled}

-- the cell of the result can be named there
pub result_seen : (l level : ℕ) (returned : Option ℕ) (index : ℕ) → level ≡ l → IsNear returned → returned ≡ Some index → CoupleIsSeen l (result_couple level index)
result_seen l level returned index at near is =
    let close : IsNear (Some index) = subst IsNear is near in
    seen l (result_couple level index) (omega (arith, at)) (omega (arith, close))

pub result_ends : (returned : Option ℕ) (level index : ℕ) (a b c : Built) → returned ≡ Some index → level ≡ level_set a → b.level ≡ a.level →
    Emitted a b (λ qs. Has qs (level_set a) (size a.operators) (ops.Valc (result_couple level index)) (size b.operators)) →
    Emitted b c (λ qs. Has qs (level_set b) (size b.operators) (ops.Plain kinds.Retn) (size c.operators)) →
    Emitted a c (λ qs. EndingAt returned qs level (size a.operators))
result_ends returned level index a b c is at same h k =
    let E : Option ℕ → Type 0 = λ o. Emitted a c (λ qs. EndingAt o qs level (size a.operators)) in
    subst E (sym is)
    (weaker (λ qs. EndingAt (Some index) qs level (size a.operators))
    (then (leveled (λ l qs. Has qs l (size a.operators) (ops.Valc (result_couple level index)) (size b.operators)) level (sym at) h)
    (leveled (λ l qs. Has qs l (size b.operators) (ops.Plain kinds.Retn) (size c.operators)) level (same_level a b same ∙ sym at) k))
    (λ qs p. (size b.operators, size c.operators, p.0, p.1)))

pub exit_ends : (returned : Option ℕ) (level : ℕ) (a b : Built) → returned ≡ None → level ≡ level_set a →
    Emitted a b (λ qs. Has qs (level_set a) (size a.operators) (ops.Plain kinds.Exit) (size b.operators)) →
    Emitted a b (λ qs. EndingAt returned qs level (size a.operators))
exit_ends returned level a b is at h =
    let E : Option ℕ → Type 0 = λ o. Emitted a b (λ qs. EndingAt o qs level (size a.operators)) in
    subst E (sym is)
    (weaker (λ qs. EndingAt None qs level (size a.operators))
    (leveled (λ l qs. Has qs l (size a.operators) (ops.Plain kinds.Exit) (size b.operators)) level (sym at) h) (λ qs p. (size b.operators, p)))
