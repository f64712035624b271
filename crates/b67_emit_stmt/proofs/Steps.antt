-- The test of FOR after the difference.
use Rattle.std.proofs.Common.{◌≡◌, ℕ, zero, suc, ◌+◌, ◌≤◌, ℤ, true, false, refl, sym, subst, arith, lit≤}
use Rattle.std.proofs.lemmas.Bool.{lt-ltb}
use Rattle.std.specs.Prelude.{List, pos, negsuc, Some, int_lt, [], ◌∷◌}
use Rattle.algol_tree.specs.declared.tree.Kind.TheVariants as types
use Rattle.algol_tree.specs.Plain.{PExpr}
use Rattle.b67_emit_stmt.specs.Places.{Later, Place, ExprAt, PastAt, SignedAt, StepAt}
use Rattle.b67_ops.specs.declared.Operator.TheVariants as ops
use Rattle.b67_ops.specs.declared.PlainKind.{PlainKind}
use Rattle.b67_ops.specs.declared.PlainKind.TheVariants as kinds
use Rattle.b67_ops.specs.declared.BranchKind.TheVariants.{Brtr}
use Rattle.b67_segment.specs.Operators.{Placed, size}
use Rattle.b67_templates.specs.Fragments.{Has, AllAt, BranchAt}
use Rattle.b67_templates.specs.Code.{StepSign, up, down, still, any, literal, literal_of}
use Rattle.b67_emit_stmt.specs.declared.draft.Draft.{Draft}
use Rattle.b67_emit_stmt.specs.Drafts.{Emits}
use Rattle.b67_emit_stmt.proofs.Drafts.{emits_then, emits_weaker}

abbrev pub Compared : ℕ → PlainKind → Draft → Draft → Later → List Placed → ℕ → Type 0
Compared level kind a b later qs target =
    (m : ℕ) × AllAt qs level (kinds.Zero ∷ kind ∷ []) (size a.out.operators) m × BranchAt qs level Brtr m target (size b.out.operators)

abbrev pub Signed : Place → ℕ → ℤ → Draft → Draft → Later → List Placed → ℕ → Type 0
Signed sc level z a b later qs target = (sign : StepSign z) × SignedAt sc later qs level sign (size a.out.operators) target (size b.out.operators)

pub up_part : {n : ℕ} (sc : Place) (level : ℕ) (a b : Draft) (z : ℤ) → int_lt (pos 0) z ≡ true → Emits n a b (Compared level kinds.Grtr a b) → Emits n a b (Signed sc level z a b)
up_part {n} sc level a b z s h = emits_weaker (Signed sc level z a b) h (omega arith) (λ later qs target hi p. (up s, p))

pub down_part : {n : ℕ} (sc : Place) (level : ℕ) (a b : Draft) (z : ℤ) → int_lt z (pos 0) ≡ true → Emits n a b (Compared level kinds.Less a b) → Emits n a b (Signed sc level z a b)
down_part {n} sc level a b z s h = emits_weaker (Signed sc level z a b) h (omega arith) (λ later qs target hi p. (down s, p))

pub still_part : (sc : Place) (level : ℕ) (a b : Draft) (z : ℤ) → z ≡ pos 0 →
    Emits 1 a b (λ later qs target. Has qs level (size a.out.operators) (ops.Plain kinds.Dlet) (size b.out.operators)) → Emits 5 a b (Signed sc level z a b)
still_part sc level a b z e h =
    let S : ℤ → Type 0 = λ y. Emits 5 a b (Signed sc level y a b) in
    subst S (sym e) (emits_weaker (Signed sc level (pos 0) a b) h (lit≤ tt) (λ later qs target hi p. (still, p)))

-- a comparison with 0
pub comparison_part : {n m : ℕ} (level : ℕ) (a b c : Draft) (kind : PlainKind) →
    Emits n a b (λ later qs target. AllAt qs level (kinds.Zero ∷ kind ∷ []) (size a.out.operators) (size b.out.operators)) →
    Emits m b c (λ later qs target. BranchAt qs level Brtr (size b.out.operators) target (size c.out.operators)) → Emits (n + m) a c (Compared level kind a c)
comparison_part {n} {m} level a b c kind h k =
    emits_weaker (Compared level kind a c) (emits_then h k) (omega arith) (λ later qs target hi p. (size b.out.operators, p.0, p.1))

-- neither above nor below
pub is_zero : (z : ℤ) → int_lt (pos 0) z ≡ false → int_lt z (pos 0) ≡ false → z ≡ pos 0
is_zero (pos zero) h k = refl
is_zero (pos (suc n)) h k = let t = lt-ltb 0 (suc n) (omega arith) in cc
is_zero (negsuc n) h k = cc

module _ (sc : Place) (level : ℕ) (a b c : Draft) where
  pub past_part : {n m : ℕ} →
      Emits n a b
      (λ later qs target.
      AllAt qs level
      (kinds.Dupl ∷ kinds.Zero ∷ kinds.Grtr ∷ kinds.Exch ∷ kinds.Zero ∷ kinds.Less ∷ kinds.Subt ∷ kinds.Mult ∷ kinds.Zero ∷ kinds.Grtr ∷ [])
      (size a.out.operators) (size b.out.operators)) →
      Emits m b c (λ later qs target. BranchAt qs level Brtr (size b.out.operators) target (size c.out.operators)) →
      Emits (n + m) a c (λ later qs target. PastAt sc later qs level (size a.out.operators) target (size c.out.operators))
  past_part {n} {m} h k =
      emits_weaker (λ later qs target. PastAt sc later qs level (size a.out.operators) target (size c.out.operators)) (emits_then h k) (omega arith)
      (λ later qs target hi p. record { tested = size b.out.operators; test = p.0; branch = p.1 })

  -- a step that is no literal
  pub any_part : {n m : ℕ} (k : ℕ) (step : PExpr) → n + m ≤ k →
      Emits n a b (λ later qs target. ExprAt sc later qs level types.Number step (size a.out.operators) (size b.out.operators) (size b.out.operators)) →
      Emits m b c (λ later qs target. PastAt sc later qs level (size b.out.operators) target (size c.out.operators)) →
      Emits k a c (λ later qs target. StepAt sc later qs level step (size a.out.operators) target (size c.out.operators))
  any_part {n} {m} k step le h j =
      emits_weaker (λ later qs target. StepAt sc later qs level step (size a.out.operators) target (size c.out.operators)) (emits_then h j) le
      (λ later qs target hi p. any (size b.out.operators) p.0 p.1)

pub literal_part : {n m : ℕ} (sc : Place) (level : ℕ) (a b : Draft) (step : PExpr) (z : ℤ) → literal_of step ≡ Some z → n ≤ m →
    Emits n a b (λ later qs target. (sign : StepSign z) × SignedAt sc later qs level sign (size a.out.operators) target (size b.out.operators)) →
    Emits m a b (λ later qs target. StepAt sc later qs level step (size a.out.operators) target (size b.out.operators))
literal_part {n} {m} sc level a b step z e le h =
    emits_weaker (λ later qs target. StepAt sc later qs level step (size a.out.operators) target (size b.out.operators)) h le
    (λ later qs target hi p. literal z e p.0 p.1)
