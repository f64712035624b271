-- An assignment to a variable, a result or an element: what is stored through, the value, the store.
use Rattle.std.proofs.Common.{◌≡◌, ℕ, ◌+◌, ◌≤◌, ◌∙◌, List, refl, arith}
use Rattle.algol_tree.specs.declared.tree.Kind.{Kind}
use Rattle.algol_tree.specs.Plain as tree
use Rattle.algol_tree.specs.Plain.{PExpr, PVariable, PStmt}
use Rattle.b67_ops.specs.declared.Operator.TheVariants as ops
use Rattle.b67_ops.specs.declared.PlainKind.TheVariants as kinds
use Rattle.b67_segment.specs.declared.TheConstants.{MOST_SEGMENT_SYLLABLES}
use Rattle.b67_segment.specs.Operators.{Placed, size}
use Rattle.b67_segment.specs.Building.{Built, level_set}
use Rattle.b67_emit_stmt.specs.Lengths.{expr_syllables, stmt_syllables}
use Rattle.b67_templates.specs.Emitting.{Emitted}
use Rattle.b67_templates.specs.Fragments.{Has}
use Rattle.b67_emitter.specs.Values.{HasReference, ReferenceEmitted, ValueEmitted, alone, element, place_syllables}
use Rattle.b67_emitter.proofs.Composing.{then, weaker}
use Rattle.b67_emitter.proofs.Appends.{same_level}
use Rattle.b67_emit_stmt.specs.declared.draft.Draft.{Draft}
use Rattle.b67_emit_stmt.specs.declared.draft.Known.{Known}
use Rattle.b67_emit_stmt.specs.Drafts.{HasFew, IsReady, draft_noted}
use Rattle.b67_emit_stmt.specs.Emits.{EmitsStmt}
use Rattle.b67_emit_stmt.specs.Fits.{EmittedExprFits, StoreFits}
use Rattle.b67_emit_stmt.specs.Places.{Later, Place, StmtAt, StoredAt, context_in}
use Rattle.b67_emit_stmt.proofs.Arms.{Stands}
use Rattle.b67_emit_stmt.proofs.Drafts.{emits_weaker, piece}
use Rattle.b67_emit_stmt.proofs.Matched.{emits_as, ready_as}
use Rattle.b67_emit_stmt.proofs.Parts.{assign_part, plain_at, value_at}

-- ---- what the parts need

module _ (s : Known) (sc : Place) (level : ℕ) where
  pub store_has : (v : PVariable) (e : PExpr) → StoreFits sc s level v e → HasReference s.names.now level v
  store_has (tree.subscripted n tree.none) e fit = alone sc.scopes level fit.0 n (omega arith) refl fit.1
  store_has (tree.subscripted n (tree.more i is)) e fit = element sc.scopes level sc.block n fit.0 (tree.more i is) (omega arith) refl (fit.1, fit.2)

  -- the kind of the value
  pub store_value : (v : PVariable) (e : PExpr) → StoreFits sc s level v e → (k : Kind) × EmittedExprFits sc s level k e
  store_value (tree.subscripted n tree.none) e fit = (fit.0, fit.2)
  store_value (tree.subscripted n (tree.more i is)) e fit = (fit.0.kind, fit.3)

-- a statement has room for them
pub store_fits : (s : Known) (a : Draft) (p : PStmt) (v : PVariable) (e : PExpr) → p ≡ tree.assign v e → IsReady s a (stmt_syllables s p) →
    size a.out.operators + (place_syllables s.names.now v + expr_syllables s e + 1) ≤ MOST_SEGMENT_SYLLABLES
store_fits s a p v e is ready = omega (arith, (ready_as s a p (tree.assign v e) is ready).room)

-- ---- the code

pub store_part : (s : Known) (sc : Place) (later : Later) (v : PVariable) (e : PExpr) (a b d x : Built) → ReferenceEmitted s.names.now (level_set a) a b v → b.level ≡ a.level →
    ValueEmitted s.names.now (level_set b) b d e → d.level ≡ b.level →
    Emitted d x (λ qs. Has qs (level_set d) (size d.operators) (ops.Plain kinds.Stod) (size x.operators)) → StoreFits sc s (level_set a) v e →
    Emitted a x (λ qs. StoredAt sc later qs (level_set a) v e (size a.operators) (size x.operators))
store_part s sc later (tree.subscripted n tree.none) e a b d x h same k same' l fit =
    let q = same_level a b same in
    assign_part sc later (level_set a) fit.0 n e a b d x (h.alone sc.scopes (context_in sc later (level_set a)) fit.0 n refl fit.1) (value_at s b d (level_set a) sc later fit.0 e q k fit.2)
    (plain_at kinds.Stod (level_set a) (same_level b d same' ∙ q) l)
store_part s sc later (tree.subscripted n (tree.more i is)) e a b d x h same k same' l fit =
    let q = same_level a b same in
    let through = h.element sc.scopes (context_in sc later (level_set a)) n fit.0 (tree.more i is) refl (fit.1, fit.2) in
    weaker (λ qs. StoredAt sc later qs (level_set a) (tree.subscripted n (tree.more i is)) e (size a.operators) (size x.operators))
    (then (then through (value_at s b d (level_set a) sc later fit.0.kind e q k fit.3)) (plain_at kinds.Stod (level_set a) (same_level b d same' ∙ q) l))
    (λ qs p. (fit.0, p.0.0.0, p.0.0.1, size b.operators, size d.operators, p.0.0.2, p.0.0.3, p.0.0.4, p.0.1, p.1))

stored : (sc : Place) (later : Later) (qs : List Placed) (level : ℕ) (v : PVariable) (e : PExpr) (f t u : ℕ) → StoredAt sc later qs level v e f t →
    StmtAt sc later qs level (tree.assign v e) f t u
stored sc later qs level (tree.subscripted n tree.none) e f t u h = h
stored sc later qs level (tree.subscripted n (tree.more i is)) e f t u h = h

pub store_emitted : (s : Known) (a b : Draft) (p : PStmt) (v : PVariable) (e : PExpr) → p ≡ tree.assign v e → b.exits.items ≡ a.exits.items → draft_noted b ≡ draft_noted a →
    HasFew a →
    ((sc : Place) (later : Later) → StoreFits sc s (level_set a.out) v e →
    Emitted a.out b.out (λ qs. StoredAt sc later qs (level_set a.out) v e (size a.out.operators) (size b.out.operators))) →
    size b.out.operators ≤ size a.out.operators + (place_syllables s.names.now v + expr_syllables s e + 1) → EmitsStmt s a b p
store_emitted s a b p v e is xs fs few h short =
    emits_as s a b p (tree.assign v e) is
    (λ sc fit.
    emits_weaker (Stands sc (level_set a.out) (tree.assign v e) a b)
    (piece {n = place_syllables s.names.now v + expr_syllables s e + 1} {d = a} {e = b} xs fs few (λ later. h sc later fit) short) (omega arith)
    (λ later qs target hi x. stored sc later qs (level_set a.out) v e (size a.out.operators) (size b.out.operators) target x))
