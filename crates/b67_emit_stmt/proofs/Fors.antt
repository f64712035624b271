-- FOR: what each of its parts needs, from what those before it promise.
use Rattle.std.proofs.Common.{◌≡◌, ℕ, ◌+◌, ◌≤◌, ◌∙◌, refl, sym, subst, arith}
use Rattle.std.specs.Prelude.{IsSome}
use Rattle.algol_tree.specs.declared.tree.Kind.TheVariants as types
use Rattle.algol_tree.specs.declared.tree.Named.{Named}
use Rattle.algol_tree.specs.declared.tree.Op.TheVariants as operators
use Rattle.algol_tree.specs.Plain as tree
use Rattle.algol_tree.specs.Plain.{PExpr, PStmt}
use Rattle.algol_meaning.specs.Statements.{alone}
use Rattle.b67_segment.specs.declared.TheConstants.{MOST_SEGMENT_SYLLABLES}
use Rattle.b67_segment.specs.Operators.{size}
use Rattle.b67_segment.specs.Building.{Built, level_set}
use Rattle.b67_segment.proofs.Cited.{set_after}
use Rattle.b67_emitter.proofs.Appends.{same_level}
use Rattle.b67_emit_stmt.specs.Lengths.{expr_syllables, stmt_syllables}
use Rattle.b67_templates.specs.Emitting.{Emitted}
use Rattle.b67_emit_stmt.specs.declared.draft.Draft.{Draft}
use Rattle.b67_emit_stmt.specs.declared.draft.Known.{Known}
use Rattle.b67_emit_stmt.specs.Drafts.{Emits, DraftIsAt, IsReady}
use Rattle.b67_emit_stmt.specs.Emits.{EmitsBody, HasFit}
use Rattle.b67_emit_stmt.specs.Fits.{AssignFits, EmittedExprFits, ReadFits, EmittedStmtFits, VariableFits}
use Rattle.b67_emit_stmt.specs.Places.{Later, Place, AssignAt, ExprAt, StepAt}
use Rattle.b67_emit_stmt.proofs.Arms.{Closed}
use Rattle.b67_emit_stmt.proofs.Drafts.{emits_then, level_after}
use Rattle.b67_emit_stmt.proofs.Levels.{at_after}
use Rattle.b67_emit_stmt.proofs.Matched as matched
use Rattle.b67_emit_stmt.proofs.Parts.{variable_at}
use Rattle.b67_emit_stmt.proofs.Ready.{body_piece, fit_after, ready_after}

module _ (s : Known) (sc : Place) (v : Named) (first p l : PExpr) (x : PStmt) (a : Draft) (b' d' : Built) (fits : EmittedStmtFits sc s (level_set a.out) (tree.for v first p l x))
    (ready : IsReady s a (stmt_syllables s (tree.for v first p l x)))
    (assign : (sc' : Place) (later : Later) → AssignFits sc' s (level_set a.out) v first →
    Emitted a.out b' (λ qs. AssignAt sc' later qs (level_set a.out) v first (size a.out.operators) (size b'.operators)))
    (assign_level : b'.level ≡ a.out.level) (assign_short : size b'.operators ≤ size a.out.operators + (4 + expr_syllables s first))
    (difference : (sc' : Place) (later : Later) → ReadFits sc' s (level_set b') types.Number v → EmittedExprFits sc' s (level_set b') types.Number l →
    Emitted b' d' (λ qs. ExprAt sc' later qs (level_set b') types.Number (tree.two operators.Sub (alone v) l) (size b'.operators) (size d'.operators) (size d'.operators)))
    (difference_level : d'.level ≡ b'.level) (difference_short : size d'.operators ≤ size b'.operators + (3 + expr_syllables s l)) where
  abbrev b : Draft
  b = record a { out = b' }

  abbrev d : Draft
  d = record a { out = d' }

  abbrev level : ℕ
  level = level_set a.out

  begun : Emits (4 + expr_syllables s first) a b (λ later qs target. AssignAt sc later qs level v first (size a.out.operators) (size b'.operators))
  begun = matched.assigned s sc level v first a b refl refl refl ready.few assign assign_short (types.Number, fits.0.1, fits.1)

  tested : Emits (3 + expr_syllables s l) b d
      (λ later qs target. ExprAt sc later qs level types.Number (tree.two operators.Sub (alone v) l) (size b'.operators) (size d'.operators) (size d'.operators))
  tested = matched.compared s sc level v l b d (same_level a.out b' assign_level) refl refl begun.few difference difference_short fits.0.0 fits.3

  behind_test : level_set d' ≡ level
  behind_test = same_level b' d' difference_level ∙ same_level a.out b' assign_level

  pub step_ready : IsReady s d (13 + expr_syllables s p)
  step_ready = ready_after s a (stmt_syllables s (tree.for v first p l x)) (13 + expr_syllables s p) ready (emits_then begun tested) (omega arith)

  module _ (e : Draft)
      (step : (sc' : Place) → EmittedExprFits sc' s (level_set d') types.Number p →
      Emits (13 + expr_syllables s p) d e (λ later qs target. StepAt sc' later qs (level_set d') p (size d'.operators) target (size e.out.operators))) where
    stepped : Emits (13 + expr_syllables s p) d e (λ later qs target. StepAt sc later qs level p (size d'.operators) target (size e.out.operators))
    stepped = matched.stepped s sc level p d e behind_test step fits.2

    pub body_needs : (own : ℕ) → DraftIsAt own a → IsReady s e (stmt_syllables s x) × HasFit s e x × DraftIsAt own e
    body_needs own at =
        let all = emits_then (emits_then begun tested) stepped in
        (ready_after s a (stmt_syllables s (tree.for v first p l x)) (stmt_syllables s x) ready all (omega arith), fit_after s sc x all fits.4, at_after all at)

    module _ (f : Draft) (body : EmitsBody s e f x) where
      performed : Emits (stmt_syllables s x) e f (Closed sc level x e f)
      performed = body_piece s sc x e f level (level_after stepped ∙ behind_test) body fits.4

      behind_body : level_set f.out ≡ level
      behind_body = level_after (emits_then stepped performed) ∙ behind_test

      pub advance_fits : (sc' : Place) × VariableFits sc' s (level_set f.out) v × EmittedExprFits sc' s (level_set f.out) types.Number p
      advance_fits =
          let E : ℕ → Type 0 = λ n. EmittedExprFits sc s n types.Number p in
          (sc, variable_at s (level_set f.out) level sc v behind_body fits.0, subst E (sym behind_body) fits.2)

      pub advance_needs : IsSome f.out.level × (size f.out.operators + (7 + expr_syllables s p) ≤ MOST_SEGMENT_SYLLABLES)
      advance_needs = (
        matched.set_behind a.out (emits_then stepped performed) (difference_level ∙ assign_level) ready.set,
        omega (arith, performed.short, stepped.short, difference_short, assign_short, ready.room),
      )

      module _ (n' : Built)
          (advance : (sc' : Place) (later : Later) → VariableFits sc' s (level_set f.out) v → EmittedExprFits sc' s (level_set f.out) types.Number p →
          Emitted f.out n' (λ qs. AssignAt sc' later qs (level_set f.out) v (tree.two operators.Add (alone v) p) (size f.out.operators) (size n'.operators)))
          (advance_level : n'.level ≡ f.out.level) (advance_short : size n'.operators ≤ size f.out.operators + (7 + expr_syllables s p)) where
        pub turn_needs : (start : ℕ) → start ≡ size b'.operators → IsSome n'.level × (start ≤ size n'.operators) × (size n'.operators + 3 ≤ MOST_SEGMENT_SYLLABLES)
        turn_needs start is =
            let advanced = matched.advanced s sc level v p f (record f { out = n' }) behind_body refl refl performed.few advance advance_short fits.0 fits.2 in (
              matched.set_ahead n' (emits_then stepped performed) advance_level (set_after a.out d' (difference_level ∙ assign_level) ready.set),
              omega (arith, is, tested.code.grown, stepped.code.grown, performed.code.grown, advanced.code.grown),
              omega (arith, performed.short, stepped.short, advance_short, difference_short, assign_short, ready.room),
            )
