-- THRU: what each of its parts needs, from what those before it promise.
use Rattle.std.proofs.Common.{◌≡◌, ℕ, ◌+◌, ◌≤◌, ◌∙◌, [], ◌∷◌, refl, arith}
use Rattle.std.specs.Prelude.{IsSome}
use Rattle.algol_tree.specs.declared.tree.Kind.TheVariants as types
use Rattle.algol_tree.specs.Plain as tree
use Rattle.algol_tree.specs.Plain.{PExpr, PStmt}
use Rattle.b67_segment.specs.declared.TheConstants.{MOST_SEGMENT_SYLLABLES}
use Rattle.b67_segment.specs.Operators.{size}
use Rattle.b67_segment.specs.Building.{Built, level_set}
use Rattle.b67_segment.proofs.Cited.{set_after}
use Rattle.b67_emit_stmt.specs.Lengths.{expr_syllables, stmt_syllables}
use Rattle.b67_emitter.specs.Aiming.{Aimed}
use Rattle.b67_emitter.specs.Values.{ValueEmitted}
use Rattle.b67_emitter.proofs.Appends.{same_level}
use Rattle.b67_emit_stmt.specs.declared.draft.Draft.{Draft}
use Rattle.b67_emit_stmt.specs.declared.draft.Known.{Known}
use Rattle.b67_emit_stmt.specs.Drafts.{Emits, DraftIsAt, IsReady}
use Rattle.b67_emit_stmt.specs.Emits.{EmitsBody, HasFit}
use Rattle.b67_emit_stmt.specs.Fits.{EmittedStmtFits}
use Rattle.b67_emit_stmt.specs.Places.{Place}
use Rattle.b67_emit_stmt.proofs.Arms.{Closed}
use Rattle.b67_emit_stmt.proofs.Levels.{at_same}
use Rattle.b67_emit_stmt.proofs.Matched.{fit_at, ready_behind, set_ahead, set_behind}
use Rattle.b67_emit_stmt.proofs.Ready.{body_piece, value_piece}

module _ (s : Known) (sc : Place) (p : PExpr) (x : PStmt) (a : Draft) (b' d' e' f' : Built) (fits : EmittedStmtFits sc s (level_set a.out) (tree.thru p x))
    (ready : IsReady s a (stmt_syllables s (tree.thru p x))) (value : ValueEmitted s.names.now (level_set a.out) a.out b' p) (value_level : b'.level ≡ a.out.level)
    (value_short : size b'.operators ≤ size a.out.operators + expr_syllables s p) (tests_level : d'.level ≡ b'.level) (tests_wide : size d'.operators ≡ size b'.operators + 3)
    (branch_level : e'.level ≡ d'.level) (branch_wide : size e'.operators ≡ size d'.operators + 3) (less_level : f'.level ≡ e'.level)
    (less_wide : size f'.operators ≡ size e'.operators + 2) where
  abbrev f : Draft
  f = record a { out = f' }

  same : f'.level ≡ a.out.level
  same = less_level ∙ branch_level ∙ tests_level ∙ value_level

  pub body_needs : (own : ℕ) → DraftIsAt own a → IsReady s f (stmt_syllables s x) × HasFit s f x × DraftIsAt own f
  body_needs own at =
      let b : Draft = record a { out = b' } in
      let v = value_piece s a b (level_set a.out) sc types.Number p refl refl refl ready.few value value_short fits.0 in (
        ready_behind s a f (stmt_syllables s (tree.thru p x)) (stmt_syllables s x) ready same refl (omega (arith, v.code.grown, tests_wide, branch_wide, less_wide))
            (omega (arith, value_short, tests_wide, branch_wide, less_wide)),
        fit_at s sc x f (level_set a.out) (same_level a.out f' same) fits.1,
        at_same a f same at,
      )

  module _ (n : Draft) (body : EmitsBody s f n x) where
    performed : Emits (stmt_syllables s x) f n (Closed sc (level_set a.out) x f n)
    performed = body_piece s sc x f n (level_set a.out) (same_level a.out f' same) body fits.1

    pub turn_needs : (start : ℕ) → start ≡ size b'.operators → IsSome n.out.level × (start ≤ size n.out.operators) × (size n.out.operators + 3 ≤ MOST_SEGMENT_SYLLABLES)
    turn_needs start is = (
      set_behind a.out performed same ready.set,
      omega (arith, is, tests_wide, branch_wide, less_wide, performed.code.grown),
      omega (arith, performed.short, value_short, tests_wide, branch_wide, less_wide, ready.room),
    )

    module _ (o' j' : Built) (over : ℕ) (turn_level : o'.level ≡ n.out.level) (turn_wide : size o'.operators ≡ size n.out.operators + 3) (aimed : Aimed (over ∷ []) o' j') where
      pub end_needs : IsSome j'.level × (size j'.operators + 1 ≤ MOST_SEGMENT_SYLLABLES)
      end_needs = (
        set_ahead j' performed (aimed.level ∙ turn_level) (set_after a.out f' same ready.set),
        omega (arith, performed.short, aimed.place, turn_wide, value_short, tests_wide, branch_wide, less_wide, ready.room),
      )
