-- The call of a procedure as a statement.
use Rattle.std.proofs.Common.{◌≡◌, ℕ, ◌∙◌, Bool, Option, arith}
use Rattle.std.specs.Prelude.{is_some}
use Rattle.algol_tree.specs.declared.tree.Kind.{Kind}
use Rattle.algol_tree.specs.declared.tree.Named.{Named}
use Rattle.algol_tree.specs.Blocks.{block_numbered}
use Rattle.algol_tree.specs.Plain as tree
use Rattle.algol_tree.specs.Plain.{PCall, PExprs}
use Rattle.algol_tree.specs.Scopes as names
use Rattle.b67_segment.specs.Operators.{size}
use Rattle.b67_segment.specs.Building.{Built, level_set}
use Rattle.b67_templates.specs.Contexts.{Context}
use Rattle.b67_templates.specs.Code.{DroppedAt}
use Rattle.b67_templates.specs.Emitting.{Emitted}
use Rattle.b67_emitter.specs.Values.{CallEmitted, HasCall, results}
use Rattle.b67_emitter.proofs.Composing.{then, weaker}
use Rattle.b67_emitter.proofs.Appends.{same_level}
use Rattle.b67_emit_stmt.specs.declared.draft.Known.{Known}
use Rattle.b67_emit_stmt.specs.Fits.{CallStmtFits}
use Rattle.b67_emit_stmt.specs.Places.{Later, Place, CallStmtAt, context_in}
use Rattle.b67_emit_stmt.proofs.Parts.{leveled}

module _ (s : Known) (n : Named) (es : PExprs) (c : PCall) (is : c ≡ tree.called n es) where
  pub call_has : (sc : Place) (level : ℕ) → CallStmtFits sc s level n es → HasCall s.names.now level c
  call_has sc level fit = record {
    scopes = sc.scopes;
    own = level;
    block = sc.block;
    name = n;
    actuals = es;
    callee = fit.0;
    call_is = is;
    outer = omega arith;
    procedure = fit.1;
    fits = fit.2;
  }

  pub call_part : (sc : Place) (later : Later) (typed : Bool) (a b d : Built) → b.level ≡ a.level → typed ≡ is_some (results s.names.now n.spot) →
      CallEmitted s.names.now (level_set a) a b c →
      ((sc : names.Scopes) (context : Context) (result : Option Kind) → typed ≡ is_some result →
      Emitted b d (λ qs. DroppedAt sc context qs (level_set b) result (size b.operators) (size d.operators))) →
      CallStmtFits sc s (level_set a) n es → Emitted a d (λ qs. CallStmtAt sc later qs (level_set a) n es (size a.operators) (size d.operators))
  call_part sc later typed a b d same known h k fit =
      let result = (block_numbered sc.scopes.blocks fit.0).result in
      let call = h.code sc.scopes (context_in sc later (level_set a)) n es fit.0 is fit.1 fit.2 in
      let drop = leveled (λ l qs. DroppedAt sc.scopes (context_in sc later (level_set a)) qs l result (size b.operators) (size d.operators)) (level_set a) (same_level a b same)
      (k sc.scopes (context_in sc later (level_set a)) result (known ∙ fit.1.typed)) in
      weaker (λ qs. CallStmtAt sc later qs (level_set a) n es (size a.operators) (size d.operators)) (then call drop) (λ qs p. (fit.0, size b.operators, p.0, p.1))
