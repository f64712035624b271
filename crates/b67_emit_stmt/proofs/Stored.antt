-- What an assignment to a name by itself stores through.
use Rattle.std.proofs.Common.{◌≡◌, ℕ, true, false, Some, sym, ◌∙◌, subst}
use Rattle.algol_tree.specs.declared.tree.Kind.{Kind}
use Rattle.algol_tree.specs.declared.tree.Named.{Named}
use Rattle.b67_ops.specs.declared.Couple.{Couple}
use Rattle.b67_ops.specs.declared.Operator.TheVariants as ops
use Rattle.b67_ops.specs.declared.PlainKind.TheVariants as kinds
use Rattle.b67_segment.specs.Operators.{size}
use Rattle.b67_segment.specs.Building.{Built, level_set}
use Rattle.b67_templates.specs.Code as codes
use Rattle.b67_templates.specs.Fragments.{Has}
use Rattle.b67_templates.specs.Emitting.{Emitted}
use Rattle.b67_templates.specs.Fitting as fitting
use Rattle.b67_templates.specs.Fitting.{meant_is_name}
use Rattle.b67_emitter.specs.Values.{lefts, meant}
use Rattle.b67_emitter.proofs.Composing.{then, weaker}
use Rattle.b67_emitter.proofs.Appends.{same_level}
use Rattle.b67_emit_stmt.specs.declared.draft.Known.{Known}
use Rattle.b67_emit_stmt.specs.Fits.{EmittedPlaceFits}
use Rattle.b67_emit_stmt.specs.Places.{Later, Place, PlaceAt}

module _ (s : Known) (n : Named) (c : Couple) (known : lefts s.names.now n.spot ≡ Some c) (a b : Built)
    (h : Emitted a b (λ qs. Has qs (level_set a) (size a.operators) (ops.Namc c) (size b.operators))) (sc : Place) (k : Kind) (later : Later) where
  named_as : (d : Couple) → lefts s.names.now n.spot ≡ Some d → Emitted a b (λ qs. Has qs (level_set a) (size a.operators) (ops.Namc d) (size b.operators))
  named_as d is =
      let same : c ≡ d = cc (is, known) in
      let H : Couple → Type 0 = λ x. Emitted a b (λ qs. Has qs (level_set a) (size a.operators) (ops.Namc x) (size b.operators)) in
      subst H same h

  pub own_place : meant_is_name (meant s.names.now n.spot) ≡ false → EmittedPlaceFits sc s (level_set a) k n →
      Emitted a b (λ qs. PlaceAt sc later qs (level_set a) n k (size a.operators) (size b.operators))
  own_place off (fitting.own (d, is, v) unnamed) =
      weaker (λ qs. PlaceAt sc later qs (level_set a) n k (size a.operators) (size b.operators)) (named_as d is) (λ qs x. codes.own (d, v, x))
  own_place off (fitting.resolved d is named v) = absurd (let clash : true ≡ false = sym named ∙ off in cc)

  pub resolved_place : meant_is_name (meant s.names.now n.spot) ≡ true → (e : Built) → b.level ≡ a.level →
      Emitted b e (λ qs. Has qs (level_set b) (size b.operators) (ops.Plain kinds.Eval) (size e.operators)) → EmittedPlaceFits sc s (level_set a) k n →
      Emitted a e (λ qs. PlaceAt sc later qs (level_set a) n k (size a.operators) (size e.operators))
  resolved_place on e l x (fitting.own f unnamed) = absurd (let clash : true ≡ false = sym on ∙ unnamed in cc)
  resolved_place on e l x (fitting.resolved d is named v) =
      let K : ℕ → Type 0 = λ i. Emitted b e (λ qs. Has qs i (size b.operators) (ops.Plain kinds.Eval) (size e.operators)) in
      weaker (λ qs. PlaceAt sc later qs (level_set a) n k (size a.operators) (size e.operators)) (then (named_as d is) (subst K (same_level a b l) x))
      (λ qs y. codes.resolved d (size b.operators) v y.0 y.1)
