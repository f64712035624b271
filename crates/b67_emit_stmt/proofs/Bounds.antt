-- The bounds of arrays, one dimension after another, and what makes arrays with the same bounds.
use Rattle.std.proofs.Common.{◌≡◌, ℕ, zero, suc, ◌≤◌, ℤ, FitsSigned, w64, List, [], ◌∷◌, drop, pos, refl, subst, arith}
use Rattle.std.proofs.lemmas.Int.{fits_signed_from_abs}
use Rattle.algol_tree.specs.declared.tree.Kind.TheVariants as types
use Rattle.algol_tree.specs.declared.tree.Pair.{Pair}
use Rattle.algol_tree.specs.Image.{expr, pairs}
use Rattle.algol_tree.specs.Plain.{PPair}
use Rattle.b67_ops.specs.declared.Operator.TheVariants as ops
use Rattle.b67_ops.specs.declared.PlainKind.TheVariants as kinds
use Rattle.b67_ops.specs.declared.intrinsic.Intrinsic.TheVariants.{Arrays}
use Rattle.b67_segment.specs.Operators.{Placed, size}
use Rattle.b67_segment.specs.Building.{Built}
use Rattle.b67_templates.specs.Code.{AreDimensions}
use Rattle.b67_templates.specs.Emitting.{Emitted}
use Rattle.b67_templates.specs.Fragments.{Has, AllAt, IntrinsicAt, IsWholeNumber, NumberAt}
use Rattle.b67_emitter.proofs.Composing.{then, weaker}
use Rattle.b67_emit_stmt.specs.declared.draft.Known.{Known}
use Rattle.b67_emit_stmt.specs.Fits.{BoundsFit, EmittedExprFits}
use Rattle.b67_emit_stmt.specs.Places.{Later, Place, ArraysAt, BoundsAt, ExprAt}

-- a lower bound is an i64
pub whole_fits : (z : ℤ) → IsWholeNumber z → FitsSigned w64 z
whole_fits z h = fits_signed_from_abs w64 z (omega (arith, h))

-- the bounds from one on fit
bounds_left : (sc : Place) (s : Known) (level i : ℕ) (ps : List Pair) → BoundsFit sc s level (pairs ps) → BoundsFit sc s level (pairs (drop i ps))
bounds_left sc s level zero ps fit = fit
bounds_left sc s level (suc i) [] fit = tt
bounds_left sc s level (suc i) (p ∷ ps) fit = bounds_left sc s level i ps fit.2

-- .. and so the next
pub bounds_next : (sc : Place) (s : Known) (level i : ℕ) (ps : List Pair) (p : Pair) (rest : List Pair) → drop i ps ≡ p ∷ rest → BoundsFit sc s level (pairs ps) →
    IsWholeNumber p.low × EmittedExprFits sc s level types.Number (expr p.high)
bounds_next sc s level i ps p rest is fit =
    let F : List Pair → Type 0 = λ l. BoundsFit sc s level (pairs l) in
    let there = subst F is (bounds_left sc s level i ps fit) in
    (there.0, there.1)

module _ (sc : Place) (later : Later) (level : ℕ) where
  -- what is left of the bounds makes them whole
  abbrev pub BoundsLeft : List Pair → List Pair → Built → Built → List Placed → Type 0
  BoundsLeft ps left a b qs = (t : ℕ) → BoundsAt sc later qs level (pairs left) (size b.operators) t → BoundsAt sc later qs level (pairs ps) (size a.operators) t

  pub bounds_more : (ps left : List Pair) (p : Pair) (rest : List Pair) (a b d x : Built) → left ≡ p ∷ rest → Emitted a b (BoundsLeft ps left a b) →
      Emitted b d (λ qs. NumberAt qs level p.low (size b.operators) (size d.operators)) →
      Emitted d x (λ qs. ExprAt sc later qs level types.Number (expr p.high) (size d.operators) (size x.operators) (size x.operators)) → Emitted a x (BoundsLeft ps rest a x)
  bounds_more ps left p rest a b d x is h i j =
      let L : List Pair → Type 0 = λ l. Emitted a b (BoundsLeft ps l a b) in
      weaker (BoundsLeft ps rest a x) (then (then (subst L is h) i) j) (λ qs q t k. q.0.0 t (size d.operators, size x.operators, q.0.1, q.1, k))

  pub bounds_whole : (ps : List Pair) (i : ℕ) (a b : Built) → drop i ps ≡ [] → Emitted a b (BoundsLeft ps (drop i ps) a b) →
      Emitted a b (λ qs. BoundsAt sc later qs level (pairs ps) (size a.operators) (size b.operators))
  bounds_whole ps i a b none h =
      let L : List Pair → Type 0 = λ l. Emitted a b (BoundsLeft ps l a b) in
      weaker (λ qs. BoundsAt sc later qs level (pairs ps) (size a.operators) (size b.operators)) (subst L none h) (λ qs q. q (size b.operators) refl)

  pub arrays_part : (many : ℕ) (ps : List PPair) (a b d x y : Built) → AreDimensions ps → 1 ≤ many →
      Emitted a b (λ qs. IntrinsicAt qs level Arrays (size a.operators) (size b.operators)) →
      Emitted b d (λ qs. NumberAt qs level (pos many) (size b.operators) (size d.operators)) →
      Emitted d x (λ qs. BoundsAt sc later qs level ps (size d.operators) (size x.operators)) →
      Emitted x y (λ qs. AllAt qs level (kinds.Entr ∷ kinds.Push ∷ []) (size x.operators) (size y.operators)) →
      Emitted a y (λ qs. ArraysAt sc later qs level many ps (size a.operators) (size y.operators))
  arrays_part many ps a b d x y dimensions some h i j k =
      weaker (λ qs. ArraysAt sc later qs level many ps (size a.operators) (size y.operators)) (then (then (then h i) j) k)
      (λ qs p.
      let P : ℕ → Type 0 = λ t. Has qs level p.1.0 (ops.Plain kinds.Push) t in
      record {
        dimensions = dimensions;
        named = size b.operators;
        numbered = size d.operators;
        bounded = size x.operators;
        made = p.1.0;
        intrinsic = p.0.0.0;
        number = p.0.0.1;
        bounds = p.0.1;
        enter = p.1.1;
        push = subst P p.1.2.2 p.1.2.1;
        some = some;
      })
