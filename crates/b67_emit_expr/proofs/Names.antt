-- A name by itself: a variable or a parameter by name that is read, or a typed procedure that is called; and what an assignment to it
-- stores through.
use Rattle.std.proofs.Common.{◌≡◌, ℕ, true, false, Option, Some, None, inl, inr, refl, sym, ap, ◌∙◌, subst}
use Rattle.std.specs.Prelude.{is_some, IsSome}
use Rattle.algol_tree.specs.declared.tree.Kind.{Kind}
use Rattle.algol_tree.specs.declared.tree.Named.{Named}
use Rattle.algol_tree.specs.Scopes.{Scopes}
use Rattle.b67_ops.specs.declared.Couple.{Couple}
use Rattle.b67_ops.specs.declared.Operator.TheVariants as ops
use Rattle.b67_ops.specs.declared.PlainKind.TheVariants as kinds
use Rattle.b67_ops.specs.Spelling.{CoupleIsSeen}
use Rattle.b67_segment.specs.Operators.{size}
use Rattle.b67_segment.specs.Building.{Built, level_set}
use Rattle.b67_templates.specs.Contexts.{Context}
use Rattle.b67_templates.specs.Cells.{IsProcedure}
use Rattle.b67_templates.specs.Code as codes
use Rattle.b67_templates.specs.Code.{NameAt, PlaceAt, BegunAt, without_actuals, reads, calls}
use Rattle.b67_templates.specs.Fragments.{Has}
use Rattle.b67_templates.specs.Emitting.{Emitted}
use Rattle.b67_templates.specs.Fitting as fitting
use Rattle.b67_templates.specs.Fitting.{PlaceFits, meant_is_name}
use Rattle.b67_emitter.specs.declared.names.Names.{Names}
use Rattle.b67_emitter.specs.Values.{couples, results, lefts, meant, meanings, AreNear}
use Rattle.b67_emitter.proofs.Appends.{same_level}
use Rattle.b67_emitter.proofs.Composing.{then, weaker}
use Rattle.b67_emitter.proofs.Seen.{seen_further}
use Rattle.b67_emit_expr.specs.Naming.{NameMeans, NameEmitted, NameHasPlace, PlaceEmitted}
use Rattle.b67_emit_expr.proofs.Couples.{known_place, seen_place, left_near}
use Rattle.b67_emit_expr.proofs.Calls.{emitted_none, call_part}

-- what has no result is not typed
untyped : (result : Option Couple) (typed : Option Kind) (k : Kind) → result ≡ None → is_some result ≡ is_some typed → typed ≡ Some k → ⊥
untyped result typed k none same is =
    let clash : false ≡ true = ap (λ (o : Option Couple). is_some o) (sym none) ∙ same ∙ ap (λ (o : Option Kind). is_some o) is in cc

module _ (s : Names) (n : Named) (a b : Built) (c : Couple) (known : couples s n.spot ≡ Some c) where
  pub read_name : (level : ℕ) → results s n.spot ≡ None → Emitted a b (λ qs. Has qs level (size a.operators) (ops.Valc c) (size b.operators)) → NameEmitted s level a b n
  read_name level none h = record { code = λ scopes context kind fits. by scopes context kind fits }
    where
      by : (scopes : Scopes) (context : Context) (kind : Kind) → NameMeans s scopes context.level kind n →
          Emitted a b (λ qs. NameAt scopes context qs level kind n (size a.operators) (size b.operators))
      by scopes context kind (inl ((d, is, v), f)) =
          let same : d ≡ c = cc (is, known) in
          let H : Couple → Type 0 = λ x. Emitted a b (λ qs. Has qs level (size a.operators) (ops.Valc x) (size b.operators)) in
          weaker (λ qs. NameAt scopes context qs level kind n (size a.operators) (size b.operators)) (subst H (sym same) h) (λ qs x. reads (d, v, x))
      by scopes context kind (inr (callee, p, alone, is)) = absurd (untyped (results s n.spot) _ kind none p.typed is)

  -- between the beginning of the call and its entry nothing was appended
  pub call_name : (m : Built) (r : Couple) → results s n.spot ≡ Some r → m.level ≡ a.level →
      ((scopes : Scopes) (context : Context) (n : Named) (callee : ℕ) → IsProcedure scopes context.level n callee c →
      Emitted a m (λ qs. BegunAt scopes context qs (level_set a) n callee (size a.operators) (size m.operators))) →
      Emitted m b (λ qs. Has qs (level_set m) (size m.operators) (ops.Plain kinds.Entr) (size b.operators)) → NameEmitted s (level_set a) a b n
  call_name m r some level begun enter = record { code = λ scopes context kind fits. by scopes context kind fits }
    where
      by : (scopes : Scopes) (context : Context) (kind : Kind) → NameMeans s scopes context.level kind n →
          Emitted a b (λ qs. NameAt scopes context qs (level_set a) kind n (size a.operators) (size b.operators))
      by scopes context kind (inl (f, none)) = absurd (let clash : None ≡ Some r = sym none ∙ some in cc)
      by scopes context kind (inr (callee, p, alone, is)) =
          let same : p.couple ≡ c = cc (p.known_is, known) in
          let P : Couple → Type 0 = λ x. IsProcedure scopes context.level n callee x in
          weaker (λ qs. NameAt scopes context qs (level_set a) kind n (size a.operators) (size b.operators))
          (call_part scopes context n callee a m m b (λ qs. without_actuals scopes context qs (level_set a)) level (begun scopes context n callee (subst P same p.procedure))
          (emitted_none m (λ qs. size m.operators ≡ size m.operators) (λ qs. refl)) enter)
          (λ qs x. calls callee x alone is)

-- ---- on the left of an assignment

module _ (s : Names) (level : ℕ) (n : Named) (h : NameHasPlace s level n) where
  pub known_left : IsSome (lefts s n.spot)
  known_left = known_place s h.own h.scopes h.kind n h.fits

  pub seen_left : (c : Couple) → AreNear s → lefts s n.spot ≡ Some c → CoupleIsSeen level c
  seen_left c near is =
      seen_further level h.own c h.outer (left_near s level (couples s n.spot) (results s n.spot) c (near.own n.spot) (near.result n.spot) is)
      (seen_place s h.own h.scopes h.kind n c near is h.fits)

module _ (s : Names) (n : Named) (c : Couple) (known : lefts s n.spot ≡ Some c) (a b : Built)
    (h : Emitted a b (λ qs. Has qs (level_set a) (size a.operators) (ops.Namc c) (size b.operators))) where
  named_as : (d : Couple) → lefts s n.spot ≡ Some d → Emitted a b (λ qs. Has qs (level_set a) (size a.operators) (ops.Namc d) (size b.operators))
  named_as d is =
      let same : c ≡ d = cc (is, known) in
      let H : Couple → Type 0 = λ x. Emitted a b (λ qs. Has qs (level_set a) (size a.operators) (ops.Namc x) (size b.operators)) in
      subst H same h

  pub own_place : meant_is_name (meant s n.spot) ≡ false → PlaceEmitted s (level_set a) a b n
  own_place off = record { code = λ scopes context kind fits. by scopes context kind fits }
    where
      by : (scopes : Scopes) (context : Context) (kind : Kind) → PlaceFits scopes (meanings s) context.level kind n →
          Emitted a b (λ qs. PlaceAt scopes context qs (level_set a) n kind (size a.operators) (size b.operators))
      by scopes context kind (fitting.own (d, is, v) unnamed) =
          weaker (λ qs. PlaceAt scopes context qs (level_set a) n kind (size a.operators) (size b.operators)) (named_as d is) (λ qs x. codes.own (d, v, x))
      by scopes context kind (fitting.resolved d is named v) = absurd (let clash : true ≡ false = sym named ∙ off in cc)

  pub resolved_place : meant_is_name (meant s n.spot) ≡ true → (e : Built) → b.level ≡ a.level →
      Emitted b e (λ qs. Has qs (level_set b) (size b.operators) (ops.Plain kinds.Eval) (size e.operators)) → PlaceEmitted s (level_set a) a e n
  resolved_place on e l k = record { code = λ scopes context kind fits. by scopes context kind fits }
    where
      by : (scopes : Scopes) (context : Context) (kind : Kind) → PlaceFits scopes (meanings s) context.level kind n →
          Emitted a e (λ qs. PlaceAt scopes context qs (level_set a) n kind (size a.operators) (size e.operators))
      by scopes context kind (fitting.own f unnamed) = absurd (let clash : true ≡ false = sym on ∙ unnamed in cc)
      by scopes context kind (fitting.resolved d is named v) =
          let K : ℕ → Type 0 = λ i. Emitted b e (λ qs. Has qs i (size b.operators) (ops.Plain kinds.Eval) (size e.operators)) in
          weaker (λ qs. PlaceAt scopes context qs (level_set a) n kind (size a.operators) (size e.operators)) (then (named_as d is) (subst K (same_level a b l) k))
          (λ qs x. codes.resolved d (size b.operators) v x.0 x.1)
