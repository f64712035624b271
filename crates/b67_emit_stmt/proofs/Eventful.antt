-- Events, made one after another, and statements on them.
use Rattle.std.proofs.Common.{◌≡◌, ℕ, ◌+◌, List, [], ◌∷◌, length, refl, sym, subst, arith}
use Rattle.algol_tree.specs.declared.tree.Named.{Named}
use Rattle.b67_ops.specs.declared.Operator.TheVariants as ops
use Rattle.b67_ops.specs.declared.PlainKind.TheVariants as kinds
use Rattle.b67_ops.specs.declared.intrinsic.Intrinsic.TheVariants.{Event}
use Rattle.b67_segment.specs.Operators.{Placed, size}
use Rattle.b67_segment.specs.Building.{Built}
use Rattle.b67_templates.specs.Emitting.{Emitted}
use Rattle.b67_templates.specs.Events.{EventMadeAt}
use Rattle.b67_templates.specs.Fragments.{Has, AllAt, IntrinsicAt}
use Rattle.b67_emitter.proofs.Composing.{then, weaker}
use Rattle.b67_emit_stmt.specs.Places.{Later, Place, EventsMadeAt, context_in}
use Rattle.b67_emit_stmt.proofs.Parts.{emitted_none}

module _ (sc : Place) (later : Later) (level : ℕ) where
  abbrev OneAt : List Placed → ℕ → ℕ → Type 0
  OneAt qs f t = EventMadeAt sc.scopes (context_in sc later level) qs level f t

  -- one more at the end
  one_more : (qs : List Placed) (ns : List Named) (n : Named) (f m t : ℕ) → EventsMadeAt sc later qs level ns f m → OneAt qs m t → EventsMadeAt sc later qs level (n ∷ ns) f t
  one_more qs [] n f m t h k = (t, subst (λ (at : ℕ). OneAt qs at t) (sym h) k, refl)
  one_more qs (o ∷ ns) n f m t h k = (h.0, h.1, one_more qs ns o h.0 m t h.2 k)

  -- none yet
  pub none_made : (a : Built) (ns : List Named) → length ns ≡ 0 → Emitted a a (λ qs. EventsMadeAt sc later qs level ns (size a.operators) (size a.operators))
  none_made a [] none = emitted_none a (λ qs. EventsMadeAt sc later qs level [] (size a.operators) (size a.operators)) (λ qs. refl)
  none_made a (n ∷ ns) none = absurd (omega (arith, none))

  -- a mark and the reference, the entry and PUSH
  event_part : (a b d : Built) → Emitted a b (λ qs. IntrinsicAt qs level Event (size a.operators) (size b.operators)) →
      Emitted b d (λ qs. AllAt qs level (kinds.Entr ∷ kinds.Push ∷ []) (size b.operators) (size d.operators)) → Emitted a d (λ qs. OneAt qs (size a.operators) (size d.operators))
  event_part a b d h i =
      weaker (λ qs. OneAt qs (size a.operators) (size d.operators)) (then h i)
      (λ qs p.
      let P : ℕ → Type 0 = λ t. Has qs level p.1.0 (ops.Plain kinds.Push) t in
      record { named = size b.operators; made = p.1.0; intrinsic = p.0; enter = p.1.1; push = subst P p.1.2.2 p.1.2.1 })

  pub events_more : (a b d e : Built) (many : ℕ) → ((ns : List Named) → length ns ≡ many → Emitted a b (λ qs. EventsMadeAt sc later qs level ns (size a.operators) (size b.operators))) →
      Emitted b d (λ qs. IntrinsicAt qs level Event (size b.operators) (size d.operators)) →
      Emitted d e (λ qs. AllAt qs level (kinds.Entr ∷ kinds.Push ∷ []) (size d.operators) (size e.operators)) →
      (ns : List Named) → length ns ≡ many + 1 → Emitted a e (λ qs. EventsMadeAt sc later qs level ns (size a.operators) (size e.operators))
  events_more a b d e many h i j [] count = absurd (omega (arith, count))
  events_more a b d e many h i j (n ∷ ns) count =
      weaker (λ qs. EventsMadeAt sc later qs level (n ∷ ns) (size a.operators) (size e.operators)) (then (h ns (omega (arith, count))) (event_part b d e i j))
      (λ qs p. one_more qs ns n (size a.operators) (size b.operators) (size e.operators) p.0 p.1)
