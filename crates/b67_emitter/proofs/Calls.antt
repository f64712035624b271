-- A call begins with a mark and the reference of a control word or of an intrinsic; an actual that is an array or an event is a reference.
use Rattle.std.proofs.Common.{◌≡◌, ℕ, true, false, ap, ◌∙◌, subst}
use Rattle.algol_tree.specs.declared.tree.Named.{Named}
use Rattle.algol_tree.specs.Scopes as names
use Rattle.algol_tree.specs.Sorts.{is_formal}
use Rattle.algol_paths.specs.Arrays.{Shape}
use Rattle.b67_ops.specs.declared.Couple.{Couple}
use Rattle.b67_ops.specs.declared.Operator.TheVariants as ops
use Rattle.b67_ops.specs.declared.PlainKind.TheVariants as kinds
use Rattle.b67_ops.specs.declared.intrinsic.Intrinsic.{Intrinsic}
use Rattle.b67_ops.specs.Intrinsics.{couple_of_intrinsic}
use Rattle.b67_segment.specs.Operators.{size}
use Rattle.b67_segment.specs.Building.{Built, level_set}
use Rattle.b67_templates.specs.Contexts.{Context}
use Rattle.b67_templates.specs.Cells.{ShapeAgrees, IsArray, declared, formal, IsEvent, declared_event, formal_event, IsProcedure}
use Rattle.b67_templates.specs.Code.{ArrayActualAt, refers, passes, BegunAt}
use Rattle.b67_templates.specs.Events as events
use Rattle.b67_templates.specs.Events.{EventActualAt}
use Rattle.b67_templates.specs.Fragments.{Has, IntrinsicAt}
use Rattle.b67_templates.specs.Emitting.{Emitted}
use Rattle.b67_emitter.proofs.Appends.{same_level}
use Rattle.b67_emitter.proofs.Composing.{weaker, then}

pub begun_part : (couple : Couple) (a b c : Built) → b.level ≡ a.level →
    Emitted a b (λ qs. Has qs (level_set a) (size a.operators) (ops.Plain kinds.Mkst) (size b.operators)) →
    Emitted b c (λ qs. Has qs (level_set b) (size b.operators) (ops.Namc couple) (size c.operators)) →
    (sc : names.Scopes) (context : Context) (n : Named) (callee : ℕ) → IsProcedure sc context.level n callee couple →
    Emitted a c (λ qs. BegunAt sc context qs (level_set a) n callee (size a.operators) (size c.operators))
begun_part couple a b c e h i sc context n callee is =
    let q = same_level a b e in
    let N : ℕ → Type 0 = λ l. Emitted b c (λ qs. Has qs l (size b.operators) (ops.Namc couple) (size c.operators)) in
    weaker (λ qs. BegunAt sc context qs (level_set a) n callee (size a.operators) (size c.operators)) (then h (subst N q i))
    (λ qs p. record { couple = couple; procedure = is; marked = size b.operators; mark = p.0; reference = p.1 })

pub intrinsic_part : (name : Intrinsic) (a b c : Built) → b.level ≡ a.level →
    Emitted a b (λ qs. Has qs (level_set a) (size a.operators) (ops.Plain kinds.Mkst) (size b.operators)) →
    Emitted b c (λ qs. Has qs (level_set b) (size b.operators) (ops.Namc (couple_of_intrinsic name)) (size c.operators)) →
    Emitted a c (λ qs. IntrinsicAt qs (level_set a) name (size a.operators) (size c.operators))
intrinsic_part name a b c e h i =
    let N : ℕ → Type 0 = λ l. Emitted b c (λ qs. Has qs l (size b.operators) (ops.Namc (couple_of_intrinsic name)) (size c.operators)) in
    weaker (λ qs. IntrinsicAt qs (level_set a) name (size a.operators) (size c.operators)) (then h (subst N (same_level a b e) i))
    (λ qs p. (size b.operators, p.0, p.1))

-- ---- arrays and events

module _ (couple : Couple) (a b c : Built) (same : b.level ≡ a.level)
    (named : Emitted a b (λ qs. Has qs (level_set a) (size a.operators) (ops.Namc couple) (size b.operators)))
    (sc : names.Scopes) (context : Context) (n : Named) where
  stuffed_after : Emitted b c (λ qs. Has qs (level_set b) (size b.operators) (ops.Plain kinds.Stff) (size c.operators)) →
      Emitted a c (λ qs. Has qs (level_set a) (size a.operators) (ops.Namc couple) (size b.operators) × Has qs (level_set a) (size b.operators) (ops.Plain kinds.Stff) (size c.operators))
  stuffed_after h =
      let H : ℕ → Type 0 = λ l. Emitted b c (λ qs. Has qs l (size b.operators) (ops.Plain kinds.Stff) (size c.operators)) in
      then named (subst H (same_level a b same) h)

  loaded_after : Emitted b c (λ qs. Has qs (level_set b) (size b.operators) (ops.Plain kinds.Lodt) (size c.operators)) →
      Emitted a c (λ qs. Has qs (level_set a) (size a.operators) (ops.Namc couple) (size b.operators) × Has qs (level_set a) (size b.operators) (ops.Plain kinds.Lodt) (size c.operators))
  loaded_after h =
      let H : ℕ → Type 0 = λ l. Emitted b c (λ qs. Has qs l (size b.operators) (ops.Plain kinds.Lodt) (size c.operators)) in
      then named (subst H (same_level a b same) h)

  module _ (shape x : Shape) where
    abbrev IsActual : Type 0
    IsActual = Emitted a c (λ qs. ArrayActualAt sc context qs (level_set a) shape n (size a.operators) (size c.operators))

    pub stuffed_array : Emitted b c (λ qs. Has qs (level_set b) (size b.operators) (ops.Plain kinds.Stff) (size c.operators)) → IsArray sc context.level n x couple →
        false ≡ is_formal ((names.use_of sc n).sort) → ShapeAgrees shape x → IsActual
    stuffed_array h (declared d is r) f agrees =
        weaker (λ qs. ArrayActualAt sc context qs (level_set a) shape n (size a.operators) (size c.operators)) (stuffed_after h)
        (λ qs p. refers d couple (size b.operators) r (subst (λ y. ShapeAgrees shape y) is agrees) p.0 p.1)
    stuffed_array h (formal r) f agrees = absurd (let clash : false ≡ true = f ∙ ap is_formal r.sort_is in cc)

    pub loaded_array : Emitted b c (λ qs. Has qs (level_set b) (size b.operators) (ops.Plain kinds.Lodt) (size c.operators)) → IsArray sc context.level n x couple →
        true ≡ is_formal ((names.use_of sc n).sort) → ShapeAgrees shape x → IsActual
    loaded_array h (declared d is r) f agrees = absurd (let clash : true ≡ false = f ∙ ap is_formal r.sort_is in cc)
    loaded_array h (formal r) f agrees =
        weaker (λ qs. ArrayActualAt sc context qs (level_set a) shape n (size a.operators) (size c.operators)) (loaded_after h)
        (λ qs p. passes x couple (size b.operators) r agrees p.0 p.1)

  abbrev IsEventActual : Type 0
  IsEventActual = Emitted a c (λ qs. EventActualAt sc context qs (level_set a) n (size a.operators) (size c.operators))

  pub stuffed_event : Emitted b c (λ qs. Has qs (level_set b) (size b.operators) (ops.Plain kinds.Stff) (size c.operators)) → IsEvent sc context.level n couple →
      false ≡ is_formal ((names.use_of sc n).sort) → IsEventActual
  stuffed_event h (declared_event r) f =
      weaker (λ qs. EventActualAt sc context qs (level_set a) n (size a.operators) (size c.operators)) (stuffed_after h)
      (λ qs p. events.refers couple (size b.operators) r p.0 p.1)
  stuffed_event h (formal_event r) f = absurd (let clash : false ≡ true = f ∙ ap is_formal r.sort_is in cc)

  pub loaded_event : Emitted b c (λ qs. Has qs (level_set b) (size b.operators) (ops.Plain kinds.Lodt) (size c.operators)) → IsEvent sc context.level n couple →
      true ≡ is_formal ((names.use_of sc n).sort) → IsEventActual
  loaded_event h (declared_event r) f = absurd (let clash : true ≡ false = f ∙ ap is_formal r.sort_is in cc)
  loaded_event h (formal_event r) f =
      weaker (λ qs. EventActualAt sc context qs (level_set a) n (size a.operators) (size c.operators)) (loaded_after h)
      (λ qs p. events.passes couple (size b.operators) r p.0 p.1)
