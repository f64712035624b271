-- A subscript is moved by code after code.
use Rattle.std.proofs.Common.{◌≡◌, ◌≢◌, ℕ, [], ◌∷◌, Bool, true, false, ℤ, pos, int_eq, refl, sym, ◌∙◌, subst}
use Rattle.std.specs.Prelude.{neg_ℤ}
use Rattle.std.proofs.lemmas.Bool.Decides.{Decides-int_eq}
use Rattle.b67_ops.specs.declared.Operator.TheVariants as ops
use Rattle.b67_ops.specs.declared.PlainKind.TheVariants as kinds
use Rattle.b67_segment.specs.Operators.{size}
use Rattle.b67_segment.specs.Building.{Built, level_set}
use Rattle.b67_templates.specs.Fragments.{Has, AllAt, NumberAt, Low, above, near, far, low_of, TimesBy, TimesAt, MovedBy, MovedAt}
use Rattle.b67_templates.specs.Emitting.{Emitted}
use Rattle.b67_emitter.proofs.Appends.{same_level}
use Rattle.b67_emitter.proofs.Composing.{weaker, then}

-- ---- a comparison times a number

is_other : (factor : ℤ) (t : Bool) → int_eq factor (pos 1) ≡ t → factor ≢ pos 1 → t ≡ false
is_other factor true e other = absurd (other ((Decides-int_eq factor (pos 1)).0 e))
is_other factor false e other = refl

pub times_part : (factor value : ℤ) (a b c : Built) → value ≡ factor → factor ≢ pos 1 → b.level ≡ a.level →
    Emitted a b (λ qs. NumberAt qs (level_set a) value (size a.operators) (size b.operators)) →
    Emitted b c (λ qs. Has qs (level_set b) (size b.operators) (ops.Plain kinds.Mult) (size c.operators)) →
    Emitted a c (λ qs. TimesAt qs (level_set a) factor (size a.operators) (size c.operators))
times_part factor value a b c v other e h i =
    let N : ℤ → Type 0 = λ z. Emitted a b (λ qs. NumberAt qs (level_set a) z (size a.operators) (size b.operators)) in
    let H : ℕ → Type 0 = λ l. Emitted b c (λ qs. Has qs l (size b.operators) (ops.Plain kinds.Mult) (size c.operators)) in
    weaker (λ qs. TimesAt qs (level_set a) factor (size a.operators) (size c.operators)) (then (subst N v h) (subst H (same_level a b e) i))
    (λ qs p.
    subst (λ t. TimesBy qs (level_set a) t factor (size a.operators) (size c.operators)) (sym (is_other factor (int_eq factor (pos 1)) refl other))
    (size b.operators, p.0, p.1))

-- ---- the three moves

pub above_part : (low value : ℤ) (a b c d : Built) → value ≡ low → b.level ≡ a.level → c.level ≡ b.level →
    Emitted a b (λ qs. AllAt qs (level_set a) (kinds.Dupl ∷ kinds.Zero ∷ kinds.Greq ∷ []) (size a.operators) (size b.operators)) →
    Emitted b c (λ qs. TimesAt qs (level_set b) value (size b.operators) (size c.operators)) →
    Emitted c d (λ qs. Has qs (level_set c) (size c.operators) (ops.Plain kinds.Subt) (size d.operators)) →
    Emitted a d (λ qs. MovedBy qs (level_set a) above low (size a.operators) (size d.operators))
above_part low value a b c d v e f h i j =
    let q = same_level a b e in
    let r = same_level b c f ∙ q in
    let T : ℤ → ℕ → Type 0 = λ z l. Emitted b c (λ qs. TimesAt qs l z (size b.operators) (size c.operators)) in
    let H : ℕ → Type 0 = λ l. Emitted c d (λ qs. Has qs l (size c.operators) (ops.Plain kinds.Subt) (size d.operators)) in
    weaker (λ qs. MovedBy qs (level_set a) above low (size a.operators) (size d.operators))
    (then (then h (subst (T low) q (subst (λ z. T z (level_set b)) v i))) (subst H r j))
    (λ qs p. (size b.operators, size c.operators, p.0.0, p.0.1, p.1))

pub near_part : (low value : ℤ) (a b c d e f : Built) → value ≡ neg_ℤ low → b.level ≡ a.level → c.level ≡ b.level → d.level ≡ c.level → e.level ≡ d.level →
    Emitted a b (λ qs. Has qs (level_set a) (size a.operators) (ops.Plain kinds.Dupl) (size b.operators)) →
    Emitted b c (λ qs. Has qs (level_set b) (size b.operators) (ops.Lt16 65535) (size c.operators)) →
    Emitted c d (λ qs. AllAt qs (level_set c) (kinds.Dupl ∷ kinds.Mult ∷ kinds.Lseq ∷ []) (size c.operators) (size d.operators)) →
    Emitted d e (λ qs. TimesAt qs (level_set d) value (size d.operators) (size e.operators)) →
    Emitted e f (λ qs. Has qs (level_set e) (size e.operators) (ops.Plain kinds.Add) (size f.operators)) →
    Emitted a f (λ qs. MovedBy qs (level_set a) near low (size a.operators) (size f.operators))
near_part low value a b c d e f v l m n o h i j k s =
    let q = same_level a b l in
    let r = same_level b c m ∙ q in
    let t = same_level c d n ∙ r in
    let u = same_level d e o ∙ t in
    let H : ℕ → Type 0 = λ x. Emitted b c (λ qs. Has qs x (size b.operators) (ops.Lt16 65535) (size c.operators)) in
    let A : ℕ → Type 0 = λ x. Emitted c d (λ qs. AllAt qs x (kinds.Dupl ∷ kinds.Mult ∷ kinds.Lseq ∷ []) (size c.operators) (size d.operators)) in
    let T : ℤ → ℕ → Type 0 = λ z x. Emitted d e (λ qs. TimesAt qs x z (size d.operators) (size e.operators)) in
    let P : ℕ → Type 0 = λ x. Emitted e f (λ qs. Has qs x (size e.operators) (ops.Plain kinds.Add) (size f.operators)) in
    weaker (λ qs. MovedBy qs (level_set a) near low (size a.operators) (size f.operators))
    (then (then (then (then h (subst H q i)) (subst A r j)) (subst (T (neg_ℤ low)) t (subst (λ z. T z (level_set d)) v k))) (subst P u s))
    (λ qs p. (size b.operators, size c.operators, size d.operators, size e.operators, p.0.0.0.0, p.0.0.0.1, p.0.0.1, p.0.1, p.1))

pub far_part : (low value : ℤ) (a b c d : Built) → value ≡ neg_ℤ low → b.level ≡ a.level → c.level ≡ b.level →
    Emitted a b (λ qs. AllAt qs (level_set a) (kinds.Dupl ∷ kinds.Zero ∷ kinds.Less ∷ kinds.Mult ∷ []) (size a.operators) (size b.operators)) →
    Emitted b c (λ qs. NumberAt qs (level_set b) value (size b.operators) (size c.operators)) →
    Emitted c d (λ qs. Has qs (level_set c) (size c.operators) (ops.Plain kinds.Add) (size d.operators)) →
    Emitted a d (λ qs. MovedBy qs (level_set a) far low (size a.operators) (size d.operators))
far_part low value a b c d v e f h i j =
    let q = same_level a b e in
    let r = same_level b c f ∙ q in
    let N : ℤ → ℕ → Type 0 = λ z l. Emitted b c (λ qs. NumberAt qs l z (size b.operators) (size c.operators)) in
    let H : ℕ → Type 0 = λ l. Emitted c d (λ qs. Has qs l (size c.operators) (ops.Plain kinds.Add) (size d.operators)) in
    weaker (λ qs. MovedBy qs (level_set a) far low (size a.operators) (size d.operators))
    (then (then h (subst (N (neg_ℤ low)) q (subst (λ z. N z (level_set b)) v i))) (subst H r j))
    (λ qs p. (size b.operators, size c.operators, p.0.0, p.0.1, p.1))

-- ---- the one for where the lower bound lies

pub moved_part : (low value : ℤ) (place : Low) (a b : Built) → value ≡ low → low_of low ≡ place →
    Emitted a b (λ qs. MovedBy qs (level_set a) place value (size a.operators) (size b.operators)) →
    Emitted a b (λ qs. MovedAt qs (level_set a) low (size a.operators) (size b.operators))
moved_part low value place a b same is e =
    let M : Low → ℤ → Type 0 = λ l z. Emitted a b (λ qs. MovedBy qs (level_set a) l z (size a.operators) (size b.operators)) in
    subst (λ l. M l low) (sym is) (subst (M place) same e)
