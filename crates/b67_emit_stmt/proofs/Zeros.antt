-- The cells of a block.
use Rattle.std.proofs.Common.{◌≡◌, ℕ, zero, suc, ◌+◌, ◌≤◌, List, [], ◌∷◌, ◌++◌, length, refl, sym, subst, arith, length-append}
use Rattle.std.proofs.lemmas.List.{length-map}
use Rattle.std.specs.Prelude.{replicate}
use Rattle.b67_ops.specs.declared.Operator.TheVariants as ops
use Rattle.b67_ops.specs.declared.PlainKind.TheVariants as kinds
use Rattle.b67_segment.specs.Operators.{Placed, size}
use Rattle.b67_segment.specs.Building.{Built}
use Rattle.b67_templates.specs.Fragments.{Has, AllAt, ControlsAt, code_at, procedure_controls}
use Rattle.b67_templates.specs.Cells.{Actual}
use Rattle.b67_templates.specs.Code.{routine_controls}
use Rattle.b67_templates.specs.Emitting.{Emitted}
use Rattle.b67_emitter.proofs.Composing.{then, weaker}
use Rattle.b67_emit_stmt.specs.declared.draft.Draft.{Draft}
use Rattle.b67_emit_stmt.specs.Drafts.{Emits, HasFew, draft_noted}
use Rattle.b67_emit_stmt.specs.Places.{Later, Place, CellsAt, MadeAt}
use Rattle.b67_emit_stmt.proofs.Drafts.{piece}

zeros_more : (qs : List Placed) (level n f m t : ℕ) → AllAt qs level (replicate n kinds.Zero) f m → Has qs level m (ops.Plain kinds.Zero) t →
    AllAt qs level (replicate (suc n) kinds.Zero) f t
zeros_more qs level zero f m t h k = let H : ℕ → Type 0 = λ at. Has qs level at (ops.Plain kinds.Zero) t in (t, subst H (sym h) k, refl)
zeros_more qs level (suc n) f m t h k = (h.0, h.1, zeros_more qs level n h.0 m t h.2 k)

pub zeros_next : (level n : ℕ) (a b d : Built) → Emitted a b (λ qs. AllAt qs level (replicate n kinds.Zero) (size a.operators) (size b.operators)) →
    Emitted b d (λ qs. Has qs level (size b.operators) (ops.Plain kinds.Zero) (size d.operators)) →
    Emitted a d (λ qs. AllAt qs level (replicate (n + 1) kinds.Zero) (size a.operators) (size d.operators))
zeros_next level n a b d h k =
    let next : suc n ≡ n + 1 = omega arith in
    weaker (λ qs. AllAt qs level (replicate (n + 1) kinds.Zero) (size a.operators) (size d.operators)) (then h k)
    (λ qs p.
    let E : ℕ → Type 0 = λ m. AllAt qs level (replicate m kinds.Zero) (size a.operators) (size d.operators) in
    subst E next (zeros_more qs level n (size a.operators) (size b.operators) (size d.operators) p.0 p.1))

pushed : (sc : Place) (later : Later) (qs : List Placed) (level many m t : ℕ) → 1 ≤ many → Has qs level m (ops.Plain kinds.Push) t → MadeAt sc later qs level many m t
pushed sc later qs level zero m t h k = absurd (omega arith)
pushed sc later qs level (suc n) m t h k = k

-- the control words of procedures, and after them those of actuals
words_then : (qs : List Placed) (level segment : ℕ) (segments : List ℕ) (actuals : List Actual) (ats : List ℕ) (f m t : ℕ) → ControlsAt qs level (procedure_controls level segments) f m →
    ControlsAt qs level (routine_controls segment level actuals ats) m t → ControlsAt qs level (procedure_controls level segments ++ routine_controls segment level actuals ats) f t
words_then qs level segment [] actuals ats f m t e h = let C : ℕ → Type 0 = λ at. ControlsAt qs level (routine_controls segment level actuals ats) at t in subst C (sym e) h
words_then qs level segment (x ∷ xs) actuals ats f m t h k = (h.0, h.1, h.2, words_then qs level segment xs actuals ats h.0 m t h.3 k)

pub words_both : (level segment : ℕ) (segments : List ℕ) (actuals : List Actual) (ats : List ℕ) (b e x : Built) →
    Emitted b e (λ qs. ControlsAt qs level (procedure_controls level segments) (size b.operators) (size e.operators)) →
    Emitted e x (λ qs. ControlsAt qs level (routine_controls segment level actuals ats) (size e.operators) (size x.operators)) →
    Emitted b x (λ qs. ControlsAt qs level (procedure_controls level segments ++ routine_controls segment level actuals ats) (size b.operators) (size x.operators))
words_both level segment segments actuals ats b e x h k =
    weaker (λ qs. ControlsAt qs level (procedure_controls level segments ++ routine_controls segment level actuals ats) (size b.operators) (size x.operators)) (then h k)
    (λ qs p. words_then qs level segment segments actuals ats (size b.operators) (size e.operators) (size x.operators) p.0 p.1)

-- how many control words these are
pub routines_long : (segment level : ℕ) (actuals : List Actual) (ats : List ℕ) → length ats ≡ length actuals → length (routine_controls segment level actuals ats) ≡ length actuals
routines_long segment level [] ats same = refl
routines_long segment level (a ∷ actuals) [] same = absurd (let few : 0 ≡ 1 + length actuals = omega (arith, same) in omega (arith, few))
routines_long segment level (a ∷ actuals) (at ∷ ats) same =
    let rest = routines_long segment level actuals ats (omega (arith, same)) in omega (arith, rest)

pub controls_long : (segment level : ℕ) (segments : List ℕ) (actuals : List Actual) (ats : List ℕ) → length ats ≡ length actuals →
    length (procedure_controls level segments ++ routine_controls segment level actuals ats) ≡ length segments + length actuals
controls_long segment level segments actuals ats same =
    let procedures : length (procedure_controls level segments) ≡ length segments = length-map segments (λ (segment : ℕ). code_at segment 0 (level + 1)) in
    omega (arith, length-append (procedure_controls level segments) (routine_controls segment level actuals ats), procedures, routines_long segment level actuals ats same)

module _ (sc : Place) (level many : ℕ) (segments : List ℕ) (actuals : List Actual) (ats : List ℕ) (as_long : length ats ≡ length actuals) (most : ℕ) (a d : Draft) (b e : Built) (es : d.exits.items ≡ a.exits.items) (fs : draft_noted d ≡ draft_noted a) (few : HasFew a)
    (zeros : Emitted a.out b (λ qs. AllAt qs level (replicate many kinds.Zero) (size a.out.operators) (size b.operators)))
    (words : Emitted b e (λ qs. ControlsAt qs level (procedure_controls level segments ++ routine_controls sc.segment level actuals ats) (size b.operators) (size e.operators)))
    (short : size d.out.operators ≤ size a.out.operators + most) where
  pub cells_pushed : 1 ≤ many + length segments + length actuals → Emitted e d.out (λ qs. Has qs level (size e.operators) (ops.Plain kinds.Push) (size d.out.operators)) →
      Emits most a d (λ later qs target. CellsAt sc later qs level many segments actuals ats (size a.out.operators) (size d.out.operators))
  cells_pushed some k =
      piece {n = most} {d = a} {e = d} es fs few
      (λ later.
      weaker (λ qs. CellsAt sc later qs level many segments actuals ats (size a.out.operators) (size d.out.operators)) (then (then zeros words) k)
      (λ qs p. (size b.operators, size e.operators, p.0.0, p.0.1, pushed sc later qs level (many + length (procedure_controls level segments ++ routine_controls sc.segment level actuals ats)) (size e.operators) (size d.out.operators) (omega (arith, some, controls_long sc.segment level segments actuals ats as_long)) p.1)))
      short

  pub no_cells : many + length segments + length actuals ≡ 0 → d.out ≡ e → Emits most a d (λ later qs target. CellsAt sc later qs level many segments actuals ats (size a.out.operators) (size d.out.operators))
  no_cells none same =
      let E : Built → Type 0 = λ x. Emitted b x (λ qs. ControlsAt qs level (procedure_controls level segments ++ routine_controls sc.segment level actuals ats) (size b.operators) (size x.operators)) in
      piece {n = most} {d = a} {e = d} es fs few
      (λ later.
      weaker (λ qs. CellsAt sc later qs level many segments actuals ats (size a.out.operators) (size d.out.operators)) (then zeros (subst E (sym same) words))
      (λ qs p.
      let nothing : 0 ≡ many + length (procedure_controls level segments ++ routine_controls sc.segment level actuals ats) =
      omega (arith, none, controls_long sc.segment level segments actuals ats as_long) in
      let M : ℕ → Type 0 = λ m. MadeAt sc later qs level m (size d.out.operators) (size d.out.operators) in
      (size b.operators, size d.out.operators, p.0, p.1, subst M nothing refl)))
      short
