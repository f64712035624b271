-- The control words of actuals, one after another.
use Rattle.std.proofs.Common.{◌≡◌, ℕ, ◌+◌, Bool, List, [], ◌∷◌, drop, refl, sym, ap, ◌∙◌, subst}
use Rattle.std.specs.Borrow.{Bor}
use Rattle.algol_tree.specs.declared.tree.Expr.{Expr}
use Rattle.algol_tree.specs.Image.{expr}
use Rattle.b67_segment.specs.Operators.{size}
use Rattle.b67_segment.specs.Building.{Built, level_set}
use Rattle.b67_templates.specs.Cells.{Actual, has_place}
use Rattle.b67_templates.specs.Code.{routine_controls}
use Rattle.b67_templates.specs.Emitting.{Emitted}
use Rattle.b67_templates.specs.Fragments.{ControlsAt, routine_at}
use Rattle.b67_emitter.proofs.Composing.{then, weaker}
use Rattle.b67_emit_stmt.specs.declared.draft.Known.{Known}
use Rattle.b67_emit_stmt.specs.Actuals.{exprs_of, images}
use Rattle.b67_emit_stmt.proofs.Coded.{behind, left_as}

module _ (s : Known) (level : ℕ) (xs : List (Bor Expr)) (ats : List ℕ) where
  -- from the first builder to the second control words were appended that, with those from a number on, are all
  abbrev pub WordsLeft : ℕ → Built → Built → Type 0
  WordsLeft i a b =
      (own : List Actual) → exprs_of own ≡ images xs →
      Emitted a b (λ qs. (t : ℕ) → ControlsAt qs level (routine_controls s.segment level (drop i own) (drop i ats)) (size b.operators) t →
      ControlsAt qs level (routine_controls s.segment level own ats) (size a.operators) t)

  pub words_more : (i : ℕ) (x : Bor Expr) (rest : List (Bor Expr)) (at : ℕ) (later : List ℕ) → drop i xs ≡ x ∷ rest → drop i ats ≡ at ∷ later → (names : Bool) → names ≡ has_place (expr x.now) →
      (a b d : Built) → level_set b ≡ level → WordsLeft i a b →
      Emitted b d (λ qs. ControlsAt qs (level_set b) (routine_at names s.segment at (level_set b + 1) ∷ []) (size b.operators) (size d.operators)) → WordsLeft (i + 1) a d
  words_more i x rest at later is ats_are names names_are a b d set h word = λ own same. by own same (drop i own) refl (left_as own xs i same ∙ ap images is)
    where
      by : (own : List Actual) → exprs_of own ≡ images xs → (left : List Actual) → drop i own ≡ left → exprs_of left ≡ expr x.now ∷ images rest →
          Emitted a d (λ qs. (t : ℕ) → ControlsAt qs level (routine_controls s.segment level (drop (i + 1) own) (drop (i + 1) ats)) (size d.operators) t →
          ControlsAt qs level (routine_controls s.segment level own ats) (size a.operators) t)
      by own same [] left trees = absurd (let clash : [] ≡ expr x.now ∷ images rest = trees in cc)
      by own same (o ∷ os) left trees =
          let there : o.expr ∷ exprs_of os ≡ expr x.now ∷ images rest = trees in
          let named : o.expr ≡ expr x.now = cc in
          let place : names ≡ has_place o.expr = names_are ∙ ap has_place (sym named) in
          let W : ℕ → Bool → Type 0 = λ l n. Emitted b d (λ qs. ControlsAt qs l (routine_at n s.segment at (l + 1) ∷ []) (size b.operators) (size d.operators)) in
          let own_word : W level (has_place o.expr) = subst (W level) place (subst (λ l. W l names) set word) in
          weaker
          (λ qs. (t : ℕ) → ControlsAt qs level (routine_controls s.segment level (drop (i + 1) own) (drop (i + 1) ats)) (size d.operators) t →
          ControlsAt qs level (routine_controls s.segment level own ats) (size a.operators) t)
          (then (h own same) own_word)
          (λ qs p t k.
          let C : List Actual → List ℕ → ℕ → Type 0 = λ as' bs f. ControlsAt qs level (routine_controls s.segment level as' bs) f t in
          let after : C os later (size d.operators) =
          subst (λ (l : List ℕ). C os l (size d.operators)) (behind ats i at later ats_are) (subst (λ (l : List Actual). C l (drop (i + 1) ats) (size d.operators)) (behind own i o os left) k) in
          let both : C (o ∷ os) (at ∷ later) (size b.operators) = (p.1.0, p.1.1, p.1.2, subst (C os later) (sym p.1.3) after) in
          p.0 t (subst (λ (l : List Actual). C l (drop i ats) (size b.operators)) (sym left) (subst (λ (l : List ℕ). C (o ∷ os) l (size b.operators)) (sym ats_are) both)))
