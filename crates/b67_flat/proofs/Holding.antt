-- The spans are those of what is open, where one more is opened and where one is closed.
use Rattle.std.proofs.Common.{◌≡◌, ◌≢◌, ℕ, zero, suc, ◌<◌, ◌≤◌, List, [], ◌∷◌, length, set, Option, Some, None, ⊎_elim, inl, inr, subst, refl, ap, sym, ◌∙◌, arith, rules}
use Rattle.std.specs.Prelude.{◌⊎◌, slice_get}
use Rattle.std.specs.List.{insert, remove}
use Rattle.std.proofs.lemmas.Bool.{cases_eq}
use Rattle.b67_store.proofs.StoreLaws.{opened_here, opened_others, changed_others, closed_here}
use Rattle.b67_store.specs.Store.{at_number, opened_at}
use Rattle.b67_list.proofs.Lists.{get_within}
use Rattle.b67_list.proofs.Numbers.{ltb_less, ltb_not_less}
use Rattle.b67_flat.specs.declared.Span.{Span}
use Rattle.b67_flat.specs.declared.row_table.HeldRow.{HeldRow}
use Rattle.b67_flat.specs.Spans.{end_of_span, Ascend, first_fit, span_for, span_opened, spans_below, closed, IsOneOf}
use Rattle.b67_flat.specs.Flat.{span_of_row, IsHeld, AreSpans}
use Rattle.b67_flat.proofs.Fits.{fit_within}
use Rattle.b67_flat.proofs.Areas.{begins_past, some_same}

pub none_some : {X A : Type 0} (x : X) → None ≡ Some x → A
none_some x e = absurd (search rules)

-- ---- one of the spans

put_in : (i : ℕ) (spans : List Span) (new : Span) → i ≤ length spans → IsOneOf new (insert spans i new)
put_in zero spans new p = (0, refl)
put_in (suc i) [] new p = absurd (omega arith)
put_in (suc i) (s ∷ ss) new p = let r = put_in i ss new (omega arith) in (suc r.0, r.1)

stays_in : (i k : ℕ) (spans : List Span) (new t : Span) → i ≤ length spans → slice_get spans k ≡ Some t → IsOneOf t (insert spans i new)
stays_in zero k spans new t p e = (suc k, e)
stays_in (suc i) k [] new t p e = absurd (omega arith)
stays_in (suc i) zero (s ∷ ss) new t p e = (0, e)
stays_in (suc i) (suc k) (s ∷ ss) new t p e = let r = stays_in i k ss new t (omega arith) e in (suc r.0, r.1)

one_of : (i k : ℕ) (spans : List Span) (new t : Span) → i ≤ length spans → slice_get (insert spans i new) k ≡ Some t → (t ≡ new) ⊎ IsOneOf t spans
one_of zero zero spans new t p e = inl (sym (some_same t new t e))
one_of zero (suc k) spans new t p e = inr (k, e)
one_of (suc i) k [] new t p e = absurd (omega arith)
one_of (suc i) zero (s ∷ ss) new t p e = inr (0, e)
one_of (suc i) (suc k) (s ∷ ss) new t p e = ⊎_elim (λ (f : t ≡ new). inl f) (λ (r : IsOneOf t ss). inr (suc r.0, r.1)) (one_of i k ss new t (omega arith) e)

left_in : (i k : ℕ) (spans : List Span) (t : Span) → k ≢ i → slice_get spans k ≡ Some t → IsOneOf t (remove spans i)
left_in i k [] t n e = none_some t e
left_in zero zero (s ∷ ss) t n e = absurd (n refl)
left_in zero (suc k) (s ∷ ss) t n e = (k, e)
left_in (suc i) zero (s ∷ ss) t n e = (0, e)
left_in (suc i) (suc k) (s ∷ ss) t n e = let r = left_in i k ss t (λ z. n (ap suc z)) e in (suc r.0, r.1)

was_in : (i k : ℕ) (spans : List Span) (t : Span) → slice_get (remove spans i) k ≡ Some t → (j : ℕ) × (slice_get spans j ≡ Some t) × (j ≢ i)
was_in zero k [] t e = none_some t e
was_in zero k (s ∷ ss) t e = (suc k, e, λ z. absurd (omega (arith, z)))
was_in (suc i) k [] t e = none_some t e
was_in (suc i) zero (s ∷ ss) t e = (0, e, λ z. absurd (omega (arith, z)))
was_in (suc i) (suc k) (s ∷ ss) t e = let r = was_in i k ss t e in (suc r.0, r.1, λ z. r.2 (omega (arith, z)))

-- as many begin below it as stand before it
pub below_it : (from j : ℕ) (spans : List Span) (t : Span) → Ascend from spans → slice_get spans j ≡ Some t → spans_below t.place spans ≡ j
below_it from j [] t a e = none_some t e
below_it from zero (s ∷ ss) t a e = rw (ltb_not_less s.place t.place (omega (arith, ap (λ (z : Span). z.place) (some_same s s t e)))) refl
below_it from (suc j) (s ∷ ss) t a e = rw (ltb_less s.place t.place (omega (arith, a.1, begins_past (end_of_span s) j ss t a.2 e))) (ap suc (below_it (end_of_span s) j ss t a.2 e))

one_place : (spans : List Span) (t : Span) (j k : ℕ) → Ascend 0 spans → slice_get spans j ≡ Some t → slice_get spans k ≡ Some t → j ≡ k
one_place spans t j k a e f = sym (below_it 0 j spans t a e) ∙ below_it 0 k spans t a f

-- the span that is closed is one of them
pub below_within : (spans : List Span) (t : Span) → Ascend 0 spans → IsOneOf t spans → spans_below t.place spans < length spans
below_within spans t a (j, e) = omega (arith, below_it 0 j spans t a e, get_within spans j t e)

-- the new span is one of them
pub opened_in : (count row : ℕ) (spans : List Span) → IsOneOf (span_for count row spans) (span_opened count row spans)
opened_in count row spans = put_in (first_fit 0 count spans) spans (span_for count row spans) (fit_within 0 count spans)

-- and so is each that was
pub still_in : (count row : ℕ) (spans : List Span) (t : Span) → IsOneOf t spans → IsOneOf t (span_opened count row spans)
still_in count row spans t (k, e) = stays_in (first_fit 0 count spans) k spans (span_for count row spans) t (fit_within 0 count spans) e

-- ---- one more is open

module _ (spans : List Span) (rows : List (Option HeldRow)) (are : AreSpans spans rows) where
  pub row_opened : (n : ℕ) (held : HeldRow) → at_number rows n ≡ None → span_of_row n held ≡ span_for held.length n spans → AreSpans (span_opened held.length n spans) (opened_at rows n held)
  row_opened n held none same =
      record {
        of_rows = λ k x e. ⊎_elim
            (λ (f : k ≡ n). here k x f (some_same x held x (sym (opened_here rows n held) ∙ ap (λ (j : ℕ). at_number now j) (sym f) ∙ e)))
            (λ (d : k ≢ n). still_in held.length n spans (span_of_row k x) (are.of_rows k x (sym (opened_others rows n k held d) ∙ e)))
            (cases_eq k n);
        no_other = λ s o. ⊎_elim
            (λ (f : s ≡ span_for held.length n spans). subst (λ (z : Span). IsHeld now z.row z) (sym f) (held, opened_here rows n held, sym same))
            (λ (r : IsOneOf s spans). still s.row s (are.no_other s r))
            (one_of (first_fit 0 held.length spans) o.0 spans (span_for held.length n spans) s (fit_within 0 held.length spans) o.1);
      }
    where
      now : List (Option HeldRow)
      now = opened_at rows n held

      all : List Span
      all = span_opened held.length n spans

      here : (k : ℕ) (x : HeldRow) → k ≡ n → held ≡ x → IsOneOf (span_of_row k x) all
      here k x f e =
          let is : span_for held.length n spans ≡ span_of_row k x = sym same ∙ ap (λ (y : HeldRow). span_of_row n y) e ∙ ap (λ (j : ℕ). span_of_row j x) (sym f) in
          subst (λ (s : Span). IsOneOf s all) is (opened_in held.length n spans)

      still : (row : ℕ) (s : Span) → IsHeld rows row s → IsHeld now row s
      still k s (x, e, f) = ⊎_elim
          (λ (g : k ≡ n). none_some x (sym none ∙ ap (λ (j : ℕ). at_number rows j) (sym g) ∙ e))
          (λ (d : k ≢ n). (x, opened_others rows n k held d ∙ e, f))
          (cases_eq k n)

  -- ---- one is closed

  row_removed : (n j : ℕ) (held : HeldRow) → Ascend 0 spans → at_number rows n ≡ Some held → slice_get spans j ≡ Some (span_of_row n held) → AreSpans (remove spans j) (set rows n None)
  row_removed n j held a h o =
      record {
        of_rows = λ k x e. ⊎_elim
            (λ (f : k ≡ n). none_some x (sym (closed_here rows n) ∙ ap (λ (i : ℕ). at_number (set rows n None) i) (sym f) ∙ e))
            (λ (d : k ≢ n). left k x d (are.of_rows k x (sym (changed_others rows n k None d) ∙ e)))
            (cases_eq k n);
        no_other = λ s r. let w = was_in j r.0 spans s r.1 in still w.0 s w.1 w.2 s.row (are.no_other s (w.0, w.1));
      }
    where
      left : (k : ℕ) (x : HeldRow) → k ≢ n → IsOneOf (span_of_row k x) spans → IsOneOf (span_of_row k x) (remove spans j)
      left k x d r =
          left_in j r.0 spans (span_of_row k x) (λ z. d (sym (ap (λ (s : Span). s.row) (some_same (span_of_row n held) (span_of_row n held) (span_of_row k x) (sym o ∙ ap (λ (i : ℕ). slice_get spans i) (sym z) ∙ r.1))))) r.1

      still : (i : ℕ) (s : Span) → slice_get spans i ≡ Some s → i ≢ j → (row : ℕ) → IsHeld rows row s → IsHeld (set rows n None) row s
      still i s g d k (x, e, f) = ⊎_elim
          (λ (m : k ≡ n). absurd (d (one_place spans s i j a g (o ∙ ap Some (sym (f ∙ ap (λ (q : ℕ). span_of_row q x) m ∙ ap (λ (y : HeldRow). span_of_row n y) (some_same x x held (sym e ∙ ap (λ (q : ℕ). at_number rows q) m ∙ h))))))))
          (λ (m : k ≢ n). (x, changed_others rows n k None m ∙ e, f))
          (cases_eq k n)

  pub row_closed : (n : ℕ) (held : HeldRow) → Ascend 0 spans → at_number rows n ≡ Some held → AreSpans (closed held.place spans) (set rows n None)
  row_closed n held a h =
      let r = are.of_rows n held h in
      subst (λ (i : ℕ). AreSpans (remove spans i) (set rows n None)) (sym (below_it 0 r.0 spans (span_of_row n held) a r.1)) (row_removed n r.0 held a h r.1)
