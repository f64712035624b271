-- A span is opened at the least place at which its words belong to none.
use Rattle.std.proofs.Common.{◌≡◌, ℕ, suc, ◌+◌, ◌<◌, ◌≤◌, Bool, true, false, if◌then◌else◌, List, [], ◌∷◌, take, ⊎_elim, inl, inr, refl, arith}
use Rattle.std.specs.Prelude.{nat_lt}
use Rattle.std.proofs.lemmas.Bool.{cases_lt}
use Rattle.b67_list.proofs.Numbers.{ltb_false, ltb_true}
use Rattle.b67_flat.specs.declared.Span.{Span}
use Rattle.b67_flat.specs.Spans.{end_of_span, Ascend, end_after, first_fit, Belongs, IsFree, PlacesAreLeast}
use Rattle.b67_flat.proofs.Opening.{ends_past}

belongs_past : (from at : ℕ) (spans : List Span) → Ascend from spans → Belongs at spans → from ≤ at
belongs_past from at [] a b = absurd b
belongs_past from at (s ∷ ss) a b = ⊎_elim (λ (p : (s.place ≤ at) × (at < end_of_span s)). omega (arith, a.0, p.0)) (λ (r : Belongs at ss). omega (arith, a.0, belongs_past (end_of_span s) at ss a.2 r)) b

free_case : (from count at i : ℕ) (s : Span) (ss : List Span) (b : Bool) → nat_lt s.place (from + count) ≡ b → Ascend from (s ∷ ss) → (end_after (end_of_span s) (take i ss) ≤ at → at < end_after (end_of_span s) (take i ss) + count → Belongs at ss → ⊥) → end_after from (take (if b then suc i else 0) (s ∷ ss)) ≤ at → at < end_after from (take (if b then suc i else 0) (s ∷ ss)) + count → Belongs at (s ∷ ss) → ⊥
free_case from count at i s ss true e a later p q b = ⊎_elim (λ (r : (s.place ≤ at) × (at < end_of_span s)). absurd (omega (arith, r.1, p, ends_past (end_of_span s) i ss a.2))) (λ (r : Belongs at ss). later p q r) b
free_case from count at i s ss false e a later p q b = ⊎_elim (λ (r : (s.place ≤ at) × (at < end_of_span s)). absurd (omega (arith, r.0, q, ltb_false s.place (from + count) e))) (λ (r : Belongs at ss). absurd (omega (arith, q, ltb_false s.place (from + count) e, belongs_past (end_of_span s) at ss a.2 r))) b

free_from : (from count at : ℕ) (spans : List Span) → Ascend from spans → end_after from (take (first_fit from count spans) spans) ≤ at → at < end_after from (take (first_fit from count spans) spans) + count → Belongs at spans → ⊥
free_from from count at [] a p q b = b
free_from from count at (s ∷ ss) a p q b =
    free_case from count at (first_fit (end_of_span s) count ss) s ss (nat_lt s.place (from + count)) refl a (λ r t u. free_from (end_of_span s) count at ss a.2 r t u) p q b

least_case : (from count other i : ℕ) (s : Span) (ss : List Span) (b : Bool) → nat_lt s.place (from + count) ≡ b → 1 ≤ count → Ascend from (s ∷ ss) → from ≤ other → IsFree other count (s ∷ ss) → (end_of_span s ≤ other → end_after (end_of_span s) (take i ss) ≤ other) → end_after from (take (if b then suc i else 0) (s ∷ ss)) ≤ other
least_case from count other i s ss false e some a p free later = p
least_case from count other i s ss true e some a p free later = ⊎_elim
    (λ (q : other < end_of_span s). ⊎_elim
    (λ (r : other < s.place). absurd (free s.place (omega (arith, r)) (omega (arith, p, ltb_true s.place (from + count) e)) (inl (omega arith, omega (arith, a.1)))))
    (λ (r : s.place ≤ other). absurd (free other (omega arith) (omega (arith, some)) (inl (r, q))))
    (cases_lt other s.place))
    (λ (q : end_of_span s ≤ other). later q)
    (cases_lt other (end_of_span s))

least_from : (from count other : ℕ) (spans : List Span) → 1 ≤ count → Ascend from spans → from ≤ other → IsFree other count spans → end_after from (take (first_fit from count spans) spans) ≤ other
least_from from count other [] some a p free = p
least_from from count other (s ∷ ss) some a p free =
    least_case from count other (first_fit (end_of_span s) count ss) s ss (nat_lt s.place (from + count)) refl some a p free (λ q. least_from (end_of_span s) count other ss some a.2 q (λ at r t b. free at r t (inr b)))

pub places_are_least : PlacesAreLeast
places_are_least count spans some a =
    record {
      free = λ at p q b. free_from 0 count at spans a p q b;
      least = λ other free. least_from 0 count other spans some a (omega arith) free;
    }
