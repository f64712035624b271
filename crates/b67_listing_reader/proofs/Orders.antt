-- Operators one after another, and the syllables that they are.
use Rattle.std.proofs.Common.{◌≡◌, ℕ, zero, suc, ◌+◌, ◌≤◌, List, [], ◌∷◌, ◌++◌, length, drop, refl, sym, ap, subst, arith, ◌∙◌, length-append}
use Rattle.std.specs.List.{flat_map}
use Rattle.std.proofs.lemmas.List.{drop-drop, drop_at, drop_all}
use Rattle.b67_ops.specs.declared.TheConstants.{OUTER_LEVEL, MOST_LEVEL}
use Rattle.b67_ops.specs.declared.Operator.TheVariants.{Plain}
use Rattle.b67_ops.specs.declared.PlainKind.TheVariants.{Noop}
use Rattle.b67_ops.specs.Spelling.{spelling, OperatorStands}
use Rattle.b67_ops.proofs.Laws.{length_spelling}
use Rattle.b67_segment.specs.declared.code.Mark.{Mark}
use Rattle.b67_listing.specs.Operators.{ListedOperator}
use Rattle.b67_listing.specs.Listings.{StandInOrder}
use Rattle.b67_listing_reader.specs.Reading.{OperatorCanStand, width, AreInOrder}

-- the syllables of an operator, and of operators
abbrev pub spelled : ListedOperator → List ℕ
spelled p = spelling p.place p.level p.operator

abbrev pub code_text : List ListedOperator → List ℕ
code_text ps = flat_map spelled ps

pub width_some : (p : ListedOperator) → 1 ≤ width p
width_some p = (length_spelling p.place p.level p.operator).0

pub order_grows : (at : ℕ) (ps : List ListedOperator) (end : ℕ) → AreInOrder at ps end → at ≤ end
order_grows at [] end h = omega arith
order_grows at (p ∷ ps) end h = let later = order_grows (at + width p) ps end h.1 in omega arith

-- one more operator
pub order_push : (at : ℕ) (ps : List ListedOperator) (mid : ℕ) (p : ListedOperator) → AreInOrder at ps mid → OperatorCanStand mid p → AreInOrder at (ps ++ p ∷ []) (mid + width p)
order_push at [] mid p h stands = (subst (λ k. OperatorCanStand k p) (sym h) stands, ap (λ k. k + width p) h)
order_push at (q ∷ ps) mid p h stands = (h.0, order_push (at + width q) ps mid p h.1 stands)

pub order_append : (at : ℕ) (ps : List ListedOperator) (mid : ℕ) (qs : List ListedOperator) (end : ℕ) → AreInOrder at ps mid → AreInOrder mid qs end → AreInOrder at (ps ++ qs) end
order_append at [] mid qs end h g = subst (λ k. AreInOrder k qs end) (sym h) g
order_append at (p ∷ ps) mid qs end h g = (h.0, order_append (at + width p) ps mid qs end h.1 g)

pub length_code : (at : ℕ) (ps : List ListedOperator) (end : ℕ) → AreInOrder at ps end → at + length (code_text ps) ≡ end
length_code at [] end h = omega arith
length_code at (p ∷ ps) end h =
    let later = length_code (at + width p) ps end h.1 in
    omega (arith, length-append (spelled p) (code_text ps))

-- operators in order fill the syllables that they are
pub fills : (bytes : List ℕ) (at : ℕ) (ps : List ListedOperator) → AreInOrder at ps (length bytes) → drop at bytes ≡ code_text ps → StandInOrder bytes at ps
fills bytes at [] h text = h
fills bytes at (p ∷ ps) h text =
    let next = at + width p in
    let tail : drop next bytes ≡ code_text ps =
    sym (drop-drop (width p) at bytes) ∙ ap (drop (width p)) text ∙ drop_at (spelled p) (code_text ps) (width p) refl in
    let stands : OperatorStands bytes p.place p.level p.operator next = record {
      text = ap (λ k. drop k bytes) h.0.place_is ∙ text ∙ ap (λ xs. spelled p ++ xs) (sym tail);
      next_is = ap (λ k. k + width p) (sym h.0.place_is);
      fits = h.0.fits;
    } in
    (h.0.place_is, h.0.least, h.0.most, (next, subst (λ k. OperatorStands bytes k p.level p.operator next) h.0.place_is stands, fills bytes next ps h.1 tail))

-- and what fills syllables is in order
pub record Filled (bytes : List ℕ) (at : ℕ) (ps : List ListedOperator) : Type 0 where
  pub order : AreInOrder at ps (length bytes)
  pub text : drop at bytes ≡ code_text ps

pub filled : (bytes : List ℕ) (at : ℕ) (ps : List ListedOperator) → StandInOrder bytes at ps → Filled bytes at ps
filled bytes at [] h = record { order = h; text = drop_all at bytes (omega arith) }
filled bytes at (p ∷ ps) h =
    let stands : OperatorStands bytes p.place p.level p.operator h.3.0 = subst (λ k. OperatorStands bytes k p.level p.operator h.3.0) (sym h.0) h.3.1 in
    let next : h.3.0 ≡ at + width p = stands.next_is ∙ ap (λ k. k + width p) h.0 in
    let rest = filled bytes h.3.0 ps h.3.2 in
    record {
      order = (record { place_is = h.0; least = h.1; most = h.2; fits = stands.fits }, subst (λ k. AreInOrder k ps (length bytes)) next rest.order);
      text = ap (λ k. drop k bytes) (sym h.0) ∙ stands.text ∙ ap (λ xs. spelled p ++ xs) rest.text;
    }

-- the mark of an operator
abbrev pub mark_of : ListedOperator → Mark
mark_of p = record { place = p.place; level = p.level }

-- NOOPs of one level from one place on
abbrev pub noops : ℕ → ℕ → ℕ → List ListedOperator
noops level zero at = []
noops level (suc count) at = record { place = at; level = level; operator = Plain Noop } ∷ noops level count (at + 1)

pub noops_order : (level count at : ℕ) → OUTER_LEVEL ≤ level → level ≤ MOST_LEVEL → AreInOrder at (noops level count at) (at + count)
noops_order level zero at least most = omega arith
noops_order level (suc count) at least most =
    let same : at + 1 + count ≡ at + suc count = omega arith in
    (record { place_is = refl; least = least; most = most; fits = tt }, subst (λ k. AreInOrder (at + 1) (noops level count (at + 1)) k) same (noops_order level count (at + 1) least most))
