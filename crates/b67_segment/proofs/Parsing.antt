-- The operators of the syllables and marks that operators have are those operators.
use Rattle.std.proofs.Common.{◌≡◌, ℕ, zero, suc, ◌+◌, ◌<◌, ◌≤◌, true, false, eqb, Option, Some, None, List, [], ◌∷◌, length, drop, refl, sym, ap, ◌∙◌, inl, inr, arith, length-append}
use Rattle.std.specs.Prelude.{unwrap_or}
use Rattle.std.proofs.lemmas.Bool.{eq-eqb, ne_eqb, cases_Bool, cond-true, cond-false}
use Rattle.std.proofs.lemmas.List.{drop_at}
use Rattle.b67_ops.specs.Spelling.{filling, spelling}
use Rattle.b67_ops.specs.Decoding.{front}
use Rattle.b67_ops.proofs.Laws.{length_spelling, HasSpelling_from_fits}
use Rattle.b67_ops.proofs.Spelled.{front_spelling}
use Rattle.b67_ops.proofs.Refusing.{front_none}
use Rattle.b67_segment.specs.declared.code.Mark.{Mark}
use Rattle.b67_segment.specs.Operators.{Placed, width, text, is_level, marks_after, marks_of, AreFit}
use Rattle.b67_segment.specs.Building.{marked_level_at, marks_left, with_first, operators_from, operators_of, Builds}
use Rattle.b67_segment.proofs.Texts.{same_level}

-- marks of operators from a place on leave an earlier place only
no_mark : (at next : ℕ) (level : ℕ) (before : Option ℕ) (ps : List Placed) → at < next
    → (marked_level_at at level (marks_after next before ps) ≡ level) × (marks_left at (marks_after next before ps) ≡ marks_after next before ps)
no_mark at next level before [] h = (refl, refl)
no_mark at next level before (p ∷ ps) h =
    let b = is_level before p.level in
    let rest = marks_after (next + width next p) (Some p.level) ps in
    let m : Mark = record { place = next; level = p.level } in
    let later : eqb next at ≡ false = ne_eqb next at (λ e. omega arith) in
    let all = m ∷ rest in
    elim (cases_Bool b) [
      | inl same ↦
          let is = cond-true b rest all same in
          let below = no_mark at (next + width next p) level (Some p.level) ps (omega arith) in
          (ap (marked_level_at at level) is ∙ below.0, ap (marks_left at) is ∙ below.1 ∙ sym is)
      | inr other ↦
          let is = cond-false b rest all other in
          (ap (marked_level_at at level) is ∙ cond-false (eqb next at) p.level level later, ap (marks_left at) is ∙ cond-false (eqb next at) rest all later ∙ sym is)
    ]

-- at an operator's own place the marks tell its level, and leave those of the operators after it
first_mark : (at : ℕ) (before : Option ℕ) (p : Placed) (ps : List Placed)
    → (marked_level_at at (unwrap_or before 0) (marks_after at before (p ∷ ps)) ≡ p.level)
    × (marks_left at (marks_after at before (p ∷ ps)) ≡ marks_after (at + width at p) (Some p.level) ps)
first_mark at before p ps =
    let b = is_level before p.level in
    let level = unwrap_or before 0 in
    let rest = marks_after (at + width at p) (Some p.level) ps in
    let m : Mark = record { place = at; level = p.level } in
    let here : eqb at at ≡ true = eq-eqb at at refl in
    let wide = length_spelling at p.level p.operator in
    elim (cases_Bool b) [
      | inl same ↦
          let is = cond-true b rest (m ∷ rest) same in
          let none = no_mark at (at + width at p) level (Some p.level) ps (omega (arith, wide.0)) in
          (ap (marked_level_at at level) is ∙ none.0 ∙ ap (λ k. unwrap_or k 0) (same_level before p.level same), ap (marks_left at) is ∙ none.1)
      | inr other ↦
          let is = cond-false b rest (m ∷ rest) other in
          (ap (marked_level_at at level) is ∙ cond-true (eqb at at) p.level level here, ap (marks_left at) is ∙ cond-true (eqb at at) rest (m ∷ rest) here)
    ]

operators_none : (most at level : ℕ) (ms : List Mark) → operators_from most at level ms [] ≡ []
unfolding operators_from
operators_none zero at level ms = refl
operators_none (suc most) at level ms =
    ap (λ r. with_first (marked_level_at at level ms) r (λ count. operators_from most (at + count) (marked_level_at at level ms) (marks_left at ms) (drop count [])))
    (front_none (filling at) (marked_level_at at level ms))

-- what operators spell is read as those operators
pub operators_from_text : (ps : List Placed) (most at : ℕ) (before : Option ℕ) → AreFit ps → length ps ≤ most
    → operators_from most at (unwrap_or before 0) (marks_after at before ps) (text at ps) ≡ ps
unfolding operators_from
operators_from_text [] most at before fit h = operators_none most at (unwrap_or before 0) []
operators_from_text (p ∷ ps) zero at before fit h = absurd (omega arith)
operators_from_text (p ∷ ps) (suc most) at before fit h =
    let bytes = text at (p ∷ ps) in
    let w = width at p in
    let rest = marks_after (at + w) (Some p.level) ps in
    let go : ℕ → List Mark → ℕ → List Placed = λ level ms count. operators_from most (at + count) level ms (drop count bytes) in
    let step : ℕ → List Mark → List Placed = λ level ms. with_first level (front (filling at) level bytes) (go level ms) in
    let first = first_mark at before p ps in
    let read = front_spelling at p.level p.operator (text (at + w) ps) (HasSpelling_from_fits p.level p.operator fit.0.known fit.0.fits) in
    let after : drop w bytes ≡ text (at + w) ps = drop_at (spelling at p.level p.operator) (text (at + w) ps) w refl in
    let others : operators_from most (at + w) p.level rest (text (at + w) ps) ≡ ps =
    operators_from_text ps most (at + w) (Some p.level) fit.1 (omega arith) in
    ap (λ level. step level (marks_left at (marks_after at before (p ∷ ps)))) first.0
    ∙ ap (step p.level) first.1
    ∙ ap (λ r. with_first p.level r (go p.level rest)) read
    ∙ ap (λ xs. p ∷ operators_from most (at + w) p.level rest xs) after
    ∙ ap (λ qs. p ∷ qs) others

-- operators are at most as many as their syllables
pub length_text : (at : ℕ) (ps : List Placed) → length ps ≤ length (text at ps)
length_text at [] = omega arith
length_text at (p ∷ ps) =
    let sp = spelling at p.level p.operator in
    omega (arith, length_text (at + width at p) ps, length_spelling at p.level p.operator, length-append sp (text (at + width at p) ps))

-- what was built is what is seen
pub operators_of_built : {ps : List Placed} {bytes : List ℕ} {ms : List Mark} → Builds ps bytes ms → operators_of bytes ms ≡ ps
unfolding operators_of
operators_of_built {ps} {bytes} {ms} b =
    ap (λ m. operators_from (length bytes) 0 0 m bytes) b.marks
    ∙ ap (λ xs. operators_from (length bytes) 0 0 (marks_of ps) xs) b.code
    ∙ operators_from_text ps (length bytes) 0 None b.fit (omega (arith, length_text 0 ps, ap length b.code))
