-- The syllables and the marks of operators that stand one after another.
use Rattle.std.proofs.Common.{◌≡◌, ℕ, suc, ◌+◌, ◌-◌, Bool, true, false, cond, Option, Some, None, List, [], ◌∷◌, ◌++◌, length, refl, sym, ap, ◌∙◌, inl, inr, arith, append_assoc, length-append}
use Rattle.std.proofs.lemmas.Bool.{eqb-true, cases_Bool, cond-true, cond-false}
use Rattle.std.specs.Prelude.{slice_get}
use Rattle.b67_ops.specs.Spelling.{spelling}
use Rattle.b67_segment.specs.declared.code.Mark.{Mark}
use Rattle.b67_segment.specs.Operators.{Placed, width, text, is_level, marks_after, AreFit, last_level}
use Rattle.b67_segment.specs.Building.{level_marked}

pub text_append : (at : ℕ) (ps qs : List Placed) → text at (ps ++ qs) ≡ text at ps ++ text (at + length (text at ps)) qs
text_append at [] qs = ap (λ k. text k qs) (omega arith)
text_append at (p ∷ ps) qs =
    let sp = spelling at p.level p.operator in
    let next = at + width at p in
    let place : next + length (text next ps) ≡ at + length (sp ++ text next ps) = omega (arith, length-append sp (text next ps)) in
    ap (λ xs. sp ++ xs) (text_append next ps qs)
    ∙ ap (λ k. sp ++ (text next ps ++ text k qs)) place
    ∙ sym (append_assoc sp (text next ps) (text (at + length (sp ++ text next ps)) qs))

-- a list that a test begins with one item more, or not, and then goes on
begun_append : (b : Bool) (m : Mark) (xs ys : List Mark) → cond b (xs ++ ys) (m ∷ xs ++ ys) ≡ cond b xs (m ∷ xs) ++ ys
begun_append true m xs ys = refl
begun_append false m xs ys = refl

pub marks_after_append : (at : ℕ) (before : Option ℕ) (ps qs : List Placed)
    → marks_after at before (ps ++ qs) ≡ marks_after at before ps ++ marks_after (at + length (text at ps)) (last_level before ps) qs
marks_after_append at before [] qs = ap (λ k. marks_after k before qs) (omega arith)
marks_after_append at before (p ∷ ps) qs =
    let b = is_level before p.level in
    let sp = spelling at p.level p.operator in
    let next = at + width at p in
    let m : Mark = record { place = at; level = p.level } in
    let place : next + length (text next ps) ≡ at + length (sp ++ text next ps) = omega (arith, length-append sp (text next ps)) in
    let rest = marks_after next (Some p.level) ps in
    let more = marks_after (at + length (sp ++ text next ps)) (last_level (Some p.level) ps) qs in
    let all : marks_after next (Some p.level) (ps ++ qs) ≡ rest ++ more =
    marks_after_append next (Some p.level) ps qs ∙ ap (λ k. rest ++ marks_after k (last_level (Some p.level) ps) qs) place in
    ap (λ xs. cond b xs (m ∷ xs)) all ∙ begun_append b m rest more

pub AreFit_append : (ps qs : List Placed) → AreFit ps → AreFit qs → AreFit (ps ++ qs)
AreFit_append [] qs h k = k
AreFit_append (p ∷ ps) qs h k = (h.0, AreFit_append ps qs h.1 k)

-- an operator's level was there before it, where the test says so
pub same_level : (before : Option ℕ) (level : ℕ) → is_level before level ≡ true → before ≡ Some level
same_level None level h = cc
same_level (Some k) level h = ap Some (eqb-true k level h)

-- it is the level of the last operator
pub marked_marks : (at : ℕ) (before : Option ℕ) (ps : List Placed) → level_marked before (marks_after at before ps) ≡ last_level before ps
marked_marks at before [] = refl
marked_marks at before (p ∷ ps) =
    let b = is_level before p.level in
    let next = at + width at p in
    let rest = marks_after next (Some p.level) ps in
    let m : Mark = record { place = at; level = p.level } in
    elim (cases_Bool b) [
      | inl same ↦
          ap (level_marked before) (cond-true b rest (m ∷ rest) same) ∙ ap (λ k. level_marked k rest) (same_level before p.level same) ∙ marked_marks next (Some p.level) ps
      | inr other ↦ ap (level_marked before) (cond-false b rest (m ∷ rest) other) ∙ marked_marks next (Some p.level) ps
    ]

-- it is the level of the last mark
pub marked_last : (before : Option ℕ) (ms : List Mark) (m : Mark) → slice_get ms (length ms - 1) ≡ Some m → level_marked before ms ≡ Some m.level
marked_last before [] m h = cc
marked_last before (x ∷ []) m h = let same : x ≡ m = cc in ap (λ k. Some k.level) same
marked_last before (x ∷ y ∷ ms) m h =
    let less : length (x ∷ y ∷ ms) - 1 ≡ suc (length (y ∷ ms) - 1) = omega arith in
    marked_last (Some x.level) (y ∷ ms) m (sym (ap (slice_get (x ∷ y ∷ ms)) less) ∙ h)
