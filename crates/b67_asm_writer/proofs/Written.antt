-- What is written for operators and segments, one after another.
use Rattle.std.proofs.Common.{◌≡◌, ℕ, ◌+◌, ◌≤◌, ◌<◌, List, [], ◌∷◌, ◌++◌, length, get_or, take, drop, refl, sym, ap, subst, ◌∙◌, append_assoc}
use Rattle.std.specs.Prelude.{codes}
use Rattle.std.specs.List.{flat_map}
use Rattle.std.proofs.lemmas.Grind.{flat_map-append}
use Rattle.std.proofs.lemmas.List.{append-nil, take_more}
use Rattle.b67_segment.specs.declared.code.Segment.{Segment}
use Rattle.b67_segment.specs.Syllables.{syllables}
use Rattle.b67_listing.specs.Operators.{ListedOperator, operator_text}
use Rattle.b67_listing.specs.Listings.{HasOperators, IsSegment, passed_mark}
use Rattle.b67_listing.proofs.Filling.{Progress, all_passed, begins, passes}
use Rattle.b67_asm_writer.specs.Sources.{AddsOperator, AddsSegment, AddsSegments, AreOperators, level_change, line_text, lines_after, lines_text, segment_source}

-- ---- operators

-- the level of the last of operators, or the one before them
abbrev pub last_from : ℕ → List ListedOperator → ℕ
last_from level [] = level
last_from level (first ∷ more) = last_from first.level more

last_append : (level : ℕ) (before : List ListedOperator) (p : ListedOperator) → last_from level (before ++ p ∷ []) ≡ p.level
last_append level [] p = refl
last_append level (first ∷ more) p = last_append first.level more p

-- the lines of one more operator
abbrev lines_for : ℕ → ListedOperator → List (List ℕ)
lines_for before p = level_change before p.level ++ (operator_text p.operator ∷ [])

after_append : (level : ℕ) (before : List ListedOperator) (p : ListedOperator) → lines_after level (before ++ p ∷ []) ≡ lines_after level before ++ lines_for (last_from level before) p
after_append level [] p = refl
after_append level (first ∷ more) p =
    ap (λ (ls : List (List ℕ)). level_change level first.level ++ (operator_text first.operator ∷ ls)) (after_append first.level more p)
    ∙ sym (append_assoc (level_change level first.level) (operator_text first.operator ∷ lines_after first.level more) (lines_for (last_from first.level more) p))

-- some operators of a segment are written
pub record Written (segment : Segment) (bytes : List ℕ) (at passed level : ℕ) (old new : List ℕ) : Type 0 where
  pub before : List ListedOperator
  pub progress : Progress segment bytes at passed level before
  pub last : last_from 0 before ≡ level
  pub added : new ≡ old ++ lines_text (lines_after 0 before)

pub written_none : (segment : Segment) (bytes : List ℕ) (text : List ℕ) → HasOperators segment → bytes ≡ syllables segment.words → Written segment bytes 0 0 0 text text
written_none segment bytes text has are = record { before = []; progress = begins segment bytes has are; last = refl; added = sym (append-nil text) }

-- the text of one more operator
one_text : (level : ℕ) (before : List ListedOperator) (p : ListedOperator) (old new middle after : List ℕ) → last_from 0 before ≡ level → new ≡ old ++ lines_text (lines_after 0 before) →
    middle ≡ new ++ lines_text (level_change level p.level) → after ≡ middle ++ line_text (operator_text p.operator) →
    after ≡ old ++ lines_text (lines_after 0 (before ++ p ∷ []))
one_text level before p old new middle after last added change line =
    let first = lines_text (lines_after 0 before) in
    let changed = lines_text (level_change level p.level) in
    let own = line_text (operator_text p.operator) in
    let both : lines_text (lines_for level p) ≡ changed ++ own =
    flat_map-append line_text (level_change level p.level) (operator_text p.operator ∷ []) ∙ ap (λ (ls : List ℕ). changed ++ ls) (append-nil own) in
    let all : lines_text (lines_after 0 (before ++ p ∷ [])) ≡ first ++ (changed ++ own) =
    ap lines_text (after_append 0 before p)
    ∙ flat_map-append line_text (lines_after 0 before) (lines_for (last_from 0 before) p)
    ∙ ap (λ (k : ℕ). first ++ lines_text (lines_for k p)) last
    ∙ ap (λ (ls : List ℕ). first ++ ls) both in
    line
    ∙ ap (λ (ls : List ℕ). ls ++ own) (change ∙ ap (λ (ls : List ℕ). ls ++ changed) added)
    ∙ append_assoc (old ++ first) changed own
    ∙ append_assoc old first (changed ++ own)
    ∙ ap (λ (ls : List ℕ). old ++ ls) (sym all)

module _ (segment : Segment) (bytes : List ℕ) (at passed level : ℕ) (old new : List ℕ) (written : Written segment bytes at passed level old new) where
  pub written_more : (found : ℕ × ℕ) (middle after : List ℕ) (next : ℕ) → at < length bytes → found ≡ passed_mark (drop passed segment.marks) passed at level →
      middle ≡ new ++ lines_text (level_change level found.0) → AddsOperator bytes at found.0 middle after next → Written segment bytes next found.1 found.0 old after
  written_more found middle after next inside is change adds =
      let went = passes segment bytes at passed level written.before found written.progress inside is in
      let p : ListedOperator = record { place = at; level = found.0; operator = adds.operator } in
      record {
        before = written.before ++ p ∷ [];
        progress = went.goes_on adds.operator next adds.stands;
        last = last_append 0 written.before p;
        added = one_text level written.before p old new middle after written.last written.added change adds.added;
      }

  pub written_all : (text : List ℕ) → old ≡ text ++ codes "SEGMENT\n" → length bytes ≤ at → AddsSegment segment text new
  written_all text head outside = record {
    operators = written.before;
    segment_is = all_passed segment bytes at passed level written.before written.progress outside;
    added = written.added ∙ ap (λ (ls : List ℕ). ls ++ lines_text (lines_after 0 written.before)) head ∙ append_assoc text (codes "SEGMENT\n") (lines_text (lines_after 0 written.before));
  }

-- ---- segments

are_append : (segments : List Segment) (operators : List (List ListedOperator)) (segment : Segment) (own : List ListedOperator) → AreOperators segments operators → IsSegment segment own →
    AreOperators (segments ++ segment ∷ []) (operators ++ own ∷ [])
are_append [] [] segment own are is = (is, tt)
are_append [] (o ∷ os) segment own are is = absurd are
are_append (s ∷ ss) [] segment own are is = absurd are
are_append (s ∷ ss) (o ∷ os) segment own are is = (are.0, are_append ss os segment own are.1 is)

pub segments_none : (segments : List Segment) (text : List ℕ) → AddsSegments (take 0 segments) text text
segments_none segments text = record { operators = []; are = tt; added = sym (append-nil text) }

pub segments_more : (segments : List Segment) (i : ℕ) (segment : Segment) (old middle new : List ℕ) → i < length segments → segment ≡ get_or segments i segment →
    AddsSegments (take i segments) old middle → AddsSegment segment middle new → AddsSegments (take (i + 1) segments) old new
segments_more segments i segment old middle new inside is before after =
    let taken : take (i + 1) segments ≡ take i segments ++ segment ∷ [] = take_more segments i segment inside ∙ ap (λ (s : Segment). take i segments ++ s ∷ []) (sym is) in
    let first = lines_text (flat_map segment_source before.operators) in
    let own = lines_text (segment_source after.operators) in
    let all : lines_text (flat_map segment_source (before.operators ++ after.operators ∷ [])) ≡ first ++ own =
    ap lines_text (flat_map-append segment_source before.operators (after.operators ∷ []) ∙ ap (λ (ls : List (List ℕ)). flat_map segment_source before.operators ++ ls) (append-nil (segment_source after.operators)))
    ∙ flat_map-append line_text (flat_map segment_source before.operators) (segment_source after.operators) in
    record {
      operators = before.operators ++ after.operators ∷ [];
      are = subst (λ (ss : List Segment). AreOperators ss (before.operators ++ after.operators ∷ [])) (sym taken)
          (are_append (take i segments) before.operators segment after.operators before.are after.segment_is);
      added = after.added ∙ ap (λ (ls : List ℕ). ls ++ own) before.added ∙ append_assoc old first own ∙ ap (λ (ls : List ℕ). old ++ ls) (sym all);
    }
