-- A segment that spells operators can be listed.
use Rattle.std.proofs.Common.{arith, ◌≡◌, ℕ, suc, ◌+◌, ◌≤◌, ◌==◌, false, List, [], ◌∷◌, ◌++◌, length, All, refl, sym, ap, ◌∙◌, subst, append_assoc, append-nil, length-append, slice_get, if◌then◌else◌}
use Rattle.std.proofs.lemmas.Bool.{ne_eqb}
use Rattle.std.proofs.lemmas.List.Elements.{All-nil, All-cons}
use Rattle.std.specs.Prelude.{Some, None}
use Rattle.b67_ops.specs.declared.Operator.{Operator}
use Rattle.b67_ops.specs.Spelling.{spelling, OperatorStands}
use Rattle.b67_ops.proofs.Laws.{Stands_appended, Stands_kept, Stands_within}
use Rattle.b67_segment.specs.declared.TheConstants.{MOST_SEGMENT_WORDS}
use Rattle.b67_segment.specs.declared.code.Mark.{Mark}
use Rattle.b67_segment.specs.declared.code.Segment.{Segment}
use Rattle.b67_segment.specs.Operators.{Placed, text, marks_after, AreFit, StandsAmong}
use Rattle.b67_segment.specs.Syllables.{syllables, Spells}
use Rattle.b67_segment.proofs.Fetches.{length_syllables}
use Rattle.b67_listing.specs.Operators as listed
use Rattle.b67_listing.specs.Listings.{StandInOrder, marks_of, IsSegment, HasOperators}
use Rattle.b67_listing.proofs.Spelled.{same_test}

-- the operators with their places, from this one on
abbrev places : ℕ → List Placed → List listed.ListedOperator
places at [] = []
places at (p ∷ ps) = record { place = at; level = p.level; operator = p.operator } ∷ places (at + length (spelling at p.level p.operator)) ps

in_order : (bytes front : List ℕ) (ps : List Placed) → AreFit ps → bytes ≡ front ++ text (length front) ps → StandInOrder bytes (length front) (places (length front) ps)
in_order bytes front [] fit whole = ap length (sym (whole ∙ append-nil front))
in_order bytes front (p ∷ ps) fit whole =
    let at = length front in
    let sp = spelling at p.level p.operator in
    let rest = text (at + length sp) ps in
    let joined : bytes ≡ (front ++ sp) ++ rest = whole ∙ sym (append_assoc front sp rest) in
    let place : length (front ++ sp) ≡ at + length sp = length-append front sp in
    let kept : OperatorStands ((front ++ sp) ++ rest) at p.level p.operator (at + length sp) = Stands_kept rest (Stands_appended front p.level p.operator fit.0.fits) in
    let stands : OperatorStands bytes at p.level p.operator (at + length sp) = subst (λ xs. OperatorStands xs at p.level p.operator (at + length sp)) (sym joined) kept in
    let later : StandInOrder bytes (length (front ++ sp)) (places (length (front ++ sp)) ps) =
    in_order bytes (front ++ sp) ps fit.1 (joined ∙ ap (λ k. (front ++ sp) ++ text k ps) (sym place)) in
    (refl, fit.0.outer, fit.0.known, (at + length sp, stands, subst (λ k. StandInOrder bytes k (places k ps)) place later))

-- the marks of the operators are those of the listing
same_marks : (at before : ℕ) (ps : List Placed) → marks_after at (Some before) ps ≡ marks_of before (places at ps)
same_marks at before [] = refl
same_marks at before (p ∷ ps) =
    let mark : Mark = record { place = at; level = p.level } in
    let later = at + length (spelling at p.level p.operator) in
    let others = marks_after later (Some p.level) ps in
    ap (λ b. if b then others else mark ∷ others) (same_test before p.level)
    ∙ ap (λ ms. if p.level == before then ms else mark ∷ ms) (same_marks later p.level ps)

first_marks : (ps : List Placed) → AreFit ps → marks_after 0 None ps ≡ marks_of 0 (places 0 ps)
first_marks [] fit = refl
first_marks (p ∷ ps) fit =
    let mark : Mark = record { place = 0; level = p.level } in
    let later = 0 + length (spelling 0 p.level p.operator) in
    let above : (p.level == 0) ≡ false = ne_eqb p.level 0 (λ e. omega (arith, e, fit.0.outer)) in
    ap (λ ms. mark ∷ ms) (same_marks later p.level ps)
    ∙ sym (ap (λ b. if b then marks_of p.level (places later ps) else mark ∷ marks_of p.level (places later ps)) above)

pub is_segment : (segment : Segment) (ps : List Placed) (at level : ℕ) (op : Operator) (next : ℕ) → Spells ps segment → StandsAmong ps at level op next →
    length segment.words ≤ MOST_SEGMENT_WORDS → HasOperators segment
is_segment segment [] at level op next spells stands few =
    absurd (omega (arith, ap length stands.parts, length-append stands.before (record { level = level; operator = op } ∷ stands.after)))
is_segment segment (p ∷ ps) at level op next spells stands few =
    let filled = in_order (syllables segment.words) [] (p ∷ ps) spells.fit spells.code in
    let is : IsSegment segment (places 0 (p ∷ ps)) = record {
      some = omega (arith, length_syllables segment.words, Stands_within filled.3.1);
      few = few;
      words = spells.small;
      filled = filled;
      marked = spells.marks ∙ first_marks (p ∷ ps) spells.fit;
    } in
    (places 0 (p ∷ ps), is)

-- segments, each of which can be listed
pub all_listed : (segments : List Segment) → ((k : ℕ) (segment : Segment) → slice_get segments k ≡ Some segment → HasOperators segment) → All HasOperators segments
all_listed [] each = All-nil HasOperators
all_listed (segment ∷ segments) each = All-cons HasOperators segment segments (each 0 segment refl) (all_listed segments (λ k later h. each (suc k) later h))
