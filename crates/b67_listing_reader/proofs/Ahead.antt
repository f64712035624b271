-- Two listings that begin alike go on alike.
use Rattle.std.proofs.Common.{◌≡◌, ℕ, ◌+◌, ◌*◌, ◌<◌, ◌≤◌, List, [], ◌∷◌, ◌++◌, length, get_or, drop, map, codes, refl, sym, ap, subst, arith, ◌∙◌, append_assoc}
use Rattle.std.specs.Fmt.{decimal}
use Rattle.std.specs.List.{All, enumerate_from}
use Rattle.std.proofs.lemmas.List.{append-nil, append_cancel_left}
use Rattle.std.proofs.lemmas.List.Elements.{All-head, All-tail}
use Rattle.b67_text.proofs.Decimals.{decimal_same}
use Rattle.b67_text.proofs.Beginnings.{wide}
use Rattle.b67_segment.specs.declared.TheConstants.{MOST_SEGMENT_WORDS}
use Rattle.b67_segment.specs.declared.code.Segment.{Segment}
use Rattle.b67_segment.specs.declared.code.Format.{Format}
use Rattle.b67_segment.specs.declared.code.Code.{Code}
use Rattle.b67_segment.specs.Syllables.{syllables}
use Rattle.b67_segment.proofs.Fetches.{length_syllables}
use Rattle.b67_listing.specs.Operators.{ListedOperator, operator_line}
use Rattle.b67_listing.specs.Formats.{format_line, format_lines}
use Rattle.b67_listing.specs.Listings.{IsSegment, marks_of, IsListable, SegmentsText, none, more, segment_line, segment_lines, ListingText}
use Rattle.b67_listing_reader.specs.Reading.{OperatorCanStand, width, AreInOrder, operator_lines, IsFormat}
use Rattle.b67_listing_reader.proofs.Orders.{code_text, filled, order_grows, width_some}
use Rattle.b67_listing_reader.proofs.Words.{one_words}
use Rattle.b67_listing_reader.proofs.Lines.{one_operator}
use Rattle.b67_listing_reader.proofs.OneFormat.{one_format}

-- of two lists of lines that are the same, the first lines and the others
pub head_of : {x y : List ℕ} {xs ys : List (List ℕ)} → x ∷ xs ≡ y ∷ ys → x ≡ y
head_of e = ap (λ (ls : List (List ℕ)). get_or ls 0 []) e

pub tail_of : {x y : List ℕ} {xs ys : List (List ℕ)} → x ∷ xs ≡ y ∷ ys → xs ≡ ys
tail_of e = ap (λ (ls : List (List ℕ)). drop 1 ls) e

-- an operator goes on at a place, and its line is the first of these
pub record GoesOn (mid end : ℕ) (rest : List (List ℕ)) : Type 0 where
  pub placed : ListedOperator
  pub more : List (List ℕ)
  pub stands : OperatorCanStand mid placed
  pub within : mid + width placed ≤ end
  pub rest_is : rest ≡ operator_line placed ∷ more

-- operators that end farther have one more
pub next_operator : (at : ℕ) (ps : List ListedOperator) (mid : ℕ) (qs : List ListedOperator) (end : ℕ) (x b : List (List ℕ)) → AreInOrder at ps mid → AreInOrder at qs end → mid < end →
    operator_lines ps ++ x ≡ operator_lines qs ++ b → GoesOn mid end x
next_operator at [] mid [] end x b h g less e = absurd (omega arith)
next_operator at [] mid (q ∷ qs) end x b h g less e =
    let grows = order_grows (at + width q) qs end g.1 in
    record { placed = q; more = operator_lines qs ++ b; stands = subst (λ k. OperatorCanStand k q) h g.0; within = omega arith; rest_is = e }
next_operator at (p ∷ ps) mid [] end x b h g less e =
    let grows = order_grows (at + width p) ps mid h.1 in
    let some = width_some p in
    absurd (omega arith)
next_operator at (p ∷ ps) mid (q ∷ qs) end x b h g less e =
    let heads : operator_line p ≡ operator_line q = head_of e in
    let tails : operator_lines ps ++ x ≡ operator_lines qs ++ b = tail_of e in
    let same : p ≡ q = one_operator at p q h.0 g.0 heads in
    next_operator (at + width p) ps mid qs end x b h.1 (subst (λ (r : ListedOperator). AreInOrder (at + width r) qs end) (sym same) g.1) less tails

-- operators that end at one place are the same
pub record Alike (ps qs : List ListedOperator) (x b : List (List ℕ)) : Type 0 where
  pub operators : ps ≡ qs
  pub rests : x ≡ b

pub same_operators : (at : ℕ) (ps qs : List ListedOperator) (end : ℕ) (x b : List (List ℕ)) → AreInOrder at ps end → AreInOrder at qs end →
    operator_lines ps ++ x ≡ operator_lines qs ++ b → Alike ps qs x b
same_operators at [] [] end x b h g e = record { operators = refl; rests = e }
same_operators at [] (q ∷ qs) end x b h g e =
    let grows = order_grows (at + width q) qs end g.1 in
    let some = width_some q in
    absurd (omega arith)
same_operators at (p ∷ ps) [] end x b h g e =
    let grows = order_grows (at + width p) ps end h.1 in
    let some = width_some p in
    absurd (omega arith)
same_operators at (p ∷ ps) (q ∷ qs) end x b h g e =
    let heads : operator_line p ≡ operator_line q = head_of e in
    let tails : operator_lines ps ++ x ≡ operator_lines qs ++ b = tail_of e in
    let same : p ≡ q = one_operator at p q h.0 g.0 heads in
    let rest = same_operators (at + width p) ps qs end x b h.1 (subst (λ (r : ListedOperator). AreInOrder (at + width r) qs end) (sym same) g.1) tails in
    record { operators = ap (λ r. r ∷ ps) same ∙ ap (λ rs. q ∷ rs) rest.operators; rests = rest.rests }

-- the operators of a segment fill its words
pub record Body (segment : Segment) (operators : List ListedOperator) : Type 0 where
  pub order : AreInOrder 0 operators (6 * length segment.words)
  pub text : syllables segment.words ≡ code_text operators

pub body : (segment : Segment) (operators : List ListedOperator) → IsSegment segment operators → Body segment operators
body segment operators is =
    let whole = filled (syllables segment.words) 0 operators is.filled in
    record { order = subst (λ k. AreInOrder 0 operators k) (length_syllables segment.words) whole.order; text = whole.text }

one_segment : (segment other : Segment) (ps qs : List ListedOperator) → IsSegment segment ps → IsSegment other qs → ps ≡ qs → segment ≡ other
one_segment segment other ps qs is also same =
    let a = body segment ps is in
    let b = body other qs also in
    let words : segment.words ≡ other.words = one_words segment.words other.words is.words also.words (a.text ∙ ap code_text same ∙ sym b.text) in
    let marks : segment.marks ≡ other.marks = is.marked ∙ ap (marks_of 0) same ∙ sym also.marked in
    ap (λ ws. let s : Segment = record { words = ws; marks = segment.marks } in s) words ∙ ap (λ ms. let s : Segment = record { words = other.words; marks = ms } in s) marks

-- head lines of one segment with the same words
pub one_count : (number w v : ℕ) → w ≤ MOST_SEGMENT_WORDS → v ≤ MOST_SEGMENT_WORDS → segment_line number w ≡ segment_line number v → w ≡ v
one_count number w v p q e =
    let a : decimal number ++ (codes " " ++ decimal w) ≡ decimal number ++ (codes " " ++ decimal v) =
    append_cancel_left (codes "SEGMENT ") (decimal number ++ (codes " " ++ decimal w)) (decimal number ++ (codes " " ++ decimal v)) e in
    let b : codes " " ++ decimal w ≡ codes " " ++ decimal v = append_cancel_left (decimal number) (codes " " ++ decimal w) (codes " " ++ decimal v) a in
    let c : decimal w ≡ decimal v = append_cancel_left (codes " ") (decimal w) (decimal v) b in
    decimal_same w v (wide w (omega arith)) (wide v (omega arith)) c

-- no head line of a segment stands first
abbrev pub HasNoHead : List (List ℕ) → Type 0
HasNoHead lines = (number words : ℕ) (rest : List (List ℕ)) → lines ≡ segment_line number words ∷ rest → ⊥

pub formats_first : (n : ℕ) (formats : List Format) → HasNoHead (map format_line (enumerate_from n formats))
formats_first n [] number words rest e = cc
formats_first n (f ∷ fs) number words rest e =
    let same : format_line (n, f) ≡ segment_line number words = head_of e in
    let first : ◌≡◌ {A = ℕ} 70 83 = ap (λ (xs : List ℕ). get_or xs 0 0) same in
    omega arith

-- segments, and others that begin with them
pub record Ahead (n : ℕ) (segments others : List Segment) (x b : List (List ℕ)) : Type 0 where
  pub later : List Segment
  pub lines : List (List ℕ)
  pub others_are : others ≡ segments ++ later
  pub listed : SegmentsText (n + length segments) later lines
  pub rest : x ≡ lines ++ b

-- a segment before both
ahead_more : (n : ℕ) (segment other : Segment) (segments others : List Segment) (x b : List (List ℕ)) → segment ≡ other → Ahead (n + 1) segments others x b →
    Ahead n (segment ∷ segments) (other ∷ others) x b
ahead_more n segment other segments others x b same rest =
    let number : n + 1 + length segments ≡ n + length (segment ∷ segments) = omega arith in
    record {
      later = rest.later;
      lines = rest.lines;
      others_are = ap (λ s. s ∷ others) (sym same) ∙ ap (λ ss. segment ∷ ss) rest.others_are;
      listed = subst (λ k. SegmentsText k rest.later rest.lines) number rest.listed;
      rest = rest.rest;
    }

-- what lines of a segment, of the same number, are alike with
pub record Both (segment other : Segment) (ls ms x b : List (List ℕ)) : Type 0 where
  pub segments : segment ≡ other
  pub rests : ls ++ x ≡ ms ++ b

both : (n : ℕ) (segment other : Segment) (ops qs : List ListedOperator) (ls ms x b : List (List ℕ)) → IsSegment segment ops → IsSegment other qs →
    (segment_lines n segment ops ++ ls) ++ x ≡ (segment_lines n other qs ++ ms) ++ b → Both segment other ls ms x b
both n segment other ops qs ls ms x b first second e =
    let heads : segment_line n (length segment.words) ≡ segment_line n (length other.words) = head_of e in
    let tails : (operator_lines ops ++ ls) ++ x ≡ (operator_lines qs ++ ms) ++ b = tail_of e in
    let joined : operator_lines ops ++ (ls ++ x) ≡ operator_lines qs ++ (ms ++ b) =
    sym (append_assoc (operator_lines ops) ls x) ∙ tails ∙ append_assoc (operator_lines qs) ms b in
    let count : length segment.words ≡ length other.words = one_count n (length segment.words) (length other.words) first.few second.few heads in
    let one = body segment ops first in
    let two = body other qs second in
    let alike = same_operators 0 ops qs (6 * length segment.words) (ls ++ x) (ms ++ b) one.order (subst (λ k. AreInOrder 0 qs (6 * k)) (sym count) two.order) joined in
    record { segments = one_segment segment other ops qs first second alike.operators; rests = alike.rests }

ahead_by : (n : ℕ) (segment : Segment) (ops : List ListedOperator) (segments : List Segment) (ls : List (List ℕ)) (m : ℕ) (others : List Segment) (ms x b : List (List ℕ)) → m ≡ n →
    IsSegment segment ops → SegmentsText m others ms → HasNoHead b → (segment_lines n segment ops ++ ls) ++ x ≡ ms ++ b →
    ((others : List Segment) (ms : List (List ℕ)) → SegmentsText (n + 1) others ms → ls ++ x ≡ ms ++ b → Ahead (n + 1) segments others x b) → Ahead n (segment ∷ segments) others x b
ahead_by n segment ops segments ls _ _ _ x b same first (none m) headless e on = absurd (headless n (length segment.words) ((operator_lines ops ++ ls) ++ x) (sym e))
ahead_by n segment ops segments ls _ _ _ x b same first (more m other qs others ms second afters) headless e on =
    let found = both n segment other ops qs ls ms x b first second (e ∙ ap (λ k. (segment_lines k other qs ++ ms) ++ b) same) in
    ahead_more n segment other segments others x b found.segments (on others ms (subst (λ k. SegmentsText (k + 1) others ms) same afters) found.rests)

pub ahead : (n : ℕ) (segments others : List Segment) (ls ms x b : List (List ℕ)) → SegmentsText n segments ls → SegmentsText n others ms → HasNoHead b →
    ls ++ x ≡ ms ++ b → Ahead n segments others x b
ahead _ _ others _ ms x b (none n) second headless e =
    let same : n ≡ n + 0 = omega arith in
    record { later = others; lines = ms; others_are = refl; listed = subst (λ k. SegmentsText k others ms) same second; rest = e }
ahead _ _ others _ ms x b (more n segment ops segments ls first after) second headless e =
    ahead_by n segment ops segments ls n others ms x b refl first second headless e (λ os ns listed rest. ahead (n + 1) segments os ls ns x b after listed headless rest)

-- formats, and others that begin with them
pub record FormatsAhead (n : ℕ) (formats others : List Format) (x : List (List ℕ)) : Type 0 where
  pub later : List Format
  pub others_are : others ≡ formats ++ later
  pub are : All IsFormat later
  pub rest : x ≡ map format_line (enumerate_from (n + length formats) later)

pub formats_ahead : (n : ℕ) (formats others : List Format) (x : List (List ℕ)) → All IsFormat formats → All IsFormat others →
    map format_line (enumerate_from n formats) ++ x ≡ map format_line (enumerate_from n others) → FormatsAhead n formats others x
formats_ahead n [] others x p q e =
    let same : n ≡ n + 0 = omega arith in
    record { later = others; others_are = refl; are = q; rest = e ∙ ap (λ k. map format_line (enumerate_from k others)) same }
formats_ahead n (f ∷ fs) [] x p q e = absurd (cc)
formats_ahead n (f ∷ fs) (g ∷ gs) x p q e =
    let heads : format_line (n, f) ≡ format_line (n, g) = head_of e in
    let tails : map format_line (enumerate_from (n + 1) fs) ++ x ≡ map format_line (enumerate_from (n + 1) gs) = tail_of e in
    let same : f ≡ g = one_format n f g (All-head IsFormat f fs p) (All-head IsFormat g gs q) heads in
    let rest = formats_ahead (n + 1) fs gs x (All-tail IsFormat f fs p) (All-tail IsFormat g gs q) tails in
    let number : n + 1 + length fs ≡ n + length (f ∷ fs) = omega arith in
    record { later = rest.later; others_are = ap (λ h. h ∷ gs) (sym same) ∙ ap (λ hs. f ∷ hs) rest.others_are; are = rest.are; rest = rest.rest ∙ ap (λ k. map format_line (enumerate_from k rest.later)) number }

same_by : (fs gs : List Format) (a : FormatsAhead 0 fs gs []) (later : List Format) → a.later ≡ later → fs ≡ gs
same_by fs gs a [] is = sym (a.others_are ∙ ap (λ ls. fs ++ ls) is ∙ append-nil fs)
same_by fs gs a (l ∷ ls) is =
    let rest : [] ≡ map format_line (enumerate_from (0 + length fs) (l ∷ ls)) = a.rest ∙ ap (λ k. map format_line (enumerate_from (0 + length fs) k)) is in
    absurd (cc)

same_formats : (fs gs : List Format) → FormatsAhead 0 fs gs [] → fs ≡ gs
same_formats fs gs a = same_by fs gs a a.later refl

one_by : (code other : Code) → IsListable code → IsListable other → (later : List Segment) (ls : List (List ℕ)) → other.segments ≡ code.segments ++ later →
    SegmentsText (0 + length code.segments) later ls → format_lines code.formats ≡ ls ++ format_lines other.formats → code ≡ other
one_by code other is also _ _ are (none n) rest =
    let segments : code.segments ≡ other.segments = sym (are ∙ append-nil code.segments) in
    let formats = same_formats code.formats other.formats (formats_ahead 0 code.formats other.formats [] is.formats also.formats (append-nil (format_lines code.formats) ∙ rest)) in
    ap (λ ss. let c : Code = record { segments = ss; formats = code.formats } in c) segments ∙ ap (λ fs. let c : Code = record { segments = other.segments; formats = fs } in c) formats
one_by code other is also _ _ are (more n segment ops segments ls first after) rest =
    absurd (formats_first 0 code.formats n (length segment.words) ((operator_lines ops ++ ls) ++ format_lines other.formats) rest)

-- a listing is that of one code
pub one_code : (code other : Code) (lines : List (List ℕ)) → IsListable code → IsListable other → ListingText code lines → ListingText other lines → code ≡ other
one_code code other lines is also a b =
    let found = ahead 0 code.segments other.segments a.segments b.segments (format_lines code.formats) (format_lines other.formats)
    a.listed b.listed (formats_first 0 other.formats) (sym a.are ∙ b.are) in
    one_by code other is also found.later found.lines found.others_are found.listed found.rest
