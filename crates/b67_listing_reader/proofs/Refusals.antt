-- Where lines stop being the beginning of a listing.
use Rattle.std.proofs.Common.{◌≡◌, ℕ, suc, ◌+◌, ◌-◌, ◌*◌, ◌<◌, ◌≤◌, ⊎_elim, List, [], ◌∷◌, ◌++◌, length, get_or, take, drop, map, refl, sym, ap, subst, arith, ◌∙◌, append_assoc}
use Rattle.std.specs.List.{All, enumerate_from}
use Rattle.std.proofs.Math.Seq.{take-add}
use Rattle.std.proofs.lemmas.Bool.{cases_lt}
use Rattle.std.proofs.lemmas.List.{append-nil, take-append-drop, drop_more, map-append}
use Rattle.std.proofs.lemmas.List.Elements.{All-cons, All-nil, All-head}
use Rattle.b67_text.specs.Texts.{Begins, IsRefused}
use Rattle.b67_ops.specs.declared.TheConstants.{OUTER_LEVEL}
use Rattle.b67_segment.specs.declared.code.Segment.{Segment}
use Rattle.b67_segment.specs.declared.code.Format.{Format}
use Rattle.b67_segment.specs.Syllables.{syllables}
use Rattle.b67_segment.proofs.Fetches.{length_syllables}
use Rattle.b67_listing.specs.Operators.{ListedOperator, operator_line}
use Rattle.b67_listing.specs.Formats.{format_line, format_lines}
use Rattle.b67_listing.specs.Listings.{IsSegment, HasOperators, AreListable, SegmentsText, none, more, segment_line, segment_lines, marks_of}
use Rattle.b67_listing.proofs.Segments.{SegmentsText_push}
use Rattle.b67_listing_reader.specs.Reading.{AreInOrder, IsWordCount, operator_lines, IsFormat, IsNoOperator, IsNoHead, IsNoFormat}
use Rattle.b67_listing_reader.specs.Codes.{IsListing}
use Rattle.b67_listing_reader.proofs.Orders.{code_text, fills, order_append, length_code, noops, noops_order}
use Rattle.b67_listing_reader.proofs.Words.{worded}
use Rattle.b67_listing_reader.proofs.Lines.{code_bytes, IsBytes_from}
use Rattle.b67_listing_reader.proofs.Ahead.{head_of, tail_of, GoesOn, next_operator, body, one_count, HasNoHead, formats_first, ahead, formats_ahead}

-- what stands after so many lines makes them no beginning of a listing
pub record Stops (lines : List (List ℕ)) (count : ℕ) : Type 0 where
  pub within : count ≤ length lines
  pub begins : Begins IsListing (take count lines)
  pub dead : (line : List ℕ) (rest other : List (List ℕ)) → drop count lines ≡ line ∷ rest → IsListing (take count lines ++ line ∷ other) → ⊥
  pub short : drop count lines ≡ [] → IsListing (take count lines) → ⊥

stops_none : (lines : List (List ℕ)) (count : ℕ) → Stops lines count → (tail : List (List ℕ)) → drop count lines ≡ tail → IsListing lines → ⊥
stops_none lines count s [] e is = s.short e (subst IsListing (sym (take-append-drop count lines) ∙ ap (λ t. take count lines ++ t) e ∙ append-nil (take count lines)) is)
stops_none lines count s (line ∷ rest) e is = s.dead line rest rest e (subst IsListing (sym (take-append-drop count lines) ∙ ap (λ t. take count lines ++ t) e) is)

stops_beyond : (lines : List (List ℕ)) (count k : ℕ) → Stops lines count → count < k → k ≤ length lines → Begins IsListing (take k lines) → ⊥
stops_beyond lines count k s beyond within b =
    let inside : count < length lines = omega arith in
    let line = get_or lines count [] in
    let tail : drop count lines ≡ line ∷ drop (count + 1) lines = drop_more lines count [] inside in
    let j = k - count - 1 in
    let sum : k ≡ count + suc j = omega arith in
    let taken : take k lines ≡ take count lines ++ line ∷ take j (drop (count + 1) lines) =
    ap (λ n. take n lines) sum ∙ take-add count (suc j) lines ∙ ap (λ t. take count lines ++ take (suc j) t) tail in
    s.dead line (drop (count + 1) lines) (take j (drop (count + 1) lines) ++ b.0) tail
    (subst IsListing (ap (λ t. t ++ b.0) taken ∙ append_assoc (take count lines) (line ∷ take j (drop (count + 1) lines)) b.0) b.1)

pub refused : (lines : List (List ℕ)) (count : ℕ) → Stops lines count → IsRefused IsListing lines count
refused lines count s = record {
  none = stops_none lines count s (drop count lines) refl;
  reach = record {
    within = s.within;
    begins = s.begins;
    longest = λ k within b. ⊎_elim (λ (h : count < k). absurd (stops_beyond lines count k s h within b)) (λ (h : k ≤ count). h) (cases_lt count k);
  };
}

-- segments that have lines can be listed
pub are_listable : (n : ℕ) (segments : List Segment) (lines : List (List ℕ)) → SegmentsText n segments lines → AreListable segments
are_listable _ _ _ (none n) = All-nil HasOperators
are_listable _ _ _ (more n segment ops segments lines first after) = All-cons HasOperators segment segments (ops, first) (are_listable (n + 1) segments lines after)

pub is_listing : (segments : List Segment) (formats : List Format) (lines : List (List ℕ)) → SegmentsText 0 segments lines → All IsFormat formats →
    IsListing (lines ++ format_lines formats)
is_listing segments formats lines listed are = record {
  code = record { segments = segments; formats = formats };
  listable = record { segments = are_listable 0 segments lines listed; formats = are };
  listed = record { segments = lines; listed = listed; are = refl };
}

-- operators that leave a part of a segment can be followed by others that fill it
pub record Whole (words : ℕ) (ops : List ListedOperator) : Type 0 where
  pub segment : Segment
  pub after : List ListedOperator
  pub count : length segment.words ≡ words
  pub is : IsSegment segment (ops ++ after)

pub whole : (words : ℕ) (ops : List ListedOperator) (end : ℕ) → IsWordCount words → AreInOrder 0 ops end → end < 6 * words → Whole words ops
whole words ops end count order left =
    let after = noops OUTER_LEVEL (6 * words - end) end in
    let all = ops ++ after in
    let sum : end + (6 * words - end) ≡ 6 * words = omega arith in
    let ordered : AreInOrder 0 all (6 * words) =
    order_append 0 ops end after (6 * words) order (subst (λ k. AreInOrder end after k) sum (noops_order OUTER_LEVEL (6 * words - end) end (omega arith) (omega arith))) in
    let long : length (code_text all) ≡ 6 * words = omega (arith, length_code 0 all (6 * words) ordered) in
    let made = worded words (code_text all) long (IsBytes_from (code_text all) (code_bytes 0 all (6 * words) ordered)) in
    let segment : Segment = record { words = made.words; marks = marks_of 0 all } in
    let size : 6 * words ≡ length (syllables made.words) = sym (length_syllables made.words ∙ ap (λ k. 6 * k) made.count_is) in
    record {
      segment = segment;
      after = after;
      count = made.count_is;
      is = record {
        some = subst (λ k. 1 ≤ k) (sym made.count_is) count.some;
        few = subst (λ k. k ≤ 8192) (sym made.count_is) count.few;
        words = made.small;
        filled = fills (syllables made.words) 0 all (subst (λ k. AreInOrder 0 all k) size ordered) made.are;
        marked = refl;
      };
    }

-- the lines of a segment that is not whole
abbrev pub part_lines : ℕ → ℕ → List ListedOperator → List (List ℕ)
part_lines number words ops = segment_line number words ∷ operator_lines ops

part_by : (segments : List Segment) (words : ℕ) (ops : List ListedOperator) (end : ℕ) (x b : List (List ℕ)) → HasNoHead b → IsWordCount words → AreInOrder 0 ops end → end < 6 * words →
    (later : List Segment) (ls : List (List ℕ)) → SegmentsText (0 + length segments) later ls → part_lines (length segments) words ops ++ x ≡ ls ++ b → GoesOn end (6 * words) x
part_by segments words ops end x b never count order left _ _ (none n) rest = absurd (never (length segments) words (operator_lines ops ++ x) (sym rest))
part_by segments words ops end x b never count order left _ _ (more n segment qs later ls first after) rest =
    let number : n ≡ length segments = omega arith in
    let heads : segment_line (length segments) words ≡ segment_line n (length segment.words) = head_of rest in
    let tails : operator_lines ops ++ x ≡ (operator_lines qs ++ ls) ++ b = tail_of rest in
    let same : words ≡ length segment.words = one_count (length segments) words (length segment.words) count.few first.few (heads ∙ ap (λ k. segment_line k (length segment.words)) number) in
    let whole = body segment qs first in
    next_operator 0 ops end qs (6 * words) x (ls ++ b) order (subst (λ k. AreInOrder 0 qs (6 * k)) (sym same) whole.order) left (tails ∙ append_assoc (operator_lines qs) ls b)

-- what goes on a listing after a part of a segment begins with an operator
part_goes_on : (segments : List Segment) (front : List (List ℕ)) (words : ℕ) (ops : List ListedOperator) (end : ℕ) (x : List (List ℕ)) → SegmentsText 0 segments front →
    IsWordCount words → AreInOrder 0 ops end → end < 6 * words → IsListing ((front ++ part_lines (length segments) words ops) ++ x) → GoesOn end (6 * words) x
part_goes_on segments front words ops end x listed count order left is =
    let found = ahead 0 segments is.code.segments front is.listed.segments (part_lines (length segments) words ops ++ x) (format_lines is.code.formats)
    listed is.listed.listed (formats_first 0 is.code.formats) (sym (append_assoc front (part_lines (length segments) words ops) x) ∙ is.listed.are) in
    part_by segments words ops end x (format_lines is.code.formats) (formats_first 0 is.code.formats) count order left found.later found.lines found.listed found.rest

-- lines that end in a part of a segment
pub record InPart (lines : List (List ℕ)) (count : ℕ) : Type 0 where
  pub segments : List Segment
  pub front : List (List ℕ)
  pub words : ℕ
  pub ops : List ListedOperator
  pub end : ℕ
  pub listed : SegmentsText 0 segments front
  pub word_count : IsWordCount words
  pub order : AreInOrder 0 ops end
  pub left : end < 6 * words
  pub within : count ≤ length lines
  pub taken : take count lines ≡ front ++ part_lines (length segments) words ops
  pub stops : (line : List ℕ) (rest : List (List ℕ)) → drop count lines ≡ line ∷ rest → IsNoOperator line end (6 * words)

goes_on : (lines : List (List ℕ)) (count : ℕ) (p : InPart lines count) (x : List (List ℕ)) → IsListing (take count lines ++ x) → GoesOn p.end (6 * p.words) x
goes_on lines count p x is =
    part_goes_on p.segments p.front p.words p.ops p.end x p.listed p.word_count p.order p.left (subst IsListing (ap (λ t. t ++ x) p.taken) is)

part_begins : (lines : List (List ℕ)) (count : ℕ) → InPart lines count → Begins IsListing (take count lines)
part_begins lines count p =
    let full = whole p.words p.ops p.end p.word_count p.order p.left in
    let n = length p.segments in
    let all = SegmentsText_push 0 p.segments p.front full.segment (p.ops ++ full.after) p.listed full.is in
    let listing = is_listing (p.segments ++ full.segment ∷ []) [] (p.front ++ segment_lines (0 + n) full.segment (p.ops ++ full.after)) all (All-nil IsFormat) in
    let zero_sum : 0 + n ≡ n = omega arith in
    let lines_are : segment_lines (0 + n) full.segment (p.ops ++ full.after) ≡ part_lines n p.words p.ops ++ operator_lines full.after =
    ap (λ k. segment_line k (length full.segment.words) ∷ operator_lines (p.ops ++ full.after)) zero_sum
    ∙ ap (λ w. segment_line n w ∷ operator_lines (p.ops ++ full.after)) full.count ∙ ap (λ ls. segment_line n p.words ∷ ls) (map-append operator_line p.ops full.after) in
    let joined : (p.front ++ segment_lines (0 + n) full.segment (p.ops ++ full.after)) ++ format_lines [] ≡ take count lines ++ operator_lines full.after =
    append-nil (p.front ++ segment_lines (0 + n) full.segment (p.ops ++ full.after)) ∙ ap (λ ls. p.front ++ ls) lines_are
    ∙ sym (append_assoc p.front (part_lines n p.words p.ops) (operator_lines full.after)) ∙ ap (λ ls. ls ++ operator_lines full.after) (sym p.taken) in
    (operator_lines full.after, subst IsListing joined listing)

no_rest : (mid end : ℕ) → GoesOn mid end [] → ⊥
no_rest mid end g = let e : [] ≡ operator_line g.placed ∷ g.more = g.rest_is in cc

no_line : (mid end : ℕ) (line : List ℕ) (other : List (List ℕ)) → IsNoOperator line mid end → GoesOn mid end (line ∷ other) → ⊥
no_line mid end line other never g =
    let same : line ≡ operator_line g.placed = head_of g.rest_is in
    never g.placed g.stands g.within same

pub part_refused : (lines : List (List ℕ)) (count : ℕ) → InPart lines count → IsRefused IsListing lines count
part_refused lines count p = refused lines count record {
  within = p.within;
  begins = part_begins lines count p;
  dead = λ line rest other e is. no_line p.end (6 * p.words) line other (p.stops line rest e) (goes_on lines count p (line ∷ other) is);
  short = λ e is. no_rest p.end (6 * p.words) (goes_on lines count p [] (subst IsListing (sym (append-nil (take count lines))) is));
}

-- lines that end after formats
pub record BehindFormats (lines : List (List ℕ)) (count : ℕ) : Type 0 where
  pub segments : List Segment
  pub front : List (List ℕ)
  pub formats : List Format
  pub listed : SegmentsText 0 segments front
  pub are : All IsFormat formats
  pub within : count ≤ length lines
  pub taken : take count lines ≡ front ++ format_lines formats
  pub line : List ℕ
  pub rest : List (List ℕ)
  pub line_is : drop count lines ≡ line ∷ rest
  pub no_head : formats ≡ [] → IsNoHead line (length segments)
  pub no_format : IsNoFormat line (length formats)

no_format_by : (line : List ℕ) (other : List (List ℕ)) (n : ℕ) (later : List Format) → All IsFormat later → IsNoFormat line n →
    line ∷ other ≡ map format_line (enumerate_from (0 + n) later) → ⊥
no_format_by line other n [] are never e = let f : line ∷ other ≡ [] = e in cc
no_format_by line other n (g ∷ gs) are never e =
    let number : 0 + n ≡ n = omega arith in
    let same : line ≡ format_line (0 + n, g) = head_of e in
    never g (All-head IsFormat g gs are) (same ∙ ap (λ k. format_line (k, g)) number)

no_head_by : (line : List ℕ) (other b : List (List ℕ)) (n : ℕ) (later : List Segment) (ls : List (List ℕ)) (formats gs : List Format) → All IsFormat formats → All IsFormat gs → b ≡ format_lines gs →
    (formats ≡ [] → IsNoHead line n) → IsNoFormat line (length formats) → SegmentsText (0 + n) later ls → format_lines formats ++ line ∷ other ≡ ls ++ b → ⊥
no_head_by line other b n _ _ formats gs are ares is no_head no_format (none m) rest =
    let found = formats_ahead 0 formats gs (line ∷ other) are ares (rest ∙ is) in
    no_format_by line other (length formats) found.later found.are no_format found.rest
no_head_by line other b n _ _ [] gs are ares is no_head no_format (more m segment qs later ls first after) rest =
    let number : m ≡ n = omega arith in
    let same : line ≡ segment_line m (length segment.words) = head_of rest in
    no_head refl (length segment.words) (record { some = first.some; few = first.few }) (same ∙ ap (λ k. segment_line k (length segment.words)) number)
no_head_by line other b n _ _ (f ∷ fs) gs are ares is no_head no_format (more m segment qs later ls first after) rest =
    let same : format_line (0, f) ≡ segment_line m (length segment.words) = head_of rest in
    formats_first 0 (f ∷ []) m (length segment.words) [] (ap (λ l. l ∷ []) same)

pub behind_refused : (lines : List (List ℕ)) (count : ℕ) → BehindFormats lines count → IsRefused IsListing lines count
behind_refused lines count p = refused lines count record {
  within = p.within;
  begins = ([], subst IsListing (sym p.taken ∙ sym (append-nil (take count lines))) (is_listing p.segments p.formats p.front p.listed p.are));
  dead = λ line rest other e is.
      let both : p.line ∷ p.rest ≡ line ∷ rest = sym p.line_is ∙ e in
      let same : p.line ≡ line = head_of both in
      let found = ahead 0 p.segments is.code.segments p.front is.listed.segments (format_lines p.formats ++ line ∷ other) (format_lines is.code.formats)
      p.listed is.listed.listed (formats_first 0 is.code.formats)
      (sym (append_assoc p.front (format_lines p.formats) (line ∷ other)) ∙ ap (λ t. t ++ line ∷ other) (sym p.taken) ∙ is.listed.are) in
      no_head_by line other (format_lines is.code.formats) (length p.segments) found.later found.lines p.formats is.code.formats p.are is.listable.formats refl
      (λ none_yet. subst (λ l. IsNoHead l (length p.segments)) same (p.no_head none_yet)) (subst (λ l. IsNoFormat l (length p.formats)) same p.no_format) found.listed found.rest;
  short = λ e is. let both : [] ≡ p.line ∷ p.rest = sym e ∙ p.line_is in cc;
}
