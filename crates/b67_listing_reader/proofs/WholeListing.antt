-- A listing, as far as it is read.
use Rattle.std.proofs.Common.{◌≡◌, ℕ, ◌+◌, ◌-◌, ◌<◌, List, [], ◌∷◌, ◌++◌, length, take, drop, refl, sym, ap, subst, arith, ◌∙◌}
use Rattle.std.proofs.Math.Seq.{take-add}
use Rattle.std.proofs.lemmas.List.{take_at, take-append-drop}
use Rattle.b67_text.specs.Texts.{PartStands}
use Rattle.b67_segment.specs.declared.code.Segment.{Segment}
use Rattle.b67_segment.specs.declared.code.Format.{Format}
use Rattle.b67_segment.specs.declared.code.Code.{Code}
use Rattle.b67_listing_reader.specs.declared.refusal.ReadListing.{ReadListing}
use Rattle.b67_listing_reader.specs.declared.refusal.ReadListing.TheVariants.{BadListing, NoMemory}
use Rattle.b67_listing.specs.Formats.{format_lines}
use Rattle.b67_listing.specs.Listings.{IsListable, SegmentsText, segment_line, segment_lines, ListingText}
use Rattle.b67_listing.proofs.Segments.{SegmentsText_push}
use Rattle.b67_listing_reader.specs.Codes.{ListingRefuses}
use Rattle.b67_listing_reader.specs.Reading.{operator_lines, RefusesBody, RefusesFormats, ReadsBody, ReadsSegments, ReadsFormats, IsWordCount, IsNoHead}
use Rattle.b67_listing_reader.proofs.Refusals.{part_refused, behind_refused, are_listable}

-- the items before a place, and what stands there
pub taken : {A : Type 0} (part items : List A) (at next : ℕ) → PartStands part items at next → take next items ≡ take at items ++ part
taken part items at next s =
    ap (λ n. take n items) s.next_is ∙ take-add at (length part) items ∙ ap (λ t. take at items ++ t) (ap (take (length part)) s.part_is ∙ take_at part (drop next items) (length part) refl)

-- a head line and what stands after it
pub behind_head : (line : List ℕ) (part lines : List (List ℕ)) (at next : ℕ) → at < length lines → drop at lines ≡ line ∷ drop (at + 1) lines → PartStands part lines (at + 1) next →
    PartStands (line ∷ part) lines at next
behind_head line part lines at next inside here s =
    record { within = s.within; next_is = omega (arith, s.next_is); part_is = here ∙ ap (λ t. line ∷ t) s.part_is }

-- the head line of the next segment stands at a place
pub head_here : (segments : List Segment) (lines : List (List ℕ)) (at number words : ℕ) (line : List ℕ) → number ≡ length segments → drop at lines ≡ line ∷ drop (at + 1) lines →
    IsWordCount words × (line ≡ segment_line number words) → IsWordCount words × (drop at lines ≡ segment_line (length segments) words ∷ drop (at + 1) lines)
head_here segments lines at number words line same here head =
    (head.0, here ∙ ap (λ l. l ∷ drop (at + 1) lines) (head.1 ∙ ap (λ k. segment_line k words) same))

-- one more segment
pub segment_more : (segments : List Segment) (lines : List (List ℕ)) (at next words : ℕ) (segment : Segment) → SegmentsText 0 segments (take at lines) → at < length lines →
    drop at lines ≡ segment_line (length segments) words ∷ drop (at + 1) lines → ReadsBody words lines (at + 1) segment next → SegmentsText 0 (segments ++ segment ∷ []) (take next lines)
segment_more segments lines at next words segment before inside here r =
    let n = length segments in
    let none_before : 0 + n ≡ n = omega arith in
    let are : segment_lines (0 + n) segment r.operators ≡ segment_line n words ∷ operator_lines r.operators =
    ap (λ k. segment_line k (length segment.words) ∷ operator_lines r.operators) none_before ∙ ap (λ w. segment_line n w ∷ operator_lines r.operators) r.words_are in
    subst (λ ls. SegmentsText 0 (segments ++ segment ∷ []) ls)
    (ap (λ ls. take at lines ++ ls) are ∙ sym (taken (segment_line n words ∷ operator_lines r.operators) lines at next (behind_head (segment_line n words) (operator_lines r.operators) lines at next inside here r.stands)))
    (SegmentsText_push 0 segments (take at lines) segment r.operators before r.segment_is)

-- a refusal in a segment
pub body_refused : (e : ReadListing) (segments : List Segment) (lines : List (List ℕ)) (at words : ℕ) → SegmentsText 0 segments (take at lines) → at < length lines → IsWordCount words →
    drop at lines ≡ segment_line (length segments) words ∷ drop (at + 1) lines → RefusesBody e words lines (at + 1) → ListingRefuses e lines
body_refused NoMemory segments lines at words before inside count here r = tt
body_refused (BadListing line) segments lines at words before inside count here r =
    let s = r.1 in
    let stands = behind_head (segment_line (length segments) words) (operator_lines s.operators) lines at (line - 1) inside here s.stands in (
      r.0,
      part_refused lines (line - 1) record {
        segments = segments;
        front = take at lines;
        words = words;
        ops = s.operators;
        end = s.end;
        listed = before;
        word_count = count;
        order = s.order;
        left = s.left;
        within = stands.within;
        taken = taken (segment_line (length segments) words ∷ operator_lines s.operators) lines at (line - 1) stands;
        stops = s.stops;
      },
    )

-- where the lines of formats begin, no further segment does
first_ends : (segments : List Segment) (lines : List (List ℕ)) (at next : ℕ) (formats : List Format) (line : List ℕ) (rest : List (List ℕ)) → ReadsSegments lines segments at →
    PartStands (format_lines formats) lines at next → drop next lines ≡ line ∷ rest → formats ≡ [] → IsNoHead line (length segments)
first_ends segments lines at next formats line rest r s e none =
    let long : length (format_lines formats) ≡ 0 = ap (λ fs. length (format_lines fs)) none in
    let same : at ≡ next = omega (arith, s.next_is) in
    r.ended line rest (ap (λ k. drop k lines) same ∙ e)

-- a refusal in the formats
pub formats_refused : (e : ReadListing) (segments : List Segment) (lines : List (List ℕ)) (at : ℕ) → ReadsSegments lines segments at → RefusesFormats e lines at → ListingRefuses e lines
formats_refused NoMemory segments lines at r f = tt
formats_refused (BadListing line) segments lines at r f =
    let s = f.1 in (
      f.0,
      behind_refused lines (line - 1) record {
        segments = segments;
        front = take at lines;
        formats = s.formats;
        listed = r.listed;
        are = s.are;
        within = s.stands.within;
        taken = taken (format_lines s.formats) lines at (line - 1) s.stands;
        line = s.line;
        rest = s.rest;
        line_is = s.line_is;
        no_head = first_ends segments lines at (line - 1) s.formats s.line s.rest r s.stands s.line_is;
        no_format = s.stops;
      },
    )

-- a code whose listing is read
code_of : (segments : List Segment) (formats : List Format) (lines : List (List ℕ)) (at : ℕ) → ReadsSegments lines segments at → ReadsFormats lines at formats →
    IsListable record { segments = segments; formats = formats } × ListingText record { segments = segments; formats = formats } lines
code_of segments formats lines at r f = (
  record { segments = are_listable 0 segments (take at lines) r.listed; formats = f.are },
  record { segments = take at lines; listed = r.listed; are = sym (take-append-drop at lines) ∙ ap (λ t. take at lines ++ t) f.listed },
)

pub code_read : (segments read : List Segment) (formats others : List Format) (lines : List (List ℕ)) (at : ℕ) → read ≡ segments → others ≡ formats → ReadsSegments lines segments at →
    ReadsFormats lines at formats → IsListable record { segments = read; formats = others } × ListingText record { segments = read; formats = others } lines
code_read segments read formats others lines at same alike r f =
    code_of read others lines at (subst (λ ss. ReadsSegments lines ss at) (sym same) r) (subst (λ fs. ReadsFormats lines at fs) (sym alike) f)

-- a listing is not refused
pub not_refused : (e : ReadListing) (code : Code) (lines : List (List ℕ)) → ListingRefuses e lines → IsListable code → ListingText code lines → e ≡ NoMemory
not_refused NoMemory code lines r is listed = refl
not_refused (BadListing line) code lines r is listed = absurd (r.1.none (record { code = code; listable = is; listed = listed }))
