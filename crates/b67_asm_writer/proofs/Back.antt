-- The lines that are written for a code, read back as records of a text.
use Rattle.std.proofs.Common.{◌≡◌, ℕ, ◌+◌, ◌==◌, eqb, true, cond, List, [], ◌∷◌, ◌++◌, map, codes, refl, sym, ap, subst, ◌∙◌, inl, inr, append_assoc, append-nil}
use Rattle.std.specs.List.{All, flat_map, onto_first}
use Rattle.std.specs.Fmt.{decimal}
use Rattle.std.proofs.lemmas.Bool.{and_parts, cases_Bool, cond-true, cond-false, not-true}
use Rattle.std.proofs.lemmas.Grind.{flat_map-append}
use Rattle.std.proofs.lemmas.List.{map-append}
use Rattle.std.proofs.lemmas.List.Elements.{All-head, All-tail}
use Rattle.b67_segment.specs.declared.code.Format.{Format as Form}
use Rattle.b67_listing.specs.Operators.{ListedOperator, operator_text}
use Rattle.b67_listing.specs.Listings.{IsPhrase}
use Rattle.b67_listing_reader.specs.Reading.{AreInOrder, width}
use Rattle.b67_asm_text.specs.declared.item.Written.TheVariants.{Whole}
use Rattle.b67_asm_text.specs.declared.item.Reading.{Reading}
use Rattle.b67_asm_text.specs.declared.item.Reading.TheVariants.{Blank, Segment, Level, Operator, Format}
use Rattle.b67_asm_text.specs.Items.{format_of, formats, record_reading, readings}
use Rattle.b67_asm_text.specs.Phrases.{phrases_in}
use Rattle.b67_asm_text.specs.Records.{records}
use Rattle.b67_asm.specs.Writable.{CanBeWritten}
use Rattle.b67_asm_writer.specs.Sources.{format_source, level_change, lines_after, lines_text, segment_source}
use Rattle.b67_asm_writer.proofs.Quiet.{IsReadAs, has_no_feed, is_no_feed, quiet_no_feed}
use Rattle.b67_asm_writer.proofs.Items.{level_back, operator_back, segment_back}
use Rattle.b67_asm_writer.proofs.Formats.{format_back, format_no_feed}

-- ---- records

-- no line has an LF
abbrev HaveNoFeed : List (List ℕ) → Type 0
HaveNoFeed [] = Unit {0}
HaveNoFeed (line ∷ lines) = (has_no_feed line ≡ true) × HaveNoFeed lines

both_no_feed : (xs ys : List (List ℕ)) → HaveNoFeed xs → HaveNoFeed ys → HaveNoFeed (xs ++ ys)
both_no_feed [] ys a b = b
both_no_feed (line ∷ xs) ys a b = (a.0, both_no_feed xs ys a.1 b)

-- a line with its LF is a record
line_back : (line rest : List ℕ) → has_no_feed line ≡ true → records (line ++ 10 ∷ rest) ≡ line ∷ records rest
line_back [] rest none = refl
line_back (byte ∷ line) rest none =
    let p = and_parts (is_no_feed byte) (has_no_feed line) none in
    cond-false (byte == 10) ([] ∷ records (line ++ 10 ∷ rest)) (onto_first byte (records (line ++ 10 ∷ rest))) (not-true (byte == 10) p.0)
    ∙ ap (onto_first byte) (line_back line rest p.1)

-- lines with their LFs are records, and an empty one comes after them
lines_back : (lines : List (List ℕ)) → HaveNoFeed lines → records (lines_text lines) ≡ lines ++ [] ∷ []
lines_back [] none = refl
lines_back (line ∷ lines) none =
    ap records (append_assoc line (10 ∷ []) (lines_text lines))
    ∙ line_back line (lines_text lines) none.0
    ∙ ap (λ (ls : List (List ℕ)). line ∷ ls) (lines_back lines none.1)

-- ---- operators

-- what the lines of operators after one of this level are read as
abbrev pub level_read : ℕ → ℕ → List Reading
level_read before level = cond (eqb level before) [] (Level level ∷ [])

abbrev pub read_after : ℕ → List ListedOperator → List Reading
read_after before [] = []
read_after before (first ∷ more) = level_read before first.level ++ (Operator (Whole first.operator) ∷ read_after first.level more)

-- lines are read as these items, they have no formats, and no LFs
record AreBack (lines : List (List ℕ)) (items : List Reading) : Type 0 where
  reads : map record_reading lines ≡ items
  none : flat_map format_of lines ≡ []
  feeds : HaveNoFeed lines

one_back : (line : List ℕ) (item : Reading) (lines : List (List ℕ)) (items : List Reading) → IsReadAs line item → AreBack lines items → AreBack (line ∷ lines) (item ∷ items)
one_back line item lines items own rest = record {
  reads = ap (λ (r : Reading). r ∷ map record_reading lines) own.reads ∙ ap (λ (rs : List Reading). item ∷ rs) rest.reads;
  none = ap (λ (fs : List Form). fs ++ flat_map format_of lines) own.none ∙ rest.none;
  feeds = (quiet_no_feed line own.quiet, rest.feeds);
}

-- the line of a level, where there is one
change_back : (before : ℕ) (p : ListedOperator) (lines : List (List ℕ)) (items : List Reading) → IsReadAs (codes "LEVEL " ++ decimal p.level) (Level p.level) → AreBack lines items →
    AreBack (level_change before p.level ++ lines) (level_read before p.level ++ items)
change_back before p lines items own rest =
    let line = codes "LEVEL " ++ decimal p.level in
    let test = eqb p.level before in
    elim (cases_Bool test) [
      | inl same ↦
          subst (λ (ls : List (List ℕ)). AreBack (ls ++ lines) (level_read before p.level ++ items)) (sym (cond-true test [] (line ∷ []) same))
          (subst (λ (rs : List Reading). AreBack lines (rs ++ items)) (sym (cond-true test [] (Level p.level ∷ []) same)) rest)
      | inr other ↦
          subst (λ (ls : List (List ℕ)). AreBack (ls ++ lines) (level_read before p.level ++ items)) (sym (cond-false test [] (line ∷ []) other))
          (subst (λ (rs : List Reading). AreBack (line ∷ lines) (rs ++ items)) (sym (cond-false test [] (Level p.level ∷ []) other))
          (one_back line (Level p.level) lines items own rest))
    ]

after_back : (before at : ℕ) (ps : List ListedOperator) (end : ℕ) → AreInOrder at ps end → AreBack (lines_after before ps) (read_after before ps)
after_back before at [] end order = record { reads = refl; none = refl; feeds = tt }
after_back before at (p ∷ ps) end order =
    change_back before p (operator_text p.operator ∷ lines_after p.level ps) (Operator (Whole p.operator) ∷ read_after p.level ps) (level_back p.level order.0.least order.0.most)
    (one_back (operator_text p.operator) (Operator (Whole p.operator)) (lines_after p.level ps) (read_after p.level ps) (operator_back p.level p.operator order.0.most order.0.fits)
    (after_back p.level (at + width p) ps end order.1))

-- ---- segments

abbrev pub segment_read : List ListedOperator → List Reading
segment_read ps = Segment ∷ read_after 0 ps

-- operators from the start of a segment on, which end at some place
pub record AreWhole (ps : List ListedOperator) : Type 0 where
  pub end : ℕ
  pub order : AreInOrder 0 ps end

abbrev pub AllWhole : List (List ListedOperator) → Type 0
AllWhole [] = Unit {0}
AllWhole (ps ∷ pss) = AreWhole ps × AllWhole pss

append_back : (xs ys : List (List ℕ)) (rs ss : List Reading) → AreBack xs rs → AreBack ys ss → AreBack (xs ++ ys) (rs ++ ss)
append_back xs ys rs ss a b = record {
  reads = map-append record_reading xs ys ∙ ap (λ (is : List Reading). is ++ map record_reading ys) a.reads ∙ ap (λ (is : List Reading). rs ++ is) b.reads;
  none = flat_map-append format_of xs ys ∙ ap (λ (fs : List Form). fs ++ flat_map format_of ys) a.none ∙ b.none;
  feeds = both_no_feed xs ys a.feeds b.feeds;
}

segments_back : (pss : List (List ListedOperator)) → AllWhole pss → AreBack (flat_map segment_source pss) (flat_map segment_read pss)
segments_back [] whole = record { reads = refl; none = refl; feeds = tt }
segments_back (ps ∷ pss) whole =
    append_back (segment_source ps) (flat_map segment_source pss) (segment_read ps) (flat_map segment_read pss)
    (one_back (codes "SEGMENT") Segment (lines_after 0 ps) (read_after 0 ps) segment_back (after_back 0 0 ps whole.0.end whole.0.order)) (segments_back pss whole.1)

-- ---- formats

abbrev pub format_read : Form → Reading
format_read form = Format true

record FormatsBack (forms : List Form) : Type 0 where
  reads : map record_reading (map format_source forms) ≡ map format_read forms
  own : flat_map format_of (map format_source forms) ≡ forms
  feeds : HaveNoFeed (map format_source forms)

formats_back : (forms : List Form) → All (λ (form : Form). All IsPhrase form.phrases) forms → All CanBeWritten forms → FormatsBack forms
formats_back [] all can = record { reads = refl; own = refl; feeds = tt }
formats_back (form ∷ forms) all can =
    let P : Form → Type 0 = λ (f : Form). All IsPhrase f.phrases in
    let phrases = All-head P form forms all in
    let here = All-head CanBeWritten form forms can in
    let one = format_back form phrases here in
    let rest = formats_back forms (All-tail P form forms all) (All-tail CanBeWritten form forms can) in
    record {
      reads = ap (λ (r : Reading). r ∷ map record_reading (map format_source forms)) one.reads ∙ ap (λ (rs : List Reading). Format true ∷ rs) rest.reads;
      own = ap (λ (fs : List Form). fs ++ flat_map format_of (map format_source forms)) one.own ∙ ap (λ (fs : List Form). form ∷ fs) rest.own;
      feeds = (format_no_feed form phrases here, rest.feeds);
    }

-- ---- the whole text

-- the items after the segments: the formats, and the empty record at the end
abbrev pub tail_read : List Form → List Reading
tail_read forms = map format_read forms ++ Blank ∷ []

pub record IsBack (text : List ℕ) (pss : List (List ListedOperator)) (forms : List Form) : Type 0 where
  pub reads : readings text ≡ flat_map segment_read pss ++ tail_read forms
  pub own : formats text ≡ forms

empty_reads : record_reading [] ≡ Blank
unfolding record_reading
empty_reads = refl

empty_none : format_of [] ≡ []
unfolding format_of phrases_in
empty_none = refl

pub text_back : (text : List ℕ) (pss : List (List ListedOperator)) (forms : List Form) → AllWhole pss → All (λ (form : Form). All IsPhrase form.phrases) forms → All CanBeWritten forms →
    text ≡ lines_text (flat_map segment_source pss ++ map format_source forms) → IsBack text pss forms
text_back text pss forms whole all can is =
    let first = flat_map segment_source pss in
    let second = map format_source forms in
    let segments = segments_back pss whole in
    let own = formats_back forms all can in
    let recs : records text ≡ first ++ (second ++ [] ∷ []) =
    ap records is ∙ lines_back (first ++ second) (both_no_feed first second segments.feeds own.feeds) ∙ append_assoc first second ([] ∷ []) in
    let last : map record_reading (second ++ [] ∷ []) ≡ tail_read forms =
    map-append record_reading second ([] ∷ []) ∙ ap (λ (rs : List Reading). rs ++ record_reading [] ∷ []) own.reads ∙ ap (λ (r : Reading). map format_read forms ++ r ∷ []) empty_reads in
    let last_forms : flat_map format_of (second ++ [] ∷ []) ≡ forms =
    flat_map-append format_of second ([] ∷ []) ∙ ap (λ (fs : List Form). fs ++ flat_map format_of ([] ∷ [])) own.own
    ∙ ap (λ (fs : List Form). forms ++ (fs ++ [])) empty_none ∙ append-nil forms in
    record {
      reads =
          ap (map record_reading) recs ∙ map-append record_reading first (second ++ [] ∷ []) ∙ ap (λ (rs : List Reading). rs ++ map record_reading (second ++ [] ∷ [])) segments.reads
          ∙ ap (λ (rs : List Reading). flat_map segment_read pss ++ rs) last;
      own =
          ap (flat_map format_of) recs ∙ flat_map-append format_of first (second ++ [] ∷ []) ∙ ap (λ (fs : List Form). fs ++ flat_map format_of (second ++ [] ∷ [])) segments.none
          ∙ last_forms;
    }
