-- A text that is written for a code is assembled to the code.
use Rattle.std.proofs.Common.{◌≡◌, ℕ, ◌≤◌, List, [], ◌∷◌, ◌++◌, length, map, replicate, refl, sym, ap, subst, arith, ◌∙◌, ◌↔◌, append-nil}
use Rattle.std.specs.Prelude.{unwrap_or, None}
use Rattle.std.specs.List.{All, flat_map}
use Rattle.std.proofs.lemmas.Grind.{flat_map-append}
use Rattle.std.proofs.lemmas.List.Elements.{All-head, All-tail}
use Rattle.b67_ops.specs.declared.Operator.TheVariants.{Plain}
use Rattle.b67_ops.specs.declared.PlainKind.TheVariants.{Noop}
use Rattle.b67_segment.specs.declared.code.Segment.{Segment as Made}
use Rattle.b67_segment.specs.declared.code.Code.{Code}
use Rattle.b67_segment.specs.Operators as building
use Rattle.b67_segment.specs.Syllables.{Spells, syllables}
use Rattle.b67_segment.proofs.Fetches.{length_syllables}
use Rattle.b67_listing.specs.Operators.{ListedOperator}
use Rattle.b67_listing.specs.Listings.{HasOperators, IsSegment, StandInOrder}
use Rattle.b67_listing_reader.specs.Reading.{unplaced}
use Rattle.b67_listing_reader.proofs.Orders.{filled}
use Rattle.b67_listing_reader.proofs.Built.{builds, size_is}
use Rattle.b67_asm.specs.Rules.{first_broken}
use Rattle.b67_asm.specs.Assembling.{AreCode, Assembles, segments_from}
use Rattle.b67_asm.specs.Writable.{IsWritable}
use Rattle.b67_asm.proofs.Writable.{is_writable}
use Rattle.b67_asm_writer.specs.Sources.{AddsSegments, AreOperators, IsSource, format_source, line_text, lines_text, segment_source}
use Rattle.b67_asm_writer.proofs.Back.{AllWhole, text_back}
use Rattle.b67_asm_writer.proofs.Unbroken.{AllFill, Fill, lines_whole}

-- ---- a segment

some_operators : (bytes : List ℕ) (ps : List ListedOperator) → StandInOrder bytes 0 ps → 1 ≤ length bytes → 1 ≤ length ps
some_operators bytes [] h some = absurd (omega (arith, h, some))
some_operators bytes (p ∷ ps) h some = omega arith

fills : (segment : Made) (ps : List ListedOperator) → IsSegment segment ps → Fill ps
fills segment ps is =
    let bytes = syllables segment.words in
    record {
      end = length bytes;
      order = (filled bytes 0 ps is.filled).order;
      some = some_operators bytes ps is.filled (omega (arith, is.some, length_syllables segment.words));
      room = omega (arith, is.few, length_syllables segment.words);
    }

-- its operators are whole words, which no NOOPs fill
none_missing : (segment : Made) (ps : List ListedOperator) → IsSegment segment ps → building.missing (building.size (unplaced ps)) ≡ 0
none_missing segment ps is =
    let bytes = syllables segment.words in
    omega (arith, size_is ps (length bytes) (filled bytes 0 ps is.filled).order, length_syllables segment.words)

spelled : (segment : Made) (ps : List ListedOperator) → IsSegment segment ps → Spells (building.filled (unplaced ps)) segment
spelled segment ps is =
    let us = unplaced ps in
    let level = unwrap_or (building.last_level None us) 0 in
    let none : building.filled us ≡ us =
    ap (λ (count : ℕ). us ++ replicate count (record { level = level; operator = Plain Noop })) (none_missing segment ps is) ∙ append-nil us in
    let b = builds segment ps is in
    subst (λ (vs : List building.Placed). Spells vs segment) (sym none) (record { code = b.code; small = is.words; marks = b.marks; fit = b.fit })

-- ---- segments

all_fill : (segments : List Made) (pss : List (List ListedOperator)) → AreOperators segments pss → AllFill pss
all_fill [] [] are = tt
all_fill [] (ps ∷ pss) are = absurd are
all_fill (segment ∷ segments) [] are = absurd are
all_fill (segment ∷ segments) (ps ∷ pss) are = (fills segment ps are.0, all_fill segments pss are.1)

all_whole : (pss : List (List ListedOperator)) → AllFill pss → AllWhole pss
all_whole [] fill = tt
all_whole (ps ∷ pss) fill = (record { end = fill.0.end; order = fill.0.order }, all_whole pss fill.1)

are_code : (segments : List Made) (pss : List (List ListedOperator)) → AreOperators segments pss → AreCode (map unplaced pss) segments
are_code [] [] are = tt
are_code [] (ps ∷ pss) are = absurd are
are_code (segment ∷ segments) [] are = absurd are
are_code (segment ∷ segments) (ps ∷ pss) are = (spelled segment ps are.0, are_code segments pss are.1)

as_many : (segments : List Made) (pss : List (List ListedOperator)) → AreOperators segments pss → length segments ≡ length pss
as_many [] [] are = refl
as_many [] (ps ∷ pss) are = absurd are
as_many (segment ∷ segments) [] are = absurd are
as_many (segment ∷ segments) (ps ∷ pss) are = omega (arith, as_many segments pss are.1)

-- ---- a text

pub assembles : (code : Code) (text : List ℕ) → IsWritable code → IsSource code text → Assembles text code
assembles code text can source =
    let pss = source.operators in
    let fill = all_fill code.segments pss source.are in
    let back = text_back text pss code.formats (all_whole pss fill) can.listable.formats can.formats source.text_is in
    let whole = lines_whole pss code.formats (omega (arith, can.some, as_many code.segments pss source.are)) fill in
    record {
      whole = ap first_broken back.reads ∙ whole.whole;
      segments = subst (λ (uss : List (List building.Placed)). AreCode uss code.segments) (sym (ap (segments_from 1) back.reads ∙ whole.segments)) (are_code code.segments pss source.are);
      formats = sym back.own;
    }

-- ---- which codes have a text

-- the operators of segments that can be listed
listed : (segments : List Made) → All HasOperators segments → (pss : List (List ListedOperator)) × AreOperators segments pss
listed [] all = ([], tt)
listed (segment ∷ segments) all =
    let here = All-head HasOperators segment segments all in
    let rest = listed segments (All-tail HasOperators segment segments all) in
    (here.0 ∷ rest.0, (here.1, rest.1))

has_text : (code : Code) → IsWritable code → (text : List ℕ) × Assembles text code
has_text code can =
    let found = listed code.segments can.listable.segments in
    let text = lines_text (flat_map segment_source found.0 ++ map format_source code.formats) in
    let source : IsSource code text = record { operators = found.0; are = found.1; text_is = refl } in
    (text, assembles code text can source)

pub exactly : (code : Code) → IsWritable code ↔ ((text : List ℕ) × Assembles text code)
exactly code = (has_text code, λ found. is_writable found.0 code found.1)

pub again : (bytes text : List ℕ) (code : Code) → Assembles bytes code → IsSource code text → Assembles text code
again bytes text code h source = assembles code text (is_writable bytes code h) source

-- ---- what is written

pub is_source : (code : Code) (empty segments all : List ℕ) → empty ≡ [] → AddsSegments code.segments empty segments → all ≡ segments ++ lines_text (map format_source code.formats) → IsSource code all
is_source code empty segments all none adds e =
    let first = flat_map segment_source adds.operators in
    let second = map format_source code.formats in
    record {
      operators = adds.operators;
      are = adds.are;
      text_is =
          e ∙ ap (λ (t : List ℕ). t ++ lines_text second) (adds.added ∙ ap (λ (t : List ℕ). t ++ lines_text first) none)
          ∙ sym (flat_map-append line_text first second);
    }
