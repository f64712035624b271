-- The code of a text can be written.
use Rattle.std.proofs.Common.{◌≡◌, ℕ, ◌≤◌, List, [], ◌∷◌, length, replicate, refl, sym, subst, arith, length-append}
use Rattle.std.specs.Prelude.{unwrap_or, None}
use Rattle.std.specs.List.{All}
use Rattle.std.proofs.lemmas.List.Elements.{All-cons, All-nil, All-weaker}
use Rattle.b67_ops.specs.declared.Operator.TheVariants.{Plain}
use Rattle.b67_ops.specs.declared.PlainKind.TheVariants.{Noop}
use Rattle.b67_segment.specs.declared.TheConstants.{MOST_SEGMENT_WORDS}
use Rattle.b67_segment.specs.declared.code.Segment.{Segment as Made}
use Rattle.b67_segment.specs.declared.code.Format.{Format as Form}
use Rattle.b67_segment.specs.declared.code.Code.{Code}
use Rattle.b67_segment.specs.Operators.{Placed, filled, last_level, missing, size}
use Rattle.b67_segment.specs.Syllables.{Spells}
use Rattle.b67_segment.proofs.Filling.{words_few}
use Rattle.b67_listing.specs.Listings.{AreListable, HasOperators, IsPhrase}
use Rattle.b67_listing.proofs.Spelled.{spelled_segment}
use Rattle.b67_asm_text.specs.Items.{readings}
use Rattle.b67_asm_text.specs.Records.{records}
use Rattle.b67_asm.specs.Assembling.{AreCode, Assembles, segments_from}
use Rattle.b67_asm.specs.Writable.{CanBeWritten, IsWritable}
use Rattle.b67_asm.proofs.Formats.{IsForm, forms_in}
use Rattle.b67_asm.proofs.Unbroken.{FillSegment, FillSegments, IsWhole, is_whole}

-- a segment of operators, and of NOOPs that fill its last word
filled_some : (ps : List Placed) → 1 ≤ length ps → 1 ≤ length (filled ps)
filled_some ps some =
    omega (arith, some, length-append ps (replicate (missing (size ps)) (record { level = unwrap_or (last_level None ps) 0; operator = Plain Noop })))

has_operators : (ps : List Placed) (segment : Made) → FillSegment ps → Spells (filled ps) segment → HasOperators segment
has_operators ps segment fills spells =
    let few : length segment.words ≤ MOST_SEGMENT_WORDS = omega (arith, fills.few, words_few ps segment spells) in
    spelled_segment segment (filled ps) spells (filled_some ps fills.some) few

all_have : (pss : List (List Placed)) (segments : List Made) → FillSegments pss → AreCode pss segments → AreListable segments
all_have [] [] fill are = All-nil HasOperators
all_have [] (segment ∷ segments) fill are = absurd are
all_have (ps ∷ pss) [] fill are = absurd are
all_have (ps ∷ pss) (segment ∷ segments) fill are =
    All-cons HasOperators segment segments (has_operators ps segment fill.0 are.0) (all_have pss segments fill.1 are.1)

as_many : (pss : List (List Placed)) (segments : List Made) → AreCode pss segments → length pss ≡ length segments
as_many [] [] are = refl
as_many [] (segment ∷ segments) are = absurd are
as_many (ps ∷ pss) [] are = absurd are
as_many (ps ∷ pss) (segment ∷ segments) are = omega (arith, as_many pss segments are.1)

pub is_writable : (bytes : List ℕ) (code : Code) → Assembles bytes code → IsWritable code
is_writable bytes code h =
    let whole : IsWhole (readings bytes) = is_whole (readings bytes) h.whole in
    let forms : All IsForm code.formats = subst (λ (fs : List Form). All IsForm fs) (sym h.formats) (forms_in (records bytes) whole.unbroken.formats) in
    record {
      listable = record {
        segments = all_have (segments_from 1 (readings bytes)) code.segments whole.unbroken.segments h.segments;
        formats = All-weaker IsForm (λ (form : Form). All IsPhrase form.phrases) (λ form is. is.phrases) code.formats forms;
      };
      some = omega (arith, whole.some, as_many (segments_from 1 (readings bytes)) code.segments h.segments);
      formats = All-weaker IsForm CanBeWritten (λ form is. is.can) code.formats forms;
    }

-- so each segment is short enough for a machine
is_short : (code : Code) → IsWritable code → All (λ (segment : Made). length segment.words ≤ MOST_SEGMENT_WORDS) code.segments
is_short code can = All-weaker HasOperators (λ (segment : Made). length segment.words ≤ MOST_SEGMENT_WORDS) (λ segment has. has.1.few) code.segments can.listable.segments

pub short_as : (bytes : List ℕ) (segments : List Made) (forms : List Form) → Assembles bytes (record { segments = segments; formats = forms }) →
    All (λ (segment : Made). length segment.words ≤ MOST_SEGMENT_WORDS) segments
short_as bytes segments forms h = let code : Code = record { segments = segments; formats = forms } in is_short code (is_writable bytes code h)
