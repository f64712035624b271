-- A segment that is listed again.
use Rattle.std.proofs.Common.{◌≡◌, ℕ, ◌+◌, ◌*◌, List, [], ◌∷◌, ◌++◌, length, drop, sym, ap, subst, arith, ◌∙◌}
use Rattle.std.proofs.lemmas.List.{append-nil}
use Rattle.std.proofs.lemmas.List.Elements.{All-cons, All-nil}
use Rattle.b67_segment.specs.declared.code.Segment.{Segment}
use Rattle.b67_segment.specs.declared.code.Format.{Format}
use Rattle.b67_segment.specs.declared.code.Code.{Code}
use Rattle.b67_segment.specs.Operators as building
use Rattle.b67_segment.specs.Syllables.{Spells}
use Rattle.b67_segment.proofs.Fetches.{length_syllables}
use Rattle.b67_listing.specs.Formats.{format_lines}
use Rattle.b67_listing.specs.Listings.{HasOperators, IsListable, ListingText, segment_line}
use Rattle.b67_listing_reader.specs.Reading.{unplaced, operator_lines, AreOperators, IsFirstOther, IsRelisted, IsFormat}
use Rattle.b67_listing_reader.proofs.Orders.{length_code}
use Rattle.b67_listing_reader.proofs.Segments.{one_listed}
use Rattle.b67_listing_reader.proofs.Built.{text_is, built_segment, spelled_ones, with_noops, order_some}

-- what is built of operators is a segment of them and NOOPs
has_operators : (operators : List building.Placed) (segment : Segment) → AreOperators operators → Spells (building.filled operators) segment → HasOperators segment
has_operators operators segment a spells =
    let more = with_noops a.placed a.end a.order a.some in
    let same : building.filled operators ≡ unplaced more.all = ap building.filled a.operators_are ∙ sym more.all_are in
    let spelled : Spells (unplaced more.all) segment = subst (λ us. Spells us segment) same spells in
    let end = a.end + building.missing a.end in
    let size : 6 * length segment.words ≡ end =
    sym (length_syllables segment.words) ∙ ap length (spelled.code ∙ text_is 0 more.all end more.order) ∙ omega (arith, length_code 0 more.all end more.order) in
    let first = order_some a.placed a.end a.order a.some in
    let few = a.few in
    (more.all, built_segment segment more.all end more.order spelled (omega arith) (omega arith))

-- the code of this segment only can be listed
pub one_listable : (operators : List building.Placed) (segment : Segment) (code : Code) → AreOperators operators → Spells (building.filled operators) segment →
    code ≡ record { segments = segment ∷ []; formats = [] } → IsListable code
one_listable operators segment code a spells is = subst IsListable (sym is)
    (record { segments = All-cons HasOperators segment [] (has_operators operators segment a spells) (All-nil HasOperators); formats = All-nil IsFormat })

-- and its listing has the lines of its operators after the first
pub is_relisted : (operators : List building.Placed) (segment : Segment) (code : Code) (listed lines : List (List ℕ)) (same : ℕ) → Spells (building.filled operators) segment →
    code ≡ record { segments = segment ∷ []; formats = [] } → ListingText code listed → IsFirstOther lines (drop 1 listed) same → IsRelisted operators lines segment same
is_relisted operators segment code listed lines same spells is t first =
    let one = one_listed 0 code.segments t.segments segment t.listed (ap (λ (c : Code). c.segments) is) in
    let all = one.operators in
    let whole : listed ≡ segment_line one.number (length segment.words) ∷ operator_lines all =
    t.are ∙ ap (λ fs. t.segments ++ format_lines fs) (ap (λ (c : Code). c.formats) is) ∙ append-nil t.segments ∙ one.are in
    record {
      all = all;
      segment_is = one.segment_is;
      all_are = spelled_ones segment (building.filled operators) all spells one.segment_is;
      same_are = subst (λ ls. IsFirstOther lines ls same) (ap (drop 1) whole) first;
    }

-- a code of one segment
pub one_segment : (segments before : List Segment) (formats : List Format) (segment : Segment) → segments ≡ before ++ segment ∷ [] → before ≡ [] → formats ≡ [] →
    ◌≡◌ {A = Code} record { segments = segments; formats = formats } record { segments = segment ∷ []; formats = [] }
one_segment segments before formats segment a b c =
    ap (λ ss. let r : Code = record { segments = ss; formats = formats } in r) (a ∙ ap (λ ss. ss ++ segment ∷ []) b) ∙ ap (λ fs. let r : Code = record { segments = segment ∷ []; formats = fs } in r) c
