-- Head lines of segments and of formats.
use Rattle.std.proofs.Common.{◌≡◌, ℕ, None, List, [], ◌∷◌, ◌++◌, length, drop, codes, refl, sym, ap, arith, ◌∙◌, append_assoc, length-drop}
use Rattle.std.specs.Fmt.{decimal}
use Rattle.std.proofs.lemmas.List.{append-nil}
use Rattle.b67_text.specs.declared.number.Numbers.{Numbers}
use Rattle.b67_text.specs.Texts.{StopsAt, PartStands}
use Rattle.b67_text.specs.Numerals.{IsDigit, NumberIsIn, IsField}
use Rattle.b67_text.proofs.Fronts.{fields_alike}
use Rattle.b67_listing.specs.Formats.{phrases_text}
use Rattle.b67_listing.specs.Listings.{segment_line}
use Rattle.b67_listing_reader.specs.Reading.{IsWordCount, IsNoHead, IsNoFormat}
use Rattle.b67_listing_reader.proofs.OneFormat.{format_head, headed}

-- the numbers of words
abbrev pub counts : Numbers
counts = record { least = 1; most = 8192; except = None }

pub not_stopped : (Is : List ℕ → Type 0) (items part rest : List ℕ) (end : ℕ) → StopsAt Is items 0 end → Is part → part ++ rest ≡ items → ⊥
not_stopped Is items part rest end s is e = s.none.none part rest is e

is_count : (words : ℕ) → IsWordCount words → NumberIsIn counts words
is_count words w =
    let few = w.few in
    record { fits = omega arith; least = w.some; most = few; other = λ e. cc }

no_digit_end : IsDigit 10 → ⊥
no_digit_end d = omega (arith, d.0)

-- digits that are a number of words and are ended are read
pub count_stops : (digits ended : List ℕ) (end : ℕ) → ended ≡ digits ++ 10 ∷ [] → StopsAt (IsField counts 10) ended 0 end → (words : ℕ) → IsWordCount words → digits ≡ decimal words → ⊥
count_stops digits ended end is s words w e =
    let whole : (decimal words ++ 10 ∷ []) ++ [] ≡ ended = append-nil (decimal words ++ 10 ∷ []) ∙ ap (λ t. t ++ 10 ∷ []) (sym e) ∙ sym is in
    not_stopped (IsField counts 10) ended (decimal words ++ 10 ∷ []) [] end s (record { number = words; is_in = is_count words w; text_is = refl }) whole

-- and to their end
pub count_ends : (digits ended : List ℕ) (count next : ℕ) → ended ≡ digits ++ 10 ∷ [] → NumberIsIn counts count → PartStands (decimal count ++ 10 ∷ []) ended 0 next →
    (next ≡ length ended → ⊥) → (words : ℕ) → IsWordCount words → digits ≡ decimal words → ⊥
count_ends digits ended count next is i s other words w e =
    let few = w.few in
    let joined : decimal words ++ 10 ∷ [] ≡ decimal count ++ 10 ∷ drop next ended =
    ap (λ t. t ++ 10 ∷ []) (sym e) ∙ sym is ∙ s.part_is ∙ append_assoc (decimal count) (10 ∷ []) (drop next ended) in
    let alike = fields_alike words count 10 [] (drop next ended) (omega arith) i.fits no_digit_end joined in
    let none : length (drop next ended) ≡ 0 = ap length (sym alike.rests) in
    let within = s.within in
    other (omega (arith, length-drop next ended))

-- the head of a segment's line
abbrev pub segment_head : ℕ → List ℕ
segment_head n = codes "SEGMENT " ++ decimal n ++ codes " "

pub segment_headed : (n words : ℕ) → segment_line n words ≡ segment_head n ++ decimal words
segment_headed n words = sym (append_assoc (codes "SEGMENT " ++ decimal n) (codes " ") (decimal words))

-- what does not begin with a head is no line of it
pub no_head : (n : ℕ) (line : List ℕ) (end : ℕ) → StopsAt (λ text. text ≡ segment_head n) line 0 end → IsNoHead line n
no_head n line end s words w e =
    not_stopped (λ text. text ≡ segment_head n) line (segment_head n) (decimal words) end s refl (sym (e ∙ segment_headed n words))

pub no_format_head : (n : ℕ) (line : List ℕ) (end : ℕ) → StopsAt (λ text. text ≡ format_head n) line 0 end → IsNoFormat line n
no_format_head n line end s format is e =
    not_stopped (λ text. text ≡ format_head n) line (format_head n) (phrases_text format.phrases ++ codes ">") end s refl (sym (e ∙ headed n format))
