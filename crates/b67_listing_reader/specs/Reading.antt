-- What the parts of a listing are read as.
use Rattle.std.specs.Prelude.{◌≡◌, ℕ, ◌+◌, ◌-◌, ◌*◌, ◌<◌, ◌≤◌, ◌≢◌, ◌^◌, ◌⊎◌, nat_le, nat_lt, ◌&&◌, if◌then◌else◌, zero, suc, Option, Some, None, List, [], ◌∷◌, ◌++◌, length, map, take, drop}
use Rattle.std.specs.List.{All}
use Rattle.std.specs.Fmt.{decimal}
use Rattle.b67_ops.specs.declared.TheConstants.{OUTER_LEVEL, MOST_LEVEL}
use Rattle.b67_ops.specs.Spelling.{spelling, Fits}
use Rattle.b67_text.specs.Texts.{PartStands, HasByte}
use Rattle.b67_segment.specs.declared.code.Segment.{Segment}
use Rattle.b67_segment.specs.declared.code.Phrase.{Phrase}
use Rattle.b67_segment.specs.declared.code.Format.{Format}
use Rattle.b67_segment.specs.declared.TheConstants.{MOST_SEGMENT_WORDS}
use Rattle.b67_segment.specs.Operators as building
use Rattle.b67_listing.specs.Operators.{ListedOperator, operator_line}
use Rattle.b67_listing.specs.Formats.{phrase_text, format_line, format_lines}
use Rattle.b67_listing.specs.Listings.{IsPhrase, IsSegment, SegmentsText, segment_line}
use Rattle.b67_listing_reader.specs.declared.refusal.ReadListing.{ReadListing}
use Rattle.b67_listing_reader.specs.declared.refusal.ReadListing.TheVariants.{BadListing, NoMemory}
use Rattle.b67_listing_reader.specs.declared.operators.Told.{Told}

-- an operator that can stand at this place: it fits its level, which is from the outer block's to the deepest
pub record OperatorCanStand (at : ℕ) (placed : ListedOperator) : Type 0 where
  pub place_is : placed.place ≡ at
  pub least : OUTER_LEVEL ≤ placed.level
  pub most : placed.level ≤ MOST_LEVEL
  pub fits : Fits placed.level placed.operator

-- how many syllables an operator is
abbrev pub width : ListedOperator → ℕ
width placed = length (spelling placed.place placed.level placed.operator)

-- operators stand one after another, each at its place, from one place on to another
abbrev pub AreInOrder : ℕ → List ListedOperator → ℕ → Type 0
AreInOrder at [] end = at ≡ end
AreInOrder at (first ∷ more) end = OperatorCanStand at first × AreInOrder (at + width first) more end

-- the lines of operators
abbrev pub operator_lines : List ListedOperator → List (List ℕ)
operator_lines ps = map operator_line ps

-- how many words a segment can have
pub record IsWordCount (words : ℕ) : Type 0 where
  pub some : 1 ≤ words
  pub few : words ≤ MOST_SEGMENT_WORDS

-- the number of two decimal digits
abbrev pub two_digits : ℕ → ℕ → ℕ
two_digits tens units = 10 * (tens - 48) + (units - 48)

-- the level in an operator's line, from the outer block's to the deepest, and what stands after it and a blank
abbrev pub level_part : List ℕ → Option (ℕ × List ℕ)
level_part (a ∷ b ∷ c ∷ d ∷ e ∷ f ∷ tens ∷ units ∷ g ∷ rest) =
    if nat_le OUTER_LEVEL (two_digits tens units) && nat_le (two_digits tens units) MOST_LEVEL then Some (two_digits tens units, rest) else None
level_part line = None

-- the value of a hexadecimal digit
abbrev pub hex_value : ℕ → Option ℕ
hex_value byte =
    if nat_lt byte 48 then None
    else (if nat_lt byte 58 then Some (byte - 48) else (if nat_lt byte 65 then None else (if nat_lt byte 71 then Some (byte - 55) else None)))

-- the syllable of two digits before others, or none where one is no digit
abbrev pub with_syllable : Option ℕ → Option ℕ → List ℕ → List ℕ
with_syllable None low rest = []
with_syllable (Some high) None rest = []
with_syllable (Some high) (Some low) rest = (16 * high + low) ∷ rest

-- the syllables whose hexadecimal digits stand at the front, so many at most
abbrev pub syllables_in : ℕ → List ℕ → List ℕ
syllables_in zero text = []
syllables_in (suc most) [] = []
syllables_in (suc most) (high ∷ []) = []
syllables_in (suc most) (high ∷ low ∷ rest) = with_syllable (hex_value high) (hex_value low) (syllables_in most rest)

-- the phrases of a format can stand in a listing
abbrev pub IsFormat : Format → Type 0
IsFormat format = All IsPhrase format.phrases

-- a byte of a text between quotes
abbrev pub IsTextByte : ℕ → Type 0
IsTextByte byte = (32 ≤ byte) × (byte ≤ 126) × (byte ≢ 34)

-- the bytes that end a phrase: a comma, or the bracket after the last one
abbrev pub EndsPhrase : ℕ → Type 0
EndsPhrase byte = (byte ≡ 44) ⊎ (byte ≡ 62)

-- a byte that ends a phrase stands first
pub record IsEnded (rest : List ℕ) : Type 0 where
  pub byte : ℕ
  pub more : List ℕ
  pub ends : EndsPhrase byte
  pub rest_is : rest ≡ byte ∷ more

-- the operators as a builder has them, without their places
abbrev pub unplaced : List ListedOperator → List building.Placed
unplaced ps = map (λ (p : ListedOperator). record { level = p.level; operator = p.operator }) ps

-- the line is that of no operator at this place
abbrev pub TellsNone : List ℕ → ℕ → Type 0
TellsNone line at = (placed : ListedOperator) → OperatorCanStand at placed → line ≡ operator_line placed → ⊥

-- if the line is that of an operator at the place of this one, it is that of this one
pub record TellsOne (line : List ℕ) (placed : ListedOperator) : Type 0 where
  pub stands : OperatorCanStand placed.place placed
  pub only : (other : ListedOperator) → OperatorCanStand placed.place other → line ≡ operator_line other → other ≡ placed

-- what was told at a place
abbrev pub told_at : ℕ → Told → ListedOperator
told_at at told = record { place = at; level = told.level; operator = told.operator }

abbrev pub LinesTell : List ℕ → ℕ → Told → Type 0
LinesTell line at told = (told.width ≡ width (told_at at told)) × TellsOne line (told_at at told)

-- the first of the lines tell these operators
abbrev pub TellEach : List (List ℕ) → List ListedOperator → Type 0
TellEach lines [] = Unit {0}
TellEach [] (p ∷ ps) = ⊥
TellEach (line ∷ lines) (p ∷ ps) = TellsOne line p × TellEach lines ps

-- the line is that of no operator that stands at this place and ends before the other
abbrev pub IsNoOperator : List ℕ → ℕ → ℕ → Type 0
IsNoOperator line at most = (placed : ListedOperator) → OperatorCanStand at placed → at + width placed ≤ most → line ≡ operator_line placed → ⊥

-- the lines from one place to another tell these operators, of no more than so many syllables
pub record TellSoFar (lines : List (List ℕ)) (at most : ℕ) (operators : List building.Placed) (next : ℕ) : Type 0 where
  pub placed : List ListedOperator
  pub operators_are : operators ≡ unplaced placed
  pub end : ℕ
  pub order : AreInOrder 0 placed end
  pub within : end ≤ most
  pub told : TellEach (drop at lines) placed
  pub next_is : next ≡ at + length placed
  pub inside : next ≤ length lines

-- and the line after them is that of no operator that could go on
pub record TellsOperators (lines : List (List ℕ)) (at most : ℕ) (operators : List building.Placed) (next : ℕ) : Type 0 where
  pub front : TellSoFar lines at most operators next
  pub stops : (line : List ℕ) (rest : List (List ℕ)) → drop next lines ≡ line ∷ rest → IsNoOperator line front.end most

-- some operators that stand one after another from the start of a segment, and are no more than fit into one
pub record AreOperators (operators : List building.Placed) : Type 0 where
  pub placed : List ListedOperator
  pub operators_are : operators ≡ unplaced placed
  pub end : ℕ
  pub order : AreInOrder 0 placed end
  pub some : 1 ≤ length placed
  pub few : end ≤ 6 * MOST_SEGMENT_WORDS

-- so many lines from the first on are the same in both, and the next two are not
pub record IsFirstOther (lines others : List (List ℕ)) (same : ℕ) : Type 0 where
  pub alike : take same lines ≡ take same others
  pub within : same ≤ length lines
  pub inside : same ≤ length others
  pub differ : (line other : List ℕ) (rest more : List (List ℕ)) → drop same lines ≡ line ∷ rest → drop same others ≡ other ∷ more →
      line ≡ other → ⊥

-- the segment of operators and of what fills its last word, and how many of the lines are those of its operators
pub record IsRelisted (operators : List building.Placed) (lines : List (List ℕ)) (segment : Segment) (same : ℕ) : Type 0 where
  pub all : List ListedOperator
  pub segment_is : IsSegment segment all
  pub all_are : unplaced all ≡ building.filled operators
  pub same_are : IsFirstOther lines (operator_lines all) same

-- a segment of so many words, whose operators' lines stand at a place among lines
pub record ReadsBody (words : ℕ) (lines : List (List ℕ)) (at : ℕ) (segment : Segment) (next : ℕ) : Type 0 where
  pub operators : List ListedOperator
  pub segment_is : IsSegment segment operators
  pub words_are : length segment.words ≡ words
  pub stands : PartStands (operator_lines operators) lines at next

-- operators' lines stand at a place among lines, they leave a part of so many words, and the line after them is that of no operator that could go on
pub record StopsInBody (words : ℕ) (lines : List (List ℕ)) (at next : ℕ) : Type 0 where
  pub operators : List ListedOperator
  pub end : ℕ
  pub order : AreInOrder 0 operators end
  pub left : end < 6 * words
  pub stands : PartStands (operator_lines operators) lines at next
  pub stops : (line : List ℕ) (rest : List (List ℕ)) → drop next lines ≡ line ∷ rest → IsNoOperator line end (6 * words)

abbrev pub RefusesBody : ReadListing → ℕ → List (List ℕ) → ℕ → Type 0
RefusesBody (BadListing line) words lines at = (1 ≤ line) × StopsInBody words lines at (line - 1)
RefusesBody NoMemory words lines at = Unit {0}

-- a phrase and what ends it stand at a place
pub record ReadsPhrase (text : List ℕ) (at : ℕ) (phrase : Phrase) (next : ℕ) : Type 0 where
  pub is_phrase : IsPhrase phrase
  pub stands : PartStands (phrase_text phrase) text at next
  pub ended : IsEnded (drop next text)

-- a number of 32 bits and what ends it stand at a place
pub record ReadsWidth (text : List ℕ) (at width next : ℕ) : Type 0 where
  pub fits : width < 2 ^ 32
  pub stands : PartStands (decimal width) text at next
  pub ended : IsEnded (drop next text)

-- a number of 32 bits stands at a place, and this byte after it
pub record HasWidthBefore (text : List ℕ) (at end width next : ℕ) : Type 0 where
  pub fits : width < 2 ^ 32
  pub stands : PartStands (decimal width) text at next
  pub ended : HasByte end text next

-- no number of 32 bits stands at a place before this byte
abbrev pub HasNoWidth : List ℕ → ℕ → ℕ → Type 0
HasNoWidth text at end = (width : ℕ) (rest : List ℕ) → width < 2 ^ 32 → drop at text ≡ decimal width ++ end ∷ rest → ⊥

-- bytes of texts and a quote after them stand at a place, the quote at the other
pub record ReadsQuoted (text : List ℕ) (at : ℕ) (quoted : List ℕ) (end : ℕ) : Type 0 where
  pub bytes : All IsTextByte quoted
  pub stands : PartStands quoted text at end
  pub quote : HasByte 34 text end

-- and after the quote stands what ends a phrase
abbrev pub ReadsText : List ℕ → ℕ → List ℕ → ℕ → Type 0
ReadsText text at quoted end = ReadsQuoted text at quoted end × IsEnded (drop (end + 1) text)

-- the line is no head line of the segment of this number
abbrev pub IsNoHead : List ℕ → ℕ → Type 0
IsNoHead line number = (words : ℕ) → IsWordCount words → line ≡ segment_line number words → ⊥

-- the line is that of no format with this number
abbrev pub IsNoFormat : List ℕ → ℕ → Type 0
IsNoFormat line number = (format : Format) → IsFormat format → line ≡ format_line (number, format) → ⊥

-- the lines of segments stand first, and at the place after them no head line of a further one
pub record ReadsSegments (lines : List (List ℕ)) (segments : List Segment) (at : ℕ) : Type 0 where
  pub within : at ≤ length lines
  pub listed : SegmentsText 0 segments (take at lines)
  pub ended : (line : List ℕ) (rest : List (List ℕ)) → drop at lines ≡ line ∷ rest → IsNoHead line (length segments)

-- the lines of formats are all that stand from a place on
pub record ReadsFormats (lines : List (List ℕ)) (at : ℕ) (formats : List Format) : Type 0 where
  pub are : All IsFormat formats
  pub listed : drop at lines ≡ format_lines formats

-- the lines of formats stand at a place, and after them one that is no line of a further one
pub record StopsInFormats (lines : List (List ℕ)) (at next : ℕ) : Type 0 where
  pub formats : List Format
  pub are : All IsFormat formats
  pub stands : PartStands (format_lines formats) lines at next
  pub line : List ℕ
  pub rest : List (List ℕ)
  pub line_is : drop next lines ≡ line ∷ rest
  pub stops : IsNoFormat line (length formats)

abbrev pub RefusesFormats : ReadListing → List (List ℕ) → ℕ → Type 0
RefusesFormats (BadListing line) lines at = (1 ≤ line) × StopsInFormats lines at (line - 1)
RefusesFormats NoMemory lines at = Unit {0}
