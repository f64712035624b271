-- The phrases of a format: between brackets, with commas between them, and blanks wherever no phrase is cut.
use Rattle.std.specs.Prelude.{ℕ, ◌+◌, ◌-◌, ◌*◌, ◌==◌, ◌&&◌, ◌||◌, nat_le, not, min, if◌then◌else◌, Bool, true, false, List, [], ◌∷◌, ◌++◌, length, take, drop, codes, Option, Some, None}
use Rattle.std.specs.Str.{bytes_eq}
use Rattle.std.specs.declared.vec.Vec.{Vec}
use Rattle.std.specs.declared.alloc.Global.{Global}
use Rattle.algol_tree.specs.declared.TheConstants.{MOST_LINE_WIDTH}
use Rattle.algol_tree.specs.Spelling.{is_blank, is_digit}
use Rattle.b67_segment.specs.declared.code.Phrase.{Phrase}
use Rattle.b67_segment.specs.declared.code.Phrase.TheVariants.{Text, Number, Blanks}
use Rattle.b67_asm_text.specs.declared.number.TheConstants.{TOO_GREAT}
use Rattle.b67_asm_text.specs.declared.phrase.TheConstants.{FORMAT_BYTES}
use Rattle.b67_asm_text.specs.declared.phrase.Reader.{Reader}
use Rattle.b67_asm_text.specs.declared.phrase.Stand.{Stand}
use Rattle.b67_asm_text.specs.declared.phrase.Stand.TheVariants.{Before, Due, Quoted, Sized, After, Closed, Wrong}

-- a byte from 32 to 126
abbrev pub is_printable : ℕ → Bool
is_printable byte = nat_le 32 byte && nat_le byte 126

-- the phrases that were read, the text that is being read, and what the next byte stands in
pub record Read : Type 0 where
  pub stand : Stand
  pub text : List ℕ
  pub phrases : List Phrase

abbrev pub phrases_seen : Reader → Read
phrases_seen reader = record { stand = reader.stand; text = reader.text.items; phrases = reader.phrases.items }

-- before the first bracket
abbrev pub before : ℕ → Stand
before byte = if is_blank byte then Before else (if byte == 60 then Due else Wrong)

-- where a phrase has to begin: with a quote, an I or an X
abbrev pub due : ℕ → Stand
due byte =
    if is_blank byte then Due
    else (if byte == 34 then Quoted
    else (if byte == 73 then Sized false None
    else (if byte == 88 then Sized true None else Wrong)))

-- after a phrase: a comma before another one, or the last bracket
abbrev pub after_phrase : ℕ → Stand
after_phrase byte = if is_blank byte then After else (if byte == 44 then Due else (if byte == 62 then Closed else Wrong))

-- after the last bracket
abbrev pub closed : ℕ → Stand
closed byte = if is_blank byte then Closed else Wrong

-- in a text: its next byte, or the quote after it
abbrev pub quoted : Read → ℕ → Read
quoted r byte =
    if byte == 34 then record { stand = After; text = r.text; phrases = r.phrases ++ Text r.text ∷ [] }
    else (if is_printable byte then record { stand = r.stand; text = r.text ++ byte ∷ []; phrases = r.phrases }
    else record { stand = Wrong; text = r.text; phrases = r.phrases })

-- a width after one more digit, where it has no leading zero; one that is greater counts as that which no operand is as great as
abbrev pub widened : Bool → ℕ → ℕ → Stand
widened blanks width digit =
    if width == 0 then Wrong else Sized blanks (Some (min TOO_GREAT (10 * width + digit)))

abbrev pub longer : Bool → Option ℕ → ℕ → Stand
longer blanks None digit = Sized blanks (Some (digit - 48))
longer blanks (Some width) digit = widened blanks width (digit - 48)

abbrev pub sized_phrase : Bool → ℕ → Phrase
sized_phrase blanks width = if blanks then Blanks width else Number width

-- a width has ended before a byte
abbrev pub ended : Read → Bool → Option ℕ → ℕ → Read
ended r blanks None byte = record { stand = Wrong; text = r.text; phrases = r.phrases }
ended r blanks (Some width) byte = record { stand = after_phrase byte; text = r.text; phrases = r.phrases ++ sized_phrase blanks width ∷ [] }

abbrev pub sized : Read → Bool → Option ℕ → ℕ → Read
sized r blanks width byte =
    if is_digit byte then record { stand = longer blanks width byte; text = r.text; phrases = r.phrases } else ended r blanks width byte

abbrev stood : Read → Stand → Read
stood r stand = record { stand = stand; text = r.text; phrases = r.phrases }

-- after one more byte
abbrev pub next_at : Stand → Read → ℕ → Read
next_at Before r byte = stood r (before byte)
next_at Due r byte = record { stand = due byte; text = []; phrases = r.phrases }
next_at Quoted r byte = quoted r byte
next_at (Sized blanks width) r byte = sized r blanks width byte
next_at After r byte = stood r (after_phrase byte)
next_at Closed r byte = stood r (closed byte)
next_at Wrong r byte = r

abbrev pub next : Read → ℕ → Read
next r byte = next_at r.stand r byte

-- after bytes
abbrev pub read_from : Read → List ℕ → Read
read_from r [] = r
read_from r (byte ∷ bytes) = read_from (next r byte) bytes

abbrev pub reader_start : Read
reader_start = record { stand = Before; text = []; phrases = [] }

-- the phrases, where they have ended
abbrev pub phrases_at : Stand → List Phrase → Option (List Phrase)
phrases_at Closed phrases = Some phrases
phrases_at Before phrases = None
phrases_at Due phrases = None
phrases_at Quoted phrases = None
phrases_at (Sized blanks width) phrases = None
phrases_at After phrases = None
phrases_at Wrong phrases = None

abbrev pub read_phrases : List ℕ → Option (List Phrase)
read_phrases bytes = phrases_at (read_from reader_start bytes).stand (read_from reader_start bytes).phrases

-- the phrases of a format, after the word FORMAT
unfoldable pub phrases_in : List ℕ → Option (List Phrase)
phrases_in text = if bytes_eq (take FORMAT_BYTES text) (codes "FORMAT") then read_phrases (drop FORMAT_BYTES text) else None

abbrev pub phrases_shown : Option (Vec Phrase Global) → Option (List Phrase)
phrases_shown None = None
phrases_shown (Some phrases) = Some phrases.items

-- how many columns a phrase takes
abbrev pub columns : Phrase → ℕ
columns (Text text) = length text
columns (Number width) = width
columns (Blanks width) = width

-- a width of 0
abbrev pub has_no_width : Phrase → Bool
has_no_width (Text text) = false
has_no_width (Number width) = width == 0
has_no_width (Blanks width) = width == 0

-- phrases have widths above 0, and fit so many columns
abbrev pub fit_in : ℕ → List Phrase → Bool
fit_in left [] = true
fit_in left (phrase ∷ phrases) =
    if has_no_width phrase || not (nat_le (columns phrase) left) then false else fit_in (left - columns phrase) phrases

-- phrases have widths above 0, and fit a line
abbrev pub are_in_range : List Phrase → Bool
are_in_range phrases = fit_in MOST_LINE_WIDTH phrases
