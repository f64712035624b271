-- No line of a listing has an LF, and none that a format of a code makes which can be listed.
use Rattle.std.proofs.Common.{◌≡◌, refl, sym, subst, ℕ, zero, suc, ◌+◌, ◌-◌, ◌/◌, ◌%◌, ◌<◌, ◌≤◌, ◌==◌, ◌&&◌, Bool, true, false, nat_le, nat_lt, cond, ℤ, pos, negsuc, List, [], ◌∷◌, ◌++◌, All, length, map, codes, Option, Some, None, arith}
use Rattle.std.specs.Prelude.{◌≢◌, replicate, slice_get}
use Rattle.std.specs.List.{flat_map, list_all, enumerate_from}
use Rattle.std.specs.Fmt.{decimal, digits, digits_onto, digit_glyph}
use Rattle.std.proofs.lemmas.Bool.{leb-true, and_parts}
use Rattle.std.proofs.lemmas.List.Elements.{All-nil, All-cons, All-head, All-tail, All-append, All-replicate, All-weaker}
use Rattle.b67_list.specs.Lines.{digits_of, justified}
use Rattle.b67_ops.specs.declared.Couple.{Couple}
use Rattle.b67_ops.specs.declared.Operator.{Operator}
use Rattle.b67_ops.specs.declared.Operator.TheVariants.{Valc, Namc, Lt8, Lt16, Lt48, Mpcw, Branch, Plain}
use Rattle.b67_ops.specs.declared.table.OperatorKind.{OperatorKind}
use Rattle.b67_ops.specs.declared.table.OperatorKind.TheVariants as kinds
use Rattle.b67_ops.specs.declared.BranchKind.TheVariants as branches
use Rattle.b67_ops.specs.declared.PlainKind.TheVariants as plains
use Rattle.b67_ops.specs.Codes.{name_of}
use Rattle.b67_ops.specs.Spelling.{kind_of, spelling}
use Rattle.b67_segment.specs.declared.code.Code.{Code}
use Rattle.b67_segment.specs.declared.code.Segment.{Segment}
use Rattle.b67_segment.specs.declared.code.Format.{Format}
use Rattle.b67_segment.specs.declared.code.Phrase.{Phrase}
use Rattle.b67_segment.specs.declared.code.Phrase.TheVariants.{Text, Number, Blanks}
use Rattle.b67_listing.specs.Digits.{last_digits, hexadecimal}
use Rattle.b67_listing.specs.Operators.{ListedOperator, couple_text, operand_text, operator_text, operator_line}
use Rattle.b67_listing.specs.Formats.{phrase_text, phrases_text, format_lines}
use Rattle.b67_listing.specs.Formats as printed
use Rattle.b67_listing.specs.Listings.{IsPhrase, IsListable, segment_line, segment_lines, SegmentsText, none, more, ListingText}
use Rattle.b67_table.specs.Lines.{before, format_line, line_by, line_for}

-- a byte other than LF
abbrev Fine : ℕ → Type 0
Fine byte = (byte < 256) × (byte ≢ 10)

abbrev pub AreFine : List ℕ → Type 0
AreFine line = All (λ (byte : ℕ). (byte < 256) × (byte ≢ 10)) line

between : (b : ℕ) → 32 ≤ b → b ≤ 126 → Fine b
between b low high = (omega (arith, high), λ e. omega (arith, low, e))

joined : (xs ys : List ℕ) → AreFine xs → AreFine ys → AreFine (xs ++ ys)
joined xs ys a b = All-append Fine xs ys a b

-- ---- texts and digits

pub text_fine : (xs : List ℕ) → list_all (λ b. nat_le 32 b && nat_le b 126) xs ≡ true → AreFine xs
text_fine [] e = All-nil Fine
text_fine (x ∷ xs) e =
    let parts = and_parts (nat_le 32 x && nat_le x 126) (list_all (λ b. nat_le 32 b && nat_le b 126) xs) e in
    let inner = and_parts (nat_le 32 x) (nat_le x 126) parts.0 in
    All-cons Fine x xs (between x (leb-true 32 x inner.0) (leb-true x 126 inner.1)) (text_fine xs parts.1)

blank_fine : AreFine (codes " ")
blank_fine = text_fine (codes " ") refl

glyph_fine : (u : Bool) (d : ℕ) → d < 16 → Fine (digit_glyph u d)
glyph_fine u d small = by (nat_lt d 10) u
  where
    by : (b v : Bool) → Fine (cond b (48 + d) (cond v (55 + d) (87 + d)))
    by true v = between (48 + d) (omega arith) (omega (arith, small))
    by false true = between (55 + d) (omega arith) (omega (arith, small))
    by false false = between (87 + d) (omega arith) (omega (arith, small))

either_fine : (b : Bool) (xs ys : List ℕ) → AreFine xs → AreFine ys → AreFine (cond b xs ys)
either_fine true xs ys a c = a
either_fine false xs ys a c = c

digits_fine : (k n : ℕ) (acc : List ℕ) → AreFine acc → AreFine (digits_onto k 10 false n acc)
digits_fine zero n acc are = are
digits_fine (suc k) n acc are =
    let more = All-cons Fine (digit_glyph false (n % 10)) acc (glyph_fine false (n % 10) (omega arith)) are in
    either_fine (n / 10 == 0) (digit_glyph false (n % 10) ∷ acc) (digits_onto k 10 false (n / 10) (digit_glyph false (n % 10) ∷ acc)) more
    (digits_fine k (n / 10) (digit_glyph false (n % 10) ∷ acc) more)

decimal_fine : (n : ℕ) → AreFine (decimal n)
unfolding digits
decimal_fine n = digits_fine 64 n [] (All-nil Fine)

last_fine : (base : ℕ) → ((m : ℕ) → m % base < 16) → (count number : ℕ) → AreFine (last_digits base count number)
last_fine base small zero number = All-nil Fine
last_fine base small (suc count) number =
    joined (last_digits base count (number / base)) (digit_glyph true (number % base) ∷ []) (last_fine base small count (number / base))
    (All-cons Fine (digit_glyph true (number % base)) [] (glyph_fine true (number % base) (small number)) (All-nil Fine))

ten : (m : ℕ) → m % 10 < 16
ten m = omega arith

sixteen : (m : ℕ) → m % 16 < 16
sixteen m = omega arith

hexadecimal_fine : (bytes : List ℕ) → AreFine (hexadecimal bytes)
hexadecimal_fine [] = All-nil Fine
hexadecimal_fine (b ∷ bytes) = joined (last_digits 16 2 b) (hexadecimal bytes) (last_fine 16 sixteen 2 b) (hexadecimal_fine bytes)

-- ---- operators

name_fine : (kind : OperatorKind) → AreFine (name_of kind)
unfolding name_of
name_fine kinds.Valc = text_fine (name_of kinds.Valc) refl
name_fine kinds.Namc = text_fine (name_of kinds.Namc) refl
name_fine kinds.Lt8 = text_fine (name_of kinds.Lt8) refl
name_fine kinds.Lt16 = text_fine (name_of kinds.Lt16) refl
name_fine kinds.Lt48 = text_fine (name_of kinds.Lt48) refl
name_fine kinds.Mpcw = text_fine (name_of kinds.Mpcw) refl
name_fine (kinds.Branch branches.Brfl) = text_fine (name_of (kinds.Branch branches.Brfl)) refl
name_fine (kinds.Branch branches.Brtr) = text_fine (name_of (kinds.Branch branches.Brtr)) refl
name_fine (kinds.Branch branches.Brun) = text_fine (name_of (kinds.Branch branches.Brun)) refl
name_fine (kinds.Plain plains.Add) = text_fine (name_of (kinds.Plain plains.Add)) refl
name_fine (kinds.Plain plains.Subt) = text_fine (name_of (kinds.Plain plains.Subt)) refl
name_fine (kinds.Plain plains.Mult) = text_fine (name_of (kinds.Plain plains.Mult)) refl
name_fine (kinds.Plain plains.Divd) = text_fine (name_of (kinds.Plain plains.Divd)) refl
name_fine (kinds.Plain plains.Idiv) = text_fine (name_of (kinds.Plain plains.Idiv)) refl
name_fine (kinds.Plain plains.Rdiv) = text_fine (name_of (kinds.Plain plains.Rdiv)) refl
name_fine (kinds.Plain plains.Less) = text_fine (name_of (kinds.Plain plains.Less)) refl
name_fine (kinds.Plain plains.Greq) = text_fine (name_of (kinds.Plain plains.Greq)) refl
name_fine (kinds.Plain plains.Grtr) = text_fine (name_of (kinds.Plain plains.Grtr)) refl
name_fine (kinds.Plain plains.Lseq) = text_fine (name_of (kinds.Plain plains.Lseq)) refl
name_fine (kinds.Plain plains.Equl) = text_fine (name_of (kinds.Plain plains.Equl)) refl
name_fine (kinds.Plain plains.Neql) = text_fine (name_of (kinds.Plain plains.Neql)) refl
name_fine (kinds.Plain plains.Chsn) = text_fine (name_of (kinds.Plain plains.Chsn)) refl
name_fine (kinds.Plain plains.Land) = text_fine (name_of (kinds.Plain plains.Land)) refl
name_fine (kinds.Plain plains.Lor) = text_fine (name_of (kinds.Plain plains.Lor)) refl
name_fine (kinds.Plain plains.Lnot) = text_fine (name_of (kinds.Plain plains.Lnot)) refl
name_fine (kinds.Plain plains.Leqv) = text_fine (name_of (kinds.Plain plains.Leqv)) refl
name_fine (kinds.Plain plains.Exit) = text_fine (name_of (kinds.Plain plains.Exit)) refl
name_fine (kinds.Plain plains.Nxln) = text_fine (name_of (kinds.Plain plains.Nxln)) refl
name_fine (kinds.Plain plains.Indx) = text_fine (name_of (kinds.Plain plains.Indx)) refl
name_fine (kinds.Plain plains.Retn) = text_fine (name_of (kinds.Plain plains.Retn)) refl
name_fine (kinds.Plain plains.Entr) = text_fine (name_of (kinds.Plain plains.Entr)) refl
name_fine (kinds.Plain plains.Eval) = text_fine (name_of (kinds.Plain plains.Eval)) refl
name_fine (kinds.Plain plains.Nxlv) = text_fine (name_of (kinds.Plain plains.Nxlv)) refl
name_fine (kinds.Plain plains.Mkst) = text_fine (name_of (kinds.Plain plains.Mkst)) refl
name_fine (kinds.Plain plains.Stff) = text_fine (name_of (kinds.Plain plains.Stff)) refl
name_fine (kinds.Plain plains.Zero) = text_fine (name_of (kinds.Plain plains.Zero)) refl
name_fine (kinds.Plain plains.One) = text_fine (name_of (kinds.Plain plains.One)) refl
name_fine (kinds.Plain plains.Push) = text_fine (name_of (kinds.Plain plains.Push)) refl
name_fine (kinds.Plain plains.Dlet) = text_fine (name_of (kinds.Plain plains.Dlet)) refl
name_fine (kinds.Plain plains.Exch) = text_fine (name_of (kinds.Plain plains.Exch)) refl
name_fine (kinds.Plain plains.Dupl) = text_fine (name_of (kinds.Plain plains.Dupl)) refl
name_fine (kinds.Plain plains.Stod) = text_fine (name_of (kinds.Plain plains.Stod)) refl
name_fine (kinds.Plain plains.Ston) = text_fine (name_of (kinds.Plain plains.Ston)) refl
name_fine (kinds.Plain plains.Lodt) = text_fine (name_of (kinds.Plain plains.Lodt)) refl
name_fine (kinds.Plain plains.Load) = text_fine (name_of (kinds.Plain plains.Load)) refl
name_fine (kinds.Plain plains.Noop) = text_fine (name_of (kinds.Plain plains.Noop)) refl

number_fine : (n : ℕ) → AreFine (codes " " ++ decimal n)
number_fine n = joined (codes " ") (decimal n) blank_fine (decimal_fine n)

word_fine : (n : ℕ) → AreFine (codes " " ++ last_digits 16 12 n)
word_fine n = joined (codes " ") (last_digits 16 12 n) blank_fine (last_fine 16 sixteen 12 n)

couple_fine : (c : Couple) → AreFine (couple_text c)
couple_fine c =
    joined (codes " " ++ decimal c.level ++ codes ",") (decimal c.index)
    (joined (codes " " ++ decimal c.level) (codes ",") (number_fine c.level) (text_fine (codes ",") refl)) (decimal_fine c.index)

operand_fine : (op : Operator) → AreFine (operand_text op)
operand_fine (Valc couple) = couple_fine couple
operand_fine (Namc couple) = couple_fine couple
operand_fine (Lt8 n) = number_fine n
operand_fine (Lt16 n) = number_fine n
operand_fine (Lt48 w) = word_fine w
operand_fine (Mpcw w) = word_fine w
operand_fine (Branch kind place) = number_fine place
operand_fine (Plain kind) = All-nil Fine

line_fine : (x : ListedOperator) → AreFine (operator_line x)
line_fine x =
    let place = last_digits 10 5 x.place in
    let level = last_digits 10 2 x.level in
    let hex = hexadecimal (spelling x.place x.level x.operator) in
    joined (place ++ codes " " ++ level ++ codes " " ++ hex ++ codes " ") (operator_text x.operator)
    (joined (place ++ codes " " ++ level ++ codes " " ++ hex) (codes " ")
    (joined (place ++ codes " " ++ level ++ codes " ") hex
    (joined (place ++ codes " " ++ level) (codes " ")
    (joined (place ++ codes " ") level (joined place (codes " ") (last_fine 10 ten 5 x.place) blank_fine) (last_fine 10 ten 2 x.level)) blank_fine)
    (hexadecimal_fine (spelling x.place x.level x.operator))) blank_fine)
    (joined (name_of (kind_of x.operator)) (operand_text x.operator) (name_fine (kind_of x.operator)) (operand_fine x.operator))

lines_fine : (xs : List ListedOperator) → All AreFine (map operator_line xs)
lines_fine [] = All-nil AreFine
lines_fine (x ∷ xs) = All-cons AreFine (operator_line x) (map operator_line xs) (line_fine x) (lines_fine xs)

head_fine : (number words : ℕ) → AreFine (segment_line number words)
head_fine number words =
    joined (codes "SEGMENT " ++ decimal number) (codes " " ++ decimal words)
    (joined (codes "SEGMENT ") (decimal number) (text_fine (codes "SEGMENT ") refl) (decimal_fine number)) (number_fine words)

segments_fine : {number : ℕ} {segments : List Segment} {lines : List (List ℕ)} → SegmentsText number segments lines → All AreFine lines
segments_fine (none number) = All-nil AreFine
segments_fine (more number segment operators segments lines is rest) =
    All-append AreFine (segment_lines number segment operators) lines
    (All-cons AreFine (segment_line number (length segment.words)) (map operator_line operators) (head_fine number (length segment.words)) (lines_fine operators))
    (segments_fine rest)

-- ---- formats

phrase_fine : (phrase : Phrase) → IsPhrase phrase → AreFine (phrase_text phrase)
phrase_fine (Text text) is =
    joined (codes "\"" ++ text) (codes "\"")
    (joined (codes "\"") text (text_fine (codes "\"") refl)
    (All-weaker (λ (b : ℕ). (32 ≤ b) × (b ≤ 126) × (b ≢ 34)) Fine (λ b p. between b p.0 p.1) text is)) (text_fine (codes "\"") refl)
phrase_fine (Number width) is = joined (codes "I") (decimal width) (text_fine (codes "I") refl) (decimal_fine width)
phrase_fine (Blanks width) is = joined (codes "X") (decimal width) (text_fine (codes "X") refl) (decimal_fine width)

others_fine : (phrases : List Phrase) → All IsPhrase phrases → AreFine (flat_map (λ phrase. codes "," ++ phrase_text phrase) phrases)
others_fine [] are = All-nil Fine
others_fine (p ∷ ps) are =
    joined (codes "," ++ phrase_text p) (flat_map (λ phrase. codes "," ++ phrase_text phrase) ps)
    (joined (codes ",") (phrase_text p) (text_fine (codes ",") refl) (phrase_fine p (All-head IsPhrase p ps are))) (others_fine ps (All-tail IsPhrase p ps are))

phrases_fine : (phrases : List Phrase) → All IsPhrase phrases → AreFine (phrases_text phrases)
phrases_fine [] are = All-nil Fine
phrases_fine (p ∷ ps) are =
    joined (phrase_text p) (flat_map (λ phrase. codes "," ++ phrase_text phrase) ps) (phrase_fine p (All-head IsPhrase p ps are)) (others_fine ps (All-tail IsPhrase p ps are))

abbrev AreFormats : List Format → Type 0
AreFormats formats = All (λ (format : Format). All IsPhrase format.phrases) formats

format_fine : (n : ℕ) (format : Format) → All IsPhrase format.phrases → AreFine (printed.format_line (n, format))
format_fine n format are =
    let phrases = phrases_text format.phrases in
    joined (codes "FORMAT " ++ decimal n ++ codes " <" ++ phrases) (codes ">")
    (joined (codes "FORMAT " ++ decimal n ++ codes " <") phrases
    (joined (codes "FORMAT " ++ decimal n) (codes " <") (joined (codes "FORMAT ") (decimal n) (text_fine (codes "FORMAT ") refl) (decimal_fine n))
    (text_fine (codes " <") refl)) (phrases_fine format.phrases are)) (text_fine (codes ">") refl)

formats_fine : (n : ℕ) (formats : List Format) → AreFormats formats → All AreFine (map printed.format_line (enumerate_from n formats))
formats_fine n [] are = All-nil AreFine
formats_fine n (f ∷ fs) are =
    All-cons AreFine (printed.format_line (n, f)) (map printed.format_line (enumerate_from (n + 1) fs))
    (format_fine n f (All-head (λ (format : Format). All IsPhrase format.phrases) f fs are))
    (formats_fine (n + 1) fs (All-tail (λ (format : Format). All IsPhrase format.phrases) f fs are))

pub listing_fine : (code : Code) (lines : List (List ℕ)) → IsListable code → ListingText code lines → All AreFine lines
listing_fine code lines listable text =
    subst (All AreFine) (sym text.are)
    (All-append AreFine text.segments (format_lines code.formats) (segments_fine text.listed) (formats_fine 0 code.formats listable.formats))

-- ---- lines of output

digits_of_fine : (z : ℤ) → AreFine (digits_of z)
digits_of_fine (pos n) = decimal_fine n
digits_of_fine (negsuc n) = All-cons Fine 45 (decimal (n + 1)) (between 45 (omega arith) (omega arith)) (decimal_fine (n + 1))

justified_fine : (width : ℕ) (z : ℤ) → AreFine (justified width z)
justified_fine width z = by (nat_le (length (digits_of z)) width)
  where
    by : (b : Bool) → AreFine (cond b (replicate (width - length (digits_of z)) 32 ++ digits_of z) (replicate width 42))
    by true =
        joined (replicate (width - length (digits_of z)) 32) (digits_of z) (All-replicate Fine (width - length (digits_of z)) 32 (between 32 (omega arith) (omega arith)))
        (digits_of_fine z)
    by false = All-replicate Fine width 42 (between 42 (omega arith) (omega arith))

before_fine : (front : List ℕ) (o : Option (List ℕ)) (bytes : List ℕ) → AreFine front → ((rest : List ℕ) → o ≡ Some rest → AreFine rest) → before front o ≡ Some bytes →
    AreFine bytes
before_fine front None bytes a b e = cc
before_fine front (Some rest) bytes a b e = let same : front ++ rest ≡ bytes = cc in subst AreFine same (joined front rest a (b rest refl))

made_fine : (ps : List Phrase) (zs : List ℤ) (bytes : List ℕ) → All IsPhrase ps → format_line ps zs ≡ Some bytes → AreFine bytes
made_fine [] [] bytes are e = let same : [] ≡ bytes = cc in subst AreFine same (All-nil Fine)
made_fine [] (z ∷ zs) bytes are e = cc
made_fine (Text text ∷ ps) zs bytes are e =
    before_fine text (format_line ps zs) bytes
    (All-weaker (λ (b : ℕ). (32 ≤ b) × (b ≤ 126) × (b ≢ 34)) Fine (λ b p. between b p.0 p.1) text (All-head IsPhrase (Text text) ps are))
    (λ rest f. made_fine ps zs rest (All-tail IsPhrase (Text text) ps are) f) e
made_fine (Blanks n ∷ ps) zs bytes are e =
    before_fine (replicate n 32) (format_line ps zs) bytes (All-replicate Fine n 32 (between 32 (omega arith) (omega arith)))
    (λ rest f. made_fine ps zs rest (All-tail IsPhrase (Blanks n) ps are) f) e
made_fine (Number width ∷ ps) [] bytes are e = cc
made_fine (Number width ∷ ps) (z ∷ zs) bytes are e =
    before_fine (justified width z) (format_line ps zs) bytes (justified_fine width z)
    (λ rest f. made_fine ps zs rest (All-tail IsPhrase (Number width) ps are) f) e

format_there : (fs : List Format) (n : ℕ) (f : Format) → AreFormats fs → slice_get fs n ≡ Some f → All IsPhrase f.phrases
format_there [] zero f are e = cc
format_there [] (suc n) f are e = cc
format_there (g ∷ fs) zero f are e =
    let same : g ≡ f = cc in subst (λ (x : Format). All IsPhrase x.phrases) same (All-head (λ (format : Format). All IsPhrase format.phrases) g fs are)
format_there (g ∷ fs) (suc n) f are e = format_there fs n f (All-tail (λ (format : Format). All IsPhrase format.phrases) g fs are) e

by_format : (o : Option Format) (zs : List ℤ) (bytes : List ℕ) → ((f : Format) → o ≡ Some f → All IsPhrase f.phrases) → line_by o zs ≡ Some bytes → AreFine bytes
by_format None zs bytes are e = cc
by_format (Some f) zs bytes are e = made_fine f.phrases zs bytes (are f refl) e

pub output_fine : (code : Code) → IsListable code → (zs : List ℤ) (bytes : List ℕ) → line_for code zs ≡ Some bytes → AreFine bytes
output_fine code listable [] bytes e = cc
output_fine code listable (pos n ∷ zs) bytes e = by_format (slice_get code.formats n) zs bytes (λ f there. format_there code.formats n f listable.formats there) e
output_fine code listable (negsuc n ∷ zs) bytes e = cc
