-- A line has as many items as its format has numbers, and its phrases fit: no word of the format is wider than a line.
use Rattle.std.proofs.Common.{arith, ◌≡◌, ℕ, ◌+◌, ◌==◌, ◌&&◌, ◌||◌, ◌≤◌, nat_lt, not, Bool, true, false, List, [], ◌∷◌, map, refl, sym, ap, ◌∙◌, subst, if◌then◌else◌}
use Rattle.std.proofs.lemmas.Bool.{or_parts, not-false, eqb-true, ltb-false}
use Rattle.std.proofs.lemmas.List.Sums.{sum_by-cons}
use Rattle.std.specs.List.{list_any}
use Rattle.algol_tree.specs.declared.TheConstants.{MOST_LINE_WIDTH}
use Rattle.algol_tree.specs.declared.tree.PhraseText.{PhraseText}
use Rattle.algol_tree.specs.declared.tree.PhraseText.TheVariants as phrase
use Rattle.algol_tree.specs.declared.token.Spot.{Spot}
use Rattle.algol_tree.specs.Counted as counted
use Rattle.algol_tree.specs.Names.{if_so}
use Rattle.algol_tree.specs.Phrases as plain
use Rattle.algol_tree.specs.Phrases.{phrase_of, is_no_phrase, columns, items_of, columns_of}
use Rattle.algol_tree.specs.Plain as tree
use Rattle.algol_tree.specs.Plain.{PExprs}
use Rattle.algol_tree.specs.Spelling.{is_number, value_of}
use Rattle.algol_tree.proofs.Spots.{not_so}
use Rattle.b67_segment.specs.declared.code.Phrase.{Phrase}
use Rattle.b67_segment.specs.declared.code.Phrase.TheVariants as parts
use Rattle.b67_templates.specs.Code.{AreParts, IsCodePart, text, word, word_part, numbers_in, exprs_count}
use Rattle.b67_templates.specs.Fitting.{PhraseFits, PhrasesFit}
use Rattle.b67_fitting.specs.Texts.{PhrasePlain, PhrasesPlain}

-- the numbers of one phrase
abbrev one_number : Phrase → ℕ
one_number (parts.Number width) = 1
one_number (parts.Text bytes) = 0
one_number (parts.Blanks n) = 0

abbrev one_item : plain.Phrase → ℕ
one_item (plain.item w) = 1
one_item (plain.text w) = 0
one_item (plain.blanks w) = 0
one_item plain.no_phrase = 0

-- the letter decides, where the width is a number
of_letter : (digits : List ℕ) (right number_like blank_like : Bool) →
    is_no_phrase (if right then (if number_like then plain.item (value_of digits) else (if blank_like then plain.blanks (value_of digits) else plain.no_phrase)) else plain.no_phrase) ≡ false →
    one_number (if number_like then parts.Number (value_of digits) else parts.Blanks (value_of digits)) ≡
    one_item (if right then (if number_like then plain.item (value_of digits) else (if blank_like then plain.blanks (value_of digits) else plain.no_phrase)) else plain.no_phrase)
of_letter digits true true b h = refl
of_letter digits true false true h = refl
of_letter digits true false false h = refl
of_letter digits false n b h = absurd (let clash : true ≡ false = h in cc)

of_word : (letters : List ℕ) → is_no_phrase (phrase_of (phrase.Word letters)) ≡ false → one_number (word_part letters) ≡ one_item (phrase_of (phrase.Word letters))
of_word [] h = refl
of_word (letter ∷ digits) h = of_letter digits (is_number digits && nat_lt 0 (value_of digits)) (letter == 73) (letter == 88) h

of_part : (t : PhraseText) (p : Phrase) → IsCodePart t p → is_no_phrase (phrase_of t) ≡ false → one_number p ≡ one_item (phrase_of t)
of_part t p (text bytes) h = refl
of_part t p (word letters) h = of_word letters h

one_more : (p : Phrase) (ps : List Phrase) → numbers_in (p ∷ ps) ≡ one_number p + numbers_in ps
one_more (parts.Number width) ps = omega arith
one_more (parts.Text bytes) ps = omega arith
one_more (parts.Blanks n) ps = omega arith

items_more : (t : PhraseText) (ts : List PhraseText) → items_of (t ∷ ts) ≡ one_item (phrase_of t) + items_of ts
items_more t ts = sum_by-cons (λ (n : ℕ). n) (one_item (phrase_of t)) (map (λ (p : PhraseText). one_item (phrase_of p)) ts)

pub as_many : (ts : List PhraseText) (ps : List Phrase) → AreParts ts ps → list_any (λ (t : PhraseText). is_no_phrase (phrase_of t)) ts ≡ false → numbers_in ps ≡ items_of ts
as_many [] ps e h = ap numbers_in e
as_many (t ∷ ts) ps h none =
    let these = or_parts (is_no_phrase (phrase_of t)) (list_any (λ (t : PhraseText). is_no_phrase (phrase_of t)) ts) none in
    ap numbers_in h.2 ∙ one_more h.0 h.1 ∙ ap (λ n. n + numbers_in h.1) (of_part t h.0 h.3 these.0) ∙ ap (λ n. one_item (phrase_of t) + n) (as_many ts h.1 h.4 these.1)
    ∙ sym (items_more t ts)

same_count : (es : PExprs) → counted.exprs_count es ≡ exprs_count es
same_count tree.none = refl
same_count (tree.more e es) = let rest = same_count es in omega (arith, rest)

-- a list of phrases is not bad for these items
abbrev IsGoodList : List PhraseText → PExprs → Spot → Type 0
IsGoodList ts es spot = if_so (list_any (λ (t : PhraseText). is_no_phrase (phrase_of t)) ts || not (items_of ts == counted.exprs_count es)) spot ≡ []

-- so each word is a phrase, and there are as many items as they print
good_list : (ts : List PhraseText) (es : PExprs) (spot : Spot) → IsGoodList ts es spot →
    (list_any (λ (t : PhraseText). is_no_phrase (phrase_of t)) ts ≡ false) × (not (items_of ts == counted.exprs_count es) ≡ false)
good_list ts es spot h =
    or_parts (list_any (λ (t : PhraseText). is_no_phrase (phrase_of t)) ts) (not (items_of ts == counted.exprs_count es))
    (not_so (list_any (λ (t : PhraseText). is_no_phrase (phrase_of t)) ts || not (items_of ts == counted.exprs_count es)) spot h)

pub fitting_line : (ts : List PhraseText) (es : PExprs) (spot : Spot) → IsGoodList ts es spot → (ps : List Phrase) → AreParts ts ps → numbers_in ps ≡ exprs_count es
fitting_line ts es spot h ps are =
    let good = good_list ts es spot h in
    as_many ts ps are good.0 ∙ eqb-true (items_of ts) (counted.exprs_count es) (not-false (items_of ts == counted.exprs_count es) good.1) ∙ same_count es

-- ---- columns

-- a word that is a phrase has as many columns as its number says, whatever its letter
number_of_letter : (digits : List ℕ) (right number_like blank_like : Bool) →
    is_no_phrase (if right then (if number_like then plain.item (value_of digits) else (if blank_like then plain.blanks (value_of digits) else plain.no_phrase)) else plain.no_phrase) ≡ false →
    columns (if right then (if number_like then plain.item (value_of digits) else (if blank_like then plain.blanks (value_of digits) else plain.no_phrase)) else plain.no_phrase)
    ≡ value_of digits
number_of_letter digits true true b h = refl
number_of_letter digits true false true h = refl
number_of_letter digits true false false h = absurd (let clash : true ≡ false = h in cc)
number_of_letter digits false n b h = absurd (let clash : true ≡ false = h in cc)

fitting_phrase : (t : PhraseText) → PhrasePlain t → is_no_phrase (phrase_of t) ≡ false → columns (phrase_of t) ≤ MOST_LINE_WIDTH → PhraseFits t
fitting_phrase (phrase.Text bytes) plain good fits = plain
fitting_phrase (phrase.Word []) plain good fits = tt
fitting_phrase (phrase.Word (letter ∷ digits)) plain good fits =
    let same = number_of_letter digits (is_number digits && nat_lt 0 (value_of digits)) (letter == 73) (letter == 88) good in
    subst (λ (n : ℕ). n ≤ MOST_LINE_WIDTH) same fits

columns_more : (t : PhraseText) (ts : List PhraseText) → columns_of (t ∷ ts) ≡ columns (phrase_of t) + columns_of ts
columns_more t ts = sum_by-cons (λ (n : ℕ). n) (columns (phrase_of t)) (map (λ (p : PhraseText). columns (phrase_of p)) ts)

all_fitting : (ts : List PhraseText) → PhrasesPlain ts → list_any (λ (t : PhraseText). is_no_phrase (phrase_of t)) ts ≡ false →
    columns_of ts ≤ MOST_LINE_WIDTH → PhrasesFit ts
all_fitting [] plain none fits = tt
all_fitting (t ∷ ts) plain none fits =
    let these = or_parts (is_no_phrase (phrase_of t)) (list_any (λ (t : PhraseText). is_no_phrase (phrase_of t)) ts) none in
    let more = columns_more t ts in
    (fitting_phrase t plain.0 these.0 (omega (arith, more, fits)), all_fitting ts plain.1 these.1 (omega (arith, more, fits)))

-- where the texts are plain, and the columns of all are those of a line, the phrases fit
pub fitting_phrases : (ts : List PhraseText) (es : PExprs) (spot : Spot) → PhrasesPlain ts → IsGoodList ts es spot →
    if_so (nat_lt MOST_LINE_WIDTH (columns_of ts)) spot ≡ [] → PhrasesFit ts
fitting_phrases ts es spot plain h w =
    all_fitting ts plain (good_list ts es spot h).0 (ltb-false MOST_LINE_WIDTH (columns_of ts) (not_so (nat_lt MOST_LINE_WIDTH (columns_of ts)) spot w))
