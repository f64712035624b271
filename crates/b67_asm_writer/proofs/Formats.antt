-- The lines of formats, read back.
use Rattle.std.proofs.Common.{◌≡◌, ◌≢◌, ℕ, ◌+◌, ◌≤◌, ◌<◌, ◌==◌, ◌&&◌, Bool, true, false, not, List, [], ◌∷◌, ◌++◌, length, codes, drop, Option, Some, refl, sym, ap, subst, arith, ◌∙◌, append_assoc}
use Rattle.std.specs.List.{All, flat_map, list_all}
use Rattle.std.specs.Fmt.{decimal}
use Rattle.std.proofs.lemmas.Bool.{and_from, and_right, cond-false, ne_eqb, not_from_false}
use Rattle.std.proofs.lemmas.List.Elements.{All-cons, All-head, All-nil, All-tail}
use Rattle.algol_tree.specs.declared.TheConstants.{MOST_LINE_WIDTH}
use Rattle.algol_tree.specs.Spelling.{is_blank, is_digit}
use Rattle.b67_segment.specs.declared.code.Phrase.{Phrase}
use Rattle.b67_segment.specs.declared.code.Phrase.TheVariants.{Text, Number, Blanks}
use Rattle.b67_segment.specs.declared.code.Format.{Format as Form}
use Rattle.b67_listing.specs.Formats.{phrase_text, phrases_text}
use Rattle.b67_listing.specs.Listings.{IsPhrase}
use Rattle.b67_asm_text.specs.declared.item.Reading.TheVariants.{Format}
use Rattle.b67_asm_text.specs.Records.{code_length, code_part, is_open_after, unblanked}
use Rattle.b67_asm_text.specs.Phrases.{are_in_range, phrases_in}
use Rattle.b67_asm_text.specs.Items.{format_from, format_of, format_or, record_reading, reading_of}
use Rattle.b67_asm.specs.Formats.{PhraseStands, PhrasesStand}
use Rattle.b67_asm.specs.Writable.{CanBeWritten}
use Rattle.b67_asm.proofs.PhrasesBack.{IsTextByte, CanBeRead, Each, each_in, listed_read}
use Rattle.b67_asm_writer.specs.Sources.{format_source}
use Rattle.b67_asm_writer.proofs.Quiet.{append_no_feed, are_quiet, has_no_feed, high_first, high_quiet, is_no_feed, outside, quiet_length, quiet_no_feed, whole_code}
use Rattle.b67_asm_writer.proofs.Numbers.{digits_high, digits_of}

-- ---- no comment begins

-- in a string
inside : (b : ℕ) (rest : List ℕ) → b ≢ 34 → code_length true rest ≡ length rest → code_length true (b ∷ rest) ≡ length (b ∷ rest)
inside b rest quote h =
    let none : ((b == 37) && not true) ≡ false = and_right (b == 37) (not true) refl in
    let open_still : is_open_after true b ≡ true = cond-false (b == 34) (not true) true (ne_eqb b 34 quote) in
    let one : length rest + 1 ≡ length (b ∷ rest) = omega arith in
    cond-false ((b == 37) && not true) 0 (code_length (is_open_after true b) rest + 1) none
    ∙ ap (λ (q : Bool). code_length q rest + 1) open_still ∙ ap (λ (n : ℕ). n + 1) h ∙ one

plus_one : (n : ℕ) (b : ℕ) (rest : List ℕ) → n ≡ length rest → n + 1 ≡ length (b ∷ rest)
plus_one n b rest h = omega (arith, h)

string_whole : (text rest : List ℕ) → All IsTextByte text → code_length false rest ≡ length rest → code_length true (text ++ 34 ∷ rest) ≡ length (text ++ 34 ∷ rest)
string_whole [] rest all h = plus_one (code_length false rest) 34 rest h
string_whole (b ∷ text) rest all h =
    inside b (text ++ 34 ∷ rest) (All-head IsTextByte b text all).2 (string_whole text rest (All-tail IsTextByte b text all) h)

-- the bytes of a number are quiet
digits_quiet : (ds : List ℕ) → list_all is_digit ds ≡ true → are_quiet ds ≡ true
digits_quiet ds h = high_quiet ds (digits_high ds h)

width_whole : (first width : ℕ) (rest : List ℕ) → first ≢ 37 → first ≢ 34 → width < 65536 → code_length false rest ≡ length rest →
    code_length false ((first ∷ decimal width) ++ rest) ≡ length ((first ∷ decimal width) ++ rest)
width_whole first width rest percent quote fits h =
    outside first (decimal width ++ rest) percent quote (quiet_length (decimal width) rest (digits_quiet (decimal width) (digits_of width fits)) h)

phrase_whole : (phrase : Phrase) (rest : List ℕ) → CanBeRead phrase → code_length false rest ≡ length rest → code_length false (phrase_text phrase ++ rest) ≡ length (phrase_text phrase ++ rest)
unfolding CanBeRead
phrase_whole (Text text) rest can h =
    subst (λ (t : List ℕ). code_length false (34 ∷ t) ≡ length (34 ∷ t)) (sym (append_assoc text (34 ∷ []) rest))
    (plus_one (code_length true (text ++ 34 ∷ rest)) 34 (text ++ 34 ∷ rest) (string_whole text rest can h))
phrase_whole (Number width) rest can h = width_whole 73 width rest (λ e. omega (arith, e)) (λ e. omega (arith, e)) can.1 h
phrase_whole (Blanks width) rest can h = width_whole 88 width rest (λ e. omega (arith, e)) (λ e. omega (arith, e)) can.1 h

-- the phrases after the first, each after a comma
abbrev others_text : List Phrase → List ℕ
others_text phrases = flat_map (λ (phrase : Phrase). codes "," ++ phrase_text phrase) phrases

others_whole : (phrases : List Phrase) (rest : List ℕ) → Each phrases → code_length false rest ≡ length rest → code_length false (others_text phrases ++ rest) ≡ length (others_text phrases ++ rest)
others_whole [] rest can h = h
others_whole (phrase ∷ phrases) rest can h =
    subst (λ (t : List ℕ). code_length false (44 ∷ t) ≡ length (44 ∷ t)) (sym (append_assoc (phrase_text phrase) (others_text phrases) rest))
    (outside 44 (phrase_text phrase ++ (others_text phrases ++ rest)) (λ e. omega (arith, e)) (λ e. omega (arith, e))
    (phrase_whole phrase (others_text phrases ++ rest) can.0 (others_whole phrases rest can.1 h)))

phrases_whole : (phrases : List Phrase) (rest : List ℕ) → Each phrases → code_length false rest ≡ length rest → code_length false (phrases_text phrases ++ rest) ≡ length (phrases_text phrases ++ rest)
phrases_whole [] rest can h = h
phrases_whole (phrase ∷ phrases) rest can h =
    subst (λ (t : List ℕ). code_length false t ≡ length t) (sym (append_assoc (phrase_text phrase) (others_text phrases) rest))
    (phrase_whole phrase (others_text phrases ++ rest) can.0 (others_whole phrases rest can.1 h))

-- ---- phrases stand in their line

abbrev IsBlank : ℕ → Type 0
IsBlank byte = is_blank byte ≡ true

-- without blanks around it
phrase_stands : (phrase : Phrase) (bytes rest : List ℕ) → IsPhrase phrase → bytes ≡ phrase_text phrase ++ rest → PhraseStands phrase bytes rest
phrase_stands phrase bytes rest is are =
    record { is_phrase = is; before = []; after = []; blanks_before = All-nil IsBlank; blanks_after = All-nil IsBlank; bytes_are = are }

-- the phrases after the first, and the last bracket
others_stand : (phrases : List Phrase) → All IsPhrase phrases → PhrasesStand (codes ",") phrases (others_text phrases ++ 62 ∷ [])
others_stand [] all = ([], refl, All-nil IsBlank)
others_stand (phrase ∷ phrases) all =
    let rest = others_text phrases ++ 62 ∷ [] in (
      phrase_text phrase ++ rest,
      rest,
      ap (λ (bs : List ℕ). 44 ∷ bs) (append_assoc (phrase_text phrase) (others_text phrases) (62 ∷ [])),
      phrase_stands phrase (phrase_text phrase ++ rest) rest (All-head IsPhrase phrase phrases all) refl,
      others_stand phrases (All-tail IsPhrase phrase phrases all),
    )

-- ---- the line of a format

abbrev line_of : List Phrase → List ℕ
line_of phrases = codes "FORMAT <" ++ (phrases_text phrases ++ 62 ∷ [])

phrases_read : (first : Phrase) (more : List Phrase) → All IsPhrase (first ∷ more) → are_in_range (first ∷ more) ≡ true → phrases_in (line_of (first ∷ more)) ≡ Some (first ∷ more)
phrases_read first more all fits =
    let rest = others_text more ++ 62 ∷ [] in
    let here = phrases_text (first ∷ more) ++ 62 ∷ [] in
    let own : PhraseStands first here rest = phrase_stands first here rest (All-head IsPhrase first more all) (append_assoc (phrase_text first) (others_text more) (62 ∷ [])) in
    let stand : PhrasesStand (codes "<") (first ∷ more) (60 ∷ here) = (here, rest, refl, own, others_stand more (All-tail IsPhrase first more all)) in
    listed_read (line_of (first ∷ more)) (first ∷ more) fits
    (record { some = omega arith; blanks = 32 ∷ []; are_blanks = All-cons IsBlank 32 [] refl (All-nil IsBlank); rest = 60 ∷ here; stand = stand; bytes_are = refl })

line_whole : (phrases : List Phrase) → Each phrases → code_part (line_of phrases) ≡ line_of phrases
line_whole phrases can =
    whole_code (line_of phrases) (quiet_length (codes "FORMAT <") (phrases_text phrases ++ 62 ∷ []) refl (phrases_whole phrases (62 ∷ []) can refl))

-- what a format is read as
pub record IsFormatBack (form : Form) : Type 0 where
  pub reads : record_reading (format_source form) ≡ Format true
  pub own : format_of (format_source form) ≡ form ∷ []

form_of : (phrases : List Phrase) → 1 ≤ length phrases → All IsPhrase phrases → Each phrases → are_in_range phrases ≡ true → IsFormatBack (record { phrases = phrases })
unfolding record_reading format_of
form_of [] some all can fits = absurd (omega arith)
form_of (first ∷ more) some all can fits =
    let phrases = first ∷ more in
    let form : Form = record { phrases = phrases } in
    let line = line_of phrases in
    let same : format_source form ≡ line = append_assoc (codes "FORMAT <") (phrases_text phrases) (62 ∷ []) in
    let here : unblanked (code_part (format_source form)) ≡ line =
    ap (λ (t : List ℕ). unblanked (code_part t)) same ∙ ap unblanked (line_whole phrases can) ∙ high_first 70 (drop 1 line) refl in
    let read : phrases_in line ≡ Some phrases = phrases_read first more all fits in
    record {
      reads = ap reading_of here ∙ ap (λ (o : Option (List Phrase)). format_or o line) read ∙ ap Format fits;
      own = ap (λ (t : List ℕ). format_from (phrases_in t)) here ∙ ap format_from read;
    }

pub format_back : (form : Form) → All IsPhrase form.phrases → CanBeWritten form → IsFormatBack form
format_back form all can = form_of form.phrases can.some all (each_in MOST_LINE_WIDTH form.phrases (omega arith) all can.fits) can.fits

-- ---- it has no LF

text_no_feed : (text : List ℕ) → All IsTextByte text → has_no_feed text ≡ true
text_no_feed [] all = refl
text_no_feed (b ∷ text) all =
    let low = (All-head IsTextByte b text all).0 in
    and_from (is_no_feed b) (has_no_feed text) (not_from_false (b == 10) (ne_eqb b 10 (λ e. omega (arith, e, low)))) (text_no_feed text (All-tail IsTextByte b text all))

width_no_feed : (first width : ℕ) → is_no_feed first ≡ true → width < 65536 → has_no_feed (first ∷ decimal width) ≡ true
width_no_feed first width is fits =
    and_from (is_no_feed first) (has_no_feed (decimal width)) is (quiet_no_feed (decimal width) (digits_quiet (decimal width) (digits_of width fits)))

phrase_no_feed : (phrase : Phrase) → CanBeRead phrase → has_no_feed (phrase_text phrase) ≡ true
unfolding CanBeRead
phrase_no_feed (Text text) can = append_no_feed text (34 ∷ []) (text_no_feed text can) refl
phrase_no_feed (Number width) can = width_no_feed 73 width refl can.1
phrase_no_feed (Blanks width) can = width_no_feed 88 width refl can.1

others_no_feed : (phrases : List Phrase) → Each phrases → has_no_feed (others_text phrases) ≡ true
others_no_feed [] can = refl
others_no_feed (phrase ∷ phrases) can = append_no_feed (phrase_text phrase) (others_text phrases) (phrase_no_feed phrase can.0) (others_no_feed phrases can.1)

phrases_no_feed : (phrases : List Phrase) → Each phrases → has_no_feed (phrases_text phrases) ≡ true
phrases_no_feed [] can = refl
phrases_no_feed (phrase ∷ phrases) can = append_no_feed (phrase_text phrase) (others_text phrases) (phrase_no_feed phrase can.0) (others_no_feed phrases can.1)

pub format_no_feed : (form : Form) → All IsPhrase form.phrases → CanBeWritten form → has_no_feed (format_source form) ≡ true
format_no_feed form all can =
    append_no_feed (codes "FORMAT <" ++ phrases_text form.phrases) (62 ∷ [])
    (append_no_feed (codes "FORMAT <") (phrases_text form.phrases) refl
    (phrases_no_feed form.phrases (each_in MOST_LINE_WIDTH form.phrases (omega arith) all can.fits))) refl
