-- The formats of lines: their phrases can stand in a listing, and there are some.
use Rattle.std.proofs.Common.{◌≡◌, ◌≢◌, ℕ, ◌+◌, ◌-◌, ◌*◌, ◌≤◌, ◌==◌, Bool, true, false, List, [], ◌∷◌, ◌++◌, length, map, take, drop, codes, Option, Some, None, refl, sym, subst, arith, ◌∙◌, inl, inr, length-append}
use Rattle.std.specs.Prelude.{nat_le, min, if◌then◌else◌}
use Rattle.std.specs.List.{All, flat_map}
use Rattle.std.specs.Str.{bytes_eq}
use Rattle.std.proofs.lemmas.Bool.{and_parts, cases_Bool, cond-true, cond-false, cond_both, eqb-false, leb-true}
use Rattle.std.proofs.lemmas.List.Elements.{All-append, All-cons, All-nil, All-push}
use Rattle.b67_segment.specs.declared.code.Phrase.{Phrase}
use Rattle.b67_segment.specs.declared.code.Phrase.TheVariants.{Text}
use Rattle.b67_segment.specs.declared.code.Format.{Format as Form}
use Rattle.b67_listing.specs.Listings.{IsPhrase}
use Rattle.algol_tree.specs.Spelling.{is_blank, is_digit}
use Rattle.b67_asm_text.specs.declared.number.TheConstants.{TOO_GREAT}
use Rattle.b67_asm_text.specs.declared.phrase.Stand.{Stand}
use Rattle.b67_asm_text.specs.declared.phrase.Stand.TheVariants.{Before, Due, Quoted, Sized, After, Closed, Wrong}
use Rattle.b67_asm_text.specs.declared.item.Reading.{Reading}
use Rattle.b67_asm_text.specs.declared.item.Reading.TheVariants.{Blank, NoItem, Segment, Level, Label, Operator, Format}
use Rattle.b67_asm_text.specs.Phrases.{Read, after_phrase, are_in_range, before, closed, due, ended, is_printable, longer, next, next_at, phrases_at, phrases_in, quoted, read_from, read_phrases, sized, sized_phrase, reader_start, widened}
use Rattle.b67_asm_text.specs.Items.{format_from, format_of, format_or, record_reading, reading_of}
use Rattle.b67_asm_text.specs.Records.{code_part, unblanked}
use Rattle.b67_asm.specs.Writable.{CanBeWritten}
use Rattle.b67_asm.proofs.Unbroken.{AllFit}

-- ---- byte by byte

-- a byte of a text between quotes
abbrev IsTextByte : ℕ → Type 0
IsTextByte byte = (32 ≤ byte) × (byte ≤ 126) × (byte ≢ 34)

-- what was read where the next byte stands so
StandsWell : Stand → List ℕ → List Phrase → Type 0
StandsWell Before text phrases = Unit {0}
StandsWell Due text phrases = Unit {0}
StandsWell Quoted text phrases = All IsTextByte text
StandsWell (Sized blanks None) text phrases = Unit {0}
StandsWell (Sized blanks (Some width)) text phrases = width ≤ TOO_GREAT
StandsWell After text phrases = 1 ≤ length phrases
StandsWell Closed text phrases = 1 ≤ length phrases
StandsWell Wrong text phrases = Unit {0}

record IsRead (r : Read) : Type 0 where
  phrases : All IsPhrase r.phrases
  stands : StandsWell r.stand r.text r.phrases

-- a stand that asks for no more than one where a phrase has ended
abbrev AfterOne : Stand → Type 0
AfterOne stand = (text : List ℕ) (phrases : List Phrase) → 1 ≤ length phrases → StandsWell stand text phrases

-- a stand that asks for nothing
abbrev AfterNone : Stand → Type 0
AfterNone stand = (text : List ℕ) (phrases : List Phrase) → StandsWell stand text phrases

before_well : (byte : ℕ) → AfterNone (before byte)
unfolding StandsWell
before_well byte =
    cond_both (is_blank byte) Before (if byte == 60 then Due else Wrong) AfterNone (λ e text phrases. tt)
    (λ e. cond_both (byte == 60) Due Wrong AfterNone (λ f text phrases. tt) (λ f text phrases. tt))

due_well : (byte : ℕ) (phrases : List Phrase) → StandsWell (due byte) [] phrases
unfolding StandsWell
due_well byte phrases =
    let P : Stand → Type 0 = λ stand. StandsWell stand [] phrases in
    cond_both (is_blank byte) Due (if byte == 34 then Quoted else (if byte == 73 then Sized false None else (if byte == 88 then Sized true None else Wrong))) P (λ e. tt)
    (λ e. cond_both (byte == 34) Quoted (if byte == 73 then Sized false None else (if byte == 88 then Sized true None else Wrong)) P (λ f. All-nil IsTextByte)
    (λ f. cond_both (byte == 73) (Sized false None) (if byte == 88 then Sized true None else Wrong) P (λ g. tt)
    (λ g. cond_both (byte == 88) (Sized true None) Wrong P (λ h. tt) (λ h. tt))))

after_well : (byte : ℕ) → AfterOne (after_phrase byte)
unfolding StandsWell
after_well byte =
    cond_both (is_blank byte) After (if byte == 44 then Due else (if byte == 62 then Closed else Wrong)) AfterOne (λ e text phrases some. some)
    (λ e. cond_both (byte == 44) Due (if byte == 62 then Closed else Wrong) AfterOne (λ f text phrases some. tt)
    (λ f. cond_both (byte == 62) Closed Wrong AfterOne (λ g text phrases some. some) (λ g text phrases some. tt)))

closed_well : (byte : ℕ) → AfterOne (closed byte)
unfolding StandsWell
closed_well byte = cond_both (is_blank byte) Closed Wrong AfterOne (λ e text phrases some. some) (λ e text phrases some. tt)

widened_well : (blanks : Bool) (width digit : ℕ) → AfterNone (widened blanks width digit)
unfolding StandsWell
widened_well blanks width digit =
    cond_both (width == 0) Wrong (Sized blanks (Some (min TOO_GREAT (10 * width + digit)))) AfterNone (λ e text phrases. tt) (λ e text phrases. omega arith)

longer_well : (blanks : Bool) (width : Option ℕ) (byte : ℕ) → is_digit byte ≡ true → AfterNone (longer blanks width byte)
unfolding StandsWell
longer_well blanks None byte h text phrases = (let p = and_parts (nat_le 48 byte) (nat_le byte 57) h in omega (arith, leb-true byte 57 p.1))
longer_well blanks (Some width) byte h text phrases = widened_well blanks width (byte - 48) text phrases

one_more : (phrases : List Phrase) (phrase : Phrase) → 1 ≤ length (phrases ++ phrase ∷ [])
one_more phrases phrase = omega (arith, length-append phrases (phrase ∷ []))

quoted_read : (r : Read) (byte : ℕ) → r.stand ≡ Quoted → IsRead r → All IsTextByte r.text → IsRead (quoted r byte)
unfolding StandsWell
quoted_read r byte is h text =
    let done : Read = record { stand = After; text = r.text; phrases = r.phrases ++ Text r.text ∷ [] } in
    let on : Read = record { stand = r.stand; text = r.text ++ byte ∷ []; phrases = r.phrases } in
    let wrong : Read = record { stand = Wrong; text = r.text; phrases = r.phrases } in
    cond_both (byte == 34) done (if is_printable byte then on else wrong) IsRead
    (λ e. record { phrases = All-push IsPhrase r.phrases (Text r.text) h.phrases text; stands = one_more r.phrases (Text r.text) })
    (λ other. cond_both (is_printable byte) on wrong IsRead
    (λ e.
    let p = and_parts (nat_le 32 byte) (nat_le byte 126) e in
    let own : IsTextByte byte = (leb-true 32 byte p.0, leb-true byte 126 p.1, eqb-false byte 34 other) in
    record { phrases = h.phrases; stands = subst (λ (s : Stand). StandsWell s (r.text ++ byte ∷ []) r.phrases) (sym is) (All-push IsTextByte r.text byte text own) })
    (λ e. record { phrases = h.phrases; stands = tt }))

sized_is : (blanks : Bool) (width : ℕ) → width ≤ TOO_GREAT → IsPhrase (sized_phrase blanks width)
sized_is true width h = omega (arith, h)
sized_is false width h = omega (arith, h)

ended_read : (r : Read) (blanks : Bool) (width : Option ℕ) (byte : ℕ) → All IsPhrase r.phrases → StandsWell (Sized blanks width) r.text r.phrases → IsRead (ended r blanks width byte)
unfolding StandsWell
ended_read r blanks None byte all h = record { phrases = all; stands = tt }
ended_read r blanks (Some width) byte all h = record {
  phrases = All-push IsPhrase r.phrases (sized_phrase blanks width) all (sized_is blanks width h);
  stands = after_well byte r.text (r.phrases ++ sized_phrase blanks width ∷ []) (one_more r.phrases (sized_phrase blanks width));
}

sized_read : (r : Read) (blanks : Bool) (width : Option ℕ) (byte : ℕ) → All IsPhrase r.phrases → StandsWell (Sized blanks width) r.text r.phrases → IsRead (sized r blanks width byte)
sized_read r blanks width byte all h =
    let on : Read = record { stand = longer blanks width byte; text = r.text; phrases = r.phrases } in
    cond_both (is_digit byte) on (ended r blanks width byte) IsRead
    (λ e. record { phrases = all; stands = longer_well blanks width byte e r.text r.phrases })
    (λ e. ended_read r blanks width byte all h)

next_read : (stand : Stand) (r : Read) (byte : ℕ) → r.stand ≡ stand → IsRead r → StandsWell stand r.text r.phrases → IsRead (next_at stand r byte)
unfolding StandsWell
next_read Before r byte is h well = record { phrases = h.phrases; stands = before_well byte r.text r.phrases }
next_read Due r byte is h well = record { phrases = h.phrases; stands = due_well byte r.phrases }
next_read Quoted r byte is h well = quoted_read r byte is h well
next_read (Sized blanks width) r byte is h well = sized_read r blanks width byte h.phrases well
next_read After r byte is h well = record { phrases = h.phrases; stands = after_well byte r.text r.phrases well }
next_read Closed r byte is h well = record { phrases = h.phrases; stands = closed_well byte r.text r.phrases well }
next_read Wrong r byte is h well = h

all_read : (r : Read) (bytes : List ℕ) → IsRead r → IsRead (read_from r bytes)
all_read r [] h = h
all_read r (byte ∷ bytes) h = all_read (next r byte) bytes (next_read r.stand r byte refl h h.stands)

start_read : IsRead reader_start
unfolding StandsWell
start_read = record { phrases = All-nil IsPhrase; stands = tt }

-- ---- formats

-- phrases can stand in a listing, and there are some
record ArePhrases (phrases : List Phrase) : Type 0 where
  some : 1 ≤ length phrases
  are : All IsPhrase phrases

closed_has : (stand : Stand) (text : List ℕ) (found phrases : List Phrase) → StandsWell stand text found → All IsPhrase found → phrases_at stand found ≡ Some phrases → ArePhrases phrases
unfolding StandsWell
closed_has Closed text found phrases some all h =
    let s : Some found ≡ Some phrases = h in
    let same : found ≡ phrases = cc in
    subst ArePhrases same (record { some = some; are = all })
closed_has Before text found phrases well all h = let clash : None ≡ Some phrases = h in absurd cc
closed_has Due text found phrases well all h = let clash : None ≡ Some phrases = h in absurd cc
closed_has Quoted text found phrases well all h = let clash : None ≡ Some phrases = h in absurd cc
closed_has (Sized blanks width) text found phrases well all h = let clash : None ≡ Some phrases = h in absurd cc
closed_has After text found phrases well all h = let clash : None ≡ Some phrases = h in absurd cc
closed_has Wrong text found phrases well all h = let clash : None ≡ Some phrases = h in absurd cc

read_has : (bytes : List ℕ) (phrases : List Phrase) → read_phrases bytes ≡ Some phrases → ArePhrases phrases
read_has bytes phrases h =
    let r = read_from reader_start bytes in
    let is = all_read reader_start bytes start_read in
    closed_has r.stand r.text r.phrases phrases is.stands is.phrases h

phrases_has : (text : List ℕ) (phrases : List Phrase) → phrases_in text ≡ Some phrases → ArePhrases phrases
unfolding phrases_in
phrases_has text phrases h =
    elim (cases_Bool (bytes_eq (take 6 text) (codes "FORMAT"))) [
      | inl is ↦ read_has (drop 6 text) phrases
          (sym (cond-true (bytes_eq (take 6 text) (codes "FORMAT")) (read_phrases (drop 6 text)) None is) ∙ h)
      | inr other ↦
          let clash : None ≡ Some phrases = sym (cond-false (bytes_eq (take 6 text) (codes "FORMAT")) (read_phrases (drop 6 text)) None other) ∙ h in
          absurd cc
    ]

-- a format has phrases that can stand in a listing, and it can be written
pub record IsForm (form : Form) : Type 0 where
  pub phrases : All IsPhrase form.phrases
  pub can : CanBeWritten form

none_in_nothing : (phrases : List Phrase) → phrases_in [] ≡ Some phrases → ⊥
unfolding phrases_in
none_in_nothing phrases h = let clash : None ≡ Some phrases = h in cc

forms_from : (text : List ℕ) (found : Option (List Phrase)) → phrases_in text ≡ found → AllFit (reading_of text ∷ []) → All IsForm (format_from found)
forms_from text None is fits = All-nil IsForm
forms_from [] (Some phrases) is fits = absurd (none_in_nothing phrases is)
forms_from (byte ∷ text) (Some phrases) is fits =
    let form : Form = record { phrases = phrases } in
    let has = phrases_has (byte ∷ text) phrases is in
    let here : AllFit (Format (are_in_range phrases) ∷ []) =
    subst (λ (o : Option (List Phrase)). AllFit (format_or o (byte ∷ text) ∷ [])) is fits in
    let own : IsForm form = record { phrases = has.are; can = record { some = has.some; fits = here.0 } } in
    All-cons IsForm form [] own (All-nil IsForm)

forms_of : (bytes : List ℕ) → AllFit (record_reading bytes ∷ []) → All IsForm (format_of bytes)
unfolding record_reading format_of
forms_of bytes fits = forms_from (unblanked (code_part bytes)) (phrases_in (unblanked (code_part bytes))) refl fits

first_fits : (first : Reading) (rest : List Reading) → AllFit (first ∷ rest) → AllFit (first ∷ []) × AllFit rest
first_fits Blank rest h = (tt, h)
first_fits NoItem rest h = (tt, h)
first_fits Segment rest h = (tt, h)
first_fits (Level level) rest h = (tt, h)
first_fits (Label name) rest h = (tt, h)
first_fits (Operator written) rest h = (tt, h)
first_fits (Format fits) rest h = ((h.0, tt), h.1)

pub forms_in : (lines : List (List ℕ)) → AllFit (map record_reading lines) → All IsForm (flat_map format_of lines)
forms_in [] h = All-nil IsForm
forms_in (line ∷ lines) h =
    let p = first_fits (record_reading line) (map record_reading lines) h in
    All-append IsForm (format_of line) (flat_map format_of lines) (forms_of line p.0) (forms_in lines p.1)
