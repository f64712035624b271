-- Phrases that stand in a record are read.
use Rattle.std.proofs.Common.{◌≡◌, ◌≢◌, ℕ, ◌+◌, ◌-◌, ◌*◌, ◌/◌, ◌%◌, ◌≤◌, ◌<◌, ◌==◌, Bool, true, false, not, List, [], ◌∷◌, ◌++◌, length, codes, Some, None, refl, sym, ap, subst, arith, ◌∙◌, inl, inr, append_assoc, append-nil}
use Rattle.std.specs.Prelude.{◌||◌, min, nat_le, if◌then◌else◌}
use Rattle.std.specs.List.{All}
use Rattle.std.specs.Fmt.{decimal}
use Rattle.std.proofs.lemmas.Fmt.{decimal_by_steps}
use Rattle.std.proofs.lemmas.Bool.{and_from, cases_Bool, cond-true, cond-false, eqb-false, le-leb, leb-true, eqb-true, ne_eqb, not-false, or_cases, or_parts}
use Rattle.std.proofs.lemmas.List.Elements.{All-cons, All-head, All-nil, All-tail}
use Rattle.algol_tree.specs.declared.TheConstants.{MOST_LINE_WIDTH}
use Rattle.algol_tree.specs.Spelling.{is_blank, is_digit}
use Rattle.b67_segment.specs.declared.code.Phrase.{Phrase}
use Rattle.b67_segment.specs.declared.code.Phrase.TheVariants.{Text, Number, Blanks}
use Rattle.b67_listing.specs.Formats.{phrase_text}
use Rattle.b67_listing.specs.Listings.{IsPhrase}
use Rattle.b67_asm_text.specs.declared.number.TheConstants.{TOO_GREAT}
use Rattle.b67_asm_text.specs.declared.phrase.Stand.{Stand}
use Rattle.b67_asm_text.specs.declared.phrase.Stand.TheVariants.{Before, Due, Quoted, Sized, After, Closed, Wrong}
use Rattle.b67_asm_text.specs.Phrases.{Read, after_phrase, are_in_range, columns, ended, fit_in, has_no_width, is_printable, longer, phrases_at, phrases_in, quoted, read_from, sized_phrase}
use Rattle.b67_asm.specs.Formats.{AreBlanks, PhraseStands, PhrasesStand, FormatStands}

-- ---- which phrases are read back

abbrev pub IsTextByte : ℕ → Type 0
IsTextByte byte = (32 ≤ byte) × (byte ≤ 126) × (byte ≢ 34)

-- a phrase of a format that fits a line
unfoldable pub CanBeRead : Phrase → Type 0
CanBeRead (Text text) = All IsTextByte text
CanBeRead (Number width) = (1 ≤ width) × (width < 65536)
CanBeRead (Blanks width) = (1 ≤ width) × (width < 65536)

-- each of these
abbrev pub Each : List Phrase → Type 0
Each [] = Unit {0}
Each (phrase ∷ phrases) = CanBeRead phrase × Each phrases

-- a phrase that has a width and fits
abbrev pub HasRoom : ℕ → Phrase → Type 0
HasRoom left phrase = (has_no_width phrase ≡ false) × (columns phrase ≤ left)

pub room_here : (left : ℕ) (phrase : Phrase) (phrases : List Phrase) → fit_in left (phrase ∷ phrases) ≡ true → HasRoom left phrase × (fit_in (left - columns phrase) phrases ≡ true)
room_here left phrase phrases h =
    let test = has_no_width phrase || not (nat_le (columns phrase) left) in
    let more = fit_in (left - columns phrase) phrases in
    elim (cases_Bool test) [
      | inl bad ↦ (let clash : false ≡ true = sym (cond-true test false more bad) ∙ h in absurd cc)
      | inr good ↦
          let p = or_parts (has_no_width phrase) (not (nat_le (columns phrase) left)) good in
          ((p.0, leb-true (columns phrase) left (not-false (nat_le (columns phrase) left) p.1)), sym (cond-false test false more good) ∙ h)
    ]

some_width : (width : ℕ) → (width ≡ 0 → ⊥) → 1 ≤ width
some_width width some = omega (arith, some)

can_read : (left : ℕ) (phrase : Phrase) → left ≤ 132 → IsPhrase phrase → HasRoom left phrase → CanBeRead phrase
unfolding CanBeRead
can_read left (Text text) most is room = is
can_read left (Number width) most is room = (let some = eqb-false width 0 room.0 in (some_width width some, omega (arith, most, room.1)))
can_read left (Blanks width) most is room = (let some = eqb-false width 0 room.0 in (some_width width some, omega (arith, most, room.1)))

pub each_in : (left : ℕ) (phrases : List Phrase) → left ≤ 132 → All IsPhrase phrases → fit_in left phrases ≡ true → Each phrases
each_in left [] most all fits = tt
each_in left (phrase ∷ phrases) most all fits =
    let room = room_here left phrase phrases fits in (
      can_read left phrase most (All-head IsPhrase phrase phrases all) room.0,
      each_in (left - columns phrase) phrases (omega (arith, most)) (All-tail IsPhrase phrase phrases all) room.1,
    )

pub digit_is : (d : ℕ) → d < 10 → is_digit (48 + d) ≡ true
digit_is d small = and_from (nat_le 48 (48 + d)) (nat_le (48 + d) 57) (le-leb 48 (48 + d) (omega arith)) (le-leb (48 + d) 57 (omega arith))

-- ---- phrases, byte by byte

abbrev pub stands : Stand → List ℕ → List Phrase → Read
stands stand text phrases = record { stand = stand; text = text; phrases = phrases }

-- a text and the quote after it
text_back : (front text rest : List ℕ) (phrases : List Phrase) → All IsTextByte text →
    read_from (stands Quoted front phrases) (text ++ 34 ∷ rest) ≡ read_from (stands After (front ++ text) (phrases ++ Text (front ++ text) ∷ [])) rest
text_back front [] rest phrases all = ap (λ (t : List ℕ). read_from (stands After t (phrases ++ Text t ∷ [])) rest) (sym (append-nil front))
text_back front (b ∷ text) rest phrases all =
    let is = All-head IsTextByte b text all in
    let r = stands Quoted front phrases in
    let done = stands After front (phrases ++ Text front ∷ []) in
    let on = stands Quoted (front ++ b ∷ []) phrases in
    let wrong = stands Wrong front phrases in
    let step : quoted r b ≡ on =
    cond-false (b == 34) done (if is_printable b then on else wrong) (ne_eqb b 34 is.2)
    ∙ cond-true (is_printable b) on wrong (and_from (nat_le 32 b) (nat_le b 126) (le-leb 32 b is.0) (le-leb b 126 is.1)) in
    ap (λ (s : Read). read_from s (text ++ 34 ∷ rest)) step
    ∙ text_back (front ++ b ∷ []) text rest phrases (All-tail IsTextByte b text all)
    ∙ ap (λ (t : List ℕ). read_from (stands After t (phrases ++ Text t ∷ [])) rest) (append_assoc front (b ∷ []) text)

-- the digits of a width
module _ (blanks : Bool) (text : List ℕ) (phrases : List Phrase) where
  first_digit : (d : ℕ) (rest : List ℕ) → d < 10 → read_from (stands (Sized blanks None) text phrases) ((48 + d) ∷ rest) ≡ read_from (stands (Sized blanks (Some d)) text phrases) rest
  first_digit d rest small =
      let r = stands (Sized blanks None) text phrases in
      let on = stands (longer blanks None (48 + d)) text phrases in
      let same : 48 + d - 48 ≡ d = omega arith in
      ap (λ (s : Read). read_from s rest) (cond-true (is_digit (48 + d)) on (ended r blanks None (48 + d)) (digit_is d small))
      ∙ ap (λ (k : ℕ). read_from (stands (Sized blanks (Some k)) text phrases) rest) same

  next_digit : (m d n : ℕ) (rest : List ℕ) → d < 10 → 1 ≤ m → 10 * m + d ≡ n → n < 65536 →
      read_from (stands (Sized blanks (Some m)) text phrases) ((48 + d) ∷ rest) ≡ read_from (stands (Sized blanks (Some n)) text phrases) rest
  next_digit m d n rest small some sum fits =
      let r = stands (Sized blanks (Some m)) text phrases in
      let on = stands (longer blanks (Some m) (48 + d)) text phrases in
      let value : min TOO_GREAT (10 * m + (48 + d - 48)) ≡ n = omega arith in
      ap (λ (s : Read). read_from s rest) (cond-true (is_digit (48 + d)) on (ended r blanks (Some m) (48 + d)) (digit_is d small))
      ∙ ap (λ (s : Stand). read_from (stands s text phrases) rest)
      (cond-false (m == 0) Wrong (Sized blanks (Some (min TOO_GREAT (10 * m + (48 + d - 48))))) (ne_eqb m 0 (λ e. omega (arith, e, some))))
      ∙ ap (λ (k : ℕ). read_from (stands (Sized blanks (Some k)) text phrases) rest) value

  ReadsWidth : ℕ → List ℕ → Type 0
  ReadsWidth n ds = 1 ≤ n → n < 65536 → (rest : List ℕ) → read_from (stands (Sized blanks None) text phrases) (ds ++ rest) ≡ read_from (stands (Sized blanks (Some n)) text phrases) rest

  one_width : (n : ℕ) → n < 10 → ReadsWidth n ((48 + n) ∷ [])
  unfolding ReadsWidth
  one_width n small some fits rest = first_digit n rest small

  more_width : (n : ℕ) (ds : List ℕ) → 10 ≤ n → ReadsWidth (n / 10) ds → ReadsWidth n (ds ++ (48 + n % 10) ∷ [])
  unfolding ReadsWidth
  more_width n ds long h some fits rest =
      ap (read_from (stands (Sized blanks None) text phrases)) (append_assoc ds ((48 + n % 10) ∷ []) rest)
      ∙ h (omega (arith, long)) (omega (arith, fits)) ((48 + n % 10) ∷ rest)
      ∙ next_digit (n / 10) (n % 10) n rest (omega arith) (omega (arith, long)) (omega arith) fits

  width_read : (n : ℕ) (rest : List ℕ) → 1 ≤ n → n < 65536 → read_from (stands (Sized blanks None) text phrases) (decimal n ++ rest) ≡ read_from (stands (Sized blanks (Some n)) text phrases) rest
  unfolding ReadsWidth
  width_read n rest some fits = decimal_by_steps ReadsWidth one_width more_width n (omega (arith, fits)) some fits rest

  -- and the byte that ends it
  width_back : (n end : ℕ) (rest : List ℕ) → 1 ≤ n → n < 65536 → is_digit end ≡ false →
      read_from (stands (Sized blanks None) text phrases) (decimal n ++ end ∷ rest) ≡ read_from (stands (after_phrase end) text (phrases ++ sized_phrase blanks n ∷ [])) rest
  width_back n end rest some fits ends =
      let r = stands (Sized blanks (Some n)) text phrases in
      width_read n (end ∷ rest) some fits
      ∙ ap (λ (s : Read). read_from s rest) (cond-false (is_digit end) (stands (longer blanks (Some n) end) text phrases) (ended r blanks (Some n) end) ends)

-- the text that is kept after a phrase
kept : Phrase → List ℕ
kept (Text text) = text
kept (Number width) = []
kept (Blanks width) = []

-- a phrase and the byte that ends it
phrase_back : (phrase : Phrase) (end : ℕ) (rest text : List ℕ) (phrases : List Phrase) → CanBeRead phrase → is_digit end ≡ false →
    read_from (stands Due text phrases) (phrase_text phrase ++ end ∷ rest) ≡ read_from (stands (after_phrase end) (kept phrase) (phrases ++ phrase ∷ [])) rest
unfolding CanBeRead kept
phrase_back (Text own) end rest text phrases can ends =
    ap (read_from (stands Quoted [] phrases)) (append_assoc own (34 ∷ []) (end ∷ rest))
    ∙ text_back [] own (end ∷ rest) phrases can
phrase_back (Number width) end rest text phrases can ends = width_back false [] phrases width end rest can.0 can.1 ends
phrase_back (Blanks width) end rest text phrases can ends = width_back true [] phrases width end rest can.0 can.1 ends

-- ---- blanks, and all the phrases

abbrev IsBlank : ℕ → Type 0
IsBlank byte = is_blank byte ≡ true

blank_no_digit : (b : ℕ) → is_blank b ≡ true → is_digit b ≡ false
blank_no_digit b is =
    elim (or_cases (b == 32) (b == 9) is) [
      | inl e ↦ ap is_digit (eqb-true b 32 e)
      | inr e ↦ ap is_digit (eqb-true b 9 e)
    ]

-- blanks after a phrase
blanks_after : (blanks rest text : List ℕ) (done : List Phrase) → AreBlanks blanks → read_from (stands After text done) (blanks ++ rest) ≡ read_from (stands After text done) rest
blanks_after [] rest text done are = refl
blanks_after (b ∷ blanks) rest text done are =
    ap (λ (s : Stand). read_from (stands s text done) (blanks ++ rest)) (cond-true (is_blank b) After (if b == 44 then Due else (if b == 62 then Closed else Wrong)) (All-head IsBlank b blanks are))
    ∙ blanks_after blanks rest text done (All-tail IsBlank b blanks are)

-- and after the last bracket
blanks_closed : (blanks text : List ℕ) (done : List Phrase) → AreBlanks blanks → read_from (stands Closed text done) blanks ≡ stands Closed text done
blanks_closed [] text done are = refl
blanks_closed (b ∷ blanks) text done are =
    ap (λ (s : Stand). read_from (stands s text done) blanks) (cond-true (is_blank b) Closed Wrong (All-head IsBlank b blanks are))
    ∙ blanks_closed blanks text done (All-tail IsBlank b blanks are)

-- and before the first
blanks_before : (blanks rest : List ℕ) → AreBlanks blanks → read_from (stands Before [] []) (blanks ++ rest) ≡ read_from (stands Before [] []) rest
blanks_before [] rest are = refl
blanks_before (b ∷ blanks) rest are =
    ap (λ (s : Stand). read_from (stands s [] []) (blanks ++ rest)) (cond-true (is_blank b) Before (if b == 60 then Due else Wrong) (All-head IsBlank b blanks are))
    ∙ blanks_before blanks rest (All-tail IsBlank b blanks are)

-- a phrase after blanks, and the byte that ends it
phrase_here : (blanks : List ℕ) (phrase : Phrase) (end : ℕ) (rest text : List ℕ) (done : List Phrase) → AreBlanks blanks → CanBeRead phrase → is_digit end ≡ false →
    read_from (stands Due text done) (blanks ++ (phrase_text phrase ++ end ∷ rest)) ≡ read_from (stands (after_phrase end) (kept phrase) (done ++ phrase ∷ [])) rest
phrase_here [] phrase end rest text done are can ends = phrase_back phrase end rest text done can ends
phrase_here (b ∷ blanks) phrase end rest text done are can ends =
    ap (λ (s : Stand). read_from (stands s [] done) (blanks ++ (phrase_text phrase ++ end ∷ rest)))
    (cond-true (is_blank b) Due (if b == 34 then Quoted else (if b == 73 then Sized false None else (if b == 88 then Sized true None else Wrong))) (All-head IsBlank b blanks are))
    ∙ phrase_here blanks phrase end rest [] done (All-tail IsBlank b blanks are) can ends

-- a phrase between blanks, before a mark
phrase_passed : (before blanks : List ℕ) (phrase : Phrase) (mark : ℕ) (rest text : List ℕ) (done : List Phrase) → AreBlanks before → AreBlanks blanks → CanBeRead phrase → is_digit mark ≡ false →
    read_from (stands Due text done) (before ++ (phrase_text phrase ++ (blanks ++ mark ∷ rest))) ≡ read_from (stands After (kept phrase) (done ++ phrase ∷ [])) (mark ∷ rest)
phrase_passed before [] phrase mark rest text done are own can ends = phrase_here before phrase mark rest text done are can ends
phrase_passed before (b ∷ blanks) phrase mark rest text done are own can ends =
    phrase_here before phrase b (blanks ++ mark ∷ rest) text done are can (blank_no_digit b (All-head IsBlank b blanks own))
    ∙ blanks_after (b ∷ blanks) (mark ∷ rest) (kept phrase) (done ++ phrase ∷ []) own

-- what begins with a comma or the last bracket
record IsMarked (bytes : List ℕ) : Type 0 where
  mark : ℕ
  rest : List ℕ
  ends : is_digit mark ≡ false
  are : bytes ≡ mark ∷ rest

marked : (phrases : List Phrase) (bytes : List ℕ) → PhrasesStand (codes ",") phrases bytes → IsMarked bytes
marked [] bytes (end, are, blanks) = record { mark = 62; rest = end; ends = refl; are = are }
marked (phrase ∷ phrases) bytes (here, rest, are, own, more) = record { mark = 44; rest = here; ends = refl; are = are }

-- the phrases were read, and the last bracket
record AreRead (phrases : List Phrase) (r : Read) : Type 0 where
  closed : r.stand ≡ Closed
  are : r.phrases ≡ phrases

phrase_read : (phrase : Phrase) (bytes rest text : List ℕ) (done : List Phrase) → CanBeRead phrase → PhraseStands phrase bytes rest → IsMarked rest →
    read_from (stands Due text done) bytes ≡ read_from (stands After (kept phrase) (done ++ phrase ∷ [])) rest
phrase_read phrase bytes rest text done can here m =
    ap (read_from (stands Due text done)) (here.bytes_are ∙ ap (λ (bs : List ℕ). here.before ++ (phrase_text phrase ++ (here.after ++ bs))) m.are)
    ∙ phrase_passed here.before here.after phrase m.mark m.rest text done here.blanks_before here.blanks_after can m.ends
    ∙ ap (read_from (stands After (kept phrase) (done ++ phrase ∷ []))) (sym m.are)

others_read : (phrases : List Phrase) (bytes text : List ℕ) (done : List Phrase) → Each phrases → PhrasesStand (codes ",") phrases bytes → AreRead (done ++ phrases) (read_from (stands After text done) bytes)
others_read [] bytes text done can (end, are, blanks) =
    let closed : read_from (stands After text done) bytes ≡ stands Closed text done = ap (read_from (stands After text done)) are ∙ blanks_closed end text done blanks in
    subst (AreRead (done ++ [])) (sym closed) (record { closed = refl; are = sym (append-nil done) })
others_read (phrase ∷ phrases) bytes text done can (here, rest, are, own, more) =
    let first : read_from (stands After text done) bytes ≡ read_from (stands After (kept phrase) (done ++ phrase ∷ [])) rest =
    ap (read_from (stands After text done)) are ∙ phrase_read phrase here rest text done can.0 own (marked phrases rest more) in
    subst (λ (r : Read). AreRead (done ++ phrase ∷ phrases) r) (sym first)
    (subst (λ (ps : List Phrase). AreRead ps (read_from (stands After (kept phrase) (done ++ phrase ∷ [])) rest)) (append_assoc done (phrase ∷ []) phrases)
    (others_read phrases rest (kept phrase) (done ++ phrase ∷ []) can.1 more))

all_phrases : (mark : List ℕ) (phrases : List Phrase) (bytes : List ℕ) → PhrasesStand mark phrases bytes → All IsPhrase phrases
all_phrases mark [] bytes h = All-nil IsPhrase
all_phrases mark (phrase ∷ phrases) bytes (here, rest, are, own, more) = All-cons IsPhrase phrase phrases own.is_phrase (all_phrases (codes ",") phrases rest more)

from_bracket : (phrases : List Phrase) (bytes : List ℕ) → 1 ≤ length phrases → Each phrases → PhrasesStand (codes "<") phrases bytes → AreRead phrases (read_from (stands Before [] []) bytes)
from_bracket [] bytes some can h = absurd (omega (arith, some))
from_bracket (phrase ∷ phrases) bytes some can (here, rest, are, own, more) =
    let first : read_from (stands Before [] []) bytes ≡ read_from (stands After (kept phrase) (phrase ∷ [])) rest =
    ap (read_from (stands Before [] [])) are ∙ phrase_read phrase here rest [] [] can.0 own (marked phrases rest more) in
    subst (AreRead (phrase ∷ phrases)) (sym first) (others_read phrases rest (kept phrase) (phrase ∷ []) can.1 more)

-- phrases that stand in a record and fit a line are read
pub listed_read : (bytes : List ℕ) (phrases : List Phrase) → are_in_range phrases ≡ true → FormatStands phrases bytes → phrases_in bytes ≡ Some phrases
unfolding phrases_in
listed_read bytes phrases fits h =
    let each = each_in MOST_LINE_WIDTH phrases (omega arith) (all_phrases (codes "<") phrases h.rest h.stand) fits in
    let back = from_bracket phrases h.rest h.some each h.stand in
    let r = read_from (stands Before [] []) h.rest in
    ap phrases_in h.bytes_are
    ∙ ap (λ (s : Read). phrases_at s.stand s.phrases) (blanks_before h.blanks h.rest h.are_blanks)
    ∙ ap (λ (s : Stand). phrases_at s r.phrases) back.closed
    ∙ ap (λ (ps : List Phrase). Some ps) back.are
