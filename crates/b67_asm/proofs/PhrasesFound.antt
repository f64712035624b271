-- Phrases that are read of a record stand there.
use Rattle.std.proofs.Common.{◌≡◌, ◌≢◌, ℕ, ◌+◌, ◌-◌, ◌*◌, ◌/◌, ◌%◌, ◌≤◌, ◌<◌, ◌==◌, Bool, true, false, List, [], ◌∷◌, ◌++◌, length, codes, take, drop, Option, Some, None, refl, sym, ap, subst, arith, ◌∙◌, inl, inr, append_assoc, append-nil}
use Rattle.std.specs.Prelude.{min, nat_le, if◌then◌else◌}
use Rattle.std.specs.List.{All}
use Rattle.std.specs.Str.{bytes_eq}
use Rattle.std.specs.Fmt.{decimal}
use Rattle.std.proofs.lemmas.Fmt.{decimal_digit, decimal_step}
use Rattle.std.proofs.lemmas.Bool.{and_parts, cases_Bool, cond-true, cond-false, cond_both, eqb-false, eqb-true, leb-true}
use Rattle.std.proofs.lemmas.List.{take-append-drop}
use Rattle.std.proofs.lemmas.List.Elements.{All-cons, All-nil}
use Rattle.std.proofs.lemmas.Slice.Eq.{bytes_eq-Decides}
use Rattle.algol_tree.specs.declared.TheConstants.{MOST_LINE_WIDTH}
use Rattle.algol_tree.specs.Spelling.{is_blank, is_digit}
use Rattle.b67_segment.specs.declared.code.Phrase.{Phrase}
use Rattle.b67_segment.specs.declared.code.Phrase.TheVariants.{Text, Number, Blanks}
use Rattle.b67_asm_text.specs.declared.number.TheConstants.{TOO_GREAT}
use Rattle.b67_asm_text.specs.declared.phrase.Stand.{Stand}
use Rattle.b67_asm_text.specs.declared.phrase.Stand.TheVariants.{Before, Due, Quoted, Sized, After, Closed, Wrong}
use Rattle.b67_asm_text.specs.Phrases.{Read, are_in_range, ended, fit_in, columns, is_printable, longer, phrases_at, phrases_in, read_phrases, quoted, read_from, sized, sized_phrase}
use Rattle.b67_asm.specs.Formats.{AreBlanks, PhraseStands, PhrasesStand, FormatStands, FormatsAreListed}
use Rattle.b67_asm.proofs.PhrasesBack.{IsTextByte, room_here, stands, listed_read}

abbrev IsBlank : ℕ → Type 0
IsBlank byte = is_blank byte ≡ true

-- ---- what stands in bytes, where the first of them stands so

-- the width of a phrase is the number that is written
abbrev IsExact : Phrase → Type 0
IsExact (Text text) = Unit {0}
IsExact (Number width) = width < TOO_GREAT
IsExact (Blanks width) = width < TOO_GREAT

abbrev AreExact : List Phrase → Type 0
AreExact [] = Unit {0}
AreExact (phrase ∷ phrases) = IsExact phrase × AreExact phrases

-- after a phrase: blanks, and then other phrases
record AfterFound (phrases : List Phrase) (bytes : List ℕ) : Type 0 where
  blanks : List ℕ
  rest : List ℕ
  are_blanks : AreBlanks blanks
  bytes_are : bytes ≡ blanks ++ rest
  stand : PhrasesStand (codes ",") phrases rest

record DueFound (phrases : List Phrase) (bytes : List ℕ) : Type 0 where
  first : Phrase
  more : List Phrase
  rest : List ℕ
  are : phrases ≡ first ∷ more
  here : PhraseStands first bytes rest
  later : PhrasesStand (codes ",") more rest

record BeforeFound (phrases : List Phrase) (bytes : List ℕ) : Type 0 where
  blanks : List ℕ
  rest : List ℕ
  some : 1 ≤ length phrases
  are_blanks : AreBlanks blanks
  bytes_are : bytes ≡ blanks ++ rest
  stand : PhrasesStand (codes "<") phrases rest

-- in a text, after the front of it
record QuotedFound (front : List ℕ) (phrases : List Phrase) (bytes : List ℕ) : Type 0 where
  own : List ℕ
  more : List Phrase
  rest : List ℕ
  are : phrases ≡ Text (front ++ own) ∷ more
  is_text : All IsTextByte own
  bytes_are : bytes ≡ own ++ 34 ∷ rest
  later : AfterFound more rest

-- before a width
record SizedFound (blanks : Bool) (phrases : List Phrase) (bytes : List ℕ) : Type 0 where
  width : ℕ
  more : List Phrase
  rest : List ℕ
  are : phrases ≡ sized_phrase blanks width ∷ more
  fits : width < TOO_GREAT
  bytes_are : bytes ≡ decimal width ++ rest
  later : AfterFound more rest

-- in a width, after a front of it that is worth so much
record WidthFound (blanks : Bool) (front : ℕ) (phrases : List Phrase) (bytes : List ℕ) : Type 0 where
  width : ℕ
  digits : List ℕ
  more : List Phrase
  rest : List ℕ
  are : phrases ≡ sized_phrase blanks width ∷ more
  fits : width < TOO_GREAT
  grown : front ≤ width
  whole : decimal front ++ digits ≡ decimal width
  bytes_are : bytes ≡ digits ++ rest
  later : AfterFound more rest

abbrev Found : Stand → List ℕ → List Phrase → List ℕ → Type 0
Found Before text phrases bytes = BeforeFound phrases bytes
Found Due text phrases bytes = DueFound phrases bytes
Found Quoted text phrases bytes = QuotedFound text phrases bytes
Found (Sized blanks None) text phrases bytes = SizedFound blanks phrases bytes
Found (Sized blanks (Some width)) text phrases bytes = WidthFound blanks width phrases bytes
Found After text phrases bytes = AfterFound phrases bytes
Found Closed text phrases bytes = (phrases ≡ []) × AreBlanks bytes
Found Wrong text phrases bytes = ⊥

-- the phrases that are read in the end are those that were read, and those that are found in the bytes
record Ends (stand : Stand) (text : List ℕ) (done all : List Phrase) (bytes : List ℕ) : Type 0 where
  more : List Phrase
  all_are : all ≡ done ++ more
  found : AreExact more → Found stand text more bytes

abbrev ReadsAll : Read → List Phrase → List ℕ → Type 0
ReadsAll r all bytes = phrases_at (read_from r bytes).stand (read_from r bytes).phrases ≡ Some all

-- ---- one byte more

module _ (all : List Phrase) (byte : ℕ) (bytes : List ℕ) (later : (r : Read) → ReadsAll r all bytes → Ends r.stand r.text r.phrases all bytes) where
  wrong_is : (stand : Stand) (text own : List ℕ) (done : List Phrase) → ReadsAll (stands Wrong own done) all bytes → Ends stand text done all (byte ∷ bytes)
  wrong_is stand text own done h =
      let x = later (stands Wrong own done) h in
      record { more = x.more; all_are = x.all_are; found = λ exact. absurd (x.found exact) }

  before_found : (text : List ℕ) (done : List Phrase) → ReadsAll (stands (if is_blank byte then Before else (if byte == 60 then Due else Wrong)) text done) all bytes → Ends Before text done all (byte ∷ bytes)
  before_found text done =
      let P : Stand → Type 0 = λ s. ReadsAll (stands s text done) all bytes → Ends Before text done all (byte ∷ bytes) in
      cond_both (is_blank byte) Before (if byte == 60 then Due else Wrong) P
      (λ e h.
      let x = later (stands Before text done) h in
      record {
        more = x.more;
        all_are = x.all_are;
        found = λ exact.
            let f = x.found exact in
            record { blanks = byte ∷ f.blanks; rest = f.rest; some = f.some; are_blanks = All-cons IsBlank byte f.blanks e f.are_blanks; bytes_are = ap (λ (bs : List ℕ). byte ∷ bs) f.bytes_are; stand = f.stand };
      })
      (λ e. cond_both (byte == 60) Due Wrong P
      (λ is h.
      let x = later (stands Due text done) h in
      record {
        more = x.more;
        all_are = x.all_are;
        found = λ exact.
            let f = x.found exact in
            let stand : PhrasesStand (codes "<") (f.first ∷ f.more) (byte ∷ bytes) = (bytes, f.rest, ap (λ (b : ℕ). b ∷ bytes) (eqb-true byte 60 is), f.here, f.later) in
            subst (λ (ps : List Phrase). BeforeFound ps (byte ∷ bytes)) (sym f.are)
            (record { blanks = []; rest = byte ∷ bytes; some = omega arith; are_blanks = All-nil IsBlank; bytes_are = refl; stand = stand });
      })
      (λ is h. wrong_is Before text text done h))

  due_found : (text : List ℕ) (done : List Phrase) → ReadsAll (stands (if is_blank byte then Due else (if byte == 34 then Quoted else (if byte == 73 then Sized false None else (if byte == 88 then Sized true None else Wrong)))) [] done) all bytes → Ends Due text done all (byte ∷ bytes)
  due_found text done =
      let P : Stand → Type 0 = λ s. ReadsAll (stands s [] done) all bytes → Ends Due text done all (byte ∷ bytes) in
      cond_both (is_blank byte) Due (if byte == 34 then Quoted else (if byte == 73 then Sized false None else (if byte == 88 then Sized true None else Wrong))) P
      (λ e h.
      let x = later (stands Due [] done) h in
      record {
        more = x.more;
        all_are = x.all_are;
        found = λ exact.
            let f = x.found exact in
            record {
              first = f.first;
              more = f.more;
              rest = f.rest;
              are = f.are;
              here = record { is_phrase = f.here.is_phrase; before = byte ∷ f.here.before; after = f.here.after; blanks_before = All-cons IsBlank byte f.here.before e f.here.blanks_before; blanks_after = f.here.blanks_after; bytes_are = ap (λ (bs : List ℕ). byte ∷ bs) f.here.bytes_are };
              later = f.later;
            };
      })
      (λ e. cond_both (byte == 34) Quoted (if byte == 73 then Sized false None else (if byte == 88 then Sized true None else Wrong)) P
      (λ is h.
      let x = later (stands Quoted [] done) h in
      record {
        more = x.more;
        all_are = x.all_are;
        found = λ exact.
            let f = x.found exact in
            record {
              first = Text f.own;
              more = f.more;
              rest = f.later.rest;
              are = f.are;
              here = record {
                is_phrase = f.is_text;
                before = [];
                after = f.later.blanks;
                blanks_before = All-nil IsBlank;
                blanks_after = f.later.are_blanks;
                bytes_are =
                    ap (λ (b : ℕ). b ∷ bytes) (eqb-true byte 34 is)
                    ∙ ap (λ (bs : List ℕ). 34 ∷ bs) (f.bytes_are ∙ ap (λ (bs : List ℕ). f.own ++ 34 ∷ bs) f.later.bytes_are ∙ sym (append_assoc f.own (34 ∷ []) (f.later.blanks ++ f.later.rest)));
              };
              later = f.later.stand;
            };
      })
      (λ e2. cond_both (byte == 73) (Sized false None) (if byte == 88 then Sized true None else Wrong) P
      (λ is h.
      let x = later (stands (Sized false None) [] done) h in
      record {
        more = x.more;
        all_are = x.all_are;
        found = λ exact.
            let f = x.found exact in
            record {
              first = Number f.width;
              more = f.more;
              rest = f.later.rest;
              are = f.are;
              here = record {
                is_phrase = omega (arith, f.fits);
                before = [];
                after = f.later.blanks;
                blanks_before = All-nil IsBlank;
                blanks_after = f.later.are_blanks;
                bytes_are =
                    ap (λ (b : ℕ). b ∷ bytes) (eqb-true byte 73 is)
                    ∙ ap (λ (bs : List ℕ). 73 ∷ bs) (f.bytes_are ∙ ap (λ (bs : List ℕ). decimal f.width ++ bs) f.later.bytes_are);
              };
              later = f.later.stand;
            };
      })
      (λ e3. cond_both (byte == 88) (Sized true None) Wrong P
      (λ is h.
      let x = later (stands (Sized true None) [] done) h in
      record {
        more = x.more;
        all_are = x.all_are;
        found = λ exact.
            let f = x.found exact in
            record {
              first = Blanks f.width;
              more = f.more;
              rest = f.later.rest;
              are = f.are;
              here = record {
                is_phrase = omega (arith, f.fits);
                before = [];
                after = f.later.blanks;
                blanks_before = All-nil IsBlank;
                blanks_after = f.later.are_blanks;
                bytes_are =
                    ap (λ (b : ℕ). b ∷ bytes) (eqb-true byte 88 is)
                    ∙ ap (λ (bs : List ℕ). 88 ∷ bs) (f.bytes_are ∙ ap (λ (bs : List ℕ). decimal f.width ++ bs) f.later.bytes_are);
              };
              later = f.later.stand;
            };
      })
      (λ is h. wrong_is Due text [] done h))))

  after_found : (text : List ℕ) (done : List Phrase) → ReadsAll (stands (if is_blank byte then After else (if byte == 44 then Due else (if byte == 62 then Closed else Wrong))) text done) all bytes → Ends After text done all (byte ∷ bytes)
  after_found text done =
      let P : Stand → Type 0 = λ s. ReadsAll (stands s text done) all bytes → Ends After text done all (byte ∷ bytes) in
      cond_both (is_blank byte) After (if byte == 44 then Due else (if byte == 62 then Closed else Wrong)) P
      (λ e h.
      let x = later (stands After text done) h in
      record {
        more = x.more;
        all_are = x.all_are;
        found = λ exact.
            let f = x.found exact in
            record { blanks = byte ∷ f.blanks; rest = f.rest; are_blanks = All-cons IsBlank byte f.blanks e f.are_blanks; bytes_are = ap (λ (bs : List ℕ). byte ∷ bs) f.bytes_are; stand = f.stand };
      })
      (λ e. cond_both (byte == 44) Due (if byte == 62 then Closed else Wrong) P
      (λ is h.
      let x = later (stands Due text done) h in
      record {
        more = x.more;
        all_are = x.all_are;
        found = λ exact.
            let f = x.found exact in
            let stand : PhrasesStand (codes ",") (f.first ∷ f.more) (byte ∷ bytes) = (bytes, f.rest, ap (λ (b : ℕ). b ∷ bytes) (eqb-true byte 44 is), f.here, f.later) in
            subst (λ (ps : List Phrase). AfterFound ps (byte ∷ bytes)) (sym f.are) (record { blanks = []; rest = byte ∷ bytes; are_blanks = All-nil IsBlank; bytes_are = refl; stand = stand });
      })
      (λ e2. cond_both (byte == 62) Closed Wrong P
      (λ is h.
      let x = later (stands Closed text done) h in
      record {
        more = x.more;
        all_are = x.all_are;
        found = λ exact.
            let f = x.found exact in
            let stand : PhrasesStand (codes ",") [] (byte ∷ bytes) = (bytes, ap (λ (b : ℕ). b ∷ bytes) (eqb-true byte 62 is), f.1) in
            subst (λ (ps : List Phrase). AfterFound ps (byte ∷ bytes)) (sym f.0) (record { blanks = []; rest = byte ∷ bytes; are_blanks = All-nil IsBlank; bytes_are = refl; stand = stand });
      })
      (λ is h. wrong_is After text text done h)))

  closed_found : (text : List ℕ) (done : List Phrase) → ReadsAll (stands (if is_blank byte then Closed else Wrong) text done) all bytes → Ends Closed text done all (byte ∷ bytes)
  closed_found text done =
      let P : Stand → Type 0 = λ s. ReadsAll (stands s text done) all bytes → Ends Closed text done all (byte ∷ bytes) in
      cond_both (is_blank byte) Closed Wrong P
      (λ e h.
      let x = later (stands Closed text done) h in
      record { more = x.more; all_are = x.all_are; found = λ exact. (let f = x.found exact in (f.0, All-cons IsBlank byte bytes e f.1)) })
      (λ e h. wrong_is Closed text text done h)

  quoted_found : (text : List ℕ) (done : List Phrase) → ReadsAll (quoted (stands Quoted text done) byte) all bytes → Ends Quoted text done all (byte ∷ bytes)
  quoted_found text done =
      let ended_text : Read = stands After text (done ++ Text text ∷ []) in
      let on : Read = stands Quoted (text ++ byte ∷ []) done in
      let P : Read → Type 0 = λ r. ReadsAll r all bytes → Ends Quoted text done all (byte ∷ bytes) in
      cond_both (byte == 34) ended_text (if is_printable byte then on else stands Wrong text done) P
      (λ is h.
      let x = later ended_text h in
      record {
        more = Text text ∷ x.more;
        all_are = x.all_are ∙ append_assoc done (Text text ∷ []) x.more;
        found = λ exact. record {
          own = [];
          more = x.more;
          rest = bytes;
          are = ap (λ (t : List ℕ). Text t ∷ x.more) (sym (append-nil text));
          is_text = All-nil IsTextByte;
          bytes_are = ap (λ (b : ℕ). b ∷ bytes) (eqb-true byte 34 is);
          later = x.found exact.1;
        };
      })
      (λ other. cond_both (is_printable byte) on (stands Wrong text done) P
      (λ is h.
      let x = later on h in
      let p = and_parts (nat_le 32 byte) (nat_le byte 126) is in
      record {
        more = x.more;
        all_are = x.all_are;
        found = λ exact.
            let f = x.found exact in
            record {
              own = byte ∷ f.own;
              more = f.more;
              rest = f.rest;
              are = f.are ∙ ap (λ (t : List ℕ). Text t ∷ f.more) (append_assoc text (byte ∷ []) f.own);
              is_text = All-cons IsTextByte byte f.own (leb-true 32 byte p.0, leb-true byte 126 p.1, eqb-false byte 34 other) f.is_text;
              bytes_are = ap (λ (bs : List ℕ). byte ∷ bs) f.bytes_are;
              later = f.later;
            };
      })
      (λ is h. wrong_is Quoted text text done h))

  -- a width has ended
  ended_found : (blanks : Bool) (width : ℕ) (text : List ℕ) (done : List Phrase) → ReadsAll (ended (stands (Sized blanks (Some width)) text done) blanks (Some width) byte) all bytes → Ends (Sized blanks (Some width)) text done all (byte ∷ bytes)
  ended_found blanks width text done h =
      let x = after_found text (done ++ sized_phrase blanks width ∷ []) h in
      record {
        more = sized_phrase blanks width ∷ x.more;
        all_are = x.all_are ∙ append_assoc done (sized_phrase blanks width ∷ []) x.more;
        found = λ exact. record {
          width = width;
          digits = [];
          more = x.more;
          rest = byte ∷ bytes;
          are = refl;
          fits = exact_width blanks width exact.0;
          grown = omega arith;
          whole = append-nil (decimal width);
          bytes_are = refl;
          later = x.found exact.1;
        };
      }
    where
      exact_width : (blanks : Bool) (width : ℕ) → IsExact (sized_phrase blanks width) → width < TOO_GREAT
      exact_width true width h = h
      exact_width false width h = h

  -- one digit more of it
  longer_found : (blanks : Bool) (width : ℕ) (text : List ℕ) (done : List Phrase) → is_digit byte ≡ true →
      ReadsAll (stands (if width == 0 then Wrong else Sized blanks (Some (min TOO_GREAT (10 * width + (byte - 48))))) text done) all bytes → Ends (Sized blanks (Some width)) text done all (byte ∷ bytes)
  longer_found blanks width text done digit =
      let p = and_parts (nat_le 48 byte) (nat_le byte 57) digit in
      let low : 48 ≤ byte = leb-true 48 byte p.0 in
      let high : byte ≤ 57 = leb-true byte 57 p.1 in
      let next : ℕ = min TOO_GREAT (10 * width + (byte - 48)) in
      let P : Stand → Type 0 = λ s. ReadsAll (stands s text done) all bytes → Ends (Sized blanks (Some width)) text done all (byte ∷ bytes) in
      cond_both (width == 0) Wrong (Sized blanks (Some next)) P
      (λ none h. wrong_is (Sized blanks (Some width)) text text done h)
      (λ some h.
      let x = later (stands (Sized blanks (Some next)) text done) h in
      let wide : width ≢ 0 = eqb-false width 0 some in
      record {
        more = x.more;
        all_are = x.all_are;
        found = λ exact.
            let f = x.found exact in
            let small : next < TOO_GREAT = omega (arith, f.grown, f.fits) in
            let is : next ≡ 10 * width + (byte - 48) = omega (arith, small) in
            record {
              width = f.width;
              digits = byte ∷ f.digits;
              more = f.more;
              rest = f.rest;
              are = f.are;
              fits = f.fits;
              grown = omega (arith, f.grown, is);
              whole =
                  sym (append_assoc (decimal width) (byte ∷ []) f.digits)
                  ∙ ap (λ (ds : List ℕ). ds ++ f.digits) (sym (one_more width byte next (some_width width wide) low high is (omega (arith, small))))
                  ∙ f.whole;
              bytes_are = ap (λ (bs : List ℕ). byte ∷ bs) f.bytes_are;
              later = f.later;
            };
      })
    where
      some_width : (width : ℕ) → width ≢ 0 → 1 ≤ width
      some_width width some = omega (arith, some)

      one_more : (width byte next : ℕ) → 1 ≤ width → 48 ≤ byte → byte ≤ 57 → next ≡ 10 * width + (byte - 48) → next < 65536 → decimal next ≡ decimal width ++ byte ∷ []
      one_more width byte next some low high is small =
          let front : next / 10 ≡ width = omega (arith, is) in
          let last : 48 + next % 10 ≡ byte = omega (arith, is) in
          decimal_step next (omega (arith, is)) (omega (arith, small)) ∙ ap (λ (d : ℕ). decimal (next / 10) ++ d ∷ []) last ∙ ap (λ (n : ℕ). decimal n ++ byte ∷ []) front

  -- the first digit
  first_found : (blanks : Bool) (text : List ℕ) (done : List Phrase) → is_digit byte ≡ true → ReadsAll (stands (Sized blanks (Some (byte - 48))) text done) all bytes → Ends (Sized blanks None) text done all (byte ∷ bytes)
  first_found blanks text done digit h =
      let p = and_parts (nat_le 48 byte) (nat_le byte 57) digit in
      let low : 48 ≤ byte = leb-true 48 byte p.0 in
      let high : byte ≤ 57 = leb-true byte 57 p.1 in
      let x = later (stands (Sized blanks (Some (byte - 48))) text done) h in
      let one : decimal (byte - 48) ≡ byte ∷ [] = decimal_digit (byte - 48) (omega arith) ∙ ap (λ (b : ℕ). b ∷ []) (back byte low) in
      record {
        more = x.more;
        all_are = x.all_are;
        found = λ exact.
            let f = x.found exact in
            record {
              width = f.width;
              more = f.more;
              rest = f.rest;
              are = f.are;
              fits = f.fits;
              bytes_are =
                  ap (λ (bs : List ℕ). byte ∷ bs) f.bytes_are
                  ∙ ap (λ (ds : List ℕ). ds ++ f.rest) (sym (ap (λ (ds : List ℕ). ds ++ f.digits) one) ∙ f.whole);
              later = f.later;
            };
      }
    where
      back : (byte : ℕ) → 48 ≤ byte → 48 + (byte - 48) ≡ byte
      back byte low = omega (arith, low)

  sized_found : (blanks : Bool) (width : Option ℕ) (text : List ℕ) (done : List Phrase) → ReadsAll (sized (stands (Sized blanks width) text done) blanks width byte) all bytes → Ends (Sized blanks width) text done all (byte ∷ bytes)
  sized_found blanks None text done =
      let P : Read → Type 0 = λ r. ReadsAll r all bytes → Ends (Sized blanks None) text done all (byte ∷ bytes) in
      cond_both (is_digit byte) (stands (longer blanks None byte) text done) (ended (stands (Sized blanks None) text done) blanks None byte) P
      (λ digit h. first_found blanks text done digit h)
      (λ digit h. wrong_is (Sized blanks None) text text done h)
  sized_found blanks (Some width) text done =
      let P : Read → Type 0 = λ r. ReadsAll r all bytes → Ends (Sized blanks (Some width)) text done all (byte ∷ bytes) in
      cond_both (is_digit byte) (stands (longer blanks (Some width) byte) text done) (ended (stands (Sized blanks (Some width)) text done) blanks (Some width) byte) P
      (λ digit h. longer_found blanks width text done digit h)
      (λ digit h. ended_found blanks width text done h)

-- ---- all bytes

each_found : (all : List Phrase) (bytes : List ℕ) (stand : Stand) (text : List ℕ) (done : List Phrase) → ReadsAll (stands stand text done) all bytes → Ends stand text done all bytes
each_found all [] Closed text done h =
    let s : Some done ≡ Some all = h in
    let same : all ≡ done = cc in
    record { more = []; all_are = same ∙ sym (append-nil done); found = λ exact. (refl, All-nil IsBlank) }
each_found all [] Before text done h = let clash : None ≡ Some all = h in absurd cc
each_found all [] Due text done h = let clash : None ≡ Some all = h in absurd cc
each_found all [] Quoted text done h = let clash : None ≡ Some all = h in absurd cc
each_found all [] (Sized blanks width) text done h = let clash : None ≡ Some all = h in absurd cc
each_found all [] After text done h = let clash : None ≡ Some all = h in absurd cc
each_found all [] Wrong text done h = let clash : None ≡ Some all = h in absurd cc
each_found all (byte ∷ bytes) Before text done h = before_found all byte bytes (λ r g. each_found all bytes r.stand r.text r.phrases g) text done h
each_found all (byte ∷ bytes) Due text done h = due_found all byte bytes (λ r g. each_found all bytes r.stand r.text r.phrases g) text done h
each_found all (byte ∷ bytes) Quoted text done h = quoted_found all byte bytes (λ r g. each_found all bytes r.stand r.text r.phrases g) text done h
each_found all (byte ∷ bytes) (Sized blanks width) text done h = sized_found all byte bytes (λ r g. each_found all bytes r.stand r.text r.phrases g) blanks width text done h
each_found all (byte ∷ bytes) After text done h = after_found all byte bytes (λ r g. each_found all bytes r.stand r.text r.phrases g) text done h
each_found all (byte ∷ bytes) Closed text done h = closed_found all byte bytes (λ r g. each_found all bytes r.stand r.text r.phrases g) text done h
each_found all (byte ∷ bytes) Wrong text done h = wrong_is all byte bytes (λ r g. each_found all bytes r.stand r.text r.phrases g) Wrong text text done h

exact_in : (left : ℕ) (phrases : List Phrase) → left ≤ 132 → fit_in left phrases ≡ true → AreExact phrases
exact_in left [] most fits = tt
exact_in left (phrase ∷ phrases) most fits =
    let room = room_here left phrase phrases fits in
    (exact phrase (omega (arith, most, room.0.1)), exact_in (left - columns phrase) phrases (omega (arith, most)) room.1)
  where
    exact : (phrase : Phrase) → columns phrase ≤ 132 → IsExact phrase
    exact (Text text) h = tt
    exact (Number width) h = omega (arith, h)
    exact (Blanks width) h = omega (arith, h)

-- phrases that are read of a record and fit a line stand there
listed_found : (bytes : List ℕ) (phrases : List Phrase) → are_in_range phrases ≡ true → phrases_in bytes ≡ Some phrases → FormatStands phrases bytes
unfolding phrases_in
listed_found bytes phrases fits h =
    let test = bytes_eq (take 6 bytes) (codes "FORMAT") in
    elim (cases_Bool test) [
      | inl is ↦
          let x = each_found phrases (drop 6 bytes) Before [] [] (sym (cond-true test (read_phrases (drop 6 bytes)) None is) ∙ h) in
          let f = x.found (subst AreExact x.all_are (exact_in MOST_LINE_WIDTH phrases (omega arith) fits)) in
          let word : take 6 bytes ≡ codes "FORMAT" = (bytes_eq-Decides (take 6 bytes) (codes "FORMAT")).0 is in
          subst (λ (ps : List Phrase). FormatStands ps bytes) (sym x.all_are)
          (record {
            some = f.some;
            blanks = f.blanks;
            are_blanks = f.are_blanks;
            rest = f.rest;
            stand = f.stand;
            bytes_are = sym (take-append-drop 6 bytes) ∙ ap (λ (bs : List ℕ). bs ++ drop 6 bytes) word ∙ ap (λ (bs : List ℕ). codes "FORMAT" ++ bs) f.bytes_are;
          })
      | inr other ↦ (let clash : None ≡ Some phrases = sym (cond-false test (read_phrases (drop 6 bytes)) None other) ∙ h in absurd cc)
    ]

pub formats_are_listed : FormatsAreListed
formats_are_listed bytes phrases fits = (listed_found bytes phrases fits, listed_read bytes phrases fits)
