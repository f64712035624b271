-- One thing at most stands at the front of a text.
use Rattle.std.proofs.Common.{◌≡◌, ◌≢◌, ℕ, ◌+◌, ◌<◌, ◌≤◌, Bool, true, false, not, ◌==◌, cond, List, [], ◌∷◌, ◌++◌, length, refl, sym, ◌∙◌, ap, subst, arith, length-append}
use Rattle.std.specs.Char.{to_ascii_uppercase}
use Rattle.std.specs.List.{list_all}
use Rattle.std.specs.Prelude.{Option, Some, None, position, nat_le, unsigned_abs}
use Rattle.std.proofs.lemmas.Bool.Decides.{nat_tests}
use Rattle.b67_num.specs.Whole.{most}
use Rattle.algol_tree.specs.declared.TheConstants.{MOST_NAME_BYTES}
use Rattle.algol_tree.specs.declared.refusal.Code.{Code}
use Rattle.algol_tree.specs.declared.refusal.Code.TheVariants.{BadCharacter, OpenString, NameTooLong, NumberTooWide}
use Rattle.algol_tree.specs.declared.token.Reserved.{Reserved}
use Rattle.algol_tree.specs.declared.token.Reserved.TheVariants as reserved
use Rattle.algol_tree.specs.declared.token.Symbol.{Symbol}
use Rattle.algol_tree.specs.declared.token.Symbol.TheVariants as symbols
use Rattle.algol_tree.specs.declared.token.TokenKind.{TokenKind}
use Rattle.algol_tree.specs.declared.token.TokenKind.TheVariants as kinds
use Rattle.algol_tree.specs.Spelling.{is_letter, is_digit, is_blank, is_name, is_number, drawn}
use Rattle.algol_tree.specs.Lexes.{Mode, Program, Comment, EndRemark, Front, Piece, Wrong, capitals, IsSpelled, IsLongest, token_of, front_of, remark_front, is_printable, string_or, string_front, BeginsNone, TokenStands, blank, percent, spelled, closed, unclosed, none, closing, commented, remarked, semicolon, period, passed}
use Rattle.b67_list.proofs.Truths.{not_true_is}
use Rattle.algol_lexer.proofs.LexSpelling.{Shape, letters, digits, mark, shape_of, is_letter_head, is_digit_head, length_shape_pos}
use Rattle.algol_lexer.proofs.LexFronts.{one_front}
use Rattle.algol_lexer.proofs.LexCapitals.{is_digit_uppercase, length_capitals, capitals_append, longest_of, drawn_from}
use Rattle.algol_lexer.proofs.LexStrings.{found_at, no_quote, same_inside, not_closed}

-- two fronts of a text that are spelled are one
pub record IsOne (xs ys : List ℕ) (k j : TokenKind) : Type 0 where
  pub size : length xs ≡ length ys
  pub kind : k ≡ j

pub one_spelled : (xs ys a b : List ℕ) (k j : TokenKind) → xs ++ a ≡ ys ++ b → IsSpelled xs k → IsLongest xs a → IsSpelled ys j → IsLongest ys b → IsOne xs ys k j
one_spelled xs ys a b k j e s g t h =
    let big : capitals xs ++ capitals a ≡ capitals ys ++ capitals b = sym (capitals_append xs a) ∙ ap capitals e ∙ capitals_append ys b in
    let one = one_front (capitals xs) (capitals ys) (capitals a) (capitals b) k j big s (longest_of xs a g) t (longest_of ys b h) in
    record { size = sym (length_capitals xs) ∙ ap length one.bytes ∙ length_capitals ys; kind = one.kind }

-- by its first byte, a text in the program begins with a blank, a percent sign, a string, or something else
data Sort : Type 0 where
  Blank : Sort
  Percent : Sort
  Quote : Sort
  Rest : Sort

abbrev sort_at : ℕ → Sort
sort_at b = cond (is_blank b) Blank (cond (b == 37) Percent (cond (b == 34) Quote Rest))

abbrev sort_of : List ℕ → Sort
sort_of [] = Rest
sort_of (b ∷ bytes) = sort_at b

data IsString : List ℕ → Front → Type 0 where
  closed_string : (text inside after : List ℕ) → text ≡ 34 ∷ (inside ++ 34 ∷ after) → list_all no_quote inside ≡ true → IsString text (string_front inside)
  open_string : (text after : List ℕ) → text ≡ 34 ∷ after → list_all no_quote after ≡ true → IsString text (Wrong 0 OpenString)

data IsToken : List ℕ → Front → Type 0 where
  token : (text bytes after : List ℕ) (k : TokenKind) → text ≡ bytes ++ after → IsSpelled bytes k → IsLongest bytes after → IsToken text (front_of k (length bytes))
  no_token : (text : List ℕ) (b : ℕ) (after : List ℕ) → text ≡ b ∷ after → BeginsNone b after → IsToken text (Wrong 0 BadCharacter)

one_string : {text : List ℕ} {f g : Front} → IsString text f → IsString text g → f ≡ g
one_string (closed_string text xs a e h) (closed_string text' ys b f i) =
    let tails : xs ++ 34 ∷ a ≡ ys ++ 34 ∷ b = let whole = sym e ∙ f in cc in
    ap string_front (same_inside xs ys a b h i tails)
one_string (closed_string text xs a e h) (open_string text' b f i) =
    let tails : b ≡ xs ++ 34 ∷ a = let whole = sym f ∙ e in cc in
    absurd (not_closed xs a (ap (list_all no_quote) (sym tails) ∙ i))
one_string (open_string text b f i) (closed_string text' xs a e h) =
    let tails : b ≡ xs ++ 34 ∷ a = let whole = sym f ∙ e in cc in
    absurd (not_closed xs a (ap (list_all no_quote) (sym tails) ∙ i))
one_string (open_string text a e h) (open_string text' b f i) = refl

one_token : {text : List ℕ} {f g : Front} → IsToken text f → IsToken text g → f ≡ g
one_token (token text xs a k e s l) (token text' ys b j f t m) =
    let one = one_spelled xs ys a b k j (sym e ∙ f) s l t m in
    ap (λ (n : ℕ). front_of k n) one.size ∙ ap (λ (i : TokenKind). front_of i (length ys)) one.kind
one_token (token text xs a k e s l) (no_token text' b after f n) = absurd (n.token xs a k (sym f ∙ e) s)
one_token (no_token text b after f n) (token text' xs a k e s l) = absurd (n.token xs a k (sym f ∙ e) s)
one_token (no_token text b a e n) (no_token text' c d f m) = refl

-- what is said of each sort
abbrev OfSort : Sort → List ℕ → Front → Type 0
OfSort Blank text f = f ≡ Piece 1 None Program
OfSort Percent text f = f ≡ Piece (length text) None Program
OfSort Quote text f = IsString text f
OfSort Rest text f = IsToken text f

one_of_sort : (sort : Sort) (text : List ℕ) (f g : Front) → OfSort sort text f → OfSort sort text g → f ≡ g
one_of_sort Blank text f g p q = p ∙ sym q
one_of_sort Percent text f g p q = p ∙ sym q
one_of_sort Quote text f g p q = one_string p q
one_of_sort Rest text f g p q = one_token p q

-- by its first byte, a text in a remark begins with a word, a semicolon, a period, or something else
data Sign : Type 0 where
  Letter : Sign
  Semicolon : Sign
  Period : Sign
  Other : Sign

abbrev sign_at : ℕ → Sign
sign_at b = cond (is_letter (to_ascii_uppercase b)) Letter (cond (b == 59) Semicolon (cond (b == 46) Period Other))

abbrev sign_of : List ℕ → Sign
sign_of [] = Other
sign_of (b ∷ bytes) = sign_at b

data IsWord : List ℕ → Front → Type 0 where
  whole_word : (text bytes after : List ℕ) (k : TokenKind) → text ≡ bytes ++ after → IsSpelled bytes k → IsLongest bytes after → IsWord text (remark_front k (length bytes))

one_word : {text : List ℕ} {f g : Front} → IsWord text f → IsWord text g → f ≡ g
one_word (whole_word text xs a k e s l) (whole_word text' ys b j f t m) =
    let one = one_spelled xs ys a b k j (sym e ∙ f) s l t m in
    ap (λ (n : ℕ). remark_front k n) one.size ∙ ap (λ (i : TokenKind). remark_front i (length ys)) one.kind

abbrev OfSign : Sign → List ℕ → Front → Type 0
OfSign Letter text f = IsWord text f
OfSign Semicolon text f = f ≡ token_of (kinds.Symbol symbols.Semicolon) 1
OfSign Period text f = f ≡ token_of (kinds.Symbol symbols.Period) 1
OfSign Other text f = f ≡ Piece 1 None EndRemark

one_of_sign : (sign : Sign) (text : List ℕ) (f g : Front) → OfSign sign text f → OfSign sign text g → f ≡ g
one_of_sign Letter text f g p q = one_word p q
one_of_sign Semicolon text f g p q = p ∙ sym q
one_of_sign Period text f g p q = p ∙ sym q
one_of_sign Other text f g p q = p ∙ sym q

-- a comment's text begins with a semicolon or with something else
abbrev comment_at : ℕ → Front
comment_at b = cond (b == 59) (Piece 1 None Program) (Piece 1 None Comment)

abbrev comment_of : List ℕ → Front
comment_of [] = Piece 0 None Comment
comment_of (b ∷ bytes) = comment_at b

abbrev OfMode : Mode → List ℕ → Front → Type 0
OfMode Program text f = OfSort (sort_of text) text f
OfMode Comment text f = f ≡ comment_of text
OfMode EndRemark text f = OfSign (sign_of text) text f

one_of_mode : (m : Mode) (text : List ℕ) (f g : Front) → OfMode m text f → OfMode m text g → f ≡ g
one_of_mode Program text f g p q = one_of_sort (sort_of text) text f g p q
one_of_mode Comment text f g p q = p ∙ sym q
one_of_mode EndRemark text f g p q = one_of_sign (sign_of text) text f g p q

-- what is spelled begins with a letter, with a digit or with a symbol's first byte, and so is of the last sort
blank_sort : (b : ℕ) → is_blank b ≡ true → sort_at b ≡ Blank
blank_sort b h = rw h

sort_letter : (b : ℕ) → is_letter (to_ascii_uppercase b) ≡ true → sort_at b ≡ Rest
sort_letter b h =
    let p : is_blank b ≡ false = grind (arith, nat_tests) in
    let q : (b == 37) ≡ false = grind (arith, nat_tests) in
    let r : (b == 34) ≡ false = grind (arith, nat_tests) in
    rw (p, q, r)

sort_digit : (b : ℕ) → is_digit b ≡ true → sort_at b ≡ Rest
sort_digit b h =
    let p : is_blank b ≡ false = grind (arith, nat_tests) in
    let q : (b == 37) ≡ false = grind (arith, nat_tests) in
    let r : (b == 34) ≡ false = grind (arith, nat_tests) in
    rw (p, q, r)

sort_drawn : (s : Symbol) → sort_of (drawn s) ≡ Rest
sort_drawn s = elim s as (λ v. sort_of (drawn v) ≡ Rest) [ symbols.Plus ↦ refl | _ ↦ refl ]

sort_shape : (bytes after big : List ℕ) → capitals bytes ≡ big → Shape big → sort_of (bytes ++ after) ≡ Rest
sort_shape [] after big e shape = let some = length_shape_pos shape in absurd (omega (arith, ap length e))
sort_shape (b ∷ bytes) after big e (letters big' h) = sort_letter b (is_letter_head (to_ascii_uppercase b) (capitals bytes) (ap is_name e ∙ h))
sort_shape (b ∷ bytes) after big e (digits big' h) = sort_digit b (sym (is_digit_uppercase b) ∙ is_digit_head (to_ascii_uppercase b) (capitals bytes) (ap is_number e ∙ h))
sort_shape (b ∷ bytes) after big e (mark s) = ap sort_of (drawn_from (b ∷ bytes) s e) ∙ sort_drawn s

sort_none : (b : ℕ) (after : List ℕ) → BeginsNone b after → sort_at b ≡ Rest
sort_none b after n =
    let h = not_true_is (is_blank b) n.blank in
    let i = n.percent in
    let j = n.quote in
    let q : (b == 37) ≡ false = grind (arith, nat_tests) in
    let r : (b == 34) ≡ false = grind (arith, nat_tests) in
    rw (h, q, r)

sign_letter : (b : ℕ) → is_letter (to_ascii_uppercase b) ≡ true → sign_at b ≡ Letter
sign_letter b h = rw h

sign_word : (bytes after : List ℕ) → is_name (capitals bytes) ≡ true → sign_of (bytes ++ after) ≡ Letter
sign_word [] after h = absurd cc
sign_word (b ∷ bytes) after h = sign_letter b (is_letter_head (to_ascii_uppercase b) (capitals bytes) h)

sign_other : (b : ℕ) → is_letter (to_ascii_uppercase b) ≡ false → b ≢ 59 → b ≢ 46 → sign_at b ≡ Other
sign_other b h i j =
    let q : (b == 59) ≡ false = grind (arith, nat_tests) in
    let r : (b == 46) ≡ false = grind (arith, nat_tests) in
    rw (h, q, r)

comment_other : (b : ℕ) → b ≢ 59 → Piece 1 None Comment ≡ comment_at b
comment_other b h =
    let q : (b == 59) ≡ false = grind (arith, nat_tests) in
    rw q

of_sort : (text : List ℕ) (f : Front) (sort : Sort) → sort_of text ≡ sort → OfSort sort text f → OfSort (sort_of text) text f
of_sort text f sort e p = subst (λ (s : Sort). OfSort s text f) (sym e) p

of_sign : (text : List ℕ) (f : Front) (sign : Sign) → sign_of text ≡ sign → OfSign sign text f → OfSign (sign_of text) text f
of_sign text f sign e p = subst (λ (s : Sign). OfSign s text f) (sym e) p

of_mode : {m : Mode} {text : List ℕ} {f : Front} → TokenStands m text f → OfMode m text f
of_mode (blank b after h) = of_sort (b ∷ after) (Piece 1 None Program) Blank (blank_sort b h) refl
of_mode (percent after) = let size : 1 + length after ≡ length (37 ∷ after) = omega arith in ap (λ (n : ℕ). Piece n None Program) size
of_mode (spelled bytes after k s l) = of_sort (bytes ++ after) (front_of k (length bytes)) Rest (sort_shape bytes after (capitals bytes) refl (shape_of s)) (token (bytes ++ after) bytes after k refl s l)
of_mode (closed inside after h) = closed_string (34 ∷ (inside ++ 34 ∷ after)) inside after refl h
of_mode (unclosed after h) = open_string (34 ∷ after) after refl h
of_mode (none b after n) = of_sort (b ∷ after) (Wrong 0 BadCharacter) Rest (sort_none b after n) (no_token (b ∷ after) b after refl n)
of_mode (closing after) = refl
of_mode (commented b after h) = comment_other b h
of_mode (remarked bytes after k s l h) = of_sign (bytes ++ after) (remark_front k (length bytes)) Letter (sign_word bytes after h) (whole_word (bytes ++ after) bytes after k refl s l)
of_mode (semicolon after) = refl
of_mode (period after) = refl
of_mode (passed b after h i j) = of_sign (b ∷ after) (Piece 1 None EndRemark) Other (sign_other b (not_true_is (is_letter (to_ascii_uppercase b)) h) i j) refl

-- One thing at most stands there.
pub one_stands : {m : Mode} {text : List ℕ} {f g : Front} → TokenStands m text f → TokenStands m text g → f ≡ g
one_stands {m} {text} {f} {g} s t = one_of_mode m text f g (of_mode s) (of_mode t)

-- a piece has a byte, and ends within the text; what is wrong stands within it
abbrev pub FitsIn : Front → ℕ → Type 0
FitsIn (Piece size kind mode) n = (0 < size) × (size ≤ n)
FitsIn (Wrong skipped code) n = skipped < n

word_fits : (w : Reserved) (n len : ℕ) → 0 < n → n ≤ len → FitsIn (front_of (kinds.Word w) n) len
word_fits w n len some within = elim w as (λ v. FitsIn (front_of (kinds.Word v) n) len) [ reserved.And ↦ (some, within) | _ ↦ (some, within) ]

choice_fits : (b : Bool) (k : TokenKind) (code : Code) (n len : ℕ) → 0 < n → n ≤ len → FitsIn (cond b (token_of k n) (Wrong 0 code)) len
choice_fits true k code n len some within = (some, within)
choice_fits false k code n len some within = omega arith

front_fits : (k : TokenKind) (n len : ℕ) → 0 < n → n ≤ len → FitsIn (front_of k n) len
front_fits (kinds.Word w) n len some within = word_fits w n len some within
front_fits (kinds.Name bytes) n len some within = choice_fits (nat_le (length bytes) MOST_NAME_BYTES) (kinds.Name bytes) NameTooLong n len some within
front_fits (kinds.Number value) n len some within = choice_fits (nat_le (unsigned_abs value) most) (kinds.Number value) NumberTooWide n len some within
front_fits (kinds.Text bytes) n len some within = (some, within)
front_fits (kinds.Symbol s) n len some within = (some, within)
front_fits kinds.End n len some within = (some, within)

remark_fits : (k : TokenKind) (n len : ℕ) → 0 < n → n ≤ len → FitsIn (remark_front k n) len
remark_fits (kinds.Word w) n len some within = elim w as (λ v. FitsIn (remark_front (kinds.Word v) n) len) [ reserved.And ↦ (some, within) | _ ↦ (some, within) ]
remark_fits (kinds.Name bytes) n len some within = (some, within)
remark_fits (kinds.Number value) n len some within = (some, within)
remark_fits (kinds.Text bytes) n len some within = (some, within)
remark_fits (kinds.Symbol s) n len some within = (some, within)
remark_fits kinds.End n len some within = (some, within)

string_fits : (inside : List ℕ) (o : Option ℕ) (len : ℕ) → length inside + 2 ≤ len → position (λ b. not (is_printable b)) inside ≡ o → FitsIn (string_or inside o) len
string_fits inside None len within e = let some : 0 < length inside + 2 = omega arith in (some, within)
string_fits inside (Some k) len within e = let f = found_at (λ b. not (is_printable b)) inside k e in omega (arith, f.within)

pub spelled_some : (bytes : List ℕ) (k : TokenKind) → IsSpelled bytes k → 0 < length bytes
spelled_some bytes k s = omega (arith, length_shape_pos (shape_of s), length_capitals bytes)

pub stands_fits : {m : Mode} {text : List ℕ} {f : Front} → TokenStands m text f → FitsIn f (length text)
stands_fits (blank b after h) = (omega arith, omega arith)
stands_fits (percent after) = (omega arith, omega arith)
stands_fits (spelled bytes after k s l) = front_fits k (length bytes) (length (bytes ++ after)) (spelled_some bytes k s) (omega (arith, length-append bytes after))
stands_fits (closed inside after h) = string_fits inside (position (λ b. not (is_printable b)) inside) (length (34 ∷ (inside ++ 34 ∷ after))) (omega (arith, length-append inside (34 ∷ after))) refl
stands_fits (unclosed after h) = omega arith
stands_fits (none b after n) = omega arith
stands_fits (closing after) = (omega arith, omega arith)
stands_fits (commented b after h) = (omega arith, omega arith)
stands_fits (remarked bytes after k s l h) = remark_fits k (length bytes) (length (bytes ++ after)) (spelled_some bytes k s) (omega (arith, length-append bytes after))
stands_fits (semicolon after) = (omega arith, omega arith)
stands_fits (period after) = (omega arith, omega arith)
stands_fits (passed b after h i j) = (omega arith, omega arith)
