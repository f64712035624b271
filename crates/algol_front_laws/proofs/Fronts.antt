-- Something stands at the front of what is left of a record's columns.
use Rattle.std.proofs.Common.{◌≡◌, ◌≢◌, ◌⊎◌, inl, inr, ℕ, ◌+◌, ◌<◌, ◌≤◌, ◌==◌, Bool, true, false, not, cond, Option, Some, None, List, [], ◌∷◌, ◌++◌, length, length-append, refl, sym, ap, subst, arith}
use Rattle.std.specs.Prelude.{position, nat_le, unsigned_abs}
use Rattle.std.specs.Char.{to_ascii_uppercase}
use Rattle.std.specs.List.{list_all}
use Rattle.std.proofs.lemmas.Bool.Decides.{nat_tests}
use Rattle.b67_num.specs.Whole.{most}
use Rattle.algol_tree.specs.declared.TheConstants.{MOST_NAME_BYTES}
use Rattle.algol_tree.specs.declared.refusal.Code.{Code}
use Rattle.algol_tree.specs.declared.refusal.Code.TheVariants.{BadCharacter, OpenString, NumberTooWide, NameTooLong}
use Rattle.algol_tree.specs.declared.token.Reserved.{Reserved}
use Rattle.algol_tree.specs.declared.token.Reserved.TheVariants as reserved
use Rattle.algol_tree.specs.declared.token.Symbol.TheVariants as symbols
use Rattle.algol_tree.specs.declared.token.TokenKind.{TokenKind}
use Rattle.algol_tree.specs.declared.token.TokenKind.TheVariants as kinds
use Rattle.algol_tree.specs.Spelling.{is_blank, is_letter, is_name}
use Rattle.algol_tree.specs.Lexes.{Mode, Program, Comment, EndRemark, Front, Piece, Wrong, capitals, IsSpelled, token_of, front_of, remark_front, is_quote, is_printable, string_or, string_front, TokenStands, blank, percent, spelled, closed, unclosed, none, closing, commented, remarked, semicolon, period, passed}
use Rattle.algol_lexer.proofs.LexOnly.{spelled_some as token_some}
use Rattle.algol_lexer.proofs.LexTexts.{spells_no_end}
use Rattle.b67_list.proofs.Truths.{not_false}
use Rattle.algol_front_laws.proofs.Spelled.{name_spelled, spelled_some, letter_name, Token, NoToken, longest_token}

-- ---- what stands there fits

-- A piece has a byte, and ends within the text. No token of it is the end of the text.
abbrev pub IsNoEnd : Option TokenKind → Type 0
IsNoEnd None = Unit {0}
IsNoEnd (Some k) = k ≡ kinds.End → ⊥

abbrev pub FitsIn : Front → ℕ → Type 0
FitsIn (Piece size kind mode) n = (0 < size) × (size ≤ n) × IsNoEnd kind
FitsIn (Wrong skipped code) n = Unit {0}

module _ (size n : ℕ) (some : 0 < size) (within : size ≤ n) where
  word_fits : (w : Reserved) → FitsIn (front_of (kinds.Word w) size) n
  word_fits w = elim w as (λ v. FitsIn (front_of (kinds.Word v) size) n) [ reserved.Comment ↦ (some, within, tt) | _ ↦ (some, within, λ e. cc) ]

  choice_fits : (b : Bool) (k : TokenKind) (code : Code) → (k ≡ kinds.End → ⊥) → FitsIn (cond b (token_of k size) (Wrong 0 code)) n
  choice_fits true k code h = (some, within, h)
  choice_fits false k code h = tt

  front_fits : (k : TokenKind) → (k ≡ kinds.End → ⊥) → FitsIn (front_of k size) n
  front_fits (kinds.Word w) h = word_fits w
  front_fits (kinds.Name bytes) h = choice_fits (nat_le (length bytes) MOST_NAME_BYTES) (kinds.Name bytes) NameTooLong h
  front_fits (kinds.Number value) h = choice_fits (nat_le (unsigned_abs value) most) (kinds.Number value) NumberTooWide h
  front_fits (kinds.Text bytes) h = (some, within, h)
  front_fits (kinds.Symbol s) h = (some, within, h)
  front_fits kinds.End h = absurd (h refl)

  remark_fits : (k : TokenKind) → FitsIn (remark_front k size) n
  remark_fits (kinds.Word w) =
      elim w as (λ v. FitsIn (remark_front (kinds.Word v) size) n) [ reserved.End ↦ (some, within, λ e. cc) | reserved.Else ↦ (some, within, λ e. cc) | reserved.Until ↦ (some, within, λ e. cc) | _ ↦ (some, within, tt) ]
  remark_fits (kinds.Name bytes) = (some, within, tt)
  remark_fits (kinds.Number value) = (some, within, tt)
  remark_fits (kinds.Text bytes) = (some, within, tt)
  remark_fits (kinds.Symbol s) = (some, within, tt)
  remark_fits kinds.End = (some, within, tt)

string_fits : (inside : List ℕ) (n : ℕ) (bad : Option ℕ) → length inside + 2 ≤ n → FitsIn (string_or inside bad) n
string_fits inside n None within = (omega arith, within, λ e. cc)
string_fits inside n (Some k) within = tt

pub stands_fit : {m : Mode} {text : List ℕ} {f : Front} → TokenStands m text f → FitsIn f (length text)
stands_fit (blank b after h) = (omega arith, omega arith, tt)
stands_fit (percent after) = (omega arith, omega arith, tt)
stands_fit (spelled bytes after k s l) =
    front_fits (length bytes) (length (bytes ++ after)) (token_some bytes k s) (omega (arith, length-append bytes after)) k (spells_no_end s)
stands_fit (closed inside after h) =
    string_fits inside (length (34 ∷ (inside ++ 34 ∷ after))) (position (λ b. not (is_printable b)) inside) (omega (arith, length-append inside (34 ∷ after)))
stands_fit (unclosed after h) = tt
stands_fit (none b after n) = tt
stands_fit (closing after) = (omega arith, omega arith, tt)
stands_fit (commented b after h) = (omega arith, omega arith, tt)
stands_fit (remarked bytes after k s l h) =
    remark_fits (length bytes) (length (bytes ++ after)) (token_some bytes k s) (omega (arith, length-append bytes after)) k
stands_fit (semicolon after) = (omega arith, omega arith, λ e. cc)
stands_fit (period after) = (omega arith, omega arith, λ e. cc)
stands_fit (passed b after h i j) = (omega arith, omega arith, tt)

-- ---- there is one

pub record Fronted (m : Mode) (text : List ℕ) : Type 0 where
  pub front : Front
  pub stands : TokenStands m text front

fronted : {m : Mode} {text : List ℕ} (f : Front) → TokenStands m text f → Fronted m text
fronted f s = record { front = f; stands = s }

-- a byte is this one or another
data Is (b c : ℕ) : Type 0 where
  same : b ≡ c → Is b c
  other : b ≢ c → Is b c

is : (b c : ℕ) → Is b c
is b c = by_test (b == c) refl
  where
    by_test : (t : Bool) → (b == c) ≡ t → Is b c
    by_test true e = same (grind (arith, nat_tests))
    by_test false e = other (λ h. grind (arith, nat_tests))

-- ---- strings

abbrev no_quote : ℕ → Bool
no_quote b = not (is_quote b)

data Quoted (text : List ℕ) : Type 0 where
  quoted : (inside after : List ℕ) → text ≡ inside ++ 34 ∷ after → list_all no_quote inside ≡ true → Quoted text
  unquoted : list_all no_quote text ≡ true → Quoted text

no_quote_at : (b : ℕ) → b ≢ 34 → no_quote b ≡ true
no_quote_at b h = grind (arith, nat_tests)

up_to_quote : (text : List ℕ) → Quoted text
up_to_quote [] = unquoted refl
up_to_quote (b ∷ text) = by_byte (is b 34) (up_to_quote text)
  where
    onwards : (bs : List ℕ) → b ≢ 34 → list_all no_quote bs ≡ true → list_all no_quote (b ∷ bs) ≡ true
    onwards bs h e = rw (no_quote_at b h) e

    by_byte : Is b 34 → Quoted text → Quoted (b ∷ text)
    by_byte (same h) q = quoted [] text (ap (λ (x : ℕ). x ∷ text) h) refl
    by_byte (other h) (quoted inside after e i) = quoted (b ∷ inside) after (ap (λ (l : List ℕ). b ∷ l) e) (onwards inside h i)
    by_byte (other h) (unquoted i) = unquoted (onwards text h i)

string_stands : (after : List ℕ) → Quoted after → Fronted Program (34 ∷ after)
string_stands after (quoted inside rest e h) =
    subst (λ (l : List ℕ). Fronted Program (34 ∷ l)) (sym e) (fronted (string_front inside) (closed inside rest h))
string_stands after (unquoted h) = fronted (Wrong 0 OpenString) (unclosed after h)

-- ---- the program

token_stands : (b : ℕ) (after : List ℕ) → is_blank b ≡ false → b ≢ 37 → b ≢ 34 → Token [] (b ∷ after) ⊎ NoToken [] (b ∷ after) → Fronted Program (b ∷ after)
token_stands b after h p q (inl t) =
    subst (λ (l : List ℕ). Fronted Program l) (sym t.is) (fronted (front_of t.kind (length t.more)) (spelled t.more t.rest t.kind t.spelled t.longest))
token_stands b after h p q (inr n) =
    fronted (Wrong 0 BadCharacter) (none b after (record { blank = not_false (is_blank b) h; percent = p; quote = q; token = λ bytes rest k e s. n bytes rest k e s }))

program_stands : (b : ℕ) (after : List ℕ) → Fronted Program (b ∷ after)
program_stands b after = by_blank (is_blank b) refl
  where
    at_quote : b ≡ 34 → Fronted Program (b ∷ after)
    at_quote e = subst (λ (c : ℕ). Fronted Program (c ∷ after)) (sym e) (string_stands after (up_to_quote after))

    at_percent : b ≡ 37 → Fronted Program (b ∷ after)
    at_percent e = subst (λ (c : ℕ). Fronted Program (c ∷ after)) (sym e) (fronted (Piece (1 + length after) None Program) (percent after))

    by_quote : is_blank b ≡ false → b ≢ 37 → Is b 34 → Fronted Program (b ∷ after)
    by_quote h p (same e) = at_quote e
    by_quote h p (other q) = token_stands b after h p q (longest_token [] (b ∷ after))

    by_percent : is_blank b ≡ false → Is b 37 → Fronted Program (b ∷ after)
    by_percent h (same e) = at_percent e
    by_percent h (other p) = by_quote h p (is b 34)

    by_blank : (t : Bool) → is_blank b ≡ t → Fronted Program (b ∷ after)
    by_blank true h = fronted (Piece 1 None Program) (blank b after h)
    by_blank false h = by_percent h (is b 37)

-- ---- comments and remarks

comment_stands : (b : ℕ) (after : List ℕ) → Fronted Comment (b ∷ after)
comment_stands b after = by_byte (is b 59)
  where
    by_byte : Is b 59 → Fronted Comment (b ∷ after)
    by_byte (same e) = subst (λ (c : ℕ). Fronted Comment (c ∷ after)) (sym e) (fronted (Piece 1 None Program) (closing after))
    by_byte (other h) = fronted (Piece 1 None Comment) (commented b after h)

-- at a letter there is a name or a word
module _ (b : ℕ) (after : List ℕ) (l : is_letter (to_ascii_uppercase b) ≡ true) where
  letter_named : is_name (capitals (b ∷ [])) ≡ true
  letter_named = rw l refl

  is_named : (bytes rest : List ℕ) (k : TokenKind) → b ∷ after ≡ bytes ++ rest → IsSpelled bytes k → is_name (capitals bytes) ≡ true
  is_named [] rest k e s = absurd (let some : 0 < 0 = spelled_some s in omega (arith, some))
  is_named (c ∷ bytes) rest k e s =
      let first : b ≡ c = cc in
      letter_name s (subst (λ (x : ℕ). is_letter (to_ascii_uppercase x) ≡ true) first l)

  word_stands : Token [] (b ∷ after) ⊎ NoToken [] (b ∷ after) → Fronted EndRemark (b ∷ after)
  word_stands (inl t) =
      subst (λ (x : List ℕ). Fronted EndRemark x) (sym t.is)
      (fronted (remark_front t.kind (length t.more)) (remarked t.more t.rest t.kind t.spelled t.longest (is_named t.more t.rest t.kind t.is t.spelled)))
  word_stands (inr n) = let q = name_spelled (capitals (b ∷ [])) letter_named in absurd (n (b ∷ []) after q.0 refl q.1)

remark_stands : (b : ℕ) (after : List ℕ) → Fronted EndRemark (b ∷ after)
remark_stands b after = by_letter (is_letter (to_ascii_uppercase b)) refl
  where
    by_period : is_letter (to_ascii_uppercase b) ≡ false → b ≢ 59 → Is b 46 → Fronted EndRemark (b ∷ after)
    by_period h p (same e) = subst (λ (c : ℕ). Fronted EndRemark (c ∷ after)) (sym e) (fronted (token_of (kinds.Symbol symbols.Period) 1) (period after))
    by_period h p (other q) = fronted (Piece 1 None EndRemark) (passed b after (not_false (is_letter (to_ascii_uppercase b)) h) p q)

    by_semicolon : is_letter (to_ascii_uppercase b) ≡ false → Is b 59 → Fronted EndRemark (b ∷ after)
    by_semicolon h (same e) = subst (λ (c : ℕ). Fronted EndRemark (c ∷ after)) (sym e) (fronted (token_of (kinds.Symbol symbols.Semicolon) 1) (semicolon after))
    by_semicolon h (other p) = by_period h p (is b 46)

    by_letter : (t : Bool) → is_letter (to_ascii_uppercase b) ≡ t → Fronted EndRemark (b ∷ after)
    by_letter true l = word_stands b after l (longest_token [] (b ∷ after))
    by_letter false h = by_semicolon h (is b 59)

-- Whatever bytes these are, something stands there.
pub something_stands : (m : Mode) (b : ℕ) (after : List ℕ) → Fronted m (b ∷ after)
something_stands Program b after = program_stands b after
something_stands Comment b after = comment_stands b after
something_stands EndRemark b after = remark_stands b after
