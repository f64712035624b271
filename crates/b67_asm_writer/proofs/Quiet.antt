-- Lines in which no string and no comment begins, and their words.
use Rattle.std.proofs.Common.{◌≡◌, ◌≢◌, ℕ, ◌+◌, ◌≤◌, ◌==◌, ◌&&◌, Bool, true, false, not, List, [], ◌∷◌, ◌++◌, length, take, drop, Option, None, refl, sym, ap, subst, arith, ◌∙◌, inl, inr, append-nil, length-append}
use Rattle.std.specs.Prelude.{◌||◌, nat_le}
use Rattle.std.specs.List.{list_all, prefix_len}
use Rattle.std.proofs.lemmas.Bool.{and_from, and_left, and_parts, cond-true, cond-false, eqb-true, leb-true, ne_eqb, not_from_false, or_cases, or_from, or_left}
use Rattle.std.proofs.lemmas.List.{drop_all, drop_at, take_all, take_at}
use Rattle.std.proofs.lemmas.List.Folds.{list_all-append}
use Rattle.algol_tree.specs.Spelling.{is_blank}
use Rattle.b67_segment.specs.declared.code.Phrase.{Phrase}
use Rattle.b67_asm_text.specs.declared.item.Reading.{Reading}
use Rattle.b67_asm_text.specs.Records.{after_word, code_length, code_part, first_word, is_open_after, unblanked, word_length}
use Rattle.b67_asm_text.specs.Items.{alone, format_from, format_of, format_or, item_in, item_of, record_reading, reading_of, with_operand}
use Rattle.b67_asm_text.specs.Phrases.{phrases_in}

-- a byte of a word: digits, capitals, a comma
abbrev pub is_high : ℕ → Bool
is_high byte = nat_le 44 byte

abbrev pub are_high : List ℕ → Bool
are_high bytes = list_all is_high bytes

-- a byte of a word, or a blank
abbrev pub is_quiet : ℕ → Bool
is_quiet byte = is_high byte || (byte == 32)

abbrev pub are_quiet : List ℕ → Bool
are_quiet bytes = list_all is_quiet bytes

-- a quiet byte is no quote, no percent sign and no LF
pub record IsPlain (byte : ℕ) : Type 0 where
  pub percent : byte ≢ 37
  pub quote : byte ≢ 34
  pub feed : byte ≢ 10

pub plain_byte : (byte : ℕ) → is_quiet byte ≡ true → IsPlain byte
plain_byte byte h =
    elim (or_cases (is_high byte) (byte == 32) h) [
      | inl high ↦ (let l = leb-true 44 byte high in record { percent = λ e. omega (arith, l, e); quote = λ e. omega (arith, l, e); feed = λ e. omega (arith, l, e) })
      | inr blank ↦ (let l = eqb-true byte 32 blank in record { percent = λ e. omega (arith, l, e); quote = λ e. omega (arith, l, e); feed = λ e. omega (arith, l, e) })
    ]

pub high_quiet : (bytes : List ℕ) → are_high bytes ≡ true → are_quiet bytes ≡ true
high_quiet [] h = refl
high_quiet (b ∷ bs) h = let p = and_parts (is_high b) (are_high bs) h in and_from (is_quiet b) (are_quiet bs) (or_left (is_high b) (b == 32) p.0) (high_quiet bs p.1)

pub append_high : (xs ys : List ℕ) → are_high xs ≡ true → are_high ys ≡ true → are_high (xs ++ ys) ≡ true
append_high xs ys a b = list_all-append is_high xs ys ∙ and_from (are_high xs) (are_high ys) a b

pub append_quiet : (xs ys : List ℕ) → are_quiet xs ≡ true → are_quiet ys ≡ true → are_quiet (xs ++ ys) ≡ true
append_quiet xs ys a b = list_all-append is_quiet xs ys ∙ and_from (are_quiet xs) (are_quiet ys) a b

-- ---- no LF

abbrev pub is_no_feed : ℕ → Bool
is_no_feed byte = not (byte == 10)

abbrev pub has_no_feed : List ℕ → Bool
has_no_feed line = list_all is_no_feed line

pub append_no_feed : (xs ys : List ℕ) → has_no_feed xs ≡ true → has_no_feed ys ≡ true → has_no_feed (xs ++ ys) ≡ true
append_no_feed xs ys a b = list_all-append is_no_feed xs ys ∙ and_from (has_no_feed xs) (has_no_feed ys) a b

pub quiet_no_feed : (bytes : List ℕ) → are_quiet bytes ≡ true → has_no_feed bytes ≡ true
quiet_no_feed [] h = refl
quiet_no_feed (b ∷ bs) h =
    let p = and_parts (is_quiet b) (are_quiet bs) h in
    and_from (is_no_feed b) (has_no_feed bs) (not_from_false (b == 10) (ne_eqb b 10 (plain_byte b p.0).feed)) (quiet_no_feed bs p.1)

-- ---- no comment begins

-- outside a string, a byte that is no quote and no percent sign
pub outside : (b : ℕ) (rest : List ℕ) → b ≢ 37 → b ≢ 34 → code_length false rest ≡ length rest → code_length false (b ∷ rest) ≡ length (b ∷ rest)
outside b rest percent quote h =
    let none : ((b == 37) && not false) ≡ false = and_left (b == 37) (not false) (ne_eqb b 37 percent) in
    let closed : is_open_after false b ≡ false = cond-false (b == 34) (not false) false (ne_eqb b 34 quote) in
    let one : length rest + 1 ≡ length (b ∷ rest) = omega arith in
    cond-false ((b == 37) && not false) 0 (code_length (is_open_after false b) rest + 1) none
    ∙ ap (λ (q : Bool). code_length q rest + 1) closed ∙ ap (λ (n : ℕ). n + 1) h ∙ one

pub quiet_length : (bytes rest : List ℕ) → are_quiet bytes ≡ true → code_length false rest ≡ length rest → code_length false (bytes ++ rest) ≡ length (bytes ++ rest)
quiet_length [] rest h w = w
quiet_length (b ∷ bs) rest h w =
    let p = and_parts (is_quiet b) (are_quiet bs) h in
    let plain = plain_byte b p.0 in
    outside b (bs ++ rest) plain.percent plain.quote (quiet_length bs rest p.1 w)

-- so the line is all code
pub whole_code : (bytes : List ℕ) → code_length false bytes ≡ length bytes → code_part bytes ≡ bytes
whole_code bytes h = ap (λ (n : ℕ). take n bytes) h ∙ take_all (length bytes) bytes (omega arith)

quiet_code : (bytes : List ℕ) → are_quiet bytes ≡ true → code_part bytes ≡ bytes
quiet_code bytes h =
    let all : code_length false bytes ≡ length bytes =
    subst (λ (bs : List ℕ). code_length false bs ≡ length bs) (append-nil bytes) (quiet_length bytes [] h refl) in
    whole_code bytes all

-- ---- words

not_blank : (b : ℕ) → is_high b ≡ true → is_blank b ≡ false
not_blank b h = let l = leb-true 44 b h in or_from (b == 32) (b == 9) (ne_eqb b 32 (λ e. omega (arith, l, e))) (ne_eqb b 9 (λ e. omega (arith, l, e)))

pub high_first : (b : ℕ) (bs : List ℕ) → is_high b ≡ true → unblanked (b ∷ bs) ≡ b ∷ bs
high_first b bs h = ap (λ (n : ℕ). drop n (b ∷ bs)) (cond-false (is_blank b) (1 + prefix_len is_blank bs) 0 (not_blank b h))

abbrev no_blank : ℕ → Bool
no_blank byte = not (is_blank byte)

-- a word before a blank, or at the end
word_before : (word rest : List ℕ) → are_high word ≡ true → prefix_len no_blank rest ≡ 0 → word_length (word ++ rest) ≡ length word
word_before [] rest h stops = stops
word_before (b ∷ bs) rest h stops =
    let p = and_parts (is_high b) (are_high bs) h in
    let one : 1 + length bs ≡ length (b ∷ bs) = omega arith in
    cond-true (no_blank b) (1 + word_length (bs ++ rest)) 0 (not_from_false (is_blank b) (not_blank b p.0))
    ∙ ap (λ (n : ℕ). 1 + n) (word_before bs rest p.1 stops) ∙ one

word_first : (word rest : List ℕ) → 1 ≤ length word → are_high word ≡ true → unblanked (word ++ rest) ≡ word ++ rest
word_first [] rest some h = absurd (omega arith)
word_first (b ∷ bs) rest some h = high_first b (bs ++ rest) (and_parts (is_high b) (are_high bs) h).0

-- the first word, and what stands after it
record IsFirstWord (text word rest : List ℕ) : Type 0 where
  is : first_word text ≡ word
  after : after_word text ≡ rest

first_is : (word rest : List ℕ) → 1 ≤ length word → are_high word ≡ true → prefix_len no_blank rest ≡ 0 → IsFirstWord (word ++ rest) word rest
first_is word rest some h stops =
    let here = word_first word rest some h in
    let long = word_before word rest h stops in
    record {
      is = ap (λ (t : List ℕ). take (word_length t) t) here ∙ ap (λ (n : ℕ). take n (word ++ rest)) long ∙ take_at word rest (length word) refl;
      after = ap (λ (t : List ℕ). drop (word_length t) t) here ∙ ap (λ (n : ℕ). drop n (word ++ rest)) long ∙ drop_at word rest (length word) refl;
    }

-- after a blank
blank_first : (word : List ℕ) → 1 ≤ length word → are_high word ≡ true → unblanked (32 ∷ word) ≡ word
blank_first [] some h = absurd (omega arith)
blank_first (b ∷ bs) some h =
    let one : prefix_len is_blank (b ∷ bs) ≡ 0 = cond-false (is_blank b) (1 + prefix_len is_blank bs) 0 (not_blank b (and_parts (is_high b) (are_high bs) h).0) in
    ap (λ (n : ℕ). drop (1 + n) (32 ∷ b ∷ bs)) one

second_is : (word : List ℕ) → 1 ≤ length word → are_high word ≡ true → IsFirstWord (32 ∷ word) word []
second_is word some h =
    let here = blank_first word some h in
    let long : word_length word ≡ length word = ap word_length (sym (append-nil word)) ∙ word_before word [] h refl in
    record {
      is = ap (λ (t : List ℕ). take (word_length t) t) here ∙ ap (λ (n : ℕ). take n word) long ∙ take_all (length word) word (omega arith);
      after = ap (λ (t : List ℕ). drop (word_length t) t) here ∙ ap (λ (n : ℕ). drop n word) long ∙ drop_all (length word) word (omega arith);
    }

-- ---- the items of words

-- a line that is quiet and no format
record IsWords (line : List ℕ) : Type 0 where
  reads : record_reading line ≡ item_in line
  none : format_of line ≡ []

reads_some : (line : List ℕ) → 1 ≤ length line → phrases_in line ≡ None → reading_of line ≡ item_in line
reads_some [] some none = absurd (omega arith)
reads_some (b ∷ bs) some none = ap (λ (o : Option (List Phrase)). format_or o (b ∷ bs)) none

are_words : (line : List ℕ) → 1 ≤ length line → are_quiet line ≡ true → unblanked line ≡ line → phrases_in line ≡ None → IsWords line
unfolding record_reading format_of
are_words line some quiet first none =
    let here : unblanked (code_part line) ≡ line = ap unblanked (quiet_code line quiet) ∙ first in
    record {
      reads = ap reading_of here ∙ reads_some line some none;
      none = ap (λ (t : List ℕ). format_from (phrases_in t)) here ∙ ap format_from none;
    }

-- what a line is read as, and that it has no format
pub record IsReadAs (line : List ℕ) (item : Reading) : Type 0 where
  pub reads : record_reading line ≡ item
  pub none : format_of line ≡ []
  pub quiet : are_quiet line ≡ true

pub one_word : (word : List ℕ) → 1 ≤ length word → are_high word ≡ true → phrases_in word ≡ None → IsReadAs word (alone word)
one_word word some high none =
    let all : word ++ [] ≡ word = append-nil word in
    let w : IsFirstWord word word [] = subst (λ (t : List ℕ). IsFirstWord t word []) all (first_is word [] some high refl) in
    let words = are_words word some (high_quiet word high) (subst (λ (t : List ℕ). unblanked t ≡ t) all (word_first word [] some high)) none in
    record {
      reads =
          words.reads
          ∙ ap (λ (t : List ℕ). item_of t (first_word (after_word word)) (unblanked (after_word (after_word word)))) w.is
          ∙ ap (λ (t : List ℕ). item_of word (first_word t) (unblanked (after_word t))) w.after;
      none = words.none;
      quiet = high_quiet word high;
    }

longer_some : (xs ys : List ℕ) → 1 ≤ length xs → 1 ≤ length (xs ++ ys)
longer_some xs ys some = omega (arith, some, length-append xs ys)

some_operand : (word operand : List ℕ) → 1 ≤ length operand → item_of word operand [] ≡ with_operand word operand
some_operand word [] some = absurd (omega arith)
some_operand word (b ∷ bs) some = refl

pub two_words : (word operand : List ℕ) → 1 ≤ length word → are_high word ≡ true → 1 ≤ length operand → are_high operand ≡ true → phrases_in (word ++ 32 ∷ operand) ≡ None →
    IsReadAs (word ++ 32 ∷ operand) (with_operand word operand)
two_words word operand some high more high_operand none =
    let line = word ++ 32 ∷ operand in
    let w : IsFirstWord line word (32 ∷ operand) = first_is word (32 ∷ operand) some high refl in
    let o = second_is operand more high_operand in
    let quiet : are_quiet line ≡ true = append_quiet word (32 ∷ operand) (high_quiet word high) (high_quiet operand high_operand) in
    let long : 1 ≤ length line = longer_some word (32 ∷ operand) some in
    let words = are_words line long quiet (word_first word (32 ∷ operand) some high) none in
    record {
      reads =
          words.reads
          ∙ ap (λ (t : List ℕ). item_of t (first_word (after_word line)) (unblanked (after_word (after_word line)))) w.is
          ∙ ap (λ (t : List ℕ). item_of word (first_word t) (unblanked (after_word t))) w.after
          ∙ ap (λ (t : List ℕ). item_of word t (unblanked (after_word (32 ∷ operand)))) o.is
          ∙ ap (λ (t : List ℕ). item_of word operand (unblanked t)) o.after
          ∙ some_operand word operand more;
      none = words.none;
      quiet = quiet;
    }
