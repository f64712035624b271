-- What stands at the front of a text, from what its first bytes are.
use Rattle.std.proofs.Common.{◌≡◌, ℕ, ◌<◌, ◌≤◌, Bool, true, false, not, List, [], ◌∷◌, ◌++◌, length, take, drop, get_or, pos, refl, sym, ◌∙◌, ap, subst, arith, length-append, length-take-le, take-append-drop}
use Rattle.std.specs.Char.{to_ascii_uppercase}
use Rattle.std.specs.List.{list_all, prefix_len}
use Rattle.std.proofs.lemmas.Bool.Decides.{nat_tests}
use Rattle.std.proofs.lemmas.List.{append_assoc}
use Rattle.std.proofs.lemmas.List.Sums.{prefix_len-le-length}
use Rattle.b67_num.specs.Whole.{most}
use Rattle.algol_tree.specs.declared.TheConstants.{MOST_NAME_BYTES}
use Rattle.algol_tree.specs.declared.refusal.Code.TheVariants.{BadCharacter, NumberTooWide, NameTooLong}
use Rattle.algol_tree.specs.declared.token.Reserved.{Reserved}
use Rattle.algol_tree.specs.declared.token.Reserved.TheVariants as reserved
use Rattle.algol_tree.specs.declared.token.Symbol.{Symbol}
use Rattle.algol_tree.specs.declared.token.TokenKind.{TokenKind}
use Rattle.algol_tree.specs.declared.token.TokenKind.TheVariants as kinds
use Rattle.algol_tree.specs.Spelling.{is_letter, is_digit, is_letter_or_digit, is_name, is_number, written, drawn, value_of, IsReserved, Spells, word, name, number, symbol}
use Rattle.algol_tree.specs.Lexes.{Program, EndRemark, Wrong, capitals, IsSpelled, IsLongest, token_of, word_front, front_of, remark_front, TokenStands, spelled, none, remarked}
use Rattle.algol_lexer.specs.Symbols.{BeginsWithSymbol}
use Rattle.algol_lexer.specs.Runs.{in_word, IsNoOther}
use Rattle.algol_lexer.proofs.LexSpelling.{Shape, letters, digits, mark, shape_of, is_letter_head, is_digit_head, length_shape_pos}
use Rattle.algol_lexer.proofs.LexFronts.{IsLongestOf}
use Rattle.algol_lexer.proofs.LexFound.{first_passes, first_passes_append, first_passes_drawn, shape_mark, name_run_at, name_run_longest, number_run_at, number_run_longest, list_all_take_while}
use Rattle.algol_lexer.proofs.LexCapitals.{is_digit_uppercase, capitals_digits, prefix_len_capitals, in_word_uppercase, length_capitals, take_capitals, drop_capitals, capitals_append, longest_from, capitals_drawn, drawn_from}

-- the front of a text, where it has so many bytes
pub spelled_at : (text : List ℕ) (n : ℕ) (k : TokenKind) → n ≤ length text → IsSpelled (take n text) k → IsLongest (take n text) (drop n text) → TokenStands Program text (front_of k n)
spelled_at text n k within s g =
    let here : TokenStands Program (take n text ++ drop n text) (front_of k (length (take n text))) = spelled (take n text) (drop n text) k s g in
    let sized : TokenStands Program (take n text ++ drop n text) (front_of k n) = subst (λ (m : ℕ). TokenStands Program (take n text ++ drop n text) (front_of k m)) (length-take-le n text within) here in
    subst (λ (l : List ℕ). TokenStands Program l (front_of k n)) (take-append-drop n text) sized

pub remarked_at : (text : List ℕ) (n : ℕ) (k : TokenKind) → n ≤ length text → IsSpelled (take n text) k → IsLongest (take n text) (drop n text) → is_name (capitals (take n text)) ≡ true → TokenStands EndRemark text (remark_front k n)
remarked_at text n k within s g h =
    let here : TokenStands EndRemark (take n text ++ drop n text) (remark_front k (length (take n text))) = remarked (take n text) (drop n text) k s g h in
    let sized : TokenStands EndRemark (take n text ++ drop n text) (remark_front k n) = subst (λ (m : ℕ). TokenStands EndRemark (take n text ++ drop n text) (remark_front k m)) (length-take-le n text within) here in
    subst (λ (l : List ℕ). TokenStands EndRemark l (remark_front k n)) (take-append-drop n text) sized

-- the run of letters and digits at a letter
pub record Run (text : List ℕ) (n : ℕ) : Type 0 where
  pub within : n ≤ length text
  pub shape : is_name (capitals (take n text)) ≡ true
  pub longest : IsLongest (take n text) (drop n text)

run_of_prefix : (text : List ℕ) → 0 < length text → is_letter (to_ascii_uppercase (get_or text 0 0)) ≡ true → Run text (prefix_len is_letter_or_digit (capitals text))
run_of_prefix [] some letter = absurd (omega arith)
run_of_prefix (b ∷ text) some letter =
    let n : ℕ = prefix_len is_letter_or_digit (capitals (b ∷ text)) in
    let there : 0 < length (capitals (b ∷ text)) = omega (arith, length_capitals (b ∷ text)) in
    let shape = name_run_at (capitals (b ∷ text)) there letter in
    let longest = name_run_longest (capitals (b ∷ text)) shape in
    let taken : take n (capitals (b ∷ text)) ≡ capitals (take n (b ∷ text)) = take_capitals n (b ∷ text) in
    let dropped : drop n (capitals (b ∷ text)) ≡ capitals (drop n (b ∷ text)) = drop_capitals n (b ∷ text) in
    record {
      within = omega (arith, prefix_len-le-length is_letter_or_digit (capitals (b ∷ text)), length_capitals (b ∷ text));
      shape = ap is_name (sym taken) ∙ shape;
      longest = longest_from (take n (b ∷ text)) (drop n (b ∷ text)) (subst (λ (l : List ℕ). IsLongestOf (capitals (take n (b ∷ text))) l) dropped (subst (λ (l : List ℕ). IsLongestOf l (drop n (capitals (b ∷ text)))) taken longest));
    }

pub run_at : (text : List ℕ) (n : ℕ) → 0 < length text → is_letter (to_ascii_uppercase (get_or text 0 0)) ≡ true → n ≡ prefix_len in_word text → Run text n
run_at text n some letter e = subst (Run text) (prefix_len_capitals is_letter_or_digit in_word in_word_uppercase text ∙ sym e) (run_of_prefix text some letter)

-- a word, and a name, which may be too long
pub spells_word : (bytes : List ℕ) (w : Reserved) → bytes ≡ written w → Spells bytes (kinds.Word w)
spells_word bytes w e = subst (λ (l : List ℕ). Spells l (kinds.Word w)) (sym e) (word w)

pub word_at : (text : List ℕ) (n : ℕ) (w : Reserved) → Run text n → capitals (take n text) ≡ written w → TokenStands Program text (word_front w n)
word_at text n w run e = spelled_at text n (kinds.Word w) run.within (spells_word (capitals (take n text)) w e) run.longest

name_front : (bytes : List ℕ) (n : ℕ) → length bytes ≤ MOST_NAME_BYTES → front_of (kinds.Name bytes) n ≡ token_of (kinds.Name bytes) n
name_front bytes n le = grind (arith, nat_tests)

long_front : (bytes : List ℕ) (n : ℕ) → MOST_NAME_BYTES < length bytes → front_of (kinds.Name bytes) n ≡ Wrong 0 NameTooLong
long_front bytes n lt = grind (arith, nat_tests)

length_run : (text : List ℕ) (n : ℕ) → Run text n → length (capitals (take n text)) ≡ n
length_run text n run = length_capitals (take n text) ∙ length-take-le n text run.within

pub name_at : (text : List ℕ) (n : ℕ) → Run text n → (IsReserved (capitals (take n text)) → ⊥) → n ≤ MOST_NAME_BYTES → TokenStands Program text (token_of (kinds.Name (capitals (take n text))) n)
name_at text n run other le =
    let bytes : List ℕ = capitals (take n text) in
    let small : length bytes ≤ MOST_NAME_BYTES = omega (arith, length_run text n run) in
    subst (TokenStands Program text) (name_front bytes n small) (spelled_at text n (kinds.Name bytes) run.within (name bytes run.shape other) run.longest)

length_written_le : (w : Reserved) → length (written w) ≤ 13
length_written_le w = elim w as (λ v. length (written v) ≤ 13) [ reserved.And ↦ omega arith | _ ↦ omega arith ]

pub long_name_at : (text : List ℕ) (n : ℕ) → Run text n → MOST_NAME_BYTES < n → TokenStands Program text (Wrong 0 NameTooLong)
long_name_at text n run lt =
    let bytes : List ℕ = capitals (take n text) in
    let long : MOST_NAME_BYTES < length bytes = omega (arith, length_run text n run) in
    let other : IsReserved bytes → ⊥ = λ r. omega (arith, length_written_le r.0, ap length r.1) in
    subst (TokenStands Program text) (long_front bytes n long) (spelled_at text n (kinds.Name bytes) run.within (name bytes run.shape other) run.longest)

-- the run of digits at a digit
pub record Digits (text : List ℕ) (n : ℕ) : Type 0 where
  pub within : n ≤ length text
  pub shape : is_number (take n text) ≡ true
  pub each : list_all is_digit (take n text) ≡ true
  pub longest : IsLongest (take n text) (drop n text)

digits_of_prefix : (text : List ℕ) → 0 < length text → is_digit (get_or text 0 0) ≡ true → Digits text (prefix_len is_digit text)
digits_of_prefix [] some digit = absurd (omega arith)
digits_of_prefix (b ∷ text) some digit =
    let n : ℕ = prefix_len is_digit (b ∷ text) in
    let each : list_all is_digit (take n (b ∷ text)) ≡ true = list_all_take_while is_digit (b ∷ text) in
    let same : prefix_len is_digit (capitals (b ∷ text)) ≡ n = prefix_len_capitals is_digit is_digit is_digit_uppercase (b ∷ text) in
    let there : 0 < length (capitals (b ∷ text)) = omega (arith, length_capitals (b ∷ text)) in
    let shape = number_run_at (capitals (b ∷ text)) there (is_digit_uppercase b ∙ digit) in
    let longest : IsLongestOf (take n (capitals (b ∷ text))) (drop n (capitals (b ∷ text))) = subst (λ (m : ℕ). IsLongestOf (take m (capitals (b ∷ text))) (drop m (capitals (b ∷ text)))) same (number_run_longest (capitals (b ∷ text)) shape) in
    let taken : take n (capitals (b ∷ text)) ≡ capitals (take n (b ∷ text)) = take_capitals n (b ∷ text) in
    let dropped : drop n (capitals (b ∷ text)) ≡ capitals (drop n (b ∷ text)) = drop_capitals n (b ∷ text) in
    record {
      within = prefix_len-le-length is_digit (b ∷ text);
      shape = number_run_at (b ∷ text) some digit;
      each = each;
      longest = longest_from (take n (b ∷ text)) (drop n (b ∷ text)) (subst (λ (l : List ℕ). IsLongestOf (capitals (take n (b ∷ text))) l) dropped (subst (λ (l : List ℕ). IsLongestOf l (drop n (capitals (b ∷ text)))) taken longest));
    }

pub digits_at : (text : List ℕ) (n : ℕ) → 0 < length text → is_digit (get_or text 0 0) ≡ true → n ≡ prefix_len is_digit text → Digits text n
digits_at text n some digit e = subst (Digits text) (sym e) (digits_of_prefix text some digit)

number_spelled : (text : List ℕ) (n : ℕ) → Digits text n → TokenStands Program text (front_of (kinds.Number (pos (value_of (take n text)))) n)
number_spelled text n d =
    let bytes : List ℕ = take n text in
    let same = capitals_digits bytes d.each in
    let s : IsSpelled bytes (kinds.Number (pos (value_of bytes))) = subst (λ (l : List ℕ). Spells l (kinds.Number (pos (value_of bytes)))) (sym same) (number bytes d.shape) in
    spelled_at text n (kinds.Number (pos (value_of bytes))) d.within s d.longest

number_small : (value n : ℕ) → value ≤ most → front_of (kinds.Number (pos value)) n ≡ token_of (kinds.Number (pos value)) n
number_small value n le = grind (arith, nat_tests)

number_wide : (value n : ℕ) → most < value → front_of (kinds.Number (pos value)) n ≡ Wrong 0 NumberTooWide
number_wide value n lt = grind (arith, nat_tests)

pub number_at : (text : List ℕ) (n : ℕ) → Digits text n → value_of (take n text) ≤ most → TokenStands Program text (token_of (kinds.Number (pos (value_of (take n text)))) n)
number_at text n d le = subst (TokenStands Program text) (number_small (value_of (take n text)) n le) (number_spelled text n d)

pub wide_at : (text : List ℕ) (n : ℕ) → Digits text n → most < value_of (take n text) → TokenStands Program text (Wrong 0 NumberTooWide)
wide_at text n d lt = subst (TokenStands Program text) (number_wide (value_of (take n text)) n lt) (number_spelled text n d)

-- what is drawn with one byte more begins with no letter and no digit, and so is drawn
symbol_longest : (text : List ℕ) (s : Symbol) (begins : BeginsWithSymbol text s) → IsLongest (drawn s) begins.after
symbol_longest text s begins b more k e spells =
    let some = length_shape_pos (mark s) in
    let bytes : List ℕ = capitals (drawn s ++ b ∷ []) in
    let split : bytes ≡ drawn s ++ to_ascii_uppercase b ∷ [] = capitals_append (drawn s) (b ∷ []) ∙ ap (λ (l : List ℕ). l ++ to_ascii_uppercase b ∷ []) (capitals_drawn s) in
    let neither : first_passes is_letter_or_digit bytes ≡ false = ap (first_passes is_letter_or_digit) split ∙ first_passes_append is_letter_or_digit (drawn s) (to_ascii_uppercase b ∷ []) some ∙ first_passes_drawn s in
    let other = shape_mark (shape_of spells) (first_no_letter bytes neither) (first_no_digit bytes neither) in
    let same : drawn s ++ b ∷ [] ≡ drawn other.0 = drawn_from (drawn s ++ b ∷ []) other.0 other.1 in
    let whole : text ≡ drawn other.0 ++ more = begins.split ∙ ap (λ (r : List ℕ). drawn s ++ r) e ∙ sym (append_assoc (drawn s) (b ∷ []) more) ∙ ap (λ (r : List ℕ). r ++ more) same in
    omega (arith, begins.longest other.0 more whole, ap length same, length-append (drawn s) (b ∷ []))
  where
    first_no_letter : (bytes : List ℕ) → first_passes is_letter_or_digit bytes ≡ false → first_passes is_letter bytes ≡ false
    first_no_letter [] h = h
    first_no_letter (x ∷ bytes) h = grind (arith, nat_tests)

    first_no_digit : (bytes : List ℕ) → first_passes is_letter_or_digit bytes ≡ false → first_passes is_digit bytes ≡ false
    first_no_digit [] h = h
    first_no_digit (x ∷ bytes) h = grind (arith, nat_tests)

pub symbol_at : (text : List ℕ) (s : Symbol) (n : ℕ) → BeginsWithSymbol text s → n ≡ length (drawn s) → TokenStands Program text (token_of (kinds.Symbol s) n)
symbol_at text s n begins e =
    let s' : IsSpelled (drawn s) (kinds.Symbol s) = subst (λ (l : List ℕ). Spells l (kinds.Symbol s)) (sym (capitals_drawn s)) (symbol s) in
    let here : TokenStands Program (drawn s ++ begins.after) (token_of (kinds.Symbol s) (length (drawn s))) = spelled (drawn s) begins.after (kinds.Symbol s) s' (symbol_longest text s begins) in
    subst (λ (m : ℕ). TokenStands Program text (token_of (kinds.Symbol s) m)) (sym e) (subst (λ (l : List ℕ). TokenStands Program l (token_of (kinds.Symbol s) (length (drawn s)))) (sym begins.split) here)

-- no letter, no digit and no symbol: nothing is spelled here
not_true : (b : Bool) → not b ≡ true → b ≡ true → ⊥
not_true true h i = cc
not_true false h i = cc

unspelled : (b : ℕ) (after : List ℕ) → IsNoOther b → ((s : Symbol) (rest : List ℕ) → b ∷ after ≡ drawn s ++ rest → ⊥) → (bytes rest : List ℕ) (k : TokenKind) (big : List ℕ) → b ∷ after ≡ bytes ++ rest → capitals bytes ≡ big → Shape big → ⊥
unspelled b after plain other [] rest k big e f shape = let some = length_shape_pos shape in omega (arith, ap length f)
unspelled b after plain other (c ∷ bytes) rest k big e f (letters big' h) =
    let same : b ≡ c = cc in
    let head : is_letter (to_ascii_uppercase c) ≡ true = is_letter_head (to_ascii_uppercase c) (capitals bytes) (ap is_name f ∙ h) in
    not_true (is_letter (to_ascii_uppercase b)) plain.letter (ap (λ (n : ℕ). is_letter (to_ascii_uppercase n)) same ∙ head)
unspelled b after plain other (c ∷ bytes) rest k big e f (digits big' h) =
    let same : b ≡ c = cc in
    let head : is_digit (to_ascii_uppercase c) ≡ true = is_digit_head (to_ascii_uppercase c) (capitals bytes) (ap is_number f ∙ h) in
    not_true (is_digit b) plain.digit (ap is_digit same ∙ sym (is_digit_uppercase c) ∙ head)
unspelled b after plain other (c ∷ bytes) rest k big e f (mark s) = other s rest (e ∙ ap (λ (l : List ℕ). l ++ rest) (drawn_from (c ∷ bytes) s f))

none_from : (b : ℕ) (after : List ℕ) → IsNoOther b → ((s : Symbol) (rest : List ℕ) → b ∷ after ≡ drawn s ++ rest → ⊥) → TokenStands Program (b ∷ after) (Wrong 0 BadCharacter)
none_from b after plain other = none b after (record { blank = plain.blank; percent = plain.percent; quote = plain.quote; token = λ bytes rest k e s. unspelled b after plain other bytes rest k (capitals bytes) e refl (shape_of s) })

pub none_at : (text : List ℕ) → 0 < length text → IsNoOther (get_or text 0 0) → ((s : Symbol) (rest : List ℕ) → text ≡ drawn s ++ rest → ⊥) → TokenStands Program text (Wrong 0 BadCharacter)
none_at [] some plain other = absurd (omega arith)
none_at (b ∷ text) some plain other = none_from b text plain other
