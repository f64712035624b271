-- That the longest run of a text, or the longest symbol, is its first token.
use Rattle.std.proofs.Common.{◌≡◌, ℕ, ◌+◌, ◌<◌, ◌≤◌, Bool, true, false, cond, List, [], ◌∷◌, ◌++◌, length, take, drop, get_or, refl, sym, ◌∙◌, ap, arith, length-append, length-drop}
use Rattle.std.specs.List.{list_all, prefix_len, take_while}
use Rattle.std.proofs.lemmas.Bool.{and_parts, and_from, or_left, or_right}
use Rattle.std.proofs.lemmas.List.{drop_more}
use Rattle.std.proofs.lemmas.List.Sums.{prefix_len_stops, take_while-cons}
use Rattle.algol_tree.specs.declared.token.Symbol.{Symbol}
use Rattle.algol_tree.specs.declared.token.Symbol.TheVariants as symbols
use Rattle.algol_tree.specs.Spelling.{is_letter, is_digit, is_letter_or_digit, is_name, is_number, drawn}
use Rattle.algol_lexer.specs.Symbols.{BeginsWithSymbol}
use Rattle.algol_lexer.proofs.LexSpelling.{Shape, letters, digits, mark, shape_of, letter_not_digit, is_letter_head, is_digit_head, length_drawn_le}
use Rattle.algol_lexer.proofs.LexFronts.{IsLongestOf}

-- whether the first byte passes
abbrev pub first_passes : (ℕ → Bool) → List ℕ → Bool
first_passes p [] = false
first_passes p (b ∷ bytes) = p b

pub first_passes_drawn : (s : Symbol) → first_passes is_letter_or_digit (drawn s) ≡ false
first_passes_drawn s = elim s as (λ v. first_passes is_letter_or_digit (drawn v) ≡ false) [ symbols.Plus ↦ refl | _ ↦ refl ]

pub first_passes_append : (p : ℕ → Bool) (xs ys : List ℕ) → 0 < length xs → first_passes p (xs ++ ys) ≡ first_passes p xs
first_passes_append p [] ys some = absurd (omega arith)
first_passes_append p (x ∷ xs) ys some = refl

-- a letter passes as a letter or digit, and so does a digit
letter_passes : (bytes : List ℕ) → first_passes is_letter bytes ≡ true → first_passes is_letter_or_digit bytes ≡ true
letter_passes [] h = h
letter_passes (b ∷ bytes) h = or_left (is_letter b) (is_digit b) h

digit_passes : (bytes : List ℕ) → first_passes is_digit bytes ≡ true → first_passes is_letter_or_digit bytes ≡ true
digit_passes [] h = h
digit_passes (b ∷ bytes) h = or_right (is_letter b) (is_digit b) h

-- what begins with a letter is a name's, what begins with a digit a number's, and all else a symbol
pub shape_letter : {bytes : List ℕ} → Shape bytes → first_passes is_letter bytes ≡ true → is_name bytes ≡ true
shape_letter (letters bytes h) l = h
shape_letter (digits [] h) l = absurd cc
shape_letter (digits (b ∷ bytes) h) l = absurd (letter_not_digit b l (is_digit_head b bytes h))
shape_letter (mark s) l = let p = letter_passes (drawn s) l in let q = first_passes_drawn s in absurd cc

pub shape_digit : {bytes : List ℕ} → Shape bytes → first_passes is_digit bytes ≡ true → is_number bytes ≡ true
shape_digit (letters [] h) d = absurd cc
shape_digit (letters (b ∷ bytes) h) d = absurd (letter_not_digit b (is_letter_head b bytes h) d)
shape_digit (digits bytes h) d = h
shape_digit (mark s) d = let p = digit_passes (drawn s) d in let q = first_passes_drawn s in absurd cc

pub shape_mark : {bytes : List ℕ} → Shape bytes → first_passes is_letter bytes ≡ false → first_passes is_digit bytes ≡ false → (s : Symbol) × (bytes ≡ drawn s)
shape_mark (letters [] h) l d = absurd cc
shape_mark (letters (b ∷ bytes) h) l d = let p = is_letter_head b bytes h in absurd cc
shape_mark (digits [] h) l d = absurd cc
shape_mark (digits (b ∷ bytes) h) l d = let p = is_digit_head b bytes h in absurd cc
shape_mark (mark s) l d = (s, refl)

-- the longest front that passes passes, and what follows it does not
pub list_all_take_while : (p : ℕ → Bool) (text : List ℕ) → list_all p (take_while p text) ≡ true
list_all_take_while p [] = refl
list_all_take_while p (b ∷ text) =
    let ih = list_all_take_while p text in
    let P : Bool → Type 0 = λ v. p b ≡ v → list_all p (cond v (b ∷ take_while p text) []) ≡ true in
    let here = elim (p b) as P [ true ↦ λ h. and_from (p b) _ h ih | false ↦ λ h. refl ] in
    ap (list_all p) (take_while-cons p b text) ∙ here refl

stops_at : (p : ℕ → Bool) (text : List ℕ) (b : ℕ) (more : List ℕ) → drop (prefix_len p text) text ≡ b ∷ more → p b ≡ false
stops_at p text b more e =
    let n : ℕ = prefix_len p text in
    let lt : n < length text = omega (arith, ap length e, length-drop n text) in
    let split = drop_more text n 0 lt in
    let here : get_or text n 0 ≡ b = cc in
    ap p (sym here) ∙ prefix_len_stops p text 0 lt

list_all_last : (p : ℕ → Bool) (xs : List ℕ) (b : ℕ) → list_all p (xs ++ b ∷ []) ≡ true → p b ≡ true
list_all_last p [] b h = (and_parts (p b) true h).0
list_all_last p (x ∷ xs) b h = list_all_last p xs b (and_parts (p x) (list_all p (xs ++ b ∷ [])) h).1

is_name_last : (xs : List ℕ) (b : ℕ) → 0 < length xs → is_name (xs ++ b ∷ []) ≡ true → is_letter_or_digit b ≡ true
is_name_last [] b some h = absurd (omega arith)
is_name_last (x ∷ xs) b some h = list_all_last is_letter_or_digit xs b (and_parts (is_letter x) (list_all is_letter_or_digit (xs ++ b ∷ [])) h).1

is_number_last : (xs : List ℕ) (b : ℕ) → 0 < length xs → is_number (xs ++ b ∷ []) ≡ true → is_digit b ≡ true
is_number_last [] b some h = absurd (omega arith)
is_number_last (x ∷ xs) b some h = list_all_last is_digit xs b (and_parts (is_digit x) (list_all is_digit (xs ++ b ∷ [])) h).1

length_name_pos : (xs : List ℕ) → is_name xs ≡ true → 0 < length xs
length_name_pos [] h = absurd cc
length_name_pos (x ∷ xs) h = omega arith

first_letter : (xs : List ℕ) → is_name xs ≡ true → first_passes is_letter xs ≡ true
first_letter [] h = h
first_letter (x ∷ xs) h = is_letter_head x xs h

length_number_pos : (xs : List ℕ) → is_number xs ≡ true → 0 < length xs
length_number_pos [] h = absurd cc
length_number_pos (x ∷ xs) h = omega arith

first_digit : (xs : List ℕ) → is_number xs ≡ true → first_passes is_digit xs ≡ true
first_digit [] h = h
first_digit (x ∷ xs) h = is_digit_head x xs h

-- the run of letters and digits at a letter is a name's, and the longest
name_run_cons : (b : ℕ) (text : List ℕ) → is_letter b ≡ true → is_name (take_while is_letter_or_digit (b ∷ text)) ≡ true
name_run_cons b text h =
    let passes : is_letter_or_digit b ≡ true = or_left (is_letter b) (is_digit b) h in
    let split : take_while is_letter_or_digit (b ∷ text) ≡ b ∷ take_while is_letter_or_digit text = take_while-cons is_letter_or_digit b text ∙ ap (λ (v : Bool). cond v (b ∷ take_while is_letter_or_digit text) []) passes in
    ap is_name split ∙ and_from (is_letter b) (list_all is_letter_or_digit (take_while is_letter_or_digit text)) h (list_all_take_while is_letter_or_digit text)

pub name_run_at : (text : List ℕ) → 0 < length text → is_letter (get_or text 0 0) ≡ true → is_name (take_while is_letter_or_digit text) ≡ true
name_run_at [] some h = absurd (omega arith)
name_run_at (b ∷ text) some h = name_run_cons b text h

pub name_run_longest : (text : List ℕ) → is_name (take (prefix_len is_letter_or_digit text) text) ≡ true → IsLongestOf (take (prefix_len is_letter_or_digit text) text) (drop (prefix_len is_letter_or_digit text) text)
name_run_longest text h b more k e s =
    let n : ℕ = prefix_len is_letter_or_digit text in
    let some = length_name_pos (take n text) h in
    let first : first_passes is_letter (take n text ++ b ∷ []) ≡ true = first_passes_append is_letter (take n text) (b ∷ []) some ∙ first_letter (take n text) h in
    let last = is_name_last (take n text) b some (shape_letter (shape_of s) first) in
    let stops = stops_at is_letter_or_digit text b more e in
    cc

number_run_cons : (b : ℕ) (text : List ℕ) → is_digit b ≡ true → is_number (take_while is_digit (b ∷ text)) ≡ true
number_run_cons b text h =
    let split : take_while is_digit (b ∷ text) ≡ b ∷ take_while is_digit text = take_while-cons is_digit b text ∙ ap (λ (v : Bool). cond v (b ∷ take_while is_digit text) []) h in
    ap is_number split ∙ and_from (is_digit b) (list_all is_digit (take_while is_digit text)) h (list_all_take_while is_digit text)

pub number_run_at : (text : List ℕ) → 0 < length text → is_digit (get_or text 0 0) ≡ true → is_number (take_while is_digit text) ≡ true
number_run_at [] some h = absurd (omega arith)
number_run_at (b ∷ text) some h = number_run_cons b text h

pub number_run_longest : (text : List ℕ) → is_number (take (prefix_len is_digit text) text) ≡ true → IsLongestOf (take (prefix_len is_digit text) text) (drop (prefix_len is_digit text) text)
number_run_longest text h b more k e s =
    let n : ℕ = prefix_len is_digit text in
    let some = length_number_pos (take n text) h in
    let first : first_passes is_digit (take n text ++ b ∷ []) ≡ true = first_passes_append is_digit (take n text) (b ∷ []) some ∙ first_digit (take n text) h in
    let last = is_number_last (take n text) b some (shape_digit (shape_of s) first) in
    let stops = stops_at is_digit text b more e in
    cc

-- two bytes that are a symbol, and one that is where the two are none
pub long_begins : (text : List ℕ) (s : Symbol) → 1 < length text → drawn s ≡ get_or text 0 0 ∷ get_or text 1 0 ∷ [] → BeginsWithSymbol text s × (2 ≡ length (drawn s))
long_begins [] s some e = absurd (omega arith)
long_begins (x ∷ []) s some e = absurd (omega arith)
long_begins (x ∷ y ∷ rest) s some e = (record { after = rest; split = ap (λ (r : List ℕ). r ++ rest) (sym e); longest = λ t r q. omega (arith, length_drawn_le t, ap length e) }, ap length (sym e))

one_byte : (x y : ℕ) (rest bytes r : List ℕ) → x ∷ y ∷ rest ≡ bytes ++ r → length bytes ≤ 2 → (bytes ≡ x ∷ y ∷ [] → ⊥) → length bytes ≤ 1
one_byte x y rest [] r e le none = omega arith
one_byte x y rest (b ∷ []) r e le none = omega arith
one_byte x y rest (b ∷ d ∷ []) r e le none = let p : b ≡ x = cc in let q : d ≡ y = cc in absurd (none (ap (λ (n : ℕ). n ∷ d ∷ []) p ∙ ap (λ (n : ℕ). x ∷ n ∷ []) q))
one_byte x y rest (b ∷ d ∷ f ∷ bytes) r e le none = absurd (omega arith)

pub short_begins : (text : List ℕ) (s : Symbol) → 0 < length text → drawn s ≡ get_or text 0 0 ∷ [] → (1 < length text → (t : Symbol) → drawn t ≡ get_or text 0 0 ∷ get_or text 1 0 ∷ [] → ⊥) → BeginsWithSymbol text s × (1 ≡ length (drawn s))
short_begins [] s some e none = absurd (omega arith)
short_begins (x ∷ []) s some e none = (record { after = []; split = ap (λ (r : List ℕ). r ++ []) (sym e); longest = λ t r q. let sizes : 1 ≡ length (drawn t) + length r = ap length q ∙ length-append (drawn t) r in omega (arith, ap length e) }, ap length (sym e))
short_begins (x ∷ y ∷ rest) s some e none = (record { after = y ∷ rest; split = ap (λ (r : List ℕ). r ++ y ∷ rest) (sym e); longest = λ t r q. let two : 1 < length (x ∷ y ∷ rest) = omega arith in omega (arith, one_byte x y rest (drawn t) r q (length_drawn_le t) (none two t), ap length e) }, ap length (sym e))
