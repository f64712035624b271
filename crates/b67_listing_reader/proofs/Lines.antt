-- What is read back from lines of operators and of heads.
use Rattle.std.proofs.Common.{◌≡◌, ℕ, zero, suc, ◌+◌, ◌-◌, ◌*◌, ◌/◌, ◌%◌, ◌<◌, ◌≤◌, ltb, leb, ◌&&◌, cond, Bool, true, false, Option, Some, None, List, [], ◌∷◌, ◌++◌, length, get_or, drop, codes, replicate, refl, sym, ap, subst, arith, ◌∙◌, append_assoc}
use Rattle.std.specs.Int.{w16, to_be_bytes, bytes_high_first}
use Rattle.std.specs.Fmt.{digit_glyph}
use Rattle.std.proofs.lemmas.Bool.{cond-true, cond-false, lt-ltb, le-ltb, le-leb, ltb-true, ltb-false}
use Rattle.b67_ops.specs.declared.TheConstants.{OUTER_LEVEL, MOST_LEVEL}
use Rattle.b67_ops.specs.declared.Operator.{Operator}
use Rattle.b67_ops.specs.declared.Operator.TheVariants.{Valc, Namc, Lt8, Lt16, Lt48, Mpcw, Branch, Plain}
use Rattle.b67_ops.specs.declared.BranchKind.TheVariants as branches
use Rattle.b67_ops.specs.declared.PlainKind.TheVariants as plains
use Rattle.b67_ops.specs.declared.table.OperatorKind.{OperatorKind}
use Rattle.b67_ops.specs.declared.table.OperatorKind.TheVariants as kinds
use Rattle.b67_ops.specs.Codes.{code_of}
use Rattle.b67_ops.specs.Spelling.{spelling, Fits, filling}
use Rattle.b67_ops.proofs.Laws.{length_spelling, spelling_prefix, HasSpelling_from_fits}
use Rattle.b67_ops.proofs.Reading.{IsBytes}
use Rattle.b67_listing.specs.Digits.{hexadecimal}
use Rattle.b67_listing.specs.Operators.{ListedOperator, operator_line, operator_text}
use Rattle.b67_listing_reader.specs.Reading.{OperatorCanStand, width, AreInOrder, two_digits, level_part, hex_value, with_syllable, syllables_in}
use Rattle.b67_listing_reader.proofs.Orders.{spelled, code_text}

-- bytes, one by one
pub data AreBytes : List ℕ → Type 0 where
  no_bytes : AreBytes []
  more_bytes : (b : ℕ) (bs : List ℕ) → b < 256 → AreBytes bs → AreBytes (b ∷ bs)

AreBytes_append : (xs ys : List ℕ) → AreBytes xs → AreBytes ys → AreBytes (xs ++ ys)
AreBytes_append _ ys no_bytes q = q
AreBytes_append _ ys (more_bytes b bs h p) q = more_bytes b (bs ++ ys) h (AreBytes_append bs ys p q)

zeros_bytes : (count : ℕ) → AreBytes (replicate count 0)
zeros_bytes zero = no_bytes
zeros_bytes (suc count) = more_bytes 0 (replicate count 0) (omega arith) (zeros_bytes count)

one : (a : ℕ) → a < 256 → AreBytes (a ∷ [])
one a p = more_bytes a [] p no_bytes

two : (a b : ℕ) → a < 256 → b < 256 → AreBytes (a ∷ b ∷ [])
two a b p q = more_bytes a (b ∷ []) p (one b q)

code_byte : (kind : OperatorKind) → code_of kind < 256
unfolding code_of
code_byte kinds.Valc = omega arith
code_byte kinds.Namc = omega arith
code_byte kinds.Lt8 = omega arith
code_byte kinds.Lt16 = omega arith
code_byte kinds.Lt48 = omega arith
code_byte kinds.Mpcw = omega arith
code_byte (kinds.Branch branches.Brfl) = omega arith
code_byte (kinds.Branch kind) = omega arith
code_byte (kinds.Plain plains.Add) = omega arith
code_byte (kinds.Plain kind) = omega arith

two_bytes : (n : ℕ) → AreBytes (to_be_bytes w16 n)
two_bytes n = more_bytes _ _ (omega arith) (more_bytes _ _ (omega arith) no_bytes)

six_bytes : (n : ℕ) → AreBytes (bytes_high_first 6 n)
six_bytes n =
    more_bytes _ _ (omega arith) (more_bytes _ _ (omega arith) (more_bytes _ _ (omega arith) (more_bytes _ _ (omega arith) (more_bytes _ _ (omega arith) (more_bytes _ _ (omega arith) no_bytes)))))

word_spelled : (at code n : ℕ) → code < 256 → AreBytes (code ∷ (replicate (filling at) 0 ++ bytes_high_first 6 n))
word_spelled at code n p = more_bytes code _ p (AreBytes_append (replicate (filling at) 0) (bytes_high_first 6 n) (zeros_bytes (filling at)) (six_bytes n))

-- the syllables of an operator that fits are bytes
pub spelling_bytes : (at level : ℕ) (op : Operator) → Fits level op → AreBytes (spelling at level op)
spelling_bytes at level (Valc couple) fits = two_bytes _
spelling_bytes at level (Namc couple) fits = two_bytes _
spelling_bytes at level (Lt8 n) fits = two (code_of kinds.Lt8) n (code_byte kinds.Lt8) fits
spelling_bytes at level (Lt16 n) fits = more_bytes (code_of kinds.Lt16) _ (code_byte kinds.Lt16) (two_bytes n)
spelling_bytes at level (Lt48 n) fits = word_spelled at (code_of kinds.Lt48) n (code_byte kinds.Lt48)
spelling_bytes at level (Mpcw n) fits = word_spelled at (code_of kinds.Mpcw) n (code_byte kinds.Mpcw)
spelling_bytes at level (Branch kind place) fits = more_bytes (code_of (kinds.Branch kind)) _ (code_byte (kinds.Branch kind)) (two_bytes place)
spelling_bytes at level (Plain kind) fits = one (code_of (kinds.Plain kind)) (code_byte (kinds.Plain kind))

-- and so are those of operators in order
pub code_bytes : (at : ℕ) (ps : List ListedOperator) (end : ℕ) → AreInOrder at ps end → AreBytes (code_text ps)
code_bytes at [] end h = no_bytes
code_bytes at (p ∷ ps) end h = AreBytes_append (spelled p) (code_text ps) (spelling_bytes p.place p.level p.operator h.0.fits) (code_bytes (at + width p) ps end h.1)

pub IsBytes_from : (bytes : List ℕ) → AreBytes bytes → IsBytes bytes
IsBytes_from _ no_bytes i = omega arith
IsBytes_from _ (more_bytes b bs h are) zero = h
IsBytes_from _ (more_bytes b bs h are) (suc i) = IsBytes_from bs are i

-- digits
glyph_decimal : (d : ℕ) → d < 10 → digit_glyph true d ≡ 48 + d
glyph_decimal d h = cond-true (ltb d 10) (48 + d) (55 + d) (lt-ltb d 10 h)

glyph_letter : (d : ℕ) → 10 ≤ d → digit_glyph true d ≡ 55 + d
glyph_letter d h = cond-false (ltb d 10) (48 + d) (55 + d) (le-ltb d 10 h)

hex_low : (b : ℕ) → 48 ≤ b → b < 58 → hex_value b ≡ Some (b - 48)
hex_low b p q = cond-false (ltb b 48) None _ (le-ltb b 48 p) ∙ cond-true (ltb b 58) (Some (b - 48)) _ (lt-ltb b 58 q)

hex_high : (b : ℕ) → 65 ≤ b → b < 71 → hex_value b ≡ Some (b - 55)
hex_high b p q =
    cond-false (ltb b 48) None _ (le-ltb b 48 (omega arith)) ∙ cond-false (ltb b 58) (Some (b - 48)) _ (le-ltb b 58 (omega arith))
    ∙ cond-false (ltb b 65) None _ (le-ltb b 65 p) ∙ cond-true (ltb b 71) (Some (b - 55)) None (lt-ltb b 71 q)

hex_by : (d : ℕ) (b : Bool) → ltb d 10 ≡ b → d < 16 → hex_value (digit_glyph true d) ≡ Some d
hex_by d true e h =
    let small = ltb-true d 10 e in
    let same : 48 + d - 48 ≡ d = omega arith in
    ap hex_value (glyph_decimal d small) ∙ hex_low (48 + d) (omega arith) (omega arith) ∙ ap Some same
hex_by d false e h =
    let large = ltb-false d 10 e in
    let same : 55 + d - 55 ≡ d = omega arith in
    ap hex_value (glyph_letter d large) ∙ hex_high (55 + d) (omega arith) (omega arith) ∙ ap Some same

hex_glyph : (d : ℕ) → d < 16 → hex_value (digit_glyph true d) ≡ Some d
hex_glyph d h = hex_by d (ltb d 10) refl h

-- the syllables before a blank
blank_first : (most : ℕ) (rest : List ℕ) → syllables_in most (32 ∷ rest) ≡ []
blank_first zero rest = refl
blank_first (suc most) [] = refl
blank_first (suc most) (r ∷ rest) = refl

pub syllables_back : (most : ℕ) (bytes rest : List ℕ) → AreBytes bytes → length bytes ≤ most → syllables_in most (hexadecimal bytes ++ 32 ∷ rest) ≡ bytes
syllables_back most _ rest no_bytes long = blank_first most rest
syllables_back zero _ rest (more_bytes b bs small are) long = absurd (omega arith)
syllables_back (suc most) _ rest (more_bytes b bs small are) long =
    let high = digit_glyph true (b / 16 % 16) in
    let low = digit_glyph true (b % 16) in
    let value : 16 * (b / 16 % 16) + b % 16 ≡ b = omega arith in
    ap (λ h. with_syllable h (hex_value low) (syllables_in most (hexadecimal bs ++ 32 ∷ rest))) (hex_glyph (b / 16 % 16) (omega arith))
    ∙ ap (λ l. with_syllable (Some (b / 16 % 16)) l (syllables_in most (hexadecimal bs ++ 32 ∷ rest))) (hex_glyph (b % 16) (omega arith))
    ∙ ap (λ v. v ∷ syllables_in most (hexadecimal bs ++ 32 ∷ rest)) value
    ∙ ap (λ xs. b ∷ xs) (syllables_back most bs rest are (omega arith))

-- what stands after the level in the line of an operator
abbrev pub line_tail : ListedOperator → List ℕ
line_tail p = hexadecimal (spelled p) ++ 32 ∷ operator_text p.operator

in_range : (n : ℕ) (rest : List ℕ) → OUTER_LEVEL ≤ n → n ≤ MOST_LEVEL →
    ◌≡◌ {A = Option (ℕ × List ℕ)} (cond (leb OUTER_LEVEL n && leb n MOST_LEVEL) (Some (n, rest)) None) (Some (n, rest))
in_range n rest p q =
    let both : (leb OUTER_LEVEL n && leb n MOST_LEVEL) ≡ true =
    ap (λ b. b && leb n MOST_LEVEL) (le-leb OUTER_LEVEL n p) ∙ le-leb n MOST_LEVEL q in
    cond-true (leb OUTER_LEVEL n && leb n MOST_LEVEL) (Some (n, rest)) None both

digits_level : (level : ℕ) → level ≤ MOST_LEVEL → two_digits (digit_glyph true (level / 10 % 10)) (digit_glyph true (level % 10)) ≡ level
digits_level level q =
    let tens : digit_glyph true (level / 10 % 10) ≡ 48 + level / 10 % 10 = glyph_decimal (level / 10 % 10) (omega arith) in
    let units : digit_glyph true (level % 10) ≡ 48 + level % 10 = glyph_decimal (level % 10) (omega arith) in
    omega arith

-- the level is read from the line of an operator
pub level_back : (p : ListedOperator) → OUTER_LEVEL ≤ p.level → p.level ≤ MOST_LEVEL → level_part (operator_line p) ≡ Some (p.level, line_tail p)
level_back p least most =
    let tens = digit_glyph true (p.level / 10 % 10) in
    let units = digit_glyph true (p.level % 10) in
    ap (λ t. cond (leb OUTER_LEVEL (two_digits tens units) && leb (two_digits tens units) MOST_LEVEL) (Some (two_digits tens units, t)) None)
    (append_assoc (hexadecimal (spelled p)) (codes " ") (operator_text p.operator))
    ∙ ap (λ n. cond (leb OUTER_LEVEL n && leb n MOST_LEVEL) (Some (n, line_tail p)) None) (digits_level p.level most) ∙ in_range p.level (line_tail p) least most

pub text_back : (p : ListedOperator) → Fits p.level p.operator → syllables_in 12 (line_tail p) ≡ spelled p
text_back p fits = syllables_back 12 (spelled p) (operator_text p.operator) (spelling_bytes p.place p.level p.operator fits) (length_spelling p.place p.level p.operator).1

-- two operators at a place have different lines
pub one_operator : (at : ℕ) (p q : ListedOperator) → OperatorCanStand at p → OperatorCanStand at q → operator_line p ≡ operator_line q → p ≡ q
one_operator at p q a b e =
    let lines : ◌≡◌ {A = Option (ℕ × List ℕ)} (Some (p.level, line_tail p)) (Some (q.level, line_tail q)) = sym (level_back p a.least a.most) ∙ ap level_part e ∙ level_back q b.least b.most in
    let pairs : ◌≡◌ {A = ℕ × List ℕ} (p.level, line_tail p) (q.level, line_tail q) = cc in
    let levels : p.level ≡ q.level = ap (λ (x : ℕ × List ℕ). x.0) pairs in
    let tails : line_tail p ≡ line_tail q = ap (λ (x : ℕ × List ℕ). x.1) pairs in
    let texts : spelled p ≡ spelled q = sym (text_back p a.fits) ∙ ap (syllables_in 12) tails ∙ text_back q b.fits in
    let places : p.place ≡ q.place = a.place_is ∙ sym b.place_is in
    let here : spelling p.place p.level p.operator ≡ spelling p.place p.level q.operator =
    texts ∙ ap (λ k. spelling k q.level q.operator) (sym places) ∙ ap (λ l. spelling p.place l q.operator) (sym levels) in
    let fits : Fits p.level q.operator = subst (λ l. Fits l q.operator) (sym levels) b.fits in
    let ops : p.operator ≡ q.operator =
    spelling_prefix p.place p.level p.operator q.operator [] [] (HasSpelling_from_fits p.level p.operator a.most a.fits) (HasSpelling_from_fits p.level q.operator a.most fits)
    (ap (λ xs. xs ++ []) here) in
    ap (λ k. let r : ListedOperator = record { place = k; level = p.level; operator = p.operator } in r) places
    ∙ ap (λ l. let r : ListedOperator = record { place = q.place; level = l; operator = p.operator } in r) levels
    ∙ ap (λ o. let r : ListedOperator = record { place = q.place; level = q.level; operator = o } in r) ops

-- the syllable of two digits before others
pub syllable_more : (most : ℕ) (text : List ℕ) (high low : ℕ) (old middle new : List ℕ) → (most ≡ 0 → ⊥) → 2 ≤ length text → Some high ≡ hex_value (get_or text 0 0) → Some low ≡ hex_value (get_or text 1 0) →
    middle ≡ old ++ (16 * high + low) ∷ [] → new ≡ middle ++ syllables_in (most - 1) (drop 2 text) → new ≡ old ++ syllables_in most text
syllable_more zero text high low old middle new some long h l first rest = absurd (some refl)
syllable_more (suc most) [] high low old middle new some long h l first rest = absurd (omega arith)
syllable_more (suc most) (a ∷ []) high low old middle new some long h l first rest = absurd (omega arith)
syllable_more (suc most) (a ∷ b ∷ text) high low old middle new some long h l first rest =
    let less : suc most - 1 ≡ most = omega arith in
    rest ∙ ap (λ m. m ++ syllables_in (suc most - 1) text) first ∙ append_assoc old ((16 * high + low) ∷ []) (syllables_in (suc most - 1) text)
    ∙ ap (λ n. old ++ (16 * high + low) ∷ syllables_in n text) less
    ∙ ap (λ x. old ++ with_syllable x (Some low) (syllables_in most text)) h ∙ ap (λ x. old ++ with_syllable (hex_value a) x (syllables_in most text)) l
