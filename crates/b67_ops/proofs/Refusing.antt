-- How a refusal at the front of some syllables goes on: cut short it could have gone on, and unknown it stays.
use Rattle.std.proofs.Common.{◌≡◌, ℕ, zero, suc, ◌+◌, ◌<◌, ◌≤◌, Bool, true, false, eqb, List, [], ◌∷◌, ◌++◌, length, take, drop, replicate, Result, Ok, Err, refl, sym, ap, ◌∙◌, inl, inr, ◌⊎◌, arith, length-append, length-drop}
use Rattle.std.specs.List.{list_all}
use Rattle.std.proofs.lemmas.Bool.{cond-true, cond-false, cases_Bool, and_parts, and_from, and_cases, and_left, and_right}
use Rattle.b67_ops.specs.declared.BadCode.{BadCode}
use Rattle.b67_ops.specs.declared.BadCode.TheVariants.{Unknown, CutShort, BadLevel}
use Rattle.b67_ops.specs.declared.Operator.{Operator}
use Rattle.b67_ops.specs.declared.Operator.TheVariants.{Valc, Lt48, Mpcw}
use Rattle.b67_ops.specs.Decoding.{◌>>=◌, couple_of, six_front, word_front, couple_front, known_front, front}
use Rattle.b67_ops.proofs.CodeLemmas.{kind_in_valc}
use Rattle.b67_ops.proofs.Cases.{Reader, Case, valc, namc, branch, lt8, lt16, lt48, mpcw, plain, other, case_of, word_reader}
use Rattle.b67_ops.proofs.Reading.{front_first}

-- zeros for whatever is cut short
abbrev pub padding : List ℕ
padding = replicate 12 0

abbrev zeros : ℕ → List ℕ → Bool
zeros count rest = list_all (λ n. eqb n 0) (take count rest)

-- a reading that is cut short reads an operator of more than these syllables once zeros follow
abbrev pub GoesOn : Reader → List ℕ → Type 0
GoesOn r rest = (op : Operator) × (count : ℕ) × (r (rest ++ padding) ≡ Ok (op, count)) × (length rest + 1 < count)

nothing : (count : ℕ) → zeros count [] ≡ true
nothing zero = refl
nothing (suc count) = refl

-- zeros that zeros follow
zeros_padded : (count : ℕ) (rest more : List ℕ) → zeros count rest ≡ true → list_all (λ n. eqb n 0) more ≡ true → zeros count (rest ++ more) ≡ true
zeros_padded zero rest more h p = refl
zeros_padded (suc count) [] [] h p = refl
zeros_padded (suc count) [] (x ∷ more) h p =
    let parts = and_parts (eqb x 0) (list_all (λ n. eqb n 0) more) p in
    and_from (eqb x 0) (zeros count more) parts.0 (zeros_padded count [] more (nothing count) parts.1)
zeros_padded (suc count) (x ∷ rest) more h p =
    let parts = and_parts (eqb x 0) (zeros count rest) h in
    and_from (eqb x 0) (zeros count (rest ++ more)) parts.0 (zeros_padded count rest more parts.1 p)

-- what is not all zeros stays so
some_appended : (count : ℕ) (rest more : List ℕ) → zeros count rest ≡ false → zeros count (rest ++ more) ≡ false
some_appended zero rest more h = cc
some_appended (suc count) [] more h = cc
some_appended (suc count) (x ∷ rest) more h =
    elim (and_cases (eqb x 0) (zeros count rest) h) [
      | inl first ↦ and_left (eqb x 0) (zeros count (rest ++ more)) first
      | inr later ↦ and_right (eqb x 0) (zeros count (rest ++ more)) (some_appended count rest more later)
    ]

-- six syllables are a word
six_front_is : (xs : List ℕ) → 6 ≤ length xs → (n : ℕ) × (six_front xs ≡ Ok n)
six_front_is (x0 ∷ x1 ∷ x2 ∷ x3 ∷ x4 ∷ x5 ∷ rest) h = (_, refl)
six_front_is xs h = absurd (omega arith)

-- fewer are not
six_front_short : (xs : List ℕ) (e : BadCode) → six_front xs ≡ Err e → (e ≡ CutShort) × (length xs < 6)
six_front_short (x0 ∷ x1 ∷ x2 ∷ x3 ∷ x4 ∷ x5 ∷ rest) e h = cc
six_front_short xs e h = (cc, omega arith)

-- a word that is cut short has only zeros before it, a word that is unknown has not
word_front_err : (count : ℕ) (rest : List ℕ) (e : BadCode) → word_front count rest ≡ Err e
    → ((zeros count rest ≡ true) × (e ≡ CutShort) × (length (drop count rest) < 6)) ⊎ ((zeros count rest ≡ false) × (e ≡ Unknown))
unfolding word_front
word_front_err count rest e h =
    let b = zeros count rest in
    elim (cases_Bool b) [
      | inl all ↦ let short = six_front_short (drop count rest) e (sym (cond-true b (six_front (drop count rest)) (Err Unknown) all) ∙ h) in inl (all, short.0, short.1)
      | inr some ↦ let wrong : Err Unknown ≡ Err e = sym (cond-false b (six_front (drop count rest)) (Err Unknown) some) ∙ h in inr (some, cc)
    ]

-- a word where only zeros come before six syllables, and none where something else does
word_front_is : (count : ℕ) (rest : List ℕ) (n : ℕ) → zeros count rest ≡ true → six_front (drop count rest) ≡ Ok n → word_front count rest ≡ Ok n
unfolding word_front
word_front_is count rest n all h = cond-true (zeros count rest) (six_front (drop count rest)) (Err Unknown) all ∙ h

word_front_unknown : (count : ℕ) (rest : List ℕ) → zeros count rest ≡ false → word_front count rest ≡ Err Unknown
unfolding word_front
word_front_unknown count rest some = cond-false (zeros count rest) (six_front (drop count rest)) (Err Unknown) some

-- what one reading after another refuses, where the second refuses nothing
bind_err : {A B : Type 0} (r : Result A BadCode) (f : A → B) (e : BadCode) → (r >>= (λ x. Ok (f x))) ≡ Err e → r ≡ Err e
bind_err (Ok x) f e h = cc
bind_err (Err d) f e h = cc

-- a word that is cut short goes on
word_goes_on : (make : ℕ → Operator) (count : ℕ) (rest : List ℕ) → count ≤ 5 → word_reader make count rest ≡ Err CutShort → GoesOn (word_reader make count) rest
word_goes_on make count rest p h =
    let f : ℕ → Operator × ℕ = λ n. (make n, 7 + count) in
    elim (word_front_err count rest CutShort (bind_err (word_front count rest) f CutShort h)) [
      | inl cut ↦
          let long : 6 ≤ length (drop count (rest ++ padding)) =
          omega (arith, length-drop count (rest ++ padding), length-append rest padding) in
          let word = six_front_is (drop count (rest ++ padding)) long in
          let read = word_front_is count (rest ++ padding) word.0 (zeros_padded count rest padding cut.0 refl) word.1 in
          (make word.0, 7 + count, ap (λ r. r >>= (λ n. Ok (f n))) read, omega (arith, cut.2, length-drop count rest))
      | inr unknown ↦ let wrong : CutShort ≡ Unknown = unknown.1 in cc
    ]

-- a word that is unknown stays so
word_stays : (make : ℕ → Operator) (count : ℕ) (rest more : List ℕ) → word_reader make count rest ≡ Err Unknown → word_reader make count (rest ++ more) ≡ Err Unknown
word_stays make count rest more h =
    let f : ℕ → Operator × ℕ = λ n. (make n, 7 + count) in
    elim (word_front_err count rest Unknown (bind_err (word_front count rest) f Unknown h)) [
      | inl cut ↦ let wrong : Unknown ≡ CutShort = cut.1 in cc
      | inr unknown ↦ ap (λ r. r >>= (λ n. Ok (f n))) (word_front_unknown count (rest ++ more) (some_appended count rest more unknown.0))
    ]

word_level : (make : ℕ → Operator) (count : ℕ) (rest : List ℕ) → word_reader make count rest ≡ Err BadLevel → ⊥
word_level make count rest h =
    let f : ℕ → Operator × ℕ = λ n. (make n, 7 + count) in
    elim (word_front_err count rest BadLevel (bind_err (word_front count rest) f BadLevel h)) [
      | inl cut ↦ let wrong : BadLevel ≡ CutShort = cut.1 in cc
      | inr unknown ↦ let wrong : BadLevel ≡ Unknown = unknown.1 in cc
    ]

code_goes_on : (count level code : ℕ) {r : Reader} → Case count level code r → (rest : List ℕ) → count ≤ 5 → r rest ≡ Err CutShort → GoesOn r rest
unfolding couple_front
code_goes_on count level code (valc q) [] p h = (_, _, refl, omega arith)
code_goes_on count level code (valc q) (low ∷ rest) p h = cc
code_goes_on count level code (namc q z) [] p h = (_, _, refl, omega arith)
code_goes_on count level code (namc q z) (low ∷ rest) p h = cc
code_goes_on count level code (branch kind is) [] p h = (_, _, refl, omega arith)
code_goes_on count level code (branch kind is) (high ∷ []) p h = (_, _, refl, omega arith)
code_goes_on count level code (branch kind is) (high ∷ low ∷ rest) p h = cc
code_goes_on count level code (lt8 is) [] p h = (_, _, refl, omega arith)
code_goes_on count level code (lt8 is) (n ∷ rest) p h = cc
code_goes_on count level code (lt16 is) [] p h = (_, _, refl, omega arith)
code_goes_on count level code (lt16 is) (high ∷ []) p h = (_, _, refl, omega arith)
code_goes_on count level code (lt16 is) (high ∷ low ∷ rest) p h = cc
code_goes_on count level code (lt48 is) rest p h = word_goes_on Lt48 count rest p h
code_goes_on count level code (mpcw is) rest p h = word_goes_on Mpcw count rest p h
code_goes_on count level code (plain kind is) rest p h = cc
code_goes_on count level code other rest p h = cc

code_stays : (count level code : ℕ) {r : Reader} → Case count level code r → (rest more : List ℕ) → r rest ≡ Err Unknown → r (rest ++ more) ≡ Err Unknown
unfolding couple_front
code_stays count level code (valc q) [] more h = cc
code_stays count level code (valc q) (low ∷ rest) more h = cc
code_stays count level code (namc q z) [] more h = cc
code_stays count level code (namc q z) (low ∷ rest) more h = cc
code_stays count level code (branch kind is) [] more h = cc
code_stays count level code (branch kind is) (high ∷ []) more h = cc
code_stays count level code (branch kind is) (high ∷ low ∷ rest) more h = cc
code_stays count level code (lt8 is) [] more h = cc
code_stays count level code (lt8 is) (n ∷ rest) more h = cc
code_stays count level code (lt16 is) [] more h = cc
code_stays count level code (lt16 is) (high ∷ []) more h = cc
code_stays count level code (lt16 is) (high ∷ low ∷ rest) more h = cc
code_stays count level code (lt48 is) rest more h = word_stays Lt48 count rest more h
code_stays count level code (mpcw is) rest more h = word_stays Mpcw count rest more h
code_stays count level code (plain kind is) rest more h = cc
code_stays count level code other rest more h = refl

code_level : (count level code : ℕ) {r : Reader} → Case count level code r → (rest : List ℕ) → r rest ≡ Err BadLevel → ⊥
unfolding couple_front
code_level count level code (valc q) [] h = cc
code_level count level code (valc q) (low ∷ rest) h = cc
code_level count level code (namc q z) [] h = cc
code_level count level code (namc q z) (low ∷ rest) h = cc
code_level count level code (branch kind is) [] h = cc
code_level count level code (branch kind is) (high ∷ []) h = cc
code_level count level code (branch kind is) (high ∷ low ∷ rest) h = cc
code_level count level code (lt8 is) [] h = cc
code_level count level code (lt8 is) (n ∷ rest) h = cc
code_level count level code (lt16 is) [] h = cc
code_level count level code (lt16 is) (high ∷ []) h = cc
code_level count level code (lt16 is) (high ∷ low ∷ rest) h = cc
code_level count level code (lt48 is) rest h = word_level Lt48 count rest h
code_level count level code (mpcw is) rest h = word_level Mpcw count rest h
code_level count level code (plain kind is) rest h = cc
code_level count level code other rest h = cc

-- nothing is read where nothing is
pub front_none : (count level : ℕ) → front count level [] ≡ Err CutShort
unfolding front
front_none count level = refl

-- no reading tests the level
pub front_level : (count level : ℕ) (bytes : List ℕ) → front count level bytes ≡ Err BadLevel → ⊥
front_level count level [] h = let cut = front_none count level in cc
front_level count level (code ∷ rest) h = code_level count level code (case_of count level code) rest (sym (front_first count level code rest) ∙ h)

-- zeros begin with an operator
zeros_read : (count level : ℕ) → front count level padding ≡ Ok (Valc (couple_of level 0), 2)
unfolding couple_front
zeros_read count level = front_first count level 0 (replicate 11 0) ∙ ap (λ k. known_front k count level 0 (replicate 11 0)) (kind_in_valc 0 (omega arith))

-- what is cut short reads an operator of more syllables once zeros follow
pub front_goes_on : (count level : ℕ) (bytes : List ℕ) → count ≤ 5 → front count level bytes ≡ Err CutShort
    → (op : Operator) × (size : ℕ) × (front count level (bytes ++ padding) ≡ Ok (op, size)) × (length bytes < size)
front_goes_on count level [] p h = (Valc (couple_of level 0), 2, zeros_read count level, omega arith)
front_goes_on count level (code ∷ rest) p h =
    let on = code_goes_on count level code (case_of count level code) rest p (sym (front_first count level code rest) ∙ h) in
    (on.0, on.1, front_first count level code (rest ++ padding) ∙ on.2, omega (arith, on.3))

-- what is unknown stays so, whatever follows
pub front_stays : (count level : ℕ) (bytes more : List ℕ) → front count level bytes ≡ Err Unknown → front count level (bytes ++ more) ≡ Err Unknown
front_stays count level [] more h = let cut = front_none count level in cc
front_stays count level (code ∷ rest) more h =
    front_first count level code (rest ++ more)
    ∙ code_stays count level code (case_of count level code) rest more (sym (front_first count level code rest) ∙ h)
