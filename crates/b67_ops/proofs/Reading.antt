-- What is read from the front of some syllables, and how a refusal there goes on.
use Rattle.std.proofs.Common.{◌≡◌, ℕ, zero, suc, ◌+◌, ◌*◌, ◌/◌, ◌%◌, ◌^◌, ◌<◌, ◌≤◌, true, eqb, List, [], ◌∷◌, ◌++◌, length, take, drop, get_or, replicate, Result, Ok, Err, refl, sym, ap, ◌∙◌, subst, inl, inr, arith, append_assoc, length-append, length-drop}
use Rattle.std.specs.Int.{w16, w64, to_be_bytes, from_be_bytes, bytes_high_first}
use Rattle.std.specs.List.{list_all}
use Rattle.std.proofs.lemmas.Bool.{cond-true, cond-false, cases_Bool, and_parts, eqb-true}
use Rattle.std.proofs.lemmas.List.{take-append-drop, drop-drop, get_or-drop, length-replicate}
use Rattle.b67_ops.specs.declared.BadCode.{BadCode}
use Rattle.b67_ops.specs.declared.BadCode.TheVariants.{Unknown}
use Rattle.b67_ops.specs.declared.Operator.{Operator}
use Rattle.b67_ops.specs.declared.Operator.TheVariants.{Valc, Namc, Lt8, Lt16, Lt48, Mpcw, Branch, Plain}
use Rattle.b67_ops.specs.Codes.{code_of, kind_with}
use Rattle.b67_ops.specs.declared.table.OperatorKind.TheVariants as kinds
use Rattle.b67_ops.specs.Spelling.{couple_bits, filling, spelling, HasSpelling}
use Rattle.b67_ops.specs.Decoding.{◌>>=◌, couple_of, six_front, word_front, couple_front, code_in, known_front, front}
use Rattle.b67_ops.proofs.Couples.{couple_of_spelled, bits_couple_of}
use Rattle.b67_ops.proofs.CodeLemmas.{code_of_valc, code_of_namc}
use Rattle.b67_ops.proofs.Cases.{Reader, Case, valc, namc, branch, lt8, lt16, lt48, mpcw, plain, other, case_of, word_reader}

-- each is a byte
abbrev pub IsBytes : List ℕ → Type 0
IsBytes bytes = (i : ℕ) → get_or bytes i 0 < 256

-- these syllables begin with the operator's spelling, which is so long
pub record Reads (at level : ℕ) (bytes : List ℕ) (op : Operator) (count : ℕ) : Type 0 where
  pub spelled : HasSpelling level op
  pub count_is : count ≡ length (spelling at level op)
  pub text : bytes ≡ spelling at level op ++ drop count bytes

pair_bytes : (a b : ℕ) → a < 256 → b < 256 → to_be_bytes w16 (from_be_bytes w16 (a ∷ b ∷ [])) ≡ a ∷ b ∷ []
pair_bytes a b p q =
    let high : (a * 256 + b) / 256 % 256 ≡ a = omega arith in
    let low : (a * 256 + b) % 256 ≡ b = omega arith in
    cc (high, low)

-- what was read is what stands there
reads_as : (at level : ℕ) (bytes : List ℕ) (x : Operator × ℕ) (op : Operator) (count : ℕ) → Reads at level bytes x.0 x.1
    → ◌≡◌ {A = Result (Operator × ℕ) BadCode} (Ok x) (Ok (op, count)) → Reads at level bytes op count
reads_as at level bytes x op count r h =
    let same : x ≡ (op, count) = cc in
    subst (λ (y : Operator × ℕ). Reads at level bytes y.0 y.1) same r

-- a code and two syllables
place_reads : (at level code high low : ℕ) (rest : List ℕ) (op : Operator) → high < 256 → low < 256 → HasSpelling level op
    → spelling at level op ≡ code ∷ to_be_bytes w16 (from_be_bytes w16 (high ∷ low ∷ []))
    → Reads at level (code ∷ high ∷ low ∷ rest) op 3
place_reads at level code high low rest op p q fits is =
    let text : spelling at level op ≡ code ∷ high ∷ low ∷ [] = is ∙ ap (λ xs. code ∷ xs) (pair_bytes high low p q) in
    record {
      spelled = fits;
      count_is = sym (ap length text);
      text = sym (ap (λ xs. xs ++ rest) text);
    }

pub word_bytes : (a b c d e f : ℕ) (rest : List ℕ) → a < 256 → b < 256 → c < 256 → d < 256 → e < 256 → f < 256
    → a ∷ b ∷ c ∷ d ∷ e ∷ f ∷ rest ≡ bytes_high_first 6 (from_be_bytes w64 (0 ∷ 0 ∷ a ∷ b ∷ c ∷ d ∷ e ∷ f ∷ [])) ++ rest
word_bytes a b c d e f rest pa pb pc pd pe pf =
    let n = 0 + a * 256 ^ 5 + b * 256 ^ 4 + c * 256 ^ 3 + d * 256 ^ 2 + e * 256 + f in
    let e5 : n / 256 ^ 5 % 256 ≡ a = omega arith in
    let e4 : n / 256 ^ 4 % 256 ≡ b = omega arith in
    let e3 : n / 256 ^ 3 % 256 ≡ c = omega arith in
    let e2 : n / 256 ^ 2 % 256 ≡ d = omega arith in
    let e1 : n / 256 % 256 ≡ e = omega arith in
    let e0 : n % 256 ≡ f = omega arith in
    cc (e5, e4, e3, e2, e1, e0)

-- what two readings, one after the other, read
bind_ok : {A B : Type 0} (r : Result A BadCode) (f : A → Result B BadCode) (y : B) → (r >>= f) ≡ Ok y → (x : A) × (r ≡ Ok x) × (f x ≡ Ok y)
bind_ok (Ok x) f y h = (x, refl, h)
bind_ok (Err e) f y h = cc

-- six syllables are a word
six_reads : (xs : List ℕ) (n : ℕ) → IsBytes xs → six_front xs ≡ Ok n → (xs ≡ bytes_high_first 6 n ++ drop 6 xs) × (n < 2 ^ 48)
six_reads [] n b h = cc
six_reads (x0 ∷ []) n b h = cc
six_reads (x0 ∷ x1 ∷ []) n b h = cc
six_reads (x0 ∷ x1 ∷ x2 ∷ []) n b h = cc
six_reads (x0 ∷ x1 ∷ x2 ∷ x3 ∷ []) n b h = cc
six_reads (x0 ∷ x1 ∷ x2 ∷ x3 ∷ x4 ∷ []) n b h = cc
six_reads (x0 ∷ x1 ∷ x2 ∷ x3 ∷ x4 ∷ x5 ∷ rest) n b h =
    let word = from_be_bytes w64 (0 ∷ 0 ∷ x0 ∷ x1 ∷ x2 ∷ x3 ∷ x4 ∷ x5 ∷ []) in
    let is : word ≡ n = cc in
    let b0 : x0 < 256 = b 0 in
    let b1 : x1 < 256 = b 1 in
    let b2 : x2 < 256 = b 2 in
    let b3 : x3 < 256 = b 3 in
    let b4 : x4 < 256 = b 4 in
    let b5 : x5 < 256 = b 5 in
    let e : x0 ∷ x1 ∷ x2 ∷ x3 ∷ x4 ∷ x5 ∷ rest ≡ bytes_high_first 6 word ++ rest = word_bytes x0 x1 x2 x3 x4 x5 rest b0 b1 b2 b3 b4 b5 in
    (e ∙ ap (λ k. bytes_high_first 6 k ++ rest) is, omega arith)

-- zeros are so many zeros
zeros_are : (count : ℕ) (rest : List ℕ) → list_all (λ n. eqb n 0) (take count rest) ≡ true → count ≤ length rest
    → take count rest ≡ replicate count 0
zeros_are zero rest h p = refl
zeros_are (suc count) [] h p = absurd (omega arith)
zeros_are (suc count) (x ∷ rest) h p =
    let parts = and_parts (eqb x 0) (list_all (λ n. eqb n 0) (take count rest)) h in
    let first : x ≡ 0 = eqb-true x 0 parts.0 in
    let others : take count rest ≡ replicate count 0 = zeros_are count rest parts.1 (omega arith) in
    cc (first, others)

-- a word is read where only zeros come before six syllables
word_front_ok : (count : ℕ) (rest : List ℕ) (n : ℕ) → word_front count rest ≡ Ok n
    → (list_all (λ n. eqb n 0) (take count rest) ≡ true) × (six_front (drop count rest) ≡ Ok n)
unfolding word_front
word_front_ok count rest n h =
    let b = list_all (λ n. eqb n 0) (take count rest) in
    elim (cases_Bool b) [
      | inl zeros ↦ (zeros, sym (cond-true b (six_front (drop count rest)) (Err Unknown) zeros) ∙ h)
      | inr some ↦ let wrong : Err Unknown ≡ Ok n = sym (cond-false b (six_front (drop count rest)) (Err Unknown) some) ∙ h in cc
    ]

-- six syllables are there where they are read
six_front_length : (xs : List ℕ) (n : ℕ) → six_front xs ≡ Ok n → 6 ≤ length xs
six_front_length [] n h = cc
six_front_length (x0 ∷ []) n h = cc
six_front_length (x0 ∷ x1 ∷ []) n h = cc
six_front_length (x0 ∷ x1 ∷ x2 ∷ []) n h = cc
six_front_length (x0 ∷ x1 ∷ x2 ∷ x3 ∷ []) n h = cc
six_front_length (x0 ∷ x1 ∷ x2 ∷ x3 ∷ x4 ∷ []) n h = cc
six_front_length (x0 ∷ x1 ∷ x2 ∷ x3 ∷ x4 ∷ x5 ∷ rest) n h = omega arith

-- zeros and a word, which are read
word_text : (count : ℕ) (rest : List ℕ) (n : ℕ) → IsBytes rest → word_front count rest ≡ Ok n
    → (rest ≡ (replicate count 0 ++ bytes_high_first 6 n) ++ drop (count + 6) rest) × (n < 2 ^ 48)
word_text count rest n bytes h =
    let parts = word_front_ok count rest n h in
    let long : count ≤ length rest = omega (arith, six_front_length (drop count rest) n parts.1, length-drop count rest) in
    let read = six_reads (drop count rest) n (λ i. rw (get_or-drop count rest i 0) (bytes (count + i))) parts.1 in
    let word = bytes_high_first 6 n in
    let after : drop count rest ≡ word ++ drop (count + 6) rest = read.0 ∙ ap (λ xs. word ++ xs) (drop-drop 6 count rest) in
    let whole : rest ≡ replicate count 0 ++ (word ++ drop (count + 6) rest) =
    sym (take-append-drop count rest) ∙ ap (λ xs. xs ++ drop count rest) (zeros_are count rest parts.0 long)
    ∙ ap (λ xs. replicate count 0 ++ xs) after in
    (whole ∙ sym (append_assoc (replicate count 0) word (drop (count + 6) rest)), read.1)

-- a code, zeros and a word
word_reads : (at level code : ℕ) (rest : List ℕ) (n : ℕ) (op : Operator) → IsBytes rest → word_front (filling at) rest ≡ Ok n
    → (n < 2 ^ 48 → HasSpelling level op)
    → spelling at level op ≡ code ∷ (replicate (filling at) 0 ++ bytes_high_first 6 n)
    → Reads at level (code ∷ rest) op (7 + filling at)
word_reads at level code rest n op bytes h fits is =
    let count = filling at in
    let zeros : List ℕ = replicate count 0 in
    let word = bytes_high_first 6 n in
    let read = word_text count rest n bytes h in
    let next : 7 + count ≡ suc (count + 6) = omega arith in
    let text : code ∷ rest ≡ code ∷ (zeros ++ word) ++ drop (7 + count) (code ∷ rest) =
    ap (λ xs. code ∷ xs) read.0 ∙ ap (λ k. code ∷ (zeros ++ word) ++ drop k (code ∷ rest)) (sym next) in
    record {
      spelled = fits read.1;
      count_is = omega (arith, ap length is, length-append zeros word, length-replicate {A = ℕ} count 0);
      text = text ∙ ap (λ xs. xs ++ drop (7 + count) (code ∷ rest)) (sym is);
    }

-- what is read after the code of a literal word
word_reader_ok : (make : ℕ → Operator) (count : ℕ) (rest : List ℕ) (op : Operator) (size : ℕ) → word_reader make count rest ≡ Ok (op, size)
    → (n : ℕ) × (word_front count rest ≡ Ok n) × ◌≡◌ {A = Result (Operator × ℕ) BadCode} (Ok (make n, 7 + count)) (Ok (op, size))
word_reader_ok make count rest op size h = bind_ok (word_front count rest) (λ n. Ok (make n, 7 + count)) (op, size) h

-- two syllables that begin with these two bits are a couple's
couple_reads : (at level first low : ℕ) (rest : List ℕ) (code : ℕ) (op : Operator) → low < 256 → code ≤ first → first < code + 64 → code * 2 ^ 8 % 2 ^ 14 ≡ 0
    → HasSpelling level op
    → spelling at level op ≡ to_be_bytes w16 (code * 2 ^ 8 + couple_bits level (couple_of level (from_be_bytes w16 (first ∷ low ∷ []))))
    → first < 128 → Reads at level (first ∷ low ∷ rest) op 2
couple_reads at level first low rest code op q from to whole fits is p =
    let n = from_be_bytes w16 (first ∷ low ∷ []) in
    let same : code * 2 ^ 8 + couple_bits level (couple_of level n) ≡ n = ap (λ k. code * 2 ^ 8 + k) (bits_couple_of level n) ∙ omega arith in
    let text : spelling at level op ≡ first ∷ low ∷ [] = is ∙ ap (λ k. to_be_bytes w16 k) same ∙ pair_bytes first low (omega arith) q in
    record { spelled = fits; count_is = sym (ap length text); text = sym (ap (λ xs. xs ++ rest) text) }

valc_reads : (at level first low : ℕ) (rest : List ℕ) → first < 64 → low < 256
    → Reads at level (first ∷ low ∷ rest) (Valc (couple_of level (from_be_bytes w16 (first ∷ low ∷ [])))) 2
valc_reads at level first low rest p q =
    let couple = couple_of level (from_be_bytes w16 (first ∷ low ∷ [])) in
    couple_reads at level first low rest 0 (Valc couple) q (omega arith) (omega arith) refl (couple_of_spelled level (from_be_bytes w16 (first ∷ low ∷ [])))
    (ap (λ code. to_be_bytes w16 (code * 2 ^ 8 + couple_bits level couple)) code_of_valc) (omega arith)

namc_reads : (at level first low : ℕ) (rest : List ℕ) → 64 ≤ first → first < 128 → low < 256
    → Reads at level (first ∷ low ∷ rest) (Namc (couple_of level (from_be_bytes w16 (first ∷ low ∷ [])))) 2
namc_reads at level first low rest from p q =
    let couple = couple_of level (from_be_bytes w16 (first ∷ low ∷ [])) in
    couple_reads at level first low rest 64 (Namc couple) q from p refl (couple_of_spelled level (from_be_bytes w16 (first ∷ low ∷ [])))
    (ap (λ code. to_be_bytes w16 (code * 2 ^ 8 + couple_bits level couple)) code_of_namc) p

-- what the reader of a code reads stands there
code_reads : (at level code : ℕ) {r : Reader} → Case (filling at) level code r → (rest : List ℕ) → IsBytes rest → (op : Operator) (count : ℕ)
    → r rest ≡ Ok (op, count) → Reads at level (code ∷ rest) op count
unfolding couple_front
code_reads at level code (valc p) [] bytes op count h = cc
code_reads at level code (valc p) (low ∷ rest) bytes op count h =
    reads_as at level (code ∷ low ∷ rest) (Valc (couple_of level (from_be_bytes w16 (code ∷ low ∷ []))), 2) op count
    (valc_reads at level code low rest p (bytes 0)) h
code_reads at level code (namc p q) [] bytes op count h = cc
code_reads at level code (namc p q) (low ∷ rest) bytes op count h =
    reads_as at level (code ∷ low ∷ rest) (Namc (couple_of level (from_be_bytes w16 (code ∷ low ∷ []))), 2) op count
    (namc_reads at level code low rest p q (bytes 0)) h
code_reads at level code (branch kind is) [] bytes op count h = cc
code_reads at level code (branch kind is) (high ∷ []) bytes op count h = cc
code_reads at level code (branch kind is) (high ∷ low ∷ rest) bytes op count h =
    let b0 : high < 256 = bytes 0 in
    let b1 : low < 256 = bytes 1 in
    let place = from_be_bytes w16 (high ∷ low ∷ []) in
    let fits : place < 2 ^ 16 = omega arith in
    reads_as at level (code ∷ high ∷ low ∷ rest) (Branch kind place, 3) op count
    (place_reads at level code high low rest (Branch kind place) b0 b1 fits (ap (λ k. k ∷ to_be_bytes w16 place) (sym is))) h
code_reads at level code (lt8 is) [] bytes op count h = cc
code_reads at level code (lt8 is) (n ∷ rest) bytes op count h =
    let b0 : n < 256 = bytes 0 in
    let text : code ∷ n ∷ rest ≡ code_of kinds.Lt8 ∷ n ∷ rest = ap (λ k. k ∷ n ∷ rest) is in
    reads_as at level (code ∷ n ∷ rest) (Lt8 n, 2) op count (record { spelled = b0; count_is = refl; text = text }) h
code_reads at level code (lt16 is) [] bytes op count h = cc
code_reads at level code (lt16 is) (high ∷ []) bytes op count h = cc
code_reads at level code (lt16 is) (high ∷ low ∷ rest) bytes op count h =
    let b0 : high < 256 = bytes 0 in
    let b1 : low < 256 = bytes 1 in
    let n = from_be_bytes w16 (high ∷ low ∷ []) in
    let fits : n < 2 ^ 16 = omega arith in
    reads_as at level (code ∷ high ∷ low ∷ rest) (Lt16 n, 3) op count
    (place_reads at level code high low rest (Lt16 n) b0 b1 fits (ap (λ k. k ∷ to_be_bytes w16 n) (sym is))) h
code_reads at level code (lt48 is) rest bytes op count h =
    let found = word_reader_ok Lt48 (filling at) rest op count h in
    reads_as at level (code ∷ rest) (Lt48 found.0, 7 + filling at) op count
    (word_reads at level code rest found.0 (Lt48 found.0) bytes found.1 (λ p. p)
    (ap (λ k. k ∷ (replicate (filling at) 0 ++ bytes_high_first 6 found.0)) (sym is))) found.2
code_reads at level code (mpcw is) rest bytes op count h =
    let found = word_reader_ok Mpcw (filling at) rest op count h in
    reads_as at level (code ∷ rest) (Mpcw found.0, 7 + filling at) op count
    (word_reads at level code rest found.0 (Mpcw found.0) bytes found.1 (λ p. p)
    (ap (λ k. k ∷ (replicate (filling at) 0 ++ bytes_high_first 6 found.0)) (sym is))) found.2
code_reads at level code (plain kind is) rest bytes op count h =
    let text : code ∷ rest ≡ code_of (kinds.Plain kind) ∷ rest = ap (λ k. k ∷ rest) is in
    reads_as at level (code ∷ rest) (Plain kind, 1) op count (record { spelled = tt; count_is = refl; text = text }) h
code_reads at level code other rest bytes op count h = cc

-- the first syllable tells what is read
pub front_first : (count level first : ℕ) (rest : List ℕ) → front count level (first ∷ rest) ≡ known_front (kind_with (code_in first)) count level first rest
unfolding front
front_first count level first rest = refl

-- the operator that is read at the front of some syllables is spelled there
pub front_reads : (at level : ℕ) (bytes : List ℕ) → IsBytes bytes → (op : Operator) (count : ℕ)
    → front (filling at) level bytes ≡ Ok (op, count) → Reads at level bytes op count
unfolding front
front_reads at level [] b op count h = cc
front_reads at level (first ∷ rest) b op count h = code_reads at level first (case_of (filling at) level first) rest (λ i. b (suc i)) op count h
