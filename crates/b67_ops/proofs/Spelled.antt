-- What an operator's spelling begins with is read as that operator, whatever follows.
use Rattle.std.proofs.Common.{◌≡◌, ℕ, suc, ◌+◌, ◌*◌, ◌/◌, ◌%◌, ◌^◌, ◌<◌, ◌≤◌, true, eqb, List, ◌∷◌, ◌++◌, length, take, drop, replicate, Result, Ok, Some, refl, ap, ◌∙◌, arith, append_assoc, length-append, zero}
use Rattle.std.specs.Int.{w16, to_be_bytes, bytes_high_first}
use Rattle.std.specs.List.{list_all}
use Rattle.std.proofs.lemmas.Bool.{cond-true}
use Rattle.std.proofs.lemmas.List.{take_at, drop_at, length-replicate}
use Rattle.std.proofs.lemmas.Nat.{from_be_bytes-to_be_bytes_2}
use Rattle.b67_ops.specs.declared.Couple.{Couple}
use Rattle.b67_ops.specs.declared.BadCode.{BadCode}
use Rattle.b67_ops.specs.declared.table.OperatorKind.{OperatorKind}
use Rattle.b67_ops.specs.declared.table.OperatorKind.TheVariants as kinds
use Rattle.b67_ops.specs.declared.Operator.{Operator}
use Rattle.b67_ops.specs.declared.Operator.TheVariants.{Valc, Namc, Lt8, Lt16, Lt48, Mpcw, Branch, Plain}
use Rattle.b67_ops.specs.Codes.{code_of, kind_with}
use Rattle.b67_ops.specs.Spelling.{couple_bits, filling, spelling, IsSpelled, HasSpelling}
use Rattle.b67_ops.specs.Decoding.{◌>>=◌, couple_of, six_front, word_front, couple_front, operator_front, known_front, code_in, front}
use Rattle.b67_ops.proofs.Cases.{word_reader}
use Rattle.b67_ops.proofs.CodeLemmas.{code_of_valc, code_of_namc, code_of_literal, code_of_branch, code_of_plain, kind_in_valc, kind_in_namc, kind_in_code}
use Rattle.b67_ops.proofs.Reading.{front_first}
use Rattle.b67_ops.proofs.Couples.{couple_bits_below, couple_of_bits}

-- what is read after a first syllable of this kind
front_kind : (count level first : ℕ) (rest : List ℕ) (kind : OperatorKind) → kind_with (code_in first) ≡ Some kind
    → front count level (first ∷ rest) ≡ operator_front kind count level first rest
front_kind count level first rest kind h = front_first count level first rest ∙ ap (λ k. known_front k count level first rest) h

couple_front_bits : (level n : ℕ) (rest : List ℕ) → n < 2 ^ 16 → couple_front level (n / 256 % 256) (n % 256 ∷ rest) ≡ Ok (couple_of level n)
unfolding couple_front
couple_front_bits level n rest h = ap (λ k. Ok (couple_of level k)) (from_be_bytes-to_be_bytes_2 n h)

-- the two syllables of an operator with a couple
front_valc : (count level : ℕ) (couple : Couple) (rest : List ℕ) → IsSpelled level couple
    → front count level (spelling 0 level (Valc couple) ++ rest) ≡ Ok (Valc couple, 2)
front_valc count level couple rest h =
    let n = 0 * 2 ^ 14 + couple_bits level couple in
    let below = couple_bits_below level couple h in
    let same : code_of kinds.Valc * 2 ^ 8 + couple_bits level couple ≡ n = omega (arith, code_of_valc) in
    ap (λ k. front count level (to_be_bytes w16 k ++ rest)) same
    ∙ front_kind count level (n / 256 % 256) (n % 256 ∷ rest) kinds.Valc (kind_in_valc (n / 256 % 256) (omega arith))
    ∙ ap (λ r. r >>= (λ c. Ok (Valc c, 2))) (couple_front_bits level n rest (omega arith) ∙ ap Ok (couple_of_bits level 0 couple h))

front_namc : (count level : ℕ) (couple : Couple) (rest : List ℕ) → IsSpelled level couple
    → front count level (spelling 0 level (Namc couple) ++ rest) ≡ Ok (Namc couple, 2)
front_namc count level couple rest h =
    let n = 1 * 2 ^ 14 + couple_bits level couple in
    let below = couple_bits_below level couple h in
    let same : code_of kinds.Namc * 2 ^ 8 + couple_bits level couple ≡ n = omega (arith, code_of_namc) in
    ap (λ k. front count level (to_be_bytes w16 k ++ rest)) same
    ∙ front_kind count level (n / 256 % 256) (n % 256 ∷ rest) kinds.Namc (kind_in_namc (n / 256 % 256) (omega arith) (omega arith))
    ∙ ap (λ r. r >>= (λ c. Ok (Namc c, 2))) (couple_front_bits level n rest (omega arith) ∙ ap Ok (couple_of_bits level 1 couple h))

-- so many zeros are all 0
all_zeros : (count : ℕ) → list_all (λ n. eqb n 0) (replicate count 0) ≡ true
all_zeros zero = refl
all_zeros (suc count) = all_zeros count

-- the six syllables of a word
six_bytes : (n : ℕ) (rest : List ℕ) → n < 2 ^ 48 → six_front (bytes_high_first 6 n ++ rest) ≡ Ok n
six_bytes n rest h = ap Ok (omega arith)

word_front_spelling : (count n : ℕ) (rest : List ℕ) → n < 2 ^ 48
    → word_front count ((replicate count 0 ++ bytes_high_first 6 n) ++ rest) ≡ Ok n
unfolding word_front
word_front_spelling count n rest h =
    let zeros = replicate count 0 in
    let word = bytes_high_first 6 n in
    let regrouped : (zeros ++ word) ++ rest ≡ zeros ++ (word ++ rest) = append_assoc zeros word rest in
    let front_is : take count (zeros ++ (word ++ rest)) ≡ zeros = take_at zeros (word ++ rest) count (length-replicate count 0) in
    let back_is : drop count (zeros ++ (word ++ rest)) ≡ word ++ rest = drop_at zeros (word ++ rest) count (length-replicate count 0) in
    ap (word_front count) regrouped
    ∙ cond-true (list_all (λ k. eqb k 0) (take count (zeros ++ (word ++ rest)))) _ _ (ap (list_all (λ k. eqb k 0)) front_is ∙ all_zeros count)
    ∙ ap six_front back_is ∙ six_bytes n rest h

-- an operator with a word takes the filling, the word, and its code
length_word : (count n : ℕ) → length (replicate count 0 ++ bytes_high_first 6 n) + 1 ≡ 7 + count
length_word count n = omega (arith, length-append (replicate count 0) (bytes_high_first 6 n), length-replicate {A = ℕ} count 0)

-- an operator that is a code and the next whole word
word_operator : (make : ℕ → Operator) (count n : ℕ) (rest : List ℕ) → n < 2 ^ 48
    → word_reader make count ((replicate count 0 ++ bytes_high_first 6 n) ++ rest)
    ≡ Ok (make n, suc (length (replicate count 0 ++ bytes_high_first 6 n)))
word_operator make count n rest h =
    let after : Result ℕ BadCode → Result (Operator × ℕ) BadCode = λ r. r >>= (λ k. Ok (make k, 7 + count)) in
    let last : 7 + count ≡ suc (length (replicate count 0 ++ bytes_high_first 6 n)) = omega (arith, length_word count n) in
    ap after (word_front_spelling count n rest h) ∙ ap (λ k. Ok (make n, k)) last

-- what is read after a code that is the whole first syllable
front_code : (at level : ℕ) (kind : OperatorKind) (rest : List ℕ) → 128 ≤ code_of kind
    → front (filling at) level (code_of kind ∷ rest) ≡ operator_front kind (filling at) level (code_of kind) rest
front_code at level kind rest h = front_kind (filling at) level (code_of kind) rest kind (kind_in_code kind h)

-- what begins with an operator's spelling is read as that operator
pub front_spelling : (at level : ℕ) (op : Operator) (rest : List ℕ) → HasSpelling level op
    → front (filling at) level (spelling at level op ++ rest) ≡ Ok (op, length (spelling at level op))
front_spelling at level (Valc couple) rest h = front_valc (filling at) level couple rest h
front_spelling at level (Namc couple) rest h = front_namc (filling at) level couple rest h
front_spelling at level (Lt8 n) rest h = front_code at level kinds.Lt8 (n ∷ rest) code_of_literal.0
front_spelling at level (Lt16 n) rest h =
    front_code at level kinds.Lt16 (to_be_bytes w16 n ++ rest) code_of_literal.1 ∙ ap (λ k. Ok (Lt16 k, 3)) (from_be_bytes-to_be_bytes_2 n h)
front_spelling at level (Lt48 n) rest h =
    let word = replicate (filling at) 0 ++ bytes_high_first 6 n in
    front_code at level kinds.Lt48 (word ++ rest) code_of_literal.2 ∙ word_operator Lt48 (filling at) n rest h
front_spelling at level (Mpcw n) rest h =
    let word = replicate (filling at) 0 ++ bytes_high_first 6 n in
    front_code at level kinds.Mpcw (word ++ rest) code_of_literal.3 ∙ word_operator Mpcw (filling at) n rest h
front_spelling at level (Branch kind place) rest h =
    front_code at level (kinds.Branch kind) (to_be_bytes w16 place ++ rest) (code_of_branch kind)
    ∙ ap (λ k. Ok (Branch kind k, 3)) (from_be_bytes-to_be_bytes_2 place h)
front_spelling at level (Plain kind) rest h = front_code at level (kinds.Plain kind) rest (code_of_plain kind)
