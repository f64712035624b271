-- An operator is read from the word that it begins in and the word after it only.
use Rattle.std.proofs.Common.{◌≡◌, ℕ, ◌+◌, ◌-◌, ◌%◌, ◌≤◌, List, ◌++◌, take, drop, Result, Ok, Err, refl, sym, ap, ◌∙◌, inl, inr, arith, append_assoc, length-take, cond, ltb, Bool, true, false}
use Rattle.std.proofs.lemmas.Bool.{cases_lt}
use Rattle.std.proofs.lemmas.List.{take_all, take-append-drop, drop-take, drop-drop, get_or-take, get_or_past}
use Rattle.b67_ops.specs.declared.BadCode.{BadCode}
use Rattle.b67_ops.specs.declared.BadCode.TheVariants.{Unknown, CutShort, BadLevel}
use Rattle.b67_ops.specs.declared.Operator.{Operator}
use Rattle.b67_ops.specs.Spelling.{filling, spelling, level_named}
use Rattle.b67_ops.specs.Decoding.{◌>>=◌, front, decoded}
use Rattle.b67_ops.proofs.Spelled.{front_spelling}
use Rattle.b67_ops.proofs.Reading.{IsBytes, front_reads}
use Rattle.b67_ops.proofs.Refusing.{padding, front_goes_on, front_stays, front_level}
use Rattle.b67_ops.proofs.Laws.{spelling_within, padded, dropped, judged, decoded_front}

-- the first of some bytes are bytes
taken : (k : ℕ) (bytes : List ℕ) → IsBytes bytes → IsBytes (take k bytes)
taken k bytes b i =
    elim (cases_lt i k) [
      | inl within ↦ rw (get_or-take k bytes i 0 within) (b i)
      | inr past ↦ rw (get_or_past (take k bytes) i 0 (omega (arith, length-take k bytes))) (omega arith)
    ]

-- what is read from the first syllables, as far as the next whole word, is read from all of them
front_taken : (at level k : ℕ) (bytes : List ℕ) → IsBytes bytes → 7 + filling at ≤ k → (r : Result (Operator × ℕ) BadCode)
    → front (filling at) level (take k bytes) ≡ r → front (filling at) level bytes ≡ r
front_taken at level k bytes b long (Ok x) h =
    let r = front_reads at level (take k bytes) (taken k bytes b) x.0 x.1 h in
    let sp = spelling at level x.0 in
    let whole : bytes ≡ sp ++ (drop x.1 (take k bytes) ++ drop k bytes) =
    sym (take-append-drop k bytes) ∙ ap (λ xs. xs ++ drop k bytes) r.text ∙ append_assoc sp (drop x.1 (take k bytes)) (drop k bytes) in
    ap (front (filling at) level) whole
    ∙ front_spelling at level x.0 (drop x.1 (take k bytes) ++ drop k bytes) r.spelled
    ∙ ap (λ n. Ok (x.0, n)) (sym r.count_is)
front_taken at level k bytes b long (Err CutShort) h =
    let on = front_goes_on (filling at) level (take k bytes) (omega arith) h in
    let r = front_reads at level (take k bytes ++ padding) (padded (take k bytes) (taken k bytes b)) on.0 on.1 on.2 in
    let all : take k bytes ≡ bytes = take_all k bytes (omega (arith, length-take k bytes, on.3, r.count_is, (spelling_within at level on.0).1)) in
    ap (front (filling at) level) (sym all) ∙ h
front_taken at level k bytes b long (Err BadLevel) h = absurd (front_level (filling at) level (take k bytes) h)
front_taken at level k bytes b long (Err Unknown) h =
    ap (front (filling at) level) (sym (take-append-drop k bytes)) ∙ front_stays (filling at) level (take k bytes) (drop k bytes) h

-- a place counted from some words on
abbrev pub moved : ℕ → Result (Operator × ℕ) BadCode → Result (Operator × ℕ) BadCode
moved base r = r >>= (λ found. Ok (found.0, base + found.1))

judged_moved : (base at level : ℕ) (r : Result (Operator × ℕ) BadCode) → (r >>= judged (base + at) level) ≡ moved base (r >>= judged at level)
judged_moved base at level (Err e) = refl
judged_moved base at level (Ok x) = judged-at base at x (ltb level (level_named x.0))
  where
    judged-at : (base at : ℕ) (x : Operator × ℕ) (b : Bool)
        → cond b (Err BadLevel) (Ok (x.0, base + at + x.1)) ≡ moved base (cond b (Err BadLevel) (Ok (x.0, at + x.1)))
    judged-at base at x true = refl
    judged-at base at x false = ap (λ n. Ok (x.0, n)) (omega arith)

-- what is decoded in the two words from here on is decoded in all the code
pub decoded_window : (bytes : List ℕ) (base at level : ℕ) → IsBytes bytes → base % 6 ≡ 0 → at ≤ 5
    → decoded bytes (base + at) level ≡ moved base (decoded (take 12 (drop base bytes)) at level)
decoded_window bytes base at level b whole within =
    let rest = drop (base + at) bytes in
    let r = front (filling at) level (drop at (take 12 (drop base bytes))) in
    let size : 12 ≡ at + (12 - at) = omega arith in
    let window : drop at (take 12 (drop base bytes)) ≡ take (12 - at) rest =
    ap (λ n. drop at (take n (drop base bytes))) size ∙ drop-take at (12 - at) (drop base bytes)
    ∙ ap (take (12 - at)) (drop-drop at base bytes) in
    let place : filling (base + at) ≡ filling at = omega arith in
    let same : front (filling at) level rest ≡ r =
    front_taken at level (12 - at) rest (dropped (base + at) bytes b) (omega arith) r (ap (front (filling at) level) (sym window)) in
    decoded_front bytes (base + at) level r (ap (λ n. front n level rest) place ∙ same)
    ∙ judged_moved base at level r
    ∙ ap (moved base) (sym (decoded_front (take 12 (drop base bytes)) at level r refl))
