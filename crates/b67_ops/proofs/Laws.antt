-- The laws of spellings: what was appended stands, what stands still stands after more, one operator stands at a place,
-- and what stands is what is read there.
use Rattle.std.proofs.Common.{◌≡◌, ℕ, zero, suc, ◌+◌, ◌-◌, ◌<◌, ◌≤◌, cond, ltb, List, [], ◌++◌, length, take, drop, replicate, Result, Ok, Err, refl, sym, ap, ◌∙◌, subst, inl, inr, ◌↔◌, arith, append_assoc, length-append, length-drop, length-take}
use Rattle.std.specs.Prelude.{IfOk}
use Rattle.std.specs.Int.{bytes_high_first}
use Rattle.std.proofs.lemmas.Bool.{le-ltb, cond-false, cond_both, cases_lt, ltb-true, ltb-false}
use Rattle.std.proofs.lemmas.List.{append-nil, drop_at, drop_all, drop-drop, drop-append-le, take_at, get_or-drop, get_or_append_left, get_or-append_right, length-replicate}
use Rattle.b67_list.proofs.Lists.{take_append_ge}
use Rattle.b67_ops.specs.declared.TheConstants.{MOST_LEVEL}
use Rattle.b67_ops.specs.declared.BadCode.{BadCode}
use Rattle.b67_ops.specs.declared.BadCode.TheVariants.{Unknown, CutShort, BadLevel}
use Rattle.b67_ops.specs.declared.Operator.{Operator}
use Rattle.b67_ops.specs.declared.Operator.TheVariants.{Valc, Namc, Lt8, Lt16, Lt48, Mpcw, Branch, Plain}
use Rattle.b67_ops.specs.Spelling.{filling, spelling, HasSpelling, Fits, level_named, OperatorStands}
use Rattle.b67_ops.specs.Decoding.{◌>>=◌, front, decoded}
use Rattle.b67_ops.specs.Refusals.{IsCutShort, NamesLevelAbove, IsUnknown}
use Rattle.b67_ops.proofs.Couples.{IsSpelled_from_seen}
use Rattle.b67_ops.proofs.Spelled.{front_spelling}
use Rattle.b67_ops.proofs.Reading.{IsBytes, Reads, front_reads}
use Rattle.b67_ops.proofs.Refusing.{padding, front_goes_on, front_stays, front_level, front_none}

pub length_word : (count n : ℕ) → length (replicate count 0 ++ bytes_high_first 6 n) ≡ count + 6
length_word count n = omega (arith, length-append (replicate count 0) (bytes_high_first 6 n), length-replicate {A = ℕ} count 0)

-- a spelling ends at most with the word after the one that it begins in
pub spelling_within : (at level : ℕ) (op : Operator) → (1 ≤ length (spelling at level op)) × (length (spelling at level op) ≤ 7 + filling at)
spelling_within at level (Valc couple) = (omega arith, omega arith)
spelling_within at level (Namc couple) = (omega arith, omega arith)
spelling_within at level (Lt8 n) = (omega arith, omega arith)
spelling_within at level (Lt16 n) = (omega arith, omega arith)
spelling_within at level (Lt48 n) = (omega arith, omega (arith, length_word (filling at) n))
spelling_within at level (Mpcw n) = (omega arith, omega (arith, length_word (filling at) n))
spelling_within at level (Branch kind place) = (omega arith, omega arith)
spelling_within at level (Plain kind) = (omega arith, omega arith)

-- a spelling is 1 to 12 syllables
pub length_spelling : (at level : ℕ) (op : Operator) → (1 ≤ length (spelling at level op)) × (length (spelling at level op) ≤ 12)
length_spelling at level op = let within = spelling_within at level op in (within.0, omega (arith, within.1))

-- what fits a level has a spelling there
pub HasSpelling_from_fits : (level : ℕ) (op : Operator) → level ≤ MOST_LEVEL → Fits level op → HasSpelling level op
HasSpelling_from_fits level (Valc couple) p h = IsSpelled_from_seen level couple p h
HasSpelling_from_fits level (Namc couple) p h = IsSpelled_from_seen level couple p h
HasSpelling_from_fits level (Lt8 n) p h = h
HasSpelling_from_fits level (Lt16 n) p h = h
HasSpelling_from_fits level (Lt48 n) p h = h
HasSpelling_from_fits level (Mpcw n) p h = h
HasSpelling_from_fits level (Branch kind place) p h = h
HasSpelling_from_fits level (Plain kind) p h = h

-- what has a spelling fits, where its couple names no level above
pub Fits_from_spelled : (level : ℕ) (op : Operator) → HasSpelling level op → level_named op ≤ level → Fits level op
Fits_from_spelled level (Valc couple) h p = record { level_seen = p; index_fits = h.index_fits }
Fits_from_spelled level (Namc couple) h p = record { level_seen = p; index_fits = h.index_fits }
Fits_from_spelled level (Lt8 n) h p = h
Fits_from_spelled level (Lt16 n) h p = h
Fits_from_spelled level (Lt48 n) h p = h
Fits_from_spelled level (Mpcw n) h p = h
Fits_from_spelled level (Branch kind place) h p = h
Fits_from_spelled level (Plain kind) h p = h

pub level_named_within : (level : ℕ) (op : Operator) → Fits level op → level_named op ≤ level
level_named_within level (Valc couple) h = h.level_seen
level_named_within level (Namc couple) h = h.level_seen
level_named_within level (Lt8 n) h = omega arith
level_named_within level (Lt16 n) h = omega arith
level_named_within level (Lt48 n) h = omega arith
level_named_within level (Mpcw n) h = omega arith
level_named_within level (Branch kind place) h = omega arith
level_named_within level (Plain kind) h = omega arith

-- an operator stands within the code
pub Stands_within : {bytes : List ℕ} {at level : ℕ} {op : Operator} {next : ℕ} → OperatorStands bytes at level op next → (at < next) × (next ≤ at + 12) × (next ≤ length bytes)
Stands_within {bytes} {at} {level} {op} {next} s =
    let size = length_spelling at level op in
    let long = ap length s.text in (
      omega (arith, size.0, s.next_is),
      omega (arith, size.1, s.next_is),
      omega (arith, size.0, s.next_is, long, length-drop at bytes, length-drop next bytes, length-append (spelling at level op) (drop next bytes)),
    )

-- what was appended stands
pub Stands_appended : (bytes : List ℕ) (level : ℕ) (op : Operator) → Fits level op
    → OperatorStands (bytes ++ spelling (length bytes) level op) (length bytes) level op (length bytes + length (spelling (length bytes) level op))
Stands_appended bytes level op h =
    let at = length bytes in
    let sp = spelling at level op in
    let all : drop at (bytes ++ sp) ≡ sp = drop_at bytes sp at refl in
    let none : drop (at + length sp) (bytes ++ sp) ≡ [] = drop_all (at + length sp) (bytes ++ sp) (omega (arith, length-append bytes sp)) in
    record {
      text = all ∙ sym (append-nil sp) ∙ ap (λ xs. sp ++ xs) (sym none);
      next_is = refl;
      fits = h;
    }

-- what stands still stands after more
pub Stands_kept : {bytes : List ℕ} {at level : ℕ} {op : Operator} {next : ℕ} (more : List ℕ) → OperatorStands bytes at level op next → OperatorStands (bytes ++ more) at level op next
Stands_kept {bytes} {at} {level} {op} {next} more s =
    let within = Stands_within s in
    let sp = spelling at level op in
    let here : drop at (bytes ++ more) ≡ drop at bytes ++ more = drop-append-le at bytes more (omega (arith, within.0, within.2)) in
    let after : drop next (bytes ++ more) ≡ drop next bytes ++ more = drop-append-le next bytes more within.2 in
    record {
      text = here ∙ ap (λ xs. xs ++ more) s.text ∙ append_assoc sp (drop next bytes) more ∙ ap (λ xs. sp ++ xs) (sym after);
      next_is = s.next_is;
      fits = s.fits;
    }

-- what stands is read at the front of the code there
front_stands : {bytes : List ℕ} {at level : ℕ} {op : Operator} {next : ℕ} → level ≤ MOST_LEVEL → OperatorStands bytes at level op next
    → front (filling at) level (drop at bytes) ≡ Ok (op, length (spelling at level op))
front_stands {bytes} {at} {level} {op} {next} most s =
    ap (front (filling at) level) s.text ∙ front_spelling at level op (drop next bytes) (HasSpelling_from_fits level op most s.fits)

-- one operator stands at a place, where the current level is one
pub Stands_unique : {bytes : List ℕ} {at level : ℕ} {op other : Operator} {next after : ℕ} → level ≤ MOST_LEVEL
    → OperatorStands bytes at level op next → OperatorStands bytes at level other after → (op ≡ other) × (next ≡ after)
Stands_unique {at = at} {level = level} {op = op} {other = other} most s t =
    let same : ◌≡◌ {A = Result (Operator × ℕ) BadCode} (Ok (op, length (spelling at level op))) (Ok (other, length (spelling at level other))) = sym (front_stands most s) ∙ front_stands most t in
    let pair : ◌≡◌ {A = Operator × ℕ} (op, length (spelling at level op)) (other, length (spelling at level other)) = cc in
    let one : op ≡ other = ap (λ (p : Operator × ℕ). p.0) pair in
    (one, s.next_is ∙ ap (λ o. at + length (spelling at level o)) one ∙ sym t.next_is)

-- what is decoded from what is read: the level is tested, and the place after it is counted
abbrev pub judged : ℕ → ℕ → Operator × ℕ → Result (Operator × ℕ) BadCode
judged at level found = cond (ltb level (level_named found.0)) (Err BadLevel) (Ok (found.0, at + found.1))

pub decoded_front : (bytes : List ℕ) (at level : ℕ) (r : Result (Operator × ℕ) BadCode) → front (filling at) level (drop at bytes) ≡ r
    → decoded bytes at level ≡ (r >>= judged at level)
unfolding decoded
decoded_front bytes at level r h = ap (λ x. x >>= judged at level) h

judged_seen : (at level : ℕ) (found : Operator × ℕ) → level_named found.0 ≤ level → judged at level found ≡ Ok (found.0, at + found.1)
judged_seen at level found h = cond-false (ltb level (level_named found.0)) (Err BadLevel) (Ok (found.0, at + found.1)) (le-ltb level (level_named found.0) h)

-- what stands is decoded
pub decoded_stands : {bytes : List ℕ} {at level : ℕ} {op : Operator} {next : ℕ} → level ≤ MOST_LEVEL → OperatorStands bytes at level op next → decoded bytes at level ≡ Ok (op, next)
decoded_stands {bytes} {at} {level} {op} {next} most s =
    decoded_front bytes at level (Ok (op, length (spelling at level op))) (front_stands most s)
    ∙ judged_seen at level (op, length (spelling at level op)) (level_named_within level op s.fits)
    ∙ ap (λ k. Ok (op, k)) (sym s.next_is)

-- the code from a place on
pub dropped : (at : ℕ) (bytes : List ℕ) → IsBytes bytes → IsBytes (drop at bytes)
dropped at bytes b i = rw (get_or-drop at bytes i 0) (b (at + i))

zeros_bytes : (count : ℕ) → IsBytes (replicate count 0)
zeros_bytes zero i = omega arith
zeros_bytes (suc count) zero = omega arith
zeros_bytes (suc count) (suc i) = zeros_bytes count i

-- bytes with zeros after them are bytes
pub padded : (bytes : List ℕ) → IsBytes bytes → IsBytes (bytes ++ padding)
padded bytes b i =
    elim (cases_lt i (length bytes)) [
      | inl within ↦ rw (get_or_append_left bytes padding 0 i within) (b i)
      | inr past ↦ rw (get_or-append_right bytes padding (length bytes) i 0 refl past) (zeros_bytes 12 (i - length bytes))
    ]

-- what can come of a decoding, each with its cause
pub data Outcome (bytes : List ℕ) (at level : ℕ) : Result (Operator × ℕ) BadCode → Type 0 where
  stands : (op : Operator) (next : ℕ) → OperatorStands bytes at level op next → Outcome bytes at level (Ok (op, next))
  cut_short : IsCutShort bytes at level → Outcome bytes at level (Err CutShort)
  above : NamesLevelAbove bytes at level → Outcome bytes at level (Err BadLevel)
  unknown : IsUnknown bytes at level → Outcome bytes at level (Err Unknown)

-- an operator that is read stands there, if its level can be seen
outcome_read : (bytes : List ℕ) (at level : ℕ) (op : Operator) (size : ℕ) → Reads at level (drop at bytes) op size → Outcome bytes at level (judged at level (op, size))
outcome_read bytes at level op size r =
    let text : drop at bytes ≡ spelling at level op ++ drop (at + size) bytes = r.text ∙ ap (λ xs. spelling at level op ++ xs) (drop-drop size at bytes) in
    let P : Result (Operator × ℕ) BadCode → Type 0 = Outcome bytes at level in
    cond_both (ltb level (level_named op)) (Err BadLevel) (Ok (op, at + size)) P
    (λ t. above (record { op = op; rest = drop (at + size) bytes; spelled = r.spelled; above = ltb-true level (level_named op) t; text = text }))
    (λ f. stands op (at + size) (record {
      text = text;
      next_is = ap (λ k. at + k) r.count_is;
      fits = Fits_from_spelled level op r.spelled (ltb-false level (level_named op) f);
    }))

-- an operator that is read once zeros follow is what some syllables begin
cut_from_read : (bytes : List ℕ) (at level : ℕ) (op : Operator) (size : ℕ) → Reads at level (drop at bytes ++ padding) op size
    → length (drop at bytes) < size → IsCutShort bytes at level
cut_from_read bytes at level op size r short =
    let rest = drop at bytes in
    let sp = spelling at level op in
    let whole : take (length sp) (rest ++ padding) ≡ sp = ap (take (length sp)) r.text ∙ take_at sp (drop size (rest ++ padding)) (length sp) refl in
    let parts : take (length sp) (rest ++ padding) ≡ rest ++ take (length sp - length rest) padding =
    take_append_ge rest padding (length sp) (omega (arith, r.count_is)) in
    record {
      op = op;
      missing = take (length sp - length rest) padding;
      spelled = r.spelled;
      some = omega (arith, length-take (length sp - length rest) padding, r.count_is);
      text = sym parts ∙ whole;
    }

-- what is cut short is the beginning of an operator
cut_from_front : (bytes : List ℕ) (at level : ℕ) → IsBytes bytes → front (filling at) level (drop at bytes) ≡ Err CutShort → IsCutShort bytes at level
cut_from_front bytes at level b h =
    let rest = drop at bytes in
    let on = front_goes_on (filling at) level rest (omega arith) h in
    cut_from_read bytes at level on.0 on.1 (front_reads at level (rest ++ padding) (padded rest (dropped at bytes b)) on.0 on.1 on.2) on.3

-- what can come of a decoding, by what was read
outcome_front : (bytes : List ℕ) (at level : ℕ) → IsBytes bytes → (r : Result (Operator × ℕ) BadCode)
    → front (filling at) level (drop at bytes) ≡ r → Outcome bytes at level (r >>= judged at level)
outcome_front bytes at level b (Ok x) h = outcome_read bytes at level x.0 x.1 (front_reads at level (drop at bytes) (dropped at bytes b) x.0 x.1 h)
outcome_front bytes at level b (Err CutShort) h = cut_short (cut_from_front bytes at level b h)
outcome_front bytes at level b (Err BadLevel) h = absurd (front_level (filling at) level (drop at bytes) h)
outcome_front bytes at level b (Err Unknown) h = unknown (λ op more rest spelled same.
    let stays = front_stays (filling at) level (drop at bytes) more h in
    let read = ap (front (filling at) level) same ∙ front_spelling at level op rest spelled in cc)

pub decoded_outcome : (bytes : List ℕ) (at level : ℕ) → IsBytes bytes → Outcome bytes at level (decoded bytes at level)
decoded_outcome bytes at level b =
    let P : Result (Operator × ℕ) BadCode → Type 0 = Outcome bytes at level in
    subst P (sym (decoded_front bytes at level (front (filling at) level (drop at bytes)) refl))
    (outcome_front bytes at level b (front (filling at) level (drop at bytes)) refl)

-- no spelling begins another at its place
pub spelling_prefix : (at level : ℕ) (a b : Operator) (x y : List ℕ) → HasSpelling level a → HasSpelling level b
    → spelling at level a ++ x ≡ spelling at level b ++ y → a ≡ b
spelling_prefix at level a b x y p q h =
    let same : ◌≡◌ {A = Result (Operator × ℕ) BadCode} (Ok (a, length (spelling at level a))) (Ok (b, length (spelling at level b))) =
    sym (front_spelling at level a x p) ∙ ap (front (filling at) level) h ∙ front_spelling at level b y q in
    let pair : ◌≡◌ {A = Operator × ℕ} (a, length (spelling at level a)) (b, length (spelling at level b)) = cc in
    ap (λ (p : Operator × ℕ). p.0) pair

-- what begins with a spelling is no part of one
not_part : (at level : ℕ) (a b : Operator) (rest x missing : List ℕ) → HasSpelling level a → HasSpelling level b
    → rest ≡ spelling at level a ++ x → 0 < length missing → rest ++ missing ≡ spelling at level b → ⊥
not_part at level a b rest x missing p q h some whole =
    let sp = spelling at level a in
    let all : sp ++ (x ++ missing) ≡ spelling at level b = sym (append_assoc sp x missing) ∙ ap (λ xs. xs ++ missing) (sym h) ∙ whole in
    let same : a ≡ b = spelling_prefix at level a b (x ++ missing) [] p q (all ∙ sym (append-nil (spelling at level b))) in
    let sizes : length (sp ++ (x ++ missing)) ≡ length sp = ap length all ∙ ap (λ o. length (spelling at level o)) (sym same) in
    absurd (omega (arith, length-append sp (x ++ missing), length-append x missing))

module _ (bytes : List ℕ) (at level : ℕ) (most : level ≤ MOST_LEVEL) where
  stands_known : (op : Operator) (next : ℕ) → OperatorStands bytes at level op next → HasSpelling level op
  stands_known op next s = HasSpelling_from_fits level op most s.fits

  only_stands : {r : Result (Operator × ℕ) BadCode} → Outcome bytes at level r → (op : Operator) (next : ℕ) → r ≡ Ok (op, next) → OperatorStands bytes at level op next
  only_stands (stands o n s) op next h =
      let same : ◌≡◌ {A = Operator × ℕ} (o, n) (op, next) = cc in
      subst (λ (p : Operator × ℕ). OperatorStands bytes at level p.0 p.1) same s
  only_stands (cut_short c) op next h = cc
  only_stands (above n) op next h = cc
  only_stands (unknown u) op next h = cc

  cut_only : {r : Result (Operator × ℕ) BadCode} → Outcome bytes at level r → r ≡ Err CutShort → IsCutShort bytes at level
  cut_only (stands o n s) h = cc
  cut_only (cut_short c) h = c
  cut_only (above n) h = cc
  cut_only (unknown u) h = cc

  cut_all : {r : Result (Operator × ℕ) BadCode} → Outcome bytes at level r → IsCutShort bytes at level → r ≡ Err CutShort
  cut_all (stands o n s) c = absurd (not_part at level o c.op (drop at bytes) (drop n bytes) c.missing (stands_known o n s) c.spelled s.text c.some c.text)
  cut_all (cut_short d) c = refl
  cut_all (above n) c = absurd (not_part at level n.op c.op (drop at bytes) n.rest c.missing n.spelled c.spelled n.text c.some c.text)
  cut_all (unknown u) c = absurd (u c.op c.missing [] c.spelled (c.text ∙ sym (append-nil (spelling at level c.op))))

  above_only : {r : Result (Operator × ℕ) BadCode} → Outcome bytes at level r → r ≡ Err BadLevel → NamesLevelAbove bytes at level
  above_only (stands o n s) h = cc
  above_only (cut_short c) h = cc
  above_only (above n) h = n
  above_only (unknown u) h = cc

  above_all : {r : Result (Operator × ℕ) BadCode} → Outcome bytes at level r → NamesLevelAbove bytes at level → r ≡ Err BadLevel
  above_all (stands o n s) a =
      let same : o ≡ a.op = spelling_prefix at level o a.op (drop n bytes) a.rest (stands_known o n s) a.spelled (sym s.text ∙ a.text) in
      let seen : level_named a.op ≤ level = subst (λ p. level_named p ≤ level) same (level_named_within level o s.fits) in
      absurd (omega (arith, a.above))
  above_all (cut_short c) a = absurd (not_part at level a.op c.op (drop at bytes) a.rest c.missing a.spelled c.spelled a.text c.some c.text)
  above_all (above n) a = refl
  above_all (unknown u) a = absurd (u a.op [] a.rest a.spelled (append-nil (drop at bytes) ∙ a.text))

  unknown_only : {r : Result (Operator × ℕ) BadCode} → Outcome bytes at level r → r ≡ Err Unknown → IsUnknown bytes at level
  unknown_only (stands o n s) h = cc
  unknown_only (cut_short c) h = cc
  unknown_only (above n) h = cc
  unknown_only (unknown u) h = u

  unknown_all : {r : Result (Operator × ℕ) BadCode} → Outcome bytes at level r → IsUnknown bytes at level → r ≡ Err Unknown
  unknown_all (stands o n s) u = absurd (u o [] (drop n bytes) (stands_known o n s) (append-nil (drop at bytes) ∙ s.text))
  unknown_all (cut_short c) u = absurd (u c.op c.missing [] c.spelled (c.text ∙ sym (append-nil (spelling at level c.op))))
  unknown_all (above a) u = absurd (u a.op [] a.rest a.spelled (append-nil (drop at bytes) ∙ a.text))
  unknown_all (unknown v) u = refl

  -- an operator is decoded exactly where it stands
  pub decoded_ok : IsBytes bytes → (op : Operator) (next : ℕ) → (decoded bytes at level ≡ Ok (op, next)) ↔ OperatorStands bytes at level op next
  decoded_ok b op next = (only_stands (decoded_outcome bytes at level b) op next, decoded_stands most)

  -- each refusal comes exactly where it has its cause
  pub decoded_cut_short : IsBytes bytes → (decoded bytes at level ≡ Err CutShort) ↔ IsCutShort bytes at level
  decoded_cut_short b = (cut_only (decoded_outcome bytes at level b), cut_all (decoded_outcome bytes at level b))

  pub decoded_above : IsBytes bytes → (decoded bytes at level ≡ Err BadLevel) ↔ NamesLevelAbove bytes at level
  decoded_above b = (above_only (decoded_outcome bytes at level b), above_all (decoded_outcome bytes at level b))

  pub decoded_unknown : IsBytes bytes → (decoded bytes at level ≡ Err Unknown) ↔ IsUnknown bytes at level
  decoded_unknown b = (unknown_only (decoded_outcome bytes at level b), unknown_all (decoded_outcome bytes at level b))

  -- an operator that is decoded lies within the code
  pub decoded_within : IsBytes bytes → (r : Result (Operator × ℕ) BadCode) → decoded bytes at level ≡ r
      → IfOk r (λ found. (at < found.1) × (found.1 ≤ at + 12) × (found.1 ≤ length bytes))
  decoded_within b (Ok found) h = Stands_within (only_stands (decoded_outcome bytes at level b) found.0 found.1 h)
  decoded_within b (Err e) h = tt

-- nothing is decoded past the code
pub decoded_past : (bytes : List ℕ) (at level : ℕ) → length bytes ≤ at → decoded bytes at level ≡ Err CutShort
decoded_past bytes at level h =
    decoded_front bytes at level (Err CutShort) (ap (front (filling at) level) (drop_all at bytes h) ∙ front_none (filling at) level)
