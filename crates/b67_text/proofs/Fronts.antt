-- What stands at a place, and where it stops.
use Rattle.std.proofs.Common.{◌≡◌, ℕ, ◌+◌, ◌-◌, ◌<◌, ◌≤◌, ◌^◌, zero, suc, Option, None, Some, List, [], ◌∷◌, ◌++◌, length, get_or, take, drop, refl, sym, ap, subst, arith, ◌∙◌, ⊎_elim, append_assoc}
use Rattle.std.specs.Prelude.{slice_get}
use Rattle.std.specs.Fmt.{decimal}
use Rattle.std.proofs.lemmas.Option.{slice_get_within}
use Rattle.std.proofs.lemmas.List.{append-nil, length-append, length-take-le, take_at, take-append-drop, drop_more, append_cancel_left}
use Rattle.std.proofs.lemmas.Bool.{cases_lt}
use Rattle.b67_list.proofs.Lists.{drop_next, take_append_ge}
use Rattle.b67_text.specs.declared.number.Numbers.{Numbers}
use Rattle.b67_text.specs.Texts.{Begins, HasNone, StopsAt, PartStands, AreApart}
use Rattle.b67_text.specs.Numerals.{IsDigit, NumberIsIn, IsField, IsSmallNumber, spelled, AreDigits}
use Rattle.b67_text.proofs.Decimals.{Longer, Shorter, compare_fronts, digits, AtEnd, GoesOn, ahead}
use Rattle.b67_text.proofs.Beginnings.{wide}

pub byte_at : (bytes : List ℕ) (at byte : ℕ) (rest : List ℕ) → drop at bytes ≡ byte ∷ rest → slice_get bytes at ≡ Some byte
byte_at [] zero byte rest e = cc
byte_at [] (suc at) byte rest e = cc
byte_at (x ∷ bytes) zero byte rest e = let same : x ≡ byte = cc in ap Some same
byte_at (x ∷ bytes) (suc at) byte rest e = byte_at bytes at byte rest e

-- one more byte of what stands there
pub stands_more : (part bytes : List ℕ) (at next byte : ℕ) → PartStands part bytes at next → slice_get bytes next ≡ Some byte → PartStands (part ++ byte ∷ []) bytes at (next + 1)
stands_more part bytes at next byte st here =
    let inside = slice_get_within bytes next byte here in
    let same : suc next ≡ next + 1 = omega arith in
    record {
      within = omega arith;
      next_is = omega (arith, st.next_is, length-append part (byte ∷ []));
      part_is = st.part_is ∙ ap (λ r. part ++ r) (drop_next bytes next byte here ∙ ap (λ n. byte ∷ drop n bytes) same) ∙ sym (append_assoc part (byte ∷ []) (drop (next + 1) bytes));
    }

-- what begins one of these, is none itself, and begins none with what is after it
pub record Ends (Is : List ℕ → Type 0) (front rest : List ℕ) : Type 0 where
  pub begins : Begins Is front
  pub not_yet : Is front → ⊥
  pub dead : (byte : ℕ) (more : List ℕ) → rest ≡ byte ∷ more → Begins Is (front ++ byte ∷ []) → ⊥

longest_on : (Is : List ℕ → Type 0) (front rest : List ℕ) (j : ℕ) → Ends Is front rest → 0 < j → j ≤ length rest → Begins Is (front ++ take j rest) → ⊥
longest_on Is front rest zero ends some inside b = omega arith
longest_on Is front [] (suc j) ends some inside b = omega arith
longest_on Is front (byte ∷ more) (suc j) ends some inside b =
    ends.dead byte more refl (take j more ++ b.0, subst Is (append_assoc front (byte ∷ take j more) b.0 ∙ sym (append_assoc front (byte ∷ []) (take j more ++ b.0))) b.1)

no_longer : (Is : List ℕ → Type 0) (front rest part after more : List ℕ) → Ends Is front rest → Is part → part ≡ front ++ more → rest ≡ more ++ after → ⊥
no_longer Is front rest part after [] ends is e r = ends.not_yet (subst Is (e ∙ append-nil front) is)
no_longer Is front rest part after (byte ∷ more) ends is e r = ends.dead byte (more ++ after) r (more, subst Is (e ∙ sym (append_assoc front (byte ∷ []) more)) is)

no_part : (Is : List ℕ → Type 0) (front rest part after : List ℕ) → AreApart Is → Ends Is front rest → Is part → part ++ after ≡ front ++ rest → ⊥
no_part Is front rest part after apart ends is e =
    ⊎_elim (λ (h : Longer part front after rest). no_longer Is front rest part after h.more ends is h.longer h.rest)
    (λ (h : Shorter part front after rest).
    let whole : List ℕ = front ++ ends.begins.0 in
    let is_whole : Is whole = ends.begins.1 in
    let split : whole ≡ part ++ (h.head ∷ (h.more ++ ends.begins.0)) = ap (λ f. f ++ ends.begins.0) h.shorter ∙ append_assoc part (h.head ∷ h.more) ends.begins.0 in
    let same : part ≡ whole = apart part whole (h.head ∷ (h.more ++ ends.begins.0)) [] is is_whole (sym split ∙ sym (append-nil whole)) in
    omega (arith, ap length same, ap length split, length-append part (h.head ∷ (h.more ++ ends.begins.0)))) (compare_fronts part front after rest e)

pub ends_none : (Is : List ℕ → Type 0) (front rest : List ℕ) → AreApart Is → Ends Is front rest → HasNone Is (front ++ rest) (length front)
ends_none Is front rest apart ends = record {
  none = λ part after is e. no_part Is front rest part after apart ends is e;
  reach = record {
    within = omega (arith, length-append front rest);
    begins = subst (Begins Is) (sym (take_at front rest (length front) refl)) ends.begins;
    longest = λ k inside b. ⊎_elim (λ (past : length front < k).
        let long : length (front ++ rest) ≡ length front + length rest = length-append front rest in
        absurd (longest_on Is front rest (k - length front) ends (omega arith) (omega arith) (subst (Begins Is) (take_append_ge front rest k (omega arith)) b)))
        (λ (fine : k ≤ length front). fine) (cases_lt (length front) k);
  };
}

pub stops_at : (Is : List ℕ → Type 0) (front bytes : List ℕ) (at next : ℕ) → AreApart Is → PartStands front bytes at next → Ends Is front (drop next bytes) → StopsAt Is bytes at next
stops_at Is front bytes at next apart st ends =
    let count : length front ≡ next - at = omega (arith, st.next_is) in
    record {
      behind = omega (arith, st.next_is);
      none = subst (λ n. HasNone Is (drop at bytes) n) count (subst (λ xs. HasNone Is xs (length front)) (sym st.part_is) (ends_none Is front (drop next bytes) apart ends));
    }

-- a word
abbrev pub IsWord : List ℕ → List ℕ → Type 0
IsWord word text = text ≡ word

pub word_apart : (word : List ℕ) → AreApart (IsWord word)
word_apart word part other a b p q e = p ∙ sym q

word_split : (word : List ℕ) (i : ℕ) → i < length word → word ≡ take i word ++ get_or word i 0 ∷ drop (i + 1) word
word_split word i inside = sym (take-append-drop i word) ∙ ap (λ r. take i word ++ r) (drop_more word i 0 inside)

pub word_stops : (word bytes : List ℕ) (at next i : ℕ) → i < length word → PartStands (take i word) bytes at next → (slice_get bytes next ≡ Some (get_or word i 0) → ⊥) → StopsAt (IsWord word) bytes at next
word_stops word bytes at next i inside st other =
    let long : length (take i word) ≡ i = length-take-le i word (omega arith) in
    stops_at (IsWord word) (take i word) bytes at next (word_apart word) st
    record {
      begins = (drop i word, take-append-drop i word);
      not_yet = λ e. omega (arith, ap length e);
      dead = λ byte more r b.
          let e : take i word ++ (byte ∷ b.0) ≡ take i word ++ (get_or word i 0 ∷ drop (i + 1) word) = sym (append_assoc (take i word) (byte ∷ []) b.0) ∙ b.1 ∙ word_split word i inside in
          let tails : byte ∷ b.0 ≡ get_or word i 0 ∷ drop (i + 1) word = append_cancel_left (take i word) (byte ∷ b.0) (get_or word i 0 ∷ drop (i + 1) word) e in
          let same : byte ≡ get_or word i 0 = cc in
          other (byte_at bytes next byte more r ∙ ap Some same);
    }

-- fields
pub field_ahead : (n v end : ℕ) (a b : List ℕ) → n < 2 ^ 64 → v < 2 ^ 64 → (IsDigit end → ⊥) → decimal n ++ end ∷ a ≡ decimal v ++ end ∷ b → n ≡ v
field_ahead n v end a b p q past e =
    ⊎_elim (λ (h : AtEnd n (Some v) end a (end ∷ b)). let is = h.all in cc)
    (λ (h : GoesOn n (Some v) (end ∷ b)).
    let first : end ≡ h.digit = let r = h.next in cc in
    absurd (past (subst IsDigit (sym first) (digits n (decimal v) h.more h.digit (wide n p) h.spelled_is))))
    (ahead n (Some v) end a (end ∷ b) (wide n p) (λ w is. let same : v ≡ w = cc in subst (λ m. m < 10 ^ 64) same (wide v q)) past e)

-- what ends with the same byte is the same number, with the same rest
pub record FieldsAlike (n v : ℕ) (a b : List ℕ) : Type 0 where
  pub numbers : n ≡ v
  pub rests : a ≡ b

pub fields_alike : (n v end : ℕ) (a b : List ℕ) → n < 2 ^ 64 → v < 2 ^ 64 → (IsDigit end → ⊥) → decimal n ++ end ∷ a ≡ decimal v ++ end ∷ b → FieldsAlike n v a b
fields_alike n v end a b p q past e =
    let same : n ≡ v = field_ahead n v end a b p q past e in
    let tails : end ∷ a ≡ end ∷ b = append_cancel_left (decimal v) (end ∷ a) (end ∷ b) (ap (λ m. decimal m ++ end ∷ a) (sym same) ∙ e) in
    record { numbers = same; rests = (cc) }

pub field_apart : (numbers : Numbers) (end : ℕ) → (IsDigit end → ⊥) → AreApart (IsField numbers end)
field_apart numbers end past part other a b p q e =
    let joined : decimal p.number ++ end ∷ a ≡ decimal q.number ++ end ∷ b =
    sym (append_assoc (decimal p.number) (end ∷ []) a) ∙ ap (λ t. t ++ a) (sym p.text_is) ∙ e ∙ ap (λ t. t ++ b) q.text_is ∙ append_assoc (decimal q.number) (end ∷ []) b in
    let same : p.number ≡ q.number = field_ahead p.number q.number end a b p.is_in.fits q.is_in.fits past joined in
    p.text_is ∙ ap (λ n. decimal n ++ end ∷ []) same ∙ sym q.text_is

known : (o : Option ℕ) → IsSmallNumber o → (v : ℕ) → o ≡ Some v → v < 10 ^ 64
known None small v e = cc
known (Some w) small v e = let same : w ≡ v = cc in wide v (subst (λ m. m < 2 ^ 64) same small)

not_field : (o : Option ℕ) (n end : ℕ) → IsSmallNumber o → (IsDigit end → ⊥) → spelled o ≡ decimal n ++ end ∷ [] → ⊥
not_field None n end small past e = omega (arith, ap length e, length-append (decimal n) (end ∷ []))
not_field (Some v) n end small past e = past (digits v (decimal n) [] end (wide v small) e)

pub field_stops : (numbers : Numbers) (bytes : List ℕ) (at next end : ℕ) (o : Option ℕ) → (IsDigit end → ⊥) → AreDigits numbers bytes at o next →
    ((n : ℕ) → o ≡ Some n → NumberIsIn numbers n → slice_get bytes next ≡ Some end → ⊥) → StopsAt (IsField numbers end) bytes at next
field_stops numbers bytes at next end o past are refused =
    stops_at (IsField numbers end) (spelled o) bytes at next (field_apart numbers end past) are.stand
    record {
      begins = (are.begin.1 ++ end ∷ [], record { number = are.begin.0; is_in = are.begin.2; text_is = sym (append_assoc (spelled o) are.begin.1 (end ∷ [])) ∙ ap (λ t. t ++ end ∷ []) (sym are.begin.3) });
      not_yet = λ is. not_field o is.number end are.small past is.text_is;
      dead = λ byte more r b.
          let is = b.1 in
          let e : decimal is.number ++ end ∷ [] ≡ spelled o ++ (byte ∷ b.0) = sym is.text_is ∙ append_assoc (spelled o) (byte ∷ []) b.0 in
          ⊎_elim (λ (h : AtEnd is.number o end [] (byte ∷ b.0)).
          let same : byte ≡ end = let q = h.rest in cc in
          refused is.number h.all is.is_in (byte_at bytes next byte more r ∙ ap Some same))
          (λ (h : GoesOn is.number o (byte ∷ b.0)).
          let same : h.digit ≡ byte = let q = h.next in cc in
          are.longest byte more r (is.number, h.more, is.is_in, h.spelled_is ∙ ap (λ d. spelled o ++ d ∷ h.more) same ∙ sym (append_assoc (spelled o) (byte ∷ []) h.more)))
          (ahead is.number o end [] (byte ∷ b.0) (wide is.number is.is_in.fits) (known o are.small) past e);
    }
