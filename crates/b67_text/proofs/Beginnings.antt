-- Which digits begin one of some numbers.
use Rattle.std.proofs.Common.{◌≡◌, ◌≢◌, ℕ, ◌+◌, ◌*◌, ◌^◌, ◌<◌, ◌≤◌, nat_lt, Option, None, Some, Bool, true, false, cond, ◌&&◌, List, [], ◌∷◌, ◌++◌, refl, sym, ap, subst, arith, ◌∙◌, inl, inr, ⊎_elim, append_assoc}
use Rattle.std.specs.Prelude.{◌⊎◌}
use Rattle.std.specs.Fmt.{decimal}
use Rattle.std.proofs.lemmas.Fmt.{decimal_digit}
use Rattle.std.proofs.lemmas.List.{append-nil}
use Rattle.std.proofs.lemmas.Bool.{cases_eq, cases_lt, ltb-true, ltb-false}
use Rattle.b67_text.specs.declared.number.Numbers.{Numbers}
use Rattle.b67_text.specs.Numerals.{IsDigit, NumberIsIn, IsSmallNumber, spelled, BeginsOne, HasLonger, CanBegin, lengthened}
use Rattle.b67_text.proofs.Decimals.{decimal_more, decimal_same, grown, digits}

pub wide : (n : ℕ) → n < 2 ^ 64 → n < 10 ^ 64
wide n p = omega arith

cases_option : (o : Option ℕ) (m : ℕ) → (o ≡ Some m) ⊎ (o ≢ Some m)
cases_option None m = inr (λ e. let h : None ≡ Some m = e in cc)
cases_option (Some k) m = ⊎_elim (λ (e : k ≡ m). inl (ap Some e)) (λ (e : k ≢ m). inr (λ h. e (let g : Some k ≡ Some m = h in cc))) (cases_eq k m)

-- what may go on, goes on
longer_begins : (numbers : Numbers) (v d : ℕ) → 1 ≤ v → d < 10 → NumberIsIn numbers (10 * v + d) → BeginsOne numbers (decimal v)
longer_begins numbers v d some small is = (10 * v + d, (48 + d) ∷ [], is, decimal_more v d some small (wide (10 * v + d) is.fits))

pub begins_by : (numbers : Numbers) (v : ℕ) → CanBegin numbers v → BeginsOne numbers (decimal v)
begins_by numbers v can =
    ⊎_elim (λ (is : NumberIsIn numbers v). (v, [], is, sym (append-nil (decimal v))))
    (λ (h : (1 ≤ v) × HasLonger numbers v).
    ⊎_elim (λ (is : NumberIsIn numbers (10 * v)). let same : 10 * v ≡ 10 * v + 0 = omega arith in longer_begins numbers v 0 h.0 (omega arith) (subst (NumberIsIn numbers) same is))
    (λ (is : NumberIsIn numbers (10 * v + 1)). longer_begins numbers v 1 h.0 (omega arith) is) h.1) can

-- where a longer one is one of these, one with a 0 or 1 after the digits is
longer_there : (numbers : Numbers) (v n : ℕ) → numbers.least ≤ 1 → 1 ≤ v → 10 * v ≤ n → NumberIsIn numbers n → HasLonger numbers v
longer_there numbers v n least some great is =
    ⊎_elim (λ (e : n ≡ 10 * v). inl (subst (NumberIsIn numbers) e is))
    (λ (other : n ≢ 10 * v).
    ⊎_elim (λ (taken : numbers.except ≡ Some (10 * v)).
    inr record {
      fits = omega (arith, is.fits);
      least = omega arith;
      most = omega (arith, is.most);
      other = λ h. let apart : 10 * v ≡ 10 * v + 1 = cc in omega arith;
    })
    (λ (free : numbers.except ≢ Some (10 * v)). inl record { fits = omega (arith, is.fits); least = omega arith; most = omega (arith, is.most); other = free }) (cases_option numbers.except (10 * v)))
    (cases_eq n (10 * v))

can_by : (numbers : Numbers) (v n : ℕ) (more : List ℕ) → numbers.least ≤ 1 → v < 2 ^ 64 → NumberIsIn numbers n → decimal n ≡ decimal v ++ more → CanBegin numbers v
can_by numbers v n [] least small is e = inl (subst (NumberIsIn numbers) (decimal_same n v (wide n is.fits) (wide v small) (e ∙ append-nil (decimal v))) is)
can_by numbers v n (d ∷ c) least small is e =
    let up : (1 ≤ v) × (10 * v ≤ n) = grown n n v (d ∷ c) (omega arith) (wide n is.fits) (wide v small) e (omega arith) in
    inr (up.0, longer_there numbers v n least up.0 up.1 is)

pub can_begin_by : (numbers : Numbers) (v : ℕ) → numbers.least ≤ 1 → v < 2 ^ 64 → BeginsOne numbers (decimal v) → CanBegin numbers v
can_begin_by numbers v least small h = can_by numbers v h.0 h.1 least small h.2 h.3

-- a byte after digits that begin one is a digit
pub next_digit : (numbers : Numbers) (front : List ℕ) (byte : ℕ) → BeginsOne numbers (front ++ byte ∷ []) → IsDigit byte
next_digit numbers front byte h = digits h.0 front h.1 byte (wide h.0 h.2.fits) (h.3 ∙ append_assoc front (byte ∷ []) h.1)

picked : (a b : Bool) (x y : ℕ) → cond (a && b) (Some x) None ≡ Some y → (a ≡ true) × (b ≡ true) × (x ≡ y)
picked true true x y e = (refl, refl, cc)
picked true false x y e = cc
picked false b x y e = cc

dropped : (a b : Bool) (x : ℕ) → cond (a && b) (Some x) None ≡ None → (a ≡ false) ⊎ (b ≡ false)
dropped true true x e = cc
dropped true false x e = inr refl
dropped false b x e = inl refl

-- what a number with one more digit is
pub record Lengthens (before : Option ℕ) (digit number : ℕ) : Type 0 where
  pub small : IsSmallNumber (Some number)
  pub spelled_is : decimal number ≡ spelled before ++ (48 + digit) ∷ []

pub lengthens : (before : Option ℕ) (digit number : ℕ) → digit < 10 → lengthened before digit ≡ Some number → Lengthens before digit number
lengthens None digit number small e =
    let is : digit ≡ number = cc in
    record { small = omega arith; spelled_is = ap decimal (sym is) ∙ decimal_digit digit small }
lengthens (Some front) digit number small e =
    let h = picked (nat_lt 0 front) (nat_lt (10 * front + digit) (2 ^ 64)) (10 * front + digit) number e in
    let some : 1 ≤ front = omega (arith, ltb-true 0 front h.0) in
    let fits : 10 * front + digit < 2 ^ 64 = ltb-true (10 * front + digit) (2 ^ 64) h.1 in
    record { small = omega (arith, h.2); spelled_is = ap decimal (sym h.2) ∙ decimal_more front digit some small (wide (10 * front + digit) fits) }

too_long : (n m : ℕ) (more : List ℕ) → n < 2 ^ 64 → 2 ^ 64 ≤ m → m < 10 ^ 64 → decimal n ≡ decimal m ++ more → ⊥
too_long n m [] p q r e = omega (arith, decimal_same n m (wide n p) r (e ∙ append-nil (decimal m)))
too_long n m (d ∷ c) p q r e = omega (arith, (grown n n m (d ∷ c) (omega arith) (wide n p) r e (omega arith)).1)

begins_with_zero : (n digit front : ℕ) (more : List ℕ) → n < 2 ^ 64 → front < 1 → decimal n ≡ (decimal front ++ (48 + digit) ∷ []) ++ more → ⊥
begins_with_zero n digit front more p is_zero e =
    let small : front < 10 ^ 64 = omega arith in
    omega (arith, (grown n n front ((48 + digit) ∷ more) (omega arith) (wide n p) small (e ∙ append_assoc (decimal front) ((48 + digit) ∷ []) more) (omega arith)).0)

pub not_lengthened : (numbers : Numbers) (before : Option ℕ) (digit : ℕ) → digit < 10 → IsSmallNumber before → lengthened before digit ≡ None → BeginsOne numbers (spelled before ++ (48 + digit) ∷ []) → ⊥
not_lengthened numbers None digit small known e h = cc
not_lengthened numbers (Some front) digit small known e h =
    ⊎_elim (λ (is_zero : front < 1). begins_with_zero h.0 digit front h.1 h.2.fits is_zero h.3)
    (λ (some : 1 ≤ front).
    ⊎_elim (λ (a : nat_lt 0 front ≡ false). omega (arith, ltb-false 0 front a))
    (λ (b : nat_lt (10 * front + digit) (2 ^ 64) ≡ false).
    let great : 2 ^ 64 ≤ 10 * front + digit = ltb-false (10 * front + digit) (2 ^ 64) b in
    let fits : 10 * front + digit < 10 ^ 64 = omega arith in
    too_long h.0 (10 * front + digit) h.1 h.2.fits great fits (h.3 ∙ ap (λ t. t ++ h.1) (sym (decimal_more front digit some small fits))))
    (dropped (nat_lt 0 front) (nat_lt (10 * front + digit) (2 ^ 64)) (10 * front + digit) e)) (cases_lt front 1)
