-- The digits of numbers, and how one begins another. A number has at most 64 digits here.
use Rattle.std.proofs.Common.{◌≡◌, ℕ, ◌+◌, ◌-◌, ◌*◌, ◌/◌, ◌%◌, ◌^◌, ◌<◌, ◌≤◌, zero, suc, Option, None, Some, List, [], ◌∷◌, ◌++◌, length, get_or, take, refl, sym, ap, subst, arith, ◌∙◌, inl, inr, ⊎_elim, append_assoc}
use Rattle.std.specs.Prelude.{◌⊎◌}
use Rattle.std.specs.Fmt.{decimal}
use Rattle.std.specs.Str.Parse.{digits_value}
use Rattle.std.proofs.lemmas.Fmt.{decimal_digit, decimal_step_wide, decimal_is_IsNumeral_wide}
use Rattle.std.proofs.lemmas.Str.Parse.{digit_at}
use Rattle.std.proofs.lemmas.List.{append-nil, length-append, get_or_at, nil_from_length, take_at, take_all, take_more}
use Rattle.std.proofs.lemmas.Bool.{cases_lt}
use Rattle.b67_text.specs.Numerals.{IsDigit, spelled}

pub decimal_some : (n : ℕ) → n < 10 ^ 64 → 0 < length (decimal n)
decimal_some n p = (decimal_is_IsNumeral_wide n p).0.0

pub decimal_same : (m n : ℕ) → m < 10 ^ 64 → n < 10 ^ 64 → decimal m ≡ decimal n → m ≡ n
decimal_same m n p q e = sym (decimal_is_IsNumeral_wide m p).1 ∙ ap (digits_value 10) e ∙ (decimal_is_IsNumeral_wide n q).1

-- the digits of a number that has one more
pub decimal_more : (v d : ℕ) → 1 ≤ v → d < 10 → 10 * v + d < 10 ^ 64 → decimal (10 * v + d) ≡ decimal v ++ (48 + d) ∷ []
decimal_more v d some small fits =
    let front : (10 * v + d) / 10 ≡ v = omega arith in
    let last : (10 * v + d) % 10 ≡ d = omega arith in
    decimal_step_wide (10 * v + d) (omega arith) fits ∙ ap (λ n. decimal n ++ (48 + (10 * v + d) % 10) ∷ []) front ∙ ap (λ n. decimal v ++ (48 + n) ∷ []) last

-- a list with an element is what is before its last one, and that
split_end : (xs : List ℕ) → 0 < length xs → xs ≡ take (length xs - 1) xs ++ get_or xs (length xs - 1) 0 ∷ []
split_end xs some =
    let all : xs ≡ take (length xs - 1 + 1) xs = sym (take_all (length xs - 1 + 1) xs (omega arith)) in
    all ∙ take_more xs (length xs - 1) 0 (omega arith)

fronts_alike : (xs ys : List ℕ) (x y : ℕ) → xs ++ x ∷ [] ≡ ys ++ y ∷ [] → xs ≡ ys
fronts_alike xs ys x y e =
    let long : length ys ≡ length xs = omega (arith, ap length e, length-append xs (x ∷ []), length-append ys (y ∷ [])) in
    sym (take_at xs (x ∷ []) (length xs) refl) ∙ ap (take (length xs)) e ∙ take_at ys (y ∷ []) (length xs) long

-- one digit begins with no number that is shorter
one_digit : (n v : ℕ) (more : List ℕ) → n < 10 → v < 10 ^ 64 → decimal n ≡ decimal v ++ more → 0 < length more → ⊥
one_digit n v more one q e some =
    let long : length (decimal n) ≡ 1 = ap length (decimal_digit n one) in
    omega (arith, ap length e, length-append (decimal v) more, decimal_some v q)

-- a number that begins with the digits of another and has more of them is at least ten times that one
grown_on : (k n v : ℕ) (more : List ℕ) → 10 ≤ n → n ≤ suc k → n < 10 ^ 64 → v < 10 ^ 64 → decimal n ≡ decimal v ++ more → 0 < length more →
    ((m w : ℕ) (rest : List ℕ) → m ≤ k → m < 10 ^ 64 → w < 10 ^ 64 → decimal m ≡ decimal w ++ rest → 0 < length rest → (1 ≤ w) × (10 * w ≤ m)) → (1 ≤ v) × (10 * v ≤ n)
grown_on k n v more ten fuel p q e some again =
    let front : List ℕ = take (length more - 1) more in
    let last : ℕ = get_or more (length more - 1) 0 in
    let split : more ≡ front ++ last ∷ [] = split_end more some in
    let same : decimal (n / 10) ≡ decimal v ++ front =
    fronts_alike (decimal (n / 10)) (decimal v ++ front) (48 + n % 10) last
    (sym (decimal_step_wide n ten p) ∙ e ∙ ap (λ m. decimal v ++ m) split ∙ sym (append_assoc (decimal v) front (last ∷ []))) in
    let small : n / 10 < 10 ^ 64 = omega arith in
    let less : n / 10 ≤ k = omega arith in
    ⊎_elim (λ (here : length front < 1).
    let none : front ≡ [] = nil_from_length front (omega arith) in
    let is : n / 10 ≡ v = decimal_same (n / 10) v small q (same ∙ ap (λ f. decimal v ++ f) none ∙ append-nil (decimal v)) in
    (omega arith, omega arith))
    (λ (there : 1 ≤ length front).
    let below : (1 ≤ v) × (10 * v ≤ n / 10) = again (n / 10) v front less small q same there in
    (below.0, omega (arith, below.1))) (cases_lt (length front) 1)

pub grown : (k n v : ℕ) (more : List ℕ) → n ≤ k → n < 10 ^ 64 → v < 10 ^ 64 → decimal n ≡ decimal v ++ more → 0 < length more → (1 ≤ v) × (10 * v ≤ n)
grown zero n v more fuel p q e some = absurd (one_digit n v more (omega arith) q e some)
grown (suc k) n v more fuel p q e some =
    ⊎_elim (λ (one : n < 10). absurd (one_digit n v more one q e some))
    (λ (ten : 10 ≤ n). grown_on k n v more ten fuel p q e some (grown k)) (cases_lt n 10)

-- of two lists that begin one, one begins the other
pub record Longer (xs ys a b : List ℕ) : Type 0 where
  pub more : List ℕ
  pub longer : xs ≡ ys ++ more
  pub rest : b ≡ more ++ a

pub record Shorter (xs ys a b : List ℕ) : Type 0 where
  pub head : ℕ
  pub more : List ℕ
  pub shorter : ys ≡ xs ++ head ∷ more
  pub rest : a ≡ head ∷ (more ++ b)

pub compare_fronts : (xs ys a b : List ℕ) → xs ++ a ≡ ys ++ b → Longer xs ys a b ⊎ Shorter xs ys a b
compare_fronts xs [] a b e = inl record { more = xs; longer = refl; rest = sym e }
compare_fronts [] (y ∷ ys) a b e = inr record { head = y; more = ys; shorter = refl; rest = e }
compare_fronts (x ∷ xs) (y ∷ ys) a b e =
    let same : x ≡ y = cc in
    let tail : xs ++ a ≡ ys ++ b = cc in
    ⊎_elim (λ (h : Longer xs ys a b). inl record { more = h.more; longer = (let l = h.longer in cc); rest = h.rest })
    (λ (h : Shorter xs ys a b). inr record { head = h.head; more = h.more; shorter = (let l = h.shorter in cc); rest = h.rest }) (compare_fronts xs ys a b tail)

-- the bytes of a number are digits
pub digits : (n : ℕ) (a b : List ℕ) (d : ℕ) → n < 10 ^ 64 → decimal n ≡ a ++ d ∷ b → IsDigit d
digits n a b d small e =
    let shape = (decimal_is_IsNumeral_wide n small).0.1 in
    let inside : length a < length (decimal n) = omega (arith, ap length e, length-append a (d ∷ b)) in
    let is = digit_at (decimal n) (length a) shape inside in
    let here : get_or (decimal n) (length a) 0 ≡ d = ap (λ xs. get_or xs (length a) 0) e ∙ get_or_at a d b 0 (length a) refl in
    (omega (arith, is.0), omega (arith, is.1))

-- after the digits so far stands what ends the number
pub record AtEnd (n : ℕ) (o : Option ℕ) (end : ℕ) (z ys : List ℕ) : Type 0 where
  pub all : o ≡ Some n
  pub rest : ys ≡ end ∷ z

-- or one more of its digits
pub record GoesOn (n : ℕ) (o : Option ℕ) (ys : List ℕ) : Type 0 where
  pub digit : ℕ
  pub more : List ℕ
  pub rest : List ℕ
  pub next : ys ≡ digit ∷ rest
  pub spelled_is : decimal n ≡ spelled o ++ digit ∷ more

ahead_longer : (n v end : ℕ) (z ys : List ℕ) → n < 10 ^ 64 → v < 10 ^ 64 → (more : List ℕ) → decimal n ≡ decimal v ++ more → ys ≡ more ++ end ∷ z → AtEnd n (Some v) end z ys ⊎ GoesOn n (Some v) ys
ahead_longer n v end z ys p q [] e r = inl record { all = ap Some (sym (decimal_same n v p q (e ∙ append-nil (decimal v)))); rest = r }
ahead_longer n v end z ys p q (d ∷ c) e r = inr record { digit = d; more = c; rest = c ++ end ∷ z; next = r; spelled_is = e }

pub ahead : (n : ℕ) (o : Option ℕ) (end : ℕ) (z ys : List ℕ) → n < 10 ^ 64 → ((v : ℕ) → o ≡ Some v → v < 10 ^ 64) → (IsDigit end → ⊥) →
    decimal n ++ end ∷ z ≡ spelled o ++ ys → AtEnd n o end z ys ⊎ GoesOn n o ys
ahead n None end z [] p q past e = absurd (omega (arith, ap length e, length-append (decimal n) (end ∷ z)))
ahead n None end z (y ∷ ys) p q past e =
    ⊎_elim (λ (h : Longer (decimal n) (y ∷ []) (end ∷ z) ys). inr record { digit = y; more = h.more; rest = ys; next = refl; spelled_is = h.longer })
    (λ (h : Shorter (decimal n) (y ∷ []) (end ∷ z) ys).
    absurd (omega (arith, ap length h.shorter, length-append (decimal n) (h.head ∷ h.more), decimal_some n p))) (compare_fronts (decimal n) (y ∷ []) (end ∷ z) ys e)
ahead n (Some v) end z ys p q past e =
    ⊎_elim (λ (h : Longer (decimal n) (decimal v) (end ∷ z) ys). ahead_longer n v end z ys p (q v refl) h.more h.longer h.rest)
    (λ (h : Shorter (decimal n) (decimal v) (end ∷ z) ys).
    let first : end ≡ h.head = let r = h.rest in cc in
    absurd (past (subst IsDigit (sym first) (digits v (decimal n) h.more h.head (q v refl) h.shorter)))) (compare_fronts (decimal n) (decimal v) (end ∷ z) ys e)
