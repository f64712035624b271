-- Clocks of processes.
use Rattle.std.proofs.Common.{arith, ◌≡◌, refl, ap, sym, ◌∙◌, ℕ, zero, suc, ◌<◌, ◌==◌, max, ◌||◌, Bool, true, false, List, [], ◌∷◌, ◌++◌, length, if◌then◌else◌, get_or, slice_set}
use Rattle.b67_race.specs.Entries.{entry_is_one_of}
use Rattle.b67_race.specs.Times.{time_of}
use Rattle.b67_race.specs.Timed.{time_in, joined_if}

-- one clock more, which tells nothing
pub time_push : (cs : List (List ℕ)) (p q : ℕ) → time_in (cs ++ [] ∷ []) p q ≡ time_in cs p q
time_push [] zero q = refl
time_push [] (suc k) q = refl
time_push (c ∷ cs) zero q = refl
time_push (c ∷ cs) (suc k) q = time_push cs k q

-- another clock in its place
pub time_set : (cs : List (List ℕ)) (n : ℕ) (c : List ℕ) → n < length cs → (p q : ℕ) → time_in (slice_set cs n c) p q ≡ (if n == p then time_of c q else time_in cs p q)
time_set [] n c l p q = absurd (omega (arith, l))
time_set (d ∷ cs) zero c l zero q = refl
time_set (d ∷ cs) zero c l (suc k) q =
    let e : (zero == suc k) ≡ false = grind arith in ap (λ (b : Bool). if b then time_of c q else time_in cs k q) (sym e)
time_set (d ∷ cs) (suc n) c l zero q =
    let e : (suc n == zero) ≡ false = grind arith in ap (λ (b : Bool). if b then time_of c q else time_of d q) (sym e)
time_set (d ∷ cs) (suc n) c l (suc k) q =
    let e : (n == k) ≡ (suc n == suc k) = grind arith in
    time_set cs n c (omega (arith, l)) k q ∙ ap (λ (b : Bool). if b then time_of c q else time_in cs k q) e

-- the clock in a place
time_here : (cs : List (List ℕ)) (n q : ℕ) (d : List ℕ) → n < length cs → time_in cs n q ≡ time_of (get_or cs n d) q
time_here [] n q d l = absurd (omega (arith, l))
time_here (c ∷ cs) zero q d l = refl
time_here (c ∷ cs) (suc n) q d l = time_here cs n q d (omega (arith, l))

-- a clock that is joined in its place
pub time_joined : (before cs : List (List ℕ)) (process : ℕ) (here clock own : List ℕ) → process < length cs → ((p q : ℕ) → time_in cs p q ≡ time_in before p q)
    → here ≡ get_or cs process here → ((q : ℕ) → time_of clock q ≡ max (time_of here q) (time_of own q)) → (p q : ℕ)
    → time_in (slice_set cs process clock) p q ≡ (if process == p then max (time_in before p q) (time_of own q) else time_in before p q)
time_joined before cs process here clock own l a g b p q = time_set cs process clock l p q ∙ by (process == p) refl
  where
    same : (process == p) ≡ true → process ≡ p
    same e = grind (arith, e)

    old : (process == p) ≡ true → time_of here q ≡ time_in before p q
    old e =
        ap (λ (c : List ℕ). time_of c q) g ∙ sym (time_here cs process q here l) ∙ ap (λ (r : ℕ). time_in cs r q) (same e) ∙ a p q

    by : (t : Bool) → (process == p) ≡ t → (if t then time_of clock q else time_in cs p q) ≡ (if t then max (time_in before p q) (time_of own q) else time_in before p q)
    by true e = b q ∙ ap (λ (n : ℕ). max n (time_of own q)) (old e)
    by false e = a p q

-- one process more that is released
pub one_of_more : (qs : List ℕ) (q p : ℕ) → entry_is_one_of (qs ++ q ∷ []) p ≡ (entry_is_one_of qs p || (q == p))
one_of_more [] q p = by (q == p)
  where
    by : (b : Bool) → (b || false) ≡ (false || b)
    by true = refl
    by false = refl
one_of_more (x ∷ qs) q p = ap (λ (b : Bool). (x == p) || b) (one_of_more qs q p) ∙ assoc (x == p) (entry_is_one_of qs p) (q == p)
  where
    assoc : (a b c : Bool) → (a || (b || c)) ≡ ((a || b) || c)
    assoc true b c = refl
    assoc false b c = refl

pub joined_again : (qs : List ℕ) (process p old own now next : ℕ) → now ≡ joined_if (entry_is_one_of qs p) old own
    → next ≡ (if process == p then max now own else now) → next ≡ joined_if (entry_is_one_of (qs ++ process ∷ []) p) old own
joined_again qs process p old own now next a b =
    b ∙ by (entry_is_one_of qs p) (process == p) a ∙ ap (λ (t : Bool). joined_if t old own) (sym (one_of_more qs process p))
  where
    by : (s t : Bool) → now ≡ joined_if s old own → (if t then max now own else now) ≡ joined_if (s || t) old own
    by true true e = omega (arith, e)
    by true false e = e
    by false true e = ap (λ (n : ℕ). max n own) e
    by false false e = e
