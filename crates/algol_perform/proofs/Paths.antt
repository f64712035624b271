-- Laws of the path of a process.
use Rattle.std.proofs.Common.{arith, ◌≡◌, ◌⊎◌, inl, inr, refl, ℕ, zero, suc, ◌+◌, ◌-◌, ◌<◌, ◌≤◌, ◌&&◌, ◌||◌, ◌==◌, not, if◌then◌else◌, Bool, true, false, List, [], ◌∷◌, ◌++◌, length, map, take, ap, sym, ◌∙◌, append_assoc, Option, Some, None, slice_get}
use Rattle.std.specs.Prelude.{nat_lt}
use Rattle.std.proofs.lemmas.Bool.Decides.{nat_tests}
use Rattle.algol_meaning.specs.World.{Instance, or_no_instance, World, instance_at, process_at}
use Rattle.algol_meaning.specs.Critical.{NumberedInstance, newest_first, first_on_path, process_is_one_of, is_this}
use Rattle.b67_list.proofs.Numbers.{ltb_false, ltb_true, number_itself, number_less, same_number}
use Rattle.b67_list.proofs.Truths.{and_false, or_right}
use Rattle.algol_perform.specs.Path.{critical_below, is_own, newer_own, newest_own}

pub ruleset referring = append_assoc

-- ---- the newest first

newest_more :
    (n m : ℕ) (xs : List Instance) (x : Instance) (older : List NumberedInstance) → m ≡ n + length xs
    → newest_first n (xs ++ x ∷ []) older ≡ record { number = m; of = x } ∷ newest_first n xs older
newest_more n m [] x older e = let f : n ≡ m = omega arith in ap (λ (k : ℕ). record { number = k; of = x } ∷ older) f
newest_more n m (y ∷ xs) x older e = newest_more (n + 1) m xs x (record { number = n; of = y } ∷ older) (omega arith)

take_more : (xs : List Instance) (k : ℕ) → k < length xs → take (suc k) xs ≡ take k xs ++ or_no_instance (slice_get xs k) ∷ []
take_more [] k l = absurd (omega arith)
take_more (y ∷ xs) zero l = refl
take_more (y ∷ xs) (suc k) l = ap (λ (zs : List Instance). y ∷ zs) (take_more xs k (omega arith))

take_length : (xs : List Instance) (k : ℕ) → k < length xs → length (take k xs) ≡ k
take_length [] k l = absurd (omega arith)
take_length (y ∷ xs) zero l = refl
take_length (y ∷ xs) (suc k) l = ap suc (take_length xs k (omega arith))

newest_step :
    (xs : List Instance) (k : ℕ) → k < length xs
    → newest_first 1 (take (suc k) xs) [] ≡ record { number = suc k; of = or_no_instance (slice_get xs k) } ∷ newest_first 1 (take k xs) []
newest_step xs k l =
    ap (λ (ys : List Instance). newest_first 1 ys []) (take_more xs k l)
    ∙ newest_more 1 (suc k) (take k xs) (or_no_instance (slice_get xs k)) [] (let f : length (take k xs) ≡ k = take_length xs k l in omega arith)

-- ---- tests

more_number : (a b : ℕ) → b < a → (a == b) ≡ false
more_number a b l = grind (arith, nat_tests, l)

own_process : (a b : ℕ) (left : Bool) → ((a == b) && not left) ≡ true → a ≡ b
own_process a b left e = by (a == b) refl e
  where
    by : (t : Bool) → (a == b) ≡ t → (t && not left) ≡ true → a ≡ b
    by true f g = same_number a b f
    by false f g = cc

-- ---- the newest of one's own

module _ (w : World) (p : ℕ) (below : ℕ) where
  newer_so :
      (newest n : ℕ)
      → ((newest < n) × (n < below) × (is_own w p n ≡ true) × (newer_own w p below newest n ≡ n))
      ⊎ ((newer_own w p below newest n ≡ newest) × (newest < n → n < below → is_own w p n ≡ false))
  newer_so newest n = by (nat_lt newest n) (nat_lt n below) (is_own w p n) refl refl refl
    where
      by :
          (a b c : Bool) → nat_lt newest n ≡ a → nat_lt n below ≡ b → is_own w p n ≡ c
          → ((newest < n) × (n < below) × (is_own w p n ≡ true) × ((if (a && b) && c then n else newest) ≡ n))
          ⊎ (((if (a && b) && c then n else newest) ≡ newest) × (newest < n → n < below → is_own w p n ≡ false))
      by true true true d e f = inl (ltb_true newest n d, ltb_true n below e, f, refl)
      by true true false d e f = inr (refl, λ _ _. f)
      by true false c d e f = inr (refl, λ _ l. let m : below ≤ n = ltb_false n below e in absurd (omega arith))
      by false b c d e f = inr (refl, λ l _. let m : n ≤ newest = ltb_false newest n d in absurd (omega arith))

  least_step :
      (newest n m r : ℕ)
      → ((newest < n) × (n < below) × (is_own w p n ≡ true) × (m ≡ n)) ⊎ ((m ≡ newest) × (newest < n → n < below → is_own w p n ≡ false))
      → m ≤ r → newest ≤ r
  least_step newest n m r (inl (l, k, own, e)) h = omega arith
  least_step newest n m r (inr (e, f)) h = omega arith

  least : (newest : ℕ) (ns : List ℕ) → newest ≤ newest_own w p below newest ns
  least newest [] = omega arith
  least newest (n ∷ ns) =
      least_step newest n (newer_own w p below newest n) (newest_own w p below (newer_own w p below newest n) ns) (newer_so newest n)
      (least (newer_own w p below newest n) ns)

  found_step :
      (newest n m r : ℕ) (ns : List ℕ)
      → ((newest < n) × (n < below) × (is_own w p n ≡ true) × (m ≡ n)) ⊎ ((m ≡ newest) × (newest < n → n < below → is_own w p n ≡ false))
      → newest < r → m ≤ r → (m < r → (r < below) × (is_own w p r ≡ true) × (process_is_one_of ns r ≡ true))
      → (r < below) × (is_own w p r ≡ true) × (((n == r) || process_is_one_of ns r) ≡ true)
  found_step newest n m r ns s l t h = by (nat_lt m r) refl s
    where
      by :
          (b : Bool) → nat_lt m r ≡ b
          → ((newest < n) × (n < below) × (is_own w p n ≡ true) × (m ≡ n)) ⊎ ((m ≡ newest) × (newest < n → n < below → is_own w p n ≡ false))
          → (r < below) × (is_own w p r ≡ true) × (((n == r) || process_is_one_of ns r) ≡ true)
      by true e s = let g = h (ltb_true m r e) in (g.0, g.1, or_right (n == r) (process_is_one_of ns r) g.2)
      by false e (inl (a, b, own, q)) =
          let u : r ≤ m = ltb_false m r e in
          let v : r ≡ n = omega arith in (
            omega arith,
            ap (is_own w p) v ∙ own,
            ap (λ (k : ℕ). (n == k) || process_is_one_of ns k) v ∙ ap (λ (t : Bool). t || process_is_one_of ns n) (number_itself n),
          )
      by false e (inr (q, f)) = let u : r ≤ m = ltb_false m r e in absurd (omega arith)

  -- what is newer than the first is one of these, and its own
  found :
      (newest : ℕ) (ns : List ℕ) → newest < newest_own w p below newest ns
      → (newest_own w p below newest ns < below) × (is_own w p (newest_own w p below newest ns) ≡ true)
      × (process_is_one_of ns (newest_own w p below newest ns) ≡ true)
  found newest [] l = absurd (omega arith)
  found newest (n ∷ ns) l =
      found_step newest n (newer_own w p below newest n) (newest_own w p below (newer_own w p below newest n) ns) ns (newer_so newest n) l
      (least (newer_own w p below newest n) ns) (found (newer_own w p below newest n) ns)

  others_step :
      (newest n m r j : ℕ) (ns : List ℕ)
      → ((newest < n) × (n < below) × (is_own w p n ≡ true) × (m ≡ n)) ⊎ ((m ≡ newest) × (newest < n → n < below → is_own w p n ≡ false))
      → m ≤ r → r < j → j < below → (is_own w p j && process_is_one_of ns j) ≡ false → (is_own w p j && ((n == j) || process_is_one_of ns j)) ≡ false
  others_step newest n m r j ns s t l k h = by (n == j) refl s
    where
      by :
          (b : Bool) → (n == j) ≡ b
          → ((newest < n) × (n < below) × (is_own w p n ≡ true) × (m ≡ n)) ⊎ ((m ≡ newest) × (newest < n → n < below → is_own w p n ≡ false))
          → (is_own w p j && (b || process_is_one_of ns j)) ≡ false
      by true e (inl (a, b, own, q)) = let v : n ≡ j = same_number n j e in absurd (omega arith)
      by true e (inr (q, f)) =
          let v : n ≡ j = same_number n j e in
          ap (λ (b : Bool). b && true) (ap (is_own w p) (sym v) ∙ f (omega arith) (omega arith))
      by false e s = h

  -- none of these that is its own is newer
  others :
      (newest : ℕ) (ns : List ℕ) (j : ℕ) → newest_own w p below newest ns < j → j < below → (is_own w p j && process_is_one_of ns j) ≡ false
  others newest [] j l k = and_false (is_own w p j)
  others newest (n ∷ ns) j l k =
      others_step newest n (newer_own w p below newest n) (newest_own w p below (newer_own w p below newest n) ns) j ns (newer_so newest n)
      (least (newer_own w p below newest n) ns) l k (others (newer_own w p below newest n) ns j l k)

-- ---- the critical instance

pub critical_less : (o : Option ℕ) (below c : ℕ) → c ≡ critical_below o below → 0 < below → c < below
critical_less None below c e l = let f : c ≡ 0 = e in omega arith
critical_less (Some d) below c e l = by (nat_lt d below) refl e
  where
    by : (t : Bool) → nat_lt d below ≡ t → c ≡ (if t then d else 0) → c < below
    by true f g = let h : d < below = ltb_true d below f in let q : c ≡ d = g in omega arith
    by false f g = let q : c ≡ 0 = g in omega arith

critical_not : (o : Option ℕ) (below c j : ℕ) → c ≡ critical_below o below → c < j → j < below → is_this o j ≡ false
critical_not None below c j e l m = refl
critical_not (Some d) below c j e l m = by (nat_lt d below) refl e
  where
    by : (t : Bool) → nat_lt d below ≡ t → c ≡ (if t then d else 0) → (d == j) ≡ false
    by true f g = let q : c ≡ d = g in number_less d j (omega arith)
    by false f g = let h : below ≤ d = ltb_false d below f in more_number d j (omega arith)

critical_is : (o : Option ℕ) (below c : ℕ) → c ≡ critical_below o below → 0 < c → is_this o c ≡ true
critical_is None below c e l = let q : c ≡ 0 = e in absurd (omega arith)
critical_is (Some d) below c e l = by (nat_lt d below) refl e
  where
    by : (t : Bool) → nat_lt d below ≡ t → c ≡ (if t then d else 0) → (d == c) ≡ true
    by true f g = let q : c ≡ d = g in ap (λ (k : ℕ). d == k) q ∙ number_itself d
    by false f g = let q : c ≡ 0 = g in absurd (omega arith)

-- ---- the walk

module _ (w : World) (wanted : List ℕ) where
  -- the walk down from that instance
  abbrev pub walk : ℕ → ℕ → ℕ
  walk n from = first_on_path w (newest_first 1 (take n w.instances) []) from wanted

  step :
      (k from : ℕ) → k < length w.instances
      → walk (suc k) from
      ≡ (if is_own w from (suc k) || is_this ((process_at w from).critical) (suc k)
      then (if process_is_one_of wanted (suc k) then suc k else walk k ((instance_at w (suc k)).process)) else walk k from)
  step k from l = ap (λ (ns : List NumberedInstance). first_on_path w ns from wanted) (newest_step w.instances k l)

  passed :
      (own critical one : Bool) (n u v : ℕ) → critical ≡ false → (own && one) ≡ false → (own ≡ true → u ≡ v)
      → (if own || critical then (if one then n else u) else v) ≡ v
  passed true critical true n u v e f g = cc
  passed true critical false n u v e f g = g refl
  passed false true one n u v e f g = cc
  passed false false one n u v e f g = refl

  stops : (on one : Bool) (n u v : ℕ) → on ≡ true → one ≡ true → (if on then (if one then n else u) else v) ≡ n
  stops true true n u v e f = refl
  stops true false n u v e f = cc
  stops false one n u v e f = cc

  turns : (on one : Bool) (n u v : ℕ) → on ≡ true → one ≡ false → (if on then (if one then n else u) else v) ≡ u
  turns true true n u v e f = cc
  turns true false n u v e f = refl
  turns false one n u v e f = cc

  module _ (from : ℕ) where
    pass :
        (k : ℕ) → k < length w.instances → is_this ((process_at w from).critical) (suc k) ≡ false
        → (is_own w from (suc k) && process_is_one_of wanted (suc k)) ≡ false → walk (suc k) from ≡ walk k from
    pass k l e f =
        step k from l
        ∙ passed (is_own w from (suc k)) (is_this ((process_at w from).critical) (suc k)) (process_is_one_of wanted (suc k)) (suc k)
        (walk k ((instance_at w (suc k)).process)) (walk k from) e f
        (λ own. ap (walk k) (own_process ((instance_at w (suc k)).process) from ((instance_at w (suc k)).left) own))

    -- the walk down over instances that neither it stops at nor leaves the stack by
    pass_all :
        (m k n : ℕ) → n ≡ k + m → n ≤ length w.instances
        → ((j : ℕ) → m < j → j ≤ n → (is_this ((process_at w from).critical) j ≡ false) × ((is_own w from j && process_is_one_of wanted j) ≡ false))
        → walk n from ≡ walk m from
    pass_all m zero n e l q = let f : n ≡ m = omega arith in ap (λ (j : ℕ). walk j from) f
    pass_all m (suc k) zero e l q = absurd (omega arith)
    pass_all m (suc k) (suc j) e l q =
        let h = q (suc j) (omega arith) (omega arith) in
        pass j (omega arith) h.0 h.1 ∙ pass_all m k j (omega arith) (omega arith) (λ i a b. q i a (omega arith))

    stop_at :
        (n : ℕ) → 0 < n → n ≤ length w.instances → (is_own w from n || is_this ((process_at w from).critical) n) ≡ true
        → process_is_one_of wanted n ≡ true → walk n from ≡ n
    stop_at zero z l e f = absurd (omega arith)
    stop_at (suc k) z l e f =
        step k from (omega arith)
        ∙ stops (is_own w from (suc k) || is_this ((process_at w from).critical) (suc k)) (process_is_one_of wanted (suc k)) (suc k)
        (walk k ((instance_at w (suc k)).process)) (walk k from) e f

    turn_at :
        (n : ℕ) → 0 < n → n ≤ length w.instances → (is_own w from n || is_this ((process_at w from).critical) n) ≡ true
        → process_is_one_of wanted n ≡ false → walk n from ≡ walk (n - 1) ((instance_at w n).process)
    turn_at zero z l e f = absurd (omega arith)
    turn_at (suc k) z l e f =
        let same : k ≡ suc k - 1 = omega arith in
        step k from (omega arith)
        ∙ turns (is_own w from (suc k) || is_this ((process_at w from).critical) (suc k)) (process_is_one_of wanted (suc k)) (suc k)
        (walk k ((instance_at w (suc k)).process)) (walk k from) e f
        ∙ ap (λ (j : ℕ). walk j ((instance_at w (suc k)).process)) same

    -- a stack, down to the critical instance of its process
    module _ (below c : ℕ) (some : 0 < below) (within : below ≤ length w.instances + 1) (is : c ≡ critical_below ((process_at w from).critical) below) where
      pub path_found :
          c < newest_own w from below c wanted → walk (below - 1) from ≡ newest_own w from below c wanted
      path_found l =
          let n = newest_own w from below c wanted in
          let f = found w from below c wanted l in
          let less : n < below = f.0 in
          pass_all n ((below - 1) - n) (below - 1) (omega arith) (omega arith)
          (λ j a b. (critical_not ((process_at w from).critical) below c j is (omega arith) (omega arith), others w from below c wanted j a (omega arith)))
          ∙ stop_at n (omega arith) (omega arith)
          (ap (λ (own : Bool). own || is_this ((process_at w from).critical) n) f.1) f.2

      down : newest_own w from below c wanted ≤ c → walk (below - 1) from ≡ walk c from
      down l =
          let less : c < below = critical_less ((process_at w from).critical) below c is some in
          pass_all c ((below - 1) - c) (below - 1) (omega arith) (omega arith)
          (λ j a b. (critical_not ((process_at w from).critical) below c j is a (omega arith), others w from below c wanted j (omega arith) (omega arith)))

      critical_on : 0 < c → (is_own w from c || is_this ((process_at w from).critical) c) ≡ true
      critical_on z = or_right (is_own w from c) (is_this ((process_at w from).critical) c) (critical_is ((process_at w from).critical) below c is z)

      pub path_ends : newest_own w from below c wanted ≤ c → process_is_one_of wanted c ≡ true → walk (below - 1) from ≡ c
      path_ends l e = down l ∙ by (nat_lt 0 c) refl
        where
          by : (t : Bool) → nat_lt 0 c ≡ t → walk c from ≡ c
          by true f =
              let z : 0 < c = ltb_true 0 c f in
              let less : c < below = critical_less ((process_at w from).critical) below c is some in stop_at c z (omega arith) (critical_on z) e
          by false f = let u : c ≤ 0 = ltb_false 0 c f in let z : c ≡ 0 = omega arith in ap (λ (j : ℕ). walk j from) z ∙ sym z

      pub path_goes_on :
          newest_own w from below c wanted ≤ c → process_is_one_of wanted c ≡ false
          → walk (below - 1) from ≡ walk (c - 1) ((instance_at w c).process)
      path_goes_on l e = down l ∙ by (nat_lt 0 c) refl
        where
          by : (t : Bool) → nat_lt 0 c ≡ t → walk c from ≡ walk (c - 1) ((instance_at w c).process)
          by true f =
              let z : 0 < c = ltb_true 0 c f in
              let less : c < below = critical_less ((process_at w from).critical) below c is some in turn_at c z (omega arith) (critical_on z) e
          by false f =
              let u : c ≤ 0 = ltb_false 0 c f in
              let z : c ≡ 0 = omega arith in
              let y : 0 ≡ c - 1 = omega arith in
              ap (λ (j : ℕ). walk j from) z ∙ ap (λ (j : ℕ). walk j ((instance_at w c).process)) y
