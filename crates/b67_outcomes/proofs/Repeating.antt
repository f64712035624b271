-- Entries of one process, one after another.
use Rattle.std.proofs.Common.{◌≡◌, refl, sym, ap, subst, ◌∙◌, ℕ, zero, suc, ◌+◌, ◌-◌, ◌<◌, ◌≤◌, true, List, ◌∷◌, ◌++◌, length, take, drop, get_or, arith}
use Rattle.std.specs.Prelude.{replicate}
use Rattle.std.specs.List.{All}
use Rattle.std.proofs.lemmas.List.{take-append-drop}
use Rattle.std.proofs.lemmas.List.Elements.{All-cons}
use Rattle.std.proofs.lemmas.Option.{slice_get-get_or}
use Rattle.b67_segment.specs.declared.code.Code.{Code}
use Rattle.b67_table.specs.Image.{Image}
use Rattle.b67_table.specs.Ending.{may_act}
use Rattle.b67_table.specs.Runs.{Runs, RunEntry, entry}
use Rattle.b67_list.proofs.Lists.{drop_next}
use Rattle.b67_outcomes.specs.Entering.{IsProcessNumber, HistoryLeads, HistoryLeadsTo, Repeats, none, again}
use Rattle.b67_outcomes.proofs.Determined.{entry_one, led_one}
use Rattle.b67_outcomes.proofs.Histories.{led_more, rest_leads}

module _ (code : Code) (p : ℕ) where
  -- they lead to one image only
  pub repeats_one : (k : ℕ) (a b c : Image) → Repeats code p k a b → Repeats code p k a c → b ≡ c
  repeats_one k a b c none none = refl
  repeats_one k a b c (again {k = j} {n = n} {b = x} r e) (again {n = m} {b = y} s f) =
      let same = repeats_one j a x y r s in
      entry_one code p x b c n m e (subst (λ (z : Image). RunEntry code p z m c) (sym same) f)

  -- before the first the process may act
  pub first_may : (k : ℕ) (a c : Image) → 1 ≤ k → Repeats code p k a c → may_act a p ≡ true
  first_may k a c some none = absurd (omega (arith, some))
  first_may k a c some (again {k = zero} none e) = e.may
  first_may k a c some (again {k = suc j} {b = b} r e) = first_may (suc j) a b (omega arith) r

  -- some and then others
  pub joined : (j k n : ℕ) (a b c : Image) → n ≡ j + k → Repeats code p j a b → Repeats code p k b c → Repeats code p n a c
  joined j k n a b c e r none = subst (λ (z : ℕ). Repeats code p z a b) (omega (arith, e)) r
  joined j k n a b c e r (again {k = l} {b = x} s f) =
      let next : suc (j + l) ≡ n = omega (arith, e) in
      subst (λ (z : ℕ). Repeats code p z a c) next (again (joined j l (j + l) a b x refl r s) f)

  -- the first of them, and those that are left
  pub record Divided (j k : ℕ) (a c : Image) : Type 0 where
    pub between : Image
    pub first : Repeats code p j a between
    pub rest : Repeats code p k between c

  divided : (j k n : ℕ) (a c : Image) → n ≡ j + k → Repeats code p n a c → Divided j k a c
  divided j zero n a c e r = record { between = c; first = subst (λ (z : ℕ). Repeats code p z a c) (omega (arith, e)) r; rest = none }
  divided j (suc k) n a c e none = absurd (omega (arith, e))
  divided j (suc k) n a c e (again {k = l} {b = x} r f) =
      let d = divided j k l a x (omega (arith, e)) r in
      record { between = d.between; first = d.first; rest = again d.rest f }

  pub left_over : (j n : ℕ) (a b c : Image) → j ≤ n → Repeats code p n a c → Repeats code p j a b → Repeats code p (n - j) b c
  left_over j n a b c within all done =
      let d = divided j (n - j) n a c (omega (arith, within)) all in
      subst (λ (z : Image). Repeats code p (n - j) z c) (repeats_one j a d.between b d.first done) d.rest

  -- ---- in a history

  pub led_repeats : (k : ℕ) (h : List ℕ) (a b : Image) → HistoryLeadsTo code h a → Repeats code p k a b → HistoryLeadsTo code (replicate k p ++ h) b
  led_repeats k h a b l none = l
  led_repeats k h a b l (again {k = j} {n = n} {b = x} r e) = led_more code (replicate j p ++ h) p x b n (led_repeats j h a x l r) e

  -- where a history that ends with them has a run, they are performed after the entries before
  pub has_repeats : (k : ℕ) (h : List ℕ) (a : Image) → HistoryLeads code (replicate k p ++ h) → HistoryLeadsTo code h a → (b : Image) × Repeats code p k a b
  has_repeats zero h a leads l = (a, none)
  has_repeats (suc k) h a leads l = by leads.1.0 leads.1.1 (λ x c r. has_repeats k h a (x, (c, r)) l)
    where
      by : (counts : List ℕ) → Runs code (p ∷ (replicate k p ++ h)) counts leads.0
          → ((x : Image) (c : List ℕ) → Runs code (replicate k p ++ h) c x → (b : Image) × Repeats code p k a b) → (b : Image) × Repeats code p (suc k) a b
      by counts (entry {counts = c} {a = x} {n = n} r e) earlier =
          let before = earlier x c r in
          let same = led_one code (replicate k p ++ h) x before.0 (c, r) (led_repeats k h a before.0 l before.1) in
          (leads.0, again before.1 (subst (λ (z : Image). RunEntry code p z n leads.0) same e))

-- a history that has a run has one from each place on
pub part_leads : (code : Code) (h : List ℕ) (i : ℕ) → HistoryLeads code h → HistoryLeads code (drop i h)
part_leads code h i leads =
    rest_leads code (take i h) (drop i h) leads.1.0 leads.0 (subst (λ (z : List ℕ). Runs code z leads.1.0 leads.0) (sym (take-append-drop i h)) leads.1.1)

pub numbers_repeat : (k p : ℕ) (h : List ℕ) → IsProcessNumber p → All IsProcessNumber h → All IsProcessNumber (replicate k p ++ h)
numbers_repeat zero p h number all = all
numbers_repeat (suc k) p h number all = All-cons IsProcessNumber p (replicate k p ++ h) number (numbers_repeat k p h number all)

-- ---- how many there are

-- the entry before a place
pub times_first : (h : List ℕ) (left : ℕ) → 1 ≤ left → left ≤ length h → drop (left - 1) h ≡ replicate 1 (get_or h (left - 1) 0) ++ drop left h
times_first h left some within =
    let next : suc (left - 1) ≡ left = omega (arith, some) in
    drop_next h (left - 1) (get_or h (left - 1) 0) (slice_get-get_or h (left - 1) 0 (omega (arith, some, within)))
    ∙ ap (λ (k : ℕ). get_or h (left - 1) 0 ∷ drop k h) next

-- one more before them
pub times_more : (h rest : List ℕ) (left count p : ℕ) → count < left → left ≤ length h → drop (left - count) h ≡ replicate count p ++ rest
    → get_or h (left - 1 - count) 0 ≡ p → drop (left - (count + 1)) h ≡ replicate (count + 1) p ++ rest
times_more h rest left count p less within before is =
    let next : suc (left - 1 - count) ≡ left - count = omega (arith, less) in
    let same : left - (count + 1) ≡ left - 1 - count = omega (arith, less) in
    let one : suc count ≡ count + 1 = omega arith in
    ap (λ (k : ℕ). drop k h) same
    ∙ drop_next h (left - 1 - count) (get_or h (left - 1 - count) 0) (slice_get-get_or h (left - 1 - count) 0 (omega (arith, less, within)))
    ∙ ap (λ (k : ℕ). get_or h (left - 1 - count) 0 ∷ drop k h) next ∙ ap (λ (z : List ℕ). get_or h (left - 1 - count) 0 ∷ z) before
    ∙ ap (λ (q : ℕ). q ∷ (replicate count p ++ rest)) is ∙ ap (λ (k : ℕ). replicate k p ++ rest) one
