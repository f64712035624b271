-- No step is kept twice, so the histories of different numbers differ.
use Rattle.std.proofs.Common.{◌≡◌, refl, sym, ap, ap₂, subst, ◌∙◌, ℕ, zero, suc, ◌+◌, ◌-◌, ◌<◌, ◌≤◌, List, [], ◌∷◌, ◌++◌, length, Some, arith, inl, inr}
use Rattle.std.specs.Prelude.{◌⊎◌, slice_get}
use Rattle.std.proofs.lemmas.Bool.{cases_lt}
use Rattle.std.proofs.lemmas.Option.{slice_get_within}
use Rattle.b67_segment.specs.declared.code.Code.{Code}
use Rattle.b67_list.proofs.Lists.{same_head, slice_either}
use Rattle.b67_outcomes.specs.declared.found.Step.{Step}
use Rattle.b67_outcomes.specs.declared.found.State.{State}
use Rattle.b67_outcomes.specs.Finding.{History, first, later, AreLed, AreOnce, AreGrowing, AreBelow, before_of, AreChained}
use Rattle.b67_outcomes.proofs.Histories.{step_less}

-- ---- lists

pub same_tail : (p q : ℕ) (g h : List ℕ) → p ∷ g ≡ q ∷ h → g ≡ h
same_tail p q g h e = ap (λ (z : List ℕ). tail_of z) e
  where
    tail_of : List ℕ → List ℕ
    tail_of [] = []
    tail_of (x ∷ xs) = xs

-- ---- steps and the histories before them

-- each step goes on from a history of a lesser number than its own
abbrev pub AreEarlier : List Step → Type 0
AreEarlier steps = (k : ℕ) (s : Step) → slice_get steps k ≡ Some s → s.before ≤ k

pub led_earlier : (code : Code) (steps : List Step) → AreLed code steps → AreEarlier steps
led_earlier code steps led k s there =
    let within = slice_get_within steps k s there in
    let x = led (suc k) (omega (arith, within)) in
    let place : k ≡ suc k - 1 = omega arith in
    let less = step_less steps (suc k) x.history s (omega arith) x.is (ap (λ (i : ℕ). slice_get steps i) (sym place) ∙ there) in
    omega (arith, less)

-- no step is after the last history
pub none_after : (steps : List Step) (number p : ℕ) → AreEarlier steps → length steps ≤ number → AreBelow steps number p
none_after steps number p earlier past k s there e =
    let within = slice_get_within steps k s there in let less = earlier k s there in absurd (omega (arith, within, less, past, e))

pub below_more : (steps : List Step) (number p q : ℕ) → p ≤ q → AreBelow steps number p → AreBelow steps number q
below_more steps number p q order below k s there e = let less = below k s there e in omega (arith, less, order)

-- where no step is kept twice, a history has one number
pub number_one : (steps : List Step) → AreOnce steps → (n m : ℕ) (g h : List ℕ) → History steps n g → History steps m h → g ≡ h → n ≡ m
number_one steps once n m g h first first e = refl
number_one steps once n m g h first (later {h = q} there before rest) e = absurd (omega (arith, ap (λ (z : List ℕ). length z) e))
number_one steps once n m g h (later {h = r} there before rest) first e = absurd (omega (arith, ap (λ (z : List ℕ). length z) e))
number_one steps once n m g h (later {n = j} {step = s} {h = r} there before rest) (later {n = k} {step = t} {h = q} also less more) e =
    let sooner : s.before ≡ t.before = number_one steps once s.before t.before r q rest more (same_tail s.process t.process r q e) in
    let same : s ≡ t = ap₂ (λ (b p : ℕ). record { before = b; process = p }) sooner (same_head s.process t.process r q e) in
    ap suc (once j k t (subst (λ (z : Step). slice_get steps j ≡ Some z) same there) also)

-- and a number has one state
pub state_one : (states : List State) → AreGrowing states → (j k : ℕ) (s t : State) → slice_get states j ≡ Some s → slice_get states k ≡ Some t
    → s.number ≡ t.number → j ≡ k
state_one states growing j k s t at there e = by (cases_lt j k) (cases_lt k j)
  where
    by : (j < k) ⊎ (k ≤ j) → (k < j) ⊎ (j ≤ k) → j ≡ k
    by (inl less) b = let grows = growing j k s t less at there in absurd (omega (arith, grows, e))
    by (inr more) (inl less) = let grows = growing k j t s less there at in absurd (omega (arith, grows, e))
    by (inr more) (inr also) = omega (arith, more, also)

-- ---- the steps of a path more

module _ (xs more : List Step) (number : ℕ) (chained : AreChained number (length xs) more) (within : number ≤ length xs) where
  -- after other histories there are no more steps
  pub others_stay : (n p : ℕ) → n ≤ length xs → (n ≡ number → ⊥) → AreBelow xs n p → AreBelow (xs ++ more) n p
  others_stay n p old other below k s there e = by (slice_either xs more k s there)
    where
      place : (j : ℕ) → s.before ≡ before_of number (length xs) j → s.process < p
      place zero is = absurd (other (sym e ∙ is))
      place (suc j) is = absurd (omega (arith, is, e, old))

      by : (slice_get xs k ≡ Some s) ⊎ ((j : ℕ) × (k ≡ length xs + j) × (slice_get more j ≡ Some s)) → s.process < p
      by (inl was) = below k s was e
      by (inr new) = place new.0 (chained new.0 s new.2)

  -- after this one there is the first of the path
  pub own_next : (p : ℕ) → ((s : Step) → slice_get more 0 ≡ Some s → s.process ≤ p) → AreBelow xs number p → AreBelow (xs ++ more) number (p + 1)
  own_next p least below k s there e = by (slice_either xs more k s there)
    where
      place : (j : ℕ) → slice_get more j ≡ Some s → s.before ≡ before_of number (length xs) j → s.process < p + 1
      place zero at is = let few = least s at in omega (arith, few)
      place (suc j) at is = absurd (omega (arith, is, e, within))

      by : (slice_get xs k ≡ Some s) ⊎ ((j : ℕ) × (k ≡ length xs + j) × (slice_get more j ≡ Some s)) → s.process < p + 1
      by (inl was) = let less = below k s was e in omega (arith, less)
      by (inr new) = place new.0 new.2 (chained new.0 s new.2)

  -- and none of them was there before
  pub once_more : AreEarlier xs → AreOnce xs → ((s : Step) → slice_get more 0 ≡ Some s → AreBelow xs number s.process) → AreOnce (xs ++ more)
  once_more earlier once fresh j k s at there = by (slice_either xs more j s at) (slice_either xs more k s there)
    where
      apart : (i l : ℕ) (A : Type 0) → slice_get xs i ≡ Some s → slice_get more l ≡ Some s → s.before ≡ before_of number (length xs) l → A
      apart i zero A was new is = let less = fresh s new i s was is in absurd (omega (arith, less))
      apart i (suc l) A was new is =
          let less = earlier i s was in let there = slice_get_within xs i s was in absurd (omega (arith, less, there, is))

      same : (i l : ℕ) → s.before ≡ before_of number (length xs) i → s.before ≡ before_of number (length xs) l → i ≡ l
      same zero zero a b = refl
      same zero (suc l) a b = absurd (omega (arith, a, b, within))
      same (suc i) zero a b = absurd (omega (arith, a, b, within))
      same (suc i) (suc l) a b = omega (arith, a, b)

      by : (slice_get xs j ≡ Some s) ⊎ ((l : ℕ) × (j ≡ length xs + l) × (slice_get more l ≡ Some s))
          → (slice_get xs k ≡ Some s) ⊎ ((l : ℕ) × (k ≡ length xs + l) × (slice_get more l ≡ Some s)) → j ≡ k
      by (inl a) (inl b) = once j k s a b
      by (inl a) (inr b) = apart j b.0 (j ≡ k) a b.2 (chained b.0 s b.2)
      by (inr a) (inl b) = apart k a.0 (j ≡ k) b a.2 (chained a.0 s a.2)
      by (inr a) (inr b) =
          let one = same a.0 b.0 (chained a.0 s a.2) (chained b.0 s b.2) in let at = a.1 in let there = b.1 in omega (arith, one, at, there)
