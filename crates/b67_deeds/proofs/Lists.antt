-- What each deed does with the lists of its event: read once from the table.
use Rattle.std.proofs.Common.{◌≡◌, ◌⊎◌, refl, sym, subst, ℕ, List, [], ◌∷◌, ◌++◌, drop, Bool, true, false, Option, None, Some}
use Rattle.std.specs.Prelude.{if◌then◌else◌, take}
use Rattle.b67_deeds.specs.declared.EventAct.TheVariants as act
use Rattle.b67_deeds.specs.declared.EventTest.TheVariants as test
use Rattle.b67_deeds.specs.Events.{EventState, joined, taken, queued, passed_on}
use Rattle.b67_deeds.specs.Listed.{IsListed, AreOnce}
use Rattle.b67_deeds.specs.Deeds.{EventDeed, acts, tests, goes, waits, procures, Deed, answers, deed, after_change}

-- a deed of process p with an event in this state
pub record Lists (p : ℕ) (e : EventState) (d : Deed) : Type 0 where
  -- who is freed was listed
  pub freed : (k : ℕ) → IsListed d.frees k → IsListed e.waiters k ⊎ IsListed e.procurers k
  -- who is listed after it was listed before and is not freed, or it is the process, which waits
  pub waiters : (k : ℕ) → IsListed (after_change d.change e).waiters k → (IsListed e.waiters k × (IsListed d.frees k → ⊥)) ⊎ ((d.next ≡ waits) × (p ≡ k))
  pub procurers : (k : ℕ) → IsListed (after_change d.change e).procurers k →
      (IsListed e.procurers k × (IsListed d.frees k → ⊥)) ⊎ ((d.next ≡ procures) × (p ≡ k))
  -- nobody stands there twice to procure it, nor to wait for it
  pub once : AreOnce (after_change d.change e).procurers
  pub waiting_once : AreOnce (after_change d.change e).waiters
  -- who waits for no other event either was listed to wait for it, and is freed
  pub withdrawn : (k : ℕ) → IsListed d.withdraws k → IsListed e.waiters k × IsListed d.frees k

pub listed_either : (xs : List ℕ) (p k : ℕ) → IsListed (xs ++ p ∷ []) k → IsListed xs k ⊎ (p ≡ k)
listed_either [] p k (◌⊎◌.inl e) = ◌⊎◌.inr e
listed_either [] p k (◌⊎◌.inr n) = absurd n
listed_either (x ∷ xs) p k (◌⊎◌.inl e) = ◌⊎◌.inl (◌⊎◌.inl e)
listed_either (x ∷ xs) p k (◌⊎◌.inr n) = by (listed_either xs p k n)
  where
    by : IsListed xs k ⊎ (p ≡ k) → IsListed (x ∷ xs) k ⊎ (p ≡ k)
    by (◌⊎◌.inl m) = ◌⊎◌.inl (◌⊎◌.inr m)
    by (◌⊎◌.inr e) = ◌⊎◌.inr e

nobody_there : (k : ℕ) → IsListed [] k → ⊥
nobody_there k n = n

pub once_more : (xs : List ℕ) (p : ℕ) → AreOnce xs → (IsListed xs p → ⊥) → AreOnce (xs ++ p ∷ [])
once_more [] p o n = (nobody_there p, tt)
once_more (x ∷ xs) p o n = (λ m. by (listed_either xs p x m), once_more xs p o.1 (λ m. n (◌⊎◌.inr m)))
  where
    by : IsListed xs x ⊎ (p ≡ x) → ⊥
    by (◌⊎◌.inl m) = o.0 m
    by (◌⊎◌.inr e) = n (◌⊎◌.inl (sym e))

-- nobody is listed twice to procure it, nor to wait for it, nobody in both lists, and the process in neither
module _ (p : ℕ) (e : EventState) (once : AreOnce e.procurers) (waiting_once : AreOnce e.waiters)
    (apart : (k : ℕ) → IsListed e.waiters k → IsListed e.procurers k → ⊥) (outside : IsListed e.procurers p → ⊥)
    (waits_not : IsListed e.waiters p → ⊥) where
  same : {A : Type 0} (xs : List ℕ) (k : ℕ) → IsListed xs k → (IsListed xs k × (IsListed [] k → ⊥)) ⊎ A
  same xs k n = ◌⊎◌.inl (n, λ m. m)

  waiting : (b : Bool) → Lists p e (record { change = if b then None else Some (joined p); next = if b then goes else waits; answer = None; frees = []; withdraws = [] })
  waiting true = record { freed = λ k n. absurd n; waiters = λ k n. same e.waiters k n; procurers = λ k n. same e.procurers k n; once = once; waiting_once = waiting_once; withdrawn = λ k n. absurd n }
  waiting false =
      record {
        freed = λ k n. absurd n;
        waiters = λ k n. by k (listed_either e.waiters p k n);
        procurers = λ k n. same e.procurers k n;
        once = once;
        waiting_once = once_more e.waiters p waiting_once waits_not;
        withdrawn = λ k n. absurd n;
      }
    where
      by : (k : ℕ) → IsListed e.waiters k ⊎ (p ≡ k) → (IsListed e.waiters k × (IsListed [] k → ⊥)) ⊎ ((waits ≡ waits) × (p ≡ k))
      by k (◌⊎◌.inl n) = same e.waiters k n
      by k (◌⊎◌.inr f) = ◌⊎◌.inr (refl, f)

  procuring : (b : Bool) → Lists p e (record { change = Some (if b then taken else queued p); next = if b then goes else procures; answer = None; frees = []; withdraws = [] })
  procuring true = record { freed = λ k n. absurd n; waiters = λ k n. same e.waiters k n; procurers = λ k n. same e.procurers k n; once = once; waiting_once = waiting_once; withdrawn = λ k n. absurd n }
  procuring false =
      record {
        freed = λ k n. absurd n;
        waiters = λ k n. same e.waiters k n;
        procurers = λ k n. by k (listed_either e.procurers p k n);
        once = once_more e.procurers p once outside;
        waiting_once = waiting_once;
        withdrawn = λ k n. absurd n;
      }
    where
      by : (k : ℕ) → IsListed e.procurers k ⊎ (p ≡ k) → (IsListed e.procurers k × (IsListed [] k → ⊥)) ⊎ ((procures ≡ procures) × (p ≡ k))
      by k (◌⊎◌.inl n) = same e.procurers k n
      by k (◌⊎◌.inr f) = ◌⊎◌.inr (refl, f)

  given_on : (xs : List ℕ) → e.procurers ≡ xs → Lists p e (record { change = Some (passed_on xs); next = goes; answer = None; frees = take 1 xs; withdraws = [] })
  given_on [] f = record { freed = λ k n. absurd n; waiters = λ k n. same e.waiters k n; procurers = λ k n. same e.procurers k n; once = once; waiting_once = waiting_once; withdrawn = λ k n. absurd n }
  given_on (x ∷ xs) f =
      record {
        freed = λ k n. ◌⊎◌.inr (first k n);
        waiters = λ k n. ◌⊎◌.inl (n, λ m. apart k n (first k m));
        procurers = λ k n. ◌⊎◌.inl (subst (λ ys. IsListed ys k) (sym f) (◌⊎◌.inr (later k n)), λ m. twice k (later k n) m);
        once = subst (λ ys. AreOnce (drop 1 ys)) (sym f) one.1;
        waiting_once = waiting_once;
        withdrawn = λ k n. absurd n;
      }
    where
      one : AreOnce (x ∷ xs)
      one = subst (λ ys. AreOnce ys) f once

      later : (k : ℕ) → IsListed (drop 1 e.procurers) k → IsListed xs k
      later k n = subst (λ ys. IsListed (drop 1 ys) k) f n

      first : (k : ℕ) → IsListed (take 1 (x ∷ xs)) k → IsListed e.procurers k
      first k (◌⊎◌.inl g) = subst (λ ys. IsListed ys k) (sym f) (◌⊎◌.inl g)
      first k (◌⊎◌.inr n) = absurd n

      twice : (k : ℕ) → IsListed xs k → IsListed (take 1 (x ∷ xs)) k → ⊥
      twice k n (◌⊎◌.inl g) = one.0 (subst (λ j. IsListed xs j) (sym g) n)
      twice k n (◌⊎◌.inr m) = m

  -- all who wait are released, and nobody waits any more
  letting_go : (h : Bool) →
      Lists p e (record { change = Some (λ (z : EventState). record z { happened = h; waiters = [] }); next = goes; answer = None; frees = e.waiters; withdraws = e.waiters })
  letting_go h =
      record {
        freed = λ k n. ◌⊎◌.inl n;
        waiters = λ k n. absurd n;
        procurers = λ k n. ◌⊎◌.inl (n, λ m. apart k m n);
        once = once;
        waiting_once = tt;
        withdrawn = λ k n. (n, n);
      }

  unlisting : (a : Option Bool) → Lists p e (record { change = None; next = goes; answer = a; frees = []; withdraws = [] })
  unlisting a = record { freed = λ k n. absurd n; waiters = λ k n. same e.waiters k n; procurers = λ k n. same e.procurers k n; once = once; waiting_once = waiting_once; withdrawn = λ k n. absurd n }

  taking : (a : Option Bool) (b : Bool) → Lists p e (record { change = if b then Some taken else None; next = goes; answer = a; frees = []; withdraws = [] })
  taking a true = record { freed = λ k n. absurd n; waiters = λ k n. same e.waiters k n; procurers = λ k n. same e.procurers k n; once = once; waiting_once = waiting_once; withdrawn = λ k n. absurd n }
  taking a false = unlisting a

  pub deed_lists : (x : EventDeed) → Lists p e (deed x p e)
  deed_lists (acts act.Cause) = letting_go true
  deed_lists (acts act.CauseAndReset) = letting_go false
  deed_lists (acts act.Reset) =
      record { freed = λ k n. absurd n; waiters = λ k n. same e.waiters k n; procurers = λ k n. same e.procurers k n; once = once; waiting_once = waiting_once; withdrawn = λ k n. absurd n }
  deed_lists (acts act.Wait) = waiting e.happened
  deed_lists (acts act.Procure) = procuring e.available
  deed_lists (acts act.Liberate) = given_on e.procurers refl
  deed_lists (tests test.Happened) = unlisting (Some (answers test.Happened e))
  deed_lists (tests test.Available) = unlisting (Some (answers test.Available e))
  deed_lists (tests test.Fix) = taking (Some (answers test.Fix e)) e.available
  deed_lists (tests test.WaitAny) =
      record {
        freed = λ k n. absurd n;
        waiters = λ k n. by k (listed_either e.waiters p k n);
        procurers = λ k n. same e.procurers k n;
        once = once;
        waiting_once = once_more e.waiters p waiting_once waits_not;
        withdrawn = λ k n. absurd n;
      }
    where
      by : (k : ℕ) → IsListed e.waiters k ⊎ (p ≡ k) → (IsListed e.waiters k × (IsListed [] k → ⊥)) ⊎ ((waits ≡ waits) × (p ≡ k))
      by k (◌⊎◌.inl n) = same e.waiters k n
      by k (◌⊎◌.inr f) = ◌⊎◌.inr (refl, f)

-- who waits frees nobody
pub waiting_frees_nobody : (x : EventDeed) (p : ℕ) (e : EventState) → ((deed x p e).next ≡ goes → ⊥) → (deed x p e).frees ≡ []
waiting_frees_nobody (acts act.Cause) p e f = absurd (f refl)
waiting_frees_nobody (acts act.CauseAndReset) p e f = absurd (f refl)
waiting_frees_nobody (acts act.Reset) p e f = refl
waiting_frees_nobody (acts act.Wait) p e f = refl
waiting_frees_nobody (acts act.Procure) p e f = refl
waiting_frees_nobody (acts act.Liberate) p e f = absurd (f refl)
waiting_frees_nobody (tests test.Happened) p e f = refl
waiting_frees_nobody (tests test.Available) p e f = refl
waiting_frees_nobody (tests test.Fix) p e f = refl
waiting_frees_nobody (tests test.WaitAny) p e f = refl
