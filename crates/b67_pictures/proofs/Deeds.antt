-- Facts of deeds, read from their table, and of who waits.
use Rattle.std.proofs.Common.{◌≡◌, ◌⊎◌, inl, inr, refl, ℕ, List, [], ◌∷◌, Option, Some, None, Bool, true, false}
use Rattle.b67_pictures.proofs.Prelude.{if◌then◌else◌, EventDeed, Deed, deed, answers, is_of_several, after_change, EventState, joined, IsListed, EventTest, Reference, State, able, waits_for, waits_any, procures, ended, is_able, Awaits}
use Rattle.std.specs.Prelude.{take}
use Rattle.b67_deeds.specs.declared.EventAct.TheVariants as act
use Rattle.b67_deeds.specs.declared.EventTest.TheVariants as test
use Rattle.b67_deeds.specs.Deeds as deeds
use Rattle.b67_deeds.specs.Deeds.{acts, tests}

-- what a deed with one event tells: a statement nothing, a test an answer
abbrev pub Tells : EventDeed → Option Bool → Type 0
Tells (acts x) None = Unit {0}
Tells (acts x) (Some b) = ⊥
Tells (tests x) None = ⊥
Tells (tests x) (Some b) = Unit {0}

pub acts_tell : (x : EventDeed) (p : ℕ) (e : EventState) → is_of_several x ≡ false → Tells x (deed x p e).answer
acts_tell (acts act.Cause) p e one = tt
acts_tell (acts act.CauseAndReset) p e one = tt
acts_tell (acts act.Reset) p e one = tt
acts_tell (acts act.Wait) p e one = tt
acts_tell (acts act.Procure) p e one = tt
acts_tell (acts act.Liberate) p e one = tt
acts_tell (tests test.Happened) p e one = tt
acts_tell (tests test.Available) p e one = tt
acts_tell (tests test.Fix) p e one = tt
acts_tell (tests test.WaitAny) p e one = cc

-- a statement is answered nothing
pub nothing_told : (x : EventDeed) (p : ℕ) (e : EventState) → Tells x None → (deed x p e).answer ≡ None
nothing_told (acts act.Cause) p e tells = refl
nothing_told (acts act.CauseAndReset) p e tells = refl
nothing_told (acts act.Reset) p e tells = refl
nothing_told (acts act.Wait) p e tells = refl
nothing_told (acts act.Procure) p e tells = refl
nothing_told (acts act.Liberate) p e tells = refl
nothing_told (tests x) p e tells = absurd tells

-- a test of one event is answered what the event answers
pub told_by_test : (x : EventTest) (p : ℕ) (e : EventState) → is_of_several (tests x) ≡ false → (deed (tests x) p e).answer ≡ Some (answers x e)
told_by_test test.Happened p e one = refl
told_by_test test.Available p e one = refl
told_by_test test.Fix p e one = refl
told_by_test test.WaitAny p e one = cc

-- where a deed with one event changes it not, the process goes on and nobody is freed
pub unchanged_goes : (x : EventDeed) (p : ℕ) (e : EventState) → is_of_several x ≡ false → (deed x p e).change ≡ None →
    ((deed x p e).next ≡ deeds.goes) × ((deed x p e).frees ≡ []) × ((deed x p e).withdraws ≡ [])
unchanged_goes (acts act.Cause) p e one h = cc
unchanged_goes (acts act.CauseAndReset) p e one h = cc
unchanged_goes (acts act.Reset) p e one h = cc
unchanged_goes (acts act.Wait) p e one h = (by e.happened h, refl, refl)
  where
    by : (b : Bool) → (if b then None else Some (joined p)) ≡ None → (if b then deeds.goes else deeds.waits) ≡ deeds.goes
    by true h = refl
    by false h = cc
unchanged_goes (acts act.Procure) p e one h = cc
unchanged_goes (acts act.Liberate) p e one h = cc
unchanged_goes (tests test.Happened) p e one h = (refl, refl, refl)
unchanged_goes (tests test.Available) p e one h = (refl, refl, refl)
unchanged_goes (tests test.Fix) p e one h = (refl, refl, refl)
unchanged_goes (tests test.WaitAny) p e one h = cc

-- where a process waits, that tells nothing
pub waiting_tells : (x : EventDeed) (p : ℕ) (e : EventState) → ((deed x p e).next ≡ deeds.goes → ⊥) → (deed x p e).answer ≡ None
waiting_tells (acts act.Cause) p e other = absurd (other refl)
waiting_tells (acts act.CauseAndReset) p e other = absurd (other refl)
waiting_tells (acts act.Reset) p e other = absurd (other refl)
waiting_tells (acts act.Wait) p e other = refl
waiting_tells (acts act.Procure) p e other = refl
waiting_tells (acts act.Liberate) p e other = absurd (other refl)
waiting_tells (tests test.Happened) p e other = absurd (other refl)
waiting_tells (tests test.Available) p e other = absurd (other refl)
waiting_tells (tests test.Fix) p e other = absurd (other refl)
waiting_tells (tests test.WaitAny) p e other = refl

-- Whom a deed frees: all who waited for the event, and they are withdrawn; or some who waited to procure it, and nobody is withdrawn.
abbrev pub Frees : EventState → Deed → Type 0
Frees e d = ((d.frees ≡ e.waiters) × (d.withdraws ≡ e.waiters) × ((after_change d.change e).waiters ≡ [])) ⊎ ((d.withdraws ≡ []) × ((k : ℕ) → IsListed d.frees k → IsListed e.procurers k))

first_listed : (xs : List ℕ) (k : ℕ) → IsListed (take 1 xs) k → IsListed xs k
first_listed [] k m = absurd m
first_listed (x ∷ xs) k (inl f) = inl f
first_listed (x ∷ xs) k (inr m) = absurd m

pub whom_frees : (x : EventDeed) (p : ℕ) (e : EventState) → Frees e (deed x p e)
whom_frees (acts act.Cause) p e = inl (refl, refl, refl)
whom_frees (acts act.CauseAndReset) p e = inl (refl, refl, refl)
whom_frees (acts act.Reset) p e = inr (refl, λ k n. absurd n)
whom_frees (acts act.Wait) p e = inr (refl, λ k n. absurd n)
whom_frees (acts act.Procure) p e = inr (refl, λ k n. absurd n)
whom_frees (acts act.Liberate) p e = inr (refl, λ k n. first_listed e.procurers k n)
whom_frees (tests test.Happened) p e = inr (refl, λ k n. absurd n)
whom_frees (tests test.Available) p e = inr (refl, λ k n. absurd n)
whom_frees (tests test.Fix) p e = inr (refl, λ k n. absurd n)
whom_frees (tests test.WaitAny) p e = inr (refl, λ k n. absurd n)

pub waiting_not_able : (s : State) (r : Reference) → Awaits s r → is_able s ≡ false
waiting_not_able (waits_for t) r n = refl
waiting_not_able (waits_any rs) r n = refl
waiting_not_able able r n = absurd n
waiting_not_able (procures t) r n = absurd n
waiting_not_able ended r n = absurd n
