-- A process that is able stays as it is where others are released.
use Rattle.std.proofs.Common.{◌≡◌, ℕ, zero, suc, List, [], ◌∷◌, ap, sym, ◌∙◌, Option, Some, None}
use Rattle.b67_list.specs.Numbered.{numbered, set_numbered}
use Rattle.algol_meaning.specs.Value as plain
use Rattle.algol_meaning.specs.World as world
use Rattle.algol_meaning.specs.World.{World, Process, process_at, with_process, or_no_process, set_able, set_all_able}
use Rattle.algol_meaning.specs.Events.{same_reference, first_that, list_in, forgotten, told_number, woken_by, withdrawn, all_withdrawn, event_at, released, change_event, caused_by_end}
use Rattle.b67_deeds.specs.Events.{EventState}
use Rattle.b67_deeds.specs.declared.EventAct.TheVariants as act
use Rattle.b67_deeds.specs.Deeds.{Deed, deed, acts}
use Rattle.algol_instances.specs.SeenInstance.{holding}
use Rattle.algol_world.proofs.Several.{forgotten_is}

-- a change that leaves the process as it is, also where it is done to that
kept_after : (change : Process → Process) (xs : List Process) (n m : ℕ) (q : Process) → numbered xs m ≡ Some q → change q ≡ q
    → numbered (set_numbered xs n (change (or_no_process (numbered xs n)))) m ≡ Some q
kept_after change xs zero m q e s = e
kept_after change xs (suc n) zero q e s = cc
kept_after change [] (suc n) (suc m) q e s = e
kept_after change (x ∷ xs) (suc zero) (suc zero) q e s =
    let p : x ≡ q = cc in
    ap Some (ap change p ∙ s)
kept_after change (x ∷ xs) (suc zero) (suc (suc m)) q e s = e
kept_after change (x ∷ xs) (suc (suc n)) (suc zero) q e s = e
kept_after change (x ∷ xs) (suc (suc n)) (suc (suc m)) q e s = kept_after change xs (suc n) (suc m) q e s

pub able_stays :
    (w : World) (ps : List ℕ) (p : ℕ) (q : Process) → numbered w.processes p ≡ Some q → q.state ≡ world.able
    → numbered ((set_all_able w ps).processes) p ≡ Some q
able_stays w [] p q e s = e
able_stays w (n ∷ ps) p q e s =
    able_stays (set_able w n) ps p q
    (kept_after (λ (y : Process). record y { state = world.able }) w.processes n p q e (ap (λ (t : world.State). record q { state = t }) (sym s))) s

-- who is able waits for no event
pub withdrawn_stays :
    (w : World) (r : plain.Reference) (ps : List ℕ) (p : ℕ) (q : Process) → numbered w.processes p ≡ Some q → q.state ≡ world.able
    → numbered ((all_withdrawn w r ps).processes) p ≡ Some q
withdrawn_stays w r [] p q e s = e
withdrawn_stays w r (n ∷ ps) p q e s =
    let there = process_at w n in
    let as_before : withdrawn w r n ≡ record w { instances = (forgotten (holding w.instances) n (list_in there.state)).instances; processes = set_numbered w.processes n (record there { woken = woken_by r there }) } =
    ap (λ (v : World). with_process v n (record there { woken = woken_by r there })) (forgotten_is w n (list_in there.state)) in
    let told : record q { woken = woken_by r q } ≡ q =
    ap (λ (t : world.State). record q { woken = told_number (first_that (λ x. same_reference x r) 1 (list_in t)) q.woken }) s in
    withdrawn_stays (withdrawn w r n) r ps p q
    (ap (λ (v : World). numbered v.processes p) as_before
    ∙ kept_after (λ (y : Process). record y { woken = woken_by r y }) w.processes n p q e told) s

pub released_stays :
    (w : World) (r : plain.Reference) (d : Deed) (p : ℕ) (q : Process) → numbered w.processes p ≡ Some q → q.state ≡ world.able
    → numbered ((released w r d).world.processes) p ≡ Some q
released_stays w r d p q e s =
    able_stays (all_withdrawn (change_event w r d.change) r d.withdraws) d.frees p q
    (withdrawn_stays (change_event w r d.change) r d.withdraws p q (changed d.change) s) s
  where
    changed : (change : Option (EventState → EventState)) → numbered ((change_event w r change).processes) p ≡ Some q
    changed None = e
    changed (Some change) = e

pub caused_stays :
    (w : World) (by p : ℕ) (q : Process) (task : Option plain.Reference) → numbered w.processes p ≡ Some q → q.state ≡ world.able
    → numbered ((caused_by_end w by task).world.processes) p ≡ Some q
caused_stays w by p q None e s = e
caused_stays w by p q (Some r) e s = released_stays w r (deed (acts act.Cause) by (event_at w r)) p q e s
