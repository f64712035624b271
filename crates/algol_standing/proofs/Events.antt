-- What is done with an event keeps what worlds are: one lemma for every deed.
use Rattle.std.proofs.Common.{arith, ◌≡◌, ◌⊎◌, ℕ, ◌≤◌, List, [], ◌∷◌, length, Option, None, Some, Bool, true, refl, sym, ap, ◌∙◌, subst}
use Rattle.std.specs.Prelude.{take}
use Rattle.b67_limits.specs.declared.TheConstants.{MOST_EVENTS}
use Rattle.b67_list.specs.Numbered.{numbered}
use Rattle.b67_list.proofs.Numbered.{numbered_set}
use Rattle.b67_deeds.specs.declared.EventAct.TheVariants as act
use Rattle.b67_deeds.specs.declared.EventTest.TheVariants as test
use Rattle.b67_deeds.specs.Deeds as deeds
use Rattle.b67_deeds.specs.Deeds.{EventDeed, Deed, Next, deed, after_change}
use Rattle.b67_deeds.specs.Events.{EventState}
use Rattle.b67_deeds.specs.Listed.{IsListed}
use Rattle.b67_deeds.proofs.Lists.{Lists, deed_lists}
use Rattle.algol_tree.specs.Scopes.{Scopes}
use Rattle.algol_meaning.specs.Value.{Cell, Reference}
use Rattle.algol_meaning.specs.Rest.{Rest, Answer, done}
use Rattle.algol_meaning.specs.World.{Part, Process, State, able, waits_for, procures, lives, or_no_process, process_at, set_all_able, World}
use Rattle.algol_meaning.specs.Events.{event_at, change_event, list_in, all_withdrawn, released}
use Rattle.algol_meaning.specs.Asks.{nothing, ask, resume}
use Rattle.algol_meaning.specs.Choice.{told_answer, did, deed_does}
use Rattle.algol_laws.proofs.Releasing.{changed_processes, able_instances}
use Rattle.algol_standing.specs.Worlds.{held_in_answer, newest_own, skeleton, IsOnPath, IsStanding, Awaits, WaitersAreListed, IsAwaited, IsFew, IsWholeInstance, IsSound}
use Rattle.algol_standing.proofs.Awaiting.{awaits_able, awaits_procures}
use Rattle.algol_standing.proofs.Lists.{some_same}
use Rattle.algol_standing.proofs.Standing.{stands_path}
use Rattle.algol_standing.proofs.Holding.{AreAll, IsForeign}
use Rattle.algol_standing.proofs.Pairs.{AllPairs, numbered_forth, pairs_self, pairs_then, pairs_then_set}
use Rattle.algol_standing.proofs.Alike.{InstanceAlike, instance_then}
use Rattle.algol_standing.proofs.Seen.{CellOk, top_stands}
use Rattle.algol_standing.proofs.Unmoved.{Unmoved, unmoved_self}
use Rattle.algol_standing.proofs.Resumed.{Moved, resumed, resumed_ok}
use Rattle.algol_standing.proofs.Changed.{changed_alike}
use Rattle.algol_standing.proofs.Withdrawn.{withdrawn_instances, withdrawn_unmoved}
use Rattle.algol_standing.proofs.Listed.{able_unmoved, procures_able, now_listed, WaitsAt, waits_live, happened, still_awaits, still_procures, listed_then}
use Rattle.algol_standing.proofs.Asking.{Suits}
use Rattle.algol_standing.proofs.Quiet.{waits_not}

-- who is freed waits for no other event either, or waited to procure it
freed_how : (x : EventDeed) (p : ℕ) (e : EventState) (k : ℕ) → IsListed (deed x p e).frees k → IsListed (deed x p e).withdraws k ⊎ IsListed e.procurers k
freed_how (deeds.acts act.Cause) p e k n = ◌⊎◌.inl n
freed_how (deeds.acts act.CauseAndReset) p e k n = ◌⊎◌.inl n
freed_how (deeds.acts act.Reset) p e k n = absurd n
freed_how (deeds.acts act.Wait) p e k n = absurd n
freed_how (deeds.acts act.Procure) p e k n = absurd n
freed_how (deeds.acts act.Liberate) p e k n = ◌⊎◌.inr (first e.procurers n)
  where
    first : (xs : List ℕ) → IsListed (take 1 xs) k → IsListed xs k
    first [] m = absurd m
    first (x ∷ xs) (◌⊎◌.inl f) = ◌⊎◌.inl f
    first (x ∷ xs) (◌⊎◌.inr m) = absurd m
freed_how (deeds.tests test.Happened) p e k n = absurd n
freed_how (deeds.tests test.Available) p e k n = absurd n
freed_how (deeds.tests test.Fix) p e k n = absurd n
freed_how (deeds.tests test.WaitAny) p e k n = absurd n

pub changed_unmoved : (w : World) (r : Reference) (d : Deed) → ((k : ℕ) → IsListed d.frees k → WaitsAt w r k) →
    AllPairs Unmoved w.processes (set_all_able (all_withdrawn (change_event w r d.change) r d.withdraws) d.frees).processes
changed_unmoved w r d freed =
    able_unmoved w (all_withdrawn (change_event w r d.change) r d.withdraws) d.frees
    (withdrawn_unmoved w (change_event w r d.change) r d.withdraws
    (subst (λ qs. AllPairs Unmoved w.processes qs) (sym (changed_processes w r d.change)) (pairs_self Unmoved unmoved_self w.processes)))
    (λ k n. waits_live w r k (freed k n))

pub released_instances : (w : World) (r : Reference) (d : Deed) → AllPairs InstanceAlike w.instances (released w r d).world.instances
released_instances w r d =
    let v = change_event w r d.change in
    let u = all_withdrawn v r d.withdraws in
    subst (λ xs. AllPairs InstanceAlike w.instances xs) (sym (able_instances u d.frees))
    (pairs_then InstanceAlike instance_then w.instances v.instances u.instances (changed_alike w r d.change) (withdrawn_instances v r d.withdraws))

module _ (sc : Scopes) (heads_act : (r : Rest) (a : Answer) → Suits (ask r) a → ask (resume sc r a) ≡ nothing → ⊥) (w : World) (ok : IsSound sc IsWholeInstance w) (p : ℕ) (q : Process) (part : Part) (outer : List Part)
    (is : numbered w.processes p ≡ Some q) (todo : q.todo ≡ part ∷ outer) (able_is : q.state ≡ able) (r : Reference) (path : IsOnPath w (newest_own (part ∷ outer)) r.instance) where
  stands : IsStanding w r.instance
  stands = stands_path (skeleton w) ok.skeleton_ok (newest_own (part ∷ outer)) r.instance (top_stands sc IsWholeInstance w ok p q part outer is todo) path

  listed : WaitersAreListed w r (event_at w r)
  listed = now_listed w r (λ d f. ok.listed r d stands f)

  able_at : (process_at w p).state ≡ able
  able_at = ap (λ o. (or_no_process o).state) is ∙ able_is

  -- the process has this answer and this state, and the deed is done
  module _ (a : Answer) (foreign : IsForeign a) (brings : AreAll (CellOk sc IsWholeInstance w ok (newest_own (part ∷ outer))) (held_in_answer a)) (suits : Suits (ask part.rest) a)
      (s : State) (lives_on : lives s ≡ true) (awaits : (t : Reference) → IsAwaited s t → IsOnPath w (newest_own (part ∷ outer)) t.instance)
      (few : IsFew q.woken s) (d : Deed) (lists : Lists p (event_at w r) d)
      (also : (k : ℕ) → IsListed d.frees k → Awaits ((process_at w k).state) r → IsListed d.withdraws k) (waits_so : d.next ≡ deeds.waits → Awaits s r) (procures_so : d.next ≡ deeds.procures → s ≡ procures r) where
    freed : (k : ℕ) → IsListed d.frees k → WaitsAt w r k
    freed k n = by (lists.freed k n)
      where
        by : IsListed (event_at w r).waiters k ⊎ IsListed (event_at w r).procurers k → WaitsAt w r k
        by (◌⊎◌.inl m) = ◌⊎◌.inl (listed.waiters k m)
        by (◌⊎◌.inr m) = ◌⊎◌.inr (listed.procurers k m)

    acts : ask (resume sc part.rest a) ≡ nothing → ⊥
    acts = heads_act part.rest a suits

    abbrev moved : Process
    moved = resumed sc w ok p q part outer is todo (ap lives able_is) a foreign brings acts s lives_on awaits q.woken few

    abbrev MovedHere : Process → Process → Type 0
    MovedHere = Moved sc w ok p q part outer is todo (ap lives able_is) a foreign brings acts s lives_on awaits q.woken few

    abbrev after : World
    after = happened w p q moved is able_is r d.change d.withdraws d.frees freed also

    instances : AllPairs InstanceAlike w.instances after.instances
    instances = released_instances w r d

    processes : AllPairs MovedHere w.processes after.processes
    processes =
        pairs_then_set Unmoved MovedHere (λ x y f. ◌⊎◌.inr f) w.processes (set_all_able (all_withdrawn (change_event w r d.change) r d.withdraws) d.frees).processes p moved
        (changed_unmoved w r d freed) (λ x f. ◌⊎◌.inl (some_same f is, refl))

    state_now : (process_at after p).state ≡ s
    state_now =
        let x = numbered_forth Unmoved w.processes (set_all_able (all_withdrawn (change_event w r d.change) r d.withdraws) d.frees).processes p q (changed_unmoved w r d freed) is in
        ap (λ o. (or_no_process o).state) (numbered_set (set_all_able (all_withdrawn (change_event w r d.change) r d.withdraws) d.frees).processes p x.0 moved x.1)

    -- who is listed waits
    listed_now : WaitersAreListed after r (after_change d.change (event_at w r))
    listed_now = record { waiters = λ k n. waiter k (lists.waiters k n); procurers = λ k n. procurer k (lists.procurers k n); once = lists.once; once_waiting = lists.waiting_once }
      where
        waiter : (k : ℕ) → (IsListed (event_at w r).waiters k × (IsListed d.frees k → ⊥)) ⊎ ((d.next ≡ deeds.waits) × (p ≡ k)) → Awaits ((process_at after k).state) r
        waiter k (◌⊎◌.inl n) = still_awaits w p q moved is able_is r d.change d.withdraws d.frees freed also k r (listed.waiters k n.0) n.1
        waiter k (◌⊎◌.inr n) =
            subst (λ j. Awaits ((process_at after j).state) r) n.1 (subst (λ t. Awaits t r) (sym state_now) (waits_so n.0))

        procurer : (k : ℕ) → (IsListed (event_at w r).procurers k × (IsListed d.frees k → ⊥)) ⊎ ((d.next ≡ deeds.procures) × (p ≡ k)) →
            (process_at after k).state ≡ procures r
        procurer k (◌⊎◌.inl n) = still_procures w p q moved is able_is r d.change d.withdraws d.frees freed also k r (listed.procurers k n.0) n.1
        procurer k (◌⊎◌.inr n) = ap (λ j. (process_at after j).state) (sym n.1) ∙ state_now ∙ procures_so n.0

    after_ok : IsSound sc IsWholeInstance after
    after_ok =
        resumed_ok sc w ok p q part outer is todo (ap lives able_is) a foreign brings acts s lives_on awaits q.woken few after instances processes
        (λ t e st f. listed_then w p q moved is able_is r d.change d.withdraws d.frees freed also listed_now t e (λ d g. ok.listed t d st g) f)

  -- ---- what is told

  told_foreign : (o : Option Bool) → IsForeign (told_answer sc w p q part outer o)
  told_foreign None = tt
  told_foreign (Some b) = tt

  told_brings : (C : Cell → Type 0) (o : Option Bool) → AreAll C (held_in_answer (told_answer sc w p q part outer o))
  told_brings C None = tt
  told_brings C (Some b) = tt

  -- ---- by what becomes of the process

  on_path : (s : State) → ((t : Reference) → IsAwaited s t → r ≡ t) → (t : Reference) → IsAwaited s t → IsOnPath w (newest_own (part ∷ outer)) t.instance
  on_path s f t n = subst (λ (u : Reference). IsOnPath w (newest_own (part ∷ outer)) u.instance) (f t n) path

  module _ (x : EventDeed) where
    abbrev d : Deed
    d = deed x p (event_at w r)

    abbrev C : Cell → Type 0
    C = CellOk sc IsWholeInstance w ok (newest_own (part ∷ outer))

    lists : Lists p (event_at w r) d
    lists =
        deed_lists p (event_at w r) listed.once listed.once_waiting
        (λ k m n. awaits_procures ((process_at w k).state) r r (listed.waiters k m) (listed.procurers k n))
        (λ n. procures_able r (sym (listed.procurers p n) ∙ able_at)) (λ n. awaits_able ((process_at w p).state) r (listed.waiters p n) able_at) x

    also : (k : ℕ) → IsListed d.frees k → Awaits ((process_at w k).state) r → IsListed d.withdraws k
    also k n a = by (freed_how x p (event_at w r) k n)
      where
        by : IsListed d.withdraws k ⊎ IsListed (event_at w r).procurers k → IsListed d.withdraws k
        by (◌⊎◌.inl m) = m
        by (◌⊎◌.inr m) = absurd (awaits_procures ((process_at w k).state) r r a (listed.procurers k m))

    -- who waits for one event has no list
    its_few : IsFew q.woken q.state
    its_few = (ok.processes p q is).few

    no_more : (s : State) → list_in s ≡ [] → IsFew q.woken s
    no_more s e = (its_few.0, subst (λ rs. length rs ≤ MOST_EVENTS) (sym e) (omega (arith)))

    pub deed_done : Suits (ask part.rest) (told_answer sc w p q part outer d.answer) → Suits (ask part.rest) done → IsSound sc IsWholeInstance (deed_does sc w p q part outer x r d).world
    deed_done goes_on stops = by d.next refl
      where
        by : (n : Next) → d.next ≡ n → IsSound sc IsWholeInstance (did sc w p q part outer x r d n).world
        by deeds.goes e =
            after_ok (told_answer sc w p q part outer d.answer) (told_foreign d.answer) (told_brings C d.answer) goes_on q.state (ap lives able_is)
            (waits_not sc heads_act w ok p q part outer is todo able_is) its_few d lists also (λ f. let no : deeds.goes ≡ deeds.waits = sym e ∙ f in cc)
            (λ f. let no : deeds.goes ≡ deeds.procures = sym e ∙ f in cc)
        by deeds.waits e =
            after_ok done tt tt stops (waits_for r) refl (on_path (waits_for r) (λ t n. n)) (no_more (waits_for r) refl) d lists also (λ f. refl)
            (λ f. let no : deeds.waits ≡ deeds.procures = sym e ∙ f in cc)
        by deeds.procures e =
            after_ok done tt tt stops (procures r) refl (on_path (procures r) (λ t n. n)) (no_more (procures r) refl) d lists also
            (λ f. let no : deeds.procures ≡ deeds.waits = sym e ∙ f in cc) (λ f. refl)
