-- An event that changes, processes that are released, and one that acts: who is listed still waits.
use Rattle.std.proofs.Common.{◌≡◌, ◌⊎◌, ℕ, List, [], ◌∷◌, Option, None, Some, Bool, true, refl, sym, ap, ◌∙◌, subst}
use Rattle.b67_list.specs.Numbered.{numbered, set_numbered}
use Rattle.algol_meaning.specs.Value.{Reference, Cell, simple, event, array, named, reference}
use Rattle.b67_deeds.specs.Events.{EventState}
use Rattle.b67_deeds.specs.Deeds.{after_change}
use Rattle.b67_deeds.specs.Listed.{IsListed, AreOnce}
use Rattle.algol_meaning.specs.World.{or_no_instance, cell_in, cell_at, Process, State, able, procures, or_no_process, process_at, lives, with_process, set_able, set_all_able, event_in, World}
use Rattle.algol_meaning.specs.Events.{event_at, change_event, reference_is_among, list_in, all_withdrawn}
use Rattle.algol_laws.proofs.Releasing.{changed_processes, able_instances, all_withdrawn_state}
use Rattle.algol_standing.specs.Worlds.{Awaits, WaitersAreListed}
use Rattle.algol_standing.proofs.Awaiting.{awaits_able, awaits_procures, awaits_lives, awaits_two}
use Rattle.algol_standing.proofs.Pairs.{AllPairs, numbered_forth, pairs_then_set, set_or}
use Rattle.algol_standing.proofs.Unmoved.{Unmoved, unmoved_able}
use Rattle.algol_standing.proofs.EventCells.{references, cell_apart, event_back}
use Rattle.algol_standing.proofs.Withdrawn.{thinned, thinner, gone, thinned_listed, has_in_list, withdrawn_event}

-- ---- processes that are released

pub able_unmoved : (w v : World) (ps : List ℕ) → AllPairs Unmoved w.processes v.processes → ((k : ℕ) → IsListed ps k → lives ((process_at w k).state) ≡ true) →
    AllPairs Unmoved w.processes (set_all_able v ps).processes
able_unmoved w v [] m live = m
able_unmoved w v (p ∷ ps) m live = able_unmoved w (set_able v p) ps one (λ k n. live k (◌⊎◌.inr n))
  where
    able_now : (x : Process) → numbered w.processes p ≡ Some x → (y : Process) × (numbered v.processes p ≡ Some y) × Unmoved x y → Unmoved x (record (process_at v p) { state = able })
    able_now x e f =
        subst (λ (z : Process). Unmoved x (record z { state = able })) (sym (ap or_no_process f.1))
        (unmoved_able x f.0 (ap (λ o. lives ((or_no_process o).state)) (sym e) ∙ live p (◌⊎◌.inl refl)) f.2)

    one : AllPairs Unmoved w.processes (set_able v p).processes
    one =
        pairs_then_set Unmoved Unmoved (λ x y f. f) w.processes v.processes p (record (process_at v p) { state = able }) m
        (λ x e. able_now x e (numbered_forth Unmoved w.processes v.processes p x m e))

pub state_kept : (w : World) (ps : List ℕ) (k : ℕ) (s : State) → (process_at w k).state ≡ s → (IsListed ps k → ⊥) → (process_at (set_all_able w ps) k).state ≡ s
state_kept w [] k s e n = e
state_kept w (p ∷ ps) k s e n = state_kept (set_able w p) ps k s (one (set_or w.processes p k (record (process_at w p) { state = able }))) (λ m. n (◌⊎◌.inr m))
  where
    one : (numbered (set_numbered w.processes p (record (process_at w p) { state = able })) k ≡ numbered w.processes k)
        ⊎ ((p ≡ k) × (numbered (set_numbered w.processes p (record (process_at w p) { state = able })) k ≡ Some (record (process_at w p) { state = able }))) →
        (process_at (set_able w p) k).state ≡ s
    one (◌⊎◌.inl f) = ap (λ o. (or_no_process o).state) f ∙ e
    one (◌⊎◌.inr f) = absurd (n (◌⊎◌.inl f.0))

-- ---- who is listed

procures_same : (r s : Reference) → procures r ≡ procures s → r ≡ s
procures_same r s e = cc

pub procures_able : (r : Reference) → procures r ≡ able → ⊥
procures_able r e = cc

-- the event of a cell, if it holds one; any other has nobody listed
pub now_listed : (w : World) (r : Reference) → ((e : EventState) → cell_at w r ≡ event e → WaitersAreListed w r e) → WaitersAreListed w r (event_at w r)
now_listed w r f = by (cell_at w r) refl
  where
    by : (c : Cell) → cell_at w r ≡ c → WaitersAreListed w r (event_in c)
    by (event e) g = f e g
    by (simple v) g = record { waiters = λ k n. absurd n; procurers = λ k n. absurd n; once = tt; once_waiting = tt }
    by (array a) g = record { waiters = λ k n. absurd n; procurers = λ k n. absurd n; once = tt; once_waiting = tt }
    by (named m) g = record { waiters = λ k n. absurd n; procurers = λ k n. absurd n; once = tt; once_waiting = tt }
    by (reference s) g = record { waiters = λ k n. absurd n; procurers = λ k n. absurd n; once = tt; once_waiting = tt }

-- the event of another cell is as it was
changed_apart : (w : World) (r s : Reference) (c : Option (EventState → EventState)) → (r ≡ s → ⊥) → event_at (change_event w r c) s ≡ event_at w s
changed_apart w r s None other = refl
changed_apart w r s (Some change) other = ap (λ (x : Cell). event_in x) (cell_apart w r s (change (event_at w r)) other)

-- who waits for that event
abbrev pub WaitsAt : World → Reference → ℕ → Type 0
WaitsAt w r k = Awaits ((process_at w k).state) r ⊎ ((process_at w k).state ≡ procures r)

pub waits_live : (w : World) (r : Reference) (k : ℕ) → WaitsAt w r k → lives ((process_at w k).state) ≡ true
waits_live w r k (◌⊎◌.inl n) = awaits_lives ((process_at w k).state) r n
waits_live w r k (◌⊎◌.inr e) = ap lives e

-- the event after a change is that, or there is none
changed_event : (w : World) (r : Reference) (c : Option (EventState → EventState)) →
    (event_at (change_event w r c) r ≡ after_change c (event_at w r)) ⊎ (event_at (change_event w r c) r ≡ event_in (cell_in [] []))
changed_event w r None = ◌⊎◌.inl refl
changed_event w r (Some change) = by (cell_at (change_event w r (Some change)) r) refl
  where
    by : (x : Cell) → cell_at (change_event w r (Some change)) r ≡ x →
        (event_at (change_event w r (Some change)) r ≡ change (event_at w r)) ⊎ (event_at (change_event w r (Some change)) r ≡ event_in (cell_in [] []))
    by (event d) f = which (event_back w r r (change (event_at w r)) d f)
      where
        which : ((r ≡ r) × (d ≡ change (event_at w r))) ⊎ ((r ≡ r → ⊥) × (cell_at w r ≡ event d)) →
            (event_at (change_event w r (Some change)) r ≡ change (event_at w r)) ⊎ (event_at (change_event w r (Some change)) r ≡ event_in (cell_in [] []))
        which (◌⊎◌.inl g) = ◌⊎◌.inl (ap (λ (x : Cell). event_in x) f ∙ g.1)
        which (◌⊎◌.inr g) = absurd (g.0 refl)
    by (simple v) f = ◌⊎◌.inr (ap (λ (x : Cell). event_in x) f)
    by (array a) f = ◌⊎◌.inr (ap (λ (x : Cell). event_in x) f)
    by (named m) f = ◌⊎◌.inr (ap (λ (x : Cell). event_in x) f)
    by (reference s) f = ◌⊎◌.inr (ap (λ (x : Cell). event_in x) f)

-- who is freed, and waits for the event to happen, waits for no other event either
module _ (w : World) (p : ℕ) (q after : Process) (is : numbered w.processes p ≡ Some q) (able_is : q.state ≡ able) (r : Reference) (c : Option (EventState → EventState)) (ws ps : List ℕ)
    (freed : (k : ℕ) → IsListed ps k → WaitsAt w r k) (also : (k : ℕ) → IsListed ps k → Awaits ((process_at w k).state) r → IsListed ws k) where
  abbrev thin : World
  thin = all_withdrawn (change_event w r c) r ws

  -- the world in which the event has changed so, those wait for no other event, these are released, and the process has acted
  abbrev pub happened : World
  happened = with_process (set_all_able thin ps) p after

  state_thin : (k : ℕ) → (process_at thin k).state ≡ (process_at w k).state
  state_thin k = all_withdrawn_state (change_event w r c) r ws k ∙ ap (λ qs. (or_no_process (numbered qs k)).state) (changed_processes w r c)

  -- who is not released still waits
  pub still_waits : (k : ℕ) → ((process_at w k).state ≡ able → ⊥) → (IsListed ps k → ⊥) → (process_at happened k).state ≡ (process_at w k).state
  still_waits k other n = by (set_or (set_all_able thin ps).processes p k after)
    where
      able_at : p ≡ k → (process_at w k).state ≡ able
      able_at g = ap (λ j. (process_at w j).state) (sym g) ∙ (ap (λ o. (or_no_process o).state) is ∙ able_is)

      by : (numbered (set_numbered (set_all_able thin ps).processes p after) k ≡ numbered (set_all_able thin ps).processes k)
          ⊎ ((p ≡ k) × (numbered (set_numbered (set_all_able thin ps).processes p after) k ≡ Some after)) →
          (process_at happened k).state ≡ (process_at w k).state
      by (◌⊎◌.inl h) = ap (λ o. (or_no_process o).state) h ∙ state_kept thin ps k ((process_at w k).state) (state_thin k) n
      by (◌⊎◌.inr h) = absurd (other (able_at h.0))

  pub still_awaits : (k : ℕ) (s : Reference) → Awaits ((process_at w k).state) s → (IsListed ps k → ⊥) → Awaits ((process_at happened k).state) s
  still_awaits k s m n = subst (λ t. Awaits t s) (sym (still_waits k (awaits_able ((process_at w k).state) s m) n)) m

  pub still_procures : (k : ℕ) (s : Reference) → (process_at w k).state ≡ procures s → (IsListed ps k → ⊥) → (process_at happened k).state ≡ procures s
  still_procures k s f n = still_waits k (λ e. procures_able s (sym f ∙ e)) n ∙ f

  -- the events
  abbrev leaves : Reference → ℕ → Bool
  leaves s k = has_in_list (change_event w r c) s k

  leaves_so : (s : Reference) (k : ℕ) → reference_is_among (list_in (process_at w k).state) s ≡ true → leaves s k ≡ true
  leaves_so s k e = ap (λ qs. reference_is_among (list_in (or_no_process (numbered qs k)).state) s) (changed_processes w r c) ∙ e

  event_then : (s : Reference) → event_at happened s ≡ thinned (leaves s) ws (event_at (change_event w r c) s)
  event_then s =
      ap (λ xs. event_in (cell_in ((or_no_instance (numbered xs s.instance)).cells) s.name)) (able_instances thin ps) ∙ withdrawn_event (change_event w r c) r s ws

  -- another event's list
  elsewhere : (s : Reference) → (r ≡ s → ⊥) → WaitersAreListed w s (event_at w s) → WaitersAreListed happened s (thinned (leaves s) ws (event_at w s))
  elsewhere s other l =
      record {
        waiters = λ k n.
            let m = l.waiters k ((thinner (leaves s) ws (event_at w s)).waiters k n) in still_awaits k s m (λ i. waiting k n m i (freed k i));
        procurers = λ k n.
            let m = l.procurers k (subst (λ xs. IsListed xs k) ((thinner (leaves s) ws (event_at w s)).procurers) n) in
            still_procures k s m (λ i. procuring k m (freed k i));
        once = subst (λ xs. AreOnce xs) (sym ((thinner (leaves s) ws (event_at w s)).procurers)) l.once;
        once_waiting = (thinner (leaves s) ws (event_at w s)).once l.once_waiting;
      }
    where
      -- who waits there and is freed has the event in its list, and has left it
      waiting : (k : ℕ) → IsListed (thinned (leaves s) ws (event_at w s)).waiters k → Awaits ((process_at w k).state) s → IsListed ps k → WaitsAt w r k → ⊥
      waiting k n m i (◌⊎◌.inl a) =
          gone (leaves s) ws (event_at w s) k (also k i a) (leaves_so s k (awaits_two ((process_at w k).state) r s other a m)) n
      waiting k n m i (◌⊎◌.inr g) = awaits_procures ((process_at w k).state) s r m g

      procuring : (k : ℕ) → (process_at w k).state ≡ procures s → WaitsAt w r k → ⊥
      procuring k f (◌⊎◌.inl n) = awaits_procures ((process_at w k).state) r s n f
      procuring k f (◌⊎◌.inr g) = other (procures_same r s (sym g ∙ f))

  pub listed_then : WaitersAreListed happened r (after_change c (event_at w r)) → (s : Reference) (d : EventState) →
      ((e : EventState) → cell_at w s ≡ event e → WaitersAreListed w s e) → cell_at happened s ≡ event d → WaitersAreListed happened s d
  listed_then here s d before f = subst (λ x. WaitersAreListed happened s x) (sym is_it) (by (references r s))
    where
      is_it : d ≡ thinned (leaves s) ws (event_at (change_event w r c) s)
      is_it = ap (λ (x : Cell). event_in x) (sym f) ∙ event_then s

      nobody : WaitersAreListed happened r (event_in (cell_in [] []))
      nobody = record { waiters = λ k n. absurd n; procurers = λ k n. absurd n; once = tt; once_waiting = tt }

      at_r : (event_at (change_event w r c) r ≡ after_change c (event_at w r)) ⊎ (event_at (change_event w r c) r ≡ event_in (cell_in [] [])) →
          WaitersAreListed happened r (thinned (leaves r) ws (event_at (change_event w r c) r))
      at_r (◌⊎◌.inl g) = thinned_listed happened r (leaves r) ws (event_at (change_event w r c) r) (subst (λ x. WaitersAreListed happened r x) (sym g) here)
      at_r (◌⊎◌.inr g) = thinned_listed happened r (leaves r) ws (event_at (change_event w r c) r) (subst (λ x. WaitersAreListed happened r x) (sym g) nobody)

      by : (r ≡ s) ⊎ (r ≡ s → ⊥) → WaitersAreListed happened s (thinned (leaves s) ws (event_at (change_event w r c) s))
      by (◌⊎◌.inl g) =
          subst (λ t. WaitersAreListed happened t (thinned (leaves t) ws (event_at (change_event w r c) t))) g (at_r (changed_event w r c))
      by (◌⊎◌.inr g) =
          subst (λ x. WaitersAreListed happened s (thinned (leaves s) ws x)) (sym (changed_apart w r s c g)) (elsewhere s g (now_listed w s before))
