-- What a release leaves as it is, and what becomes of those whom it frees.
use Rattle.std.proofs.Common.{◌≡◌, ◌⊎◌, refl, sym, ap, subst, ◌∙◌, ℕ, zero, suc, List, [], ◌∷◌, ◌++◌, Option, Some, None, Bool, true, false}
use Rattle.std.specs.Prelude.{slice_get, slice_set, if◌then◌else◌, ◌||◌, ◌==◌}
use Rattle.std.proofs.lemmas.List.{append-nil}
use Rattle.b67_list.specs.Numbered.{numbered, set_numbered}
use Rattle.b67_list.proofs.Numbered.{numbered_set}
use Rattle.b67_list.proofs.Numbers.{number_other, same_number}
use Rattle.b67_list.proofs.Truths.{false_true}
use Rattle.b67_deeds.specs.declared.EventAct.TheVariants as act
use Rattle.b67_deeds.specs.declared.EventTest.TheVariants as test
use Rattle.b67_deeds.specs.Events.{EventState, left_by}
use Rattle.b67_deeds.specs.Deeds.{EventDeed, acts, tests, Deed, deed}
use Rattle.algol_meaning.specs.Value.{Reference, event}
use Rattle.algol_meaning.specs.World.{Instance, able, Process, World, or_no_process, process_at, set_able, set_all_able}
use Rattle.algol_meaning.specs.Critical.{process_is_one_of}
use Rattle.algol_meaning.specs.Events.{event_at, change_event, same_reference, first_that, reference_is_among, joined_all, list_in, forgotten, told_number, woken_by, withdrawn, all_withdrawn, released}
use Rattle.algol_meaning.proofs.Cited.{joined_processes}
use Rattle.algol_laws.specs.Kept.{InstanceKept, nobody, woken_of, ProcessKept, WorldKept, IsNoneOf, changed_cells, lists_of, stored_by_release}
use Rattle.algol_laws.proofs.Cells.{numbered_other}
use Rattle.algol_laws.proofs.Keeping.{instance_stays, instance_after, cell_set}

-- ---- which processes

-- those who wait for no other event either are among those who are freed
pub withdrawn_freed : (x : EventDeed) (p : ℕ) (e : EventState) → ((deed x p e).withdraws ≡ (deed x p e).frees) ⊎ ((deed x p e).withdraws ≡ [])
withdrawn_freed (acts act.Cause) p e = ◌⊎◌.inl refl
withdrawn_freed (acts act.CauseAndReset) p e = ◌⊎◌.inl refl
withdrawn_freed (acts act.Reset) p e = ◌⊎◌.inr refl
withdrawn_freed (acts act.Wait) p e = ◌⊎◌.inr refl
withdrawn_freed (acts act.Procure) p e = ◌⊎◌.inr refl
withdrawn_freed (acts act.Liberate) p e = ◌⊎◌.inr refl
withdrawn_freed (tests test.Happened) p e = ◌⊎◌.inr refl
withdrawn_freed (tests test.Available) p e = ◌⊎◌.inr refl
withdrawn_freed (tests test.Fix) p e = ◌⊎◌.inr refl
withdrawn_freed (tests test.WaitAny) p e = ◌⊎◌.inr refl

-- ---- the processes after each step

pub changed_processes : (w : World) (r : Reference) (c : Option (EventState → EventState)) → (change_event w r c).processes ≡ w.processes
changed_processes w r None = refl
changed_processes w r (Some change) = refl

pub forgotten_processes : (w : World) (p : ℕ) (rs : List Reference) → (forgotten w p rs).processes ≡ w.processes
forgotten_processes w p [] = refl
forgotten_processes w p (r ∷ rs) = forgotten_processes (change_event w r (Some (left_by p))) p rs

-- one process is another
set_by : (qs : List Process) (i j : ℕ) (q r : Process) → numbered qs j ≡ Some q → (b : Bool) → (i == j) ≡ b → numbered (set_numbered qs i r) j ≡ Some (if b then r else q)
set_by qs i j q r e true f =
    let same : i ≡ j = same_number i j f in
    subst (λ k. numbered (set_numbered qs k r) j ≡ Some r) (sym same) (numbered_set qs j q r e)
set_by qs i j q r e false f = numbered_other qs i j r (number_other i j f) ∙ e

here_it_is : (w : World) (i j : ℕ) (q : Process) → numbered w.processes j ≡ Some q → (i == j) ≡ true → process_at w i ≡ q
here_it_is w i j q e f = ap (λ k. or_no_process (numbered w.processes k)) (same_number i j f) ∙ ap or_no_process e

pub withdrawn_process : (w : World) (r : Reference) (i j : ℕ) (q : Process) → numbered w.processes j ≡ Some q →
    numbered (withdrawn w r i).processes j ≡ Some (record q { woken = if i == j then woken_by r q else q.woken })
withdrawn_process w r i j q e =
    subst (λ qs. numbered (set_numbered qs i next) j ≡ Some (record q { woken = if i == j then woken_by r q else q.woken }))
    (sym (forgotten_processes w i (list_in (process_at w i).state))) (by (i == j) refl)
  where
    next : Process
    next = record (process_at w i) { woken = woken_by r (process_at w i) }

    by : (b : Bool) → (i == j) ≡ b → numbered (set_numbered w.processes i next) j ≡ Some (record q { woken = if b then woken_by r q else q.woken })
    by true f =
        set_by w.processes i j q next e true f
        ∙ ap (λ (z : Process). Some (record z { woken = woken_by r z })) (here_it_is w i j q e f)
    by false f = set_by w.processes i j q next e false f

told_twice : (o : Option ℕ) (n : ℕ) → told_number o (told_number o n) ≡ told_number o n
told_twice None n = refl
told_twice (Some m) n = refl

pub all_withdrawn_process : (w : World) (r : Reference) (ps : List ℕ) (j : ℕ) (q : Process) → numbered w.processes j ≡ Some q →
    numbered (all_withdrawn w r ps).processes j ≡ Some (record q { woken = woken_of r ps j q })
all_withdrawn_process w r [] j q e = e
all_withdrawn_process w r (i ∷ ps) j q e =
    all_withdrawn_process (withdrawn w r i) r ps j (record q { woken = if i == j then woken_by r q else q.woken }) (withdrawn_process w r i j q e)
    ∙ ap (λ n. Some (record q { woken = n })) (by (i == j) (process_is_one_of ps j))
  where
    by : (b c : Bool) →
        (if c then woken_by r (record q { woken = if b then woken_by r q else q.woken }) else (if b then woken_by r q else q.woken))
        ≡ (if b || c then woken_by r q else q.woken)
    by true true = told_twice (first_that (λ s. same_reference s r) 1 (list_in q.state)) q.woken
    by true false = refl
    by false true = refl
    by false false = refl

pub able_process : (w : World) (ps : List ℕ) (j : ℕ) (q : Process) → numbered w.processes j ≡ Some q →
    numbered (set_all_able w ps).processes j ≡ Some (record q { state = if process_is_one_of ps j then able else q.state })
able_process w [] j q e = e
able_process w (i ∷ ps) j q e =
    able_process (set_able w i) ps j (record q { state = if i == j then able else q.state }) (one (i == j) refl)
    ∙ ap (λ s. Some (record q { state = s })) (by (i == j) (process_is_one_of ps j))
  where
    next : Process
    next = record (process_at w i) { state = able }

    one : (b : Bool) → (i == j) ≡ b → numbered (set_numbered w.processes i next) j ≡ Some (record q { state = if b then able else q.state })
    one true f =
        set_by w.processes i j q next e true f ∙ ap (λ (z : Process). Some (record z { state = able })) (here_it_is w i j q e f)
    one false f = set_by w.processes i j q next e false f

    by : (b c : Bool) → (if c then able else (if b then able else q.state)) ≡ (if b || c then able else q.state)
    by true true = refl
    by true false = refl
    by false true = refl
    by false false = refl

pub released_process : (w : World) (r : Reference) (d : Deed) (j : ℕ) (q : Process) → numbered w.processes j ≡ Some q →
    numbered (released w r d).world.processes j
    ≡ Some (record q { state = if process_is_one_of d.frees j then able else q.state; woken = woken_of r d.withdraws j q })
released_process w r d j q e =
    able_process (all_withdrawn (change_event w r d.change) r d.withdraws) d.frees j (record q { woken = woken_of r d.withdraws j q })
    (all_withdrawn_process (change_event w r d.change) r d.withdraws j q (ap (λ qs. numbered qs j) (changed_processes w r d.change) ∙ e))

-- ---- states stay until who is freed is able

put_state : (qs : List Process) (k j : ℕ) (x : Process) → x.state ≡ (or_no_process (slice_get qs k)).state →
    (or_no_process (slice_get (slice_set qs k x) j)).state ≡ (or_no_process (slice_get qs j)).state
put_state [] k j x e = refl
put_state (q ∷ qs) zero zero x e = e
put_state (q ∷ qs) zero (suc j) x e = refl
put_state (q ∷ qs) (suc k) zero x e = refl
put_state (q ∷ qs) (suc k) (suc j) x e = put_state qs k j x e

set_state : (qs : List Process) (k j : ℕ) (x : Process) → x.state ≡ (or_no_process (numbered qs k)).state →
    (or_no_process (numbered (set_numbered qs k x) j)).state ≡ (or_no_process (numbered qs j)).state
set_state qs zero j x e = refl
set_state qs (suc k) zero x e = refl
set_state qs (suc k) (suc j) x e = put_state qs k j x e

pub withdrawn_state : (w : World) (r : Reference) (i j : ℕ) → (process_at (withdrawn w r i) j).state ≡ (process_at w j).state
withdrawn_state w r i j =
    subst (λ qs. (or_no_process (numbered (set_numbered qs i next) j)).state ≡ (process_at w j).state) (sym (forgotten_processes w i (list_in (process_at w i).state)))
    (set_state w.processes i j next refl)
  where
    next : Process
    next = record (process_at w i) { woken = woken_by r (process_at w i) }

pub all_withdrawn_state : (w : World) (r : Reference) (ps : List ℕ) (j : ℕ) → (process_at (all_withdrawn w r ps) j).state ≡ (process_at w j).state
all_withdrawn_state w r [] j = refl
all_withdrawn_state w r (i ∷ ps) j = all_withdrawn_state (withdrawn w r i) r ps j ∙ withdrawn_state w r i j

pub lists_withdrawn : (w : World) (r : Reference) (i : ℕ) (ps : List ℕ) → lists_of (withdrawn w r i).processes ps ≡ lists_of w.processes ps
lists_withdrawn w r i [] = refl
lists_withdrawn w r i (k ∷ ps) =
    ap (λ s. list_in s ++ lists_of (withdrawn w r i).processes ps) (withdrawn_state w r i k)
    ∙ ap (λ rs. list_in (process_at w k).state ++ rs) (lists_withdrawn w r i ps)

-- ---- the instances, and what is written

pub able_instances : (w : World) (ps : List ℕ) → (set_all_able w ps).instances ≡ w.instances
able_instances w [] = refl
able_instances w (p ∷ ps) = able_instances (set_able w p) ps

abbrev InstancesKept : List Reference → World → World → Type 0
InstancesKept s w v = (i : ℕ) (x : Instance) → numbered w.instances i ≡ Some x → (y : Instance) × (numbered v.instances i ≡ Some y) × InstanceKept s i x y

instances_then : (s : List Reference) (a b c : World) → InstancesKept s a b → InstancesKept s b c → InstancesKept s a c
instances_then s a b c f g i x e = let m = f i x e in let n = g i m.0 m.1 in (n.0, n.1, instance_after s i x m.0 n.0 m.2 n.2)

-- more is stored
stores_more : (s t : List Reference) (a b : World) → ((r : Reference) → IsNoneOf t r → IsNoneOf s r) → InstancesKept s a b → InstancesKept t a b
stores_more s t a b f g i x e =
    let m = g i x e in
    (m.0, m.1, record { grown = m.2.grown; values = λ n h d. m.2.values n h (f (record { instance = i; name = n }) d) })

none_front : (s t : List Reference) (r : Reference) → IsNoneOf (s ++ t) r → IsNoneOf s r
none_front [] t r n = tt
none_front (x ∷ s) t r n = (n.0, none_front s t r n.1)

none_back : (s t : List Reference) (r : Reference) → IsNoneOf (s ++ t) r → IsNoneOf t r
none_back [] t r n = n
none_back (x ∷ s) t r n = none_back s t r n.1

both_kept : (s t : List Reference) (a b c : World) → InstancesKept s a b → InstancesKept t b c → InstancesKept (s ++ t) a c
both_kept s t a b c f g =
    instances_then (s ++ t) a b c (stores_more s (s ++ t) a b (none_front s t) f) (stores_more t (s ++ t) b c (none_back s t) g)

set_kept : (w : World) (r : Reference) (e : EventState) → InstancesKept (r ∷ []) w (change_event w r (Some (λ d. e)))
set_kept w r e = (cell_set 0 w r (event e)).instances

change_kept : (w : World) (r : Reference) (c : Option (EventState → EventState)) → InstancesKept (changed_cells c r) w (change_event w r c)
change_kept w r None = λ i x e. (x, e, instance_stays [] i x)
change_kept w r (Some change) = set_kept w r (change (event_at w r))

forgotten_kept : (w : World) (p : ℕ) (rs : List Reference) → InstancesKept rs w (forgotten w p rs)
forgotten_kept w p [] = λ i x e. (x, e, instance_stays [] i x)
forgotten_kept w p (r ∷ rs) =
    let next = change_event w r (Some (left_by p)) in
    both_kept (r ∷ []) rs w next (forgotten next p rs) (change_kept w r (Some (left_by p))) (forgotten_kept next p rs)

all_withdrawn_kept : (w : World) (r : Reference) (ps : List ℕ) → InstancesKept (lists_of w.processes ps) w (all_withdrawn w r ps)
all_withdrawn_kept w r [] = λ i x e. (x, e, instance_stays [] i x)
all_withdrawn_kept w r (p ∷ ps) =
    both_kept (list_in (process_at w p).state) (lists_of w.processes ps) w (withdrawn w r p) (all_withdrawn (withdrawn w r p) r ps)
    (forgotten_kept w p (list_in (process_at w p).state))
    (subst (λ rs. InstancesKept rs (withdrawn w r p) (all_withdrawn (withdrawn w r p) r ps)) (lists_withdrawn w r p ps) (all_withdrawn_kept (withdrawn w r p) r ps))

released_kept : (w : World) (r : Reference) (d : Deed) → InstancesKept (stored_by_release w r d) w (released w r d).world
released_kept w r d =
    subst (λ xs. InstancesKept (stored_by_release w r d) w (record (released w r d).world { instances = xs })) (sym (able_instances over d.frees))
    (both_kept (changed_cells d.change r) (lists_of w.processes d.withdraws) w next over (change_kept w r d.change)
    (subst (λ qs. InstancesKept (lists_of qs d.withdraws) next over) (changed_processes w r d.change) (all_withdrawn_kept next r d.withdraws)))
  where
    next : World
    next = change_event w r d.change

    over : World
    over = all_withdrawn next r d.withdraws

joined_kept : (w : World) (p : ℕ) (seen rs : List Reference) → InstancesKept rs w (joined_all w p seen rs)
joined_kept w p seen [] = λ i x e. (x, e, instance_stays [] i x)
joined_kept w p seen (r ∷ rs) = by (reference_is_among seen r) (joined_kept w p (r ∷ seen) rs) (joined_kept next p (r ∷ seen) rs)
  where
    next : World
    next = change_event w r (deed (tests test.WaitAny) p (event_at w r)).change

    by : (b : Bool) → InstancesKept rs w (joined_all w p (r ∷ seen) rs) → InstancesKept rs next (joined_all next p (r ∷ seen) rs) →
        InstancesKept (r ∷ rs) w (if b then joined_all w p (r ∷ seen) rs else (joined_all next p (r ∷ seen) rs))
    by true f g = stores_more rs (r ∷ rs) w (joined_all w p (r ∷ seen) rs) (λ t n. n.1) f
    by false f g =
        both_kept (r ∷ []) rs w next (joined_all next p (r ∷ seen) rs) (change_kept w r (deed (tests test.WaitAny) p (event_at w r)).change) g

changed_output : (w : World) (r : Reference) (c : Option (EventState → EventState)) → (change_event w r c).output ≡ w.output
changed_output w r None = refl
changed_output w r (Some change) = refl

forgotten_output : (w : World) (p : ℕ) (rs : List Reference) → (forgotten w p rs).output ≡ w.output
forgotten_output w p [] = refl
forgotten_output w p (r ∷ rs) = forgotten_output (change_event w r (Some (left_by p))) p rs

withdrawn_output : (w : World) (r : Reference) (ps : List ℕ) → (all_withdrawn w r ps).output ≡ w.output
withdrawn_output w r [] = refl
withdrawn_output w r (p ∷ ps) = withdrawn_output (withdrawn w r p) r ps ∙ forgotten_output w p (list_in (process_at w p).state)

able_output : (w : World) (ps : List ℕ) → (set_all_able w ps).output ≡ w.output
able_output w [] = refl
able_output w (p ∷ ps) = able_output (set_able w p) ps

joined_output : (w : World) (p : ℕ) (seen rs : List Reference) → (joined_all w p seen rs).output ≡ w.output
joined_output w p seen [] = refl
joined_output w p seen (r ∷ rs) = by (reference_is_among seen r) (joined_output w p (r ∷ seen) rs) (joined_output next p (r ∷ seen) rs)
  where
    next : World
    next = change_event w r (deed (tests test.WaitAny) p (event_at w r)).change

    by : (b : Bool) → (joined_all w p (r ∷ seen) rs).output ≡ w.output → (joined_all next p (r ∷ seen) rs).output ≡ w.output →
        (if b then joined_all w p (r ∷ seen) rs else (joined_all next p (r ∷ seen) rs)).output ≡ w.output
    by true f g = f
    by false f g = g

-- ---- all of it

freed_kept : (p : ℕ) (frees withdraws : List ℕ) (r : Reference) → ((k : ℕ) → process_is_one_of withdraws k ≡ true → process_is_one_of frees k ≡ true) → (j : ℕ) (q : Process) →
    ProcessKept p (record { processes = frees; woken = woken_of r withdraws }) j q
    (record q { state = if process_is_one_of frees j then able else q.state; woken = woken_of r withdraws j q })
freed_kept p frees withdraws r among j q =
    record {
      grown = record { critical = refl; task = refl };
      freed = λ d e. (refl, ap (λ b. if b then able else q.state) e, refl);
      other = λ d e. other e (process_is_one_of withdraws j) refl;
    }
  where
    other : process_is_one_of frees j ≡ false → (b : Bool) → process_is_one_of withdraws j ≡ b →
        record q { state = if process_is_one_of frees j then able else q.state; woken = if b then woken_by r q else q.woken } ≡ q
    other e true f = absurd (false_true (process_is_one_of frees j) e (among j f))
    other e false f = ap (λ b. record q { state = if b then able else q.state }) e

pub release_keeps : (p : ℕ) (w : World) (r : Reference) (d : Deed) → ((k : ℕ) → process_is_one_of d.withdraws k ≡ true → process_is_one_of d.frees k ≡ true) →
    WorldKept p (record { processes = d.frees; woken = woken_of r d.withdraws }) (stored_by_release w r d) w (released w r d).world
release_keeps p w r d among =
    record {
      instances = released_kept w r d;
      processes = λ j q e. (
        record q { state = if process_is_one_of d.frees j then able else q.state; woken = woken_of r d.withdraws j q },
        released_process w r d j q e,
        freed_kept p d.frees d.withdraws r among j q,
      );
      output = (
        [],
        able_output (all_withdrawn (change_event w r d.change) r d.withdraws) d.frees
            ∙ (withdrawn_output (change_event w r d.change) r d.withdraws ∙ (changed_output w r d.change ∙ sym (append-nil w.output))),
      );
    }

pub deed_keeps : (p : ℕ) (w : World) (r : Reference) (x : EventDeed) (e : EventState) →
    WorldKept p (record { processes = (deed x p e).frees; woken = woken_of r (deed x p e).withdraws }) (stored_by_release w r (deed x p e)) w
    (released w r (deed x p e)).world
deed_keeps p w r x e = release_keeps p w r (deed x p e) (by (withdrawn_freed x p e))
  where
    by : ((deed x p e).withdraws ≡ (deed x p e).frees) ⊎ ((deed x p e).withdraws ≡ []) → (k : ℕ) → process_is_one_of (deed x p e).withdraws k ≡ true →
        process_is_one_of (deed x p e).frees k ≡ true
    by (◌⊎◌.inl f) k n = subst (λ ps. process_is_one_of ps k ≡ true) f n
    by (◌⊎◌.inr f) k n = let no : false ≡ true = ap (λ ps. process_is_one_of ps k) (sym f) ∙ n in cc

-- who waits for several events joins those who wait for each
pub joins_keep : (p : ℕ) (w : World) (rs : List Reference) → WorldKept p nobody rs w (joined_all w p [] rs)
joins_keep p w rs =
    record {
      instances = joined_kept w p [] rs;
      processes = λ j q e. (
        q,
        ap (λ qs. numbered qs j) (joined_processes w p [] rs) ∙ e,
        record { grown = record { critical = refl; task = refl }; freed = λ d f. cc; other = λ d f. refl },
      );
      output = ([], joined_output w p [] rs ∙ sym (append-nil w.output));
    }
