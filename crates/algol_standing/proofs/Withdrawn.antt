-- Processes that wait for no other event either: what becomes of the events in their lists, and of the processes.
use Rattle.std.proofs.Common.{◌≡◌, ◌⊎◌, ℕ, ◌≤◌, List, [], ◌∷◌, length, Option, None, Some, Bool, true, false, refl, sym, ap, ◌∙◌, subst, arith}
use Rattle.std.specs.Prelude.{if◌then◌else◌, ◌==◌, ◌+◌, not, filter}
use Rattle.b67_list.specs.Numbered.{numbered, set_numbered}
use Rattle.b67_list.proofs.Numbers.{number_itself, same_number}
use Rattle.b67_list.proofs.Truths.{false_true}
use Rattle.b67_limits.specs.declared.TheConstants.{MOST_EVENTS}
use Rattle.b67_deeds.specs.Events.{EventState, left_by}
use Rattle.b67_deeds.specs.Listed.{IsListed, AreOnce}
use Rattle.algol_meaning.specs.Value.{Reference, Cell}
use Rattle.algol_meaning.specs.World.{Process, or_no_process, process_at, event_in, World}
use Rattle.algol_meaning.specs.Events.{event_at, change_event, same_reference, first_that, reference_is_among, list_in, forgotten, told_number, woken_by, withdrawn, all_withdrawn}
use Rattle.algol_laws.proofs.Releasing.{forgotten_processes, withdrawn_state}
use Rattle.algol_standing.specs.Worlds.{WaitersAreListed, IsFew}
use Rattle.algol_standing.proofs.Pairs.{AllPairs, numbered_forth, pairs_self, pairs_then, pairs_then_set}
use Rattle.algol_standing.proofs.Alike.{InstanceAlike, instance_self, instance_then}
use Rattle.algol_standing.proofs.Unmoved.{Unmoved}
use Rattle.algol_standing.proofs.Changed.{changed_alike}
use Rattle.algol_standing.proofs.EventCells.{same_is, same_or_not, not_same, among_first, among_more, cell_apart, event_changes}

-- ---- one leaves a list of processes

module _ (k : ℕ) where
  abbrev leave_list : List ℕ → List ℕ
  leave_list xs = filter (λ p. not (k == p)) xs

  pub stays_listed : (xs : List ℕ) (j : ℕ) → IsListed (leave_list xs) j → IsListed xs j
  stays_listed [] j n = n
  stays_listed (x ∷ xs) j n = by (k == x) n (stays_listed xs j)
    where
      by : (b : Bool) → IsListed (if not b then x ∷ leave_list xs else leave_list xs) j → (IsListed (leave_list xs) j → IsListed xs j) → IsListed (x ∷ xs) j
      by true m f = ◌⊎◌.inr (f m)
      by false (◌⊎◌.inl e) f = ◌⊎◌.inl e
      by false (◌⊎◌.inr m) f = ◌⊎◌.inr (f m)

  pub leaves_it : (xs : List ℕ) → IsListed (leave_list xs) k → ⊥
  leaves_it [] n = n
  leaves_it (x ∷ xs) n = by (k == x) refl n (leaves_it xs)
    where
      by : (b : Bool) → (k == x) ≡ b → IsListed (if not b then x ∷ leave_list xs else leave_list xs) k → (IsListed (leave_list xs) k → ⊥) → ⊥
      by true e m f = f m
      by false e (◌⊎◌.inl g) f = false_true (k == x) e (subst (λ y. (k == y) ≡ true) (sym g) (number_itself k))
      by false e (◌⊎◌.inr m) f = f m

  pub once_left : (xs : List ℕ) → AreOnce xs → AreOnce (leave_list xs)
  once_left [] o = o
  once_left (x ∷ xs) o = by (k == x) (once_left xs o.1)
    where
      by : (b : Bool) → AreOnce (leave_list xs) → AreOnce (if not b then x ∷ leave_list xs else leave_list xs)
      by true f = f
      by false f = (λ n. o.0 (stays_listed xs x n), f)

  -- who does not stand there leaves nothing
  pub nothing_leaves : (xs : List ℕ) → (IsListed xs k → ⊥) → leave_list xs ≡ xs
  nothing_leaves [] n = refl
  nothing_leaves (x ∷ xs) n = by (k == x) refl (nothing_leaves xs (λ m. n (◌⊎◌.inr m)))
    where
      by : (b : Bool) → (k == x) ≡ b → leave_list xs ≡ xs → (if not b then x ∷ leave_list xs else leave_list xs) ≡ x ∷ xs
      by true e f = absurd (n (◌⊎◌.inl (sym (same_number k x e))))
      by false e f = ap (λ ys. x ∷ ys) f

  pub left_twice : (e : EventState) → left_by k (left_by k e) ≡ left_by k e
  left_twice e = ap (λ xs. record e { waiters = xs }) (nothing_leaves (leave_list e.waiters) (leaves_it e.waiters))

-- ---- those of some leave who have the event in their lists

abbrev pub thinned : (ℕ → Bool) → List ℕ → EventState → EventState
thinned leaves [] e = e
thinned leaves (k ∷ ps) e = thinned leaves ps (if leaves k then left_by k e else e)

thinned_alike : (f g : ℕ → Bool) (ps : List ℕ) (e : EventState) → ((k : ℕ) → f k ≡ g k) → thinned f ps e ≡ thinned g ps e
thinned_alike f g [] e same = refl
thinned_alike f g (k ∷ ps) e same =
    ap (λ b. thinned f ps (if b then left_by k e else e)) (same k) ∙ thinned_alike f g ps (if g k then left_by k e else e) same

pub record Thinner (e d : EventState) : Type 0 where
  pub waiters : (k : ℕ) → IsListed d.waiters k → IsListed e.waiters k
  pub procurers : d.procurers ≡ e.procurers
  pub once : AreOnce e.waiters → AreOnce d.waiters

thinner_then : (a b c : EventState) → Thinner a b → Thinner b c → Thinner a c
thinner_then a b c f g =
    record { waiters = λ k n. f.waiters k (g.waiters k n); procurers = g.procurers ∙ f.procurers; once = λ o. g.once (f.once o) }

one_thinner : (b : Bool) (k : ℕ) (e : EventState) → Thinner e (if b then left_by k e else e)
one_thinner true k e = record { waiters = λ j n. stays_listed k e.waiters j n; procurers = refl; once = λ o. once_left k e.waiters o }
one_thinner false k e = record { waiters = λ j n. n; procurers = refl; once = λ o. o }

pub thinner : (leaves : ℕ → Bool) (ps : List ℕ) (e : EventState) → Thinner e (thinned leaves ps e)
thinner leaves [] e = one_thinner false 0 e
thinner leaves (k ∷ ps) e =
    thinner_then e (if leaves k then left_by k e else e) (thinned leaves (k ∷ ps) e) (one_thinner (leaves k) k e) (thinner leaves ps (if leaves k then left_by k e else e))

-- who has the event in its list is gone
pub gone : (leaves : ℕ → Bool) (ps : List ℕ) (e : EventState) (k : ℕ) → IsListed ps k → leaves k ≡ true → IsListed (thinned leaves ps e).waiters k → ⊥
gone leaves [] e k n f m = n
gone leaves (j ∷ ps) e k (◌⊎◌.inl same) f m =
    leaves_it k e.waiters
    (subst (λ b. IsListed (if b then left_by k e else e).waiters k) f
    (subst (λ i. IsListed (if leaves i then left_by i e else e).waiters k) same ((thinner leaves ps (if leaves j then left_by j e else e)).waiters k m)))
gone leaves (j ∷ ps) e k (◌⊎◌.inr n) f m = gone leaves ps (if leaves j then left_by j e else e) k n f m

pub thinned_listed : (v : World) (s : Reference) (leaves : ℕ → Bool) (ps : List ℕ) (e : EventState) → WaitersAreListed v s e → WaitersAreListed v s (thinned leaves ps e)
thinned_listed v s leaves ps e l =
    let t = thinner leaves ps e in
    record {
      waiters = λ k n. l.waiters k (t.waiters k n);
      procurers = λ k n. l.procurers k (subst (λ xs. IsListed xs k) t.procurers n);
      once = subst (λ xs. AreOnce xs) (sym t.procurers) l.once;
      once_waiting = t.once l.once_waiting;
    }

-- ---- events

module _ (k : ℕ) where
  left_changes : (w : World) (t : Reference) → event_at (change_event w t (Some (left_by k))) t ≡ left_by k (event_at w t)
  left_changes w t = event_changes (left_by k) refl w t

  pub forgotten_event : (w : World) (rs : List Reference) (s : Reference) →
      event_at (forgotten w k rs) s ≡ (if reference_is_among rs s then left_by k (event_at w s) else event_at w s)
  forgotten_event w [] s = refl
  forgotten_event w (t ∷ rs) s = forgotten_event (change_event w t (Some (left_by k))) rs s ∙ by (same_or_not t s)
    where
      v : World
      v = change_event w t (Some (left_by k))

      once : (b : Bool) → (if b then left_by k (left_by k (event_at w s)) else left_by k (event_at w s)) ≡ left_by k (event_at w s)
      once true = left_twice k (event_at w s)
      once false = refl

      by : (same_reference t s ≡ true) ⊎ (same_reference t s ≡ false) →
          (if reference_is_among rs s then left_by k (event_at v s) else event_at v s) ≡ (if reference_is_among (t ∷ rs) s then left_by k (event_at w s) else event_at w s)
      by (◌⊎◌.inl e) =
          ap (λ d. if reference_is_among rs s then left_by k d else d)
          (subst (λ (u : Reference). event_at v u ≡ left_by k (event_at w u)) (same_is t s e) (left_changes w t))
          ∙ (once (reference_is_among rs s) ∙ ap (λ b. if b then left_by k (event_at w s) else event_at w s) (sym (among_first t rs s e)))
      by (◌⊎◌.inr e) =
          ap (λ d. if reference_is_among rs s then left_by k d else d) (ap (λ (c : Cell). event_in c) (cell_apart w t s (left_by k (event_at w t)) (not_same t s e)))
          ∙ ap (λ b. if b then left_by k (event_at w s) else event_at w s) (sym (among_more t rs s e))

-- whether a process has the event in its list
abbrev pub has_in_list : World → Reference → ℕ → Bool
has_in_list w s k = reference_is_among (list_in (process_at w k).state) s

pub withdrawn_event : (w : World) (r s : Reference) (ps : List ℕ) → event_at (all_withdrawn w r ps) s ≡ thinned (has_in_list w s) ps (event_at w s)
withdrawn_event w r s [] = refl
withdrawn_event w r s (k ∷ ps) =
    withdrawn_event (withdrawn w r k) r s ps
    ∙ (thinned_alike (has_in_list (withdrawn w r k) s) (has_in_list w s) ps (event_at (withdrawn w r k) s)
    (λ j. ap (λ t. reference_is_among (list_in t) s) (withdrawn_state w r k j))
    ∙ ap (λ e. thinned (has_in_list w s) ps e) (forgotten_event k w (list_in (process_at w k).state) s))

-- ---- instances and processes

forgotten_instances : (k : ℕ) (w : World) (rs : List Reference) → AllPairs InstanceAlike w.instances (forgotten w k rs).instances
forgotten_instances k w [] = pairs_self InstanceAlike instance_self w.instances
forgotten_instances k w (t ∷ rs) =
    let v = change_event w t (Some (left_by k)) in
    pairs_then InstanceAlike instance_then w.instances v.instances (forgotten v k rs).instances (changed_alike w t (Some (left_by k))) (forgotten_instances k v rs)

pub withdrawn_instances : (w : World) (r : Reference) (ps : List ℕ) → AllPairs InstanceAlike w.instances (all_withdrawn w r ps).instances
withdrawn_instances w r [] = pairs_self InstanceAlike instance_self w.instances
withdrawn_instances w r (k ∷ ps) =
    pairs_then InstanceAlike instance_then w.instances (withdrawn w r k).instances (all_withdrawn (withdrawn w r k) r ps).instances
    (forgotten_instances k w (list_in (process_at w k).state)) (withdrawn_instances (withdrawn w r k) r ps)

-- the place of an event in a list is no more than the list is long
first_small : (test : Reference → Bool) (n m : ℕ) (rs : List Reference) → first_that test n rs ≡ Some m → m + 1 ≤ n + length rs
first_small test n m [] e = cc
first_small test n m (r ∷ rs) e = by (test r) e (λ f. first_small test (n + 1) m rs f)
  where
    same : Some n ≡ Some m → n ≡ m
    same f = cc

    by : (b : Bool) → (if b then Some n else first_that test (n + 1) rs) ≡ Some m → (first_that test (n + 1) rs ≡ Some m → m + 1 ≤ n + 1 + length rs) →
        m + 1 ≤ n + length (r ∷ rs)
    by true f g = let h = same f in omega (arith, h)
    by false f g = let h = g f in omega (arith, h)

pub woken_few : (r : Reference) (q : Process) → IsFew q.woken q.state → IsFew (woken_by r q) q.state
woken_few r q f = (by (first_that (λ s. same_reference s r) 1 (list_in q.state)) refl, f.1)
  where
    by : (o : Option ℕ) → first_that (λ s. same_reference s r) 1 (list_in q.state) ≡ o → told_number o q.woken ≤ MOST_EVENTS
    by None e = f.0
    by (Some n) e = let h = first_small (λ s. same_reference s r) 1 n (list_in q.state) e in let g = f.1 in omega (arith, h, g)

unmoved_woken : (r : Reference) (x y : Process) → Unmoved x y → Unmoved x (record y { woken = woken_by r y })
unmoved_woken r x y f = record { todo = f.todo; critical = f.critical; task = f.task; state = f.state; few = λ h. woken_few r y (f.few h) }

pub withdrawn_unmoved : (w v : World) (r : Reference) (ps : List ℕ) → AllPairs Unmoved w.processes v.processes → AllPairs Unmoved w.processes (all_withdrawn v r ps).processes
withdrawn_unmoved w v r [] m = m
withdrawn_unmoved w v r (k ∷ ps) m = withdrawn_unmoved w (withdrawn v r k) r ps one
  where
    woken : Process
    woken = record (process_at v k) { woken = woken_by r (process_at v k) }

    now : (x : Process) → (y : Process) × (numbered v.processes k ≡ Some y) × Unmoved x y → Unmoved x woken
    now x f =
        subst (λ (z : Process). Unmoved x (record z { woken = woken_by r z })) (sym (ap or_no_process f.1)) (unmoved_woken r x f.0 f.2)

    one : AllPairs Unmoved w.processes (withdrawn v r k).processes
    one =
        subst (λ qs. AllPairs Unmoved w.processes (set_numbered qs k woken)) (sym (forgotten_processes v k (list_in (process_at v k).state)))
        (pairs_then_set Unmoved Unmoved (λ x y f. f) w.processes v.processes k woken m
        (λ x e. now x (numbered_forth Unmoved w.processes v.processes k x m e)))
