-- Actions that change no stack of instances and no event keep what worlds are: reads, stores, places, evaluations of names, lines, loops, choices, arrays and
-- faults.
use Rattle.std.proofs.Common.{arith, ◌≡◌, ◌⊎◌, ℕ, List, [], ◌∷◌, ◌++◌, Option, Some, None, Bool, true, false, refl, sym, ap, ◌∙◌, subst}
use Rattle.std.specs.Prelude.{if◌then◌else◌}
use Rattle.b67_list.specs.Numbered.{numbered, set_numbered}
use Rattle.b67_num.specs.declared.FaultKind.{FaultKind}
use Rattle.b67_num.specs.declared.FaultKind.TheVariants as fault
use Rattle.algol_tree.specs.declared.tree.Kind.{Kind}
use Rattle.algol_tree.specs.declared.tree.Named.{Named}
use Rattle.algol_tree.specs.Scopes.{Scopes}
use Rattle.algol_meaning.specs.Value.{Value, Reference, Bounds, ArrayCell, Cell, simple, event, array, named, reference}
use Rattle.b67_deeds.specs.Events.{EventState, fresh_state}
use Rattle.algol_meaning.specs.Rest.{Place, own, there, element_of, Rest, Answer, done, value, place}
use Rattle.algol_meaning.specs.Settle.{settle_actual_place}
use Rattle.algol_meaning.specs.World.{instance_at, cell_at, set_cell, add_cells, by_cell, followed, value_in, array_in, name_place, Part, Process, able, lives, with_process, World}
use Rattle.algol_meaning.specs.Arrays.{element_at, with_element, new_array, new_arrays, has_wrong_size, has_no_room}
use Rattle.b67_deeds.specs.declared.Letter.TheVariants as actions
use Rattle.b67_deeds.specs.declared.Letter.{Letter}
use Rattle.algol_meaning.specs.Asks as asks
use Rattle.algol_meaning.specs.Asks.{Ask, nothing, ask, resume, located_of}
use Rattle.algol_meaning.specs.Choice.{Choice, is_subscripted, goes, opens, fails, home, here, read_of, resolved_of, indexed_at, element_read_at, stored, made_arrays, made_event}
use Rattle.algol_paths.specs.Blocks.{BlockIsSeen, IsSeenAround, IsInner}
use Rattle.algol_standing.specs.Skeleton.{IsInSkeleton}
use Rattle.algol_standing.specs.Worlds.{held_in_answer, newest_own, stack_of, IsStanding, IsOnPath, IsAwaited, IsFew, WaitersAreListed, IsWholeInstance, IsSound}
use Rattle.algol_standing.proofs.Calls.{IsNoEvent}
use Rattle.algol_standing.proofs.Lists.{some_same}
use Rattle.algol_standing.proofs.Holding.{AreAll, IsForeign}
use Rattle.algol_standing.proofs.Pairs.{AllPairs, pairs_self, pairs_then_set, stack_forth}
use Rattle.algol_standing.proofs.Alike.{InstanceAlike, ProcessAlike, instance_self, process_self, alike_ok}
use Rattle.algol_standing.proofs.Seen.{CellOk, part_ok, home_path, cell_here}
use Rattle.algol_standing.proofs.Unmoved.{Unmoved, unmoved_self}
use Rattle.algol_standing.proofs.Resumed.{Moved, resumed, resumed_ok}
use Rattle.algol_standing.proofs.Changed.{IsPlain, ArePlain, set_alike, add_alike, AreNoEvents, set_event_before, add_event_before, event_before, listed_still}
use Rattle.algol_standing.proofs.Fresh.{simple_plain, simple_no_event}
use Rattle.algol_standing.proofs.Asking.{Sees, Suits, rest_sees}
use Rattle.algol_standing.proofs.Evaluating.{read_enters, place_enters}

array_plain : (a : ArrayCell) → IsPlain (array a)
array_plain a = (λ i n. absurd n, λ m n. absurd n)

array_no_event : (a : ArrayCell) → IsNoEvent (array a)
array_no_event a e f = cc

arrays_plain : (kind : Kind) (bs : List Bounds) (ns : List Named) → ArePlain (new_arrays kind bs ns)
arrays_plain kind bs [] = tt
arrays_plain kind bs (n ∷ ns) = ((λ i n. absurd n, λ m n. absurd n), arrays_plain kind bs ns)

new_no_event : (kind : Kind) (bs : List Bounds) → IsNoEvent (new_array kind bs)
new_no_event kind bs e f = cc

arrays_no_events : (kind : Kind) (bs : List Bounds) (ns : List Named) → AreNoEvents (new_arrays kind bs ns)
arrays_no_events kind bs [] = tt
arrays_no_events kind bs (n ∷ ns) = (new_no_event kind bs, arrays_no_events kind bs ns)

-- nothing of instances and processes changes
pub same_ok : (sc : Scopes) (w v : World) → IsSound sc IsWholeInstance w → v.instances ≡ w.instances → v.processes ≡ w.processes → IsSound sc IsWholeInstance v
same_ok sc w v ok e f =
    alike_ok w v (subst (λ xs. AllPairs InstanceAlike w.instances xs) (sym e) (pairs_self InstanceAlike instance_self w.instances))
    (subst (λ xs. AllPairs ProcessAlike w.processes xs) (sym f) (pairs_self ProcessAlike process_self w.processes)) sc IsWholeInstance
    (λ i h. record { number = h.number; process = h.process; part = h.part; is = ap (λ qs. numbered qs h.number) f ∙ h.is; among = h.among; owns = h.owns; instance_is = h.instance_is; made = h.made })
    ok (λ k q g. ok.processes k q (ap (λ qs. numbered qs k) (sym f) ∙ g))
    (λ k q x g n. ok.skeleton_ok.evaluates k (stack_of q) x (stack_forth w k q (ap (λ qs. numbered qs k) (sym f) ∙ g)) n)
    (λ r x st g. listed r x (ok.listed r x st (cells r x g)))
  where
    cells : (r : Reference) (x : EventState) → cell_at v r ≡ event x → cell_at w r ≡ event x
    cells r x g = subst (λ xs. cell_at (record w { instances = xs }) r ≡ event x) e g

    listed : (r : Reference) (x : EventState) → WaitersAreListed w r x → WaitersAreListed v r x
    listed r x l = subst (λ qs. WaitersAreListed (record w { instances = v.instances; processes = qs; output = v.output; fault = v.fault }) r x) (sym f)
        (record { waiters = l.waiters; procurers = l.procurers; once = l.once; once_waiting = l.once_waiting })

module _ (sc : Scopes) (heads_act : (r : Rest) (a : Answer) → Suits (ask r) a → ask (resume sc r a) ≡ nothing → ⊥) (w : World) (ok : IsSound sc IsWholeInstance w) (p : ℕ) (q : Process) (part : Part) (outer : List Part)
    (is : numbered w.processes p ≡ Some q) (todo : q.todo ≡ part ∷ outer) (able_is : q.state ≡ able) where
  abbrev Held : Cell → Type 0
  Held = CellOk sc IsWholeInstance w ok (newest_own (part ∷ outer))

  pub live : lives q.state ≡ true
  live = ap lives able_is

  pub waits_not : (r : Reference) → IsAwaited q.state r → IsOnPath w (newest_own (part ∷ outer)) r.instance
  waits_not r n = absurd (subst (λ s. IsAwaited s r) able_is n)

  pub its_few : IsFew q.woken q.state
  its_few = (ok.processes p q is).few

  -- ---- the part goes on with an answer

  module _ (woken : ℕ) (few : IsFew woken q.state) (a : Answer) (foreign : IsForeign a) (brings : AreAll Held (held_in_answer a)) (suits : Suits (ask part.rest) a) (after : World)
      (instances : AllPairs InstanceAlike w.instances after.instances) (same : after.processes ≡ w.processes)
      (events : (r : Reference) (e : EventState) → cell_at after r ≡ event e → cell_at w r ≡ event e) where
    pub acts : ask (resume sc part.rest a) ≡ nothing → ⊥
    acts = heads_act part.rest a suits

    abbrev moved : Process
    moved = resumed sc w ok p q part outer is todo live a foreign brings acts q.state live waits_not woken few

    abbrev MovedHere : Process → Process → Type 0
    MovedHere = Moved sc w ok p q part outer is todo live a foreign brings acts q.state live waits_not woken few

    processes : AllPairs MovedHere w.processes (set_numbered after.processes p moved)
    processes =
        subst (λ qs. AllPairs MovedHere w.processes (set_numbered qs p moved)) (sym same)
        (pairs_then_set Unmoved MovedHere (λ x y f. ◌⊎◌.inr f) w.processes w.processes p moved (pairs_self Unmoved unmoved_self w.processes)
        (λ x e. ◌⊎◌.inl (some_same e is, refl)))

    pub goes_ok : IsSound sc IsWholeInstance (with_process after p moved)
    goes_ok =
        resumed_ok sc w ok p q part outer is todo live a foreign brings acts q.state live waits_not woken few (with_process after p moved) instances processes
        (λ r e st f. listed_still w (with_process after p moved) p q moved is able_is (ap (λ qs. set_numbered qs p moved) same) r e (ok.listed r e st (events r e f)))

  -- .. where an event comes to be, for which nobody waits
  module _ (name : List ℕ) (suits : Suits (ask part.rest) done) where
    abbrev made : World
    made = add_cells w part.instance (record { name = name; cell = event fresh_state } ∷ [])

    pub acts_then : ask (resume sc part.rest done) ≡ nothing → ⊥
    acts_then = heads_act part.rest done suits

    abbrev moved_then : Process
    moved_then = resumed sc w ok p q part outer is todo live done tt tt acts_then q.state live waits_not q.woken its_few

    pub event_goes : IsSound sc IsWholeInstance (with_process made p moved_then)
    event_goes =
        resumed_ok sc w ok p q part outer is todo live done tt tt acts_then q.state live waits_not q.woken its_few (with_process made p moved_then)
        (add_alike w part.instance (record { name = name; cell = event fresh_state } ∷ []) ((λ i n. absurd n, λ m n. absurd n), tt))
        (pairs_then_set Unmoved (Moved sc w ok p q part outer is todo live done tt tt acts_then q.state live waits_not q.woken its_few) (λ x y f. ◌⊎◌.inr f) w.processes w.processes p moved_then
        (pairs_self Unmoved unmoved_self w.processes) (λ x e. ◌⊎◌.inl (some_same e is, refl)))
        (λ r e st f. by r e st (event_before w part.instance name fresh_state r e f))
      where
        by : (r : Reference) (e : EventState) → IsStanding w r.instance → (cell_at w r ≡ event e) ⊎ (e ≡ fresh_state) → WaitersAreListed (with_process made p moved_then) r e
        by r e st (◌⊎◌.inl g) = listed_still w (with_process made p moved_then) p q moved_then is able_is refl r e (ok.listed r e st g)
        by r e st (◌⊎◌.inr g) =
            subst (λ d. WaitersAreListed (with_process made p moved_then) r d) (sym g) (record { waiters = λ k n. absurd n; procurers = λ k n. absurd n; once = tt; once_waiting = tt })

  -- .. where no cell changes
  pub same_goes : (a : Answer) → IsForeign a → AreAll Held (held_in_answer a) → Suits (ask part.rest) a → IsSound sc IsWholeInstance (with_process w p (record q { todo = record part { rest = resume sc part.rest a } ∷ outer }))
  same_goes a f b s = goes_ok q.woken its_few a f b s w (pairs_self InstanceAlike instance_self w.instances) refl (λ r e g. g)

  -- who was released goes on by its woken number, and has none then
  pub woken_goes : (v : Value) → Suits (ask part.rest) (value v) →
      IsSound sc IsWholeInstance (with_process w p (record q { todo = record part { rest = resume sc part.rest (value v) } ∷ outer; woken = 0 }))
  woken_goes v s = goes_ok 0 (omega (arith), its_few.1) (value v) tt tt s w (pairs_self InstanceAlike instance_self w.instances) refl (λ r e g. g)

  -- ---- choices

  abbrev pub Keeps : Choice → Type 0
  Keeps c = IsSound sc IsWholeInstance c.world

  pub either : (b : Bool) (c d : Choice) → Keeps c → Keeps d → Keeps (if b then c else d)
  either true c d f g = f
  either false c d f g = g

  pub fails_keeps : (k : FaultKind) → Keeps (fails sc w p q part outer k)
  fails_keeps k = same_ok sc w (fails sc w p q part outer k).world ok refl refl

  abbrev seen : Named → Type 0
  seen n = BlockIsSeen sc ((instance_at w part.instance).block) n

  at_home : (n : Named) → seen n → IsOnPath w (newest_own (part ∷ outer)) (home sc w p q part outer n)
  at_home n s = home_path sc IsWholeInstance w ok p q part outer is todo n s

  -- what a reference leads to lies on the path
  led_path : (n : Named) → seen n → (c : Cell) → Held c → IsOnPath w (newest_own (part ∷ outer)) (by_cell c (here sc w p q part outer n)).instance
  led_path n s (reference r) h = h.0 r.instance (◌⊎◌.inl refl)
  led_path n s (simple v) h = at_home n s
  led_path n s (event e) h = at_home n s
  led_path n s (array a) h = at_home n s
  led_path n s (named c) h = at_home n s

  pub at_followed : (n : Named) → seen n → IsOnPath w (newest_own (part ∷ outer)) (followed w (here sc w p q part outer n)).instance
  at_followed n s = led_path n s (cell_at w (here sc w p q part outer n)) (cell_here sc IsWholeInstance w ok p q part outer is todo n s)

  to_there : (r : Reference) → IsOnPath w (newest_own (part ∷ outer)) r.instance → Held (reference r)
  to_there r l = (by, λ m n. absurd n)
    where
      by : (i : ℕ) → IsInSkeleton (r.instance ∷ []) i → IsOnPath w (newest_own (part ∷ outer)) i
      by i (◌⊎◌.inl e) = subst (λ j. IsOnPath w (newest_own (part ∷ outer)) j) e l
      by i (◌⊎◌.inr n) = absurd n

  module _ (x : Ask) (e : ask part.rest ≡ x) where
    pub sees : Sees seen (IsInner sc ((instance_at w part.instance).block)) x
    sees =
        subst (λ y. Sees seen (IsInner sc ((instance_at w part.instance).block)) y) e
        (rest_sees seen (IsInner sc ((instance_at w part.instance).block)) (IsSeenAround sc ((instance_at w part.instance).block)) (λ n s. s.0) part.rest
        (part_ok sc IsWholeInstance w ok p q part outer is todo).text)

    pub suited : (a : Answer) → Suits x a → Suits (ask part.rest) a
    suited a s = subst (λ y. Suits y a) (sym e) s

    pub value_goes : (action : Letter) (v : Value) → Suits x (value v) → Keeps (goes sc w p q part outer action w (value v))
    value_goes action v s = same_goes (value v) tt tt (suited (value v) s)

    pub done_goes : (action : Letter) → Suits x done → Keeps (goes sc w p q part outer action w done)
    done_goes action s = same_goes done tt tt (suited done s)

  pub read_keeps : (n : Named) → ask part.rest ≡ asks.reads n → (c : Cell) → Held c → Keeps (read_of sc w p q part outer c)
  read_keeps n e (named c) h = read_enters sc w ok p q part outer is todo able_is c h n e
  read_keeps n e (reference r) h = value_goes (asks.reads n) e actions.Read (value_in (cell_at w r)) tt
  read_keeps n e (simple v) h = value_goes (asks.reads n) e actions.Read v tt
  read_keeps n e (event d) h = value_goes (asks.reads n) e actions.Read (value_in (event d)) tt
  read_keeps n e (array a) h = value_goes (asks.reads n) e actions.Read (value_in (array a)) tt

  place_goes : (n : Named) → ask part.rest ≡ asks.resolves n → (r : Reference) → IsOnPath w (newest_own (part ∷ outer)) r.instance →
      Keeps (goes sc w p q part outer actions.Resolve w (place (there r)))
  place_goes n e r l = same_goes (place (there r)) tt (to_there r l, tt) (suited (asks.resolves n) e (place (there r)) tt)

  pub resolved_keeps : (n : Named) → ask part.rest ≡ asks.resolves n → seen n → (c : Cell) → Held c → Keeps (resolved_of sc w p q part outer n c)
  resolved_keeps n e s (named c) h = by (is_subscripted c.actual) refl
    where
      by : (b : Bool) → is_subscripted c.actual ≡ b →
          Keeps
          (if b then opens sc w p q part outer w (record { instance = c.instance; purpose = name_place; rest = located_of (settle_actual_place sc c.actual) })
          else fails sc w p q part outer fault.NotAVariable)
      by true f = place_enters sc w ok p q part outer is todo able_is c h n e f
      by false f = fails_keeps fault.NotAVariable
  resolved_keeps n e s (reference r) h = place_goes n e r (h.0 r.instance (◌⊎◌.inl refl))
  resolved_keeps n e s (simple v) h = place_goes n e (here sc w p q part outer n) (at_home n s)
  resolved_keeps n e s (event d) h = place_goes n e (here sc w p q part outer n) (at_home n s)
  resolved_keeps n e s (array a) h = place_goes n e (here sc w p q part outer n) (at_home n s)

  pub indexed_keeps : (n : Named) (ks : List ℕ) (v : Value) → ask part.rest ≡ asks.indexes n ks v → (r : Reference) → IsOnPath w (newest_own (part ∷ outer)) r.instance → (o : Option ℕ) →
      Keeps (indexed_at sc w p q part outer r ks o)
  indexed_keeps n ks v e r l None = fails_keeps fault.InvalidIndex
  indexed_keeps n ks v e r l (Some k) =
      same_goes (place (element_of r (ks ++ k ∷ []))) tt (to_there r l, tt) (suited (asks.indexes n ks v) e (place (element_of r (ks ++ k ∷ []))) tt)

  pub element_keeps : (n : Named) (ks : List ℕ) (v : Value) → ask part.rest ≡ asks.reads_element n ks v → (a : ArrayCell) (o : Option ℕ) → Keeps (element_read_at sc w p q part outer a ks o)
  element_keeps n ks v e a None = fails_keeps fault.InvalidIndex
  element_keeps n ks v e a (Some k) = value_goes (asks.reads_element n ks v) e actions.ElementRead (element_at a (ks ++ k ∷ [])) tt

  module _ (x : Place) (v : Value) (e : ask part.rest ≡ asks.stores x v) where
    set_goes : (r : Reference) (c : Cell) → IsPlain c → IsNoEvent c → IsSound sc IsWholeInstance (with_process (set_cell w r c) p (record q { todo = record part { rest = resume sc part.rest done } ∷ outer }))
    set_goes r c plain without = goes_ok q.woken its_few done tt tt (suited (asks.stores x v) e done tt) (set_cell w r c) (set_alike w r c plain) refl (set_event_before w r c without)

  pub stored_keeps : (x : Place) (v : Value) → ask part.rest ≡ asks.stores x v → Keeps (stored sc w p q part outer x v)
  stored_keeps (own n) v e = set_goes (own n) v e (here sc w p q part outer n) (simple v) (simple_plain v) (simple_no_event v)
  stored_keeps (there r) v e = set_goes (there r) v e r (simple v) (simple_plain v) (simple_no_event v)
  stored_keeps (element_of r ks) v e =
      set_goes (element_of r ks) v e r (array (with_element (array_in (cell_at w r)) ks v)) (array_plain (with_element (array_in (cell_at w r)) ks v))
      (array_no_event (with_element (array_in (cell_at w r)) ks v))

  pub arrays_keep : (x : Ask) → ask part.rest ≡ x → Suits x done → (kind : Kind) (ns : List Named) (bs : List Bounds) → Keeps (made_arrays sc w p q part outer kind ns bs)
  arrays_keep x e s kind ns bs =
      either (has_wrong_size bs) (fails sc w p q part outer fault.ArraySize)
      (if has_no_room w bs ns then fails sc w p q part outer fault.CoreFull else goes sc w p q part outer actions.MakeArrays (add_cells w part.instance (new_arrays kind bs ns)) done)
      (fails_keeps fault.ArraySize)
      (either (has_no_room w bs ns) (fails sc w p q part outer fault.CoreFull)
      (goes sc w p q part outer actions.MakeArrays (add_cells w part.instance (new_arrays kind bs ns)) done) (fails_keeps fault.CoreFull)
      (goes_ok q.woken its_few done tt tt (suited x e done s) (add_cells w part.instance (new_arrays kind bs ns)) (add_alike w part.instance (new_arrays kind bs ns) (arrays_plain kind bs ns)) refl
      (add_event_before w part.instance (new_arrays kind bs ns) (arrays_no_events kind bs ns))))

  pub event_keeps : (n : Named) → ask part.rest ≡ asks.makes_event n → Keeps (made_event sc w p q part outer n)
  event_keeps n e = event_goes n.name (suited (asks.makes_event n) e done tt)
