-- Each action keeps the stacks of all processes but for the newest instances of the one that acts, and so the paths from the instances that stand on.
use Rattle.std.proofs.Common.{◌≡◌, ◌⊎◌, inl, inr, refl, sym, ap, ◌∙◌, subst, ℕ, zero, suc, pos, List, [], ◌∷◌, ◌++◌, length, Option, Some, None, Bool, true, false}
use Rattle.b67_frames.proofs.Prelude.{if◌then◌else◌, ◌==◌, nat_lt, numbered, set_numbered, EventDeed, EventState, Block, block_numbered, Scopes, Named, has_wrong_size, has_no_room, bounds_of, Ask, ask, resume, is_evaluation, own_instances, leave, Answer, Value, Reference, ArrayCell, Cell, simple, event, array, named, reference, Instance, Part, Process, World, instance_at, or_no_instance, cells_with, followed, AllPairs, numbered_forth, IsInSkeleton, IsStanding, IsOnPath}
use Rattle.b67_num.specs.declared.FaultKind.TheVariants as fault
use Rattle.b67_num.specs.Whole.{fault_of}
use Rattle.b67_deeds.specs.Deeds as deeds
use Rattle.b67_deeds.specs.Deeds.{Deed, Next, deed}
use Rattle.algol_laws.proofs.Releasing.{changed_processes, forgotten_processes, able_instances}
use Rattle.algol_meaning.specs.declared.TheConstants.{MOST_STARTED}
use Rattle.algol_meaning.specs.Value.{number, whole_of}
use Rattle.b67_deeds.specs.Events.{left_by}
use Rattle.algol_meaning.specs.World.{State, able, waits_for, waits_any, procures, ended, cell_at, process_at, or_no_process, with_process, set_able, set_all_able}
use Rattle.algol_meaning.specs.Critical.{some_depends, some_depends_on_any}
use Rattle.algol_meaning.specs.Events.{event_at, set_event, change_event, first_happened, joined_all, list_in, forgotten, woken_by, withdrawn, all_withdrawn, released, caused_by_end}
use Rattle.algol_meaning.specs.Instances.{Cut, cut_at}
use Rattle.algol_meaning.specs.Rest as rests
use Rattle.algol_meaning.specs.Rest.{done, value, entered}
use Rattle.algol_meaning.specs.Statements.{items_from, settle_items}
use Rattle.algol_meaning.specs.Asks as asks
use Rattle.algol_meaning.specs.Choice.{Choice, choice, choice_in, choice_of, is_subscripted, nth_exists, home, here, fails, read_of, resolved_of, indexed_at, element_read_at, stored, left_choice, left_with, left_or_ended, gone, gone_to, goes_to, told_answer, did, does_with_first, all_followed, waits_for_any, wakes_or_waits, does_with}
use Rattle.algol_meaning.proofs.Cited.{joined_processes, leave_processes}
use Rattle.algol_standing.proofs.Jumping.{cut_all, own_both}
use Rattle.algol_standing.proofs.Pairs.{pairs_self, pairs_then_set}
use Rattle.algol_standing.proofs.Stacks.{leave_back, numbered_cases}
use Rattle.b67_frames.proofs.Facts.{HasFacts}
use Rattle.b67_frames.proofs.Paths.{KeepsStack, keeps_all, keeps_more, keeps_fewer, AreAlike, HaveAlike, alike_pairs, alike_self, alike_front, each_alike, each_but, paths_stay}

-- ---- processes that are released

-- are as they were but for their states
alike_able : (xs : List Process) (v : World) (ps : List ℕ) → AllPairs AreAlike xs v.processes → AllPairs AreAlike xs (set_all_able v ps).processes
alike_able xs v [] pairs = pairs
alike_able xs v (p ∷ ps) pairs =
    alike_able xs (set_able v p) ps
    (pairs_then_set AreAlike AreAlike (λ x y f. f) xs v.processes p (record (process_at v p) { state = able }) pairs (λ x e. same x (numbered_forth AreAlike xs v.processes p x pairs e)))
  where
    same : (x : Process) → (y : Process) × (numbered v.processes p ≡ Some y) × AreAlike x y → AreAlike x (record (process_at v p) { state = able })
    same x o =
        let here : process_at v p ≡ o.0 = ap or_no_process o.1 in
        (ap (λ (y : Process). y.critical) here ∙ (o.2).0, ap (λ (y : Process). own_instances y.todo) here ∙ (o.2).1)

-- and those that wait for no other event either, but for their woken numbers
alike_withdrawn : (xs : List Process) (v : World) (r : Reference) (ps : List ℕ) → AllPairs AreAlike xs v.processes → AllPairs AreAlike xs (all_withdrawn v r ps).processes
alike_withdrawn xs v r [] pairs = pairs
alike_withdrawn xs v r (p ∷ ps) pairs =
    alike_withdrawn xs (withdrawn v r p) r ps
    (subst (λ (ys : List Process). AllPairs AreAlike xs (set_numbered ys p (record (process_at v p) { woken = woken_by r (process_at v p) }))) (sym (forgotten_processes v p (list_in (process_at v p).state)))
    (pairs_then_set AreAlike AreAlike (λ x y f. f) xs v.processes p (record (process_at v p) { woken = woken_by r (process_at v p) }) pairs (λ x e. same x (numbered_forth AreAlike xs v.processes p x pairs e))))
  where
    same : (x : Process) → (y : Process) × (numbered v.processes p ≡ Some y) × AreAlike x y → AreAlike x (record (process_at v p) { woken = woken_by r (process_at v p) })
    same x o =
        let here : process_at v p ≡ o.0 = ap or_no_process o.1 in
        (ap (λ (y : Process). y.critical) here ∙ (o.2).0, ap (λ (y : Process). own_instances y.todo) here ∙ (o.2).1)

pub released_alike : (w v : World) (r : Reference) (gone ps : List ℕ) → v.processes ≡ w.processes → HaveAlike w.processes (set_all_able (all_withdrawn v r gone) ps).processes
released_alike w v r gone ps same =
    alike_pairs w.processes (set_all_able (all_withdrawn v r gone) ps).processes
    (alike_able w.processes (all_withdrawn v r gone) ps
    (alike_withdrawn w.processes v r gone (subst (λ (xs : List Process). AllPairs AreAlike w.processes xs) (sym same) (pairs_self AreAlike (λ x. (refl, refl)) w.processes))))

-- ---- instances that are left

-- each of these is left
abbrev AreLeft : World → List ℕ → Type 0
AreLeft v is = (i : ℕ) (y : Instance) → IsInSkeleton is i → numbered v.instances i ≡ Some y → y.left ≡ true

left_are : (w : World) (is : List ℕ) → AreLeft (leave w is) is
left_are w is i y inside e = by_left ((leave_back w is i y e).2).left
  where
    by_left : (IsInSkeleton is i × (y.left ≡ true)) ⊎ ((IsInSkeleton is i → ⊥) × (y.left ≡ ((leave_back w is i y e).0).left)) → y.left ≡ true
    by_left (inl h) = h.1
    by_left (inr h) = absurd (h.0 inside)

-- so they are where an event is set
left_set : (v : World) (is : List ℕ) (r : Reference) (e : EventState) → AreLeft v is → AreLeft (set_event v r e) is
left_set v is r e are i y inside f = by_number (numbered_cases v.instances r.instance i x y f)
  where
    x : Instance
    x = record (instance_at v r.instance) { cells = cells_with ((instance_at v r.instance).cells) r.name (event e) }

    by_number : ((r.instance ≡ i) × (y ≡ x) × (u : Instance) × (numbered v.instances i ≡ Some u)) ⊎ ((r.instance ≡ i → ⊥) × (numbered v.instances i ≡ Some y)) → y.left ≡ true
    by_number (inl h) =
        ap (λ (z : Instance). z.left) h.1
        ∙ ap (λ (k : ℕ). (instance_at v k).left) h.0
        ∙ ap (λ (o : Option Instance). (or_no_instance o).left) h.3
        ∙ are i h.2 inside h.3
    by_number (inr h) = are i y inside h.1

-- .. or where processes wait for events no more
left_forgotten : (v : World) (is : List ℕ) (p : ℕ) (rs : List Reference) → AreLeft v is → AreLeft (forgotten v p rs) is
left_forgotten v is p [] are = are
left_forgotten v is p (r ∷ rs) are = left_forgotten (set_event v r (left_by p (event_at v r))) is p rs (left_set v is r (left_by p (event_at v r)) are)

left_withdrawn : (v : World) (is : List ℕ) (r : Reference) (ps : List ℕ) → AreLeft v is → AreLeft (all_withdrawn v r ps) is
left_withdrawn v is r [] are = are
left_withdrawn v is r (p ∷ ps) are = left_withdrawn (withdrawn v r p) is r ps (left_forgotten v is p (list_in (process_at v p).state) are)

left_gone : (v : World) → HasFacts v → (is : List ℕ) → AreLeft v is → (i : ℕ) → IsInSkeleton is i → IsStanding v i → ⊥
left_gone v facts is are i inside st =
    let x = facts.there i st in
    let clash : true ≡ false = sym (are i x.0 inside x.1) ∙ x.2 in cc

-- ---- the choices of process p

module _ (sc : Scopes) (w : World) (p : ℕ) (q : Process) (part : Part) (outer : List Part) (is : numbered w.processes p ≡ Some q) (todo : q.todo ≡ part ∷ outer) where
  -- the world after it keeps all stacks, if it is as worlds are
  abbrev Keeps : World → Type 0
  Keeps v = HasFacts v → (k : ℕ) (r : Process) → numbered w.processes k ≡ Some r → KeepsStack v k r

  abbrev KeepsHere : Choice → Type 0
  KeepsHere c = Keeps c.world

  abbrev own : own_instances q.todo ≡ own_instances (part ∷ outer)
  own = ap own_instances todo

  either : (b : Bool) (c d : Choice) → KeepsHere c → KeepsHere d → KeepsHere (if b then c else d)
  either true c d f g = f
  either false c d f g = g

  -- all processes are as they were
  none_moves : (v : World) → v.processes ≡ w.processes → Keeps v
  none_moves v same facts = each_alike w v (subst (λ (xs : List Process). HaveAlike w.processes xs) (sym same) (alike_self w.processes))

  -- this one goes on with as many instances, and the others are alike
  goes_keep : (after : World) (q' : Process) → HaveAlike w.processes after.processes → q'.critical ≡ q.critical → own_instances q'.todo ≡ own_instances (part ∷ outer) → Keeps (with_process after p q')
  goes_keep after q' alike critical same facts =
      each_but w (with_process after p q') p q q' after.processes is alike refl (λ at. keeps_all (with_process after p q') p q q' at critical (same ∙ sym own))

  -- .. with one more, or an evaluation
  opens_keep : (after : World) (inner : Part) (q' : Process) → after.processes ≡ w.processes → q'.critical ≡ q.critical → own_instances q'.todo ≡ own_instances (inner ∷ part ∷ outer) → Keeps (with_process after p q')
  opens_keep after inner q' same critical more facts =
      each_but w (with_process after p q') p q q' after.processes is (subst (λ (xs : List Process). HaveAlike w.processes xs) (sym same) (alike_self w.processes)) refl (λ at. by_purpose (is_evaluation inner.purpose) refl at)
    where
      by_purpose : (b : Bool) → is_evaluation inner.purpose ≡ b → numbered (set_numbered after.processes p q') p ≡ Some q' → KeepsStack (with_process after p q') p q
      by_purpose true e at =
          keeps_all (with_process after p q') p q q' at critical (more ∙ ap (λ (b : Bool). if b then own_instances (part ∷ outer) else inner.instance ∷ own_instances (part ∷ outer)) e ∙ sym own)
      by_purpose false e at =
          keeps_more (with_process after p q') p q q' (inner.instance ∷ []) at critical
          (more ∙ ap (λ (b : Bool). if b then own_instances (part ∷ outer) else inner.instance ∷ own_instances (part ∷ outer)) e ∙ ap (λ (is : List ℕ). inner.instance ∷ is) (sym own))

  -- .. with fewer: these are left
  leaves_keep : (after : World) (newer : List ℕ) (q' : Process) → HaveAlike w.processes after.processes → AreLeft after newer → q'.critical ≡ q.critical → own_instances (part ∷ outer) ≡ newer ++ own_instances q'.todo →
      Keeps (with_process after p q')
  leaves_keep after newer q' alike are critical fewer facts =
      each_but w (with_process after p q') p q q' after.processes is alike refl
      (λ at. keeps_fewer (with_process after p q') p q q' newer at critical (own ∙ fewer) (left_gone (with_process after p q') facts newer are))

  -- ---- leaving

  left_alike : (newer : List ℕ) → HaveAlike w.processes (leave w newer).processes
  left_alike newer = subst (λ (xs : List Process). HaveAlike w.processes xs) (sym (leave_processes w newer)) (alike_self w.processes)

  -- the end of the process
  ends_keep : (newer : List ℕ) (q' : Process) → q'.critical ≡ q.critical → own_instances (part ∷ outer) ≡ newer ++ own_instances q'.todo → (o : Option Reference) → Keeps (with_process (caused_by_end (leave w newer) p o).world p q')
  ends_keep newer q' critical fewer None = leaves_keep (leave w newer) newer q' (left_alike newer) (left_are w newer) critical fewer
  ends_keep newer q' critical fewer (Some r) = leaves_keep (caused_by_end v p (Some r)).world newer q' (released_alike w (set_event v r e) r ps ps (leave_processes w newer)) are critical fewer
    where
      v : World
      v = leave w newer

      e : EventState
      e = record (event_at v r) { happened = true; waiters = [] }

      ps : List ℕ
      ps = (event_at v r).waiters

      after : World
      after = all_withdrawn (set_event v r e) r ps

      are : AreLeft (set_all_able (all_withdrawn (set_event v r e) r ps) ps) newer
      are i y inside f =
          left_withdrawn (set_event v r e) newer r ps (left_set v newer r e (left_are w newer)) i y inside
          (ap (λ (xs : List Instance). numbered xs i) (sym (able_instances after ps)) ∙ f)

  own_first : is_evaluation part.purpose ≡ false → (parts : List Part) → own_instances (part ∷ parts) ≡ part.instance ∷ own_instances parts
  own_first owns parts = ap (λ (b : Bool). if b then own_instances parts else part.instance ∷ own_instances parts) owns

  left_or_ended_keeps : is_evaluation part.purpose ≡ false → (a : Answer) (parts : List Part) → outer ≡ parts → KeepsHere (left_or_ended sc w p q part outer a parts)
  left_or_ended_keeps owns a [] last =
      ends_keep (part.instance ∷ []) (record q { todo = []; state = ended }) refl (ap (λ (ps : List Part). own_instances (part ∷ ps)) last ∙ own_first owns []) q.task
  left_or_ended_keeps owns a (next ∷ parts) below =
      leaves_keep (leave w (part.instance ∷ [])) (part.instance ∷ []) (record q { todo = record next { rest = resume sc next.rest a } ∷ parts }) (left_alike (part.instance ∷ [])) (left_are w (part.instance ∷ [])) refl
      (ap (λ (ps : List Part). own_instances (part ∷ ps)) below ∙ own_first owns (next ∷ parts))

  evaluation_left : is_evaluation part.purpose ≡ true → (a : Answer) (parts : List Part) → outer ≡ parts → KeepsHere (left_with sc w p q part outer w a parts)
  evaluation_left evaluates a [] last = none_moves w refl
  evaluation_left evaluates a (next ∷ parts) below =
      goes_keep w (record q { todo = record next { rest = resume sc next.rest a } ∷ parts }) (alike_self w.processes) refl
      (sym (ap (λ (ps : List Part). own_instances (part ∷ ps)) below ∙ ap (λ (b : Bool). if b then own_instances (next ∷ parts) else part.instance ∷ own_instances (next ∷ parts)) evaluates))

  left_keeps : (a : Answer) → KeepsHere (left_choice sc w p q part outer a)
  left_keeps a = by (is_evaluation part.purpose) refl
    where
      by : (b : Bool) → is_evaluation part.purpose ≡ b →
          KeepsHere
          (if b then left_with sc w p q part outer w a outer
          else if some_depends w.processes part.instance then fails sc w p q part outer fault.CriticalBlockExit
          else left_or_ended sc w p q part outer a outer)
      by true e = evaluation_left e a outer refl
      by false e =
          either (some_depends w.processes part.instance) (fails sc w p q part outer fault.CriticalBlockExit) (left_or_ended sc w p q part outer a outer)
          (none_moves (fails sc w p q part outer fault.CriticalBlockExit).world refl) (left_or_ended_keeps e a outer refl)

  -- ---- GO TO

  gone_keeps : (newer from : List Part) (b : Block) (n : Named) → part ∷ outer ≡ newer ++ from → KeepsHere (gone sc w p q part outer (own_instances newer) b n from)
  gone_keeps newer [] b n all = none_moves w refl
  gone_keeps newer (target ∷ parts) b n all =
      leaves_keep (leave w (own_instances newer)) (own_instances newer) (record q { todo = record target { rest = settle_items sc (items_from b n.name) } ∷ parts }) (left_alike (own_instances newer))
      (left_are w (own_instances newer)) refl (ap own_instances all ∙ own_both newer (target ∷ parts))

  jump_keeps : (n : Named) (i : ℕ) → KeepsHere (goes_to sc w p q part outer n i)
  jump_keeps n i =
      let cut : Cut = cut_at [] (part ∷ outer) i in
      either ((instance_at w i).process == p) (gone_to sc w p q part outer n i cut) (fails sc w p q part outer fault.BadGoTo)
      (either (some_depends_on_any w.processes (own_instances cut.newer)) (fails sc w p q part outer fault.CriticalBlockExit)
      (gone sc w p q part outer (own_instances cut.newer) (block_numbered sc.blocks ((instance_at w i).block)) n cut.from) (none_moves (fails sc w p q part outer fault.CriticalBlockExit).world refl)
      (gone_keeps cut.newer cut.from (block_numbered sc.blocks ((instance_at w i).block)) n (cut_all [] (part ∷ outer) i)))
      (none_moves (fails sc w p q part outer fault.BadGoTo).world refl)

  -- ---- the others

  -- the part goes on, with these processes
  answers : (after : World) → HaveAlike w.processes after.processes → (a : Answer) → Keeps (with_process after p (record q { todo = record part { rest = resume sc part.rest a } ∷ outer }))
  answers after alike a = goes_keep after (record q { todo = record part { rest = resume sc part.rest a } ∷ outer }) alike refl refl

  waits : (after : World) → HaveAlike w.processes after.processes → (s : State) → Keeps (with_process after p (record q { todo = record part { rest = resume sc part.rest done } ∷ outer; state = s }))
  waits after alike s = goes_keep after (record q { todo = record part { rest = resume sc part.rest done } ∷ outer; state = s }) alike refl refl

  opens_so : (after : World) → after.processes ≡ w.processes → (inner : Part) → Keeps (with_process after p (record q { todo = inner ∷ record part { rest = resume sc part.rest entered } ∷ outer }))
  opens_so after same inner = opens_keep after inner (record q { todo = inner ∷ record part { rest = resume sc part.rest entered } ∷ outer }) same refl refl

  same_all : HaveAlike w.processes w.processes
  same_all = alike_self w.processes

  read_keeps : (c : Cell) → KeepsHere (read_of sc w p q part outer c)
  read_keeps (named c) = opens_so w refl _
  read_keeps (reference r) = answers w same_all _
  read_keeps (simple v) = answers w same_all _
  read_keeps (event e) = answers w same_all _
  read_keeps (array a) = answers w same_all _

  resolved_keeps : (n : Named) (c : Cell) → KeepsHere (resolved_of sc w p q part outer n c)
  resolved_keeps n (named c) = either (is_subscripted c.actual) _ _ (opens_so w refl _) (none_moves (fails sc w p q part outer fault.NotAVariable).world refl)
  resolved_keeps n (reference r) = answers w same_all _
  resolved_keeps n (simple v) = answers w same_all _
  resolved_keeps n (event e) = answers w same_all _
  resolved_keeps n (array a) = answers w same_all _

  indexed_keeps : (r : Reference) (ks : List ℕ) (o : Option ℕ) → KeepsHere (indexed_at sc w p q part outer r ks o)
  indexed_keeps r ks None = none_moves (fails sc w p q part outer fault.InvalidIndex).world refl
  indexed_keeps r ks (Some k) = answers w same_all _

  element_keeps : (a : ArrayCell) (ks : List ℕ) (o : Option ℕ) → KeepsHere (element_read_at sc w p q part outer a ks o)
  element_keeps a ks None = none_moves (fails sc w p q part outer fault.InvalidIndex).world refl
  element_keeps a ks (Some k) = answers w same_all _

  stored_keeps : (x : rests.Place) (v : Value) → KeepsHere (stored sc w p q part outer x v)
  stored_keeps (rests.own n) v = answers _ same_all done
  stored_keeps (rests.there r) v = answers _ same_all done
  stored_keeps (rests.element_of r ks) v = answers _ same_all done

  did_keeps : (x : EventDeed) (r : Reference) (d : Deed) (n : Next) → KeepsHere (did sc w p q part outer x r d n)
  did_keeps x r d n = by n
    where
      alike : HaveAlike w.processes (released w r d).world.processes
      alike = released_alike w (change_event w r d.change) r d.withdraws d.frees (changed_processes w r d.change)

      by : (m : Next) → KeepsHere (did sc w p q part outer x r d m)
      by deeds.goes = answers (released w r d).world alike (told_answer sc w p q part outer d.answer)
      by deeds.waits = waits (released w r d).world alike (waits_for r)
      by deeds.procures = waits (released w r d).world alike (procures r)

  first_keeps : (x : EventDeed) (ns : List Named) → KeepsHere (does_with_first sc w p q part outer x ns)
  first_keeps x [] = none_moves w refl
  first_keeps x (n ∷ ns) =
      let r = followed w (here sc w p q part outer n) in did_keeps x r (deed x p (event_at w r)) ((deed x p (event_at w r)).next)

  several_keep : (n : ℕ) (rs : List Reference) → KeepsHere (wakes_or_waits sc w p q part outer n rs)
  several_keep zero rs = by (first_happened w rs)
    where
      by : (o : Option ℕ) → KeepsHere (waits_for_any sc w p q part outer rs o)
      by None =
          goes_keep (joined_all w p [] rs) (record q { state = waits_any rs })
          (subst (λ (xs : List Process). HaveAlike w.processes xs) (sym (joined_processes w p [] rs)) (alike_self w.processes)) refl own
      by (Some n) = answers w same_all (value (number (pos n)))
  several_keep (suc n) rs = goes_keep w (record q { todo = record part { rest = resume sc part.rest (value (number (pos (suc n)))) } ∷ outer; woken = 0 }) same_all refl refl

  does_keeps : (x : EventDeed) (ns : List Named) → KeepsHere (does_with sc w p q part outer x ns)
  does_keeps x ns =
      either (deeds.is_of_several x) (wakes_or_waits sc w p q part outer q.woken (all_followed sc w p q part outer ns)) (does_with_first sc w p q part outer x ns)
      (several_keep q.woken (all_followed sc w p q part outer ns)) (first_keeps x ns)

  choice_keeps : (x : Ask) → KeepsHere (choice_of sc w p q part outer x)
  choice_keeps asks.nothing = none_moves w refl
  choice_keeps (asks.reads n) = read_keeps (cell_at w (here sc w p q part outer n))
  choice_keeps (asks.reads_element n ks v) = element_keeps _ ks _
  choice_keeps (asks.indexes n ks v) = indexed_keeps _ ks _
  choice_keeps (asks.fails f) = none_moves (fails sc w p q part outer (fault_of f)).world refl
  choice_keeps (asks.enters n gs) = opens_so _ refl _
  choice_keeps (asks.passes n) = answers w same_all _
  choice_keeps (asks.resolves n) = resolved_keeps n (cell_at w (here sc w p q part outer n))
  choice_keeps (asks.reads_result name) = answers w same_all _
  choice_keeps (asks.leaves a) = left_keeps a
  choice_keeps (asks.stores x v) = stored_keeps x v
  choice_keeps (asks.selects v ss) = either (nth_exists (whole_of v) ss) _ _ (answers w same_all done) (none_moves (fails sc w p q part outer fault.CaseIndex).world refl)
  choice_keeps asks.turns = answers w same_all done
  choice_keeps (asks.goes_to n) = jump_keeps n (home sc w p q part outer n)
  choice_keeps (asks.enters_block b) = opens_so _ refl _
  choice_keeps (asks.starts n gs task) =
      either (nat_lt MOST_STARTED (length w.processes)) _ _ (none_moves (fails sc w p q part outer fault.ProcessLimit).world refl) (answers _ (alike_front w.processes _) done)
  choice_keeps (asks.event_deed x ns) = does_keeps x ns
  choice_keeps (asks.writes phrases vs) = answers _ same_all done
  choice_keeps (asks.makes_arrays kind ns pairs vs) =
      either (has_wrong_size (bounds_of pairs vs)) _ _ (none_moves (fails sc w p q part outer fault.ArraySize).world refl)
      (either (has_no_room w (bounds_of pairs vs) ns) _ _ (none_moves (fails sc w p q part outer fault.CoreFull).world refl) (answers _ same_all done))
  choice_keeps (asks.makes_event n) = answers _ same_all done

-- so from an instance that stands before and after an action of a process the path is the same
pub choice_paths : (sc : Scopes) (w : World) (p : ℕ) (q : Process) → numbered w.processes p ≡ Some q → HasFacts w → HasFacts ((choice sc w p).world) →
    (a b : ℕ) → IsStanding w a → IsStanding ((choice sc w p).world) a → IsOnPath w a b → IsOnPath ((choice sc w p).world) a b
unfolding choice
choice_paths sc w p q is before after =
    paths_stay w (choice_in sc w p (process_at w p) (process_at w p).todo).world before after (by_todo q.todo refl)
  where
    same : process_at w p ≡ q
    same = ap or_no_process is

    by_todo : (parts : List Part) → q.todo ≡ parts → (k : ℕ) (r : Process) → numbered w.processes k ≡ Some r → KeepsStack (choice_in sc w p (process_at w p) (process_at w p).todo).world k r
    by_todo parts todo = subst (λ (o : Process). (k : ℕ) (r : Process) → numbered w.processes k ≡ Some r → KeepsStack (choice_in sc w p o o.todo).world k r) (sym same)
        (subst (λ (ps : List Part). (k : ℕ) (r : Process) → numbered w.processes k ≡ Some r → KeepsStack (choice_in sc w p q ps).world k r) (sym todo) (by_parts parts todo))
      where
        after_is : (part : Part) (outer : List Part) → q.todo ≡ part ∷ outer → (choice_in sc w p (process_at w p) (process_at w p).todo).world ≡ (choice_in sc w p q (part ∷ outer)).world
        after_is part outer todo = ap (λ (o : Process). (choice_in sc w p o o.todo).world) same ∙ ap (λ (ps : List Part). (choice_in sc w p q ps).world) todo

        by_parts : (parts : List Part) → q.todo ≡ parts → (k : ℕ) (r : Process) → numbered w.processes k ≡ Some r → KeepsStack (choice_in sc w p q parts).world k r
        by_parts [] none = each_alike w w (alike_self w.processes)
        by_parts (part ∷ outer) todo = choice_keeps sc w p q part outer is todo (ask part.rest) (subst (λ (v : World). HasFacts v) (after_is part outer todo) after)
