-- Each action keeps what it does not name.
use Rattle.std.proofs.Common.{◌≡◌, refl, sym, ap, subst, ◌∙◌, ℕ, List, [], ◌∷◌, ◌++◌, length, Option, Some, None, Bool, true, false}
use Rattle.std.specs.Prelude.{zero, suc, pos, if◌then◌else◌, nat_lt, ◌==◌}
use Rattle.b67_list.specs.Numbered.{numbered}
use Rattle.b67_num.specs.declared.FaultKind.{FaultKind}
use Rattle.b67_num.specs.declared.FaultKind.TheVariants as fault
use Rattle.algol_tree.specs.declared.tree.Kind.{Kind}
use Rattle.algol_tree.specs.declared.tree.Named.{Named}
use Rattle.b67_deeds.specs.declared.EventAct.TheVariants as act
use Rattle.algol_tree.specs.Blocks.{Block, block_numbered, number_at, spot_of}
use Rattle.algol_tree.specs.Scopes.{Scopes, use_of}
use Rattle.algol_meaning.specs.declared.TheConstants.{MOST_STARTED}
use Rattle.algol_meaning.specs.Value.{Value, number, whole_of, Reference, Bounds, ArrayCell, Cell, simple, event, array, named, reference}
use Rattle.b67_deeds.specs.Events.{EventState, fresh_state}
use Rattle.b67_deeds.specs.Deeds as deeds
use Rattle.b67_deeds.specs.Deeds.{EventDeed, Deed, Next, deed}
use Rattle.b67_deeds.proofs.Lists.{waiting_frees_nobody}
use Rattle.algol_meaning.specs.Rest.{Place, own, there, element_of, Answer, done, value, cell, place, entered}
use Rattle.algol_meaning.specs.Settle.{block_of_sort, settle, settle_actual_place}
use Rattle.algol_meaning.specs.Statements.{settle_items, items_from}
use Rattle.b67_num.specs.Whole.{fault_of}
use Rattle.algol_meaning.specs.World.{State, able, started, waits_for, procures, waits_any, ended, block, procedure, name_read, name_place, add_cells, Part, Process, World, instance_at, cell_at, set_cell, followed, or_no_process, with_process, value_in, array_in, event_in}
use Rattle.algol_meaning.specs.Critical.{some_depends, some_depends_on_any, is_evaluation, own_instances, newest_first, first_on_path, referred_by, referred_by_task}
use Rattle.algol_meaning.specs.Instances.{fresh_cells, leave, Cut, cut_at}
use Rattle.algol_meaning.specs.Arrays.{has_wrong_size, has_no_room, bounds_of, subscript_place, element_at, with_element, new_arrays}
use Rattle.algol_meaning.specs.Events.{event_at, first_happened, joined_all, Released, released, caused_by_end}
use Rattle.b67_deeds.specs.declared.Letter.TheVariants as actions
use Rattle.b67_deeds.specs.declared.Letter.{Letter}
use Rattle.algol_meaning.specs.Lines.{line_of}
use Rattle.algol_meaning.specs.Asks as asks
use Rattle.algol_meaning.specs.Asks.{Ask, ask, resume, evaluated_of, located_of}
use Rattle.algol_meaning.specs.Choice.{Choice, choice, choice_in, choice_of, nth_exists, is_subscripted, answered, goes, goes_releasing, stops, opens, fails, home, here, read_of, resolved_of, indexed_at, element_read_at, stored, given_cells, with_new_instance, new_part, entered_procedure, entered_block, left_with, ended_releasing, left_or_ended, left_choice, gone, gone_to, goes_to, task_of, with_started, next_process, starts, told_answer, did, does_with_first, all_followed, waits_for_any, wakes, wakes_or_waits, does_with, made_arrays}
use Rattle.algol_meaning.proofs.Cited.{leave_processes}
use Rattle.algol_laws.specs.Kept.{WorldKept, Freed, nobody, stays_woken, woken_of, ProcessKept, EachActionKeeps, lists_of, stored_by_release, where_none, cell_of_place, stored_by_end, task_at_end, stored_by_first, stored_by_several, stored_by_deed, stored_by, stored_in, stored_cells, woken_by_end, woken_at_end, woken_by_first, woken_by_deed, woken_by_ask, woken_in, freed_by}
use Rattle.algol_laws.proofs.Keeping.{unchanged, kept_then, kept_before, nobody_kept, cell_set, cells_added, instances_left, instance_added, process_added, line_added, fault_kept, actor_set}
use Rattle.algol_laws.proofs.Releasing.{deed_keeps, joins_keep}
use Rattle.algol_laws.proofs.Bared.{cell_left}

module _ (sc : Scopes) (w : World) (p : ℕ) (q : Process) (part : Part) (outer : List Part) (is : numbered w.processes p ≡ Some q) where
  -- the choice keeps all but that cell
  abbrev pub KeepsTelling : (ℕ → Process → ℕ) → List Reference → Choice → Type 0
  KeepsTelling woken s c = WorldKept p (record { processes = c.released; woken = woken }) s w c.world

  -- .. and every woken number
  abbrev pub Keeps : List Reference → Choice → Type 0
  Keeps s c = KeepsTelling stays_woken s c

  -- after a change that keeps, the actor's own process is another one
  module _ (s : List Reference) (those : Freed) (after : World) (f : WorldKept p those s w after) (acted : Process) (critical : acted.critical ≡ q.critical) (task : acted.task ≡ q.task) where
    pub acts : WorldKept p those s w (with_process after p acted)
    acts =
        kept_then p those s w after (with_process after p acted) f
        (actor_set p s after acted (λ r e. same r e (f.processes p q is)))
      where
        same : (r : Process) → numbered after.processes p ≡ Some r → ((z : Process) × (numbered after.processes p ≡ Some z) × ProcessKept p those p q z) →
            (acted.critical ≡ r.critical) × (acted.task ≡ r.task)
        same r e k = let one : Some r ≡ Some k.0 = sym e ∙ k.1 in let z : r ≡ k.0 = cc in (
          critical ∙ sym (ap (λ (x : Process). x.critical) z ∙ k.2.grown.critical),
          task ∙ sym (ap (λ (x : Process). x.task) z ∙ k.2.grown.task),
        )

  -- ---- how a choice goes on
  either : (s : List Reference) (b : Bool) (c d : Choice) → Keeps s c → Keeps s d → Keeps s (if b then c else d)
  either s true c d f g = f
  either s false c d f g = g

  goes_keeps : (s : List Reference) (action : Letter) (after : World) (a : Answer) → WorldKept p nobody s w after → Keeps s (goes sc w p q part outer action after a)
  goes_keeps s action after a f = acts s nobody after f (record q { todo = answered sc w p q part outer a ∷ outer }) refl refl

  releasing_keeps : (woken : ℕ → Process → ℕ) (s : List Reference) (action : Letter) (x : Released) (a : Answer) →
      WorldKept p (record { processes = x.processes; woken = woken }) s w x.world → KeepsTelling woken s (goes_releasing sc w p q part outer action x a)
  releasing_keeps woken s action x a f =
      acts s (record { processes = x.processes; woken = woken }) x.world f (record q { todo = answered sc w p q part outer a ∷ outer }) refl refl

  opens_keeps : (s : List Reference) (after : World) (inner : Part) → WorldKept p nobody s w after → Keeps s (opens sc w p q part outer after inner)
  opens_keeps s after inner f = acts s nobody after f (record q { todo = inner ∷ answered sc w p q part outer entered ∷ outer }) refl refl

  pub fails_keeps : (s : List Reference) (k : FaultKind) → Keeps s (fails sc w p q part outer k)
  fails_keeps s k = fault_kept p s w (Some (record { kind = k; process = p }))

  -- ---- names
  read_keeps : (s : List Reference) (c : Cell) → Keeps s (read_of sc w p q part outer c)
  read_keeps s (named c) = opens_keeps s w (record { instance = c.instance; purpose = name_read; rest = evaluated_of (settle sc c.actual) }) (unchanged p s w)
  read_keeps s (reference r) = goes_keeps s actions.Read w (value (value_in (cell_at w r))) (unchanged p s w)
  read_keeps s (simple v) = goes_keeps s actions.Read w (value (value_in (simple v))) (unchanged p s w)
  read_keeps s (event e) = goes_keeps s actions.Read w (value (value_in (event e))) (unchanged p s w)
  read_keeps s (array a) = goes_keeps s actions.Read w (value (value_in (array a))) (unchanged p s w)

  resolved_keeps : (s : List Reference) (n : Named) (c : Cell) → Keeps s (resolved_of sc w p q part outer n c)
  resolved_keeps s n (named c) =
      either s (is_subscripted c.actual)
      (opens sc w p q part outer w (record { instance = c.instance; purpose = name_place; rest = located_of (settle_actual_place sc c.actual) }))
      (fails sc w p q part outer fault.NotAVariable)
      (opens_keeps s w (record { instance = c.instance; purpose = name_place; rest = located_of (settle_actual_place sc c.actual) }) (unchanged p s w))
      (fails_keeps s fault.NotAVariable)
  resolved_keeps s n (reference r) = goes_keeps s actions.Resolve w (place (there r)) (unchanged p s w)
  resolved_keeps s n (simple v) = goes_keeps s actions.Resolve w (place (there (here sc w p q part outer n))) (unchanged p s w)
  resolved_keeps s n (event e) = goes_keeps s actions.Resolve w (place (there (here sc w p q part outer n))) (unchanged p s w)
  resolved_keeps s n (array a) = goes_keeps s actions.Resolve w (place (there (here sc w p q part outer n))) (unchanged p s w)

  indexed_keeps : (s : List Reference) (r : Reference) (ks : List ℕ) (o : Option ℕ) → Keeps s (indexed_at sc w p q part outer r ks o)
  indexed_keeps s r ks None = fails_keeps s fault.InvalidIndex
  indexed_keeps s r ks (Some k) = goes_keeps s actions.Index w (place (element_of r (ks ++ k ∷ []))) (unchanged p s w)

  element_keeps : (s : List Reference) (a : ArrayCell) (ks : List ℕ) (o : Option ℕ) → Keeps s (element_read_at sc w p q part outer a ks o)
  element_keeps s a ks None = fails_keeps s fault.InvalidIndex
  element_keeps s a ks (Some k) = goes_keeps s actions.ElementRead w (value (element_at a (ks ++ k ∷ []))) (unchanged p s w)

  stored_keeps : (x : Place) (v : Value) → Keeps (cell_of_place sc w p q part outer x ∷ []) (stored sc w p q part outer x v)
  stored_keeps (own n) v =
      goes_keeps (here sc w p q part outer n ∷ []) actions.Store (set_cell w (here sc w p q part outer n) (simple v)) done
      (cell_set p w (here sc w p q part outer n) (simple v))
  stored_keeps (there r) v = goes_keeps (r ∷ []) actions.Store (set_cell w r (simple v)) done (cell_set p w r (simple v))
  stored_keeps (element_of r ks) v =
      goes_keeps (r ∷ []) actions.ElementStore (set_cell w r (array (with_element (array_in (cell_at w r)) ks v))) done
      (cell_set p w r (array (with_element (array_in (cell_at w r)) ks v)))

  -- ---- entering and leaving
  new_instance_keeps : (s : List Reference) (j parent process : ℕ) (cells : List Cell) → WorldKept p nobody s w (with_new_instance sc w p q part outer j parent process cells)
  new_instance_keeps s j parent process cells =
      instance_added p s w
      (record { block = j; parent = parent; process = process; cells = fresh_cells (block_numbered sc.blocks j) cells; left = false })

  procedure_keeps : (s : List Reference) (j parent : ℕ) (cells : List Cell) → Keeps s (entered_procedure sc w p q part outer j parent cells)
  procedure_keeps s j parent cells =
      opens_keeps s (with_new_instance sc w p q part outer j parent p cells) (new_part sc w p q part outer j procedure) (new_instance_keeps s j parent p cells)

  block_keeps : (s : List Reference) (j : ℕ) → Keeps s (entered_block sc w p q part outer j)
  block_keeps s j =
      opens_keeps s (with_new_instance sc w p q part outer j part.instance p []) (new_part sc w p q part outer j block)
      (new_instance_keeps s j part.instance p [])

  pub left_with_keeps : (s : List Reference) (after : World) (a : Answer) (parts : List Part) → WorldKept p nobody s w after → Keeps s (left_with sc w p q part outer after a parts)
  left_with_keeps s after a [] f = f
  left_with_keeps s after a (next ∷ parts) f = acts s nobody after f (record q { todo = record next { rest = resume sc next.rest a } ∷ parts }) refl refl

  -- .. whatever a woken number would be
  pub left_with_tells : (woken : ℕ → Process → ℕ) (s : List Reference) (after : World) (a : Answer) (parts : List Part) → WorldKept p nobody s w after →
      KeepsTelling woken s (left_with sc w p q part outer after a parts)
  left_with_tells woken s after a [] f = nobody_kept p woken s w after f
  left_with_tells woken s after a (next ∷ parts) f =
      nobody_kept p woken s w (left_with sc w p q part outer after a (next ∷ parts)).world (left_with_keeps s after a (next ∷ parts) f)

  ended_keeps : (woken : ℕ → Process → ℕ) (s : List Reference) (x : Released) → WorldKept p (record { processes = x.processes; woken = woken }) s w x.world →
      KeepsTelling woken s (ended_releasing sc w p q part outer x)
  ended_keeps woken s x f = acts s (record { processes = x.processes; woken = woken }) x.world f (record q { todo = []; state = ended }) refl refl

  -- the instances are left first: events and processes are as they were
  by_end_keeps : (is : List ℕ) (o : Option Reference) →
      KeepsTelling (woken_by_end sc w p q part outer o) (stored_by_end sc w p q part outer o) (ended_releasing sc w p q part outer (caused_by_end (leave w is) p o))
  by_end_keeps is None = ended_keeps stays_woken [] (caused_by_end (leave w is) p None) (instances_left p [] w is)
  by_end_keeps is (Some r) =
      ended_keeps (woken_by_end sc w p q part outer (Some r)) (stored_by_end sc w p q part outer (Some r)) (caused_by_end (leave w is) p (Some r))
      (kept_before p (record { processes = (caused_by_end (leave w is) p (Some r)).processes; woken = woken_by_end sc w p q part outer (Some r) })
      (stored_by_end sc w p q part outer (Some r)) w (leave w is) (caused_by_end (leave w is) p (Some r)).world
      (instances_left p (stored_by_end sc w p q part outer (Some r)) w is) caused)
    where
      Caused : List Process → EventState → Type 0
      Caused qs e =
          WorldKept p (record { processes = (event_at (leave w is) r).waiters; woken = woken_of r e.waiters }) (r ∷ lists_of qs e.waiters) (leave w is)
          (caused_by_end (leave w is) p (Some r)).world

      caused : Caused w.processes (event_at w r)
      caused =
          subst (λ (c : Cell). Caused w.processes (event_in c)) (cell_left is w r)
          (subst (λ qs. Caused qs (event_at (leave w is) r)) (leave_processes w is)
          (deed_keeps p (leave w is) r (deeds.acts act.Cause) (event_at (leave w is) r)))

  pub left_or_ended_keeps : (a : Answer) (parts : List Part) →
      KeepsTelling (woken_at_end sc w p q part outer parts) (task_at_end sc w p q part outer parts) (left_or_ended sc w p q part outer a parts)
  left_or_ended_keeps a [] = by_end_keeps (part.instance ∷ []) q.task
  left_or_ended_keeps a (next ∷ parts) =
      left_with_keeps [] (leave w (part.instance ∷ [])) a (next ∷ parts) (instances_left p [] w (part.instance ∷ []))

  left_keeps : (a : Answer) → KeepsTelling (woken_at_end sc w p q part outer outer) (task_at_end sc w p q part outer outer) (left_choice sc w p q part outer a)
  left_keeps a = by (is_evaluation part.purpose) (some_depends w.processes part.instance)
    where
      by : (b c : Bool) →
          KeepsTelling (woken_at_end sc w p q part outer outer) (task_at_end sc w p q part outer outer)
          (if b then left_with sc w p q part outer w a outer
          else if c then fails sc w p q part outer fault.CriticalBlockExit
          else left_or_ended sc w p q part outer a outer)
      by true c =
          left_with_tells (woken_at_end sc w p q part outer outer) (task_at_end sc w p q part outer outer) w a outer
          (unchanged p (task_at_end sc w p q part outer outer) w)
      by false true =
          nobody_kept p (woken_at_end sc w p q part outer outer) (task_at_end sc w p q part outer outer) w (fails sc w p q part outer fault.CriticalBlockExit).world
          (fails_keeps (task_at_end sc w p q part outer outer) fault.CriticalBlockExit)
      by false false = left_or_ended_keeps a outer

  -- ---- GO TO
  gone_keeps : (s : List Reference) (newer : List ℕ) (b : Block) (n : Named) (parts : List Part) → Keeps s (gone sc w p q part outer newer b n parts)
  gone_keeps s newer b n [] = unchanged p s w
  gone_keeps s newer b n (target ∷ parts) =
      acts s nobody (leave w newer) (instances_left p s w newer) (record q { todo = record target { rest = settle_items sc (items_from b n.name) } ∷ parts }) refl refl

  gone_to_keeps : (s : List Reference) (n : Named) (i : ℕ) (cut : Cut) → Keeps s (gone_to sc w p q part outer n i cut)
  gone_to_keeps s n i cut =
      either s (some_depends_on_any w.processes (own_instances cut.newer)) (fails sc w p q part outer fault.CriticalBlockExit)
      (gone sc w p q part outer (own_instances cut.newer) (block_numbered sc.blocks ((instance_at w i).block)) n cut.from)
      (fails_keeps s fault.CriticalBlockExit)
      (gone_keeps s (own_instances cut.newer) (block_numbered sc.blocks ((instance_at w i).block)) n cut.from)

  goes_to_keeps : (s : List Reference) (n : Named) (i : ℕ) → Keeps s (goes_to sc w p q part outer n i)
  goes_to_keeps s n i =
      either s ((instance_at w i).process == p) (gone_to sc w p q part outer n i (cut_at [] (part ∷ outer) i)) (fails sc w p q part outer fault.BadGoTo)
      (gone_to_keeps s n i (cut_at [] (part ∷ outer) i)) (fails_keeps s fault.BadGoTo)

  -- ---- processes
  starts_keeps : (s : List Reference) (j parent : ℕ) (cells : List Cell) (task : Option Reference) → Keeps s (starts sc w p q part outer j parent cells task)
  starts_keeps s j parent cells task =
      goes_keeps s actions.Start
      (with_started sc w p q part outer (with_new_instance sc w p q part outer j parent (next_process sc w p q part outer) cells) j cells task parent) done
      (kept_then p nobody s w (with_new_instance sc w p q part outer j parent (next_process sc w p q part outer) cells)
      (with_started sc w p q part outer (with_new_instance sc w p q part outer j parent (next_process sc w p q part outer) cells) j cells task parent)
      (new_instance_keeps s j parent (next_process sc w p q part outer) cells)
      (process_added p s (with_new_instance sc w p q part outer j parent (next_process sc w p q part outer) cells)
      (record {
        todo = new_part sc w p q part outer j started ∷ [];
        critical = Some (first_on_path w (newest_first 1 w.instances []) p (parent ∷ referred_by cells ++ referred_by_task task));
        task = task;
        state = able;
        woken = 0;
      })))

  -- ---- events
  did_keeps : (x : EventDeed) (r : Reference) (d : Deed) (n : Next) → ((n ≡ deeds.goes → ⊥) → d.frees ≡ []) →
      WorldKept p (record { processes = d.frees; woken = woken_of r d.withdraws }) (stored_by_release w r d) w (released w r d).world →
      KeepsTelling (woken_of r d.withdraws) (stored_by_release w r d) (did sc w p q part outer x r d n)
  did_keeps x r d n nobody_freed kept = by n nobody_freed
    where
      s : List Reference
      s = stored_by_release w r d

      woken : ℕ → Process → ℕ
      woken = woken_of r d.withdraws

      stopped : d.frees ≡ [] → (state : State) → KeepsTelling woken s (stops sc w p q part outer (deeds.letter_of x) (released w r d).world state)
      stopped e state =
          acts s (record { processes = []; woken = woken }) (released w r d).world
          (subst (λ fs. WorldKept p (record { processes = fs; woken = woken }) s w (released w r d).world) e kept)
          (record q { todo = answered sc w p q part outer done ∷ outer; state = state }) refl refl

      by : (m : Next) → ((m ≡ deeds.goes → ⊥) → d.frees ≡ []) → KeepsTelling woken s (did sc w p q part outer x r d m)
      by deeds.goes f = releasing_keeps woken s (deeds.letter_of x) (released w r d) (told_answer sc w p q part outer d.answer) kept
      by deeds.waits f = stopped (f (λ e. cc)) (waits_for r)
      by deeds.procures f = stopped (f (λ e. cc)) (procures r)

  pub does_first_keeps : (x : EventDeed) (ns : List Named) →
      KeepsTelling (woken_by_first sc w p q part outer x ns) (stored_by_first sc w p q part outer x ns) (does_with_first sc w p q part outer x ns)
  does_first_keeps x [] = unchanged p [] w
  does_first_keeps x (n ∷ ns) =
      did_keeps x r (deed x p (event_at w r)) ((deed x p (event_at w r)).next) (λ f. waiting_frees_nobody x p (event_at w r) f)
      (deed_keeps p w r x (event_at w r))
    where
      r : Reference
      r = followed w (here sc w p q part outer n)

  waits_for_any_keeps : (rs : List Reference) (o : Option ℕ) → Keeps (where_none o rs) (waits_for_any sc w p q part outer rs o)
  waits_for_any_keeps rs None = acts rs nobody (joined_all w p [] rs) (joins_keep p w rs) (record q { state = waits_any rs }) refl refl
  waits_for_any_keeps rs (Some n) = goes_keeps [] actions.WaitAny w (value (number (pos n))) (unchanged p [] w)

  pub wakes_keeps : (s : List Reference) (n : ℕ) → Keeps s (wakes sc w p q part outer n)
  wakes_keeps s n = acts s nobody w (unchanged p s w) (record q { todo = answered sc w p q part outer (value (number (pos n))) ∷ outer; woken = 0 }) refl refl

  several_keeps : (woken : ℕ) (rs : List Reference) → Keeps (stored_by_several sc w p q part outer woken rs) (wakes_or_waits sc w p q part outer woken rs)
  several_keeps zero rs = waits_for_any_keeps rs (first_happened w rs)
  several_keeps (suc n) rs = wakes_keeps [] (suc n)

  does_keeps : (x : EventDeed) (ns : List Named) →
      KeepsTelling (woken_by_deed sc w p q part outer x ns) (stored_by_deed sc w p q part outer x ns) (does_with sc w p q part outer x ns)
  does_keeps x ns = by (deeds.is_of_several x)
    where
      rs : List Reference
      rs = all_followed sc w p q part outer ns

      by : (b : Bool) →
          KeepsTelling (if b then stays_woken else woken_by_first sc w p q part outer x ns)
          (if b then stored_by_several sc w p q part outer q.woken rs else stored_by_first sc w p q part outer x ns)
          (if b then wakes_or_waits sc w p q part outer q.woken rs else (does_with_first sc w p q part outer x ns))
      by true = several_keeps q.woken rs
      by false = does_first_keeps x ns

  -- ---- arrays and events
  arrays_keep : (s : List Reference) (kind : Kind) (ns : List Named) (bs : List Bounds) → Keeps s (made_arrays sc w p q part outer kind ns bs)
  arrays_keep s kind ns bs =
      either s (has_wrong_size bs) (fails sc w p q part outer fault.ArraySize)
      (if has_no_room w bs ns then fails sc w p q part outer fault.CoreFull
      else goes sc w p q part outer actions.MakeArrays (add_cells w part.instance (new_arrays kind bs ns)) done)
      (fails_keeps s fault.ArraySize)
      (either s (has_no_room w bs ns) (fails sc w p q part outer fault.CoreFull)
      (goes sc w p q part outer actions.MakeArrays (add_cells w part.instance (new_arrays kind bs ns)) done) (fails_keeps s fault.CoreFull)
      (goes_keeps s actions.MakeArrays (add_cells w part.instance (new_arrays kind bs ns)) done (cells_added p s w part.instance (new_arrays kind bs ns))))

  -- ---- all
  pub choice_keeps : (a : Ask) → KeepsTelling (woken_by_ask sc w p q part outer a) (stored_by sc w p q part outer a) (choice_of sc w p q part outer a)
  choice_keeps asks.nothing = unchanged p [] w
  choice_keeps (asks.reads n) = read_keeps [] (cell_at w (here sc w p q part outer n))
  choice_keeps (asks.reads_element n ks v) =
      element_keeps [] (array_in (cell_at w (followed w (here sc w p q part outer n)))) ks
      (subscript_place ((use_of sc n).sort) (array_in (cell_at w (followed w (here sc w p q part outer n)))) ks (whole_of v))
  choice_keeps (asks.indexes n ks v) =
      indexed_keeps [] (followed w (here sc w p q part outer n)) ks
      (subscript_place ((use_of sc n).sort) (array_in (cell_at w (followed w (here sc w p q part outer n)))) ks (whole_of v))
  choice_keeps (asks.fails f) = fails_keeps [] (fault_of f)
  choice_keeps (asks.enters n gs) =
      procedure_keeps [] (block_of_sort ((use_of sc n).sort)) (home sc w p q part outer n) (given_cells sc w p q part outer gs)
  choice_keeps (asks.passes n) = goes_keeps [] actions.Pass w (cell (cell_at w (here sc w p q part outer n))) (unchanged p [] w)
  choice_keeps (asks.resolves n) = resolved_keeps [] n (cell_at w (here sc w p q part outer n))
  choice_keeps (asks.reads_result name) =
      goes_keeps [] actions.Read w (value (value_in (cell_at w (record { instance = part.instance; name = name })))) (unchanged p [] w)
  choice_keeps (asks.leaves a) = left_keeps a
  choice_keeps (asks.stores x v) = stored_keeps x v
  choice_keeps (asks.selects v ss) =
      either [] (nth_exists (whole_of v) ss) (goes sc w p q part outer actions.Select w done) (fails sc w p q part outer fault.CaseIndex)
      (goes_keeps [] actions.Select w done (unchanged p [] w)) (fails_keeps [] fault.CaseIndex)
  choice_keeps asks.turns = goes_keeps [] actions.Turn w done (unchanged p [] w)
  choice_keeps (asks.goes_to n) = goes_to_keeps [] n (home sc w p q part outer n)
  choice_keeps (asks.enters_block b) = block_keeps [] (number_at sc.blocks (spot_of b))
  choice_keeps (asks.starts n gs task) =
      either [] (nat_lt MOST_STARTED (length w.processes)) (fails sc w p q part outer fault.ProcessLimit)
      (starts sc w p q part outer (block_of_sort ((use_of sc n).sort)) (home sc w p q part outer n) (given_cells sc w p q part outer gs) (task_of sc w p q part outer task))
      (fails_keeps [] fault.ProcessLimit)
      (starts_keeps [] (block_of_sort ((use_of sc n).sort)) (home sc w p q part outer n) (given_cells sc w p q part outer gs) (task_of sc w p q part outer task))
  choice_keeps (asks.event_deed x ns) = does_keeps x ns
  choice_keeps (asks.writes phrases vs) =
      goes_keeps [] actions.Line (record w { output = w.output ++ line_of phrases vs ∷ [] }) done (line_added p [] w (line_of phrases vs))
  choice_keeps (asks.makes_arrays kind ns pairs vs) = arrays_keep [] kind ns (bounds_of pairs vs)
  choice_keeps (asks.makes_event n) =
      goes_keeps [] actions.MakeEvent (add_cells w part.instance (record { name = n.name; cell = event fresh_state } ∷ [])) done
      (cells_added p [] w part.instance (record { name = n.name; cell = event fresh_state } ∷ []))

-- ---- the law
in_keeps : (sc : Scopes) (w : World) (p : ℕ) (q : Process) (parts : List Part) → numbered w.processes p ≡ Some q →
    WorldKept p (record { processes = (choice_in sc w p q parts).released; woken = woken_in sc w p q parts }) (stored_in sc w p q parts) w (choice_in sc w p q parts).world
in_keeps sc w p q [] is = unchanged p [] w
in_keeps sc w p q (part ∷ outer) is = choice_keeps sc w p q part outer is (ask part.rest)

by_process : (sc : Scopes) (w : World) (p : ℕ) (o : Option Process) → numbered w.processes p ≡ o →
    WorldKept p
    (record {
      processes = (choice_in sc w p (or_no_process o) (or_no_process o).todo).released;
      woken = woken_in sc w p (or_no_process o) (or_no_process o).todo;
    })
    (stored_in sc w p (or_no_process o) (or_no_process o).todo) w
    (choice_in sc w p (or_no_process o) (or_no_process o).todo).world
by_process sc w p None e = unchanged p [] w
by_process sc w p (Some q) e = in_keeps sc w p q q.todo e

pub each_keeps : EachActionKeeps
unfolding choice stored_cells freed_by
each_keeps sc w p = by_process sc w p (numbered w.processes p) refl
