-- Whom a choice starts and whom it releases, by what the head asks for.
use Rattle.std.proofs.Common.{◌≡◌, refl, sym, ap, ◌∙◌, ℕ, zero, suc, ◌+◌, ◌≤◌, List, [], ◌∷◌, ◌++◌, length, Option, Some, None, Bool, true, false, arith}
use Rattle.std.specs.Prelude.{if◌then◌else◌, nat_lt, ◌==◌}
use Rattle.std.proofs.lemmas.Bool.Decides.{nat_tests}
use Rattle.std.proofs.lemmas.List.{length-append}
use Rattle.b67_list.specs.Numbered.{set_numbered}
use Rattle.b67_list.proofs.Lists.{length_set}
use Rattle.b67_num.specs.declared.FaultKind.{FaultKind}
use Rattle.b67_num.specs.declared.FaultKind.TheVariants as fault
use Rattle.b67_deeds.specs.declared.EventTest.{EventTest}
use Rattle.b67_deeds.specs.declared.EventTest.TheVariants as test
use Rattle.b67_deeds.specs.Deeds as deeds
use Rattle.b67_deeds.specs.Deeds.{EventDeed, Deed, Next, deed}
use Rattle.b67_deeds.specs.declared.EventAct.TheVariants as act
use Rattle.algol_tree.specs.declared.tree.Kind.{Kind}
use Rattle.algol_tree.specs.declared.tree.Named.{Named}
use Rattle.algol_tree.specs.Blocks.{Block, block_numbered}
use Rattle.algol_tree.specs.Scopes.{Scopes, use_of}
use Rattle.algol_meaning.specs.declared.TheConstants.{MOST_STARTED}
use Rattle.algol_meaning.specs.Value.{Value, Bounds, ArrayCell, Cell, simple, event, array, named, reference, Reference, whole_of}
use Rattle.b67_deeds.specs.Events.{EventState, left_by}
use Rattle.algol_meaning.specs.Rest.{Place, own, there, element_of, Answer, done}
use Rattle.algol_meaning.specs.Settle.{block_of_sort}
use Rattle.algol_meaning.specs.World.{State, Process, Part, World, instance_at, with_instance, cell_at, followed, array_in, add_cells, set_able, set_all_able, process_at, waits_any}
use Rattle.algol_meaning.specs.Critical.{some_depends, some_depends_on_any, is_evaluation, own_instances}
use Rattle.algol_meaning.specs.Events.{Released, event_at, change_event, first_happened, reference_is_among, joined_all, list_in, forgotten, withdrawn, woken_by, all_withdrawn, released, caused_by_end}
use Rattle.algol_meaning.specs.Instances.{leave, Cut, cut_at}
use Rattle.algol_meaning.specs.Arrays.{subscript_place, new_arrays, has_wrong_size, has_no_room, bounds_of}
use Rattle.b67_deeds.specs.declared.Letter.TheVariants as actions
use Rattle.b67_deeds.specs.declared.Letter.{Letter}
use Rattle.algol_meaning.specs.Asks.{Ask, nothing, reads, reads_element, indexes, fails, enters, passes, resolves, reads_result, leaves, stores, selects, turns, goes_to, enters_block, starts, event_deed, writes, makes_arrays, makes_event, ask}
use Rattle.algol_meaning.specs.Choice.{Choice, choice, choice_in, choice_of, is_subscripted, nth_exists}
use Rattle.algol_meaning.specs.Choice as choices
use Rattle.b67_letters.specs.Releases.{started_between}

-- ---- lists by number

pub length_set_numbered : {A : Type 0} (xs : List A) (p : ℕ) (y : A) → length (set_numbered xs p y) ≡ length xs
length_set_numbered xs zero y = refl
length_set_numbered xs (suc k) y = length_set xs k y

-- so many processes there are
abbrev many : World → ℕ
many w = length w.processes

left_many : (w : World) (is : List ℕ) → many (leave w is) ≡ many w
left_many w [] = refl
left_many w (i ∷ is) = left_many (with_instance w i (record (instance_at w i) { left = true })) is

able_many : (w : World) (ps : List ℕ) → many (set_all_able w ps) ≡ many w
able_many w [] = refl
able_many w (p ∷ ps) = able_many (set_able w p) ps ∙ length_set_numbered w.processes p _

changed_many : (w : World) (r : Reference) (c : Option (EventState → EventState)) → many (change_event w r c) ≡ many w
changed_many w r None = refl
changed_many w r (Some change) = refl

forgotten_many : (w : World) (p : ℕ) (rs : List Reference) → many (forgotten w p rs) ≡ many w
forgotten_many w p [] = refl
forgotten_many w p (r ∷ rs) = forgotten_many (change_event w r (Some (left_by p))) p rs

withdrawn_many : (w : World) (r : Reference) (ps : List ℕ) → many (all_withdrawn w r ps) ≡ many w
withdrawn_many w r [] = refl
withdrawn_many w r (p ∷ ps) =
    withdrawn_many (withdrawn w r p) r ps
    ∙ length_set_numbered (forgotten w p (list_in ((process_at w p).state))).processes p (record (process_at w p) { woken = woken_by r (process_at w p) })
    ∙ forgotten_many w p (list_in ((process_at w p).state))

joined_many : (w : World) (p : ℕ) (seen rs : List Reference) → many (joined_all w p seen rs) ≡ many w
joined_many w p seen [] = refl
joined_many w p seen (r ∷ rs) =
    let next : World = change_event w r (deed (deeds.tests test.WaitAny) p (event_at w r)).change in
    by_bool (reference_is_among seen r) (joined_many w p (r ∷ seen) rs) (joined_many next p (r ∷ seen) rs ∙ changed_many w r (deed (deeds.tests test.WaitAny) p (event_at w r)).change)
  where
    by_bool : (b : Bool) → many (joined_all w p (r ∷ seen) rs) ≡ many w →
        many (joined_all (change_event w r (deed (deeds.tests test.WaitAny) p (event_at w r)).change) p (r ∷ seen) rs) ≡ many w →
        many (if b then joined_all w p (r ∷ seen) rs else (joined_all (change_event w r (deed (deeds.tests test.WaitAny) p (event_at w r)).change) p (r ∷ seen) rs)) ≡ many w
    by_bool true e f = e
    by_bool false e f = f

released_many : (w : World) (r : Reference) (d : Deed) → many ((released w r d).world) ≡ many w
released_many w r d =
    able_many (all_withdrawn (change_event w r d.change) r d.withdraws) d.frees ∙ withdrawn_many (change_event w r d.change) r d.withdraws ∙ changed_many w r d.change

task_many : (w : World) (p : ℕ) (t : Option Reference) → many ((caused_by_end w p t).world) ≡ many w
task_many w p None = refl
task_many w p (Some r) = released_many w r (deed (deeds.acts act.Cause) p (event_at w r))

-- ---- choices

-- an action that may release others, also where its process has no task
abbrev pub is_releasing : Letter → Bool
is_releasing actions.Cause = true
is_releasing actions.CauseAndReset = true
is_releasing actions.Liberate = true
is_releasing _ = false

-- it starts nobody
pub record StartsNone (w : World) (c : Choice) : Type 0 where
  pub none : c.started ≡ None
  pub same : length c.world.processes ≡ length w.processes

-- it starts the next process
pub record StartsNext (w : World) (c : Choice) : Type 0 where
  pub next : c.started ≡ Some (length w.processes + 1)
  pub more : length c.world.processes ≡ length w.processes + 1

-- where this action ends a process, that has no task
abbrev pub EndsIdle : Option Reference → Letter → Type 0
EndsIdle task actions.End = task ≡ None
EndsIdle task _ = Unit {0}

-- it releases nobody: it is no action on an event, nor the end of a process that has a task
pub record ReleasesNone (task : Option Reference) (c : Choice) : Type 0 where
  pub none : c.released ≡ []
  pub calm : is_releasing c.action ≡ false
  pub idle : EndsIdle task c.action

-- the head asks for no start of a process, and for no statement on an event
abbrev pub NoStart : Ask → Type 0
NoStart (starts n gs task) = ⊥
NoStart _ = Unit {0}

abbrev pub NoEvent : Ask → Type 0
NoEvent (event_deed (deeds.acts x) ns) = ⊥
NoEvent _ = Unit {0}

-- the head does not ask that the last part of a process that has a task be left
abbrev pub NoTask : Option Reference → List Part → Ask → Type 0
NoTask task outer (leaves a) = outer ≡ [] → task ≡ None
NoTask task outer _ = Unit {0}

module _ (sc : Scopes) (w : World) (p : ℕ) (q : Process) (part : Part) (outer : List Part) where
  abbrev Stays : Choice → Type 0
  Stays c = StartsNone w c

  -- the process goes on in this world
  set : (after : World) (x : Process) → many after ≡ many w → length (set_numbered after.processes p x) ≡ length w.processes
  set after x e = length_set_numbered after.processes p x ∙ e

  fails_stays : (k : FaultKind) → Stays (choices.fails sc w p q part outer k)
  fails_stays k = record { none = refl; same = refl }

  goes_stays : (action : Letter) (after : World) (a : Answer) → many after ≡ many w → Stays (choices.goes sc w p q part outer action after a)
  goes_stays action after a e = record { none = refl; same = set after _ e }

  stops_stays : (action : Letter) (after : World) (s : State) → many after ≡ many w → Stays (choices.stops sc w p q part outer action after s)
  stops_stays action after s e = record { none = refl; same = set after _ e }

  releasing_stays : (action : Letter) (x : Released) (a : Answer) → many x.world ≡ many w → Stays (choices.goes_releasing sc w p q part outer action x a)
  releasing_stays action x a e = record { none = refl; same = set x.world _ e }

  by_bool : (b : Bool) (c d : Choice) → Stays c → Stays d → Stays (if b then c else d)
  by_bool true c d x y = x
  by_bool false c d x y = y

  read_stays : (c : Cell) → Stays (choices.read_of sc w p q part outer c)
  read_stays (named n) = record { none = refl; same = length_set_numbered w.processes p _ }
  read_stays (reference r) = record { none = refl; same = length_set_numbered w.processes p _ }
  read_stays (simple v) = record { none = refl; same = length_set_numbered w.processes p _ }
  read_stays (event e) = record { none = refl; same = length_set_numbered w.processes p _ }
  read_stays (array a) = record { none = refl; same = length_set_numbered w.processes p _ }

  resolved_stays : (n : Named) (c : Cell) → Stays (choices.resolved_of sc w p q part outer n c)
  resolved_stays n (named c) = by_bool (is_subscripted c.actual) _ _ (record { none = refl; same = length_set_numbered w.processes p _ }) (fails_stays fault.NotAVariable)
  resolved_stays n (reference r) = record { none = refl; same = length_set_numbered w.processes p _ }
  resolved_stays n (simple v) = record { none = refl; same = length_set_numbered w.processes p _ }
  resolved_stays n (event e) = record { none = refl; same = length_set_numbered w.processes p _ }
  resolved_stays n (array a) = record { none = refl; same = length_set_numbered w.processes p _ }

  element_stays : (a : ArrayCell) (ks : List ℕ) (o : Option ℕ) → Stays (choices.element_read_at sc w p q part outer a ks o)
  element_stays a ks None = fails_stays fault.InvalidIndex
  element_stays a ks (Some k) = record { none = refl; same = length_set_numbered w.processes p _ }

  index_stays : (r : Reference) (ks : List ℕ) (o : Option ℕ) → Stays (choices.indexed_at sc w p q part outer r ks o)
  index_stays r ks None = fails_stays fault.InvalidIndex
  index_stays r ks (Some k) = record { none = refl; same = length_set_numbered w.processes p _ }

  stored_stays : (x : Place) (v : Value) → Stays (choices.stored sc w p q part outer x v)
  stored_stays (own n) v = record { none = refl; same = length_set_numbered w.processes p _ }
  stored_stays (there r) v = record { none = refl; same = length_set_numbered w.processes p _ }
  stored_stays (element_of r ks) v = record { none = refl; same = length_set_numbered w.processes p _ }

  evaluated_stays : (after : World) (a : Answer) (parts : List Part) → many after ≡ many w → Stays (choices.left_with sc w p q part outer after a parts)
  evaluated_stays after a [] e = record { none = refl; same = e }
  evaluated_stays after a (next ∷ parts) e = record { none = refl; same = set after _ e }

  over_stays : (a : Answer) (parts : List Part) → Stays (choices.left_or_ended sc w p q part outer a parts)
  over_stays a [] = record { none = refl; same = set ((caused_by_end (leave w (part.instance ∷ [])) p q.task).world) _ (task_many (leave w (part.instance ∷ [])) p q.task) }
  over_stays a (next ∷ parts) = evaluated_stays (leave w (part.instance ∷ [])) a (next ∷ parts) refl

  left_stays : (a : Answer) → Stays (choices.left_choice sc w p q part outer a)
  left_stays a =
      by_bool (is_evaluation part.purpose) _ _ (evaluated_stays w a outer refl)
      (by_bool (some_depends w.processes part.instance) _ _ (fails_stays fault.CriticalBlockExit) (over_stays a outer))

  gone_stays : (newer : List ℕ) (b : Block) (n : Named) (parts : List Part) → Stays (choices.gone sc w p q part outer newer b n parts)
  gone_stays newer b n [] = record { none = refl; same = refl }
  gone_stays newer b n (target ∷ parts) = record { none = refl; same = set (leave w newer) _ (left_many w newer) }

  gone_to_stays : (n : Named) (i : ℕ) (cut : Cut) → Stays (choices.gone_to sc w p q part outer n i cut)
  gone_to_stays n i cut =
      by_bool (some_depends_on_any w.processes (own_instances cut.newer)) _ _ (fails_stays fault.CriticalBlockExit)
      (gone_stays (own_instances cut.newer) (block_numbered sc.blocks ((instance_at w i).block)) n cut.from)

  goes_to_stays : (n : Named) (i : ℕ) → Stays (choices.goes_to sc w p q part outer n i)
  goes_to_stays n i = by_bool ((instance_at w i).process == p) _ _ (gone_to_stays n i (cut_at [] (part ∷ outer) i)) (fails_stays fault.BadGoTo)

  did_stays : (x : EventDeed) (r : Reference) (d : Deed) (n : Next) → Stays (choices.did sc w p q part outer x r d n)
  did_stays x r d deeds.goes = releasing_stays (deeds.letter_of x) (released w r d) (choices.told_answer sc w p q part outer d.answer) (released_many w r d)
  did_stays x r d deeds.waits = stops_stays (deeds.letter_of x) (released w r d).world _ (released_many w r d)
  did_stays x r d deeds.procures = stops_stays (deeds.letter_of x) (released w r d).world _ (released_many w r d)

  does_first_stays : (x : EventDeed) (ns : List Named) → Stays (choices.does_with_first sc w p q part outer x ns)
  does_first_stays x [] = record { none = refl; same = refl }
  does_first_stays x (n ∷ ns) =
      let r = followed w (choices.here sc w p q part outer n) in did_stays x r (deed x p (event_at w r)) ((deed x p (event_at w r)).next)

  waits_stay : (rs : List Reference) (o : Option ℕ) → Stays (choices.waits_for_any sc w p q part outer rs o)
  waits_stay rs None = record { none = refl; same = set (joined_all w p [] rs) (record q { state = waits_any rs }) (joined_many w p [] rs) }
  waits_stay rs (Some n) = record { none = refl; same = length_set_numbered w.processes p _ }

  wakes_stay : (woken : ℕ) (rs : List Reference) → Stays (choices.wakes_or_waits sc w p q part outer woken rs)
  wakes_stay zero rs = waits_stay rs (first_happened w rs)
  wakes_stay (suc n) rs = record { none = refl; same = length_set_numbered w.processes p _ }

  does_stays : (x : EventDeed) (ns : List Named) → Stays (choices.does_with sc w p q part outer x ns)
  does_stays x ns = by_bool (deeds.is_of_several x) _ _ (wakes_stay q.woken (choices.all_followed sc w p q part outer ns)) (does_first_stays x ns)

  arrays_stay : (kind : Kind) (ns : List Named) (bs : List Bounds) → Stays (choices.made_arrays sc w p q part outer kind ns bs)
  arrays_stay kind ns bs =
      by_bool (has_wrong_size bs) _ _ (fails_stays fault.ArraySize)
      (by_bool (has_no_room w bs ns) _ _ (fails_stays fault.CoreFull) (goes_stays actions.MakeArrays (add_cells w part.instance (new_arrays kind bs ns)) done refl))

  pub stays : (k : Ask) → NoStart k → StartsNone w (choice_of sc w p q part outer k)
  stays nothing h = record { none = refl; same = refl }
  stays (reads n) h = read_stays (cell_at w (choices.here sc w p q part outer n))
  stays (reads_element n ks v) h =
      element_stays (array_in (cell_at w (followed w (choices.here sc w p q part outer n)))) ks
      (subscript_place ((use_of sc n).sort) (array_in (cell_at w (followed w (choices.here sc w p q part outer n)))) ks (whole_of v))
  stays (indexes n ks v) h =
      index_stays (followed w (choices.here sc w p q part outer n)) ks
      (subscript_place ((use_of sc n).sort) (array_in (cell_at w (followed w (choices.here sc w p q part outer n)))) ks (whole_of v))
  stays (fails f) h = record { none = refl; same = refl }
  stays (enters n gs) h = record { none = refl; same = length_set_numbered w.processes p _ }
  stays (passes n) h = record { none = refl; same = length_set_numbered w.processes p _ }
  stays (resolves n) h = resolved_stays n (cell_at w (choices.here sc w p q part outer n))
  stays (reads_result name) h = record { none = refl; same = length_set_numbered w.processes p _ }
  stays (leaves a) h = left_stays a
  stays (stores x v) h = stored_stays x v
  stays (selects v ss) h = by_bool (nth_exists (whole_of v) ss) _ _ (goes_stays actions.Select w done refl) (fails_stays fault.CaseIndex)
  stays turns h = record { none = refl; same = length_set_numbered w.processes p _ }
  stays (goes_to n) h = goes_to_stays n (choices.home sc w p q part outer n)
  stays (enters_block b) h = record { none = refl; same = length_set_numbered w.processes p _ }
  stays (starts n gs task) h = absurd h
  stays (event_deed x ns) h = does_stays x ns
  stays (writes phrases vs) h = record { none = refl; same = length_set_numbered w.processes p _ }
  stays (makes_arrays kind ns pairs vs) h = arrays_stay kind ns (bounds_of pairs vs)
  stays (makes_event n) h = record { none = refl; same = length_set_numbered w.processes p _ }

  -- ---- whom it starts

  pub starts_next : (j parent : ℕ) (cells : List Cell) (task : Option Reference) → StartsNext w (choices.starts sc w p q part outer j parent cells task)
  starts_next j parent cells task =
      record { next = refl; more = length_set_numbered (w.processes ++ _ ∷ []) p _ ∙ length-append w.processes (_ ∷ []) ∙ omega arith }

  -- the process that it starts is the one that is added, and none goes
  record Told (c : Choice) : Type 0 where
    started : c.started ≡ started_between (length w.processes) (length c.world.processes)
    grows : length w.processes ≤ length c.world.processes

  none_more : (n : ℕ) → started_between n n ≡ None
  none_more n = ap (λ (b : Bool). if b then Some n else None) (not_less n)
    where
      not_less : (n : ℕ) → nat_lt n n ≡ false
      not_less n = grind (arith, nat_tests)

  one_more : (n : ℕ) → started_between n (n + 1) ≡ Some (n + 1)
  one_more n = ap (λ (b : Bool). if b then Some (n + 1) else None) (less n)
    where
      less : (n : ℕ) → nat_lt n (n + 1) ≡ true
      less n = grind (arith, nat_tests)

  none_told : (c : Choice) → StartsNone w c → Told c
  none_told c s =
      record { started = s.none ∙ sym (none_more (length w.processes)) ∙ ap (started_between (length w.processes)) (sym s.same); grows = omega (arith, s.same) }

  next_told : (c : Choice) → StartsNext w c → Told c
  next_told c s =
      record { started = s.next ∙ sym (one_more (length w.processes)) ∙ ap (started_between (length w.processes)) (sym s.more); grows = omega (arith, s.more) }

  told_by : (k : Ask) → Told (choice_of sc w p q part outer k)
  told_by nothing = none_told _ (stays nothing tt)
  told_by (reads n) = none_told _ (stays (reads n) tt)
  told_by (reads_element n ks v) = none_told _ (stays (reads_element n ks v) tt)
  told_by (indexes n ks v) = none_told _ (stays (indexes n ks v) tt)
  told_by (fails f) = none_told _ (stays (fails f) tt)
  told_by (enters n gs) = none_told _ (stays (enters n gs) tt)
  told_by (passes n) = none_told _ (stays (passes n) tt)
  told_by (resolves n) = none_told _ (stays (resolves n) tt)
  told_by (reads_result name) = none_told _ (stays (reads_result name) tt)
  told_by (leaves a) = none_told _ (stays (leaves a) tt)
  told_by (stores x v) = none_told _ (stays (stores x v) tt)
  told_by (selects v ss) = none_told _ (stays (selects v ss) tt)
  told_by turns = none_told _ (stays turns tt)
  told_by (goes_to n) = none_told _ (stays (goes_to n) tt)
  told_by (enters_block b) = none_told _ (stays (enters_block b) tt)
  told_by (starts n gs task) =
      by (nat_lt MOST_STARTED (length w.processes))
      (choices.starts sc w p q part outer (block_of_sort ((use_of sc n).sort)) (choices.home sc w p q part outer n) (choices.given_cells sc w p q part outer gs) (choices.task_of sc w p q part outer task))
      (starts_next (block_of_sort ((use_of sc n).sort)) (choices.home sc w p q part outer n) (choices.given_cells sc w p q part outer gs) (choices.task_of sc w p q part outer task))
    where
      by : (b : Bool) (c : Choice) → StartsNext w c → Told (if b then choices.fails sc w p q part outer fault.ProcessLimit else c)
      by true c s = none_told (choices.fails sc w p q part outer fault.ProcessLimit) (fails_stays fault.ProcessLimit)
      by false c s = next_told c s
  told_by (event_deed x ns) = none_told _ (stays (event_deed x ns) tt)
  told_by (writes phrases vs) = none_told _ (stays (writes phrases vs) tt)
  told_by (makes_arrays kind ns pairs vs) = none_told _ (stays (makes_arrays kind ns pairs vs) tt)
  told_by (makes_event n) = none_told _ (stays (makes_event n) tt)

  pub told_so : (k : Ask) → (choice_of sc w p q part outer k).started ≡ started_between (length w.processes) (length (choice_of sc w p q part outer k).world.processes)
  told_so k = (told_by k).started

  pub grows_so : (k : Ask) → length w.processes ≤ length (choice_of sc w p q part outer k).world.processes
  grows_so k = (told_by k).grows

  -- ---- whom it releases

  frees_if : (b : Bool) (c d : Choice) → ReleasesNone q.task c → ReleasesNone q.task d → ReleasesNone q.task (if b then c else d)
  frees_if true c d x y = x
  frees_if false c d x y = y

  frees_fails : (k : FaultKind) → ReleasesNone q.task (choices.fails sc w p q part outer k)
  frees_fails k = record { none = refl; calm = refl; idle = tt }

  frees_read : (c : Cell) → ReleasesNone q.task (choices.read_of sc w p q part outer c)
  frees_read (named n) = record { none = refl; calm = refl; idle = tt }
  frees_read (reference r) = record { none = refl; calm = refl; idle = tt }
  frees_read (simple v) = record { none = refl; calm = refl; idle = tt }
  frees_read (event e) = record { none = refl; calm = refl; idle = tt }
  frees_read (array a) = record { none = refl; calm = refl; idle = tt }

  frees_resolved : (n : Named) (c : Cell) → ReleasesNone q.task (choices.resolved_of sc w p q part outer n c)
  frees_resolved n (named c) = frees_if (is_subscripted c.actual) _ _ (record { none = refl; calm = refl; idle = tt }) (frees_fails fault.NotAVariable)
  frees_resolved n (reference r) = record { none = refl; calm = refl; idle = tt }
  frees_resolved n (simple v) = record { none = refl; calm = refl; idle = tt }
  frees_resolved n (event e) = record { none = refl; calm = refl; idle = tt }
  frees_resolved n (array a) = record { none = refl; calm = refl; idle = tt }

  frees_element : (a : ArrayCell) (ks : List ℕ) (o : Option ℕ) → ReleasesNone q.task (choices.element_read_at sc w p q part outer a ks o)
  frees_element a ks None = record { none = refl; calm = refl; idle = tt }
  frees_element a ks (Some k) = record { none = refl; calm = refl; idle = tt }

  frees_index : (r : Reference) (ks : List ℕ) (o : Option ℕ) → ReleasesNone q.task (choices.indexed_at sc w p q part outer r ks o)
  frees_index r ks None = record { none = refl; calm = refl; idle = tt }
  frees_index r ks (Some k) = record { none = refl; calm = refl; idle = tt }

  frees_stored : (x : Place) (v : Value) → ReleasesNone q.task (choices.stored sc w p q part outer x v)
  frees_stored (own n) v = record { none = refl; calm = refl; idle = tt }
  frees_stored (there r) v = record { none = refl; calm = refl; idle = tt }
  frees_stored (element_of r ks) v = record { none = refl; calm = refl; idle = tt }

  frees_evaluated : (after : World) (a : Answer) (parts : List Part) → ReleasesNone q.task (choices.left_with sc w p q part outer after a parts)
  frees_evaluated after a [] = record { none = refl; calm = refl; idle = tt }
  frees_evaluated after a (next ∷ parts) = record { none = refl; calm = refl; idle = tt }

  frees_over : (a : Answer) (parts : List Part) → (parts ≡ [] → q.task ≡ None) → ReleasesNone q.task (choices.left_or_ended sc w p q part outer a parts)
  frees_over a [] idle = record { none = ap (λ (t : Option Reference). (caused_by_end (leave w (part.instance ∷ [])) p t).processes) (idle refl); calm = refl; idle = idle refl }
  frees_over a (next ∷ parts) idle = record { none = refl; calm = refl; idle = tt }

  frees_left : (a : Answer) → (outer ≡ [] → q.task ≡ None) → ReleasesNone q.task (choices.left_choice sc w p q part outer a)
  frees_left a idle =
      frees_if (is_evaluation part.purpose) _ _ (frees_evaluated w a outer)
      (frees_if (some_depends w.processes part.instance) _ _ (frees_fails fault.CriticalBlockExit) (frees_over a outer idle))

  frees_gone : (newer : List ℕ) (b : Block) (n : Named) (parts : List Part) → ReleasesNone q.task (choices.gone sc w p q part outer newer b n parts)
  frees_gone newer b n [] = record { none = refl; calm = refl; idle = tt }
  frees_gone newer b n (target ∷ parts) = record { none = refl; calm = refl; idle = tt }

  frees_gone_to : (n : Named) (i : ℕ) (cut : Cut) → ReleasesNone q.task (choices.gone_to sc w p q part outer n i cut)
  frees_gone_to n i cut =
      frees_if (some_depends_on_any w.processes (own_instances cut.newer)) _ _ (frees_fails fault.CriticalBlockExit)
      (frees_gone (own_instances cut.newer) (block_numbered sc.blocks ((instance_at w i).block)) n cut.from)

  frees_waits : (rs : List Reference) (o : Option ℕ) → ReleasesNone q.task (choices.waits_for_any sc w p q part outer rs o)
  frees_waits rs None = record { none = refl; calm = refl; idle = tt }
  frees_waits rs (Some n) = record { none = refl; calm = refl; idle = tt }

  frees_wakes : (woken : ℕ) (rs : List Reference) → ReleasesNone q.task (choices.wakes_or_waits sc w p q part outer woken rs)
  frees_wakes zero rs = frees_waits rs (first_happened w rs)
  frees_wakes (suc n) rs = record { none = refl; calm = refl; idle = tt }

  frees_tested : (x : EventTest) (ns : List Named) → ReleasesNone q.task (choices.does_with sc w p q part outer (deeds.tests x) ns)
  frees_tested test.WaitAny ns = frees_wakes q.woken (choices.all_followed sc w p q part outer ns)
  frees_tested test.Happened [] = record { none = refl; calm = refl; idle = tt }
  frees_tested test.Available [] = record { none = refl; calm = refl; idle = tt }
  frees_tested test.Fix [] = record { none = refl; calm = refl; idle = tt }
  frees_tested test.Happened (n ∷ ns) = record { none = refl; calm = refl; idle = tt }
  frees_tested test.Available (n ∷ ns) = record { none = refl; calm = refl; idle = tt }
  frees_tested test.Fix (n ∷ ns) = record { none = refl; calm = refl; idle = tt }

  pub frees : (k : Ask) → NoEvent k → NoTask q.task outer k → ReleasesNone q.task (choice_of sc w p q part outer k)
  frees nothing h idle = record { none = refl; calm = refl; idle = tt }
  frees (reads n) h idle = frees_read (cell_at w (choices.here sc w p q part outer n))
  frees (reads_element n ks v) h idle =
      frees_element (array_in (cell_at w (followed w (choices.here sc w p q part outer n)))) ks
      (subscript_place ((use_of sc n).sort) (array_in (cell_at w (followed w (choices.here sc w p q part outer n)))) ks (whole_of v))
  frees (indexes n ks v) h idle =
      frees_index (followed w (choices.here sc w p q part outer n)) ks
      (subscript_place ((use_of sc n).sort) (array_in (cell_at w (followed w (choices.here sc w p q part outer n)))) ks (whole_of v))
  frees (fails f) h idle = record { none = refl; calm = refl; idle = tt }
  frees (enters n gs) h idle = record { none = refl; calm = refl; idle = tt }
  frees (passes n) h idle = record { none = refl; calm = refl; idle = tt }
  frees (resolves n) h idle = frees_resolved n (cell_at w (choices.here sc w p q part outer n))
  frees (reads_result name) h idle = record { none = refl; calm = refl; idle = tt }
  frees (leaves a) h idle = frees_left a idle
  frees (stores x v) h idle = frees_stored x v
  frees (selects v ss) h idle = frees_if (nth_exists (whole_of v) ss) _ _ (record { none = refl; calm = refl; idle = tt }) (frees_fails fault.CaseIndex)
  frees turns h idle = record { none = refl; calm = refl; idle = tt }
  frees (goes_to n) h idle =
      frees_if ((instance_at w (choices.home sc w p q part outer n)).process == p) _ _
      (frees_gone_to n (choices.home sc w p q part outer n) (cut_at [] (part ∷ outer) (choices.home sc w p q part outer n))) (frees_fails fault.BadGoTo)
  frees (enters_block b) h idle = record { none = refl; calm = refl; idle = tt }
  frees (starts n gs task) h idle =
      frees_if (nat_lt MOST_STARTED (length w.processes)) _ _ (frees_fails fault.ProcessLimit) (record { none = refl; calm = refl; idle = tt })
  frees (event_deed (deeds.acts x) ns) h idle = absurd h
  frees (event_deed (deeds.tests x) ns) h idle = frees_tested x ns
  frees (writes phrases vs) h idle = record { none = refl; calm = refl; idle = tt }
  frees (makes_arrays kind ns pairs vs) h idle =
      frees_if (has_wrong_size (bounds_of pairs vs)) _ _ (frees_fails fault.ArraySize)
      (frees_if (has_no_room w (bounds_of pairs vs) ns) _ _ (frees_fails fault.CoreFull) (record { none = refl; calm = refl; idle = tt }))
  frees (makes_event n) h idle = record { none = refl; calm = refl; idle = tt }

-- ---- the choice of a process

pub none_added : (n : ℕ) → None ≡ started_between n n
none_added n = sym (ap (λ (b : Bool). if b then Some n else None) (not_less n))
  where
    not_less : (n : ℕ) → nat_lt n n ≡ false
    not_less n = grind (arith, nat_tests)

-- a choice starts who is added
pub starts_who_is_added : (sc : Scopes) (w : World) (p : ℕ) → (choice sc w p).started ≡ started_between (length w.processes) (length (choice sc w p).world.processes)
unfolding choice
starts_who_is_added sc w p = by (process_at w p) ((process_at w p).todo)
  where
    by : (q : Process) (parts : List Part) → (choice_in sc w p q parts).started ≡ started_between (length w.processes) (length (choice_in sc w p q parts).world.processes)
    by q [] = none_added (length w.processes)
    by q (part ∷ outer) = told_so sc w p q part outer (ask part.rest)

-- no process goes
pub processes_stay : (sc : Scopes) (w : World) (p : ℕ) → length w.processes ≤ length (choice sc w p).world.processes
unfolding choice
processes_stay sc w p = by (process_at w p) ((process_at w p).todo)
  where
    by : (q : Process) (parts : List Part) → length w.processes ≤ length (choice_in sc w p q parts).world.processes
    by q [] = omega arith
    by q (part ∷ outer) = grows_so sc w p q part outer (ask part.rest)
