-- Each action leaves every part standing.
use Rattle.std.proofs.Common.{◌≡◌, refl, sym, ap, subst, ◌∙◌, ℕ, zero, suc, List, [], ◌∷◌, ◌++◌, length, Option, Some, None, Bool, true, false}
use Rattle.std.specs.Prelude.{pos, if◌then◌else◌, nat_lt, ◌==◌, slice_get}
use Rattle.b67_list.specs.Numbered.{numbered}
use Rattle.b67_num.specs.declared.FaultKind.TheVariants as fault
use Rattle.algol_tree.specs.declared.tree.Kind.{Kind}
use Rattle.algol_tree.specs.declared.tree.Named.{Named}
use Rattle.b67_deeds.specs.declared.EventAct.TheVariants as act
use Rattle.algol_tree.specs.Plain as tree
use Rattle.algol_tree.specs.Plain.{PExpr, PProgram}
use Rattle.algol_tree.specs.Blocks.{Block, block_numbered, number_at, spot_of}
use Rattle.algol_tree.specs.Scopes.{Scopes, scopes_of, use_of}
use Rattle.algol_meaning.specs.declared.TheConstants.{MOST_STARTED}
use Rattle.algol_meaning.specs.Value.{Value, number, whole_of, Reference, Bounds, ArrayCell, Cell, simple, event, array, named, reference}
use Rattle.b67_deeds.specs.Events.{EventState, fresh_state}
use Rattle.b67_deeds.specs.Deeds as deeds
use Rattle.b67_deeds.specs.Deeds.{EventDeed, Deed, Next, deed}
use Rattle.algol_meaning.specs.Rest as rests
use Rattle.algol_meaning.specs.Rest.{HalfPlace, Place, own, there, element_of, Rest, Answer, done, value, cell, place, entered}
use Rattle.algol_meaning.specs.Settle.{block_of_sort, settle, settle_actual_place}
use Rattle.algol_meaning.specs.Statements.{settle_items, items_of, items_from}
use Rattle.algol_meaning.specs.World.{State, Purpose, able, started, waits_for, procures, waits_any, ended, block, procedure, name_read, name_place, add_cells, Part, Process, World, instance_at, cell_at, set_cell, followed, process_at, with_process, value_in, array_in}
use Rattle.algol_meaning.specs.Critical.{some_depends, some_depends_on_any, is_evaluation, own_instances, newest_first, first_on_path, referred_by, referred_by_task}
use Rattle.algol_meaning.specs.Instances.{leave, Cut, cut_at}
use Rattle.algol_meaning.specs.Arrays.{has_wrong_size, has_no_room, bounds_of, subscript_place, element_at, with_element, new_arrays}
use Rattle.algol_meaning.specs.Events.{event_at, change_event, first_happened, joined_all, all_withdrawn, released, caused_by_end}
use Rattle.algol_meaning.specs.Lines.{line_of}
use Rattle.b67_deeds.specs.declared.Letter.TheVariants as actions
use Rattle.b67_deeds.specs.declared.Letter.{Letter}
use Rattle.algol_meaning.specs.Asks as asks
use Rattle.algol_meaning.specs.Asks.{Ask, ask, resume, evaluated_of, located_of}
use Rattle.algol_meaning.specs.Choice.{Choice, choice, choice_in, choice_of, nth_exists, is_subscripted, answered, goes, stops, opens, fails, home, here, read_of, resolved_of, indexed_at, element_read_at, stored, given_cells, with_new_instance, new_part, left_with, left_or_ended, left_choice, gone, gone_to, goes_to, task_of, with_started, next_process, starts, told_answer, did, does_with_first, all_followed, waits_for_any, wakes_or_waits, does_with, made_arrays}
use Rattle.algol_meaning.specs.Run.{start, may_go, after_entry, run_from, run}
use Rattle.algol_meaning.proofs.Cited.{joined_processes, leave_processes}
use Rattle.algol_laws.proofs.Growing.{none_left}
use Rattle.algol_laws.specs.Heads.{EachPartActs}
use Rattle.algol_laws.proofs.Heads.{acts_rest, is_answer, is_place, awaits_place_in, settle_acts, place_acts, evaluated_acts, located_acts, items_act, resume_acts}
use Rattle.algol_laws.proofs.Standing.{is_place_purpose, gives_place, gives_still, leaves_answer, leaves_place, answers, places, asks_place, awaiting_asks, opens_plain, opened, Shaped, Around, Stands, AllStand, Target, all_numbered, all_more, all_at, all_able, all_woken, cut_stands}

module _ (sc : Scopes) (w : World) (p : ℕ) (q : Process) (part : Part) (outer : List Part) (all : AllStand sc w.processes)
    (its : Stands sc q.todo) (ready : acts_rest part.rest ≡ true) (shaped : Shaped sc part) (around : Around sc part.purpose outer) where
  abbrev Good : Choice → Type 0
  Good c = AllStand sc c.world.processes

  either : (b : Bool) (c d : Choice) → Good c → Good d → Good (if b then c else d)
  either true c d f g = f
  either false c d f g = g

  -- the process has these parts now
  sets : (after : World) (r : Process) → AllStand sc after.processes → Stands sc r.todo → AllStand sc ((with_process after p r).processes)
  sets after r f g = all_numbered sc after.processes p r f g

  -- the part has gone on
  on : (a : Answer) → is_answer a ≡ true → (awaits_place_in part.rest ≡ true → is_place a ≡ true) → Stands sc (answered sc w p q part outer a ∷ outer)
  on a e f = (resume_acts sc part.rest a e f, (λ g. gives_still sc part.rest a (shaped g)), around)

  goes_good : (action : Letter) (after : World) (a : Answer) → AllStand sc after.processes → is_answer a ≡ true → (awaits_place_in part.rest ≡ true → is_place a ≡ true) →
      Good (goes sc w p q part outer action after a)
  goes_good action after a f e g = sets after (record q { todo = answered sc w p q part outer a ∷ outer }) f (on a e g)

  stops_good : (action : Letter) (after : World) (state : State) → AllStand sc after.processes → (awaits_place_in part.rest ≡ true → is_place done ≡ true) →
      Good (stops sc w p q part outer action after state)
  stops_good action after state f g = sets after (record q { todo = answered sc w p q part outer done ∷ outer; state = state }) f (on done refl g)

  opens_good : (after : World) (x : Part) → AllStand sc after.processes → acts_rest x.rest ≡ true → Shaped sc x →
      (awaits_place_in (resume sc part.rest entered) ≡ true → is_place_purpose x.purpose ≡ true) → Good (opens sc w p q part outer after x)
  opens_good after x f e g h =
      sets after (record q { todo = x ∷ answered sc w p q part outer entered ∷ outer }) f
      (e, g, ((λ a i j. resume_acts sc (resume sc part.rest entered) a i (λ k. j (h k))), (λ i. gives_still sc part.rest entered (shaped i)), around))

  -- no place is awaited
  abbrev Plain : Type 0
  Plain = awaits_place_in part.rest ≡ true → ⊥

  plain : (a : Ask) → ask part.rest ≡ a → asks_place a ≡ false → Plain
  plain a e f g = let same : asks_place a ≡ true = sym (ap asks_place e) ∙ awaiting_asks part.rest g in cc

  goes_plain : (action : Letter) (after : World) (a : Answer) → AllStand sc after.processes → is_answer a ≡ true → Plain → Good (goes sc w p q part outer action after a)
  goes_plain action after a f e n = goes_good action after a f e (λ g. absurd (n g))

  opens_here : (a : Ask) → ask part.rest ≡ a → opens_plain a ≡ true → (after : World) (x : Part) → AllStand sc after.processes → acts_rest x.rest ≡ true → Shaped sc x →
      Good (opens sc w p q part outer after x)
  opens_here a e f after x g h i =
      opens_good after x g h i
      (λ j. let one : awaits_place_in (resume sc part.rest entered) ≡ false = opened sc part.rest (ap opens_plain e ∙ f) in cc)

  -- ---- names
  read_good : (n : Named) (c : Cell) → ask part.rest ≡ asks.reads n → Good (read_of sc w p q part outer c)
  read_good n (named c) e =
      opens_here (asks.reads n) e refl w (record { instance = c.instance; purpose = name_read; rest = evaluated_of (settle sc c.actual) }) all
      (evaluated_acts (settle sc c.actual) (settle_acts sc c.actual)) (λ f. cc)
  read_good n (reference r) e = goes_plain actions.Read w (value (value_in (cell_at w r))) all refl (plain (asks.reads n) e refl)
  read_good n (simple v) e = goes_plain actions.Read w (value (value_in (simple v))) all refl (plain (asks.reads n) e refl)
  read_good n (event x) e = goes_plain actions.Read w (value (value_in (event x))) all refl (plain (asks.reads n) e refl)
  read_good n (array a) e = goes_plain actions.Read w (value (value_in (array a))) all refl (plain (asks.reads n) e refl)

  place_ready : (e : PExpr) → is_subscripted e ≡ true → acts_rest (located_of (settle_actual_place sc e)) ≡ true
  place_ready (tree.variable v) f = located_acts (settle_actual_place sc (tree.variable v)) (place_acts sc v)
  place_ready _ f = cc

  place_shaped : (x : HalfPlace) → gives_place (located_of x) ≡ true
  place_shaped (rests.at r) = refl
  place_shaped (rests.aims x) = refl

  resolved_good : (n : Named) (c : Cell) → Good (resolved_of sc w p q part outer n c)
  resolved_good n (named c) = by (is_subscripted c.actual) refl
    where
      by : (b : Bool) → is_subscripted c.actual ≡ b →
          Good (if b then opens sc w p q part outer w (record { instance = c.instance; purpose = name_place; rest = located_of (settle_actual_place sc c.actual) })
          else fails sc w p q part outer fault.NotAVariable)
      by true e =
          opens_good w (record { instance = c.instance; purpose = name_place; rest = located_of (settle_actual_place sc c.actual) }) all
          (place_ready c.actual e) (λ f. place_shaped (settle_actual_place sc c.actual)) (λ f. refl)
      by false e = all
  resolved_good n (reference r) = goes_good actions.Resolve w (place (there r)) all refl (λ f. refl)
  resolved_good n (simple v) = goes_good actions.Resolve w (place (there (here sc w p q part outer n))) all refl (λ f. refl)
  resolved_good n (event x) = goes_good actions.Resolve w (place (there (here sc w p q part outer n))) all refl (λ f. refl)
  resolved_good n (array a) = goes_good actions.Resolve w (place (there (here sc w p q part outer n))) all refl (λ f. refl)

  indexed_good : (r : Reference) (ks : List ℕ) (o : Option ℕ) → Good (indexed_at sc w p q part outer r ks o)
  indexed_good r ks None = all
  indexed_good r ks (Some k) = goes_good actions.Index w (place (element_of r (ks ++ k ∷ []))) all refl (λ f. refl)

  element_good : (a : ArrayCell) (ks : List ℕ) (o : Option ℕ) → Plain → Good (element_read_at sc w p q part outer a ks o)
  element_good a ks None n = all
  element_good a ks (Some k) n = goes_plain actions.ElementRead w (value (element_at a (ks ++ k ∷ []))) all refl n

  stored_good : (x : Place) (v : Value) → Plain → Good (stored sc w p q part outer x v)
  stored_good (own m) v n = goes_plain actions.Store (set_cell w (here sc w p q part outer m) (simple v)) done all refl n
  stored_good (there r) v n = goes_plain actions.Store (set_cell w r (simple v)) done all refl n
  stored_good (element_of r ks) v n =
      goes_plain actions.ElementStore (set_cell w r (array (with_element (array_in (cell_at w r)) ks v))) done all refl n

  -- ---- entering and leaving
  new_part_ready : (j : ℕ) (purpose : Purpose) → acts_rest ((new_part sc w p q part outer j purpose).rest) ≡ true
  new_part_ready j purpose = items_act sc (items_of (block_numbered sc.blocks j))

  left_with_good : (after : World) (a : Answer) (parts : List Part) → AllStand sc after.processes → Around sc part.purpose parts → is_answer a ≡ true →
      (is_place_purpose part.purpose ≡ true → is_place a ≡ true) → Good (left_with sc w p q part outer after a parts)
  left_with_good after a [] f g e h = f
  left_with_good after a (next ∷ parts) f g e h =
      sets after (record q { todo = record next { rest = resume sc next.rest a } ∷ parts }) f
      (g.0 a e h, (λ i. gives_still sc next.rest a (g.1 i)), g.2)

  left_all : (is : List ℕ) → AllStand sc ((leave w is).processes)
  left_all is = subst (λ qs. AllStand sc qs) (sym (leave_processes w is)) all

  changed_good : (before : World) (r : Reference) (change : Option (EventState → EventState)) → AllStand sc before.processes →
      AllStand sc (change_event before r change).processes
  changed_good before r None f = f
  changed_good before r (Some change) f = f

  released_good : (before : World) (r : Reference) (d : Deed) → AllStand sc before.processes → AllStand sc ((released before r d).world.processes)
  released_good before r d f =
      all_able sc (all_withdrawn (change_event before r d.change) r d.withdraws) d.frees
      (all_woken sc (change_event before r d.change) r d.withdraws (changed_good before r d.change f))

  by_end_good : (before : World) (o : Option Reference) → AllStand sc before.processes → AllStand sc ((caused_by_end before p o).world.processes)
  by_end_good before None f = f
  by_end_good before (Some r) f = released_good before r (deed (deeds.acts act.Cause) p (event_at before r)) f

  left_or_ended_good : (a : Answer) (parts : List Part) → Around sc part.purpose parts → is_answer a ≡ true →
      (is_place_purpose part.purpose ≡ true → is_place a ≡ true) → Good (left_or_ended sc w p q part outer a parts)
  left_or_ended_good a [] g e h =
      sets ((caused_by_end (leave w (part.instance ∷ [])) p q.task).world) (record q { todo = []; state = ended })
      (by_end_good (leave w (part.instance ∷ [])) q.task (left_all (part.instance ∷ []))) (record {})
  left_or_ended_good a (next ∷ parts) g e h = left_with_good (leave w (part.instance ∷ [])) a (next ∷ parts) (left_all (part.instance ∷ [])) g e h

  left_good : (a : Answer) → ask part.rest ≡ asks.leaves a → Good (left_choice sc w p q part outer a)
  left_good a e =
      either (is_evaluation part.purpose) (left_with sc w p q part outer w a outer)
      (if some_depends w.processes part.instance then fails sc w p q part outer fault.CriticalBlockExit else left_or_ended sc w p q part outer a outer)
      (left_with_good w a outer all around answer of_place)
      (either (some_depends w.processes part.instance) (fails sc w p q part outer fault.CriticalBlockExit) (left_or_ended sc w p q part outer a outer)
      all (left_or_ended_good a outer around answer of_place))
    where
      answer : is_answer a ≡ true
      answer = sym (ap leaves_answer e) ∙ answers part.rest

      of_place : is_place_purpose part.purpose ≡ true → is_place a ≡ true
      of_place f = sym (ap leaves_place e) ∙ places part.rest (shaped f)

  -- ---- GO TO
  gone_good : (newer : List ℕ) (b : Block) (n : Named) (parts : List Part) → Target sc parts → Good (gone sc w p q part outer newer b n parts)
  gone_good newer b n [] f = all
  gone_good newer b n (target ∷ parts) f =
      sets (leave w newer) (record q { todo = record target { rest = settle_items sc (items_from b n.name) } ∷ parts }) (left_all newer)
      (items_act sc (items_from b n.name), (λ g. let not_so = f.0 in cc), f.1)

  goes_to_good : (n : Named) (i : ℕ) → Good (goes_to sc w p q part outer n i)
  goes_to_good n i =
      either ((instance_at w i).process == p) (gone_to sc w p q part outer n i cut) (fails sc w p q part outer fault.BadGoTo)
      (either (some_depends_on_any w.processes (own_instances cut.newer)) (fails sc w p q part outer fault.CriticalBlockExit)
      (gone sc w p q part outer (own_instances cut.newer) b n cut.from) all
      (gone_good (own_instances cut.newer) b n cut.from (cut_stands sc [] (part ∷ outer) i around)))
      all
    where
      cut : Cut
      cut = cut_at [] (part ∷ outer) i

      b : Block
      b = block_numbered sc.blocks ((instance_at w i).block)

  -- ---- processes
  starts_good : (j parent : ℕ) (cells : List Cell) (task : Option Reference) → Plain → Good (starts sc w p q part outer j parent cells task)
  starts_good j parent cells task n =
      goes_plain actions.Start
      (with_started sc w p q part outer (with_new_instance sc w p q part outer j parent (next_process sc w p q part outer) cells) j cells task parent) done
      (all_more sc w.processes
      (record {
        todo = new_part sc w p q part outer j started ∷ [];
        critical = Some (first_on_path w (newest_first 1 w.instances []) p (parent ∷ referred_by cells ++ referred_by_task task));
        task = task;
        state = able;
        woken = 0;
      }) all (new_part_ready j started, (λ f. cc), record {})) refl n

  -- ---- events
  told_answers : (o : Option Bool) → is_answer (told_answer sc w p q part outer o) ≡ true
  told_answers None = refl
  told_answers (Some b) = refl

  did_good : (x : EventDeed) (r : Reference) (d : Deed) (n : Next) → Plain → Good (did sc w p q part outer x r d n)
  did_good x r d deeds.goes n = goes_plain (deeds.letter_of x) (released w r d).world (told_answer sc w p q part outer d.answer) (released_good w r d all) (told_answers d.answer) n
  did_good x r d deeds.waits n = stops_good (deeds.letter_of x) (released w r d).world (waits_for r) (released_good w r d all) (λ f. absurd (n f))
  did_good x r d deeds.procures n = stops_good (deeds.letter_of x) (released w r d).world (procures r) (released_good w r d all) (λ f. absurd (n f))

  first_good : (x : EventDeed) (ns : List Named) → Plain → Good (does_with_first sc w p q part outer x ns)
  first_good x [] n = all
  first_good x (m ∷ ns) n =
      let r = followed w (here sc w p q part outer m) in did_good x r (deed x p (event_at w r)) ((deed x p (event_at w r)).next) n

  -- who waits for several has to do what it had
  waits_for_any_good : (rs : List Reference) (o : Option ℕ) → Plain → Good (waits_for_any sc w p q part outer rs o)
  waits_for_any_good rs None n =
      sets (joined_all w p [] rs) (record q { state = waits_any rs }) (subst (λ qs. AllStand sc qs) (sym (joined_processes w p [] rs)) all) its
  waits_for_any_good rs (Some k) n = goes_plain actions.WaitAny w (value (number (pos k))) all refl n

  several_good : (woken : ℕ) (rs : List Reference) → Plain → Good (wakes_or_waits sc w p q part outer woken rs)
  several_good zero rs n = waits_for_any_good rs (first_happened w rs) n
  several_good (suc k) rs n =
      sets w (record q { todo = answered sc w p q part outer (value (number (pos (suc k)))) ∷ outer; woken = 0 }) all
      (on (value (number (pos (suc k)))) refl (λ g. absurd (n g)))

  does_good : (x : EventDeed) (ns : List Named) → Plain → Good (does_with sc w p q part outer x ns)
  does_good x ns n =
      either (deeds.is_of_several x) (wakes_or_waits sc w p q part outer q.woken (all_followed sc w p q part outer ns)) (does_with_first sc w p q part outer x ns)
      (several_good q.woken (all_followed sc w p q part outer ns) n) (first_good x ns n)

  -- ---- arrays and events
  arrays_good : (kind : Kind) (ns : List Named) (bs : List Bounds) → Plain → Good (made_arrays sc w p q part outer kind ns bs)
  arrays_good kind ns bs n =
      either (has_wrong_size bs) (fails sc w p q part outer fault.ArraySize)
      (if has_no_room w bs ns then fails sc w p q part outer fault.CoreFull
      else goes sc w p q part outer actions.MakeArrays (add_cells w part.instance (new_arrays kind bs ns)) done) all
      (either (has_no_room w bs ns) (fails sc w p q part outer fault.CoreFull)
      (goes sc w p q part outer actions.MakeArrays (add_cells w part.instance (new_arrays kind bs ns)) done) all
      (goes_plain actions.MakeArrays (add_cells w part.instance (new_arrays kind bs ns)) done all refl n))

  -- ---- all
  choice_good : (a : Ask) → ask part.rest ≡ a → Good (choice_of sc w p q part outer a)
  choice_good asks.nothing e = all
  choice_good (asks.reads n) e = read_good n (cell_at w (here sc w p q part outer n)) e
  choice_good (asks.reads_element n ks v) e =
      element_good (array_in (cell_at w (followed w (here sc w p q part outer n)))) ks
      (subscript_place ((use_of sc n).sort) (array_in (cell_at w (followed w (here sc w p q part outer n)))) ks (whole_of v))
      (plain (asks.reads_element n ks v) e refl)
  choice_good (asks.indexes n ks v) e =
      indexed_good (followed w (here sc w p q part outer n)) ks
      (subscript_place ((use_of sc n).sort) (array_in (cell_at w (followed w (here sc w p q part outer n)))) ks (whole_of v))
  choice_good (asks.fails f) e = all
  choice_good (asks.enters n gs) e =
      opens_here (asks.enters n gs) e refl
      (with_new_instance sc w p q part outer (block_of_sort ((use_of sc n).sort)) (home sc w p q part outer n) p (given_cells sc w p q part outer gs))
      (new_part sc w p q part outer (block_of_sort ((use_of sc n).sort)) procedure) all (new_part_ready (block_of_sort ((use_of sc n).sort)) procedure) (λ f. cc)
  choice_good (asks.passes n) e = goes_plain actions.Pass w (cell (cell_at w (here sc w p q part outer n))) all refl (plain (asks.passes n) e refl)
  choice_good (asks.resolves n) e = resolved_good n (cell_at w (here sc w p q part outer n))
  choice_good (asks.reads_result name) e =
      goes_plain actions.Read w (value (value_in (cell_at w (record { instance = part.instance; name = name })))) all refl (plain (asks.reads_result name) e refl)
  choice_good (asks.leaves a) e = left_good a e
  choice_good (asks.stores x v) e = stored_good x v (plain (asks.stores x v) e refl)
  choice_good (asks.selects v ss) e =
      either (nth_exists (whole_of v) ss) (goes sc w p q part outer actions.Select w done) (fails sc w p q part outer fault.CaseIndex)
      (goes_plain actions.Select w done all refl (plain (asks.selects v ss) e refl)) all
  choice_good asks.turns e = goes_plain actions.Turn w done all refl (plain asks.turns e refl)
  choice_good (asks.goes_to n) e = goes_to_good n (home sc w p q part outer n)
  choice_good (asks.enters_block b) e =
      opens_here (asks.enters_block b) e refl
      (with_new_instance sc w p q part outer (number_at sc.blocks (spot_of b)) part.instance p [])
      (new_part sc w p q part outer (number_at sc.blocks (spot_of b)) block) all (new_part_ready (number_at sc.blocks (spot_of b)) block) (λ f. cc)
  choice_good (asks.starts n gs task) e =
      either (nat_lt MOST_STARTED (length w.processes)) (fails sc w p q part outer fault.ProcessLimit)
      (starts sc w p q part outer (block_of_sort ((use_of sc n).sort)) (home sc w p q part outer n) (given_cells sc w p q part outer gs) (task_of sc w p q part outer task))
      all
      (starts_good (block_of_sort ((use_of sc n).sort)) (home sc w p q part outer n) (given_cells sc w p q part outer gs) (task_of sc w p q part outer task) (plain (asks.starts n gs task) e refl))
  choice_good (asks.event_deed x ns) e = does_good x ns (plain (asks.event_deed x ns) e refl)
  choice_good (asks.writes phrases vs) e =
      goes_plain actions.Line (record w { output = w.output ++ line_of phrases vs ∷ [] }) done all refl (plain (asks.writes phrases vs) e refl)
  choice_good (asks.makes_arrays kind ns pairs vs) e = arrays_good kind ns (bounds_of pairs vs) (plain (asks.makes_arrays kind ns pairs vs) e refl)
  choice_good (asks.makes_event n) e =
      goes_plain actions.MakeEvent (add_cells w part.instance (record { name = n.name; cell = event fresh_state } ∷ [])) done all refl (plain (asks.makes_event n) e refl)

-- ---- runs
in_good : (sc : Scopes) (w : World) (p : ℕ) (q : Process) (parts : List Part) → AllStand sc w.processes → Stands sc q.todo → Stands sc parts → AllStand sc ((choice_in sc w p q parts).world.processes)
in_good sc w p q [] all its f = all
in_good sc w p q (part ∷ outer) all its f = choice_good sc w p q part outer all its f.0 f.1 f.2 (ask part.rest) refl

action_good : (sc : Scopes) (w : World) (p : ℕ) → AllStand sc w.processes → AllStand sc ((choice sc w p).world.processes)
unfolding choice
action_good sc w p all = in_good sc w p (process_at w p) ((process_at w p).todo) all (all_at sc w p all) (all_at sc w p all)

run_good : (sc : Scopes) (h : List ℕ) (w after : World) → AllStand sc w.processes → run_from sc h (Some w) ≡ Some after → AllStand sc after.processes
unfolding after_entry
run_good sc [] w after f e = let same : w ≡ after = cc in subst (λ (v : World). AllStand sc v.processes) same f
run_good sc (p ∷ h) w after f e = by (may_go w p) e (λ g. run_good sc h ((choice sc w p).world) after (action_good sc w p f) g)
  where
    by : (b : Bool) → run_from sc h (if b then Some ((choice sc w p).world) else None) ≡ Some after →
        (run_from sc h (Some ((choice sc w p).world)) ≡ Some after → AllStand sc after.processes) → AllStand sc after.processes
    by true g k = k g
    by false g k = absurd (none_left sc h after g)

start_good : (sc : Scopes) → AllStand sc ((start sc).processes)
unfolding start
start_good sc = ((items_act sc (items_of (block_numbered sc.blocks 0)), (λ e. cc), record {}), record {})

numbered_stands : (sc : Scopes) (qs : List Process) (i : ℕ) (q : Process) → AllStand sc qs → numbered qs i ≡ Some q → Stands sc q.todo
numbered_stands sc qs zero q f e = cc
numbered_stands sc qs (suc k) q f e = by qs k f e
  where
    by : (qs : List Process) (k : ℕ) → AllStand sc qs → slice_get qs k ≡ Some q → Stands sc q.todo
    by [] k f e = cc
    by (x ∷ qs) zero f e = let same : x ≡ q = cc in subst (λ (r : Process). Stands sc r.todo) same f.0
    by (x ∷ qs) (suc k) f e = by qs k f.1 e

pub each_acts : EachPartActs
unfolding run
each_acts source h w e p q part outer f g =
    (subst (λ parts. Stands (scopes_of source) parts) g
    (numbered_stands (scopes_of source) w.processes p q (run_good (scopes_of source) h (start (scopes_of source)) w (start_good (scopes_of source)) e) f)).0
