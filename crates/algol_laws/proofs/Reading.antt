-- What an action comes to depends on no cell but those that it reads.
use Rattle.std.proofs.Common.{◌≡◌, refl, sym, ap, ◌∙◌, ℕ, zero, suc, ◌+◌, List, [], ◌∷◌, ◌++◌, Option, Some, None, Bool, true, false, map, length}
use Rattle.std.specs.Prelude.{pos, if◌then◌else◌, ◌*◌, ◌==◌, nat_lt}
use Rattle.b67_list.specs.Numbered.{set_numbered}
use Rattle.algol_tree.specs.declared.tree.Kind.{Kind}
use Rattle.algol_tree.specs.declared.tree.Named.{Named}
use Rattle.b67_deeds.specs.declared.EventAct.TheVariants as act
use Rattle.b67_deeds.specs.declared.EventTest.TheVariants as test
use Rattle.algol_tree.specs.Blocks.{Block, spot_of, block_numbered, number_at}
use Rattle.algol_tree.specs.Scopes.{Scopes, use_of}
use Rattle.b67_num.specs.declared.FaultKind.{FaultKind}
use Rattle.b67_num.specs.declared.FaultKind.TheVariants as fault
use Rattle.b67_num.specs.Whole.{fault_of}
use Rattle.algol_meaning.specs.declared.TheConstants.{MOST_STARTED, MOST_ELEMENTS}
use Rattle.algol_meaning.specs.Value.{Value, number, whole_of, Reference, Bounds, ArrayCell, Cell, simple, event, array, named, reference}
use Rattle.b67_deeds.specs.Events.{fresh_state}
use Rattle.b67_deeds.specs.Deeds as deeds
use Rattle.b67_deeds.specs.Deeds.{EventDeed, Deed, Next, answers, deed}
use Rattle.algol_meaning.specs.Rest.{Place, own, there, element_of, Given, valued, passed, refers, names, Answer, done, value, cell, place, entered}
use Rattle.algol_meaning.specs.Settle.{block_of_sort, settle, settle_actual_place}
use Rattle.algol_meaning.specs.Statements.{settle_items, items_of, items_from}
use Rattle.algol_meaning.specs.World.{NamedCell, Instance, Purpose, block, procedure, name_read, name_place, started, Part, State, able, waits_for, procures, waits_any, ended, Process, World, instance_at, cell_at, set_cell, add_cells, by_cell, followed, value_in, array_in, event_in, process_at}
use Rattle.algol_meaning.specs.Critical.{some_depends, some_depends_on_any, is_evaluation, own_instances, newest_first, first_on_path, referred_by, referred_by_task}
use Rattle.algol_meaning.specs.Arrays.{subscript_place, element_at, with_element, elements_of, live_elements, new_arrays, has_wrong_size, has_no_room, bounds_of}
use Rattle.algol_meaning.specs.Events.{event_at, first_that, first_happened, Released, released, caused_by_end}
use Rattle.algol_meaning.specs.Lines.{line_of}
use Rattle.algol_meaning.specs.Instances.{fresh_cells, leave, Cut, cut_at}
use Rattle.b67_deeds.specs.declared.Letter.TheVariants as actions
use Rattle.b67_deeds.specs.declared.Letter.{Letter}
use Rattle.algol_meaning.specs.Asks as asks
use Rattle.algol_meaning.specs.Asks.{Ask, ask, resume, evaluated_of, located_of}
use Rattle.algol_meaning.specs.Choice as choices
use Rattle.algol_meaning.specs.Choice.{Choice, choice, choice_in, choice_of, chosen, answered, goes, goes_releasing, stops, opens, fails, home, here, read_of, is_subscripted, resolved_of, indexed_at, element_read_at, stored, given_cell, given_cells, with_new_instance, new_part, left_with, ended_releasing, left_or_ended, left_choice, gone, gone_to, goes_to, task_of, with_started, next_process, starts, did, deed_does, does_with_first, all_followed, waits_for_any, wakes_or_waits, does_with, made_arrays, nth_exists}
use Rattle.algol_laws.specs.Kept.{if_any}
use Rattle.algol_laws.specs.Reading.{Outline, outline, Bare, bare, Told, told_choice, with_cells_of, read_by_leaving, read_by_first, all_led_to, read_by_several, read_by_deed, read_by, read_in, read_cells, SameCells, EachActionReads}
use Rattle.algol_laws.proofs.Bared.{outlines_added, same_count, outline_alike, ancestor_alike, bare_set, bare_added, leave_alike, released_alike, joined_bare, cell_left, path_alike}

abbrev telling : Letter → List ℕ → Option ℕ → Bare → Told
telling action processes process after = record { action = action; released = processes; started = process; after = after }

abbrev named_in : List ℕ → ℕ → Reference
named_in name i = record { instance = i; name = name }

abbrev processes_put : ℕ → Process → Bare → Bare
processes_put p q b = record b { processes = set_numbered b.processes p q }

module _ (sc : Scopes) (w : World) (xs : List Instance) (p : ℕ) (q : Process) (part : Part) (outer : List Part) (same : map outline xs ≡ map outline w.instances) where
  abbrev v : World
  v = with_cells_of w xs

  alike : bare v ≡ bare w
  alike = ap (λ (os : List Outline). record (bare w) { instances = os }) same

  home_alike : (n : Named) → home sc v p q part outer n ≡ home sc w p q part outer n
  home_alike n = ancestor_alike w v alike ((use_of sc n).up) part.instance

  here_alike : (n : Named) → here sc v p q part outer n ≡ here sc w p q part outer n
  here_alike n = ap (named_in n.name) (home_alike n)

  -- ---- one of two

  either : (b : Bool) (c d e f : Choice) → told_choice d ≡ told_choice c → told_choice f ≡ told_choice e → told_choice (if b then d else f) ≡ told_choice (if b then c else e)
  either true c d e f g h = g
  either false c d e f g h = h

  -- ---- how a choice ends

  goes_alike : (action : Letter) (a b : World) (x y : Answer) → bare b ≡ bare a → y ≡ x → told_choice (goes sc v p q part outer action b y) ≡ told_choice (goes sc w p q part outer action a x)
  goes_alike action a b x y e f =
      ap (λ (z : Answer). told_choice (goes sc v p q part outer action b z)) f
      ∙ ap (λ (c : Bare). telling action [] None (processes_put p (record q { todo = answered sc w p q part outer x ∷ outer }) c)) e

  releasing_alike : (action : Letter) (x y : Released) (a : Answer) → bare y.world ≡ bare x.world → y.processes ≡ x.processes →
      told_choice (goes_releasing sc v p q part outer action y a) ≡ told_choice (goes_releasing sc w p q part outer action x a)
  releasing_alike action x y a e f =
      ap (λ (rs : List ℕ). telling action rs None (processes_put p (record q { todo = answered sc w p q part outer a ∷ outer }) (bare y.world))) f
      ∙ ap (λ (c : Bare). telling action x.processes None (processes_put p (record q { todo = answered sc w p q part outer a ∷ outer }) c)) e

  stops_alike : (action : Letter) (a b : World) (s : State) → bare b ≡ bare a → told_choice (stops sc v p q part outer action b s) ≡ told_choice (stops sc w p q part outer action a s)
  stops_alike action a b s e =
      ap (λ (c : Bare). telling action [] None (processes_put p (record q { todo = answered sc w p q part outer done ∷ outer; state = s }) c)) e

  opens_alike : (a b : World) (i j : Part) → bare b ≡ bare a → j ≡ i → told_choice (opens sc v p q part outer b j) ≡ told_choice (opens sc w p q part outer a i)
  opens_alike a b i j e f =
      ap (λ (k : Part). told_choice (opens sc v p q part outer b k)) f
      ∙ ap (λ (c : Bare). telling actions.Enter [] None (processes_put p (record q { todo = i ∷ answered sc w p q part outer entered ∷ outer }) c)) e

  fails_alike : (k : FaultKind) → told_choice (fails sc v p q part outer k) ≡ told_choice (fails sc w p q part outer k)
  fails_alike k = ap (λ (c : Bare). telling actions.Fault [] None (record c { fault = Some (record { kind = k; process = p }) })) alike

  -- ---- names

  followed_alike : (r : Reference) → cell_at v r ≡ cell_at w r → followed v r ≡ followed w r
  followed_alike r e = ap (λ (c : Cell). by_cell c r) e

  cell_alike : (n : Named) → cell_at v (here sc w p q part outer n) ≡ cell_at w (here sc w p q part outer n) →
      cell_at v (here sc v p q part outer n) ≡ cell_at w (here sc w p q part outer n)
  cell_alike n e = ap (λ (r : Reference). cell_at v r) (here_alike n) ∙ e

  led_alike : (n : Named) → cell_at v (here sc w p q part outer n) ≡ cell_at w (here sc w p q part outer n) →
      followed v (here sc v p q part outer n) ≡ followed w (here sc w p q part outer n)
  led_alike n e = ap (λ (r : Reference). followed v r) (here_alike n) ∙ followed_alike (here sc w p q part outer n) e

  read_alike : (r : Reference) (c : Cell) → cell_at v (by_cell c r) ≡ cell_at w (by_cell c r) → told_choice (read_of sc v p q part outer c) ≡ told_choice (read_of sc w p q part outer c)
  read_alike r (named c) e =
      let inner : Part = record { instance = c.instance; purpose = name_read; rest = evaluated_of (settle sc c.actual) } in
      opens_alike w v inner inner alike refl
  read_alike r (reference s) e = goes_alike actions.Read w v (value (value_in (cell_at w s))) (value (value_in (cell_at v s))) alike (ap (λ (c : Cell). value (value_in c)) e)
  read_alike r (simple x) e = goes_alike actions.Read w v (value (value_in (simple x))) (value (value_in (simple x))) alike refl
  read_alike r (event x) e = goes_alike actions.Read w v (value (value_in (event x))) (value (value_in (event x))) alike refl
  read_alike r (array x) e = goes_alike actions.Read w v (value (value_in (array x))) (value (value_in (array x))) alike refl

  resolves_here : (n : Named) → told_choice (goes sc v p q part outer actions.Resolve v (place (there (here sc v p q part outer n))))
      ≡ told_choice (goes sc w p q part outer actions.Resolve w (place (there (here sc w p q part outer n))))
  resolves_here n =
      goes_alike actions.Resolve w v (place (there (here sc w p q part outer n))) (place (there (here sc v p q part outer n))) alike
      (ap (λ (r : Reference). place (there r)) (here_alike n))

  resolved_alike : (n : Named) (c : Cell) → told_choice (resolved_of sc v p q part outer n c) ≡ told_choice (resolved_of sc w p q part outer n c)
  resolved_alike n (named c) =
      either (is_subscripted c.actual)
      (opens sc w p q part outer w (record { instance = c.instance; purpose = name_place; rest = located_of (settle_actual_place sc c.actual) }))
      (opens sc v p q part outer v (record { instance = c.instance; purpose = name_place; rest = located_of (settle_actual_place sc c.actual) }))
      (fails sc w p q part outer fault.NotAVariable) (fails sc v p q part outer fault.NotAVariable)
      (opens_alike w v (record { instance = c.instance; purpose = name_place; rest = located_of (settle_actual_place sc c.actual) })
      (record { instance = c.instance; purpose = name_place; rest = located_of (settle_actual_place sc c.actual) }) alike refl)
      (fails_alike fault.NotAVariable)
  resolved_alike n (reference r) = goes_alike actions.Resolve w v (place (there r)) (place (there r)) alike refl
  resolved_alike n (simple x) = resolves_here n
  resolved_alike n (event x) = resolves_here n
  resolved_alike n (array x) = resolves_here n

  indexed_alike : (r : Reference) (ks : List ℕ) (o : Option ℕ) → told_choice (indexed_at sc v p q part outer r ks o) ≡ told_choice (indexed_at sc w p q part outer r ks o)
  indexed_alike r ks None = fails_alike fault.InvalidIndex
  indexed_alike r ks (Some k) = goes_alike actions.Index w v (place (element_of r (ks ++ k ∷ []))) (place (element_of r (ks ++ k ∷ []))) alike refl

  element_alike : (a : ArrayCell) (ks : List ℕ) (o : Option ℕ) → told_choice (element_read_at sc v p q part outer a ks o) ≡ told_choice (element_read_at sc w p q part outer a ks o)
  element_alike a ks None = fails_alike fault.InvalidIndex
  element_alike a ks (Some k) = goes_alike actions.ElementRead w v (value (element_at a (ks ++ k ∷ []))) (value (element_at a (ks ++ k ∷ []))) alike refl

  -- ---- entering

  part_alike : (j : ℕ) (purpose : Purpose) → new_part sc v p q part outer j purpose ≡ new_part sc w p q part outer j purpose
  part_alike j purpose = ap (λ (n : ℕ). by n) (same_count w.instances xs same)
    where
      by : ℕ → Part
      by n = record { instance = n + 1; purpose = purpose; rest = settle_items sc (items_of (block_numbered sc.blocks j)) }

  new_alike : (j i k process : ℕ) (cells others : List Cell) → k ≡ i →
      bare (with_new_instance sc v p q part outer j k process others) ≡ bare (with_new_instance sc w p q part outer j i process cells)
  new_alike j i k process cells others e =
      ap (λ (os : List Outline). record (bare w) { instances = os })
      (outlines_added xs (made k others) ∙ ap (λ (os : List Outline). os ++ outline (made k others) ∷ []) same
      ∙ ap (λ (m : ℕ). map outline w.instances ++ record { block = j; parent = m; process = process; left = false } ∷ []) e
      ∙ sym (outlines_added w.instances (made i cells)))
    where
      made : ℕ → List Cell → Instance
      made m cs = record { block = j; parent = m; process = process; cells = fresh_cells (block_numbered sc.blocks j) cs; left = false }

  given_alike : (g : Given) → given_cell sc v p q part outer g ≡ given_cell sc w p q part outer g
  given_alike (valued x) = refl
  given_alike (passed c) = refl
  given_alike (refers n) = ap (λ (r : Reference). reference r) (here_alike n)
  given_alike (names e) = refl

  all_given_alike : (gs : List Given) → given_cells sc v p q part outer gs ≡ given_cells sc w p q part outer gs
  all_given_alike [] = refl
  all_given_alike (g ∷ gs) =
      ap (λ (c : Cell). c ∷ given_cells sc v p q part outer gs) (given_alike g)
      ∙ ap (λ (cs : List Cell). given_cell sc w p q part outer g ∷ cs) (all_given_alike gs)

  enters_alike : (j : ℕ) (n : Named) (gs : List Given) → told_choice (choices.entered_procedure sc v p q part outer j (home sc v p q part outer n) (given_cells sc v p q part outer gs))
      ≡ told_choice (choices.entered_procedure sc w p q part outer j (home sc w p q part outer n) (given_cells sc w p q part outer gs))
  enters_alike j n gs =
      opens_alike (with_new_instance sc w p q part outer j (home sc w p q part outer n) p (given_cells sc w p q part outer gs))
      (with_new_instance sc v p q part outer j (home sc v p q part outer n) p (given_cells sc v p q part outer gs))
      (new_part sc w p q part outer j procedure) (new_part sc v p q part outer j procedure)
      (new_alike j (home sc w p q part outer n) (home sc v p q part outer n) p (given_cells sc w p q part outer gs) (given_cells sc v p q part outer gs) (home_alike n))
      (part_alike j procedure)

  block_alike : (j : ℕ) → told_choice (choices.entered_block sc v p q part outer j) ≡ told_choice (choices.entered_block sc w p q part outer j)
  block_alike j =
      opens_alike (with_new_instance sc w p q part outer j part.instance p []) (with_new_instance sc v p q part outer j part.instance p [])
      (new_part sc w p q part outer j block) (new_part sc v p q part outer j block) (new_alike j part.instance part.instance p [] [] refl) (part_alike j block)

  -- ---- leaving

  left_with_alike : (a b : World) (x : Answer) (parts : List Part) → bare b ≡ bare a → told_choice (left_with sc v p q part outer b x parts) ≡ told_choice (left_with sc w p q part outer a x parts)
  left_with_alike a b x [] e = ap (λ (c : Bare). telling actions.Leave [] None c) e
  left_with_alike a b x (next ∷ parts) e =
      ap (λ (c : Bare). telling actions.Leave [] None (processes_put p (record q { todo = record next { rest = resume sc next.rest x } ∷ parts }) c)) e

  ended_alike : (x y : Released) → bare y.world ≡ bare x.world → y.processes ≡ x.processes →
      told_choice (ended_releasing sc v p q part outer y) ≡ told_choice (ended_releasing sc w p q part outer x)
  ended_alike x y e f =
      ap (λ (rs : List ℕ). telling actions.End rs None (processes_put p (record q { todo = []; state = ended }) (bare y.world))) f
      ∙ ap (λ (c : Bare). telling actions.End x.processes None (processes_put p (record q { todo = []; state = ended }) c)) e

  by_end_alike : (a b : World) (task : Option Reference) → bare b ≡ bare a → SameCells a b (if_any task) →
      told_choice (ended_releasing sc v p q part outer (caused_by_end b p task)) ≡ told_choice (ended_releasing sc w p q part outer (caused_by_end a p task))
  by_end_alike a b None e cells = ended_alike (caused_by_end a p None) (caused_by_end b p None) e refl
  by_end_alike a b (Some r) e cells =
      ended_alike (caused_by_end a p (Some r)) (caused_by_end b p (Some r))
      (ap (λ (c : Cell). bare (released b r (deed (deeds.acts act.Cause) p (event_in c))).world) cells.0
      ∙ released_alike a b r (deed (deeds.acts act.Cause) p (event_at a r)) e)
      (ap (λ (c : Cell). (event_in c).waiters) cells.0)

  task_kept : (is : List ℕ) (task : Option Reference) → SameCells w v (if_any task) →
      SameCells (leave w is) (leave v is) (if_any task)
  task_kept is None cells = cells
  task_kept is (Some r) cells = (cell_left is v r ∙ cells.0 ∙ sym (cell_left is w r), cells.1)

  left_or_ended_alike : (x : Answer) (parts : List Part) → SameCells w v (read_by_leaving sc w p q part outer parts) →
      told_choice (left_or_ended sc v p q part outer x parts) ≡ told_choice (left_or_ended sc w p q part outer x parts)
  left_or_ended_alike x [] cells =
      by_end_alike (leave w (part.instance ∷ [])) (leave v (part.instance ∷ [])) q.task (leave_alike (part.instance ∷ []) w v alike)
      (task_kept (part.instance ∷ []) q.task cells)
  left_or_ended_alike x (next ∷ parts) cells =
      left_with_alike (leave w (part.instance ∷ [])) (leave v (part.instance ∷ [])) x (next ∷ parts) (leave_alike (part.instance ∷ []) w v alike)

  left_alike : (x : Answer) → SameCells w v (read_by_leaving sc w p q part outer outer) → told_choice (left_choice sc v p q part outer x) ≡ told_choice (left_choice sc w p q part outer x)
  left_alike x cells =
      either (is_evaluation part.purpose) (left_with sc w p q part outer w x outer) (left_with sc v p q part outer v x outer)
      (if some_depends w.processes part.instance then fails sc w p q part outer fault.CriticalBlockExit else left_or_ended sc w p q part outer x outer)
      (if some_depends w.processes part.instance then fails sc v p q part outer fault.CriticalBlockExit else left_or_ended sc v p q part outer x outer)
      (left_with_alike w v x outer alike)
      (either (some_depends w.processes part.instance) (fails sc w p q part outer fault.CriticalBlockExit) (fails sc v p q part outer fault.CriticalBlockExit)
      (left_or_ended sc w p q part outer x outer) (left_or_ended sc v p q part outer x outer) (fails_alike fault.CriticalBlockExit)
      (left_or_ended_alike x outer cells))

  -- ---- GO TO

  gone_alike : (newer : List ℕ) (b : Block) (n : Named) (parts : List Part) → told_choice (gone sc v p q part outer newer b n parts) ≡ told_choice (gone sc w p q part outer newer b n parts)
  gone_alike newer b n [] = ap (λ (c : Bare). telling actions.GoTo [] None c) alike
  gone_alike newer b n (target ∷ parts) =
      ap (λ (c : Bare). telling actions.GoTo [] None (processes_put p (record q { todo = record target { rest = settle_items sc (items_from b n.name) } ∷ parts }) c))
      (leave_alike newer w v alike)

  gone_to_alike : (n : Named) (i : ℕ) (cut : Cut) → told_choice (gone_to sc v p q part outer n i cut) ≡ told_choice (gone_to sc w p q part outer n i cut)
  gone_to_alike n i cut =
      either (some_depends_on_any w.processes (own_instances cut.newer)) (fails sc w p q part outer fault.CriticalBlockExit) (fails sc v p q part outer fault.CriticalBlockExit)
      (gone sc w p q part outer (own_instances cut.newer) (block_numbered sc.blocks ((instance_at w i).block)) n cut.from)
      (gone sc v p q part outer (own_instances cut.newer) (block_numbered sc.blocks ((instance_at v i).block)) n cut.from)
      (fails_alike fault.CriticalBlockExit)
      (ap (λ (o : Outline). told_choice (gone sc v p q part outer (own_instances cut.newer) (block_numbered sc.blocks o.block) n cut.from)) (outline_alike w v alike i)
      ∙ gone_alike (own_instances cut.newer) (block_numbered sc.blocks ((instance_at w i).block)) n cut.from)

  goes_to_alike : (n : Named) (i : ℕ) → told_choice (goes_to sc v p q part outer n i) ≡ told_choice (goes_to sc w p q part outer n i)
  goes_to_alike n i =
      ap (λ (o : Outline). told_choice (if o.process == p then gone_to sc v p q part outer n i (cut_at [] (part ∷ outer) i) else fails sc v p q part outer fault.BadGoTo))
      (outline_alike w v alike i)
      ∙ either ((instance_at w i).process == p) (gone_to sc w p q part outer n i (cut_at [] (part ∷ outer) i)) (gone_to sc v p q part outer n i (cut_at [] (part ∷ outer) i))
      (fails sc w p q part outer fault.BadGoTo) (fails sc v p q part outer fault.BadGoTo) (gone_to_alike n i (cut_at [] (part ∷ outer) i)) (fails_alike fault.BadGoTo)

  -- ---- processes

  task_alike : (task : Option Named) → task_of sc v p q part outer task ≡ task_of sc w p q part outer task
  task_alike None = refl
  task_alike (Some n) = ap (λ (r : Reference). Some r) (here_alike n)

  abbrev new_process : Part → ℕ → Option Reference → Process
  new_process first critical task = record { todo = first ∷ []; critical = Some critical; task = task; state = able; woken = 0 }

  abbrev starting : Process → Bare → Told
  starting r b =
      telling actions.Start [] (Some (next_process sc w p q part outer))
      (processes_put p (record q { todo = answered sc w p q part outer done ∷ outer }) (record b { processes = b.processes ++ r ∷ [] }))

  starts_alike : (j i k : ℕ) (cells others : List Cell) (task : Option Reference) → k ≡ i → others ≡ cells →
      told_choice (starts sc v p q part outer j k others task) ≡ told_choice (starts sc w p q part outer j i cells task)
  starts_alike j i k cells others task e f =
      ap (λ (m : ℕ). told_choice (starts sc v p q part outer j m others task)) e
      ∙ ap (λ (cs : List Cell). told_choice (starts sc v p q part outer j i cs task)) f
      ∙ ap (λ (first : Part). starting (new_process first (critical v) task) (after v)) (part_alike j started)
      ∙ ap (λ (c : ℕ). starting (new_process (new_part sc w p q part outer j started) c task) (after v))
      (path_alike w xs same p (i ∷ referred_by cells ++ referred_by_task task))
      ∙ ap (λ (b : Bare). starting (new_process (new_part sc w p q part outer j started) (critical w) task) b)
      (new_alike j i i (next_process sc w p q part outer) cells cells refl)
    where
      critical : World → ℕ
      critical u = first_on_path u (newest_first 1 u.instances []) p (i ∷ referred_by cells ++ referred_by_task task)

      after : World → Bare
      after u = bare (with_new_instance sc u p q part outer j i (next_process sc w p q part outer) cells)

  -- ---- events

  did_alike : (x : EventDeed) (r : Reference) (d : Deed) (n : Next) → told_choice (did sc v p q part outer x r d n) ≡ told_choice (did sc w p q part outer x r d n)
  did_alike x r d deeds.goes =
      releasing_alike (deeds.letter_of x) (released w r d) (released v r d) (choices.told_answer sc w p q part outer d.answer) (released_alike w v r d alike) refl
  did_alike x r d deeds.waits =
      stops_alike (deeds.letter_of x) (released w r d).world (released v r d).world (waits_for r) (released_alike w v r d alike)
  did_alike x r d deeds.procures =
      stops_alike (deeds.letter_of x) (released w r d).world (released v r d).world (procures r) (released_alike w v r d alike)

  first_alike : (x : EventDeed) (ns : List Named) → SameCells w v (read_by_first sc w p q part outer ns) →
      told_choice (does_with_first sc v p q part outer x ns) ≡ told_choice (does_with_first sc w p q part outer x ns)
  first_alike x [] cells = ap (λ (b : Bare). telling actions.Fault [] None b) alike
  first_alike x (n ∷ ns) cells =
      ap (λ (s : Reference). told_choice (deed_does sc v p q part outer x s (deed x p (event_at v s)))) (led_alike n cells.0)
      ∙ ap (λ (c : Cell). told_choice (deed_does sc v p q part outer x r (deed x p (event_in c)))) cells.1.0
      ∙ did_alike x r (deed x p (event_at w r)) ((deed x p (event_at w r)).next)
    where
      r : Reference
      r = followed w (here sc w p q part outer n)

  -- ---- several events

  all_alike : (ns : List Named) → SameCells w v (all_led_to sc w p q part outer ns) → all_followed sc v p q part outer ns ≡ all_followed sc w p q part outer ns
  all_alike [] cells = refl
  all_alike (n ∷ ns) cells =
      ap (λ (r : Reference). r ∷ all_followed sc v p q part outer ns) (led_alike n cells.0)
      ∙ ap (λ (rs : List Reference). followed w (here sc w p q part outer n) ∷ rs) (all_alike ns cells.1.1)

  happened_alike : (k : ℕ) (ns : List Named) → SameCells w v (all_led_to sc w p q part outer ns) →
      first_that (λ r. answers test.WaitAny (event_at v r)) k (all_followed sc w p q part outer ns)
      ≡ first_that (λ r. answers test.WaitAny (event_at w r)) k (all_followed sc w p q part outer ns)
  happened_alike k [] cells = refl
  happened_alike k (n ∷ ns) cells =
      ap (λ (c : Cell). if answers test.WaitAny (event_in c) then Some k
      else first_that (λ r. answers test.WaitAny (event_at v r)) (k + 1) (all_followed sc w p q part outer ns)) cells.1.0
      ∙ ap (λ (o : Option ℕ). if answers test.WaitAny (event_at w (followed w (here sc w p q part outer n))) then Some k else o)
      (happened_alike (k + 1) ns cells.1.1)

  waits_for_any_alike : (rs : List Reference) (o : Option ℕ) → told_choice (waits_for_any sc v p q part outer rs o) ≡ told_choice (waits_for_any sc w p q part outer rs o)
  waits_for_any_alike rs None =
      ap (λ (b : Bare). telling actions.WaitAny [] None (processes_put p (record q { state = waits_any rs }) b))
      (joined_bare v p [] rs ∙ alike ∙ sym (joined_bare w p [] rs))
  waits_for_any_alike rs (Some k) = goes_alike actions.WaitAny w v (value (number (pos k))) (value (number (pos k))) alike refl

  several_alike : (woken : ℕ) (ns : List Named) → SameCells w v (read_by_several sc w p q part outer woken ns) →
      told_choice (wakes_or_waits sc v p q part outer woken (all_followed sc v p q part outer ns))
      ≡ told_choice (wakes_or_waits sc w p q part outer woken (all_followed sc w p q part outer ns))
  several_alike zero ns cells =
      let rs = all_followed sc w p q part outer ns in
      ap (λ (xs : List Reference). told_choice (waits_for_any sc v p q part outer xs (first_happened v xs))) (all_alike ns cells)
      ∙ ap (λ (o : Option ℕ). told_choice (waits_for_any sc v p q part outer rs o)) (happened_alike 1 ns cells)
      ∙ waits_for_any_alike rs (first_happened w rs)
  several_alike (suc k) ns cells =
      ap (λ (b : Bare). telling actions.Woke [] None (processes_put p (record q { todo = answered sc w p q part outer (value (number (pos (suc k)))) ∷ outer; woken = 0 }) b)) alike

  does_alike : (x : EventDeed) (ns : List Named) → SameCells w v (read_by_deed sc w p q part outer x ns) →
      told_choice (does_with sc v p q part outer x ns) ≡ told_choice (does_with sc w p q part outer x ns)
  does_alike x ns = by (deeds.is_of_several x)
    where
      by : (b : Bool) → SameCells w v (if b then read_by_several sc w p q part outer q.woken ns else read_by_first sc w p q part outer ns) →
          told_choice (if b then wakes_or_waits sc v p q part outer q.woken (all_followed sc v p q part outer ns) else (does_with_first sc v p q part outer x ns))
          ≡ told_choice (if b then wakes_or_waits sc w p q part outer q.woken (all_followed sc w p q part outer ns) else (does_with_first sc w p q part outer x ns))
      by true cells = several_alike q.woken ns cells
      by false cells = first_alike x ns cells

  -- ---- arrays

  arrays_alike : (kind : Kind) (ns : List Named) (bs : List Bounds) → live_elements xs ≡ live_elements w.instances →
      told_choice (made_arrays sc v p q part outer kind ns bs) ≡ told_choice (made_arrays sc w p q part outer kind ns bs)
  arrays_alike kind ns bs count =
      either (has_wrong_size bs) (fails sc w p q part outer fault.ArraySize) (fails sc v p q part outer fault.ArraySize)
      (if has_no_room w bs ns then fails sc w p q part outer fault.CoreFull
      else goes sc w p q part outer actions.MakeArrays (add_cells w part.instance (new_arrays kind bs ns)) done)
      (if has_no_room v bs ns then fails sc v p q part outer fault.CoreFull
      else goes sc v p q part outer actions.MakeArrays (add_cells v part.instance (new_arrays kind bs ns)) done)
      (fails_alike fault.ArraySize)
      (ap (λ (n : ℕ). told_choice (if nat_lt MOST_ELEMENTS (n + elements_of bs * length ns) then fails sc v p q part outer fault.CoreFull
      else goes sc v p q part outer actions.MakeArrays (add_cells v part.instance (new_arrays kind bs ns)) done)) count
      ∙ either (has_no_room w bs ns) (fails sc w p q part outer fault.CoreFull) (fails sc v p q part outer fault.CoreFull)
      (goes sc w p q part outer actions.MakeArrays (add_cells w part.instance (new_arrays kind bs ns)) done)
      (goes sc v p q part outer actions.MakeArrays (add_cells v part.instance (new_arrays kind bs ns)) done) (fails_alike fault.CoreFull)
      (goes_alike actions.MakeArrays (add_cells w part.instance (new_arrays kind bs ns)) (add_cells v part.instance (new_arrays kind bs ns)) done done (bare_added v part.instance (new_arrays kind bs ns) ∙ alike ∙ sym (bare_added w part.instance (new_arrays kind bs ns))) refl))

  -- ---- stores

  stored_alike : (x : Place) (y : Value) → told_choice (stored sc v p q part outer x y) ≡ told_choice (stored sc w p q part outer x y)
  stored_alike (own n) y =
      goes_alike actions.Store (set_cell w (here sc w p q part outer n) (simple y)) (set_cell v (here sc v p q part outer n) (simple y)) done done
      (bare_set v (here sc v p q part outer n) (simple y) ∙ alike ∙ sym (bare_set w (here sc w p q part outer n) (simple y))) refl
  stored_alike (there r) y =
      goes_alike actions.Store (set_cell w r (simple y)) (set_cell v r (simple y)) done done (bare_set v r (simple y) ∙ alike ∙ sym (bare_set w r (simple y))) refl
  stored_alike (element_of r ks) y =
      goes_alike actions.ElementStore (set_cell w r (array (with_element (array_in (cell_at w r)) ks y))) (set_cell v r (array (with_element (array_in (cell_at v r)) ks y))) done done
      (bare_set v r (array (with_element (array_in (cell_at v r)) ks y)) ∙ alike ∙ sym (bare_set w r (array (with_element (array_in (cell_at w r)) ks y)))) refl

  -- ---- all

  choice_alike : (a : Ask) → live_elements xs ≡ live_elements w.instances → SameCells w v (read_by sc w p q part outer a) →
      told_choice (choice_of sc v p q part outer a) ≡ told_choice (choice_of sc w p q part outer a)
  choice_alike asks.nothing count cells = ap (λ (c : Bare). telling actions.Fault [] None c) alike
  choice_alike (asks.reads n) count cells =
      ap (λ (c : Cell). told_choice (read_of sc v p q part outer c)) (cell_alike n cells.0)
      ∙ read_alike (here sc w p q part outer n) (cell_at w (here sc w p q part outer n)) cells.1.0
  choice_alike (asks.reads_element n ks x) count cells =
      ap (λ (c : Cell). told_choice (choices.element_read sc v p q part outer n ks (whole_of x) (array_in c)))
      (ap (λ (r : Reference). cell_at v r) (led_alike n cells.0) ∙ cells.1.0)
      ∙ element_alike (array_in (cell_at w (followed w (here sc w p q part outer n)))) ks
      (subscript_place ((use_of sc n).sort) (array_in (cell_at w (followed w (here sc w p q part outer n)))) ks (whole_of x))
  choice_alike (asks.indexes n ks x) count cells =
      let r = followed w (here sc w p q part outer n) in
      ap (λ (s : Reference). told_choice (choices.indexed sc v p q part outer n ks (whole_of x) s)) (led_alike n cells.0)
      ∙ ap (λ (c : Cell). told_choice (indexed_at sc v p q part outer r ks (subscript_place ((use_of sc n).sort) (array_in c) ks (whole_of x)))) cells.1.0
      ∙ indexed_alike r ks (subscript_place ((use_of sc n).sort) (array_in (cell_at w r)) ks (whole_of x))
  choice_alike (asks.fails f) count cells = fails_alike (fault_of f)
  choice_alike (asks.enters n gs) count cells = enters_alike (block_of_sort ((use_of sc n).sort)) n gs
  choice_alike (asks.passes n) count cells = goes_alike actions.Pass w v (cell (cell_at w (here sc w p q part outer n))) (cell (cell_at v (here sc v p q part outer n))) alike (ap (λ (c : Cell). cell c) (cell_alike n cells.0))
  choice_alike (asks.resolves n) count cells =
      ap (λ (c : Cell). told_choice (resolved_of sc v p q part outer n c)) (cell_alike n cells.0) ∙ resolved_alike n (cell_at w (here sc w p q part outer n))
  choice_alike (asks.reads_result name) count cells =
      goes_alike actions.Read w v (value (value_in (cell_at w (record { instance = part.instance; name = name }))))
      (value (value_in (cell_at v (record { instance = part.instance; name = name })))) alike (ap (λ (c : Cell). value (value_in c)) cells.0)
  choice_alike (asks.leaves a) count cells = left_alike a cells
  choice_alike (asks.stores x y) count cells = stored_alike x y
  choice_alike (asks.selects x ss) count cells =
      either (nth_exists (whole_of x) ss) (goes sc w p q part outer actions.Select w done) (goes sc v p q part outer actions.Select v done)
      (fails sc w p q part outer fault.CaseIndex) (fails sc v p q part outer fault.CaseIndex) (goes_alike actions.Select w v done done alike refl) (fails_alike fault.CaseIndex)
  choice_alike asks.turns count cells = goes_alike actions.Turn w v done done alike refl
  choice_alike (asks.goes_to n) count cells =
      ap (λ (i : ℕ). told_choice (goes_to sc v p q part outer n i)) (home_alike n) ∙ goes_to_alike n (home sc w p q part outer n)
  choice_alike (asks.enters_block b) count cells = block_alike (number_at sc.blocks (spot_of b))
  choice_alike (asks.starts n gs task) count cells =
      either (nat_lt MOST_STARTED (length w.processes)) (fails sc w p q part outer fault.ProcessLimit) (fails sc v p q part outer fault.ProcessLimit)
      (starts sc w p q part outer (block_of_sort ((use_of sc n).sort)) (home sc w p q part outer n) (given_cells sc w p q part outer gs) (task_of sc w p q part outer task))
      (starts sc v p q part outer (block_of_sort ((use_of sc n).sort)) (home sc v p q part outer n) (given_cells sc v p q part outer gs) (task_of sc v p q part outer task))
      (fails_alike fault.ProcessLimit)
      (ap (λ (t : Option Reference). told_choice (starts sc v p q part outer (block_of_sort ((use_of sc n).sort)) (home sc v p q part outer n) (given_cells sc v p q part outer gs) t))
      (task_alike task)
      ∙ starts_alike (block_of_sort ((use_of sc n).sort)) (home sc w p q part outer n) (home sc v p q part outer n) (given_cells sc w p q part outer gs)
      (given_cells sc v p q part outer gs) (task_of sc w p q part outer task) (home_alike n) (all_given_alike gs))
  choice_alike (asks.event_deed x ns) count cells = does_alike x ns cells
  choice_alike (asks.writes phrases vs) count cells =
      goes_alike actions.Line (record w { output = w.output ++ line_of phrases vs ∷ [] }) (record v { output = w.output ++ line_of phrases vs ∷ [] }) done done
      (ap (λ (b : Bare). record b { output = w.output ++ line_of phrases vs ∷ [] }) alike) refl
  choice_alike (asks.makes_arrays kind ns pairs vs) count cells = arrays_alike kind ns (bounds_of pairs vs) count
  choice_alike (asks.makes_event n) count cells =
      let made : List NamedCell = record { name = n.name; cell = event fresh_state } ∷ [] in
      goes_alike actions.MakeEvent (add_cells w part.instance made) (add_cells v part.instance made) done done
      (bare_added v part.instance made ∙ alike ∙ sym (bare_added w part.instance made)) refl

in_alike : (sc : Scopes) (w : World) (xs : List Instance) (p : ℕ) (q : Process) (parts : List Part) → map outline xs ≡ map outline w.instances →
    live_elements xs ≡ live_elements w.instances → SameCells w (with_cells_of w xs) (read_in sc w p q parts) →
    told_choice (choice_in sc (with_cells_of w xs) p q parts) ≡ told_choice (choice_in sc w p q parts)
in_alike sc w xs p q [] same count cells = ap (λ (os : List Outline). telling actions.Fault [] None (record (bare w) { instances = os })) same
in_alike sc w xs p q (part ∷ outer) same count cells = choice_alike sc w xs p q part outer same (ask part.rest) count cells

pub each_reads : EachActionReads
unfolding choice read_cells
each_reads sc w xs p same count cells = in_alike sc w xs p (process_at w p) (process_at w p).todo same count cells
