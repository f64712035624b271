-- The one action of a process, with its effect on the world; all that it does not name stays. The silent steps that follow an action
-- are done with it, so that the innermost part of each process always stands at its head.
use Rattle.std.specs.Prelude.{ℕ, zero, suc, ◌+◌, ◌==◌, nat_lt, ◌&&◌, if◌then◌else◌, ℤ, pos, int_le, int_lt, Bool, true, false, List, [], ◌∷◌, ◌++◌, map, length, Option, Some, None}
use Rattle.algol_tree.specs.declared.tree.Kind.{Kind}
use Rattle.algol_tree.specs.declared.tree.Named.{Named}
use Rattle.algol_tree.specs.Plain as tree
use Rattle.algol_tree.specs.Plain.{PExpr, PStmts, PDecl, PDecls, PBody}
use Rattle.b67_num.specs.declared.FaultKind.{FaultKind}
use Rattle.b67_num.specs.declared.FaultKind.TheVariants as fault
use Rattle.b67_num.specs.Whole.{fault_of}
use Rattle.algol_meaning.specs.declared.TheConstants.{MOST_STARTED}
use Rattle.algol_meaning.specs.Value.{Value, number, truth, whole_of, Reference, Bounds, ArrayCell, Cell, simple, event, array, named, reference}
use Rattle.b67_deeds.specs.Events.{fresh_state}
use Rattle.b67_deeds.specs.Deeds as deeds
use Rattle.b67_deeds.specs.Deeds.{EventDeed, Deed, Next, deed}
use Rattle.algol_tree.specs.Blocks.{Block, spot_of, block_numbered, number_at}
use Rattle.algol_tree.specs.Scopes.{Scopes, use_of}
use Rattle.algol_meaning.specs.Rest.{Place, own, there, element_of, Given, valued, passed, refers, names, Answer, done, value, cell, place, entered}
use Rattle.algol_meaning.specs.Settle.{block_of_sort, settle, settle_actual_place}
use Rattle.algol_meaning.specs.Statements.{settle_items, items_of, items_from}
use Rattle.algol_meaning.specs.World.{Purpose, block, procedure, name_read, name_place, started, Part, State, able, waits_for, procures, waits_any, ended, Process, World, instance_at, ancestor, cell_at, set_cell, add_cells, followed, value_in, array_in, process_at, with_process}
use Rattle.algol_meaning.specs.Critical.{some_depends, some_depends_on_any, is_evaluation, own_instances, newest_first, first_on_path, referred_by, referred_by_task}
use Rattle.algol_meaning.specs.Arrays.{subscript_place, element_at, with_element, new_arrays, has_wrong_size, has_no_room, bounds_of}
use Rattle.algol_meaning.specs.Events.{event_at, first_happened, joined_all, Released, released, caused_by_end}
use Rattle.algol_meaning.specs.Lines.{line_of}
use Rattle.algol_meaning.specs.Instances.{fresh_cells, leave, Cut, cut_at}
use Rattle.b67_deeds.specs.declared.Letter.{Letter}
use Rattle.b67_deeds.specs.declared.Letter.TheVariants.{Read, Index, ElementRead, Resolve, Store, ElementStore, Pass, Enter, Leave, MakeArrays, MakeEvent, Select, Turn, GoTo, Line, Start, End, Fault, WaitAny, Woke}
use Rattle.algol_meaning.specs.Asks as asks
use Rattle.algol_meaning.specs.Asks.{Ask, ask, resume, evaluated_of, located_of}

-- What a choice is: its action, the world after it, the processes that it released in their order, and the one that it started.
pub record Choice : Type 0 where
  pub action : Letter
  pub world : World
  pub released : List ℕ
  pub started : Option ℕ

-- only a subscripted actual has a place
abbrev pub is_subscripted : PExpr → Bool
is_subscripted (tree.variable (tree.subscripted n (tree.more e es))) = true
is_subscripted _ = false

-- CASE numbers its statements from 0
abbrev pub nth_exists : ℤ → PStmts → Bool
nth_exists i ss = int_le (pos 0) i && int_lt i (pos (count_of ss))
  where
    count_of : PStmts → ℕ
    count_of tree.no_stmts = 0
    count_of (tree.stmts s rest) = count_of rest + 1

-- ---- choices of process p, whose innermost part is `part`

module _ (sc : Scopes) (w : World) (p : ℕ) (q : Process) (part : Part) (outer : List Part) where
  abbrev pub chosen : Letter → World → Choice
  chosen action after = record { action = action; world = after; released = []; started = None }

  abbrev pub answered : Answer → Part
  answered a = record part { rest = resume sc part.rest a }

  -- the part goes on with this answer
  abbrev pub goes : Letter → World → Answer → Choice
  goes action after a = chosen action (with_process after p (record q { todo = answered a ∷ outer }))

  -- the process waits
  abbrev pub stops : Letter → World → State → Choice
  stops action after s = chosen action (with_process after p (record q { todo = answered done ∷ outer; state = s }))

  -- a part inside comes to be
  abbrev pub opens : World → Part → Choice
  opens after inner = chosen Enter (with_process after p (record q { todo = inner ∷ answered entered ∷ outer }))

  abbrev pub fails : FaultKind → Choice
  fails k = chosen Fault (record w { fault = Some (record { kind = k; process = p }) })

  -- the instance that holds what a name means here, and its cell there
  abbrev pub home : Named → ℕ
  home n = ancestor w ((use_of sc n).up) part.instance

  abbrev pub here : Named → Reference
  here n = record { instance = home n; name = n.name }

  -- ---- names

  abbrev pub read_of : Cell → Choice
  read_of (named c) = opens w (record { instance = c.instance; purpose = name_read; rest = evaluated_of (settle sc c.actual) })
  read_of (reference r) = goes Read w (value (value_in (cell_at w r)))
  read_of c = goes Read w (value (value_in c))

  abbrev pub resolved_of : Named → Cell → Choice
  resolved_of n (named c) =
      if is_subscripted c.actual
      then opens w (record { instance = c.instance; purpose = name_place; rest = located_of (settle_actual_place sc c.actual) })
      else fails fault.NotAVariable
  resolved_of n (reference r) = goes Resolve w (place (there r))
  resolved_of n c = goes Resolve w (place (there (here n)))

  abbrev pub indexed_at : Reference → List ℕ → Option ℕ → Choice
  indexed_at r ks None = fails fault.InvalidIndex
  indexed_at r ks (Some k) = goes Index w (place (element_of r (ks ++ k ∷ [])))

  abbrev pub element_read_at : ArrayCell → List ℕ → Option ℕ → Choice
  element_read_at a ks None = fails fault.InvalidIndex
  element_read_at a ks (Some k) = goes ElementRead w (value (element_at a (ks ++ k ∷ [])))

  abbrev pub indexed : Named → List ℕ → ℤ → Reference → Choice
  indexed n ks i r = indexed_at r ks (subscript_place ((use_of sc n).sort) (array_in (cell_at w r)) ks i)

  abbrev pub element_read : Named → List ℕ → ℤ → ArrayCell → Choice
  element_read n ks i a = element_read_at a ks (subscript_place ((use_of sc n).sort) a ks i)

  abbrev pub stored : Place → Value → Choice
  stored (own n) v = goes Store (set_cell w (here n) (simple v)) done
  stored (there r) v = goes Store (set_cell w r (simple v)) done
  stored (element_of r ks) v = goes ElementStore (set_cell w r (array (with_element (array_in (cell_at w r)) ks v))) done

  -- ---- entering and leaving

  abbrev pub given_cell : Given → Cell
  given_cell (valued v) = simple v
  given_cell (passed c) = c
  given_cell (refers n) = reference (here n)
  given_cell (names e) = named (record { actual = e; instance = part.instance })

  abbrev pub given_cells : List Given → List Cell
  given_cells [] = []
  given_cells (g ∷ gs) = given_cell g ∷ given_cells gs

  abbrev pub next_instance : ℕ
  next_instance = length w.instances + 1

  abbrev pub with_new_instance : ℕ → ℕ → ℕ → List Cell → World
  with_new_instance j parent process cells =
      record w {
        instances =
            w.instances
            ++ record { block = j; parent = parent; process = process; cells = fresh_cells (block_numbered sc.blocks j) cells; left = false } ∷ [];
      }

  abbrev pub new_part : ℕ → Purpose → Part
  new_part j purpose = record { instance = next_instance; purpose = purpose; rest = settle_items sc (items_of (block_numbered sc.blocks j)) }

  abbrev pub entered_procedure : ℕ → ℕ → List Cell → Choice
  entered_procedure j parent cells = opens (with_new_instance j parent p cells) (new_part j procedure)

  abbrev pub entered_block : ℕ → Choice
  entered_block j = opens (with_new_instance j part.instance p []) (new_part j block)

  -- the part ends, and the next one goes on with what it gives
  abbrev pub left_with : World → Answer → List Part → Choice
  left_with after a [] = chosen Leave after
  left_with after a (next ∷ parts) =
      chosen Leave (with_process after p (record q { todo = record next { rest = resume sc next.rest a } ∷ parts }))

  abbrev pub ended_releasing : Released → Choice
  ended_releasing x = record (chosen End (with_process x.world p (record q { todo = []; state = ended }))) { released = x.processes }

  abbrev pub left_or_ended : Answer → List Part → Choice
  left_or_ended a [] = ended_releasing (caused_by_end (leave w (part.instance ∷ [])) p q.task)
  left_or_ended a (next ∷ parts) = left_with (leave w (part.instance ∷ [])) a (next ∷ parts)

  abbrev pub left_choice : Answer → Choice
  left_choice a =
      if is_evaluation part.purpose then left_with w a outer
      else if some_depends w.processes part.instance then fails fault.CriticalBlockExit
      else left_or_ended a outer

  -- ---- GO TO

  abbrev pub gone : List ℕ → Block → Named → List Part → Choice
  gone newer b n [] = chosen GoTo w
  gone newer b n (target ∷ parts) =
      chosen GoTo (with_process (leave w newer) p (record q { todo = record target { rest = settle_items sc (items_from b n.name) } ∷ parts }))

  abbrev pub gone_to : Named → ℕ → Cut → Choice
  gone_to n i cut =
      if some_depends_on_any w.processes (own_instances cut.newer) then fails fault.CriticalBlockExit
      else gone (own_instances cut.newer) (block_numbered sc.blocks ((instance_at w i).block)) n cut.from

  abbrev pub goes_to : Named → ℕ → Choice
  goes_to n i =
      if (instance_at w i).process == p then gone_to n i (cut_at [] (part ∷ outer) i) else fails fault.BadGoTo

  -- ---- processes

  abbrev pub task_of : Option Named → Option Reference
  task_of None = None
  task_of (Some n) = Some (here n)

  abbrev pub with_started : World → ℕ → List Cell → Option Reference → ℕ → World
  with_started after j cells task parent =
      record after {
        processes =
            after.processes
            ++ record {
              todo = new_part j started ∷ [];
              critical = Some (first_on_path w (newest_first 1 w.instances []) p (parent ∷ referred_by cells ++ referred_by_task task));
              task = task;
              state = able;
              woken = 0;
            } ∷ [];
      }

  abbrev pub next_process : ℕ
  next_process = length w.processes + 1

  abbrev pub starts : ℕ → ℕ → List Cell → Option Reference → Choice
  starts j parent cells task =
      record (goes Start (with_started (with_new_instance j parent next_process cells) j cells task parent) done) { started = Some next_process }

  -- ---- events

  abbrev pub told_answer : Option Bool → Answer
  told_answer None = done
  told_answer (Some b) = value (truth b)

  abbrev pub goes_releasing : Letter → Released → Answer → Choice
  goes_releasing action x a = record (goes action x.world a) { released = x.processes }

  -- what becomes of the process when it has done this with the event there
  abbrev pub did : EventDeed → Reference → Deed → Next → Choice
  did x r d deeds.goes = goes_releasing (deeds.letter_of x) (released w r d) (told_answer d.answer)
  did x r d deeds.waits = stops (deeds.letter_of x) (released w r d).world (waits_for r)
  did x r d deeds.procures = stops (deeds.letter_of x) (released w r d).world (procures r)

  abbrev pub deed_does : EventDeed → Reference → Deed → Choice
  deed_does x r d = did x r d d.next

  -- a deed is done with the first event that is named
  abbrev pub does_with_first : EventDeed → List Named → Choice
  does_with_first x [] = chosen Fault w
  does_with_first x (n ∷ ns) = deed_does x (followed w (here n)) (deed x p (event_at w (followed w (here n))))

  -- ---- several events

  abbrev pub all_followed : List Named → List Reference
  all_followed ns = map (λ n. followed w (here n)) ns

  -- the process waits where it is: this is what it does again when it is released
  abbrev pub waits_here : List Reference → Choice
  waits_here rs = chosen WaitAny (with_process (joined_all w p [] rs) p (record q { state = waits_any rs }))

  abbrev pub waits_for_any : List Reference → Option ℕ → Choice
  waits_for_any rs None = waits_here rs
  waits_for_any rs (Some n) = goes WaitAny w (value (number (pos n)))

  -- a process that was released goes on with its woken number, whatever the events are now
  abbrev pub wakes : ℕ → Choice
  wakes n = chosen Woke (with_process w p (record q { todo = answered (value (number (pos n))) ∷ outer; woken = 0 }))

  abbrev pub wakes_or_waits : ℕ → List Reference → Choice
  wakes_or_waits zero rs = waits_for_any rs (first_happened w rs)
  wakes_or_waits (suc n) rs = wakes (suc n)

  -- with the one event that is named, or with several
  abbrev pub does_with : EventDeed → List Named → Choice
  does_with x ns = if deeds.is_of_several x then wakes_or_waits q.woken (all_followed ns) else (does_with_first x ns)

  -- ---- arrays and events

  abbrev pub made_arrays : Kind → List Named → List Bounds → Choice
  made_arrays kind ns bs =
      if has_wrong_size bs then fails fault.ArraySize else if has_no_room w bs ns then fails fault.CoreFull else (goes MakeArrays (add_cells w part.instance (new_arrays kind bs ns)) done)

  abbrev pub made_event : Named → Choice
  made_event n = goes MakeEvent (add_cells w part.instance (record { name = n.name; cell = event fresh_state } ∷ [])) done

  -- ---- by what the head asks for

  abbrev pub choice_of : Ask → Choice
  choice_of asks.nothing = chosen Fault w
  choice_of (asks.reads n) = read_of (cell_at w (here n))
  choice_of (asks.reads_element n ks v) = element_read n ks (whole_of v) (array_in (cell_at w (followed w (here n))))
  choice_of (asks.indexes n ks v) = indexed n ks (whole_of v) (followed w (here n))
  choice_of (asks.fails f) = fails (fault_of f)
  choice_of (asks.enters n gs) = entered_procedure (block_of_sort ((use_of sc n).sort)) (home n) (given_cells gs)
  choice_of (asks.passes n) = goes Pass w (cell (cell_at w (here n)))
  choice_of (asks.resolves n) = resolved_of n (cell_at w (here n))
  choice_of (asks.reads_result name) = goes Read w (value (value_in (cell_at w (record { instance = part.instance; name = name }))))
  choice_of (asks.leaves a) = left_choice a
  choice_of (asks.stores x v) = stored x v
  choice_of (asks.selects v ss) = if nth_exists (whole_of v) ss then (goes Select w done) else fails fault.CaseIndex
  choice_of asks.turns = goes Turn w done
  choice_of (asks.goes_to n) = goes_to n (home n)
  choice_of (asks.enters_block b) = entered_block (number_at sc.blocks (spot_of b))
  choice_of (asks.starts n gs task) =
      if nat_lt MOST_STARTED (length w.processes) then fails fault.ProcessLimit else (starts (block_of_sort ((use_of sc n).sort)) (home n) (given_cells gs) (task_of task))
  choice_of (asks.event_deed x ns) = does_with x ns
  choice_of (asks.writes phrases vs) = goes Line (record w { output = w.output ++ line_of phrases vs ∷ [] }) done
  choice_of (asks.makes_arrays kind ns pairs vs) = made_arrays kind ns (bounds_of pairs vs)
  choice_of (asks.makes_event n) = made_event n

abbrev pub choice_in : Scopes → World → ℕ → Process → List Part → Choice
choice_in sc w p q [] = record { action = Fault; world = w; released = []; started = None }
choice_in sc w p q (part ∷ outer) = choice_of sc w p q part outer (ask part.rest)

-- the process is able: it has a head, which has exactly one action
unfoldable pub choice : Scopes → World → ℕ → Choice
choice sc w p = choice_in sc w p (process_at w p) (process_at w p).todo
