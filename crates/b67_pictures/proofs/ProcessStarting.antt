-- A process is started, or there are as many as there may be.
use Rattle.std.proofs.Common.{◌≡◌, ◌≢◌, ◌⊎◌, inl, inr, refl, sym, ap, ◌∙◌, subst, ℕ, ◌+◌, ◌<◌, ◌≤◌, List, [], ◌∷◌, ◌++◌, length, Option, Some, Bool, false, Ok, arith, length-append}
use Rattle.b67_list.proofs.Numbered.{numbered_set}
use Rattle.b67_list.proofs.Numbers.{ltb_less, ltb_not_less}
use Rattle.b67_pictures.proofs.Prelude.{if◌then◌else◌, numbered, set_numbered, block_numbered, PProgram, Scopes, scopes_of, Sort, Named, Ask, starts, resume, Choice, choice, choice_of, home, given_cells, task_of, own_instances, newest_first, first_on_path, referred_by, referred_by_task, fresh_cells, Given, done, block_of_sort, Reference, Cell, Instance, Process, Part, able, World, starts_lie_on_paths, path_first, IsOk, referred_by_start, IsInSkeleton, newest_own, skeleton, IsOnPath, IsWholeInstance, Word, Place, Pcw, Registers, Start, Code, stack_limit, place, failed, Image, most_processes, operator_at, parameter_wants, simple_cells, Texts, StartsAt, given_slots, start_begun, Core, size, HasCore, with_core, length_set_numbered, at_operator, has_now, others_have, system_stays, numbered_before, numbered_earlier, without_call, enter_class, most_or_more, action_not_plain, fault_not_plain, action_is, begins_with, first_stack, makes, unmade, no_elements, no_rows, arrays_joined, events_joined, HasFacts, facts_of, StandOn, cells_length, Layout, CellsAre, AreLaid, all_laid, IsEntered, operator_there, LeavesAlone, AbleActor, actor_of, gives_within, faults_so, choice_is, faulted, Refers, started_world, started_layout, rows_before, text_in, level_in, context_in, most_in, events_before, TheLaws, Living, Pictures, PicturesBy, Does, gave, failed_by}
use Rattle.std.specs.Prelude.{nat_lt}
use Rattle.b67_num.specs.declared.FaultKind.TheVariants.{ProcessLimit}
use Rattle.algol_meaning.specs.declared.TheConstants.{MOST_STARTED}
use Rattle.algol_meaning.specs.Choice.{new_part}
use Rattle.algol_meaning.specs.Choice as choices
use Rattle.algol_meaning.specs.World.{started}
use Rattle.algol_standing.proofs.Entering.{own_head}
use Rattle.algol_standing.proofs.Left.{references_lie_on_paths}
use Rattle.b67_ops.specs.declared.Operator.TheVariants as ops
use Rattle.b67_ops.specs.declared.PlainKind.TheVariants as kinds
use Rattle.b67_table.specs.declared.Cell.{Cell as MachineCell}
use Rattle.b67_table.specs.Effect as effects
use Rattle.b67_table.specs.Outcome as outcomes
use Rattle.b67_table.specs.Table.{raw, table}
use Rattle.b67_rows.proofs.Begun.{with_process, others_stay, set_numbered_front, numbered_few}
use Rattle.b67_rows.proofs.StartRow.{StartsProcess, start_limit, start_raw}
use Rattle.b67_scenes.proofs.StartCalling as calling
use Rattle.b67_scenes.proofs.StartingProcess.{HasGoneOn, starts_by}
use Rattle.b67_pictures.proofs.Alone.{IsAfter, after_choice}
use Rattle.b67_pictures.proofs.GoingOn.{goes_along}
use Rattle.b67_pictures.proofs.StartingFree.{all_stand_on, left_alone, StartsIn}
use Rattle.b67_pictures.proofs.Head.{Head}

-- a process with a part has a newest instance
pub newest_there : (sc : Scopes) (w : World) (ok : IsOk sc IsWholeInstance w) (p : ℕ) (q : Process) (part : Part) (outer : List Part) → numbered w.processes p ≡ Some q → q.todo ≡ part ∷ outer →
    (older : List ℕ) × (own_instances q.todo ≡ newest_own (part ∷ outer) ∷ older)
newest_there sc w ok p q part outer is todo = by (own_head (part ∷ outer))
  where
    inside : IsInSkeleton (own_instances q.todo) (newest_own (part ∷ outer))
    inside = ((references_lie_on_paths sc w ok).parts p q [] outer part part.instance is todo (inl refl)).0

    by : (own_instances (part ∷ outer) ≡ []) ⊎ ((r : List ℕ) × (own_instances (part ∷ outer) ≡ newest_own (part ∷ outer) ∷ r)) → (older : List ℕ) × (own_instances q.todo ≡ newest_own (part ∷ outer) ∷ older)
    by (inl none) = absurd (subst (λ (xs : List ℕ). IsInSkeleton xs (newest_own (part ∷ outer))) (ap own_instances todo ∙ none) inside)
    by (inr some) = (some.0, ap own_instances todo ∙ some.1)

module _ (tree : PProgram) (code : Code) (texts : Texts) (laws : TheLaws) (actor : AbleActor tree code texts) where
  open actor use {w, lay, img, p, q, part, outer, core, s, able_is, able_p}

  module _ (n : Named) (gs : List Given) (task : Option Named) (head : Head tree code texts actor (starts n gs task)) where
    open head use {asks, action as a, answered}

    abbrev sc : Scopes
    sc = scopes_of tree

    abbrev callee : ℕ
    callee = a.0

    abbrev next : ℕ
    next = a.1

    abbrev at : StartsAt sc (context_in tree code texts w part s.stands.frame.gives) (text_in tree texts w part) (level_in tree w part) (most_in tree w part) n gs task callee s.stands.pc next s.stands.slots a.2
    at = a.3

    there : operator_at code core.registers ≡ Ok (ops.Plain kinds.Entr, next)
    there = operator_there sc s.stands.held code (text_in tree texts w part) (level_in tree w part) s.stands.pc s.stands.slots core (ops.Plain kinds.Entr) next s.stands.there at.stands

    abbrev arguments : List Word
    arguments = calling.arguments tree code texts (actor_of s) n gs task callee next a.2 at

    abbrev pub parameters : List Word
    parameters = calling.parameters tree code texts (actor_of s) n gs task callee next a.2 at

    abbrev pcw : Pcw
    pcw = calling.started_code tree code texts (actor_of s) n gs task callee next a.2 at

    pub e : IsEntered tree code texts (actor_of s) Start (given_slots (parameter_wants (scopes_of tree) a.0) gs (start_begun a.3.couple a.3.tasked a.2)) a.2 a.3.lies (calling.arguments tree code texts (actor_of s) n gs task a.0 a.1 a.2 a.3)
    e = calling.start_entered tree code texts (actor_of s) n gs task callee next a.2 at

    -- the procedure's frame, those down the links from there, the task's cell, and the critical frame
    abbrev pub RefersTo : Place → List Place → Option MachineCell → Place → Type 0
    RefersTo = Refers tree code texts (actor_of s) n gs task callee next a.2 at

    -- ---- in the world

    abbrev parent : ℕ
    parent = home sc w p q part outer n

    abbrev given : List Cell
    given = given_cells sc w p q part outer gs

    abbrev tasked : Option Reference
    tasked = task_of sc w p q part outer task

    -- the instance with which the process begins, and the process
    abbrev pub made : Instance
    made =
        record {
          block = a.0;
          parent = home (scopes_of tree) w p q part outer n;
          process = length w.processes + 1;
          cells = fresh_cells (block_numbered (scopes_of tree).blocks a.0) (given_cells (scopes_of tree) w p q part outer gs);
          left = false;
        }

    abbrev pub begun_process : Process
    begun_process =
        record {
          todo = new_part (scopes_of tree) w p q part outer a.0 started ∷ [];
          critical = Some (first_on_path w (newest_first 1 w.instances []) p
              (home (scopes_of tree) w p q part outer n ∷ referred_by (given_cells (scopes_of tree) w p q part outer gs) ++ referred_by_task (task_of (scopes_of tree) w p q part outer task)));
          task = task_of (scopes_of tree) w p q part outer task;
          state = able;
          woken = 0;
        }

    abbrev q' : Process
    q' = record q { todo = record part { rest = resume sc part.rest done } ∷ outer }

    -- the world after it
    abbrev pub world_after : World
    world_after = started_world w p (record q { todo = record part { rest = resume (scopes_of tree) part.rest done } ∷ outer }) made begun_process

    same_world : (choices.starts sc w p q part outer callee parent given tasked).world ≡ world_after
    same_world = ap (λ (qs : List Process). record w { instances = w.instances ++ made ∷ []; processes = qs }) (set_numbered_front w.processes (begun_process ∷ []) p q' q s.at)

    chosen_by : choice sc w p ≡ (if nat_lt MOST_STARTED (length w.processes) then choices.fails sc w p q part outer ProcessLimit else choices.starts sc w p q part outer callee parent given tasked)
    chosen_by =
        choice_is sc w p q part outer s.at s.todo
        ∙ ap (λ (k : Ask). choice_of sc w p q part outer k) asks
        ∙ ap (λ (x : Sort). if nat_lt MOST_STARTED (length w.processes) then choices.fails sc w p q part outer ProcessLimit else choices.starts sc w p q part outer (block_of_sort x) parent given tasked) at.procedure.sort_is

    -- ---- there are as many processes as there may be

    -- To what the process refers that is started.
    pub record RefersSo : Type 0 where
      pub home_at : Place
      pub more : List Place
      pub cell : Option MachineCell
      pub critical : Place
      pub refers : RefersTo home_at more cell critical

    module _ (referring : RefersSo) where
      open referring use {home_at, more, cell, critical, refers}

      abbrev starts_there : StartsProcess img core arguments pcw home_at cell parameters more critical
      starts_there = calling.starts_there tree code texts (actor_of s) n gs task callee next a.2 at home_at more cell critical refers

      limit_done : most_processes ≤ length w.processes → Does tree code texts w img p
      limit_done full =
          failed_by ProcessLimit (fault_not_plain code (ops.Plain kinds.Entr) (at_operator s.has there) ProcessLimit table_is) table_is
          (action_is code (ops.Plain kinds.Entr) (at_operator s.has there) (outcomes.faults ProcessLimit) table_is ∙ ap (λ (c : Choice). Some c.action) (sym chosen))
          (subst (λ (c : Choice). Pictures tree code texts c.world (failed img p ProcessLimit)) (sym chosen) (lay, faulted tree code texts w lay img s.by p q s.at s.ok ProcessLimit))
        where
          table_is : table code img p ≡ outcomes.faults ProcessLimit
          table_is =
              faults_so code img p ProcessLimit
              (start_limit code (at_operator s.has there) arguments e.reference e.marked e.others e.calls pcw home_at cell parameters more critical starts_there (omega (arith, full, s.by.started)))

          chosen : choice sc w p ≡ choices.fails sc w p q part outer ProcessLimit
          chosen =
              chosen_by
              ∙ ap (λ (b : Bool). if b then choices.fails sc w p q part outer ProcessLimit else choices.starts sc w p q part outer callee parent given tasked) (ltb_less MOST_STARTED (length w.processes) (omega (arith, full)))

      -- ---- a process is begun

      abbrev pub new : Core
      new = without_call core e.others e.calls.m.df next

      abbrev pub image_onward : Image
      image_onward = record (with_core img p new) { output = w.output }

      abbrev pub registers : Registers
      registers = begins_with (img.started + 1) pcw home_at cell parameters more critical

      abbrev pub words : List Word
      words = first_stack pcw home_at parameters

      abbrev pub after : Image
      after = with_process image_onward registers words

      -- What is known of it: its instance's cells have words, which are those of values and references; and it lives, where its frame lies at the bottom
      -- of the new stack.
      pub record IsBegun : Type 0 where
        pub cell_words : List Word
        pub cells : CellsAre (simple_cells (scopes_of tree) (block_numbered (scopes_of tree).blocks a.0)) made.cells cell_words
        pub lives_so : IsAfter (scopes_of tree) w world_after p → Living tree code texts world_after (started_layout w lay) (with_process image_onward registers words) (length w.processes + 1) begun_process

      new_small : size new ≤ stack_limit
      new_small = omega (arith, s.small, ap length e.calls.called.words, length-append arguments (e.reference ∷ e.marked ∷ e.others))

      raw_is : length w.processes < most_processes → raw code img p ≡ effects.gives after
      raw_is room =
          start_raw code (at_operator s.has there) arguments e.reference e.marked e.others e.calls pcw home_at cell parameters more critical starts_there (omega (arith, room, s.by.started))
          (omega (arith, s.has.own, s.by.started, (numbered_few w.processes p q s.at).1))
          ∙ ap (λ (o : List (List ℕ)). effects.gives (with_process (record (with_core img p new) { output = o }) registers words)) s.by.output

      -- ---- the picture after it

      facts : HasFacts w
      facts = facts_of sc w s.ok

      laid : AreLaid w lay
      laid = all_laid w lay facts s.by.laid

      abbrev lay' : Layout
      lay' = started_layout w lay

      gone : HasGoneOn w img image_onward p
      gone =
          record {
            output = refl;
            fault = refl;
            started = refl;
            states = refl;
            events = refl;
            lists = refl;
            numbers = refl;
            system = system_stays img p core new s.has refl q w s.at;
            many = omega (arith, length_set_numbered img.regs p new.registers, s.by.counted, s.by.started, s.by.states);
            others = λ k other apart has.
                let h = others_have img p core new s.has refl k other apart has in record { live = h.live; registers = h.registers; own = h.own; stack = h.stack; is = h.is };
          }

      module _ (room : length w.processes < most_processes) (b : IsBegun) (after_it : IsAfter (scopes_of tree) w world_after p) where
        newest : (older : List ℕ) × (own_instances q.todo ≡ newest_own (part ∷ outer) ∷ older)
        newest = newest_there sc w s.ok p q part outer s.at s.todo

        path : IsOnPath w (newest_own (part ∷ outer)) (first_on_path w (newest_first 1 w.instances []) p (referred_by_start sc w p q part outer n gs task))
        path =
            path_first (skeleton w) s.ok.sound.skeleton_ok (referred_by_start sc w p q part outer n gs task) (newest_own (part ∷ outer)) (first_on_path w (newest_first 1 w.instances []) p (referred_by_start sc w p q part outer n gs task))
            (starts_lie_on_paths sc w p q part outer n gs task s.ok s.at s.todo able_is asks).first

        abbrev starts_in : StartsIn w
        starts_in = record {
          p = p;
          q = q;
          onward = q';
          at = s.at;
          critical_is = refl;
          alive = λ e. e;
          top = newest_own (part ∷ outer);
          older = newest.0;
          own = newest.1;
          made = made;
          new = begun_process;
          critical_in = first_on_path w (newest_first 1 w.instances []) p (referred_by_start sc w p q part outer n gs task);
          critical = refl;
          path = path;
        }

        on : StandOn sc w world_after lay lay'
        on =
            all_stand_on sc w lay s.ok starts_in after_it

        apart : (k : ℕ) → k ≢ p → LeavesAlone sc w world_after lay lay' k
        apart =
            left_alone sc w lay s.ok starts_in after_it laid

        at_later : numbered world_after.processes p ≡ Some q'
        at_later = numbered_before (set_numbered w.processes p q') (begun_process ∷ []) p q' (numbered_set w.processes p q q' s.at)

        laid_later : length lay'.places ≡ length world_after.instances
        laid_later = omega (arith, length-append lay.places (place (length w.processes + 1) 0 ∷ []), length-append w.instances (made ∷ []), s.by.laid)

        has_new : HasCore after p new
        has_new =
            let h = has_now img p core new s.has refl (e.after_at next).is in
            others_stay image_onward registers words (omega (arith, s.by.started, s.by.states)) gone.many p new (record { live = h.live; registers = h.registers; own = h.own; stack = h.stack; is = h.is })

        starter : Living tree code texts world_after lay' after p q'
        starter =
            goes_along tree code texts laws (actor_of s) (record {
              unmade = unmade part.rest (ap makes asks);
              answer = done;
              nameless = tt;
              new = new;
              below = refl;
              frame_is = record { is = refl };
              known = s.stands.held;
              known_are = s.stands.held_are;
              pc = next;
              slots = a.2;
              there = e.after_at next;
              few = e.few;
              comes = answered done next a.2 (refl, refl);
            }) (record {
              world = world_after;
              layout = lay';
              state = q.state;
              on = on;
              own = λ i x e own. numbered_before w.instances (made ∷ []) i x e;
              rows = λ i x e own. rows_before w lay i x e;
              events = events_before w world_after (λ i x e. numbered_before w.instances (made ∷ []) i x e);
              laid_later = laid_later;
              at_later = at_later;
            }) after has_new new_small after_it.climb

        pictured : PicturesBy tree code texts world_after lay' after
        pictured =
            starts_by tree code texts w lay img s.by p (record {
              q = q;
              onward_process = q';
              at = s.at;
              made = made;
              new = begun_process;
              onward = image_onward;
              registers = registers;
              words = words;
              number = omega (arith, s.by.started);
              room = room;
            }) gone refl refl refl refl able_is able_p apart
            (arrays_joined sc w world_after lay lay' made refl (no_elements (simple_cells sc (block_numbered sc.blocks callee)) made.cells b.cell_words b.cells)
            (no_rows (simple_cells sc (block_numbered sc.blocks callee)) made.cells b.cell_words b.cells) (λ k. refl) img.rows s.by.arrays)
            (events_joined sc w world_after lay lay' made refl (cells_length (simple_cells sc (block_numbered sc.blocks callee)) made.cells b.cell_words b.cells)
            (λ k f other laid. numbered_earlier lay.places (place (length w.processes + 1) 0) k f (λ (i : k ≡ length lay.places + 1). other (omega (arith, i, s.by.laid))) laid) img.events s.by.events)
            starter (b.lives_so after_it)

      begun_done : length w.processes < most_processes → IsBegun → Does tree code texts w img p
      begun_done room b =
          gave after
          (action_not_plain code (ops.Plain kinds.Entr) (at_operator s.has there) (enter_class code (at_operator s.has there) Start arguments e.reference e.marked e.others e.calls)) table_is
          (action_is code (ops.Plain kinds.Entr) (at_operator s.has there) (outcomes.gives after) table_is ∙ e.action ∙ ap (λ (c : Choice). Some c.action) (sym chosen))
          (λ may. subst (λ (v : World). Pictures tree code texts v after) (sym same) (lay', pictured room b (after_choice sc w world_after p q facts may s.at same)))
        where
          table_is : table code img p ≡ outcomes.gives after
          table_is =
              gives_within code img after p new.registers (raw_is room)
              (numbered_before image_onward.regs (registers ∷ []) p new.registers (numbered_set img.regs p core.registers new.registers s.has.registers))
              (omega (arith, new_small, (e.after_at next).is.top))

          chosen : choice sc w p ≡ choices.starts sc w p q part outer callee parent given tasked
          chosen =
              chosen_by
              ∙ ap (λ (t : Bool). if t then choices.fails sc w p q part outer ProcessLimit else choices.starts sc w p q part outer callee parent given tasked) (ltb_not_less MOST_STARTED (length w.processes) (omega (arith, room)))

          same : (choice sc w p).world ≡ world_after
          same = ap (λ (c : Choice). c.world) chosen ∙ same_world

      -- one or the other
      pub starting_process : (length w.processes < most_processes → IsBegun) → Does tree code texts w img p
      starting_process begun = by (most_or_more most_processes (length w.processes))
        where
          by : (most_processes ≤ length w.processes) ⊎ (length w.processes < most_processes) → Does tree code texts w img p
          by (inl full) = limit_done full
          by (inr room) = begun_done room (begun room)
